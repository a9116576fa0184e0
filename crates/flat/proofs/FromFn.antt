-- What an array's function gives at each index, and an array that is another one, element by element.
use Rattle.std.proofs.Common.{◌≡◌, ℕ, zero, suc, ◌+◌, ◌<◌, List, [], ◌∷◌, length, get_or, map, refl, sym, ap₂, subst, arith}
use denote.Param.Members.{Mut, Called}
use Rattle.std.specs.Array.{IsFromFnResultFrom, IsFromFnResult}

-- each call keeps what is known of the function, P, and gives an element as R says
module _ {F B : Type 0} (g : Mut F (ℕ × Unit {0}) B) (P : F → Type 0) (R : ℕ → B → Type 0)
    (call : (p : F) (i : ℕ) (y : B) (q : F) → P p → Called g p (i, tt) y q → R i y × P q) where
  made-from : (n i : ℕ) (f : F) (ys : List B) → P f → IsFromFnResultFrom g f ys i n → (k j : ℕ) (d : B) → i + k ≡ j → k < n → R j (get_or ys j d)
  made-from zero i f ys p r k j d e l = absurd (omega arith)
  made-from (suc n) i f ys p (q, y, is, called, rest) zero j d e l =
      subst (λ (m : ℕ). R m (get_or ys m d)) (omega (arith, e)) (subst (R i) (sym (is.1 d)) (call f i y q p called).0)
  made-from (suc n) i f ys p (q, y, is, called, rest) (suc k) j d e l = made-from n (i + 1) q ys (call f i y q p called).1 rest k j d (omega (arith, e)) (omega arith)

  pub made : {n : ℕ} {f : F} {ys : List B} → P f → IsFromFnResult g f ys n → (k : ℕ) (d : B) → k < n → R k (get_or ys k d)
  made {n} {f} {ys} p r k d l = made-from n 0 f ys p r.each k k d (omega arith) l

pub mapped : {A B : Type 0} (f : A → B) (l : List A) (m : List B) → length l ≡ length m → ((i : ℕ) (d : A) (e : B) → i < length l → f (get_or l i d) ≡ get_or m i e) → map f l ≡ m
mapped f [] [] e h = refl
mapped f [] (y ∷ m) e h = absurd (omega (arith, e))
mapped f (x ∷ l) [] e h = absurd (omega (arith, e))
mapped f (x ∷ l) (y ∷ m) e h = ap₂ ◌∷◌ (h 0 x y (omega arith)) (mapped f l m (omega (arith, e)) (λ i d e' p. h (suc i) d e' (omega (arith, p))))
