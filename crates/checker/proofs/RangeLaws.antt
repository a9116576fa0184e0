-- Laws of ranges of bytes: which are addressable; and that an access whose bytes are all addressable loads and stores them all.
use Prim.Native.Nat.{ℕ, zero, suc, ◌+◌, ◌*◌, ◌%◌, ◌^◌, ◌≤◌, ◌<◌}
use mathlib.Core.Path.{◌≡◌, refl, sym, ap, ap₂, ◌∙◌}
use mathlib.Core.Bool.{Bool, true, false, cond}
use mathlib.Core.List.{List}
use native.Mathlib.Omega.{arith}
use native.Mathlib.Numerals.{add-one}
use lib.ListN.{length, get_or, set, get_or-eq_default}
use lib.Bits.{bit_or}
use lib.Dec.{eqb}
use borrow.Author.Tests.{eqb-true, eqb-false, eq-eqb}
use Rattle.rules.specs.Bytes.{byte_of, placed, joined}
use Rattle.rules.proofs.ByteLaws.{byte-joined, placed-word}
use Rattle.image.specs.Words.{Bytes}
use Rattle.image.proofs.Tests.{both, every-below, all-every}
use Rattle.machine.specs.Machine.{addressable_mark}
use Rattle.machine.specs.Ranges.{is_addressable, all_addressable, loaded, loaded_where, written, stored, stored_where}

-- ---- one byte
-- at M or beyond it is unaddressable
pub beyond : (A : List ℕ) (at : ℕ) → length A ≤ at → is_addressable A at ≡ false
beyond A at h = rw (get_or-eq_default A 0 h) refl

-- ---- what is loaded
joined_same : (n : ℕ) (f g : ℕ → ℕ) → ((k : ℕ) → k < n → f k ≡ g k) → joined n f ≡ joined n g
unfolding joined
joined_same zero f g h = refl
joined_same (suc n) f g h = ap₂ bit_or (joined_same n f g (λ k l. h k (omega arith))) (ap (placed n) (h n (omega arith)))

pub loaded-whole : (A l : List ℕ) (at n : ℕ) → all_addressable A at n ≡ true → loaded l at n ≡ loaded_where A l at n
loaded-whole A l at n h =
    joined_same n (λ k. get_or l (at + k) 0) (λ k. cond (is_addressable A (at + k)) (get_or l (at + k) 0) 0)
    (λ k q. rw (every-below (λ j. is_addressable A (at + j)) n h k q) refl)

-- the bytes of an access are all addressable exactly if their A bytes make the word that as many marks make
pub marked-whole : (A : List ℕ) (at n : ℕ) → Bytes A → eqb (loaded A at n) (joined n (λ k. addressable_mark)) ≡ all_addressable A at n
marked-whole A at n h = go (eqb (loaded A at n) (joined n (λ k. addressable_mark))) refl
  where
    each : loaded A at n ≡ joined n (λ k. addressable_mark) → (k : ℕ) → k < n → get_or A (at + k) 0 ≡ addressable_mark
    each e k l =
        sym (byte-joined n k (λ j. get_or A (at + j) 0) (λ j m. h (at + j)) l)
        ∙ ap (byte_of k) e
        ∙ byte-joined n k (λ j. addressable_mark) (λ j m. omega arith) l

    all : all_addressable A at n ≡ true → loaded A at n ≡ joined n (λ k. addressable_mark)
    all q = joined_same n (λ k. get_or A (at + k) 0) (λ k. addressable_mark) (λ k l. eqb-true _ _ (every-below (λ j. is_addressable A (at + j)) n q k l))

    back : (t : Bool) → all_addressable A at n ≡ t → (loaded A at n ≡ joined n (λ k. addressable_mark) → ⊥) → false ≡ t
    back true q never = absurd (never (all q))
    back false q never = refl

    go : (t : Bool) → eqb (loaded A at n) (joined n (λ k. addressable_mark)) ≡ t → t ≡ all_addressable A at n
    go true e = sym (all-every (λ k. is_addressable A (at + k)) n (λ k l. eq-eqb _ _ (each (eqb-true _ _ e) k l)))
    go false e = back (all_addressable A at n) refl (eqb-false _ _ e)

-- byte by byte
pub none-loaded : (A l : List ℕ) (at : ℕ) → 0 ≡ loaded_where A l at 0
unfolding joined
none-loaded A l at = refl

pub more-loaded : (A l : List ℕ) (at k x b : ℕ) → x ≡ loaded_where A l at k → b ≡ cond (is_addressable A (at + k)) (get_or l (at + k) 0) 0
    → k < 4 → b < 2 ^ 8 → bit_or x (b * 2 ^ (8 * k) % 2 ^ 32) ≡ loaded_where A l at (k + 1)
unfolding joined
more-loaded A l at k x b e q h f = rw (add-one k) (ap₂ bit_or e (placed-word k b h f ∙ ap (placed k) q))

-- ---- what is stored
pub stored-whole : (A : List ℕ) (x : ℕ) (l : List ℕ) (at n : ℕ) → all_addressable A at n ≡ true → stored x l at n ≡ stored_where A x l at n
unfolding written stored_where
stored-whole A x l at zero h = refl
stored-whole A x l at (suc n) h =
    let q = both (all_addressable A at n) (is_addressable A (at + n)) h in
    rw q.1 (ap (λ (s : List ℕ). set s (at + n) (byte_of n x)) (stored-whole A x l at n q.0))

-- byte by byte
pub none-stored : (A : List ℕ) (x : ℕ) (l : List ℕ) (at : ℕ) → l ≡ stored_where A x l at 0
unfolding stored_where
none-stored A x l at = refl

pub more-stored : (A : List ℕ) (x : ℕ) (l s : List ℕ) (at k : ℕ) → s ≡ stored_where A x l at k
    → cond (is_addressable A (at + k)) (set s (at + k) (byte_of k x)) s ≡ stored_where A x l at (k + 1)
unfolding stored_where
more-stored A x l s at k e = rw (add-one k) (ap (λ (r : List ℕ). cond (is_addressable A (at + k)) (set r (at + k) (byte_of k x)) r) e)
