-- Stores one after the other, as loops and calls in a row make them.
use Prim.Native.Nat.{ℕ, suc, ◌+◌, ◌*◌, ◌<◌}
use mathlib.Core.Path.{◌≡◌, refl, sym, ◌∙◌, ap}
use mathlib.Core.List.{List, [], ◌∷◌, ◌++◌}
use native.Mathlib.Numerals.{add-one}
use native.Mathlib.Nat.{add-zero}
use native.Mathlib.Omega.{arith}
use lib.ListN.{length, get_or, take, set}
use lib.Seq.{sets, length-sets, take-suc, length-take-le}
use Rattle.writer.specs.Words.{word_bytes, bytes_of}
use Rattle.writer.proofs.WordLaws.{length-bytes, bytes-append}

pub sets-append : (l : List ℕ) (i : ℕ) (xs ys : List ℕ) → sets l i (xs ++ ys) ≡ sets (sets l i xs) (i + length xs) ys
sets-append l i [] ys = ap (λ (k : ℕ). sets l k ys) (sym (add-zero i))
sets-append l i (x ∷ xs) ys =
    let e : suc i + length xs ≡ i + suc (length xs) = omega arith in
    sets-append (set l i x) (suc i) xs ys ∙ ap (λ (k : ℕ). sets (sets (set l i x) (suc i) xs) k ys) e

-- l with these put into it from a place on
pub record Putting (l : List ℕ) (at : ℕ) (done out : List ℕ) : Type 0 where
  pub same : length out ≡ length l
  pub holds : out ≡ sets l at done

pub none-put : (l : List ℕ) (at : ℕ) → Putting l at [] l
none-put l at = record { same = refl; holds = refl }

-- and some more, from the place right behind them
pub more-put : {l : List ℕ} {at : ℕ} {done out : List ℕ} → Putting l at done out → (place : ℕ) (more next out' : List ℕ) → at + length done ≡ place → next ≡ done ++ more
    → out' ≡ sets out place more → Putting l at next out'
more-put {l} {at} {done} {out} p place more next out' behind e h =
    record {
      same = ap length h ∙ length-sets out place more ∙ p.same;
      holds =
          h
          ∙ ap (λ (x : List ℕ). sets x place more) p.holds
          ∙ ap (λ (k : ℕ). sets (sets l at done) k more) (sym behind)
          ∙ sym (sets-append l at done more)
          ∙ ap (sets l at) (sym e);
    }

-- ---- the next byte, the next word of a list
one_more : (s : List ℕ) (i : ℕ) → i < length s → take (i + 1) s ≡ take i s ++ (get_or s i 0 ∷ [])
one_more s i h = rw (add-one i, take-suc s i 0 h)

so_far : (s : List ℕ) (i : ℕ) → i < length s → length (take i s) ≡ i
so_far s i h = length-take-le i s (omega arith)

module _ {l : List ℕ} {at : ℕ} {out : List ℕ} (s : List ℕ) (i : ℕ) (inside : i < length s) where
  pub byte_put : Putting l at (take i s) out → Putting l at (take (i + 1) s) (set out (at + i) (get_or s i 0))
  byte_put p = more-put p (at + i) (get_or s i 0 ∷ []) (take (i + 1) s) (set out (at + i) (get_or s i 0)) (omega (arith, so_far s i inside)) (one_more s i inside) refl

  pub word-put : {out' : List ℕ} → Putting l at (bytes_of (take i s)) out → out' ≡ sets out (at + 4 * i) (word_bytes (get_or s i 0)) → Putting l at (bytes_of (take (i + 1) s)) out'
  unfolding bytes_of
  word-put {out'} p h =
      more-put p (at + 4 * i) (word_bytes (get_or s i 0)) (bytes_of (take (i + 1) s)) out' (omega (arith, length-bytes (take i s), so_far s i inside))
      (ap bytes_of (one_more s i inside) ∙ bytes-append (take i s) (get_or s i 0 ∷ []))
      h
