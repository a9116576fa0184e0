-- Laws of the two lists: number k stands at place k if there is one, the other places keep their words; and the outputs that were
-- entered are those that stand in the list.
use Prim.Native.Nat.{ℕ, zero, suc, ◌+◌, ◌*◌, ◌/◌, ◌≤◌, ◌<◌}
use mathlib.Core.Path.{◌≡◌, refl, sym, ap, ◌∙◌}
use mathlib.Core.Logic.{◌⊎◌, inl}
use mathlib.Core.Bool.{Bool, true, false, cond}
use mathlib.Core.List.{List, [], ◌∷◌, ◌++◌, append_assoc, append-nil}
use native.Mathlib.Omega.{arith}
use native.Mathlib.Nat.{le_trans, mul-suc, mul-le-mul_left, mul-div-le}
use lib.ListN.{length, get_or, length-append}
use lib.Dec.{ltb}
use borrow.Author.Tests.{lt-ltb, le-ltb}
use Rattle.machine.specs.Ranges.{written}
use Rattle.machine.specs.Instructions.{Output}
use Rattle.machine.specs.Steps.{Report}
use Rattle.machine.specs.Lists.{report_size, report_words, reports_entered, output_size, output_places, output_words, entered, outputs_entered, outputs_in}
use Rattle.machine.proofs.Places.{length-written, written-there, written-elsewhere}

-- ---- one entry of so many words
-- a place below the number of places lies in the list
place-fits : (size k n : ℕ) → k < n / size → size * k + size ≤ n
place-fits size k n h =
    let below : size * suc k ≤ size * (n / size) = mul-le-mul_left size h in
    le_trans (rw (mul-suc size k) at below) (mul-div-le n size)

pub length-entered : (size k : ℕ) (words l : List ℕ) → length (entered size k words l) ≡ length l
unfolding entered
length-entered size k words l = go (ltb k (length l / size))
  where
    go : (t : Bool) → length (cond t (written (λ j. get_or words j 0) l (size * k) size) l) ≡ length l
    go true = length-written _ l (size * k) size
    go false = refl

pub entered-past : (size k : ℕ) (words l : List ℕ) → length l / size ≤ k → entered size k words l ≡ l
unfolding entered
entered-past size k words l h = rw (le-ltb k (length l / size) h)

-- the words of number k, where there is a place k
pub entered-there : (size k j : ℕ) (words l : List ℕ) → k < length l / size → j < size → get_or (entered size k words l) (size * k + j) 0 ≡ get_or words j 0
unfolding entered
entered-there size k j words l h q = rw (lt-ltb k (length l / size) h) (written-there _ l (size * k) size j q (place-fits size k (length l) h))

pub entered-elsewhere : (size k i : ℕ) (words l : List ℕ) → (i < size * k) ⊎ (size * k + size ≤ i) → get_or (entered size k words l) i 0 ≡ get_or l i 0
unfolding entered
entered-elsewhere size k i words l h = go (ltb k (length l / size))
  where
    go : (t : Bool) → get_or (cond t (written (λ j. get_or words j 0) l (size * k) size) l) i 0 ≡ get_or l i 0
    go true = written-elsewhere _ l (size * k) size i h
    go false = refl

-- ---- the reports
pub length-reports-entered : (steps index k : ℕ) (rs : List Report) (l : List ℕ) → length (reports_entered steps index k rs l) ≡ length l
unfolding reports_entered
length-reports-entered steps index k [] l = refl
length-reports-entered steps index k (r ∷ rs) l =
    length-reports-entered steps index (suc k) rs (entered report_size k (report_words steps index r) l) ∙ length-entered report_size k (report_words steps index r) l

-- those of one check, and then those of the next
pub reports-append : (steps index k : ℕ) (rs more : List Report) (l : List ℕ)
    → reports_entered steps index k (rs ++ more) l ≡ reports_entered steps index (k + length rs) more (reports_entered steps index k rs l)
unfolding reports_entered
reports-append steps index k [] more l = ap (λ (n : ℕ). reports_entered steps index n more l) (let e : k ≡ k + 0 = omega arith in e)
reports-append steps index k (r ∷ rs) more l =
    reports-append steps index (suc k) rs more (entered report_size k (report_words steps index r) l)
    ∙ ap (λ (n : ℕ). reports_entered steps index n more (reports_entered steps index (suc k) rs (entered report_size k (report_words steps index r) l)))
    (let e : suc k + length rs ≡ k + suc (length rs) = omega arith in e)

-- ---- the outputs
pub length-outputs : (n : ℕ) (l : List ℕ) → length (outputs_in n l) ≡ n
unfolding outputs_in
length-outputs zero l = refl
length-outputs (suc n) l = length-append (outputs_in n l) _ ∙ omega (arith, length-outputs n l)

-- what is entered from number k on does not change the first k
outputs-before : (n k : ℕ) (o : Output) (l : List ℕ) → n ≤ k → outputs_in n (entered output_size k (output_words o) l) ≡ outputs_in n l
unfolding outputs_in
outputs-before zero k o l h = refl
outputs-before (suc n) k o l h =
    rw (
      outputs-before n k o l (omega arith),
      entered-elsewhere output_size k (output_size * n) (output_words o) l (inl (omega arith)),
      entered-elsewhere output_size k (output_size * n + 1) (output_words o) l (inl (omega arith)),
    )

one-entered : (k : ℕ) (o : Output) (l : List ℕ) → k < output_places l → outputs_in (suc k) (entered output_size k (output_words o) l) ≡ outputs_in k l ++ (o ∷ [])
unfolding outputs_in
one-entered k o l h =
    let e0 : get_or (entered output_size k (output_words o) l) (output_size * k) 0 ≡ o.port
    = ap (λ (i : ℕ). get_or (entered output_size k (output_words o) l) i 0) (let z : output_size * k ≡ output_size * k + 0 = omega arith in z) ∙ entered-there output_size k 0 (output_words o) l h (omega arith) in
    rw (outputs-before k k o l (omega arith), e0, entered-there output_size k 1 (output_words o) l h (omega arith))

pub length-outputs-entered : (k : ℕ) (os : List Output) (l : List ℕ) → length (outputs_entered k os l) ≡ length l
unfolding outputs_entered
length-outputs-entered k [] l = refl
length-outputs-entered k (o ∷ os) l = length-outputs-entered (suc k) os (entered output_size k (output_words o) l) ∙ length-entered output_size k (output_words o) l

-- where there are places for all of them, they follow those that were there
pub outputs-entered : (k : ℕ) (os : List Output) (l : List ℕ) → k + length os ≤ output_places l
    → outputs_in k l ++ os ≡ outputs_in (k + length os) (outputs_entered k os l)
unfolding outputs_entered
outputs-entered k [] l h = append-nil (outputs_in k l) ∙ ap (λ (n : ℕ). outputs_in n l) (omega arith)
outputs-entered k (o ∷ os) l h =
    let l' : List ℕ = entered output_size k (output_words o) l in
    let rest : outputs_in (suc k) l' ++ os ≡ outputs_in (suc k + length os) (outputs_entered (suc k) os l')
    = outputs-entered (suc k) os l' (omega (arith, length-entered output_size k (output_words o) l)) in
    sym (append_assoc (outputs_in k l) (o ∷ []) os)
    ∙ ap (λ (made : List Output). made ++ os) (sym (one-entered k o l (omega arith)))
    ∙ rest
    ∙ ap (λ (n : ℕ). outputs_in n (outputs_entered (suc k) os l')) (let e : suc k + length os ≡ k + suc (length os) = omega arith in e)
