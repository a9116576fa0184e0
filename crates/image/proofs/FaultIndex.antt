-- The index that refusals 5 and 6 carry is the lowest at fault.
use Prim.Native.Nat.{ℕ, zero, suc, ◌<◌}
use mathlib.Core.Path.{◌≡◌, refl, sym, ◌∙◌, subst}
use mathlib.Core.Logic.{◌⊎◌, inl, inr, ⊎_elim}
use mathlib.Core.Bool.{Bool, true, false, cond}
use mathlib.Core.List.{List}
use native.Mathlib.Omega.{arith}
use lib.Dec.{leb, eqb}
use lib.ListN.{length}
use Rattle.image.specs.Format.{header_size, field_m, field_n, field_r, field_d, magic_ok, limits_ok, layout_ok, code_part, region_part}
use Rattle.image.specs.Regions.{region_ok, filled_sum}
use Rattle.image.specs.Refusals.{Verdict, too_short, wrong_magic, out_of_limits, wrong_layout, bad_instruction, bad_region, wrong_sum, refused, accepted, unless, or_else, first_fault, instruction_ok, code_refusal, region_refusal, sum_refusal, content_refusal, refusal_with, refusal_of}
use Rattle.image.proofs.Faults.{Lowest, fault-lowest}

-- a refusal with another number was not this one
other : (ok : Bool) (number k : ℕ) (rest : Verdict) → (number ≡ k → ⊥) → (unless ok number rest).number ≡ k → (unless ok number rest ≡ rest) × (rest.number ≡ k)
other true number k rest p h = (refl, h)
other false number k rest p h = absurd (p h)

-- one that carries a number comes from the first or, if that does not refuse, from the second
which : (a b : Verdict) (k : ℕ) → (or_else a b).number ≡ k → ((or_else a b ≡ a) × (a.number ≡ k)) ⊎ ((or_else a b ≡ b) × (b.number ≡ k))
which a b k h = go (eqb a.number 0) refl h
  where
    go : (t : Bool) → eqb a.number 0 ≡ t → (cond t b a).number ≡ k → ((cond t b a ≡ a) × (a.number ≡ k)) ⊎ ((cond t b a ≡ b) × (b.number ≡ k))
    go true e h = inr (refl, h)
    go false e h = inl (refl, h)

-- a search answers with its own number, or accepts
number_of : (number : ℕ) (ok : ℕ → Bool) (i count : ℕ) → ((first_fault number ok i count).number ≡ 0) ⊎ ((first_fault number ok i count).number ≡ number)
unfolding first_fault
number_of number ok i zero = inl refl
number_of number ok i (suc count) = go (ok i) (number_of number ok (suc i) count)
  where
    rest : Verdict
    rest = first_fault number ok (suc i) count

    go : (t : Bool) → (rest.number ≡ 0) ⊎ (rest.number ≡ number) → ((cond t rest (refused number i)).number ≡ 0) ⊎ ((cond t rest (refused number i)).number ≡ number)
    go true h = h
    go false h = inr refl

-- so it does not answer with another
not-another : (number k : ℕ) (ok : ℕ → Bool) (count : ℕ) → 0 < k → (number ≡ k → ⊥) → (first_fault number ok 0 count).number ≡ k → ⊥
not-another number k ok count p q h = ⊎_elim (λ z. omega (arith, z, h)) (λ z. q (sym z ∙ h)) (number_of number ok 0 count)

-- an answer that is a search's carries its index
carried : (number : ℕ) (ok : ℕ → Bool) (count : ℕ) (t : Verdict) → 0 < number
    → (t ≡ first_fault number ok 0 count) × ((first_fault number ok 0 count).number ≡ number) → Lowest ok 0 count t.index
carried number ok count t p f =
    subst (λ (t : Verdict). Lowest ok 0 count t.index) (sym f.0) (fault-lowest number ok 0 count (λ z. omega (arith, z, f.1)))

module _ (s : List ℕ) (m n r d : ℕ) where
  -- a number above 4 comes from the parts
  content : (k : ℕ) → wrong_layout < k → (refusal_with s m n r d).number ≡ k
      → (refusal_with s m n r d ≡ content_refusal (code_part s n) (region_part s n r) m n r d) × ((content_refusal (code_part s n) (region_part s n r) m n r d).number ≡ k)
  content k l h =
      let e1 = other (leb header_size (length s)) too_short k _ (λ e. omega arith) h in
      let e2 = other (magic_ok s) wrong_magic k _ (λ e. omega arith) e1.1 in
      let e3 = other (limits_ok m n r d) out_of_limits k _ (λ e. omega arith) e2.1 in
      let e4 = other (layout_ok s n r d) wrong_layout k (content_refusal (code_part s n) (region_part s n r) m n r d) (λ e. omega arith) e3.1 in
      (e1.0 ∙ e2.0 ∙ e3.0 ∙ e4.0, e4.1)

  not-sum : (k : ℕ) → 0 < k → k < wrong_sum → (sum_refusal (region_part s n r) r d).number ≡ k → ⊥
  not-sum k lo hi h = let e = (other (eqb (filled_sum (region_part s n r) r) d) wrong_sum k accepted (λ e. omega arith) h).1 in omega arith

  -- refusal 5 is the answer of the search through the code
  from-code : (refusal_with s m n r d).number ≡ bad_instruction
      → (refusal_with s m n r d ≡ code_refusal (code_part s n) n m) × ((code_refusal (code_part s n) n m).number ≡ bad_instruction)
  unfolding region_refusal
  from-code h =
      let c = content bad_instruction (omega arith) h in
      ⊎_elim
      (λ q. (c.0 ∙ q.0, q.1))
      (λ q. absurd (⊎_elim
      (λ p. not-another bad_region bad_instruction (region_ok (region_part s n r) m) r (omega arith) (λ z. omega arith) p.1)
      (λ p. not-sum bad_instruction (omega arith) (omega arith) p.1)
      (which (region_refusal (region_part s n r) r m) (sum_refusal (region_part s n r) r d) bad_instruction q.1)))
      (which (code_refusal (code_part s n) n m) (or_else (region_refusal (region_part s n r) r m) (sum_refusal (region_part s n r) r d)) bad_instruction c.1)

  -- refusal 6 is the answer of the search through the regions
  from-regions : (refusal_with s m n r d).number ≡ bad_region
      → (refusal_with s m n r d ≡ region_refusal (region_part s n r) r m) × ((region_refusal (region_part s n r) r m).number ≡ bad_region)
  unfolding code_refusal
  from-regions h =
      let c = content bad_region (omega arith) h in
      ⊎_elim
      (λ q. absurd (not-another bad_instruction bad_region (instruction_ok (code_part s n) n m) n (omega arith) (λ z. omega arith) q.1))
      (λ q. ⊎_elim
      (λ p. (c.0 ∙ q.0 ∙ p.0, p.1))
      (λ p. absurd (not-sum bad_region (omega arith) (omega arith) p.1))
      (which (region_refusal (region_part s n r) r m) (sum_refusal (region_part s n r) r d) bad_region q.1))
      (which (code_refusal (code_part s n) n m) (or_else (region_refusal (region_part s n r) r m) (sum_refusal (region_part s n r) r d)) bad_region c.1)

-- an instruction at that index breaks its row, and none before it
pub code-fault : (s : List ℕ) → (refusal_of s).number ≡ bad_instruction
    → Lowest (instruction_ok (code_part s (field_n s)) (field_n s) (field_m s)) 0 (field_n s) (refusal_of s).index
unfolding refusal_of code_refusal
code-fault s h = carried bad_instruction _ (field_n s) _ (omega arith) (from-code s (field_m s) (field_n s) (field_r s) (field_d s) h)

-- a region at that index breaks the rules, and none before it
pub region-fault : (s : List ℕ) → (refusal_of s).number ≡ bad_region
    → Lowest (region_ok (region_part s (field_n s) (field_r s)) (field_m s)) 0 (field_r s) (refusal_of s).index
unfolding refusal_of region_refusal
region-fault s h = carried bad_region _ (field_r s) _ (omega arith) (from-regions s (field_m s) (field_n s) (field_r s) (field_d s) h)
