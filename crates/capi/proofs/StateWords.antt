-- Words of a state that are put into its buffer: registers, V words and counts, one part after the other.
use Prim.Native.Nat.{ℕ, ◌+◌, ◌≤◌}
use mathlib.Core.Path.{◌≡◌, refl, sym, ap, ◌∙◌}
use mathlib.Core.List.{List, ◌++◌}
use native.Mathlib.Omega.{arith}
use lib.ListN.{length, get_or, take, drop, length-append}
use borrow.Rule.Slice.PartMut.{put_mid, mid_of, same_len_mid, mid_len}
use Rattle.std.proofs.lemmas.List.{drop-take, take_at, drop_at}
use Rattle.std.proofs.lemmas.List.Edits.{get_or-between}
use Rattle.std.proofs.lemmas.Slice.{take-put_mid_below, take-put_mid, between-put_mid}
use Rattle.capi.specs.Words.{regs_in, regs_v_in, counts_in}

-- the registers before what is still to be written, and then the V words
module _ (regs regs_v rest : List ℕ) (sixteen : length regs ≡ 16) (sixteen_v : length regs_v ≡ 16) (left : length rest ≡ 20) where
  abbrev second : List ℕ
  second = put_mid 16 16 (regs ++ rest) regs_v

  first-long : length (regs ++ rest) ≡ 36
  first-long = (let e : length regs + length rest ≡ 36 = omega (arith, sixteen, left) in length-append regs rest ∙ e)

  sixteen-lent : length (mid_of 16 16 (regs ++ rest)) ≡ 16
  sixteen-lent = mid_len 16 32 (regs ++ rest) (omega (arith, first-long))

  pub second-long : length second ≡ 36
  second-long = same_len_mid 16 16 (regs ++ rest) regs_v (sixteen_v ∙ sym sixteen-lent) ∙ first-long

  second-front : take 32 second ≡ regs ++ regs_v
  second-front =
      take-put_mid 16 16 (regs ++ rest) regs_v 32 (omega (arith, sixteen_v)) (omega (arith, first-long))
      ∙ ap (λ (l : List ℕ). l ++ regs_v) (take_at regs rest 16 sixteen)

-- and then the counts
module _ (regs regs_v counts rest : List ℕ) (sixteen : length regs ≡ 16) (sixteen_v : length regs_v ≡ 16) (four : length counts ≡ 4) (left : length rest ≡ 20) where
  abbrev third : List ℕ
  third = put_mid 32 4 (second regs regs_v rest sixteen sixteen_v left) counts

  long : length (second regs regs_v rest sixteen sixteen_v left) ≡ 36
  long = second-long regs regs_v rest sixteen sixteen_v left

  front : take 32 third ≡ regs ++ regs_v
  front =
      take-put_mid_below 32 4 (second regs regs_v rest sixteen sixteen_v left) counts 32 (omega arith) (omega (arith, long))
      ∙ second-front regs regs_v rest sixteen sixteen_v left

  pub regs-put : regs_in third ≡ regs
  regs-put =
      take-put_mid_below 32 4 (second regs regs_v rest sixteen sixteen_v left) counts 16 (omega arith) (omega (arith, long))
      ∙ take-put_mid_below 16 16 (regs ++ rest) regs_v 16 (omega arith) (omega (arith, first-long regs regs_v rest sixteen sixteen_v left))
      ∙ take_at regs rest 16 sixteen

  pub regs_v-put : regs_v_in third ≡ regs_v
  regs_v-put = sym (drop-take 16 16 third) ∙ ap (drop 16) front ∙ drop_at regs regs_v 16 sixteen

  at-count : (k : ℕ) → 32 + k ≤ 35 → get_or third (32 + k) 0 ≡ get_or counts k 0
  at-count k h =
      sym (get_or-between third 32 36 k 0 (omega arith))
      ∙ ap (λ (l : List ℕ). get_or l k 0) (between-put_mid 32 4 (second regs regs_v rest sixteen sixteen_v left) counts 36 (omega (arith, long)) (omega (arith, four)))

  pub counts-put : counts_in third ≡ record { index = get_or counts 0 0; steps = get_or counts 1 0; outputs = get_or counts 2 0; reports = get_or counts 3 0 }
  counts-put = rw (at-count 0 (omega arith), at-count 1 (omega arith), at-count 2 (omega arith), at-count 3 (omega arith)) refl
