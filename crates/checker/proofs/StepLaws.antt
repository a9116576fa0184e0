-- Laws of one step: what the functions of a step do, one after the other, is `stepped` of the instruction.
use Prim.Native.Nat.{ℕ, ◌+◌, ◌*◌, ◌/◌, ◌^◌, ◌<◌}
use mathlib.Core.Path.{◌≡◌, refl, sym, ap, ◌∙◌}
use mathlib.Core.Bool.{Bool, true, false, not}
use mathlib.Core.List.{List, [], ◌∷◌, ◌++◌}
use native.Mathlib.Omega.{arith}
use lib.ListN.{length, get_or, set, length-append}
use lib.Seq.{set-get_or}
use borrow.Author.Tests.{lt-ltb, eq-eqb, ne_eqb}
use Rattle.image.specs.declared.Instruction.{Instruction}
use Rattle.machine.specs.Machine.{Parts}
use Rattle.machine.specs.Ranges.{written}
use Rattle.machine.specs.Instructions.{way_on, outputs_of}
use Rattle.machine.specs.Steps.{acted, Report, report, if_undefined, if_blocked, reports_of}
use Rattle.machine.specs.Lists.{report_size, output_size, report_words, entered, reports_entered, outputs_entered}
use Rattle.machine.specs.Checker.{counted, stepped}
use Rattle.machine.proofs.StepBounds.{few-undefined}
use Rattle.machine.proofs.ListLaws.{reports-append}
use Rattle.checker.specs.declared.Counts.{Counts}
use Rattle.checker.specs.Views.{world}
use Rattle.checker.specs.Pieces.{StepRoom, reported, moved, Reports}

-- ---- entries of the lists, word by word
pub two-entered : (k x y : ℕ) (l : List ℕ) → k < length l / output_size → set (set l (2 * k) x) (2 * k + 1) y ≡ entered output_size k (x ∷ y ∷ []) l
unfolding entered written
two-entered k x y l h = rw (lt-ltb k (length l / 2) h, let e : 2 * k + 0 ≡ 2 * k = omega arith in e) refl

pub four-entered : (k x y z u : ℕ) (l : List ℕ) → k < length l / report_size
    → set (set (set (set l (4 * k) x) (4 * k + 1) y) (4 * k + 2) z) (4 * k + 3) u ≡ entered report_size k (x ∷ y ∷ z ∷ u ∷ []) l
unfolding entered written
four-entered k x y z u l h = rw (lt-ltb k (length l / 4) h, let e : 4 * k + 0 ≡ 4 * k = omega arith in e) refl

-- ---- the reports of a check
no_more : (c : Counts) → c ≡ reported 0 c
no_more c = ap (λ (n : ℕ). record { index = c.index; steps = c.steps; outputs = c.outputs; reports = n }) (omega arith)

pub none : (c : Counts) (l : List ℕ) → Reports [] c l c l
unfolding reports_entered
none c l = record { counts = no_more c; list = refl }

pub one : (kind detail : ℕ) (c t : Counts) (l l' : List ℕ) → t ≡ reported 1 c → l' ≡ entered report_size c.reports (report_words c.steps c.index (report kind detail)) l
    → Reports (report kind detail ∷ []) c l t l'
unfolding reports_entered
one kind detail c t l l' e q = record { counts = e; list = q }

-- those of one check, and then those of the next
pub both-checks : (rs more : List Report) (c t u : Counts) (l l' l'' : List ℕ) → Reports rs c l t l' → Reports more t l' u l'' → Reports (rs ++ more) c l u l''
both-checks rs more c t u l l' l'' first second =
    record {
      counts = second.counts ∙ ap (reported (length more)) first.counts ∙ ap (λ (n : ℕ). record { index = c.index; steps = c.steps; outputs = c.outputs; reports = n }) sum;
      list =
          second.list
          ∙ ap (λ (x : Counts). reports_entered x.steps x.index x.reports more l') first.counts
          ∙ ap (reports_entered c.steps c.index (c.reports + length rs) more) first.list
          ∙ sym (reports-append c.steps c.index c.reports rs more l);
    }
  where
    sum : c.reports + length rs + length more ≡ c.reports + length (rs ++ more)
    sum = omega (arith, length-append rs more)

pub undefined-none : (kind v : ℕ) (c : Counts) (l : List ℕ) → v ≡ 0 → Reports (if_undefined kind v) c l c l
unfolding if_undefined
undefined-none kind v c l e = rw (eq-eqb v 0 e) (none c l)

pub undefined-one : (kind v : ℕ) (c t : Counts) (l l' : List ℕ) → (v ≡ 0 → ⊥) → Reports (report kind v ∷ []) c l t l' → Reports (if_undefined kind v) c l t l'
unfolding if_undefined
undefined-one kind v c t l l' e r = rw (ne_eqb v 0 e) r

pub blocked-none : (kind at : ℕ) (whole : Bool) (c : Counts) (l : List ℕ) → whole ≡ true → Reports (if_blocked kind at (not whole)) c l c l
unfolding if_blocked
blocked-none kind at whole c l e = rw e (none c l)

pub blocked-one : (kind at : ℕ) (whole : Bool) (c t : Counts) (l l' : List ℕ) → whole ≡ false → Reports (report kind at ∷ []) c l t l'
    → Reports (if_blocked kind at (not whole)) c l t l'
unfolding if_blocked
blocked-one kind at whole c t l l' e r = rw e r

-- the first check leaves room for the report of the second
pub room-check : (kind v : ℕ) (c t : Counts) (l l' : List ℕ) → Reports (if_undefined kind v) c l t l' → StepRoom c → t.reports + 1 < 2 ^ 32
room-check kind v c t l l' r room = omega (arith, ap (λ (x : Counts). x.reports) r.counts, few-undefined kind v, room.reports)

-- V that is 0 is as if cleared
pub clear-already : (l : List ℕ) (a : ℕ) → get_or l a 0 ≡ 0 → l ≡ set l a 0
clear-already l a e = sym (set-get_or l a 0) ∙ ap (set l a) e

-- ---- the step
-- the checks have made their reports, the parts are as the instruction leaves them, its outputs are entered, and it is counted
pub taken : (i : Instruction) (p q : Parts) (c t u : Counts) (l l' outputs outputs' : List ℕ) → Reports (reports_of i p) c l t l'
    → u ≡ moved (way_on i p.regs t.index) (length (outputs_of i p.regs)) t → q ≡ acted i p
    → outputs' ≡ outputs_entered t.outputs (outputs_of i p.regs) outputs
    → world u q l' outputs' ≡ stepped i (world c p l outputs)
unfolding stepped counted
taken i p q c t u l l' outputs outputs' r e a o =
    let e' : u ≡ moved (way_on i p.regs c.index) (length (outputs_of i p.regs)) (reported (length (reports_of i p)) c)
    = e ∙ ap (λ (x : Counts). moved (way_on i p.regs x.index) (length (outputs_of i p.regs)) x) r.counts in
    let o' : outputs' ≡ outputs_entered c.outputs (outputs_of i p.regs) outputs
    = o ∙ ap (λ (x : Counts). outputs_entered x.outputs (outputs_of i p.regs) outputs) r.counts in
    rw (e', a, r.list, o') refl
