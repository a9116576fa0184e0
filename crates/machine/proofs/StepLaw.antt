-- The law of one step: a step of the checker that reports nothing keeps the two machines in step, and the bare machine does not trap there.
use Prim.Native.Nat.{ℕ, suc, ◌+◌, ◌≤◌, ◌<◌}
use mathlib.Core.Path.{◌≡◌, refl, sym, ap, subst, ◌∙◌}
use mathlib.Core.Bool.{Bool, true, false, cond, not}
use mathlib.Core.List.{List, [], ◌∷◌, ◌++◌}
use native.Mathlib.Omega.{arith}
use lib.ListN.{length, get_or, set}
use lib.Dec.{eqb, eqb-suc-zero}
use lib.Seq.{set-get_or}
use borrow.Author.Tests.{eqb-true, not-false}
use Rattle.rules.specs.Actions.{add_of}
use Rattle.rules.specs.Agreement.{Alike, Sound}
use Rattle.rules.proofs.Agreement.{alike_self, alike-defined}
use Rattle.rules.proofs.Sound.{sound, mov-sound}
use Rattle.image.specs.Accepted.{OperandFits, Fits}
use Rattle.image.specs.declared.Operand.{Operand}
use Rattle.image.specs.declared.Operand.TheVariants.{Register, Literal}
use Rattle.image.specs.declared.Width.{Width}
use Rattle.image.specs.declared.Widening.{Widening}
use Rattle.image.specs.declared.Instruction.{Instruction}
use Rattle.image.specs.declared.Instruction.TheVariants.{Stop, Move, Compute, Load, Store, Jump, Emit, Mark}
use Rattle.image.proofs.Tests.{apart}
use Rattle.machine.specs.Machine.{Parts, parts, World, Program}
use Rattle.machine.specs.Ranges.{all_addressable, filled}
use Rattle.machine.specs.Instructions.{operand_data, address_of, bytes_of, blocked, way_on, outputs_of, Output}
use Rattle.machine.specs.Steps.{operand_v, same_register, with_register, cleared, load_step, store_step, mark_of, mark_step, acted, undefined_address, unaddressable_load, unaddressable_store, Report, report, if_undefined, if_blocked, reports_of}
use Rattle.machine.specs.Runs.{reason_at}
use Rattle.machine.specs.Checker.{counted, stepped, reason_of, next_of}
use Rattle.machine.specs.Bare.{BareParts, bare_parts, Bare, bare_acted, bare_stepped, traps, or_trap, bare_reason, bare_next}
use Rattle.machine.proofs.CheckerLaws.{Goes, reason-goes}
use Rattle.machine.proofs.StepBounds.{has_room}
use Rattle.machine.proofs.ListLaws.{length-outputs, length-outputs-entered, outputs-entered}
use Rattle.machine.proofs.Relation.{PartsAlike, InStep, beside_at, beside-set, word-past, load-alike, store-alike, mark-alike}

-- ---- no report
none_made : {A : Type 0} (l : List A) → length l ≡ 0 → l ≡ []
none_made [] e = refl
none_made (x ∷ l) e = absurd (omega arith)

some-made : {A B : Type 0} {x : A} {l : List A} → (x ∷ l) ≡ [] → B
some-made e = absurd (let z : ◌≡◌ {A = ℕ} 0 1 = cc in omega arith)

both-none : {A : Type 0} (xs ys : List A) → xs ++ ys ≡ [] → (xs ≡ []) × (ys ≡ [])
both-none [] ys e = (refl, e)
both-none (x ∷ xs) ys e = some-made e

all-defined : (kind v : ℕ) → if_undefined kind v ≡ [] → v ≡ 0
unfolding if_undefined
all-defined kind v e = go (eqb v 0) refl e
  where
    go : (t : Bool) → eqb v 0 ≡ t → cond {A = List Report} t [] (report kind v ∷ []) ≡ [] → v ≡ 0
    go true h q = eqb-true v 0 h
    go false h q = some-made q

not-blocked : (kind at : ℕ) (b : Bool) → if_blocked kind at b ≡ [] → b ≡ false
unfolding if_blocked
not-blocked kind at true e = some-made e
not-blocked kind at false e = refl

-- ---- clearing what is defined changes nothing
pub kept-V : (a : ℕ) (vs : List ℕ) → get_or vs a 0 ≡ 0 → set vs a 0 ≡ vs
kept-V a vs e = subst (λ (z : ℕ). set vs a z ≡ vs) e (set-get_or vs a 0)

cleared-same : (a : ℕ) (p : Parts) → get_or p.regs_v a 0 ≡ 0 → cleared a p ≡ p
unfolding cleared
cleared-same a p e = ap (λ (vs : List ℕ). parts p.regs vs p.mem p.mem_v p.mem_a) (kept-V a p.regs_v e)

-- ---- the parts after a step
module _ {p : Parts} {q : BareParts} (r : PartsAlike p q) where
  register-alike : (a : ℕ) → Alike 32 (get_or p.regs_v a 0) (get_or p.regs a 0) (get_or q.regs a 0)
  register-alike a = beside_at r.regs word-past a

  register-same : (a : ℕ) → get_or p.regs_v a 0 ≡ 0 → get_or q.regs a 0 ≡ get_or p.regs a 0
  register-same a z = sym (alike-defined (register-alike a) z)

  operand-alike : (b : Operand) → OperandFits b → Alike 32 (operand_v b p.regs_v) (operand_data b p.regs) (operand_data b q.regs)
  operand-alike (Register a) h = register-alike a
  operand-alike (Literal x) h = alike_self (omega arith) h

  with-register : (d : ℕ) {x v y : ℕ} → Alike 32 v x y → PartsAlike (with_register d x v p) (bare_parts (set q.regs d y) q.mem q.marks)
  unfolding with_register
  with-register d {x} {v} {y} a = record { regs = beside-set r.regs d v v x y a; mem = r.mem; marks = r.marks }

  -- an access that reports nothing: V of a is 0, and every byte is addressable
  quiet-access : (width : Width) (a imm kind : ℕ)
      → if_undefined undefined_address (get_or p.regs_v a 0) ++ if_blocked kind (address_of p.regs a imm) (not (all_addressable p.mem_a (address_of p.regs a imm) (bytes_of width))) ≡ []
      → (get_or p.regs_v a 0 ≡ 0) × (all_addressable p.mem_a (address_of p.regs a imm) (bytes_of width) ≡ true)
  quiet-access width a imm kind e =
      let none = both-none (if_undefined undefined_address (get_or p.regs_v a 0)) _ e in
      (all-defined undefined_address (get_or p.regs_v a 0) none.0, not-false _ (not-blocked kind (address_of p.regs a imm) _ none.1))

  module _ (width : Width) (a imm : ℕ) (z : get_or p.regs_v a 0 ≡ 0) (h : all_addressable p.mem_a (address_of p.regs a imm) (bytes_of width) ≡ true) where
    address_same : address_of q.regs a imm ≡ address_of p.regs a imm
    address_same = ap (λ (x : ℕ). add_of x imm) (register-same a z)

    free : not (all_addressable q.marks (address_of q.regs a imm) (bytes_of width)) ≡ false
    free = rw (r.marks, address_same, h)

    load-step : (widening : Widening) (d : ℕ) → PartsAlike (acted (Load width widening d a imm) p) (bare_acted (Load width widening d a imm) q)
    unfolding acted bare_acted load_step
    load-step widening d = rw (cleared-same a p z, address_same) (with-register d (load-alike r.mem (address_of p.regs a imm) width widening h))

    store-step : (d : ℕ) → PartsAlike (acted (Store width d a imm) p) (bare_acted (Store width d a imm) q)
    unfolding acted bare_acted store_step
    store-step d =
        rw (cleared-same a p z, address_same)
        (record { regs = r.regs; mem = store-alike r.mem (register-alike d) (address_of p.regs a imm) (bytes_of width) h; marks = r.marks })

-- where a and B are the same register, each machine has one value for both
same_operand : (a : ℕ) (b : Operand) (regs : List ℕ) → same_register a b ≡ true → get_or regs a 0 ≡ operand_data b regs
same_operand a (Register k) regs e = ap (λ (i : ℕ). get_or regs i 0) (eqb-true a k e)
same_operand a (Literal x) regs e = apart (sym e)

-- what a step of instruction i that reports nothing gives
record Kept (i : Instruction) (p : Parts) (q : BareParts) : Type 0 where
  after : PartsAlike (acted i p) (bare_acted i q)
  free : blocked q.marks i q.regs ≡ false
  way : (index : ℕ) → way_on i q.regs index ≡ way_on i p.regs index
  outputs : outputs_of i q.regs ≡ outputs_of i p.regs

kept : (n m : ℕ) (i : Instruction) {p : Parts} {q : BareParts} → Fits n m i → PartsAlike p q → reports_of i p ≡ [] → Kept i p q
unfolding acted bare_acted reports_of blocked way_on outputs_of mark_step Sound
kept n m Stop f r e = record { after = r; free = refl; way = λ index. refl; outputs = refl }
kept n m (Move d b) f r e =
    record { after = with-register r d (mov-sound (operand-alike r b f.1)); free = refl; way = λ index. refl; outputs = refl }
kept n m (Compute op d a b) {p} {q} f r e =
    record {
      after =
          with-register r d
          (sound op (same_register a b) _ _ _ _ _ _ (λ s. (same_operand a b p.regs s, same_operand a b q.regs s)) (register-alike r a) (operand-alike r b f.2));
      free = refl;
      way = λ index. refl;
      outputs = refl;
    }
kept n m (Load width widening d a imm) f r e =
    let q = quiet-access r width a imm unaddressable_load e in
    record { after = load-step r width a imm q.0 q.1 widening d; free = free r width a imm q.0 q.1; way = λ index. refl; outputs = refl }
kept n m (Store width d a imm) f r e =
    let q = quiet-access r width a imm unaddressable_store e in
    record { after = store-step r width a imm q.0 q.1 d; free = free r width a imm q.0 q.1; way = λ index. refl; outputs = refl }
kept n m (Jump a target) {p} f r e =
    let z : get_or p.regs_v a 0 ≡ 0 = all-defined _ (get_or p.regs_v a 0) e in
    record { after = rw (cleared-same a p z) r; free = refl; way = λ index. rw (register-same r a z); outputs = refl }
kept n m (Emit a port) {p} f r e =
    let z : get_or p.regs_v a 0 ≡ 0 = all-defined _ (get_or p.regs_v a 0) e in
    record { after = rw (cleared-same a p z) r; free = refl; way = λ index. refl; outputs = rw (register-same r a z) }
kept n m (Mark addressable start size) f r e =
    record {
      after =
          record {
            regs = r.regs;
            mem = mark-alike r.mem (mark_of addressable) start size;
            marks = ap (λ (l : List ℕ). filled (mark_of addressable) l start size) r.marks;
          };
      free = refl;
      way = λ index. refl;
      outputs = refl;
    }

-- ---- the two machines
-- the reasons that both look for are the same
own-reason : {places : ℕ} {w : World} {c : Bare} → InStep places w c → (program : Program) (left : ℕ)
    → reason_at program places left w.counts.index w.counts.outputs ≡ reason_of program left w
unfolding reason_of
own-reason r program left = rw r.places_kept

same-reason : {places : ℕ} {w : World} {c : Bare} → InStep places w c → (program : Program) (left : ℕ)
    → reason_at program places left c.index (length c.outputs) ≡ reason_of program left w
same-reason r program left = rw (r.index, r.outputs, length-outputs) (own-reason r program left)

-- where the checker halts, so does the bare machine
pub halts-alike : {places : ℕ} {w : World} {c : Bare} → InStep places w c → (program : Program) (left reason : ℕ)
    → reason_of program left w ≡ suc reason → bare_reason program places left c ≡ suc reason
unfolding bare_reason or_trap
halts-alike r program left reason e = rw (same-reason r program left, e, eqb-suc-zero reason)

-- the law of one step
pub record StepKept (program : Program) (places left : ℕ) (w : World) (c : Bare) : Type 0 where
  pub no_trap : bare_reason program places left c ≡ 0
  pub in_step : InStep places (next_of program w) (bare_next program c)

module _ (program : Program) (m : ℕ) (fits : (i : ℕ) → i < program.count → Fits program.count m (program.at i)) where
  pub one-step : {places left : ℕ} {w : World} {c : Bare} → InStep places w c → reason_of program left w ≡ 0 → (next_of program w).counts.reports ≡ 0
      → StepKept program places left w c
  unfolding next_of bare_next stepped counted bare_stepped bare_reason or_trap traps
  one-step {places} {left} {w} {c} r e none =
      let i : Instruction = program.at w.counts.index in
      let g : Goes program places left w.counts.index w.counts.outputs = reason-goes program places left _ _ (own-reason r program left ∙ e) in
      let k : Kept i w.parts c.parts = kept program.count m i (fits w.counts.index g.before_end) r.parts (none_made (reports_of i w.parts) (omega arith)) in
      let os : List Output = outputs_of i w.parts.regs in
      let room : w.counts.outputs + length os ≤ places = has_room i w.parts.regs places w.counts.outputs r.room g.has_place in
      record {
        no_trap = rw (same-reason r program left, e, r.index, k.free);
        in_step =
            rw r.index
            (record {
              parts = k.after;
              index = k.way w.counts.index;
              steps = ap (λ (n : ℕ). n + 1) r.steps;
              outputs = rw (k.outputs, r.outputs) (outputs-entered w.counts.outputs os w.output_list (rw r.places_kept room));
              room = room;
              places_kept = rw (length-outputs-entered w.counts.outputs os w.output_list) r.places_kept;
            });
      }
