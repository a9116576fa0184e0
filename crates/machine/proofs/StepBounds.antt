-- How far one step goes: where it goes on, how much it reports and puts out, and that no buffer changes its length.
use Prim.Native.Nat.{ℕ, zero, suc, ◌+◌, ◌≤◌, ◌<◌}
use mathlib.Core.Path.{◌≡◌, refl, ◌∙◌}
use mathlib.Core.Bool.{Bool, true, false, cond, ◌&&◌}
use mathlib.Core.List.{List, [], ◌∷◌, ◌++◌}
use native.Mathlib.Omega.{arith}
use lib.ListN.{length, get_or, set, length-set, length-append}
use lib.Dec.{eqb, leb}
use borrow.Author.Tests.{leb-false}
use Rattle.rules.specs.Bytes.{byte_of}
use Rattle.image.specs.Accepted.{Fits}
use Rattle.image.specs.declared.Instruction.{Instruction}
use Rattle.image.specs.declared.Instruction.TheVariants.{Stop, Move, Compute, Load, Store, Jump, Emit, Mark}
use Rattle.machine.specs.Machine.{Parts}
use Rattle.machine.specs.Ranges.{is_addressable, stored_where}
use Rattle.machine.specs.Instructions.{address_of, blocked, way_on, outputs_of}
use Rattle.machine.specs.Steps.{with_register, cleared, load_step, store_step, mark_step, acted, undefined_address, undefined_condition, unaddressable_load, unaddressable_store, undefined_output, Report, report, if_undefined, if_blocked, reports_of}
use Rattle.machine.specs.Runs.{is_emit}
use Rattle.machine.proofs.Places.{length-written}

-- ---- the way on
-- a step that is taken ends at an index of at most N
pub way-within : (n m : ℕ) (i : Instruction) (regs : List ℕ) (index : ℕ) → Fits n m i → index < n → way_on i regs index ≤ n
unfolding way_on
way-within n m Stop regs index f h = omega arith
way-within n m (Move d b) regs index f h = omega arith
way-within n m (Compute op d a b) regs index f h = omega arith
way-within n m (Load width widening d a imm) regs index f h = omega arith
way-within n m (Store width d a imm) regs index f h = omega arith
way-within n m (Jump a target) regs index f h = go (eqb (get_or regs a 0) 0)
  where
    go : (t : Bool) → cond t (index + 1) target ≤ n
    go true = omega arith
    go false = omega (arith, f.1)
way-within n m (Emit a port) regs index f h = omega arith
way-within n m (Mark addressable start size) regs index f h = omega arith

-- ---- outputs
-- a step that is taken has a place for each of its outputs
pub has_room : (i : Instruction) (regs : List ℕ) (places k : ℕ) → k ≤ places → is_emit i && leb places k ≡ false → k + length (outputs_of i regs) ≤ places
unfolding is_emit outputs_of
has_room Stop regs places k h e = omega arith
has_room (Move d b) regs places k h e = omega arith
has_room (Compute op d a b) regs places k h e = omega arith
has_room (Load width widening d a imm) regs places k h e = omega arith
has_room (Store width d a imm) regs places k h e = omega arith
has_room (Jump a target) regs places k h e = omega arith
has_room (Emit a port) regs places k h e = omega (arith, leb-false places k e)
has_room (Mark addressable start size) regs places k h e = omega arith

-- ---- reports
pub few-undefined : (kind v : ℕ) → length (if_undefined kind v) ≤ 1
unfolding if_undefined
few-undefined kind v = go (eqb v 0)
  where
    go : (t : Bool) → length (cond {A = List Report} t [] (report kind v ∷ [])) ≤ 1
    go true = omega arith
    go false = omega arith

pub few-blocked : (kind at : ℕ) (b : Bool) → length (if_blocked kind at b) ≤ 1
unfolding if_blocked
few-blocked kind at true = omega arith
few-blocked kind at false = omega arith

of-access : (kind at v : ℕ) (b : Bool) → length (if_undefined undefined_address v ++ if_blocked kind at b) ≤ 2
of-access kind at v b =
    omega (arith, length-append (if_undefined undefined_address v) (if_blocked kind at b), few-undefined undefined_address v, few-blocked kind at b)

-- at most two in one step
pub few-reports : (i : Instruction) (p : Parts) → length (reports_of i p) ≤ 2
unfolding reports_of
few-reports Stop p = omega arith
few-reports (Move d b) p = omega arith
few-reports (Compute op d a b) p = omega arith
few-reports (Load width widening d a imm) p = of-access unaddressable_load (address_of p.regs a imm) (get_or p.regs_v a 0) (blocked p.mem_a (Load width widening d a imm) p.regs)
few-reports (Store width d a imm) p = of-access unaddressable_store (address_of p.regs a imm) (get_or p.regs_v a 0) (blocked p.mem_a (Store width d a imm) p.regs)
few-reports (Jump a target) p = omega (arith, few-undefined undefined_condition (get_or p.regs_v a 0))
few-reports (Emit a port) p = omega (arith, few-undefined undefined_output (get_or p.regs_v a 0))
few-reports (Mark addressable start size) p = omega arith

-- ---- lengths
pub length-stored : (A : List ℕ) (x : ℕ) (l : List ℕ) (at n : ℕ) → length (stored_where A x l at n) ≡ length l
unfolding stored_where
length-stored A x l at zero = refl
length-stored A x l at (suc n) = go (length-stored A x l at n) (is_addressable A (at + n))
  where
    go : length (stored_where A x l at n) ≡ length l → (t : Bool) → length (cond t (set (stored_where A x l at n) (at + n) (byte_of n x)) (stored_where A x l at n)) ≡ length l
    go e true = length-set (stored_where A x l at n) (at + n) (byte_of n x) ∙ e
    go e false = e

pub record SameLengths (p q : Parts) : Type 0 where
  pub regs : length q.regs ≡ length p.regs
  pub regs_v : length q.regs_v ≡ length p.regs_v
  pub mem : length q.mem ≡ length p.mem
  pub mem_v : length q.mem_v ≡ length p.mem_v
  pub mem_a : length q.mem_a ≡ length p.mem_a

pub same-lengths : (i : Instruction) (p : Parts) → SameLengths p (acted i p)
unfolding acted with_register cleared load_step store_step mark_step
same-lengths Stop p = record { regs = refl; regs_v = refl; mem = refl; mem_v = refl; mem_a = refl }
same-lengths (Move d b) p = record { regs = length-set p.regs d _; regs_v = length-set p.regs_v d _; mem = refl; mem_v = refl; mem_a = refl }
same-lengths (Compute op d a b) p = record { regs = length-set p.regs d _; regs_v = length-set p.regs_v d _; mem = refl; mem_v = refl; mem_a = refl }
same-lengths (Load width widening d a imm) p =
    record { regs = length-set p.regs d _; regs_v = length-set (set p.regs_v a 0) d _ ∙ length-set p.regs_v a 0; mem = refl; mem_v = refl; mem_a = refl }
same-lengths (Store width d a imm) p =
    record { regs = refl; regs_v = length-set p.regs_v a 0; mem = length-stored p.mem_a _ p.mem _ _; mem_v = length-stored p.mem_a _ p.mem_v _ _; mem_a = refl }
same-lengths (Jump a target) p = record { regs = refl; regs_v = length-set p.regs_v a 0; mem = refl; mem_v = refl; mem_a = refl }
same-lengths (Emit a port) p = record { regs = refl; regs_v = length-set p.regs_v a 0; mem = refl; mem_v = refl; mem_a = refl }
same-lengths (Mark addressable start size) p =
    record { regs = refl; regs_v = refl; mem = refl; mem_v = length-written _ p.mem_v start size; mem_a = length-written _ p.mem_a start size }
