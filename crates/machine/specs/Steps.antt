-- One step of the machine with its shadow (01, Shadow rules; half words and signed loads: 02, L1): what it does to the parts, and what it reports.
use Rattle.std.specs.Prelude.{ℕ, Bool, false, cond, List, [], ◌∷◌, ◌++◌, get_or, set, eqb}
use Rattle.rules.specs.Actions.{mov_of}
use Rattle.rules.specs.Shadows.{mov_v}
use Rattle.rules.specs.Operations.{action_of, shadow_of}
use Rattle.image.specs.declared.Operand.{Operand}
use Rattle.image.specs.declared.Operand.TheVariants.{Register, Literal}
use Rattle.image.specs.declared.Widening.{Widening}
use Rattle.image.specs.declared.Instruction.{Instruction}
use Rattle.image.specs.declared.Instruction.TheVariants.{Stop, Move, Compute, Load, Store, Jump, Emit, Mark}
use Rattle.machine.specs.Machine.{undefined_byte, addressable_mark, unaddressable_mark, Parts, parts}
use Rattle.machine.specs.Ranges.{loaded_where, filled, stored_where}
use Rattle.machine.specs.Instructions.{operand_data, address_of, bytes_of, widened, blocked}

-- V of B: a register's, or 0, as a literal is fully defined
abbrev pub operand_v : Operand → List ℕ → ℕ
operand_v (Register r) regs_v = get_or regs_v r 0
operand_v (Literal x) regs_v = 0

-- a and B are the same register
abbrev pub same_register : ℕ → Operand → Bool
same_register a (Register r) = eqb a r
same_register a (Literal x) = false

-- ---- what is written
-- register d gets data and V
unfoldable pub with_register : (d x v : ℕ) → Parts → Parts
with_register d x v p = parts (set p.regs d x) (set p.regs_v d v) p.mem p.mem_v p.mem_a

-- V of register a is set to 0
unfoldable pub cleared : ℕ → Parts → Parts
cleared a p = parts p.regs (set p.regs_v a 0) p.mem p.mem_v p.mem_a

-- register d gets data and V of n bytes, widened; an unaddressable byte loads as data 0, V 0, before widening
unfoldable pub load_step : Widening → (d at n : ℕ) → Parts → Parts
load_step widening d at n p = with_register d (widened widening n (loaded_where p.mem_a p.mem at n)) (widened widening n (loaded_where p.mem_a p.mem_v at n)) p

-- data and V of register d go to the addressable ones of n bytes
unfoldable pub store_step : (d at n : ℕ) → Parts → Parts
store_step d at n p =
    parts p.regs p.regs_v (stored_where p.mem_a (get_or p.regs d 0) p.mem at n) (stored_where p.mem_a (get_or p.regs_v d 0) p.mem_v at n) p.mem_a

-- OPEN (true) gives A 1 and V 255, CLOSE A 0 and V 255; data stays
abbrev pub mark_of : Bool → ℕ
mark_of addressable = cond addressable addressable_mark unaddressable_mark

unfoldable pub mark_step : Bool → (start size : ℕ) → Parts → Parts
mark_step addressable start size p =
    parts p.regs p.regs_v p.mem (filled undefined_byte p.mem_v start size) (filled (mark_of addressable) p.mem_a start size)

-- An access, a jump and an output clear V of a, which changes nothing where it was 0. A store then uses the V after clearing.
unfoldable pub acted : Instruction → Parts → Parts
acted Stop p = p
acted (Move d b) p = with_register d (mov_of (operand_data b p.regs)) (mov_v (operand_v b p.regs_v)) p
acted (Compute op d a b) p =
    with_register d (action_of op (get_or p.regs a 0) (operand_data b p.regs))
    (shadow_of op (same_register a b) (get_or p.regs a 0) (get_or p.regs_v a 0) (operand_data b p.regs) (operand_v b p.regs_v))
    p
acted (Load width widening d a imm) p = load_step widening d (address_of p.regs a imm) (bytes_of width) (cleared a p)
acted (Store width d a imm) p = store_step d (address_of p.regs a imm) (bytes_of width) (cleared a p)
acted (Jump a target) p = cleared a p
acted (Emit a port) p = cleared a p
acted (Mark addressable start size) p = mark_step addressable start size p

-- ---- what is reported
-- the kinds: an undefined address, condition or output is used; a load or a store meets an unaddressable byte
abbrev pub undefined_address : ℕ
undefined_address = 1

abbrev pub undefined_condition : ℕ
undefined_condition = 2

abbrev pub unaddressable_load : ℕ
unaddressable_load = 3

abbrev pub unaddressable_store : ℕ
unaddressable_store = 4

abbrev pub undefined_output : ℕ
undefined_output = 5

pub record Report : Type 0 where
  pub kind : ℕ
  pub detail : ℕ

abbrev pub report : (kind detail : ℕ) → Report
report kind detail = record { kind = kind; detail = detail }

-- if V of a is not 0: the detail is that V, before clearing
unfoldable pub if_undefined : (kind v : ℕ) → List Report
if_undefined kind v = cond (eqb v 0) [] (report kind v ∷ [])

-- if any byte is unaddressable, once: the detail is the access's address
unfoldable pub if_blocked : (kind at : ℕ) → Bool → List Report
if_blocked kind at b = cond b (report kind at ∷ []) []

-- the reports of a step, in order
unfoldable pub reports_of : Instruction → Parts → List Report
reports_of Stop p = []
reports_of (Move d b) p = []
reports_of (Compute op d a b) p = []
reports_of (Load width widening d a imm) p =
    if_undefined undefined_address (get_or p.regs_v a 0)
    ++ if_blocked unaddressable_load (address_of p.regs a imm) (blocked p.mem_a (Load width widening d a imm) p.regs)
reports_of (Store width d a imm) p =
    if_undefined undefined_address (get_or p.regs_v a 0)
    ++ if_blocked unaddressable_store (address_of p.regs a imm) (blocked p.mem_a (Store width d a imm) p.regs)
reports_of (Jump a target) p = if_undefined undefined_condition (get_or p.regs_v a 0)
reports_of (Emit a port) p = if_undefined undefined_output (get_or p.regs_v a 0)
reports_of (Mark addressable start size) p = []
