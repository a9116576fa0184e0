-- What the functions inside a step and a run ask for and promise of the machine. Private functions alone cite these
-- definitions, so that nobody has to believe them: what `begin` and `run` promise is said by Views.antt and the crate `machine`.
use Rattle.std.specs.Prelude.{ℕ, ◌+◌, ◌*◌, ◌/◌, ◌^◌, ◌<◌, ◌≤◌, ◌≡◌, Bool, true, false, cond, not, ◌||◌, List, [], ◌∷◌, ◌++◌, length, get_or, set, eqb, leb}
use Rattle.rules.specs.declared.Operation.{Operation}
use Rattle.image.specs.Format.{instruction_size}
use Rattle.image.specs.Rows.{range_start, range_length, operand_of, fields_at, built_from}
use Rattle.image.specs.Encoding.{ops}
use Rattle.image.specs.Accepted.{Fits}
use Rattle.image.specs.declared.Width.{Width}
use Rattle.image.specs.declared.Width.TheVariants.{Byte, Half, Word}
use Rattle.image.specs.declared.Widening.{Widening}
use Rattle.image.specs.declared.Widening.TheVariants.{Zero, Sign}
use Rattle.image.specs.declared.Instruction.{Instruction}
use Rattle.image.specs.declared.Instruction.TheVariants.{Move, Compute, Mark}
use Rattle.machine.specs.Machine.{parts, World, program_in}
use Rattle.machine.specs.Ranges.{all_addressable, stored_where}
use Rattle.machine.specs.Instructions.{address_of, bytes_of}
use Rattle.machine.specs.Steps.{Report, undefined_address, undefined_condition, unaddressable_load, unaddressable_store, undefined_output, if_undefined, if_blocked}
use Rattle.machine.specs.Lists.{reports_entered}
use Rattle.machine.specs.Runs.{goes_on, stopped, no_place, reason_at}
use Rattle.machine.specs.Checker.{stepped}
use Rattle.machine.specs.Calls.{most_steps}
use Rattle.machine.specs.Allowed.{Runnable}
use Rattle.checker.specs.declared.Counts.{Counts}
use Rattle.checker.specs.declared.kinds.Kind.{Kind}
use Rattle.checker.specs.declared.kinds.Kind.TheVariants.{UndefinedAddress, UndefinedCondition, UnaddressableLoad, UnaddressableStore, UndefinedOutput}
use Rattle.checker.specs.declared.step.Machine.{Machine}
use Rattle.checker.specs.Views.{world}

-- ---- the kinds of report, by their numbers
abbrev pub kind_number : Kind → ℕ
kind_number UndefinedAddress = undefined_address
kind_number UndefinedCondition = undefined_condition
kind_number UnaddressableLoad = unaddressable_load
kind_number UnaddressableStore = unaddressable_store
kind_number UndefinedOutput = undefined_output

-- ---- the counts
-- they have room for one step more
pub record Room (c : Counts) : Type 0 where
  pub index : c.index + 1 < 2 ^ 32
  pub steps : c.steps + 1 < 2 ^ 32
  pub outputs : c.outputs + 1 < 2 ^ 32

-- and for the reports that it makes: two at most
pub record StepRoom (c : Counts) : Type 0 where
  pub step : Room c
  pub reports : c.reports + 2 < 2 ^ 32

-- the counts after so many reports
abbrev pub reported : ℕ → Counts → Counts
reported n c = record { index = c.index; steps = c.steps; outputs = c.outputs; reports = c.reports + n }

-- the counts after a step that goes on at an index and puts out so many outputs
abbrev pub moved : (index outputs : ℕ) → Counts → Counts
moved index outputs c = record { index = index; steps = c.steps + 1; outputs = c.outputs + outputs; reports = c.reports }

-- a check that makes these reports: they are counted, and entered where there is a place
pub record Reports (rs : List Report) (c : Counts) (l : List ℕ) (t : Counts) (l' : List ℕ) : Type 0 where
  pub counts : t ≡ reported (length rs) c
  pub list : l' ≡ reports_entered c.steps c.index c.reports rs l

-- ---- the machine, as the code has it
-- all that a run reads and writes
abbrev pub world_in : Machine → World
world_in m = world m.counts (parts m.registers.now.data m.registers.now.shadows m.mem.now m.vbits.now m.abits.now) m.reports.now m.outputs.now

-- what m was lent is still lent to m'
pub record Lent (m m' : Machine) : Type 0 where
  pub registers : m'.registers.ghost_name ≡ m.registers.ghost_name
  pub mem : m'.mem.ghost_name ≡ m.mem.ghost_name
  pub vbits : m'.vbits.ghost_name ≡ m.vbits.ghost_name
  pub abits : m'.abits.ghost_name ≡ m.abits.ghost_name
  pub reports : m'.reports.ghost_name ≡ m.reports.ghost_name
  pub outputs : m'.outputs.ghost_name ≡ m.outputs.ghost_name

-- a check leaves m': it has made these reports, and these V words
pub record Checked (rs : List Report) (shadows : List ℕ) (m m' : Machine) : Type 0 where
  pub lent : Lent m m'
  pub reports : Reports rs m.counts m.reports.now m'.counts m'.reports.now
  pub words : m'.registers.now.data ≡ m.registers.now.data
  pub shadow_words : m'.registers.now.shadows ≡ shadows
  pub mem : m'.mem.now ≡ m.mem.now
  pub vbits : m'.vbits.now ≡ m.vbits.now
  pub abits : m'.abits.now ≡ m.abits.now
  pub outputs : m'.outputs.now ≡ m.outputs.now

-- the checks of a load or store: it begins at this address, V of register a is cleared, and the reports are made
pub record Accessed (kind : ℕ) (width : Width) (a imm at : ℕ) (whole : Bool) (m m' : Machine) : Type 0 where
  pub place : at ≡ address_of m.registers.now.data a imm
  pub bytes : whole ≡ all_addressable m.abits.now at (bytes_of width)
  pub checked : Checked (if_undefined undefined_address (get_or m.registers.now.shadows a 0) ++ if_blocked kind at (not whole)) (set m.registers.now.shadows a 0) m m'

-- m' differs from m in memory and its V bits alone
pub record Kept (m m' : Machine) : Type 0 where
  pub lent : Lent m m'
  pub counts : m'.counts ≡ m.counts
  pub registers : m'.registers.now ≡ m.registers.now
  pub abits : m'.abits.now ≡ m.abits.now
  pub reports : m'.reports.now ≡ m.reports.now
  pub outputs : m'.outputs.now ≡ m.outputs.now

-- the low bytes of data and V are stored to the addressable ones of n bytes
pub record Stored (x v at n : ℕ) (m m' : Machine) : Type 0 where
  pub kept : Kept m m'
  pub mem : m'.mem.now ≡ stored_where m.abits.now x m.mem.now at n
  pub vbits : m'.vbits.now ≡ stored_where m.abits.now v m.vbits.now at n

-- the step of an instruction leaves m'
pub record Steps (i : Instruction) (m m' : Machine) : Type 0 where
  pub lent : Lent m m'
  pub taken : world_in m' ≡ stepped i (world_in m)

-- ---- what a step and a run go by
-- the three buffers of a program with so many bytes of memory
pub record Sizes (m : ℕ) (mem mem_v mem_a : List ℕ) : Type 0 where
  pub size : length mem ≡ m
  pub size_v : length mem_v ≡ m
  pub size_a : length mem_a ≡ m

-- all that the step of an instruction asks for: its fields are in range for the memory, in an image of some length
pub record MayStep (i : Instruction) (m : Machine) : Type 0 where
  pub room : StepRoom m.counts
  pub count : ℕ
  pub fits : Fits count (length m.abits.now) i

-- where a run may go on
pub record Ready (n m : ℕ) (w : World) (left : ℕ) : Type 0 where
  pub runnable : Runnable n m w
  pub within : w.counts.steps + left ≤ most_steps

-- ---- an instruction where it stands, in the code of an image
-- the instruction that the fields at an index make
unfoldable pub standing : (code : List ℕ) (index : ℕ) → Instruction
standing code index = built_from (fields_at code index)

-- what they make where the op is MOV; where it is an operation's; where it is OPEN or CLOSE
unfoldable pub move_at : (code : List ℕ) (index : ℕ) → Instruction
move_at code index = let f = fields_at code index in Move f.d (operand_of f.b f.imm)

unfoldable pub compute_at : Operation → (code : List ℕ) (index : ℕ) → Instruction
compute_at op code index = let f = fields_at code index in Compute op f.d f.a (operand_of f.b f.imm)

unfoldable pub mark_at : Bool → (code : List ℕ) (index : ℕ) → Instruction
mark_at addressable code index = let f = fields_at code index in Mark addressable (range_start f.imm) (range_length f.imm)

-- r is byte k of the instruction at an index; r is its word imm
pub record ByteIs (code : List ℕ) (index k r : ℕ) : Type 0 where
  pub same : r ≡ get_or code (instruction_size * index + k) 0

pub record ImmIs (code : List ℕ) (index r : ℕ) : Type 0 where
  pub same : r ≡ (fields_at code index).imm

-- an op is one of these
abbrev pub one_of : List ℕ → ℕ → Bool
one_of [] op = false
one_of (k ∷ ks) op = eqb op k || one_of ks op

-- LD8, LD32, LD16, LDS8, LDS16; ST8, ST32, ST16
abbrev pub load_ops : List ℕ
load_ops = 13 ∷ 14 ∷ 21 ∷ 22 ∷ 23 ∷ []

abbrev pub store_ops : List ℕ
store_ops = 15 ∷ 16 ∷ 24 ∷ []

-- the op of a load or store
pub record IsAccess (op : ℕ) : Type 0 where
  pub known : op < ops
  pub listed : one_of store_ops op ≡ false → one_of load_ops op ≡ true

-- the width of a load or store by its op, and as the code numbers it: LD32 and ST32 move a word, LD16, LDS16 and ST16 a half word, the others a byte
abbrev pub width_number : ℕ → ℕ
width_number op = cond (eqb op 14 || eqb op 16) 1 (cond (eqb op 21 || eqb op 23 || eqb op 24) 2 0)

abbrev pub width_by : ℕ → Width
width_by number = cond (eqb number 0) Byte (cond (eqb number 1) Word Half)

abbrev pub width_of : ℕ → Width
width_of op = width_by (width_number op)

-- LDS8 and LDS16 copy the top bit
abbrev pub widening_of : ℕ → Widening
widening_of op = cond (eqb op 22 || eqb op 23) Sign Zero

-- at an index there is an instruction with fields in range, in an image of n instructions and m bytes of memory; and at each below n
pub record Reads (code : List ℕ) (n m index : ℕ) : Type 0 where
  pub there : index < length code / instruction_size
  pub known : (fields_at code index).op < ops
  pub same : (program_in code n m).at index ≡ standing code index
  pub fits : Fits n m (standing code index)

abbrev pub CodeReads : (code : List ℕ) (n m : ℕ) → Type 0
CodeReads code n m = (i : ℕ) → i < n → Reads code n m i

-- ---- a turn of the loop
-- all that it asks for, where the index is below n
pub record MayTurn (code : List ℕ) (n : ℕ) (m : Machine) : Type 0 where
  pub there : m.counts.index < n → m.counts.index < length code / instruction_size
  pub known : m.counts.index < n → (fields_at code m.counts.index).op < ops
  pub may : m.counts.index < n → MayStep (standing code m.counts.index) m

-- the stop reason before an op: STOP, EMIT without a place, or what holds otherwise
abbrev pub reason_by : (op places outputs otherwise : ℕ) → ℕ
reason_by op places outputs otherwise = cond (eqb op 0) stopped (cond (eqb op 18) (cond (leb places outputs) no_place otherwise) otherwise)

-- the stop reason at the index; without one there is budget left
pub record Reasons (code : List ℕ) (n places left : ℕ) (c : Counts) (reason : ℕ) : Type 0 where
  pub told : (m : ℕ) → CodeReads code n m → reason ≡ reason_at (program_in code n m) places left c.index c.outputs
  pub budget : reason ≡ goes_on → 0 < left

-- w' is left: by the step of an instruction where there is no reason to stop, else it is w
pub record Turned (i : Instruction) (reason : ℕ) (w w' : World) : Type 0 where
  pub steps : reason ≡ goes_on → w' ≡ stepped i w
  pub stays : (reason ≡ goes_on → ⊥) → w' ≡ w
