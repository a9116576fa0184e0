-- Cases of one step, of the bare machine's loads, of the stop reasons and of the lists, worked out by hand from documents 01 and 02, as
-- tables. `cases-hold`, `bare-hold`, `reasons-hold` and `entries-hold` in proofs/Cases.antt say that the definitions give them. Of 01's
-- pinned cases here are those on a load at the end of memory, on an address that wraps, and on budget 0; the rest are ours.
use Rattle.std.specs.Prelude.{ℕ, true, false, List, [], ◌∷◌, ◌++◌, get_or, replicate}
use Rattle.rules.specs.Word.{all_ones}
use Rattle.rules.specs.declared.Operation.TheVariants.{Add, Xor}
use Rattle.image.specs.declared.Operand.TheVariants.{Register, Literal}
use Rattle.image.specs.declared.Width.TheVariants.{Byte, Half, Word}
use Rattle.image.specs.declared.Widening.TheVariants.{Zero, Sign}
use Rattle.image.specs.declared.Instruction.{Instruction}
use Rattle.image.specs.declared.Instruction.TheVariants.{Stop, Move, Compute, Load, Store, Jump, Emit, Mark}
use Rattle.machine.specs.Machine.{Parts, parts}
use Rattle.machine.specs.Instructions.{way_on, Output, output, outputs_of}
use Rattle.machine.specs.Steps.{acted, Report, report, reports_of}
use Rattle.machine.specs.Bare.{bare_parts, bare_acted}
use Rattle.machine.specs.Lists.{entered}
use Rattle.machine.specs.Runs.{reason_at}

-- ---- one step, of the instruction at index 5
pub record Outcome : Type 0 where
  pub reports : List Report
  pub outputs : List Output
  pub after : Parts
  pub next : ℕ

pub record Case : Type 0 where
  pub does : Instruction
  pub before : Parts
  pub outcome : Outcome

abbrev case : Instruction → Parts → List Report → List Output → Parts → ℕ → Case
case i before reports outputs after next = record { does = i; before = before; outcome = record { reports = reports; outputs = outputs; after = after; next = next } }

-- a step that puts nothing out and goes to the next index
abbrev quietly : Instruction → Parts → List Report → Parts → Case
quietly i before reports after = case i before reports [] after 6

-- what the definitions give
abbrev pub outcome_of : Case → Outcome
outcome_of c =
    record {
      reports = reports_of c.does c.before;
      outputs = outputs_of c.does c.before.regs;
      after = acted c.does c.before;
      next = way_on c.does c.before.regs 5;
    }

-- registers and four bytes, all addressable; the first two lists are data and V of the registers, the others of the bytes
abbrev four : (regs regs_v mem mem_v : List ℕ) → Parts
four regs regs_v mem mem_v = parts regs regs_v mem mem_v (1 ∷ 1 ∷ 1 ∷ 1 ∷ [])

abbrev bytes : List ℕ
bytes = 0x11 ∷ 0x22 ∷ 0x33 ∷ 0x84 ∷ []

-- 0x80 and 0x7F; the half words 0x7F80 and 0x8000
abbrev signs : List ℕ
signs = 0x80 ∷ 0x7F ∷ 0x00 ∷ 0x80 ∷ []

abbrev defined : List ℕ
defined = 0 ∷ 0 ∷ 0 ∷ 0 ∷ []

-- sixteen registers, of which the last holds this with this V; the others 0 and defined
abbrev sixteen : (x v : ℕ) → Parts
sixteen x v = four (replicate 15 0 ++ x ∷ []) (replicate 15 0 ++ v ∷ []) bytes defined

-- 64 bytes, all addressable and defined; the last two hold AA and BB
abbrev sixty_four : (regs regs_v : List ℕ) → Parts
sixty_four regs regs_v = parts regs regs_v (replicate 62 0 ++ 0xAA ∷ 0xBB ∷ []) (replicate 64 0) (replicate 64 1)

abbrev pub cases : List Case
cases =
    -- 01: LD32 at 62 of 64, and at 60
    quietly (Load Word Zero 1 0 0) (sixty_four (62 ∷ 7 ∷ []) (0 ∷ 9 ∷ [])) (report 3 62 ∷ []) (sixty_four (62 ∷ 0xBBAA ∷ []) (0 ∷ 0 ∷ []))
    ∷ quietly (Load Word Zero 1 0 0) (sixty_four (60 ∷ 7 ∷ []) (0 ∷ 9 ∷ [])) [] (sixty_four (60 ∷ 0xBBAA_0000 ∷ []) (0 ∷ 0 ∷ []))
    -- 01: 0xFFFFFFFF plus 1 is 0; but byte 1 of an access at 0xFFFFFFFF is not byte 0 of memory
    ∷ quietly (Load Byte Zero 1 0 1) (four (0xFFFF_FFFF ∷ 7 ∷ []) (0 ∷ 9 ∷ []) bytes defined) [] (four (0xFFFF_FFFF ∷ 0x11 ∷ []) (0 ∷ 0 ∷ []) bytes defined)
    ∷ quietly (Load Word Zero 1 0 0) (four (0xFFFF_FFFF ∷ 7 ∷ []) (0 ∷ 9 ∷ []) bytes defined) (report 3 0xFFFF_FFFF ∷ []) (four (0xFFFF_FFFF ∷ 0 ∷ []) (0 ∷ 0 ∷ []) bytes defined)
    ∷ quietly (Store Word 1 0 0) (four (0xFFFF_FFFE ∷ 7 ∷ []) (0 ∷ 9 ∷ []) bytes defined) (report 4 0xFFFF_FFFE ∷ []) (four (0xFFFF_FFFE ∷ 7 ∷ []) (0 ∷ 9 ∷ []) bytes defined)
    -- copying undefined bits is no error, and V comes along, zero-widened by LD8
    ∷ quietly (Load Word Zero 1 0 0) (four (0 ∷ 7 ∷ []) (0 ∷ 9 ∷ []) bytes (0x01 ∷ 0 ∷ 0xFF ∷ 0x80 ∷ [])) [] (four (0 ∷ 0x8433_2211 ∷ []) (0 ∷ 0x80FF_0001 ∷ []) bytes (0x01 ∷ 0 ∷ 0xFF ∷ 0x80 ∷ []))
    ∷ quietly (Load Byte Zero 1 0 3) (four (0 ∷ 7 ∷ []) (0 ∷ all_ones ∷ []) bytes (0 ∷ 0 ∷ 0 ∷ 0x80 ∷ [])) [] (four (0 ∷ 0x84 ∷ []) (0 ∷ 0x80 ∷ []) bytes (0 ∷ 0 ∷ 0 ∷ 0x80 ∷ []))
    ∷ quietly (Store Word 1 0 0) (four (0 ∷ 0x8765_4321 ∷ []) (0 ∷ 0xF00F_00FF ∷ []) bytes defined) [] (four (0 ∷ 0x8765_4321 ∷ []) (0 ∷ 0xF00F_00FF ∷ []) (0x21 ∷ 0x43 ∷ 0x65 ∷ 0x87 ∷ []) (0xFF ∷ 0 ∷ 0x0F ∷ 0xF0 ∷ []))
    ∷ quietly (Store Byte 1 0 2) (four (0 ∷ 0x8765_4321 ∷ []) (0 ∷ 0xF00F_00FE ∷ []) bytes defined) [] (four (0 ∷ 0x8765_4321 ∷ []) (0 ∷ 0xF00F_00FE ∷ []) (0x11 ∷ 0x22 ∷ 0x21 ∷ 0x84 ∷ []) (0 ∷ 0 ∷ 0xFE ∷ 0 ∷ []))
    -- an undefined address: the report has V before clearing; then the bytes; two reports in their order
    ∷ quietly (Load Byte Zero 1 0 0) (four (2 ∷ 7 ∷ []) (0x10 ∷ 9 ∷ []) bytes defined) (report 1 0x10 ∷ []) (four (2 ∷ 0x33 ∷ []) (0 ∷ 0 ∷ []) bytes defined)
    ∷ quietly (Load Byte Zero 1 0 2) (four (2 ∷ 7 ∷ []) (0x10 ∷ 9 ∷ []) bytes defined) (report 1 0x10 ∷ report 3 4 ∷ []) (four (2 ∷ 0 ∷ []) (0 ∷ 0 ∷ []) bytes defined)
    ∷ quietly (Load Byte Zero 0 0 0) (four (1 ∷ 7 ∷ []) (0x10 ∷ 9 ∷ []) bytes (0 ∷ 0x55 ∷ 0 ∷ 0 ∷ [])) (report 1 0x10 ∷ []) (four (0x22 ∷ 7 ∷ []) (0x55 ∷ 9 ∷ []) bytes (0 ∷ 0x55 ∷ 0 ∷ 0 ∷ []))
    -- a store with d the same as a uses the V after clearing
    ∷ quietly (Store Word 0 0 0) (four (0 ∷ 7 ∷ []) (all_ones ∷ 9 ∷ []) bytes (1 ∷ 1 ∷ 1 ∷ 1 ∷ [])) (report 1 0xFFFF_FFFF ∷ []) (four (0 ∷ 7 ∷ []) (0 ∷ 9 ∷ []) (0 ∷ 0 ∷ 0 ∷ 0 ∷ []) defined)
    -- unaddressable bytes in the middle: not loaded, not stored to, one report
    ∷ quietly (Load Word Zero 1 0 0) (parts (0 ∷ 7 ∷ []) (0 ∷ 9 ∷ []) bytes (0xFF ∷ 0xFF ∷ 0xFF ∷ 0xFF ∷ []) (1 ∷ 0 ∷ 0 ∷ 1 ∷ [])) (report 3 0 ∷ []) (parts (0 ∷ 0x8400_0011 ∷ []) (0 ∷ 0xFF00_00FF ∷ []) bytes (0xFF ∷ 0xFF ∷ 0xFF ∷ 0xFF ∷ []) (1 ∷ 0 ∷ 0 ∷ 1 ∷ []))
    ∷ quietly (Store Word 1 0 0) (parts (0 ∷ 0xA1A2_A3A4 ∷ []) (0 ∷ 0x0000_00F0 ∷ []) bytes (0xFF ∷ 0xFF ∷ 0xFF ∷ 0xFF ∷ []) (1 ∷ 0 ∷ 0 ∷ 1 ∷ [])) (report 4 0 ∷ []) (parts (0 ∷ 0xA1A2_A3A4 ∷ []) (0 ∷ 0x0000_00F0 ∷ []) (0xA4 ∷ 0x22 ∷ 0x33 ∷ 0xA1 ∷ []) (0xF0 ∷ 0xFF ∷ 0xFF ∷ 0 ∷ []) (1 ∷ 0 ∷ 0 ∷ 1 ∷ []))
    -- 02, L1. LDS8 of 0x80 and of 0x7F
    ∷ quietly (Load Byte Sign 1 0 0) (four (0 ∷ 7 ∷ []) (0 ∷ 9 ∷ []) signs defined) [] (four (0 ∷ 0xFFFF_FF80 ∷ []) (0 ∷ 0 ∷ []) signs defined)
    ∷ quietly (Load Byte Sign 1 0 1) (four (0 ∷ 7 ∷ []) (0 ∷ 9 ∷ []) signs defined) [] (four (0 ∷ 0x7F ∷ []) (0 ∷ 0 ∷ []) signs defined)
    -- the top V bit is copied by itself, and the data bit whatever its V
    ∷ quietly (Load Byte Sign 1 0 0) (four (0 ∷ 7 ∷ []) (0 ∷ 9 ∷ []) signs (0x80 ∷ 0 ∷ 0 ∷ 0 ∷ [])) [] (four (0 ∷ 0xFFFF_FF80 ∷ []) (0 ∷ 0xFFFF_FF80 ∷ []) signs (0x80 ∷ 0 ∷ 0 ∷ 0 ∷ []))
    ∷ quietly (Load Byte Sign 1 0 0) (four (0 ∷ 7 ∷ []) (0 ∷ 9 ∷ []) signs (0x7F ∷ 0 ∷ 0 ∷ 0 ∷ [])) [] (four (0 ∷ 0xFFFF_FF80 ∷ []) (0 ∷ 0x7F ∷ []) signs (0x7F ∷ 0 ∷ 0 ∷ 0 ∷ []))
    ∷ quietly (Load Byte Sign 1 0 1) (four (0 ∷ 7 ∷ []) (0 ∷ 9 ∷ []) signs (0 ∷ 0x80 ∷ 0 ∷ 0 ∷ [])) [] (four (0 ∷ 0x7F ∷ []) (0 ∷ 0xFFFF_FF80 ∷ []) signs (0 ∷ 0x80 ∷ 0 ∷ 0 ∷ []))
    -- LDS16 of 0x8000 with V 0x8000, and with V 0x00FF; of 0x7F80, whose low byte has no say; LD16 of 0x8000
    ∷ quietly (Load Half Sign 1 0 2) (four (0 ∷ 7 ∷ []) (0 ∷ 9 ∷ []) signs (0 ∷ 0 ∷ 0 ∷ 0x80 ∷ [])) [] (four (0 ∷ 0xFFFF_8000 ∷ []) (0 ∷ 0xFFFF_8000 ∷ []) signs (0 ∷ 0 ∷ 0 ∷ 0x80 ∷ []))
    ∷ quietly (Load Half Sign 1 0 2) (four (0 ∷ 7 ∷ []) (0 ∷ 9 ∷ []) signs (0 ∷ 0 ∷ 0xFF ∷ 0 ∷ [])) [] (four (0 ∷ 0xFFFF_8000 ∷ []) (0 ∷ 0xFF ∷ []) signs (0 ∷ 0 ∷ 0xFF ∷ 0 ∷ []))
    ∷ quietly (Load Half Sign 1 0 0) (four (0 ∷ 7 ∷ []) (0 ∷ 9 ∷ []) signs (0x80 ∷ 0 ∷ 0 ∷ 0 ∷ [])) [] (four (0 ∷ 0x7F80 ∷ []) (0 ∷ 0x80 ∷ []) signs (0x80 ∷ 0 ∷ 0 ∷ 0 ∷ []))
    ∷ quietly (Load Half Zero 1 0 2) (four (0 ∷ 7 ∷ []) (0 ∷ 9 ∷ []) signs (0 ∷ 0 ∷ 0 ∷ 0x80 ∷ [])) [] (four (0 ∷ 0x8000 ∷ []) (0 ∷ 0x8000 ∷ []) signs (0 ∷ 0 ∷ 0 ∷ 0x80 ∷ []))
    -- an unaddressable byte is data 0, V 0 before widening: above a low byte with its top bit set there is no sign; below a high one there is
    ∷ quietly (Load Half Sign 1 0 0) (parts (0 ∷ 7 ∷ []) (0 ∷ 9 ∷ []) (0x80 ∷ 0xFF ∷ 0 ∷ 0 ∷ []) (0xFF ∷ 0xFF ∷ 0xFF ∷ 0xFF ∷ []) (1 ∷ 0 ∷ 1 ∷ 1 ∷ [])) (report 3 0 ∷ []) (parts (0 ∷ 0x80 ∷ []) (0 ∷ 0xFF ∷ []) (0x80 ∷ 0xFF ∷ 0 ∷ 0 ∷ []) (0xFF ∷ 0xFF ∷ 0xFF ∷ 0xFF ∷ []) (1 ∷ 0 ∷ 1 ∷ 1 ∷ []))
    ∷ quietly (Load Half Sign 1 0 0) (parts (0 ∷ 7 ∷ []) (0 ∷ 9 ∷ []) (0xFF ∷ 0x80 ∷ 0 ∷ 0 ∷ []) (0xFF ∷ 0x80 ∷ 0 ∷ 0 ∷ []) (0 ∷ 1 ∷ 1 ∷ 1 ∷ [])) (report 3 0 ∷ []) (parts (0 ∷ 0xFFFF_8000 ∷ []) (0 ∷ 0xFFFF_8000 ∷ []) (0xFF ∷ 0x80 ∷ 0 ∷ 0 ∷ []) (0xFF ∷ 0x80 ∷ 0 ∷ 0 ∷ []) (0 ∷ 1 ∷ 1 ∷ 1 ∷ []))
    ∷ quietly (Load Byte Sign 1 0 2) (parts (0 ∷ 7 ∷ []) (0 ∷ 9 ∷ []) (0 ∷ 0 ∷ 0xFF ∷ 0 ∷ []) (0xFF ∷ 0xFF ∷ 0xFF ∷ 0xFF ∷ []) (1 ∷ 1 ∷ 0 ∷ 1 ∷ [])) (report 3 2 ∷ []) (parts (0 ∷ 0 ∷ []) (0 ∷ 0 ∷ []) (0 ∷ 0 ∷ 0xFF ∷ 0 ∷ []) (0xFF ∷ 0xFF ∷ 0xFF ∷ 0xFF ∷ []) (1 ∷ 1 ∷ 0 ∷ 1 ∷ []))
    -- LD16 at M - 2, at M - 1 and at 0xFFFFFFFF, whose byte 1 is not byte 0 of memory; LDS16 at M - 1
    ∷ quietly (Load Half Zero 1 0 0) (four (2 ∷ 7 ∷ []) (0 ∷ 9 ∷ []) bytes defined) [] (four (2 ∷ 0x8433 ∷ []) (0 ∷ 0 ∷ []) bytes defined)
    ∷ quietly (Load Half Zero 1 0 0) (four (3 ∷ 7 ∷ []) (0 ∷ 9 ∷ []) bytes defined) (report 3 3 ∷ []) (four (3 ∷ 0x84 ∷ []) (0 ∷ 0 ∷ []) bytes defined)
    ∷ quietly (Load Half Zero 1 0 0) (four (0xFFFF_FFFF ∷ 7 ∷ []) (0 ∷ 9 ∷ []) bytes defined) (report 3 0xFFFF_FFFF ∷ []) (four (0xFFFF_FFFF ∷ 0 ∷ []) (0 ∷ 0 ∷ []) bytes defined)
    ∷ quietly (Load Half Sign 1 0 0) (four (3 ∷ 7 ∷ []) (0 ∷ 9 ∷ []) bytes (0 ∷ 0 ∷ 0 ∷ 0x80 ∷ [])) (report 3 3 ∷ []) (four (3 ∷ 0x84 ∷ []) (0 ∷ 0x80 ∷ []) bytes (0 ∷ 0 ∷ 0 ∷ 0x80 ∷ []))
    -- ST16 stores the low two bytes, and of these the addressable ones: inside, across the end, at 0xFFFFFFFF, and beside an unaddressable byte
    ∷ quietly (Store Half 1 0 0) (four (1 ∷ 0x8765_4321 ∷ []) (0 ∷ 0xF00F_80FE ∷ []) bytes defined) [] (four (1 ∷ 0x8765_4321 ∷ []) (0 ∷ 0xF00F_80FE ∷ []) (0x11 ∷ 0x21 ∷ 0x43 ∷ 0x84 ∷ []) (0 ∷ 0xFE ∷ 0x80 ∷ 0 ∷ []))
    ∷ quietly (Store Half 1 0 0) (four (3 ∷ 0x8765_4321 ∷ []) (0 ∷ 0xF00F_80FE ∷ []) bytes defined) (report 4 3 ∷ []) (four (3 ∷ 0x8765_4321 ∷ []) (0 ∷ 0xF00F_80FE ∷ []) (0x11 ∷ 0x22 ∷ 0x33 ∷ 0x21 ∷ []) (0 ∷ 0 ∷ 0 ∷ 0xFE ∷ []))
    ∷ quietly (Store Half 1 0 0) (four (0xFFFF_FFFF ∷ 0x8765_4321 ∷ []) (0 ∷ 0xF00F_80FE ∷ []) bytes defined) (report 4 0xFFFF_FFFF ∷ []) (four (0xFFFF_FFFF ∷ 0x8765_4321 ∷ []) (0 ∷ 0xF00F_80FE ∷ []) bytes defined)
    ∷ quietly (Store Half 1 0 0) (parts (0 ∷ 0x8765_4321 ∷ []) (0 ∷ 0xF00F_80FE ∷ []) bytes defined (0 ∷ 1 ∷ 1 ∷ 1 ∷ [])) (report 4 0 ∷ []) (parts (0 ∷ 0x8765_4321 ∷ []) (0 ∷ 0xF00F_80FE ∷ []) (0x11 ∷ 0x43 ∷ 0x33 ∷ 0x84 ∷ []) (0 ∷ 0x80 ∷ 0 ∷ 0 ∷ []) (0 ∷ 1 ∷ 1 ∷ 1 ∷ []))
    -- an undefined address: reported and cleared first, also where d is a
    ∷ quietly (Load Half Sign 0 0 0) (four (2 ∷ 7 ∷ []) (0x10 ∷ 9 ∷ []) signs (0 ∷ 0 ∷ 1 ∷ 0x80 ∷ [])) (report 1 0x10 ∷ []) (four (0xFFFF_8000 ∷ 7 ∷ []) (0xFFFF_8001 ∷ 9 ∷ []) signs (0 ∷ 0 ∷ 1 ∷ 0x80 ∷ []))
    ∷ quietly (Store Half 0 0 0) (four (1 ∷ 7 ∷ []) (all_ones ∷ 9 ∷ []) bytes (1 ∷ 1 ∷ 1 ∷ 1 ∷ [])) (report 1 0xFFFF_FFFF ∷ []) (four (1 ∷ 7 ∷ []) (0 ∷ 9 ∷ []) (0x11 ∷ 1 ∷ 0 ∷ 0x84 ∷ []) (1 ∷ 0 ∷ 0 ∷ 1 ∷ []))
    -- JNZ goes by the data, reported or not
    ∷ case (Jump 0 2) (four (8 ∷ 7 ∷ []) (8 ∷ 9 ∷ []) bytes defined) (report 2 8 ∷ []) [] (four (8 ∷ 7 ∷ []) (0 ∷ 9 ∷ []) bytes defined) 2
    ∷ case (Jump 0 2) (four (0 ∷ 7 ∷ []) (8 ∷ 9 ∷ []) bytes defined) (report 2 8 ∷ []) [] (four (0 ∷ 7 ∷ []) (0 ∷ 9 ∷ []) bytes defined) 6
    ∷ case (Jump 0 2) (four (8 ∷ 7 ∷ []) (0 ∷ 9 ∷ []) bytes defined) [] [] (four (8 ∷ 7 ∷ []) (0 ∷ 9 ∷ []) bytes defined) 2
    -- EMIT puts out port and value, reported or not
    ∷ case (Emit 1 3) (four (8 ∷ 7 ∷ []) (0 ∷ 9 ∷ []) bytes defined) (report 5 9 ∷ []) (output 3 7 ∷ []) (four (8 ∷ 7 ∷ []) (0 ∷ 0 ∷ []) bytes defined) 6
    ∷ case (Emit 0 3) (four (8 ∷ 7 ∷ []) (0 ∷ 9 ∷ []) bytes defined) [] (output 3 8 ∷ []) (four (8 ∷ 7 ∷ []) (0 ∷ 9 ∷ []) bytes defined) 6
    -- 02, L9: a report clears V of register 15, which may be undefined in a state that is given, and its data stay; it is stored as any other
    ∷ case (Jump 15 2) (sixteen 8 0x10) (report 2 0x10 ∷ []) [] (sixteen 8 0) 2
    ∷ case (Emit 15 3) (sixteen 8 0x10) (report 5 0x10 ∷ []) (output 3 8 ∷ []) (sixteen 8 0) 6
    ∷ quietly (Load Byte Zero 14 15 0) (sixteen 2 0x10) (report 1 0x10 ∷ []) (four (replicate 14 0 ++ 0x33 ∷ 2 ∷ []) (replicate 16 0) bytes defined)
    ∷ quietly (Store Byte 15 0 1) (sixteen 8 0x10) [] (four (replicate 15 0 ++ 8 ∷ []) (replicate 15 0 ++ 0x10 ∷ []) (0x11 ∷ 8 ∷ 0x33 ∷ 0x84 ∷ []) (0 ∷ 0x10 ∷ 0 ∷ 0 ∷ []))
    ∷ quietly (Store Word 15 15 0) (sixteen 0 0x10) (report 1 0x10 ∷ []) (four (replicate 16 0) (replicate 16 0) (0 ∷ 0 ∷ 0 ∷ 0 ∷ []) defined)
    -- OPEN and CLOSE: A 1 or 0, V 255, data stays
    ∷ quietly (Mark true 1 2) (parts (0 ∷ 7 ∷ []) (0 ∷ 9 ∷ []) bytes defined (0 ∷ 0 ∷ 1 ∷ 0 ∷ [])) [] (parts (0 ∷ 7 ∷ []) (0 ∷ 9 ∷ []) bytes (0 ∷ 0xFF ∷ 0xFF ∷ 0 ∷ []) (0 ∷ 1 ∷ 1 ∷ 0 ∷ []))
    ∷ quietly (Mark false 0 2) (parts (0 ∷ 7 ∷ []) (0 ∷ 9 ∷ []) bytes defined (1 ∷ 1 ∷ 1 ∷ 0 ∷ [])) [] (parts (0 ∷ 7 ∷ []) (0 ∷ 9 ∷ []) bytes (0xFF ∷ 0xFF ∷ 0 ∷ 0 ∷ []) (0 ∷ 0 ∷ 1 ∷ 0 ∷ []))
    -- operations write data and V; a register with itself is told from one with a literal
    ∷ quietly (Move 1 (Register 0)) (four (8 ∷ 7 ∷ []) (3 ∷ 9 ∷ []) bytes defined) [] (four (8 ∷ 8 ∷ []) (3 ∷ 3 ∷ []) bytes defined)
    ∷ quietly (Move 1 (Literal (record { 0 = 5 }))) (four (8 ∷ 7 ∷ []) (3 ∷ 9 ∷ []) bytes defined) [] (four (8 ∷ 5 ∷ []) (3 ∷ 0 ∷ []) bytes defined)
    ∷ quietly (Compute Add 1 0 (Register 1)) (four (8 ∷ 7 ∷ []) (0x100 ∷ 0 ∷ []) bytes defined) [] (four (8 ∷ 15 ∷ []) (0x100 ∷ 0x100 ∷ []) bytes defined)
    ∷ quietly (Compute Xor 1 0 (Register 0)) (four (8 ∷ 7 ∷ []) (0x100 ∷ 0 ∷ []) bytes defined) [] (four (8 ∷ 0 ∷ []) (0x100 ∷ 0 ∷ []) bytes defined)
    ∷ quietly (Compute Xor 1 0 (Literal (record { 0 = 8 }))) (four (8 ∷ 7 ∷ []) (0x100 ∷ 0 ∷ []) bytes defined) [] (four (8 ∷ 0 ∷ []) (0x100 ∷ 0x100 ∷ []) bytes defined)
    ∷ []

-- ---- what the bare machine loads: the same data, widened alike
pub record BareCase : Type 0 where
  pub does : Instruction
  pub value : ℕ

abbrev bare_case : Instruction → ℕ → BareCase
bare_case i value = record { does = i; value = value }

-- register 1, from the bytes `signs`; register 0 is 0
abbrev pub bare_cases : List BareCase
bare_cases =
    bare_case (Load Byte Zero 1 0 0) 0x80
    ∷ bare_case (Load Byte Sign 1 0 0) 0xFFFF_FF80
    ∷ bare_case (Load Byte Sign 1 0 1) 0x7F
    ∷ bare_case (Load Half Zero 1 0 2) 0x8000
    ∷ bare_case (Load Half Sign 1 0 2) 0xFFFF_8000
    ∷ bare_case (Load Half Sign 1 0 0) 0x7F80
    ∷ bare_case (Load Word Zero 1 0 0) 0x8000_7F80
    ∷ []

abbrev pub bare_given : BareCase → ℕ
bare_given c = get_or (bare_acted c.does (bare_parts (0 ∷ 7 ∷ []) signs (1 ∷ 1 ∷ 1 ∷ 1 ∷ []))).regs 1 0

-- ---- the stop reasons, in a program of one instruction
pub record ReasonCase : Type 0 where
  pub does : Instruction
  pub index : ℕ
  pub outputs : ℕ
  pub places : ℕ
  pub left : ℕ
  pub reason : ℕ

abbrev reason_case : Instruction → (index outputs places left reason : ℕ) → ReasonCase
reason_case i index outputs places left reason = record { does = i; index = index; outputs = outputs; places = places; left = left; reason = reason }

-- 01: budget 0 gives reason 3, or 2, 1 or 4 if that one holds
abbrev pub reason_cases : List ReasonCase
reason_cases =
    reason_case Stop 1 2 2 0 2
    ∷ reason_case Stop 0 2 2 0 1
    ∷ reason_case (Emit 0 1) 0 2 2 0 4
    ∷ reason_case (Emit 0 1) 0 0 0 0 4
    ∷ reason_case (Emit 0 1) 0 1 2 0 3
    ∷ reason_case (Jump 0 0) 0 2 2 0 3
    ∷ reason_case Stop 1 0 2 9 2
    ∷ reason_case Stop 0 0 2 9 1
    ∷ reason_case (Emit 0 1) 0 2 2 9 4
    ∷ reason_case (Emit 0 1) 0 1 2 9 0
    ∷ reason_case (Jump 0 0) 0 2 2 1 0
    ∷ []

abbrev pub reason_given : ReasonCase → ℕ
reason_given c = reason_at (record { count = 1; at = λ i. c.does }) c.places c.left c.index c.outputs

-- ---- an entry of three words as number k, in a list of two places
pub record EntryCase : Type 0 where
  pub k : ℕ
  pub list : List ℕ

abbrev entry_case : ℕ → List ℕ → EntryCase
entry_case k list = record { k = k; list = list }

abbrev pub entry_cases : List EntryCase
entry_cases =
    entry_case 0 (7 ∷ 8 ∷ 9 ∷ 4 ∷ 5 ∷ 6 ∷ [])
    ∷ entry_case 1 (1 ∷ 2 ∷ 3 ∷ 7 ∷ 8 ∷ 9 ∷ [])
    ∷ entry_case 2 (1 ∷ 2 ∷ 3 ∷ 4 ∷ 5 ∷ 6 ∷ [])
    ∷ []

abbrev pub list_given : EntryCase → List ℕ
list_given c = entered 3 c.k (7 ∷ 8 ∷ 9 ∷ []) (1 ∷ 2 ∷ 3 ∷ 4 ∷ 5 ∷ 6 ∷ [])
