-- The shadow rules (01, "Shadow rules"; ADD and SUB: 02, L13; EQ: 02, L4). v and w are the operands' V words, x and y their data. A V bit is 1 where the data bit is undefined.
-- UifU, Left, PCast, ZWiden and SWiden are the abstract operations of 000, section 2.5; the rules that are made of them are in its section 2.6.
use Rattle.std.specs.Prelude.{ℕ, ◌-◌, ◌*◌, ◌^◌, Bool, cond, not, ◌||◌, ◌==◌, bit_and, bit_or, bit_xor}
use Rattle.rules.specs.Word.{all_ones, inverted, negated, copies}
use Rattle.rules.specs.Actions.{add_of, sub_of, shl_of, shr_of, sar_of}

-- undefined where either is
abbrev pub uifu : ℕ → ℕ → ℕ
uifu v w = bit_or v w

-- undefined from the lowest undefined bit upwards (`left-clear` of proofs/Carry.antt shows that it is)
abbrev pub left_of : ℕ → ℕ
left_of v = bit_or v (negated v)

-- n bits, all undefined if any bit of v is
abbrev pub pcast : ℕ → ℕ → ℕ
pcast n v = cond (v == 0) 0 (2 ^ n - 1)

-- wider, with zeros in the new places, which says defined: as a number it stays what it is
abbrev pub zwiden : ℕ → ℕ
zwiden v = v

-- the places of a word above its n low bytes
abbrev pub above : ℕ → ℕ
above n = inverted (2 ^ (8 * n) - 1)

-- n bytes as a word, with copies of their top bit in the places above, which are as undefined as it is; a signed load does the same to data (02, L1)
abbrev pub swiden : ℕ → ℕ → ℕ
swiden n v = bit_or v (copies (8 * n - 1) (above n) v)

-- One signature for the rules of all operations on two operands. The Bool says that a and B are the same register.
abbrev pub Rule : Type 0
Rule = Bool → ℕ → ℕ → ℕ → ℕ → ℕ

-- MOV (01; 000, 2.6, data copying): its one operand is B, and v is the V word of B
abbrev pub mov_v : ℕ → ℕ
mov_v v = v

-- Left of both: carries may reach every bit above (01's rule for ADD, SUB and MUL, of which MUL keeps it; 000, 2.6, addition and subtraction)
abbrev pub left_v : Rule
left_v same x v y w = left_of (uifu v w)

-- an operand's data with its undefined bits 0, and with them 1: the least and the greatest word that it can be (02, L13)
abbrev pub low : ℕ → ℕ → ℕ
low x v = bit_and x (inverted v)

abbrev pub high : ℕ → ℕ → ℕ
high x v = bit_or x v

-- ADD (02, L13; 000, 2.8, speaks of a finer rule for adds and subtracts and does not give it): undefined where either is, and where the sums of the least and of the greatest operands differ
abbrev pub add_v : Rule
add_v same x v y w = bit_or (uifu v w) (bit_xor (add_of (low x v) (low y w)) (add_of (high x v) (high y w)))

-- SUB (02, L13): likewise, of the least operand less the greatest and of the greatest less the least
abbrev pub sub_v : Rule
sub_v same x v y w = bit_or (uifu v w) (bit_xor (sub_of (low x v) (high y w)) (sub_of (high x v) (low y w)))

-- MUL (01; 02, L13)
abbrev pub mul_v : Rule
mul_v = left_v

-- AND (01; 000, 2.6): a defined 0 on either side settles the bit. 002's table has no term for v and y together, and is not used.
abbrev pub and_v : Rule
and_v same x v y w = bit_and (bit_and (uifu v w) (bit_or x v)) (bit_or y w)

-- OR (01; 000, 2.6): a defined 1 on either side settles the bit
abbrev pub or_v : Rule
or_v same x v y w = and_v same (inverted x) v (inverted y) w

-- XOR (01; 000, 2.6), and of a register with itself (000, 2.8), which is 0 whatever was in it
abbrev pub xor_v : Rule
xor_v same x v y w = cond same 0 (uifu v w)

-- SHL, SHR, SAR (01; 000, 2.6): by a defined amount V moves as the data does, by any other nothing is defined
abbrev pub shift_v : (ℕ → ℕ → ℕ) → Rule
shift_v f same x v y w = cond (w == 0) (f v y) all_ones

abbrev pub shl_v : Rule
shl_v = shift_v shl_of

abbrev pub shr_v : Rule
shr_v = shift_v shr_of

abbrev pub sar_v : Rule
sar_v = shift_v sar_of

-- the bits that are defined on both sides and differ (`apart_none` of proofs/Compare.antt shows when there are none)
abbrev pub apart : ℕ → ℕ → ℕ → ℕ → ℕ
apart x v y w = bit_and (bit_xor x y) (inverted (uifu v w))

-- EQ (02, L4; 002, 3.3.4): V 0 if some bit is defined on both sides and differs, or if no bit of either is undefined; otherwise V 1 (`eq-undefined` of proofs/Compare.antt shows when)
abbrev pub eq_v : Rule
eq_v same x v y w = cond (not (apart x v y w == 0) || uifu v w == 0) 0 1

-- LTU (01; 000, 2.5, narrowing casts): bit 0 is undefined if any bit of either is; the other 31 are defined
abbrev pub ltu_v : Rule
ltu_v same x v y w = zwiden (pcast 1 (uifu v w))
