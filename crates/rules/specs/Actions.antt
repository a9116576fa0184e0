-- What each operation does to data (01, the table of instructions, ops 1 to 12). x is register a, y the second operand, B.
use Rattle.std.specs.Prelude.{ℕ, ◌+◌, ◌-◌, ◌*◌, ◌/◌, ◌%◌, ◌^◌, ◌==◌, bit_and, bit_or, bit_xor, nat_lt}
use Rattle.rules.specs.Word.{wrapped, all_ones, inverted, one_if, copies}

-- MOV copies B
abbrev pub mov_of : ℕ → ℕ
mov_of y = y

-- ADD, SUB and MUL, modulo 4,294,967,296
abbrev pub add_of : ℕ → ℕ → ℕ
add_of x y = wrapped (x + y)

abbrev pub sub_of : ℕ → ℕ → ℕ
sub_of x y = wrapped (x + (2 ^ 32 - y))

abbrev pub mul_of : ℕ → ℕ → ℕ
mul_of x y = wrapped (x * y)

-- AND, OR and XOR, bit by bit
abbrev pub and_of : ℕ → ℕ → ℕ
and_of x y = bit_and x y

abbrev pub or_of : ℕ → ℕ → ℕ
or_of x y = bit_or x y

abbrev pub xor_of : ℕ → ℕ → ℕ
xor_of x y = bit_xor x y

-- how far B shifts: its value modulo 32 (01, "Shadow rules", Shifts)
abbrev pub amount_of : ℕ → ℕ
amount_of y = y % 32

-- SHL and SHR: left, and right with zeros coming in
abbrev pub shl_of : ℕ → ℕ → ℕ
shl_of x y = wrapped (x * 2 ^ amount_of y)

abbrev pub shr_of : ℕ → ℕ → ℕ
shr_of x y = x / 2 ^ amount_of y

-- the places that a right shift leaves free
abbrev pub freed : ℕ → ℕ
freed y = inverted (shr_of all_ones y)

-- SAR: right with copies of the top bit coming in
abbrev pub sar_of : ℕ → ℕ → ℕ
sar_of x y = bit_or (shr_of x y) (copies 31 (freed y) x)

-- EQ and LTU (unsigned): 1 or 0
abbrev pub eq_of : ℕ → ℕ → ℕ
eq_of x y = one_if (x == y)

abbrev pub ltu_of : ℕ → ℕ → ℕ
ltu_of x y = one_if (nat_lt x y)
