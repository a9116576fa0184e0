-- Cases on words, worked out by hand from document 01, for ADD, SUB and EQ as 02 amends it (L13, L4), in one table. First come those that it pins: all that it marks P, and its product.
-- The rest are ours: rows for every operation that the likely slips would break, of its action or of its rule.
use Rattle.std.specs.Prelude.{◌≡◌, ℕ, Bool, true, false, List, [], ◌∷◌}
use Rattle.rules.specs.Word.{all_ones}
use Rattle.rules.specs.Actions.{mov_of}
use Rattle.rules.specs.Shadows.{left_of, mov_v}
use Rattle.rules.specs.Operations.{action_of, shadow_of}
use Rattle.rules.specs.declared.Operation.{Operation}
use Rattle.rules.specs.declared.Operation.TheVariants.{Add, Sub, Mul, And, Or, Xor, Shl, Shr, Sar, Eq, Ltu}

-- A row is an operation, whether a and B are the same register, the words x v y w that go in, and the data and V words that come out;
-- or MOV, with B and its V word; or Left.
pub data Row : Type 0 where
  does : Operation → Bool → (x v y w : ℕ) → (result shadow : ℕ) → Row
  moves : (y v : ℕ) → (result shadow : ℕ) → Row
  left : (v shadow : ℕ) → Row

-- a word that 01 leaves free is chosen here
abbrev pub pinned : List Row
pinned =
    does Add false 0 0x100 0 0 0 0x100
    ∷ left 0 0
    ∷ left 0x8000_0000 0x8000_0000
    ∷ does And false 0xF 0 0xFFFF_FFFF all_ones 0xF 0xF
    ∷ does And false 0xFFFF_FFFF all_ones 1 0 1 1
    ∷ does Or false 0xF 0 0 all_ones 0xF 0xFFFF_FFF0
    ∷ does Xor true 0x1234_5678 all_ones 0x1234_5678 all_ones 0 0
    ∷ does Shl false 0x81 0x81 4 0 0x810 0x810
    ∷ does Shl false 0x81 0x81 32 0 0x81 0x81
    ∷ does Sar false 0x8000_0000 0x8000_0000 4 0 0xF800_0000 0xF800_0000
    ∷ does Shr false 0x8000_0000 0x8000_0000 4 0 0x0800_0000 0x0800_0000
    ∷ does Shl false 1 0 0 0x20 1 all_ones
    ∷ does Shr false 1 0 0 0x20 1 all_ones
    ∷ does Sar false 1 0 0 0x20 1 all_ones
    ∷ does Eq false 0 0x80 0 0 1 1
    ∷ does Eq false 1 0x80 0 0 0 0
    ∷ does Mul false 0xFFFF_FFFF 0 0xFFFF_FFFF 0 1 0
    -- ours
    ∷ moves 0xDEAD_BEEF 0x0F0F_0F0F 0xDEAD_BEEF 0x0F0F_0F0F
    ∷ does Add false 0xFFFF_FFFF 0 0x8000_0001 0 0x8000_0000 0
    ∷ does Add false 1 0 0 3 1 7
    ∷ does Add false 0x36 2 0xA 0 0x40 0x7E
    ∷ does Add false 0xFFFF_FE00 0x100 0x100 0 0xFFFF_FF00 0xFFFF_FF00
    ∷ does Add false 0x1234_5678 0xFF00 0x100 0 0x1234_5778 0x0001_FF00
    ∷ does Add false 5 1 2 4 7 0xD
    ∷ does Add false 4 3 4 5 8 0xF
    ∷ does Add false 0 0x10 0 0x10 0 0x30
    ∷ does Add false 0x4000_0000 0x4000_0000 0x4000_0000 0 0x8000_0000 0xC000_0000
    ∷ does Add false 0 0x8000_0000 0x8000_0000 0 0x8000_0000 0x8000_0000
    ∷ does Add false 0 0x8000_0000 0 0x8000_0000 0 0x8000_0000
    ∷ does Add true 1 1 1 1 2 3
    ∷ does Sub false 0 0 1 0x10 0xFFFF_FFFF 0x10
    ∷ does Sub false 0 0 0 0x10 0 0xFFFF_FFF0
    ∷ does Sub false 0x40 0 2 2 0x3E 0x7E
    ∷ does Sub false 0x40 0 0 3 0x40 0x7F
    ∷ does Sub false 0x12 2 2 0 0x10 0x1E
    ∷ does Sub false 4 0xB 1 0 3 0xF
    ∷ does Sub false 0x12 2 1 4 0x11 0x1E
    ∷ does Sub false 8 5 6 3 2 0xF
    ∷ does Sub false 0x6000_0000 0x2000_0000 0x2000_0000 0x2000_0000 0x4000_0000 0x6000_0000
    ∷ does Sub false 0 0x4000_0000 0x4000_0000 0 0xC000_0000 0xC000_0000
    ∷ does Sub false 0 0 0 0x8000_0000 0 0x8000_0000
    ∷ does Sub false 0 0x8000_0000 0 0x8000_0000 0 0x8000_0000
    ∷ does Sub true 0 1 0 1 0 all_ones
    ∷ does Sub true 5 0x10 5 0x10 0 0xFFFF_FFF0
    ∷ does Mul false 3 0x8000_0000 5 0 0xF 0x8000_0000
    ∷ does Mul false 0 0 5 1 0 all_ones
    ∷ does Or false 0 all_ones 1 0 1 0xFFFF_FFFE
    ∷ does Xor false 0xFF00 0xF0 0x0FF0 0xF 0xF0F0 0xFF
    ∷ does Shl false 3 3 31 0 0x8000_0000 0x8000_0000
    ∷ does Shr false 0x8000_0000 0x8000_0000 0xFFFF_FFFF 0 1 1
    ∷ does Sar false 0x4000_0000 0x4000_0000 30 0 1 1
    ∷ does Shl false 1 0 0 0x8000_0000 1 all_ones
    ∷ does And true 0xF0F0 0xFF00 0xF0F0 0xFF00 0xF0F0 0xFF00
    ∷ does Or true 0xF0F0 0xFF00 0xF0F0 0xFF00 0xF0F0 0xFF00
    ∷ does Mul true 6 4 6 4 0x24 0xFFFF_FFFC
    ∷ does Shl true 0x21 0 0x21 0 0x42 0
    ∷ does Shr true 0x22 0 0x22 0 8 0
    ∷ does Sar true 0x8000_0001 0 0x8000_0001 0 0xC000_0000 0
    ∷ does Eq false 0 0 0x8000_0000 0 0 0
    ∷ does Eq false 7 0 7 0 1 0
    ∷ does Eq false 1 0 1 0x8000_0000 1 1
    ∷ does Eq false 0 0 1 0x8000_0000 0 0
    ∷ does Eq false 0 0x80 1 0 0 0
    ∷ does Eq false 0x8000_0000 0x80 0 0 0 0
    ∷ does Eq false 0 0x80 0x8000_0000 0 0 0
    ∷ does Eq false 1 0 0 0x80 0 0
    ∷ does Eq false 0x0100_0000 0 0 0x80 0 0
    ∷ does Eq false 0 0 0x100 0x80 0 0
    ∷ does Eq false 0x81 0x80 0 0 0 0
    ∷ does Eq false 0x80 0x80 0 0 0 1
    ∷ does Eq false 0 0 0x80 0x80 0 1
    ∷ does Eq false 0x50 0xF0 0x05 0x0F 0 1
    ∷ does Eq false 0x150 0xF0 0x05 0x0F 0 0
    ∷ does Eq true 7 0x80 7 0x80 1 1
    ∷ does Eq true 7 0 7 0 1 0
    ∷ does Ltu false 1 0 0x8000_0000 0 1 0
    ∷ does Ltu false 1 0 1 0x8000_0000 0 1
    ∷ does Ltu false 0 0x80 1 0 1 1
    ∷ does Ltu false 0 0x80 0x8000_0000 0 1 1
    ∷ does Ltu true 1 1 1 1 0 1
    ∷ does Ltu true 7 0 7 0 0 0
    ∷ []

abbrev pub Holds : Row → Type 0
Holds (does o same x v y w z u) = (action_of o x y ≡ z) × (shadow_of o same x v y w ≡ u)
Holds (moves y v z u) = (mov_of y ≡ z) × (mov_v v ≡ u)
Holds (left v u) = left_of v ≡ u

-- every row holds
abbrev pub AllHold : List Row → Type 0
AllHold [] = Unit
AllHold (r ∷ rs) = Holds r × AllHold rs
