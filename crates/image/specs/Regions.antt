-- The regions of an image (01, What a card holds): start, length and kind, the rules for them, and the filled sum.
use Rattle.std.specs.Prelude.{ℕ, zero, suc, ◌+◌, ◌*◌, ◌/◌, Bool, true, false, cond, ◌&&◌, List, length, ltb, leb, eqb}
use Rattle.image.specs.Words.{nth_word}
use Rattle.image.specs.Format.{region_size}
use Rattle.image.specs.declared.kinds.Kind.{Kind}
use Rattle.image.specs.declared.kinds.Kind.TheVariants.{Filled, Undefined, Other}
use Rattle.image.specs.declared.Region.{Region}

-- kind 1: the image has its bytes; kind 2: addressable but undefined
abbrev pub filled_kind : Kind
filled_kind = Filled

abbrev pub undefined_kind : Kind
undefined_kind = Undefined

-- the kind that a word says, and the word of a kind
abbrev pub kind_of : ℕ → Kind
kind_of word = cond (eqb word 1) Filled (cond (eqb word 2) Undefined (Other word))

abbrev pub kind_word : Kind → ℕ
kind_word Filled = 1
kind_word Undefined = 2
kind_word (Other word) = word

-- the image has its bytes; it is one of the two kinds
abbrev pub has_bytes : Kind → Bool
has_bytes Filled = true
has_bytes Undefined = false
has_bytes (Other word) = false

abbrev pub is_kind : Kind → Bool
is_kind Filled = true
is_kind Undefined = true
is_kind (Other word) = false

-- region number i, of three words; zeros past the last
unfoldable pub region_at : List ℕ → ℕ → Region
region_at regions i =
    cond (ltb i (length regions / region_size))
    (record { start = nth_word regions (3 * i); size = nth_word regions (3 * i + 1); kind = kind_of (nth_word regions (3 * i + 2)) })
    (record { start = 0; size = 0; kind = kind_of 0 })

abbrev pub end_of : Region → ℕ
end_of region = region.start + region.size

-- the end of the region before number i
unfoldable pub end_before : List ℕ → ℕ → ℕ
end_before regions zero = 0
end_before regions (suc i) = end_of (region_at regions i)

-- the rules for one region: it follows the end of the previous one and lies in the M bytes of memory
abbrev pub region_keeps : Region → (before m : ℕ) → Bool
region_keeps region before m =
    leb 1 region.size && leb before region.start && leb (end_of region) m && is_kind region.kind

unfoldable pub region_ok : List ℕ → ℕ → ℕ → Bool
region_ok regions m i = region_keeps (region_at regions i) (end_before regions i) m

-- how many bytes of data belong to a region
abbrev pub filled_of : Region → ℕ
filled_of region = cond (has_bytes region.kind) region.size 0

-- how many belong to the first so many regions: the filled sum, and where the next one's bytes begin
unfoldable pub filled_sum : List ℕ → ℕ → ℕ
filled_sum regions zero = 0
filled_sum regions (suc i) = filled_sum regions i + filled_of (region_at regions i)
