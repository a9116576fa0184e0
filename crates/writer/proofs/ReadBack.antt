-- What the reader finds in an image that is made of lists.
use Prim.Native.Nat.{ℕ, ◌^◌, ◌≤◌, ◌<◌}
use mathlib.Core.Path.{◌≡◌, refl, ◌∙◌, ap}
use mathlib.Core.Bool.{true, false}
use mathlib.Core.List.{List, ◌∷◌, ◌++◌}
use native.Mathlib.Omega.{arith}
use lib.ListN.{length, get_or, length-append}
use borrow.Author.Tests.{le-leb, eq-eqb}
use Rattle.image.specs.Words.{nth_word}
use Rattle.image.specs.Format.{magic, header_size, regions_at, data_at, size_of, field_m, field_n, field_r, field_d, code_offset, region_offset, data_offset, magic_ok, limits_ok, layout_ok}
use Rattle.image.specs.Refusals.{out_of_limits, refused, refusal_of}
use Rattle.writer.specs.Words.{bytes_of}
use Rattle.writer.specs.Writing.{instruction_count, region_count, header_words, image_of, entries_refusal}
use Rattle.writer.specs.Pieces.{Counted}
use Rattle.writer.proofs.WordLaws.{length-bytes, word_at, word-front}
use Rattle.writer.proofs.ImageLaws.{image-length, code-back, region-back}

-- the header as words: the first four bytes are one, too
abbrev magic_word : ℕ
magic_word = 0x314E5554

abbrev eight_words : (m n r d : ℕ) → List ℕ
eight_words m n r d = magic_word ∷ header_words m n r d

eight-bytes : (m n r d : ℕ) → magic ++ bytes_of (header_words m n r d) ≡ bytes_of (eight_words m n r d)
unfolding bytes_of
eight-bytes m n r d = refl

module _ (m : ℕ) (instructions regions held : List ℕ) where
  abbrev n : ℕ
  n = instruction_count instructions

  abbrev r : ℕ
  r = region_count regions

  abbrev d : ℕ
  d = length held

  abbrev made : List ℕ
  made = image_of m instructions regions held

  abbrev head : List ℕ
  head = bytes_of (eight_words m n r d)

  by-head : made ≡ head ++ bytes_of instructions ++ bytes_of regions ++ held
  unfolding image_of
  by-head = ap (λ (s : List ℕ). s ++ bytes_of instructions ++ bytes_of regions ++ held) (eight-bytes m n r d)

  -- word k of the header
  header-word : (k : ℕ) → k < 8 → get_or (eight_words m n r d) k 0 < 2 ^ 32 → nth_word made k ≡ get_or (eight_words m n r d) k 0
  header-word k h l =
      let size : length head ≡ 32 = length-bytes (eight_words m n r d) in
      ap (λ (s : List ℕ). nth_word s k) by-head
      ∙ word-front (head ++ bytes_of instructions ++ bytes_of regions) held k (omega (arith, length-append (head ++ bytes_of instructions) (bytes_of regions), length-append head (bytes_of instructions)))
      ∙ word-front (head ++ bytes_of instructions) (bytes_of regions) k (omega (arith, length-append head (bytes_of instructions)))
      ∙ word-front head (bytes_of instructions) k (omega arith)
      ∙ word_at (eight_words m n r d) k h l

  long : header_size ≤ length made
  unfolding image_of bytes_of
  long = omega arith

  magic-back : magic_ok made ≡ true
  unfolding image_of
  magic-back = refl

  -- counts that a word can hold are found again
  pub record HeaderBack : Type 0 where
    pub memory : field_m made ≡ m
    pub code : field_n made ≡ n
    pub regions-read : field_r made ≡ r
    pub data-read : field_d made ≡ d

  pub fields_back : m < 2 ^ 32 → n < 2 ^ 32 → r < 2 ^ 32 → d < 2 ^ 32 → HeaderBack
  fields_back hm hn hr hd =
      record {
        memory = header-word 1 (omega arith) hm;
        code = header-word 2 (omega arith) hn;
        regions-read = header-word 4 (omega arith) hr;
        data-read = header-word 6 (omega arith) hd;
      }

  -- of counts out of limits the reader sees that first
  pub refused-limits : HeaderBack → limits_ok m n r d ≡ false → refusal_of made ≡ refused out_of_limits 0
  unfolding refusal_of
  refused-limits f h = rw (f.memory, f.code, f.regions-read, f.data-read) (simp (le-leb header_size (length made) long, magic-back, h))

  -- within them it finds what is wrong with the entries, and nothing else
  module _ (whole : Counted m instructions regions d) where
    pub counted-fields : HeaderBack
    counted-fields =
        fields_back (omega (arith, whole.limits.memory)) (omega (arith, whole.limits.code)) (omega (arith, whole.limits.regions)) (omega (arith, whole.limits.held))

    layout-back : layout_ok made n r d ≡ true
    layout-back =
        let few = whole.limits.code in
        let sparse = whole.limits.regions in
        simp (
          eq-eqb (code_offset made) header_size (header-word 3 (omega arith) (omega arith)),
          eq-eqb (region_offset made) (regions_at n) (header-word 5 (omega arith) (omega arith)),
          eq-eqb (data_offset made) (data_at n r) (header-word 7 (omega arith) (omega arith)),
          eq-eqb (length made) (size_of n r d) (image-length m instructions regions held whole),
        )

    pub refused-entries : limits_ok m n r d ≡ true → refusal_of made ≡ entries_refusal m instructions regions d
    unfolding refusal_of entries_refusal
    refused-entries h =
        let f = counted-fields in
        rw (f.memory, f.code, f.regions-read, f.data-read)
        (simp (le-leb header_size (length made) long, magic-back, h, layout-back, code-back m instructions regions held whole, region-back m instructions regions held whole))
