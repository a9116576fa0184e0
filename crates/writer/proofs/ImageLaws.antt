-- The parts of an image that is made of lists: where they stand, how they are put there, how they are found again.
use Prim.Native.Nat.{ℕ, ◌+◌, ◌*◌, ◌≤◌}
use mathlib.Core.Path.{◌≡◌, refl, sym, ◌∙◌, ap}
use mathlib.Core.List.{List, ◌++◌, append_assoc}
use native.Mathlib.Omega.{arith}
use lib.ListN.{length, take, drop, length-append}
use lib.Seq.{sets, sets-eq, take_at, drop_at, take-length}
use Rattle.image.specs.Format.{magic, header_size, regions_at, data_at, size_of, code_part, region_part, data_part}
use Rattle.writer.specs.Words.{bytes_of}
use Rattle.writer.specs.Writing.{instruction_count, region_count, header_words, image_of}
use Rattle.writer.specs.Pieces.{Counted}
use Rattle.writer.proofs.WordLaws.{length-bytes}
use Rattle.writer.proofs.Putting.{sets-append, none-put, more-put}

-- the header, put in two pieces
pub header-put : (l o₁ o₂ words : List ℕ) (m n r d : ℕ) → o₁ ≡ sets l 0 magic → words ≡ header_words m n r d → o₂ ≡ sets o₁ 4 (bytes_of words)
    → o₂ ≡ sets l 0 (magic ++ bytes_of (header_words m n r d))
header-put l o₁ o₂ words m n r d e₁ e e₂ =
    e₂
    ∙ ap (λ (ws : List ℕ). sets o₁ 4 (bytes_of ws)) e
    ∙ ap (λ (x : List ℕ). sets x 4 (bytes_of (header_words m n r d))) e₁
    ∙ sym (sets-append l 0 magic (bytes_of (header_words m n r d)))

module _ (m : ℕ) (instructions regions held : List ℕ) (whole : Counted m instructions regions (length held)) where
  abbrev n : ℕ
  n = instruction_count instructions

  abbrev r : ℕ
  r = region_count regions

  abbrev made : List ℕ
  made = image_of m instructions regions held

  abbrev head : List ℕ
  head = magic ++ bytes_of (header_words m n r (length held))

  code-bytes : length (bytes_of instructions) ≡ 8 * n
  code-bytes = omega (arith, length-bytes instructions, whole.whole_code)

  region-bytes : length (bytes_of regions) ≡ 12 * r
  region-bytes = omega (arith, length-bytes regions, whole.whole_regions)

  -- where the parts end
  head-length : length head ≡ header_size
  unfolding bytes_of
  head-length = refl

  code-end : length (head ++ bytes_of instructions) ≡ regions_at n
  code-end = omega (arith, length-append head (bytes_of instructions), head-length, code-bytes)

  regions-end : length (head ++ bytes_of instructions ++ bytes_of regions) ≡ data_at n r
  regions-end = omega (arith, length-append (head ++ bytes_of instructions) (bytes_of regions), code-end, region-bytes)

  pub image-length : length made ≡ size_of n r (length held)
  unfolding image_of
  image-length = omega (arith, length-append (head ++ bytes_of instructions ++ bytes_of regions) held, regions-end)

  -- ---- put one after the other, at places that were worked out
  pub image-put : (l o₁ o₂ o₃ o₄ : List ℕ) (n' r' at₁ at₂ : ℕ) → n' ≡ n → r' ≡ r → at₁ ≡ regions_at n' → at₂ ≡ data_at n' r'
      → o₁ ≡ sets l 0 (magic ++ bytes_of (header_words m n' r' (length held))) → o₂ ≡ sets o₁ header_size (bytes_of instructions) → o₃ ≡ sets o₂ at₁ (bytes_of regions)
      → o₄ ≡ sets o₃ at₂ held
      → (at₂ + length held ≡ length made) × (o₄ ≡ sets l 0 made)
  unfolding image_of
  image-put l o₁ o₂ o₃ o₄ n' r' at₁ at₂ en er a₁ a₂ e₁ e₂ e₃ e₄ =
      let begins : o₁ ≡ sets l 0 head = e₁ ∙ ap (λ (k : ℕ). sets l 0 (magic ++ bytes_of (header_words m k r' (length held)))) en ∙ ap (λ (k : ℕ). sets l 0 (magic ++ bytes_of (header_words m n k (length held)))) er in
      let p₁ = more-put (none-put l 0) 0 head head o₁ refl refl begins in
      let p₂ = more-put p₁ header_size (bytes_of instructions) (head ++ bytes_of instructions) o₂ (omega (arith, head-length)) refl e₂ in
      let p₃ = more-put p₂ at₁ (bytes_of regions) (head ++ bytes_of instructions ++ bytes_of regions) o₃ (omega (arith, code-end)) refl e₃ in
      (omega (arith, image-length), (more-put p₃ at₂ held made o₄ (omega (arith, regions-end)) refl e₄).holds)

  -- ---- found again
  pub code-back : code_part made n ≡ bytes_of instructions
  unfolding image_of
  code-back =
      let rest = bytes_of instructions ++ (bytes_of regions ++ held) in
      let e : made ≡ head ++ rest = simp append_assoc in
      ap (λ (s : List ℕ). code_part s n) e
      ∙ ap (take (8 * n)) (drop_at head rest header_size head-length)
      ∙ take_at (bytes_of instructions) (bytes_of regions ++ held) (8 * n) code-bytes

  pub region-back : region_part made n r ≡ bytes_of regions
  unfolding image_of
  region-back =
      let e : made ≡ head ++ bytes_of instructions ++ (bytes_of regions ++ held) = append_assoc (head ++ bytes_of instructions) (bytes_of regions) held in
      ap (λ (s : List ℕ). region_part s n r) e
      ∙ ap (take (12 * r)) (drop_at (head ++ bytes_of instructions) (bytes_of regions ++ held) (regions_at n) code-end)
      ∙ take_at (bytes_of regions) held (12 * r) region-bytes

  pub data-back : data_part made n r (length held) ≡ held
  unfolding image_of
  data-back = ap (take (length held)) (drop_at (head ++ bytes_of instructions ++ bytes_of regions) held (data_at n r) regions-end) ∙ take-length held

-- what is put from the front on begins the list, and what is past it stays
pub put_front : (l xs : List ℕ) → length xs ≤ length l → sets l 0 xs ≡ xs ++ drop (length xs) l
put_front l xs h = sets-eq xs l 0 (omega arith) ∙ ap (λ (k : ℕ). xs ++ drop k l) (let e : 0 + length xs ≡ length xs = omega arith in e)
