-- Instructions and regions, as the reader finds them in the bytes and as the lists of words have them.
use Prim.Native.Nat.{ℕ, zero, suc, ◌+◌, ◌*◌, ◌/◌, ◌^◌, ◌≤◌, ◌<◌}
use mathlib.Core.Path.{◌≡◌, refl, sym, ◌∙◌, ap}
use mathlib.Core.Bool.{Bool, true, false, cond}
use mathlib.Core.List.{List, [], ◌∷◌}
use native.Mathlib.Omega.{arith}
use lib.ListN.{length, get_or, replicate}
use lib.Seq.{sets}
use borrow.Author.Tests.{lt-ltb, le-ltb}
use Rattle.rules.specs.Bytes.{byte_of}
use Rattle.image.specs.Rows.{row_of, fields_ok, built, decoded, Fields, fields_at, decoded_from, decode_at}
use Rattle.image.specs.Regions.{kind_of, region_at}
use Rattle.std.specs.Prelude.{Result, Ok, Err}
use Rattle.image.specs.declared.Instruction.{Instruction}
use Rattle.writer.specs.Words.{bytes_of, Words, instruction_words, fields_in}
use Rattle.writer.specs.Writing.{instruction_count, region_count}
use Rattle.writer.proofs.WordLaws.{length-bytes, byte_at, word_at}

-- an answer, with the fault at this place
unfoldable pub at_place : ℕ → Result Instruction ℕ → Result Instruction ℕ
at_place i (Ok instruction) = Ok instruction
at_place i (Err k) = Err i

placed-again : (i k : ℕ) (answer : Result Instruction ℕ) → at_place i (at_place k answer) ≡ at_place i answer
unfolding at_place
placed-again i k (Ok instruction) = refl
placed-again i k (Err j) = refl

module _ (ws : List ℕ) (b : Words ws) (i : ℕ) where
  -- ---- an instruction
  module _ (inside : instruction_words * i + instruction_words ≤ length ws) where
    first : (k : ℕ) → k < 4 → get_or (bytes_of ws) (8 * i + k) 0 ≡ byte_of k (get_or ws (2 * i) 0)
    first k l =
        let e : 8 * i + k ≡ 4 * (2 * i) + k = omega arith in
        ap (λ (j : ℕ). get_or (bytes_of ws) j 0) e ∙ byte_at ws (2 * i) k (omega arith) l

    pub fields-by-words : fields_at (bytes_of ws) i ≡ fields_in ws i
    fields-by-words = rw (first 0 (omega arith), first 1 (omega arith), first 2 (omega arith), first 3 (omega arith), word_at ws (2 * i + 1) (omega arith) (b (2 * i + 1)))

    row-by-words : (n m : ℕ) → decode_at (bytes_of ws) i n m ≡ at_place i (decoded_from (fields_in ws i) 0 n m)
    unfolding decode_at decoded at_place
    row-by-words n m =
        let f = fields_in ws i in
        let e : decode_at (bytes_of ws) i n m ≡ decoded_from f i n m =
        rw (lt-ltb i (length (bytes_of ws) / 8) (omega (arith, length-bytes ws))) (ap (λ (g : Fields). decoded_from g i n m) fields-by-words) in
        e ∙ whichever (fields_ok (row_of f.op) f.d f.a f.b f.imm n m) (built (row_of f.op) f.d f.a f.b f.imm)
      where
        whichever : (t : Bool) (v : Instruction) → cond t (Ok v) (Err i) ≡ at_place i (cond t (Ok v) (Err 0))
        whichever true v = refl
        whichever false v = refl

  -- ---- a region
  pub region-by-words : i < region_count ws
      → region_at (bytes_of ws) i ≡ record { start = get_or ws (3 * i) 0; size = get_or ws (3 * i + 1) 0; kind = kind_of (get_or ws (3 * i + 2) 0) }
  unfolding region_at
  region-by-words inside =
      rw (lt-ltb i (length (bytes_of ws) / 12) (omega (arith, length-bytes ws)), word_at ws (3 * i) (omega arith) (b (3 * i)), word_at ws (3 * i + 1) (omega arith) (b (3 * i + 1)), word_at ws (3 * i + 2) (omega arith) (b (3 * i + 2)))

-- the two words of an instruction, put into eight bytes by themselves
two-words : (x y : ℕ) → x < 2 ^ 32 → y < 2 ^ 32 → Words (x ∷ y ∷ [])
two-words x y hx hy zero = hx
two-words x y hx hy (suc zero) = hy
two-words x y hx hy (suc (suc k)) = omega arith

pub row-alone : (ws : List ℕ) → Words ws → (i : ℕ) → i < instruction_count ws → (n m : ℕ) (row : List ℕ)
    → row ≡ sets (replicate 8 0) 0 (bytes_of (get_or ws (2 * i) 0 ∷ get_or ws (2 * i + 1) 0 ∷ []))
    → decode_at (bytes_of ws) i n m ≡ at_place i (decode_at row 0 n m)
unfolding bytes_of
row-alone ws b i inside n m row e =
    let x = get_or ws (2 * i) 0 in
    let y = get_or ws (2 * i + 1) 0 in
    let alone : row ≡ bytes_of (x ∷ y ∷ []) = e in
    row-by-words ws b i (omega arith) n m
    ∙ sym
    (ap (λ (t : List ℕ). at_place i (decode_at t 0 n m)) alone
    ∙ ap (at_place i) (row-by-words (x ∷ y ∷ []) (two-words x y (b (2 * i)) (b (2 * i + 1))) 0 (omega arith) n m)
    ∙ placed-again i 0 (decoded_from (fields_in ws i) 0 n m))

-- ---- past the last
pub no-row : (ws : List ℕ) (i : ℕ) → instruction_count ws ≤ i → (n m : ℕ) → Err i ≡ decode_at (bytes_of ws) i n m
unfolding decode_at
no-row ws i past n m = rw (le-ltb i (length (bytes_of ws) / 8) (omega (arith, length-bytes ws))) refl

pub no-region : (ws : List ℕ) (i : ℕ) → region_count ws ≤ i → record { start = 0; size = 0; kind = kind_of 0 } ≡ region_at (bytes_of ws) i
unfolding region_at
no-region ws i past = rw (le-ltb i (length (bytes_of ws) / 12) (omega (arith, length-bytes ws))) refl
