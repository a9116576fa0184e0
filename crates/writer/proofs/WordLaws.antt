-- Words to bytes and back.
use Prim.Native.Nat.{ℕ, zero, suc, ◌+◌, ◌*◌, ◌/◌, ◌^◌, ◌<◌, ◌≤◌}
use mathlib.Core.Path.{◌≡◌, refl, sym, ◌∙◌, ap}
use mathlib.Core.List.{List, [], ◌∷◌, ◌++◌}
use native.Mathlib.Nat.{mod-eq_of_lt}
use native.Mathlib.Omega.{arith}
use lib.ListN.{length, get_or, take, drop, get_or-append}
use lib.Seq.{get_or-append-add, get_or-drop, take-append-add, take_all}
use Rattle.rules.specs.Bytes.{byte_of, joined}
use Rattle.rules.proofs.ByteLaws.{joined_bytes, byte-joined}
use Rattle.image.specs.Words.{nth_word, Bytes}
use Rattle.image.proofs.Parts.{bytes_drop}
use Rattle.image.proofs.DecodedFits.{word_lt}
use Rattle.writer.specs.Words.{word_bytes, bytes_of, first_words, words_of, Words}

pub length-bytes : (ws : List ℕ) → length (bytes_of ws) ≡ 4 * length ws
unfolding bytes_of
length-bytes [] = refl
length-bytes (w ∷ ws) = omega (arith, length-bytes ws)

pub bytes-append : (vs ws : List ℕ) → bytes_of (vs ++ ws) ≡ bytes_of vs ++ bytes_of ws
unfolding bytes_of
bytes-append [] ws = refl
bytes-append (v ∷ vs) ws = rw (bytes-append vs ws)

-- byte j of word k
of_four : (w : ℕ) (s : List ℕ) (j : ℕ) → j < 4 → get_or (word_bytes w ++ s) (0 + j) 0 ≡ byte_of j w
of_four w s zero h = refl
of_four w s (suc zero) h = refl
of_four w s (suc (suc zero)) h = refl
of_four w s (suc (suc (suc zero))) h = refl
of_four w s (suc (suc (suc (suc j)))) h = absurd (omega arith)

pub byte_at : (ws : List ℕ) (k j : ℕ) → k < length ws → j < 4 → get_or (bytes_of ws) (4 * k + j) 0 ≡ byte_of j (get_or ws k 0)
unfolding bytes_of
byte_at [] k j h l = absurd (omega arith)
byte_at (w ∷ ws) zero j h l = of_four w (bytes_of ws) j l
byte_at (w ∷ ws) (suc k) j h l =
    let e : 4 * suc k + j ≡ 4 + (4 * k + j) = omega arith in
    ap (λ (i : ℕ). get_or (word_bytes w ++ bytes_of ws) i 0) e ∙ get_or-append-add (word_bytes w) (bytes_of ws) (4 * k + j) 0 ∙ byte_at ws k j (omega arith) l

-- four bytes in their places make the word
four-joined : (s : List ℕ) (k w : ℕ) → ((j : ℕ) → j < 4 → get_or s (4 * k + j) 0 ≡ byte_of j w) → w < 2 ^ 32 → nth_word s k ≡ w
unfolding nth_word joined
four-joined s k w h l = rw (h 0 (omega arith), h 1 (omega arith), h 2 (omega arith), h 3 (omega arith)) (joined_bytes 4 w ∙ mod-eq_of_lt l)

pub word_at : (ws : List ℕ) (k : ℕ) → k < length ws → get_or ws k 0 < 2 ^ 32 → nth_word (bytes_of ws) k ≡ get_or ws k 0
word_at ws k h l = four-joined (bytes_of ws) k (get_or ws k 0) (λ j q. byte_at ws k j h q) l

-- ---- there and back
-- the words of the bytes of words
first-words : (ws : List ℕ) → Words ws → first_words (bytes_of ws) (length ws) ≡ ws
unfolding bytes_of first_words
first-words [] b = refl
first-words (w ∷ ws) b =
    let e : nth_word (word_bytes w ++ bytes_of ws) 0 ≡ w = four-joined (word_bytes w ++ bytes_of ws) 0 w (λ j q. of_four w (bytes_of ws) j q) (b 0) in
    rw (e, first-words ws (λ k. b (suc k)))

pub words_back : (ws : List ℕ) → Words ws → words_of (bytes_of ws) ≡ ws
words_back ws b =
    let e : length (bytes_of ws) / 4 ≡ length ws = omega (arith, length-bytes ws) in
    ap (first_words (bytes_of ws)) e ∙ first-words ws b

-- the bytes of the words of bytes
pub first-bytes : (s : List ℕ) (count : ℕ) → Bytes s → 4 * count ≤ length s → bytes_of (first_words s count) ≡ take (4 * count) s
unfolding bytes_of first_words nth_word
first-bytes s zero b h = refl
first-bytes [] (suc count) b h = absurd (omega arith)
first-bytes (x ∷ []) (suc count) b h = absurd (omega arith)
first-bytes (x ∷ y ∷ []) (suc count) b h = absurd (omega arith)
first-bytes (x ∷ y ∷ z ∷ []) (suc count) b h = absurd (omega arith)
first-bytes (x ∷ y ∷ z ∷ w ∷ s) (suc count) b h =
    let front = x ∷ y ∷ z ∷ w ∷ [] in
    let at : (k : ℕ) → k < 4 → byte_of k (joined 4 (λ j. get_or (x ∷ y ∷ z ∷ w ∷ s) (4 * 0 + j) 0)) ≡ get_or (x ∷ y ∷ z ∷ w ∷ s) (4 * 0 + k) 0 =
    λ k l. byte-joined 4 k (λ j. get_or (x ∷ y ∷ z ∷ w ∷ s) (4 * 0 + j) 0) (λ j q. b (4 * 0 + j)) l in
    let rest : bytes_of (first_words s count) ≡ take (4 * count) s = first-bytes s count (λ k. b (suc (suc (suc (suc k))))) (omega arith) in
    let e : 4 * suc count ≡ 4 + 4 * count = omega arith in
    rw (at 0 (omega arith), at 1 (omega arith), at 2 (omega arith), at 3 (omega arith), rest)
    (sym (ap (λ (k : ℕ). take k (x ∷ y ∷ z ∷ w ∷ s)) e ∙ take-append-add front s (4 * count)))

pub bytes_back : (s : List ℕ) (count : ℕ) → Bytes s → length s ≡ 4 * count → bytes_of (words_of s) ≡ s
bytes_back s count b h =
    let e : length s / 4 ≡ count = omega arith in
    ap (λ (k : ℕ). bytes_of (first_words s k)) e ∙ first-bytes s count b (omega arith) ∙ take_all (4 * count) s (omega arith)

pub length-first : (s : List ℕ) (count : ℕ) → length (first_words s count) ≡ count
unfolding first_words
length-first s zero = refl
length-first s (suc count) = ap suc (length-first (drop 4 s) count)

-- words that are read from bytes fit
pub words-fit : (s : List ℕ) (count : ℕ) → Bytes s → Words (first_words s count)
unfolding first_words
words-fit s zero b k = omega arith
words-fit s (suc count) b zero = word_lt s 0 b
words-fit s (suc count) b (suc k) = words-fit (drop 4 s) count (bytes_drop 4 s b) k

-- ---- words of two lists whose four bytes are the same
same_word : (s t : List ℕ) (k l : ℕ) → ((j : ℕ) → j < 4 → get_or s (4 * k + j) 0 ≡ get_or t (4 * l + j) 0) → nth_word s k ≡ nth_word t l
unfolding nth_word joined
same_word s t k l h = rw (h 0 (omega arith), h 1 (omega arith), h 2 (omega arith), h 3 (omega arith))

-- of a list that goes on
pub word-front : (s t : List ℕ) (k : ℕ) → 4 * k + 4 ≤ length s → nth_word (s ++ t) k ≡ nth_word s k
word-front s t k h = same_word (s ++ t) s k k (λ j l. get_or-append s t 0 (4 * k + j) (omega arith))

-- and without its first four bytes
pub word-drop : (s : List ℕ) (k : ℕ) → nth_word (drop 4 s) k ≡ nth_word s (suc k)
word-drop s k =
    same_word (drop 4 s) s k (suc k)
    (λ j l. get_or-drop 4 s (4 * k + j) 0 ∙ ap (λ (i : ℕ). get_or s i 0) (let e : 4 + (4 * k + j) ≡ 4 * suc k + j = omega arith in e))
