-- Reader and writer undo each other: the theorem of specs/RoundTrip.antt.
use Prim.Native.Nat.{ℕ, ◌*◌, ◌/◌, ◌%◌, ◌^◌, ◌≤◌, ◌<◌}
use mathlib.Core.Path.{◌≡◌, refl, sym, ◌∙◌, ap}
use mathlib.Core.Bool.{Bool, true, false, ◌&&◌}
use mathlib.Core.List.{List, ◌++◌}
use native.Mathlib.Nat.{mul-mod_right}
use native.Mathlib.Omega.{arith}
use lib.ListN.{length, take, drop, length-drop}
use lib.Seq.{take-append_seam, take-add, take_all}
use borrow.Author.Tests.{le-leb, eq-eqb}
use Rattle.image.specs.Words.{Bytes}
use Rattle.image.specs.Format.{magic, header_size, regions_at, data_at, size_of, field_m, field_n, field_r, field_d, limits_ok, code_part, region_part, data_part}
use Rattle.image.specs.Rows.{fields_at}
use Rattle.image.specs.Refusals.{Reading, Verdict, accepted, unless, or_else, refusal_of, header_of, code_of}
use Rattle.image.specs.Accepted.{Accepted}
use Rattle.image.proofs.Parts.{bytes_drop, bytes-part}
use Rattle.image.proofs.AcceptedImage.{accepted-image, accepted-header, accepted-code, header-refusal, limits-pass, code-length, region-length, data-length}
use Rattle.writer.specs.Words.{bytes_of, first_words, words_of, Words, instruction_words, region_words}
use Rattle.writer.specs.Writing.{no_room, instruction_count, region_count, header_words, image_of, whole_entries, counts_ok, entries_refusal, room_ok, write_refusal, written, write_answer}
use Rattle.writer.specs.Pieces.{Counted}
use Rattle.writer.specs.RoundTrip.{HandsBack, RoundTrip}
use Rattle.writer.proofs.WordLaws.{words_back, first-bytes, bytes_back, length-first, words-fit, word-drop}
use Rattle.writer.proofs.EntryLaws.{fields-by-words}
use Rattle.writer.proofs.ImageLaws.{code-back, region-back, data-back}
use Rattle.writer.proofs.RefusalLaws.{counts-hold, may_write, answer-accepted, answer-number}
use Rattle.writer.proofs.ReadBack.{fields_back, refused-limits, counted-fields, refused-entries}

-- ---- what is written reads back
module _ (m : ℕ) (instructions regions held out : List ℕ) (bi : Words instructions) (br : Words regions) where
  abbrev made : List ℕ
  made = image_of m instructions regions held

  hands-back : Counted m instructions regions (length held) → (refusal_of made).number ≡ 0 → HandsBack made m instructions regions held
  hands-back whole h =
      let a = accepted-image made h in
      let f = counted-fields m instructions regions held whole in
      let header : header_of made ≡ record { m = m; n = instruction_count instructions; r = region_count regions; d = length held; refusal = accepted } =
      accepted-header made a ∙ rw (f.memory, f.code, f.regions-read, f.data-read) in
      let code : code_of made ≡ bytes_of instructions = accepted-code made a ∙ ap (code_part made) f.code ∙ code-back m instructions regions held whole in
      record {
        header = header;
        code_words = ap words_of code ∙ words_back instructions bi;
        fields = λ i l. ap (λ (s : List ℕ). fields_at s i) code ∙ fields-by-words instructions bi i (omega (arith, whole.whole_code));
        region_words = rw header (ap words_of (region-back m instructions regions held whole) ∙ words_back regions br);
        data_bytes = rw header (data-back m instructions regions held whole);
      }

  read_back : (write_answer m instructions regions held out).refusal.number ≡ 0
      → HandsBack (take (write_answer m instructions regions held out).size (write_answer m instructions regions held out).out) m instructions regions held
  read_back h =
      let z : (write_refusal m instructions regions (length held) (length out)).number ≡ 0 = answer-number m instructions regions held out h in
      let a = may_write m instructions regions (length held) (length out) z in
      let e : refusal_of made ≡ entries_refusal m instructions regions (length held) = refused-entries m instructions regions held a.counted (limits-pass a.counted.limits) in
      let answer = answer-accepted m instructions regions held out z in
      rw (answer, take-append_seam made (drop (length made) out)) (hands-back a.counted (ap (λ (f : Verdict). f.number) e ∙ a.entries))

-- ---- the writer refuses as the reader does
module _ (m : ℕ) (instructions regions held : List ℕ) (room : ℕ) where
  abbrev d : ℕ
  d = length held

  abbrev last : Verdict
  last = unless (room_ok instructions regions d room) no_room accepted

  abbrev Alike : Type 0
  Alike = write_refusal m instructions regions d room ≡ or_else (refusal_of (image_of m instructions regions held)) last

  alike : whole_entries instruction_words instructions && whole_entries region_words regions ≡ true
      → m < 2 ^ 32 → length instructions < 2 ^ 32 → length regions < 2 ^ 32 → length held < 2 ^ 32 → Alike
  unfolding write_refusal counts_ok
  alike w hm hi hr hd = go (limits_ok m (instruction_count instructions) (region_count regions) d) refl
    where
      go : (t : Bool) → limits_ok m (instruction_count instructions) (region_count regions) d ≡ t → Alike
      go true e =
          let whole : Counted m instructions regions d = counts-hold m instructions regions d (rw (w, e)) in
          rw (w, e, refused-entries m instructions regions held whole e)
      go false e = rw (w, e, refused-limits m instructions regions held (fields_back m instructions regions held hm (omega arith) (omega arith) hd) e)

-- ---- an accepted image, taken apart
module _ (s : List ℕ) (b : Bytes s) (a : Accepted s) where
  abbrev n : ℕ
  n = field_n s

  abbrev r : ℕ
  r = field_r s

  abbrev code : List ℕ
  code = words_of (code_part s n)

  abbrev places : List ℕ
  places = words_of (region_part s n r)

  abbrev filling : List ℕ
  filling = data_part s n r (field_d s)

  words-of-code : length code ≡ instruction_words * n
  words-of-code = length-first (code_part s n) (length (code_part s n) / 4) ∙ omega (arith, code-length s a)

  words-of-regions : length places ≡ region_words * r
  words-of-regions = length-first (region_part s n r) (length (region_part s n r) / 4) ∙ omega (arith, region-length s a)

  code-count : instruction_count code ≡ n
  code-count = omega (arith, words-of-code)

  region-count : region_count places ≡ r
  region-count = omega (arith, words-of-regions)

  code-again : bytes_of code ≡ code_part s n
  code-again = bytes_back (code_part s n) (instruction_words * n) (bytes-part s header_size (8 * n) b) (omega (arith, code-length s a))

  regions-again : bytes_of places ≡ region_part s n r
  regions-again = bytes_back (region_part s n r) (region_words * r) (bytes-part s (regions_at n) (12 * r) b) (omega (arith, region-length s a))

  header-again : magic ++ bytes_of (header_words (field_m s) n r (field_d s)) ≡ take header_size s
  unfolding first_words
  header-again =
      let words : first_words (drop 4 s) 7 ≡ header_words (field_m s) n r (field_d s) = simp (word-drop, a.layout.code, a.layout.regions, a.layout.held) in
      let bytes : bytes_of (header_words (field_m s) n r (field_d s)) ≡ take 28 (drop 4 s) =
      ap bytes_of (sym words) ∙ first-bytes (drop 4 s) 7 (bytes_drop 4 s b) (omega (arith, a.long, length-drop 4 s)) in
      sym (take-add 4 28 s ∙ ap (λ (t : List ℕ). t ++ take 28 (drop 4 s)) a.starts ∙ ap (λ (t : List ℕ). magic ++ t) (sym bytes))

  image-again : image_of (field_m s) code places filling ≡ s
  unfolding image_of
  image-again =
      rw (code-count, region-count, data-length s a)
      (ap (λ (t : List ℕ). t ++ bytes_of code ++ bytes_of places ++ filling) header-again
      ∙ rw (code-again, regions-again)
      (ap (λ (t : List ℕ). t ++ region_part s n r ++ filling) (sym (take-add header_size (8 * n) s))
      ∙ ap (λ (t : List ℕ). t ++ filling) (sym (take-add (regions_at n) (12 * r) s))
      ∙ sym (take-add (data_at n r) (field_d s) s)
      ∙ take_all (size_of n r (field_d s)) s (omega (arith, a.layout.size))))

  handed : HandsBack s (field_m s) code places filling
  handed =
      let header = accepted-header s a in
      record {
        header = header ∙ rw (code-count, region-count, data-length s a);
        code_words = ap words_of (accepted-code s a);
        fields = λ i l.
            ap (λ (t : List ℕ). fields_at t i) (accepted-code s a ∙ sym code-again)
            ∙ fields-by-words code (words-fit (code_part s n) (length (code_part s n) / 4) (bytes-part s header_size (8 * n) b)) i (omega (arith, words-of-code));
        region_words = rw header;
        data_bytes = rw header;
      }

-- ---- and written again
module _ (s : List ℕ) (b : Bytes s) (m : ℕ) (instructions regions held : List ℕ) (p : HandsBack s m instructions regions held) where
  none-refused : refusal_of s ≡ accepted
  none-refused = sym (header-refusal s) ∙ ap (λ (h : Reading). h.refusal) p.header

  known : Accepted s
  known = accepted-image s (ap (λ (f : Verdict). f.number) none-refused)

  same-header : header_of s ≡ record { m = field_m s; n = field_n s; r = field_r s; d = field_d s; refusal = accepted }
  same-header = accepted-header s known

  same-m : m ≡ field_m s
  same-m = ap (λ (h : Reading). h.m) (sym p.header ∙ same-header)

  same_code : instructions ≡ words_of (code_part s (field_n s))
  same_code = sym p.code_words ∙ ap words_of (accepted-code s known)

  same-regions : regions ≡ words_of (region_part s (field_n s) (field_r s))
  same-regions = sym p.region_words ∙ ap (λ (h : Reading). words_of (region_part s h.n h.r)) same-header

  same-data : held ≡ data_part s (field_n s) (field_r s) (field_d s)
  same-data = sym p.data_bytes ∙ ap (λ (h : Reading). data_part s h.n h.r h.d) same-header

  handed-image : image_of m instructions regions held ≡ s
  handed-image = rw (same-m, same_code, same-regions, same-data) (image-again s b known)

  written-again : (out : List ℕ) → length s ≤ length out → write_answer m instructions regions held out ≡ written s out
  written-again out h =
      let codes : length instructions ≡ instruction_words * field_n s = ap length same_code ∙ words-of-code s b known in
      let places : length regions ≡ region_words * field_r s = ap length same-regions ∙ words-of-regions s b known in
      let filling : length held ≡ field_d s = ap length same-data ∙ data-length s known in
      let l = known.limits in
      let whole : whole_entries instruction_words instructions && whole_entries region_words regions ≡ true = simp (eq-eqb _ _ (ap (λ (x : ℕ). x % instruction_words) codes ∙ mul-mod_right instruction_words (field_n s)), eq-eqb _ _ (ap (λ (x : ℕ). x % region_words) places ∙ mul-mod_right region_words (field_r s))) in
      let room : room_ok instructions regions (length held) (length out) ≡ true =
      le-leb (size_of (instruction_count instructions) (region_count regions) (length held)) (length out) (omega (arith, known.layout.size)) in
      let none : write_refusal m instructions regions (length held) (length out) ≡ accepted =
      alike m instructions regions held (length out) whole (omega (arith, same-m, l.memory)) (omega (arith, l.code)) (omega (arith, l.regions)) (omega (arith, l.held))
      ∙ rw (handed-image, none-refused, room) in
      answer-accepted m instructions regions held out (ap (λ (f : Verdict). f.number) none) ∙ ap (λ (t : List ℕ). written t out) handed-image

-- what is handed back of an image
same-fields : (s : List ℕ) (m m' : ℕ) (instructions instructions' regions regions' held held' : List ℕ)
    → HandsBack s m instructions regions held → HandsBack s m' instructions' regions' held'
    → (m ≡ m') × (instructions ≡ instructions') × (regions ≡ regions') × (held ≡ held')
same-fields s m m' instructions instructions' regions regions' held held' p q =
    (ap (λ (h : Reading). h.m) (sym p.header ∙ q.header), sym p.code_words ∙ q.code_words, sym p.region_words ∙ q.region_words, sym p.data_bytes ∙ q.data_bytes)

pub round_trip : RoundTrip
round_trip =
    record {
      reads_back = read_back;
      handed_back = λ s b h. handed s b (accepted-image s h);
      writes_back = λ s b m instructions regions held out p h. written-again s b m instructions regions held p out h;
      one_image = λ s t b b' m instructions regions held p q. sym (handed-image s b m instructions regions held p) ∙ handed-image t b' m instructions regions held q;
      one_reading = same-fields;
      refuses_alike = alike;
    }
