-- Reader and writer undo each other (02, L2). `round_trip` in proofs/RoundTrip.antt is the proof.
use Rattle.std.specs.Prelude.{ℕ, ◌^◌, ◌<◌, ◌≤◌, ◌≡◌, true, ◌&&◌, List, length, take}
use Rattle.image.specs.Words.{Bytes}
use Rattle.image.specs.Format.{field_m, field_n, field_r, field_d, code_part, region_part, data_part}
use Rattle.image.specs.Rows.{fields_at}
use Rattle.image.specs.Refusals.{accepted, unless, or_else, refusal_of, header_of, code_of}
use Rattle.writer.specs.Words.{words_of, Words, instruction_words, region_words, fields_in}
use Rattle.writer.specs.Writing.{no_room, instruction_count, region_count, image_of, whole_entries, room_ok, write_refusal, written, write_answer}

-- of the image s the reader hands back these: its refusal is none, M, N, R and D are the counts, the parts at the computed offsets have these words and
-- bytes, and the fields of each instruction are those of its two words
pub record HandsBack (s : List ℕ) (m : ℕ) (instructions regions held : List ℕ) : Type 0 where
  pub header : header_of s ≡ record { m = m; n = instruction_count instructions; r = region_count regions; d = length held; refusal = accepted }
  pub code_words : words_of (code_of s) ≡ instructions
  pub fields : (i : ℕ) → i < instruction_count instructions → fields_at (code_of s) i ≡ fields_in instructions i
  pub region_words : words_of (region_part s (header_of s).n (header_of s).r) ≡ regions
  pub data_bytes : data_part s (header_of s).n (header_of s).r (header_of s).d ≡ held

pub record RoundTrip : Type 0 where
  -- whatever is written reads back as what went in: the image is as many bytes of the buffer as the answer says
  pub reads_back : (m : ℕ) (instructions regions held out : List ℕ) → Words instructions → Words regions
      → (write_answer m instructions regions held out).refusal.number ≡ 0
      → HandsBack (take (write_answer m instructions regions held out).size (write_answer m instructions regions held out).out) m instructions regions held
  -- any accepted image is handed back
  pub handed_back : (s : List ℕ) → Bytes s → (refusal_of s).number ≡ 0
      → HandsBack s (field_m s) (words_of (code_part s (field_n s))) (words_of (region_part s (field_n s) (field_r s))) (data_part s (field_n s) (field_r s) (field_d s))
  -- and what is handed back, written to a buffer that is long enough, gives the same bytes
  pub writes_back : (s : List ℕ) → Bytes s → (m : ℕ) (instructions regions held out : List ℕ) → HandsBack s m instructions regions held
      → length s ≤ length out
      → write_answer m instructions regions held out ≡ written s out
  -- the same fields have one image
  pub one_image : (s t : List ℕ) → Bytes s → Bytes t → (m : ℕ) (instructions regions held : List ℕ)
      → HandsBack s m instructions regions held → HandsBack t m instructions regions held
      → s ≡ t
  -- and one image has one set of fields
  pub one_reading : (s : List ℕ) (m m' : ℕ) (instructions instructions' regions regions' held held' : List ℕ)
      → HandsBack s m instructions regions held → HandsBack s m' instructions' regions' held'
      → (m ≡ m') × (instructions ≡ instructions') × (regions ≡ regions') × (held ≡ held')
  -- the writer refuses whole lists, whose counts a header can hold, as the reader refuses their image, and then by 12
  pub refuses_alike : (m : ℕ) (instructions regions held : List ℕ) (room : ℕ)
      → whole_entries instruction_words instructions && whole_entries region_words regions ≡ true
      → m < 2 ^ 32 → length instructions < 2 ^ 32 → length regions < 2 ^ 32 → length held < 2 ^ 32
      → write_refusal m instructions regions (length held) room
      ≡ or_else (refusal_of (image_of m instructions regions held)) (unless (room_ok instructions regions (length held) room) no_room accepted)
