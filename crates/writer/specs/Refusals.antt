-- How the code says a refusal of writing: its number and index, and what a call answers.
use Rattle.std.specs.Prelude.{ℕ, List, Result, Ok, Err}
use Rattle.image.specs.Refusals.{Verdict, accepted, refused}
use Rattle.image.specs.Refusals as reader
use Rattle.writer.specs.Writing.{Written, no_room, not_written}
use Rattle.writer.specs.declared.refusals.Refusal.{Refusal}
use Rattle.writer.specs.declared.refusals.Refusal.TheVariants.{Image, NoRoom}

-- the number of each refusal, and the index at fault, 0 where none is named
abbrev pub number_of : Refusal → ℕ
number_of (Image found) = reader.number_of found
number_of NoRoom = no_room

abbrev pub index_of : Refusal → ℕ
index_of (Image found) = reader.index_of found
index_of NoRoom = 0

abbrev pub verdict : Refusal → Verdict
verdict e = refused (number_of e) (index_of e)

-- the verdict of the checks
abbrev pub verdict_of : Result Unit Refusal → Verdict
verdict_of (Ok done) = accepted
verdict_of (Err e) = verdict e

-- the answer of a call, with the buffer that it leaves
abbrev pub written_of : Result ℕ Refusal → List ℕ → Written
written_of (Ok size) out = record { refusal = accepted; size = size; out = out }
written_of (Err e) out = not_written (verdict e) out
