-- The refusals of the calls, and how the code says them: their numbers and indices, what a test and a reading say.
use Rattle.std.specs.Prelude.{ℕ, Result, Ok, Err}
use Rattle.image.specs.declared.Header.{Header}
use Rattle.image.specs.Refusals.{Verdict, Reading, accepted, refused, reading, no_fields, number_of as image_number, index_of as image_index}
use Rattle.machine.specs.Calls.{wrong_size, too_many_steps, wrong_mark, wrong_count}
use Rattle.checker.specs.declared.refusals.Refusal.{Refusal}
use Rattle.checker.specs.declared.refusals.Refusal.TheVariants.{Image, WrongSize, TooManySteps, WrongMark, WrongCount}

-- the number of each refusal, and the index at fault, 0 where none is named
abbrev pub number_of : Refusal → ℕ
number_of (Image e) = image_number e
number_of WrongSize = wrong_size
number_of TooManySteps = too_many_steps
number_of WrongMark = wrong_mark
number_of WrongCount = wrong_count

abbrev pub index_of : Refusal → ℕ
index_of (Image e) = image_index e
index_of WrongSize = 0
index_of TooManySteps = 0
index_of WrongMark = 0
index_of WrongCount = 0

abbrev pub verdict : Refusal → Verdict
verdict e = refused (number_of e) (index_of e)

-- what is said of an image and a call's arguments: M, N, R and D, or the refusal
abbrev pub reading_of : Result Header Refusal → Reading
reading_of (Ok found) = reading found accepted
reading_of (Err e) = reading no_fields (verdict e)
