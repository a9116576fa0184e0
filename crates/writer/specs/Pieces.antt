-- What the private functions ask for. Nobody has to believe it: what the call promises is said by Promises.antt.
use Rattle.std.specs.Prelude.{ℕ, ◌*◌, ◌≡◌, List, length}
use Rattle.image.specs.Accepted.{Limits}
use Rattle.writer.specs.Words.{instruction_words, region_words}
use Rattle.writer.specs.Writing.{instruction_count, region_count}

-- whole instructions, whole regions and d bytes of data, within the limits
pub record Counted (m : ℕ) (instructions regions : List ℕ) (d : ℕ) : Type 0 where
  pub whole_code : length instructions ≡ instruction_words * instruction_count instructions
  pub whole_regions : length regions ≡ region_words * region_count regions
  pub limits : Limits m (instruction_count instructions) (region_count regions) d
