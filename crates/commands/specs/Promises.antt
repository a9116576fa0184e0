-- What `command` promises, for every list and every number. The list is lent to be read, and stays as it is.
use Rattle.std.specs.Prelude.{ℕ, ◌≡◌, List}
use Rattle.commands.specs.Answers.{Answer, answer_of, numbers_of, numbers_at, RateIsNumber}

pub record CommandPromise (outputs : List ℕ) (number : ℕ) (r : Answer) : Type 0 where
  -- it is the answer of the definition, in which a rate is the float whose bits the value is
  pub answer : r ≡ answer_of outputs number
  -- its numbers are the list's own words: the bits of a rate are the value
  pub numbers : numbers_of r ≡ numbers_at outputs number
  -- and it carries no rate that is not a number
  pub rate : RateIsNumber r
