-- What the private functions promise, which take a state of the code out of its words and put it there. Nobody has to believe it: what the
-- calls promise is said by Promises.antt.
use Rattle.std.specs.Prelude.{ℕ, ◌≡◌, List}
use Rattle.checker.specs.declared.State.{State}
use Rattle.flat.specs.Registers.{data_words, shadow_words}
use Rattle.checker.specs.Views.{counts_of}
use Rattle.capi.specs.Words.{regs_in, regs_v_in, counts_in}

-- the words are those of a state of the code
pub record Holds (words : List ℕ) (s : State) : Type 0 where
  pub regs : regs_in words ≡ data_words s.regs
  pub regs_v : regs_v_in words ≡ shadow_words s.shadows
  pub counts : counts_in words ≡ counts_of s.counts
