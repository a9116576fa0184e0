-- Registers and V words as plain words.
use Rattle.std.specs.Prelude.{ℕ, List, map}
use Rattle.rules.specs.declared.Data.{Data}
use Rattle.rules.specs.declared.Shadow.{Shadow}

abbrev pub data_words : List Data → List ℕ
data_words = map (λ (x : Data). x.0)

abbrev pub shadow_words : List Shadow → List ℕ
shadow_words = map (λ (v : Shadow). v.0)
