-- The two lists of a run (01, A run, its lists and its end): reports of four words, outputs of two.
use Rattle.std.specs.Prelude.{ℕ, zero, suc, ◌+◌, ◌*◌, ◌/◌, cond, List, [], ◌∷◌, ◌++◌, length, get_or, ltb}
use Rattle.machine.specs.Ranges.{written}
use Rattle.machine.specs.Instructions.{Output, output}
use Rattle.machine.specs.Steps.{Report}

abbrev pub report_size : ℕ
report_size = 4

abbrev pub output_size : ℕ
output_size = 2

-- how many places a list of outputs has
abbrev pub output_places : List ℕ → ℕ
output_places l = length l / output_size

-- the words of a report: steps taken before this one, instruction index, kind, detail; and of an output
abbrev pub report_words : (steps index : ℕ) → Report → List ℕ
report_words steps index r = steps ∷ index ∷ r.kind ∷ r.detail ∷ []

abbrev pub output_words : Output → List ℕ
output_words o = o.port ∷ o.value ∷ []

-- number k, an entry of so many words, goes to place k if there is one; the other places keep their words
unfoldable pub entered : (size k : ℕ) (words : List ℕ) → List ℕ → List ℕ
entered size k words l = cond (ltb k (length l / size)) (written (λ j. get_or words j 0) l (size * k) size) l

-- one after the other, from number k on
unfoldable pub reports_entered : (steps index k : ℕ) → List Report → List ℕ → List ℕ
reports_entered steps index k [] l = l
reports_entered steps index k (r ∷ rs) l = reports_entered steps index (suc k) rs (entered report_size k (report_words steps index r) l)

unfoldable pub outputs_entered : ℕ → List Output → List ℕ → List ℕ
outputs_entered k [] l = l
outputs_entered k (o ∷ os) l = outputs_entered (suc k) os (entered output_size k (output_words o) l)

-- the outputs in the first n places, of a list that has as many
unfoldable pub outputs_in : ℕ → List ℕ → List Output
outputs_in zero l = []
outputs_in (suc n) l = outputs_in n l ++ (output (get_or l (output_size * n) 0) (get_or l (output_size * n + 1) 0) ∷ [])
