-- The outputs that the bare machine made are, as words, the first places of the checker's list; so they make the same commands.
use Prim.Native.Nat.{ℕ, zero, suc, ◌+◌, ◌*◌, ◌≤◌}
use mathlib.Core.Path.{◌≡◌, refl, sym, ap, ◌∙◌}
use mathlib.Core.List.{List, [], ◌∷◌, ◌++◌}
use native.Mathlib.Numerals.{add-one}
use native.Mathlib.Omega.{arith}
use lib.ListN.{get_or, take}
use lib.Seq.{take-suc}
use Rattle.machine.specs.Instructions.{Output, output}
use Rattle.machine.specs.Lists.{output_size, output_places, outputs_in}
use Rattle.commands.specs.Answers.{answer_of}
use Rattle.assured.specs.Commands.{list_of, outputs_made, EqualCommands}

-- the words of one output more
one_more : (os : List Output) (o : Output) → list_of (os ++ (o ∷ [])) ≡ (list_of os ++ (o.port ∷ [])) ++ (o.value ∷ [])
unfolding list_of
one_more [] o = refl
one_more (p ∷ os) o = ap (λ (t : List ℕ). p.port ∷ p.value ∷ t) (one_more os o)

-- the outputs in the first n places, as words, are these places
places-words : (n : ℕ) (l : List ℕ) → n ≤ output_places l → list_of (outputs_in n l) ≡ take (output_size * n) l
unfolding outputs_in list_of
places-words zero l h = refl
places-words (suc n) l h =
    let size : output_size * suc n ≡ suc (suc (output_size * n)) = omega arith in
    let first = take-suc l (output_size * n) 0 (omega arith) in
    let second = take-suc l (suc (output_size * n)) 0 (omega arith) in
    one_more (outputs_in n l) (output (get_or l (output_size * n) 0) (get_or l (output_size * n + 1) 0))
    ∙ rw (places-words n l (omega arith), add-one, size, second, first)

pub equal-commands : EqualCommands
unfolding EqualCommands
equal-commands w c together =
    let same : outputs_made w ≡ list_of c.outputs = sym (ap list_of together.outputs ∙ places-words w.counts.outputs w.output_list together.placed) in
    record { words = same; commands = λ number. ap (λ (words : List ℕ). answer_of words number) same }
