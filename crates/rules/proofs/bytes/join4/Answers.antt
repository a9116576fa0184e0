-- What each byte is worth in the word is its place there.
use Rattle.std.proofs.Common.{rules, ◌∙◌, [], ◌∷◌, slice_index}
use Rattle.rules.proofs.ByteLaws.{joined-four}
use Rattle.rules.proofs.bytes.join4.Goals as goal

pub returns : goal.returns
returns c =
    c.from_le_bytes.ensures
    ∙ joined-four (slice_index (c.args.b0 ∷ c.args.b1 ∷ c.args.b2 ∷ c.args.b3 ∷ [])) (search rules) (search rules) (search rules)
