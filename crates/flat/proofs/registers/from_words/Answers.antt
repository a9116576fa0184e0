use Rattle.std.proofs.Common.{◌≡◌, get_or, refl, rules}
use Rattle.flat.proofs.FromFn.{made, mapped}
use Rattle.flat.proofs.registers.from_words.Goals as goal

pub returns : goal.returns
returns g c =
    mapped g.W.Plain.plain c.from_fn.result c.args.words (search rules)
    (λ i d e h. made _ (λ p. p.0.now ≡ c.args.words) (λ j y. g.W.Plain.plain y ≡ get_or c.args.words j e) (λ p j y q k s. search rules) refl c.from_fn.ensures.items i d (search rules))
