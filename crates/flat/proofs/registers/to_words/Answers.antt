use Rattle.std.proofs.Common.{◌≡◌, get_or, sym, refl, rules}
use Rattle.flat.proofs.FromFn.{made, mapped}
use Rattle.flat.proofs.registers.to_words.Goals as goal

pub returns : goal.returns
returns g c =
    sym
    (mapped g.W.Plain.plain c.args.values c.from_fn.result (search rules)
    (λ i d e h. sym (made _ (λ p. p.0.now ≡ c.args.values) (λ j y. y ≡ g.W.Plain.plain (get_or c.args.values j d)) (λ p j y q k s. search rules) refl c.from_fn.ensures.items i e (search rules))))
