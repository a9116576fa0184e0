use Rattle.std.proofs.Common.{rules}
use Rattle.commands.proofs.ListLaws.{ports-from}
use Rattle.commands.proofs.outputs.ports_ok.Goals as goal

pub returns : goal.returns
returns c =
    let p = c.all.ensures.runs.0 in
    let places = c.chunks_exact.ensures.runs p p.seen (search rules) in
    ports-from c.args.outputs.now _
    (λ e k l. let q = p.reads k c.args.outputs (search rules) in let at = places.2 k in search rules)
    (λ e. let any = (rw e at (c.all.ensures.runs.2)) (search rules) in let at = places.2 any.0 in (any.0, search rules, search rules))
