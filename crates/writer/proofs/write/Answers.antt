use Rattle.std.proofs.Common.{length, sym, ap, rules}
use Rattle.image.specs.Refusals.{Verdict}
use Rattle.writer.proofs.RefusalLaws.{may_write, answer-refused, answer-written}
use Rattle.writer.proofs.write.Goals as goal

pub returns-in_err-check : goal.returns-in_err-check
returns-in_err-check c =
    answer-refused c.args.m c.args.instructions.now c.args.regions.now c.args.«data».now c.args.out.now _ _ c.in_err-check.ensures (search rules)

pub put_image-requires : goal.put_image-requires
put_image-requires c =
    let a =
    may_write c.args.m c.args.instructions.now c.args.regions.now (length c.args.«data».now) (length c.args.out.now)
    (sym (ap (λ (v : Verdict). v.number) c.in_ok-check.ensures)) in
    (a.counted, a.fits)

pub returns : goal.returns
returns c =
    answer-written c.args.m c.args.instructions.now c.args.regions.now c.args.«data».now c.args.out.now _ _ c.in_ok-check.ensures c.put_image.ensures.value c.put_image.ensures.out_after
