use Rattle.std.proofs.Common.{refl, ◌∙◌, arith, rules, replicate}
use Rattle.capi.proofs.StateWords.{second-long, regs-put, regs_v-put, counts-put}
use Rattle.capi.proofs.words_of.Goals as goal

pub returns : goal.returns
returns c = record {
  regs = regs-put c.copy_from_slice.new.self c.copy_from_slice-2.new.self c.copy_from_slice-3.new.self _ (search rules) (search rules) (search rules) refl ∙ search rules;
  regs_v = regs_v-put c.copy_from_slice.new.self c.copy_from_slice-2.new.self c.copy_from_slice-3.new.self _ (search rules) (search rules) (search rules) refl ∙ search rules;
  counts = counts-put c.copy_from_slice.new.self c.copy_from_slice-2.new.self c.copy_from_slice-3.new.self _ (search rules) (search rules) (search rules) refl ∙ search rules;
}

pub slice_bounds-words-end-3 : goal.slice_bounds-words-end-3
slice_bounds-words-end-3 c = omega (arith, second-long c.copy_from_slice.new.self c.copy_from_slice-2.new.self (replicate 20 0) (search rules) (search rules) refl)
