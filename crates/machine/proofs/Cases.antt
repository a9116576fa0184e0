-- The cases of specs/Cases.antt hold: the definitions compute to what was worked out by hand.
use mathlib.Core.Path.{◌≡◌, refl}
use mathlib.Core.List.{map}
use Rattle.rules.specs.Word.{bit, copies}
use Rattle.rules.specs.Bytes.{joined}
use Rattle.rules.specs.Operations.{action_of, shadow_of}
use Rattle.machine.specs.Ranges.{written, stored_where}
use Rattle.machine.specs.Instructions.{blocked, way_on, outputs_of}
use Rattle.machine.specs.Steps.{with_register, cleared, load_step, store_step, mark_step, acted, if_undefined, if_blocked, reports_of}
use Rattle.machine.specs.Bare.{bare_acted}
use Rattle.machine.specs.Lists.{entered}
use Rattle.machine.specs.Runs.{is_stop, is_emit, reason_at}
use Rattle.machine.specs.Cases.{Case, cases, outcome_of, BareCase, bare_cases, bare_given, ReasonCase, reason_cases, reason_given, EntryCase, entry_cases, list_given}

pub cases-hold : map outcome_of cases ≡ map (λ (c : Case). c.outcome) cases
unfolding bit copies joined action_of shadow_of written stored_where blocked way_on outputs_of with_register cleared load_step store_step mark_step acted if_undefined if_blocked reports_of
cases-hold = refl

pub bare-hold : map bare_given bare_cases ≡ map (λ (c : BareCase). c.value) bare_cases
unfolding bit copies joined bare_acted
bare-hold = refl

pub reasons-hold : map reason_given reason_cases ≡ map (λ (c : ReasonCase). c.reason) reason_cases
unfolding is_stop is_emit reason_at
reasons-hold = refl

pub entries-hold : map list_given entry_cases ≡ map (λ (c : EntryCase). c.list) entry_cases
unfolding written entered
entries-hold = refl
