use Rattle.checker.proofs.StepLaws.{room-check}
use Rattle.checker.proofs.GroupLaws.{access-law}
use Rattle.checker.proofs.step.Machine.access.Goals as goal

pub returns : goal.returns
returns c = search access-law

pub use_bytes-requires : goal.use_bytes-requires
use_bytes-requires c = room-check _ _ _ _ _ _ c.use_register.ensures.reports c.requires.0
