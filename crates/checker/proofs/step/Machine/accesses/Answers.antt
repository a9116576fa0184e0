use Rattle.checker.proofs.DispatchLaws.{told-load, told-store, may-as, steps-as}
use Rattle.checker.proofs.step.Machine.accesses.Goals as goal

pub store-requires : goal.store-requires
store-requires c = may-as (told-store c.requires.0 c.width_of-width.ensures c.d-d.ensures c.a-a.ensures c.imm-offset.ensures c.requires.1 c.is_store.ensures c.if-is_store.true) c.requires.2

pub returns-then-is_store : goal.returns-then-is_store
returns-then-is_store c = steps-as (told-store c.requires.0 c.width_of-width.ensures c.d-d.ensures c.a-a.ensures c.imm-offset.ensures c.requires.1 c.is_store.ensures c.if-is_store.true) c.store.ensures

pub load-requires : goal.load-requires
load-requires c = may-as (told-load c.requires.0 c.width_of-width.ensures c.d-d.ensures c.a-a.ensures c.imm-offset.ensures c.requires.1 c.is_store.ensures c.widening_of.ensures c.if-is_store.false) c.requires.2

pub returns-else-is_store : goal.returns-else-is_store
returns-else-is_store c = steps-as (told-load c.requires.0 c.width_of-width.ensures c.d-d.ensures c.a-a.ensures c.imm-offset.ensures c.requires.1 c.is_store.ensures c.widening_of.ensures c.if-is_store.false) c.load.ensures
