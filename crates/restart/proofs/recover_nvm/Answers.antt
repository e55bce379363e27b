-- `restart::recover_nvm` meets its contract: either pair of arrays has a place for each slot.
-- Assumes nothing.
use Rattle.std.proofs.Common.{arith, rules}
use Rattle.recovery.specs.inner.LanesLaws.{numbers-small}
use Rattle.restart.proofs.recover_nvm.Goals as goal

pub overflow_mul-sizes : goal.overflow_mul-sizes
overflow_mul-sizes c = omega (arith, numbers-small _ c.requires.sizes-ok)

pub make_stores-requires-2-clause-lane_room : goal.make_stores-requires-2-clause-lane_room
make_stores-requires-2-clause-lane_room c = record { enough = numbers-small _ c.requires.sizes-ok; tree-long = search rules }
