-- `recovery::undo_order` meets its contract: its arrays have a place for each slot, and what is read into them is listed.
-- Assumes nothing.
use Rattle.std.proofs.Common.{rules}
use Rattle.recovery.specs.inner.LanesLaws.{numbers-small, trees-own}
use Rattle.recovery.proofs.undo_order.Goals as goal

pub scan-found-requires-clause-lane_room : goal.scan-found-requires-clause-lane_room
scan-found-requires-clause-lane_room c =
    record { enough = numbers-small _ c.requires.image.sizes-ok; tree-long = search rules }

pub list_all-requires-clause-lane_trees : goal.list_all-requires-clause-lane_trees
list_all-requires-clause-lane_trees c =
    let t = c.scan-found.ensures.trees in
    record { trees = trees-own t; enough = rw t.long (numbers-small _ c.requires.image.sizes-ok) }
