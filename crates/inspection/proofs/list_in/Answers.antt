-- `inspection::list_in` meets its contract: each arm is that of its place of the sizes.
-- Assumes nothing.
use Rattle.inspection.proofs.list_in.Goals as goal

pub list_given-requires : goal.list_given-requires
list_given-requires c = rw c.in-Start.is at c.requires

pub list_told-requires : goal.list_told-requires
list_told-requires c = rw c.in-End.is at c.requires

pub returns-in-Start : goal.returns-in-Start
returns-in-Start c = rw c.in-Start.is c.list_given.ensures

pub returns-in-End : goal.returns-in-End
returns-in-End c = rw c.in-End.is c.list_told.ensures
