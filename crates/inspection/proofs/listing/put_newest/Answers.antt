-- `inspection::listing::put_newest` meets its contract: each arm prints the text of its case.
-- Assumes nothing.
use Rattle.std.proofs.Common.{arith}
use Rattle.report.specs.inner.PrintingLaws.{put_then, put-room}
use Rattle.inspection.specs.Inspection.{newest_line}
use Rattle.inspection.specs.inner.LineLaws.{named-short}
use Rattle.inspection.proofs.listing.put_newest.Goals as goal

pub put-requires : goal.put-requires
put-requires c = omega (arith, put-room 27 66 c.put_named.ensures (named-short _ _) c.requires)

pub returns-in-None : goal.returns-in-None
unfolding newest_line
returns-in-None c = rw c.in-None.is (put_then c.put_named.ensures c.put.ensures)

pub returns-in-Some : goal.returns-in-Some
unfolding newest_line
returns-in-Some c = rw c.in-Some.is c.put_sequence.ensures
