-- `inspection::listing::put_line` meets its contract: the name and numbers, and then the end of the line.
-- Assumes nothing.
use Rattle.std.proofs.Common.{arith}
use Rattle.report.specs.inner.PrintingLaws.{put_then, put-room}
use Rattle.inspection.specs.Inspection.{line_of}
use Rattle.inspection.specs.inner.LineLaws.{named-short}
use Rattle.inspection.proofs.listing.put_line.Goals as goal

pub put-requires : goal.put-requires
put-requires c = omega (arith, put-room _ 1 c.put_named.ensures (named-short _ _) c.requires)

pub returns : goal.returns
unfolding line_of
returns c = put_then c.put_named.ensures c.put.ensures
