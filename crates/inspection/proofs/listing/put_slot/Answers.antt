-- `inspection::listing::put_slot` meets its contract: the place, and then what the slot holds.
-- Assumes nothing.
use Rattle.report.specs.inner.PrintingLaws.{put_then, put-room}
use Rattle.inspection.specs.Inspection.{slot_line, content_room}
use Rattle.inspection.specs.inner.LineLaws.{named-short}
use Rattle.inspection.proofs.listing.put_slot.Goals as goal

pub put_content-requires : goal.put_content-requires
put_content-requires c = put-room _ content_room c.put_named.ensures (named-short _ _) c.requires

pub returns : goal.returns
unfolding slot_line
returns c = put_then c.put_named.ensures c.put_content.ensures
