-- `inspection::listing::put_spaced` meets its contract: a space, and then the number.
-- Assumes nothing.
use Rattle.report.specs.inner.PrintingLaws.{put_then}
use Rattle.inspection.proofs.listing.put_spaced.Goals as goal

pub returns : goal.returns
returns c = put_then c.put.ensures c.put_number.ensures
