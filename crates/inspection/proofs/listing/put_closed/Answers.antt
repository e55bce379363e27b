-- `inspection::listing::put_closed` meets its contract: each arm prints the text of its case.
-- Assumes nothing.
use Rattle.report.specs.inner.PrintingLaws.{put-none}
use Rattle.inspection.specs.inner.InspectionFacts.{closed_text}
use Rattle.inspection.proofs.listing.put_closed.Goals as goal

pub returns-in-None : goal.returns-in-None
unfolding closed_text
returns-in-None c = rw c.in-None.is (put-none _)

pub returns-in-Some : goal.returns-in-Some
unfolding closed_text
returns-in-Some c = rw c.in-Some.is c.put_sequence.ensures
