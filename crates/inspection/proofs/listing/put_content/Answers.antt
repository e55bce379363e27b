-- `inspection::listing::put_content` meets its contract: each arm prints the text of its case.
-- Assumes nothing.
use Rattle.inspection.specs.Inspection.{content_text}
use Rattle.inspection.proofs.listing.put_content.Goals as goal

pub returns-in-Empty : goal.returns-in-Empty
unfolding content_text
returns-in-Empty c = rw c.in-Empty.is c.put.ensures

pub returns-in-Torn : goal.returns-in-Torn
unfolding content_text
returns-in-Torn c = rw c.in-Torn.is c.put-in-Torn.ensures

pub returns-in-Entry : goal.returns-in-Entry
unfolding content_text
returns-in-Entry c = rw c.in-Entry.is c.put_line.ensures

pub returns-in-Stamp : goal.returns-in-Stamp
unfolding content_text
returns-in-Stamp c = rw c.in-Stamp.is c.put_line-in-Stamp.ensures
