-- `printing::put_stamp` meets its contract: each arm prints what the definition has for it. Assumes nothing.
use Rattle.report.specs.Report.{stamp_text}
use Rattle.report.proofs.printing.put_stamp.Goals as goal

pub returns-in-None : goal.returns-in-None
unfolding stamp_text
returns-in-None c = rw c.in-None.is c.put.ensures

pub returns-in-Some : goal.returns-in-Some
unfolding stamp_text
returns-in-Some c = rw c.in-Some.is c.put_number.ensures
