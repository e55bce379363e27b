-- `report::answered` meets its contract: each arm prints what the definition has for that answer. Assumes nothing.
use Rattle.recovery.specs.Recovery.{told}
use Rattle.recovery.specs.Interface.{recovered_of}
use Rattle.report.specs.Report.{answer_text}
use Rattle.report.proofs.answered.Goals as goal

pub returns-in-Err : goal.returns-in-Err
unfolding answer_text told recovered_of
returns-in-Err c = rw c.in-Err.is c.refused.ensures

pub returns-in-Ok-None : goal.returns-in-Ok-None
unfolding answer_text told recovered_of
returns-in-Ok-None c = let e = rw c.in-Ok-None.is at c.in-Ok-None.field-0-is in rw (c.in-Ok-None.is, e) c.new.ensures

pub returns-in-Ok-Some : goal.returns-in-Ok-Some
unfolding answer_text told recovered_of
returns-in-Ok-Some c = let e = rw c.in-Ok-Some.is at c.in-Ok-Some.field-0-is in rw (c.in-Ok-Some.is, e) c.finished.ensures
