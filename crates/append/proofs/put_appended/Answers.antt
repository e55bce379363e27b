-- `append::put_appended` meets its contract: the record with its clock and its lane's head stored, written in normal form.
-- Assumes nothing.
use Rattle.append.specs.inner.LogMarkLaws.{appended-words}
use Rattle.append.proofs.put_appended.Goals as goal

pub returns : goal.returns
returns c =
    appended-words _ _ _ _ _ _ _ _ _ _ _ _ c.floor.ensures c.floor_after_drain-floor.ensures c.floor_after_append.ensures
    c.set_clock.ensures c.set_head.ensures c.normalise.ensures
