-- `lock::put_logged` meets its contract: the lock and the lane's head are stored. Assumes nothing.
use Rattle.lock.proofs.LockLaws.{logged-words}
use Rattle.lock.proofs.put_logged.Goals as goal

pub returns : goal.returns
returns c =
    logged-words _ _ _ _ _ _ _ _ _ _ _ c.part_length.ensures c.floor.ensures c.floor_after_drain-drained.ensures
    c.floor_after_append-floor.ensures c.set_lock.ensures c.set_head.ensures c.normalise.ensures
