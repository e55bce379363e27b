-- `lock::put_taken` meets its contract: clock, lock and floor are stored. Assumes nothing.
use Rattle.lock.proofs.LockLaws.{taken-words}
use Rattle.lock.proofs.put_taken.Goals as goal

pub returns : goal.returns
returns c =
    taken-words _ _ _ _ _ _ _ _ c.set_clock.ensures c.set_lock.ensures c.put_drained.ensures
