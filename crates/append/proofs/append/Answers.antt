-- `append::append` meets its contract: the append starts where the lane's log does.
-- Assumes nothing.
use Rattle.append.specs.inner.LogMarkLaws.{append_at}
use Rattle.append.proofs.append.Goals as goal

pub append-requires : goal.append-requires
append-requires c =
    let p = c.requires in
    record { loggable = p.writes; within = p.place; log_at = append_at _ _ _ _ _ _ _ _ p c.log_start-start.ensures; stamp_bound = p.room }
