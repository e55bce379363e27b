-- `lane_log::tail::append_entries` meets its contract. The loop's invariant (`Appended`): the entries of the first i writes are stored and flushed. Assumes nothing.
use Rattle.lane_log.specs.inner.AppendLaws.{Appended}
use Rattle.lane_log.proofs.tail.append_entries.Given as goal

abbrev pub invariant-loop-write : goal.invariant-loop-write
invariant-loop-write l = Appended l.start l.slots l.lane l.writes l.initial.end l.initial.cache l.initial.flags l.write-index l.end l.cache l.flags
