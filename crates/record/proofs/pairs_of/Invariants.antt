-- `record::pairs_of` is `pairs_of`: the loop has the redo log of the writes below `i`.
use Rattle.std.proofs.Common.{◌≡◌, take}
use Rattle.txn.specs.Txn.{max_writes}
use Rattle.record.specs.Record.{pairs_of}
use Rattle.record.proofs.pairs_of.Given as goal

abbrev pub invariant-loop-i : goal.invariant-loop-i
invariant-loop-i l = l.pairs ≡ pairs_of max_writes (take l.i l.writes)
