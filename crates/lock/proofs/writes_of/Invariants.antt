-- `lock::writes_of` meets its contract: the loop has the writes of the first `i` pairs. Assumes nothing.
use Rattle.std.proofs.Common.{◌≡◌, take}
use Rattle.store.specs.Locks.{pair_writes}
use Rattle.lock.proofs.writes_of.Given as goal

abbrev pub invariant-loop-i : goal.invariant-loop-i
invariant-loop-i l = l.writes ≡ pair_writes (take l.i l.part) l.memory
