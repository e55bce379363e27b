-- `txn::txn_ok` meets its contract. The loop's invariant: the check of the instructions from i on decides the whole. Assumes nothing.
use Rattle.std.proofs.Common.{◌≡◌, ◌-◌}
use Rattle.txn.specs.Txn.{instructions_from, current, all_by, txn_ok}
use Rattle.txn.proofs.txn_ok.Given as goal

abbrev pub invariant-loop-i : goal.invariant-loop-i
invariant-loop-i l = txn_ok l.most l.words l.txn ≡ all_by current l.words (instructions_from l.txn l.i (l.count - l.i))
