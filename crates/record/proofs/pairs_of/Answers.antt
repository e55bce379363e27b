-- `record::pairs_of` is `pairs_of`: the loop has the redo log of the writes below `i`.
use Rattle.std.proofs.Common.{rules, ◌∙◌, ap, replicate, take_all}
use Rattle.txn.specs.Txn.{max_writes}
use Rattle.record.proofs.Loops.{redo-empty, redo-more}
use Rattle.record.proofs.pairs_of.Goals as goal

pub loop-i-init : goal.loop-i-init
loop-i-init c = ap (replicate max_writes) (search (rules, c.default-pairs.ensures)) ∙ redo-empty max_writes

pub loop-i-preserved : goal.loop-i-preserved
loop-i-preserved c = rw c.loop-i.invariant (redo-more max_writes c.args.writes.now c.loop-i.i)

pub returns : goal.returns
returns c =
    let t = take_all c.loop-i.i c.args.writes.now (search rules) in
    rw (← t) c.loop-i.invariant
