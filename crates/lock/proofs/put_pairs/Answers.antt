-- `lock::put_pairs` meets its contract: the loop has put the writes below `i`. Assumes nothing.
use Rattle.std.proofs.Common.{rules, take_all}
use Rattle.lock.specs.inner.PartsLaws.{put-none, put-more}
use Rattle.lock.proofs.put_pairs.Goals as goal

pub loop-i-init : goal.loop-i-init
loop-i-init c = put-none c.args.writes.now _ (search rules)

pub loop-i-preserved : goal.loop-i-preserved
loop-i-preserved c = let l = c.loop-i in put-more _ l.i l.pairs l.invariant (search rules)

pub returns : goal.returns
returns c =
    let t = take_all c.loop-i.i c.args.writes.now (search rules) in
    rw (← t) c.loop-i.invariant
