-- `lock::part_of` meets its contract: the loop has copied the first `i` pairs. Assumes nothing.
use Rattle.std.proofs.Common.{◌≡◌, refl, ◌+◌, ◌-◌, rules}
use Rattle.lock.specs.inner.PartsLaws.{copied_none, copied_more, chunk-is}
use Rattle.lock.proofs.part_of.Goals as goal

pub loop-i-init : goal.loop-i-init
loop-i-init c = copied_none _ _ _ refl

pub loop-i-preserved : goal.loop-i-preserved
loop-i-preserved c =
    let l = c.loop-i in
    let a = c.args in
    let k = chunk-is _ a.pairs.now c.as_chunks.result.0.now a.from (a.from + a.count - a.from) l.i c.as_chunks.ensures.front (search rules) (search rules) in
    copied_more _ _ l.i l.part _ l.invariant (search rules) k

pub returns : goal.returns
returns c =
    let e : c.loop-i.i ≡ c.args.count = search rules in
    rw e at c.loop-i.invariant.first
