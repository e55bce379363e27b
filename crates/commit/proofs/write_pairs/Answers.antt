-- `commit::write_pairs` meets its contract: the loop has written and flushed the pairs before the present one.
use Rattle.std.proofs.Common.{refl, rules, take_all}
use Rattle.commit.specs.inner.CommitLaws.{written_none, written-more}
use Rattle.commit.proofs.write_pairs.Goals as goal

pub loop-pair-init : goal.loop-pair-init
loop-pair-init c = written_none _ _ _ _

pub loop-pair-preserved : goal.loop-pair-preserved
loop-pair-preserved c =
    let l = c.loop-pair in
    let flush = c.set_flush.ensures c.args.lane c.lane_mask-mask.ensures in
    written-more _ _ _ _ l.pair-index l.cache l.flags l.invariant (search rules) _ _ refl flush

pub returns : goal.returns
returns c =
    let l = c.loop-pair in
    let t = take_all l.pair-index c.args.pairs.now (search rules) in
    record { written = rw (← t) l.invariant.written; flushed = rw (← t) l.invariant.flushed }
