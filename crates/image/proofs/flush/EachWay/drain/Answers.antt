-- `image::flush::EachWay::drain` meets its contract. The loop's invariant: the words below i are drained, and no other is changed. Assumes nothing.
use Rattle.std.proofs.Common.{arith}
use Rattle.std.proofs.lemmas.List.{set-get_or}
use Rattle.image.specs.inner.DrainLaws.{on-copy, on-skip, on-whole}
use Rattle.image.proofs.flush.EachWay.drain.Goals as goal
use Rattle.image.proofs.flush.EachWay.drain.Goals.{then-is_flushed, else-is_flushed}

pub loop-i-preserved : goal.loop-i-preserved
loop-i-preserved c =
    let l = c.loop-i in
    let is = c.is_flushed.ensures in
    elim c.if-is_flushed.branch [
      | then-is_flushed w ↦
          rw (w.nvm-is, w.flags-is, w.write_back.ensures)
          (on-copy _ _ _ _ _ l.i l.nvm l.flags l.invariant (omega arith) (omega arith) _ is _ w.without_flush.ensures w.if-is_flushed.true)
      | else-is_flushed w ↦
          rw (w.nvm-is, w.flags-is, set-get_or l.flags l.i 0)
          (on-skip _ _ _ _ _ l.i l.nvm l.flags l.invariant (omega arith) (omega arith) _ is w.if-is_flushed.false)
    ]

pub returns : goal.returns
returns c = let l = c.loop-i in on-whole _ _ _ _ l.i l.nvm l.flags (omega arith) l.invariant
