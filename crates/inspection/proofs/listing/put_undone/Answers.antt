-- `inspection::listing::put_undone` meets its contract: the loop's invariant: the lines of the sequences passed are printed. Assumes nothing.
use Rattle.std.proofs.Common.{arith, take, length-take-le}
use Rattle.report.specs.inner.PrintingLaws.{put_then, put-long, put-none, put_same}
use Rattle.inspection.specs.inner.ListingLaws.{undo-none, undo-more, undo-short}
use Rattle.inspection.proofs.listing.put_undone.Goals as goal

pub loop-sequence-init : goal.loop-sequence-init
loop-sequence-init c = put_same (undo-none c.args.order.now) (put-none _)

pub put_line-requires : goal.put_line-requires
put_line-requires c =
    let l = c.loop-sequence in
    let order = c.args.order.now in
    omega (arith, c.requires, put-long l.invariant, length-take-le l.sequence-index order (omega arith), undo-short (take l.sequence-index order))

pub loop-sequence-preserved : goal.loop-sequence-preserved
loop-sequence-preserved c =
    let l = c.loop-sequence in
    put_same (undo-more c.args.order.now l.sequence-index _ c.loop-sequence-test.true) (put_then l.invariant c.put_line.ensures)
