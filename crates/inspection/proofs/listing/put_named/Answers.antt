-- `inspection::listing::put_named` meets its contract: the name, and then the numbers. The loop's invariant: the first i numbers are printed after
-- the name. The measure is how many are left.
-- Assumes nothing.
use Rattle.std.proofs.Common.{arith, rules}
use Rattle.report.specs.inner.PrintingLaws.{put_then, put_same, put-long, put-none}
use Rattle.inspection.specs.inner.LineLaws.{numbers-none, numbers_more, numbers-short, named-all}
use Rattle.inspection.proofs.listing.put_named.Goals as goal

pub loop-number-init : goal.loop-number-init
loop-number-init c = put_same (numbers-none _) (put-none _)

pub put_spaced-requires : goal.put_spaced-requires
put_spaced-requires c = let l = c.loop-number in
    omega (arith, c.requires, put-long c.put.ensures, put-long l.invariant, numbers-short c.args.numbers.now l.number-index)

pub loop-number-preserved : goal.loop-number-preserved
loop-number-preserved c = put_same (numbers_more _ _) (put_then c.loop-number.invariant c.put_spaced.ensures)

pub returns : goal.returns
returns c = let l = c.loop-number in
    put_same (named-all _ _ l.number-index (search rules)) (put_then c.put.ensures l.invariant)
