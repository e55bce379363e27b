-- `report::reading::decode` meets its contract. The loop's invariant: the words that it has passed are read. Assumes nothing.
use Rattle.std.proofs.Common.{rules}
use Rattle.report.specs.inner.ReadingLaws.{decoded-none, decoded-more, decoded-all}
use Rattle.report.proofs.reading.decode.Goals as goal

pub loop-i-init : goal.loop-i-init
loop-i-init c = decoded-none c.args.input.now c.args.first c.args.nvm.now

pub loop-i-preserved : goal.loop-i-preserved
loop-i-preserved c = let l = c.loop-i in
    decoded-more _ _ l.nvm l.i _ (search rules) l.invariant c.word_at.ensures

pub returns : goal.returns
returns c = let l = c.loop-i in
    decoded-all _ _ l.nvm l.i _ (search rules) (search rules) l.invariant
