-- `image::flush::EachWay::drain` meets its contract. The loop's invariant: the words below i are drained, and no other is changed. Assumes nothing.
use Rattle.image.specs.inner.DrainLaws.{DrainedOn}
use Rattle.image.proofs.flush.EachWay.drain.Given as goal

abbrev pub invariant-loop-i : goal.invariant-loop-i
invariant-loop-i l = DrainedOn l.mask l.cache 0 l.initial.nvm l.initial.flags l.i l.nvm l.flags
