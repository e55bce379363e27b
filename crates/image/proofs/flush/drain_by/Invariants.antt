-- `image::flush::drain_by` meets its contract. The loop's invariant: the blocks that it has passed are drained, and no other word is changed.
-- Assumes nothing.
use Rattle.std.proofs.Common.{◌*◌}
use Rattle.image.specs.inner.DrainLaws.{DrainedOn}
use Rattle.image.proofs.flush.drain_by.Given as goal

abbrev pub invariant-loop-block : goal.invariant-loop-block
invariant-loop-block g l = DrainedOn l.mask l.cache 0 l.initial.nvm l.initial.flags (g.row.N * l.block) l.nvm l.flags
