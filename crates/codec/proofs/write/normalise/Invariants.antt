-- `normalise` leaves `words_of` of the record that it found: the loop has brought the lanes below `l` to normal form, and what is behind them is as it was.
-- Assumes nothing.
use Rattle.std.proofs.Common.{◌≤◌}
use Rattle.image.specs.Image.{max_lanes}
use Rattle.codec.proofs.WriteLaws.{Normalised}
use Rattle.codec.proofs.write.normalise.Given as goal

abbrev pub invariant-loop-l : goal.invariant-loop-l
invariant-loop-l l = (l.l ≤ max_lanes) × Normalised l.initial.words l.l l.words
