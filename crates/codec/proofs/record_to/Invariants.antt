-- `record_to` stores `words_of`: the loop has stored what is before the lanes and the lanes below `l`. Assumes nothing.
use Rattle.std.proofs.Common.{◌≤◌, ◌+◌, ◌*◌}
use Rattle.image.specs.Image.{max_lanes}
use Rattle.codec.specs.Fields.{lane_length, record_length}
use Rattle.codec.specs.inner.FieldsLaws.{Begun, up_to}
use Rattle.codec.proofs.record_to.Given as goal

abbrev pub invariant-loop-l : goal.invariant-loop-l
invariant-loop-l l = (l.l ≤ max_lanes) × (Begun record_length (up_to l.fn.state l.l) (2 + lane_length * l.l) l.words)
