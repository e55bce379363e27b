-- `floor` is the floor of the lane whose words these are. Assumes nothing.
use Rattle.std.proofs.Common.{◌∙◌, ap}
use Rattle.codec.specs.Fields.{lane_of}
use Rattle.record.specs.declared.Lane.{Lane}
use Rattle.codec.proofs.read.floor.Goals as goal

pub returns : goal.returns
unfolding lane_of
returns c = c.floor_from.ensures ∙ ap (λ (l : Lane). l.floor) c.lane_words.ensures
