-- `redo` is the redo log of the lane whose words these are. Assumes nothing.
use Rattle.std.proofs.Common.{◌∙◌, ap}
use Rattle.codec.specs.Fields.{lane_of}
use Rattle.record.specs.declared.Lane.{Lane}
use Rattle.codec.proofs.read.redo.Goals as goal

pub returns : goal.returns
unfolding lane_of
returns c = c.redo_from.ensures ∙ ap (λ (l : Lane). l.redo) c.lane_words.ensures
