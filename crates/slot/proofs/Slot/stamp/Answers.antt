-- `Slot::stamp` meets its contract: its words are those of the definition, and they fit.
use Rattle.std.proofs.Common.{refl}
use Rattle.slot.specs.Slot.{stamp_of}
use Rattle.slot.proofs.Slot.stamp.Goals as goal

pub returns : goal.returns
unfolding stamp_of
returns c = refl
