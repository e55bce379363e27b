-- `phase` is the phase of the lane whose words these are. Assumes nothing.
use Rattle.codec.specs.inner.ReadLaws.{phase-there}
use Rattle.codec.proofs.read.phase.Goals as goal

pub returns : goal.returns
returns c = phase-there _ _ _ c.phase_from.ensures c.lane_words.ensures
