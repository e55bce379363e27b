-- `lane_log::Log::latest` meets its contract: the one slot with the greatest timestamp closes the latest sequence, if it closes one. Assumes nothing.
use Rattle.lane_log.proofs.SearchLaws.{highest-is, candidate-lacks, candidate-chosen}
use Rattle.lane_log.proofs.Log.latest.Goals as goal

pub returns-then-best-self : goal.returns-then-best-self
returns-then-best-self c = candidate-lacks _ _ _ _ (highest-is _ _ _ c.highest-best.ensures) c.if-best-self.true

pub returns-in-Some : goal.returns-in-Some
returns-in-Some c = candidate-chosen _ _ _ _ (highest-is _ _ _ c.highest-best.ensures) c.candidate_closed.ensures c.in-Some.is
