-- `lane_log::Log::any_high` meets its contract: it is one comparison. Assumes nothing.
use Rattle.lane_log.proofs.SearchLaws.{any-high}
use Rattle.lane_log.proofs.Log.any_high.Goals as goal

pub returns : goal.returns
returns c = let a = c.args in any-high a.self.now.log.now a.j
