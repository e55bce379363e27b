-- `lane_log::Log::latest_near` meets its contract: what the slot closes is the latest sequence where no other slot can hold a timestamp as high.
-- Assumes nothing.
use Rattle.std.proofs.Common.{sym, ◌∙◌}
use Rattle.lane_log.proofs.SearchLaws.{near-latest}
use Rattle.lane_log.proofs.Log.latest_near.Goals as goal

pub returns-in-Some : goal.returns-in-Some
returns-in-Some c =
    near-latest _ _ _ _ _ c.candidate_closed.ensures c.in-Some.is (sym c.has_rival.ensures ∙ c.if-not-has_rival.true)
