-- `lane_log::Log::search_all` meets its contract: the latest is the greatest sequence, or laps it. Assumes nothing.
use Rattle.std.proofs.Common.{◌∙◌}
use Rattle.lane_log.proofs.SearchLaws.{all_none, all-greatest, all-latest}
use Rattle.lane_log.proofs.Log.search_all.Goals as goal

pub returns-in_err-found : goal.returns-in_err-found
returns-in_err-found c = c.from_residual.ensures ∙ all_none _ _ _ _ c.greatest.ensures c.in_err-found.was

pub lapped-requires : goal.lapped-requires
lapped-requires c = (all-greatest _ _ _ _ c.greatest.ensures c.in_ok-found.was).low

pub returns : goal.returns
returns c = all-latest _ _ _ _ c.greatest.ensures c.in_ok-found.was c.lapped.ensures
