-- `lane_log::Log::highest` meets its contract: each slot that can hold a timestamp is compared. Assumes nothing.
use Rattle.std.proofs.Common.{rules, ◌∙◌}
use Rattle.lane_log.specs.inner.Search.{higher}
use Rattle.lane_log.proofs.SearchLaws.{higher-skips, candidate-range}
use Rattle.lane_log.proofs.Log.highest.Goals as goal

pub returns : goal.returns
returns c = let l = c.args.self.now in
    c.fold_high.ensures (λ best j. higher l.log.now j best) (λ a j r e. search rules) (higher-skips l.log.now) ∙ candidate-range l.base l.log.now l.slots
