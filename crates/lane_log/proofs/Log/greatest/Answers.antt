-- `lane_log::Log::greatest` meets its contract: each slot is asked. Assumes nothing.
use Rattle.std.proofs.Common.{rules, refl, ◌∙◌}
use Rattle.lane_log.specs.inner.Search.{greater, closed_at}
use Rattle.lane_log.proofs.Ranges.{range-folds}
use Rattle.lane_log.proofs.SearchLaws.{greatest-range}
use Rattle.lane_log.proofs.Log.greatest.Goals as goal

pub returns : goal.returns
returns c = let l = c.args.self.now in
    range-folds (λ best j. greater best (closed_at l.words l.slots l.base l.log.now j)) l.slots refl (λ b x r q k. search rules) c.fold.ensures.ran
    ∙ greatest-range l.words l.slots l.base l.log.now l.slots
