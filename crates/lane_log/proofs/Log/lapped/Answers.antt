-- `lane_log::Log::lapped` meets its contract: each slot below is asked. Assumes nothing.
use Rattle.std.proofs.Common.{rules, refl, ap, ◌*◌, ◌∙◌, get_or, bit_and}
use Rattle.slot.proofs.SlotBits.{low_bit}
use Rattle.lane_log.specs.Log.{slot_at}
use Rattle.lane_log.specs.inner.Search.{lap_over, lapped_below}
use Rattle.lane_log.proofs.Ranges.{range-folds}
use Rattle.lane_log.proofs.SearchLaws.{lapped-range}
use Rattle.lane_log.proofs.Log.lapped.Goals as goal

pub returns : goal.returns
returns c = let a = c.args in
    let l = a.self.now in
    let wrap = bit_and (get_or l.log.now (2 * a.found.slot) 0) 1 in
    range-folds (λ best k. lap_over l.words l.slots l.log.now a.found.stamp wrap k (slot_at l.words l.log.now k) best) a.found.slot refl (λ b x r q k. search rules) c.fold.ensures.ran
    ∙ lapped-range l.words l.slots l.log.now a.found.stamp wrap a.found a.found.slot
    ∙ ap (λ p. lapped_below l.words l.slots l.log.now a.found.stamp p a.found a.found.slot) (low_bit (get_or l.log.now (2 * a.found.slot) 0))
