-- `lane_log::Log::entries_whole` meets its contract: each entry back is asked. Assumes nothing.
use Rattle.std.proofs.Common.{rules, refl, ◌∙◌, ◌+◌, arith}
use Rattle.std.proofs.lemmas.Iterator.{YieldsList-from_range}
use Rattle.std.proofs.lemmas.Iterator.Search.{all_from_yields_List}
use Rattle.lane_log.specs.inner.Search.{entry_back}
use Rattle.lane_log.proofs.SearchLaws.{whole-range}
use Rattle.lane_log.proofs.Log.entries_whole.Goals as goal

pub returns : goal.returns
returns c =
    let a = c.args in
    let l = a.self.now in
    all_from_yields_List (λ i. entry_back l.words l.slots l.log.now a.j a.wrap (i + 1)) _ _ _ c.all.ensures.ran (YieldsList-from_range 0 a.count a.count refl (omega arith))
    (λ x b q k. search rules)
    ∙ whole-range l.words l.slots l.log.now a.j a.wrap a.count
