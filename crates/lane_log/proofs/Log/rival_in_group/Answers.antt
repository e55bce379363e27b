-- `lane_log::Log::rival_in_group` meets its contract: each slot is asked, and a group of which no slot can hold a timestamp has no rival. Assumes nothing.
use Rattle.std.proofs.Common.{rules, refl, sym, ◌+◌, ◌∙◌, arith}
use Rattle.std.proofs.lemmas.Iterator.{YieldsList-from_range}
use Rattle.std.proofs.lemmas.Iterator.Search.{any_from_yields_List}
use Rattle.lane_log.specs.inner.Search.{group, rival}
use Rattle.lane_log.proofs.SearchLaws.{rival-low}
use Rattle.lane_log.proofs.Log.rival_in_group.Goals as goal

pub returns-then-any_high : goal.returns-then-any_high
returns-then-any_high c =
    let a = c.args in
    any_from_yields_List (rival a.self.now.log.now a.slot a.least) _ _ _ c.any.ensures.ran (YieldsList-from_range a.j (a.j + group) group refl (omega arith))
    (λ x b q k. search rules)

pub returns-else-any_high : goal.returns-else-any_high
returns-else-any_high c = c.if-any_high.false ∙ rival-low _ _ _ _ (sym c.any_high.ensures ∙ c.if-any_high.false)
