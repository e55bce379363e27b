-- `lane_log::Log::would_hit` meets its contract: each slot that can be hit is asked. Assumes nothing.
use Rattle.std.proofs.Common.{rules, refl, sym, ◌+◌, ◌∙◌, arith}
use Rattle.std.proofs.lemmas.Iterator.{YieldsList-from_range}
use Rattle.std.proofs.lemmas.Iterator.Search.{any_from_yields_List}
use Rattle.slot.specs.Slot.{max_entries}
use Rattle.lane_log.specs.Append.{circular}
use Rattle.lane_log.specs.inner.Search.{hit_at}
use Rattle.lane_log.proofs.SearchLaws.{hits-none, hits-range, hits_at}
use Rattle.lane_log.proofs.Log.would_hit.Goals as goal

pub returns-in_default : goal.returns-in_default
returns-in_default c = hits-none _ _ _ _ c.in_default.is

pub returns : goal.returns
returns c =
    let a = c.args in
    let l = a.self.now in
    hits_at _ _ _ _ c.in-Some.is c.any.result (sym
    (any_from_yields_List (λ d. hit_at l.words l.slots l.base l.log.now a.next a.count c.in-Some.least (circular l.slots (a.next + d))) _ _ _ c.any.ensures.ran
    (YieldsList-from_range 0 (a.count + max_entries) (a.count + max_entries) refl (omega arith))
    (λ x b q k. search rules)
    ∙ hits-range l.words l.slots l.base l.log.now a.next a.count c.in-Some.least c.requires.next_lt_slots c.requires.le_count c.requires.max_entries_bound))
