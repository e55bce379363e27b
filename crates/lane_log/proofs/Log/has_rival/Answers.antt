-- `lane_log::Log::has_rival` meets its contract: each group is asked, and each slot after the groups, until one can. Assumes nothing.
use Rattle.std.proofs.Common.{rules, refl, ◌*◌, ◌-◌, ◌/◌, ◌%◌, arith}
use Rattle.std.specs.List.{list_any, range_with_len}
use Rattle.std.proofs.lemmas.Iterator.{YieldsList-from_range}
use Rattle.std.proofs.lemmas.Iterator.Search.{any_from_yields_List}
use Rattle.lane_log.specs.inner.Search.{group, rival}
use Rattle.lane_log.proofs.SearchLaws.{rival-found, rival-later}
use Rattle.lane_log.proofs.Log.has_rival.Goals as goal

pub returns-then-any : goal.returns-then-any
returns-then-any c =
    let a = c.args in
    let log = a.self.now.log.now in
    let n = a.self.now.slots in
    rival-found log a.slot a.least n
    (any_from_yields_List (λ k. list_any (rival log a.slot a.least) (range_with_len (group * k) group)) _ _ _ c.any.ensures.ran
    (YieldsList-from_range 0 (n / group) (n / group) refl (omega arith))
    (λ x b q k. search rules))
    c.if-any.true

pub returns-else-any : goal.returns-else-any
returns-else-any c =
    let a = c.args in
    let log = a.self.now.log.now in
    let n = a.self.now.slots in
    rival-later log a.slot a.least n
    (any_from_yields_List (λ k. list_any (rival log a.slot a.least) (range_with_len (group * k) group)) _ _ _ c.any.ensures.ran
    (YieldsList-from_range 0 (n / group) (n / group) refl (omega arith))
    (λ x b q k. search rules))
    c.if-any.false
    (any_from_yields_List (rival log a.slot a.least) _ _ _ c.any-else-any.ensures.ran
    (YieldsList-from_range (n - n % group) n (n % group) refl (omega arith))
    (λ x b q k. search rules))
