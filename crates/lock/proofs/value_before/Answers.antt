-- `lock::value_before` meets its contract: the search goes back from the last pair. Assumes nothing.
use Rattle.std.proofs.Common.{◌==◌, sym, rules}
use Rattle.std.proofs.lemmas.Iterator.Search.{find_from_yields_List}
use Rattle.std.proofs.lemmas.Iterator.Adapters.{YieldsList-from_rev_slice}
use Rattle.record.specs.declared.Pair.{Pair}
use Rattle.lock.specs.inner.PartsLaws.{told}
use Rattle.lock.proofs.value_before.Goals as goal

pub returns-in-Some : goal.returns-in-Some
returns-in-Some c =
    let l = c.args.part.now in
    let e = find_from_yields_List (λ (p : Pair). p.word == c.args.word) _ _ c.find.result c.find.ensures.ran (YieldsList-from_rev_slice l (search rules)) (λ x b q k. search rules) in
    let t = told c.args.memory.now c.args.word c.requires l in
    sym (rw (← e, c.in-Some.is) at t)

pub returns-in-None : goal.returns-in-None
returns-in-None c =
    let l = c.args.part.now in
    let e = find_from_yields_List (λ (p : Pair). p.word == c.args.word) _ _ c.find.result c.find.ensures.ran (YieldsList-from_rev_slice l (search rules)) (λ x b q k. search rules) in
    let t = told c.args.memory.now c.args.word c.requires l in
    sym (rw (← e, c.in-None.is) at t)
