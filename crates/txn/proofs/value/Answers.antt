-- `txn::value` meets its contract: the search goes back from the last write to the word's bucket. Assumes nothing.
use Rattle.std.proofs.Common.{◌%◌, ◌==◌, take, slice_index, sym, rules}
use Rattle.std.proofs.lemmas.Iterator.Search.{find_from_yields_List}
use Rattle.std.proofs.lemmas.Iterator.Adapters.{YieldsList-from_rev_slice}
use Rattle.txn.specs.declared.Write.{Write}
use Rattle.txn.specs.inner.Lookup.{buckets}
use Rattle.txn.specs.inner.LookupLaws.{told}
use Rattle.txn.proofs.value.Goals as goal

pub returns-in-Some : goal.returns-in-Some
returns-in-Some c =
    let l = take (slice_index c.args.last.now (c.args.word % buckets)) c.args.writes.now in
    let e = find_from_yields_List (λ (w : Write). w.word == c.args.word) _ _ c.find.result c.find.ensures.ran (YieldsList-from_rev_slice l (search rules)) (λ x b q k. search rules) in
    let t = told c.args.memory.now c.args.word c.requires.word_in_bounds l in
    sym (rw (← e, c.in-Some.is) at t)

pub returns-in-None : goal.returns-in-None
returns-in-None c =
    let l = take (slice_index c.args.last.now (c.args.word % buckets)) c.args.writes.now in
    let e = find_from_yields_List (λ (w : Write). w.word == c.args.word) _ _ c.find.result c.find.ensures.ran (YieldsList-from_rev_slice l (search rules)) (λ x b q k. search rules) in
    let t = told c.args.memory.now c.args.word c.requires.word_in_bounds l in
    sym (rw (← e, c.in-None.is) at t)
