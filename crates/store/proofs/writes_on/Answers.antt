-- `store::writes_on` meets its contract: the part handed to the run is the data words.
use Rattle.std.proofs.Common.{◌∙◌, arith, rules}
use Rattle.store.specs.inner.CachedWritesLaws.{data-part}
use Rattle.store.proofs.writes_on.Goals as goal

pub overflow_add-end : goal.overflow_add-end
overflow_add-end g c = omega (arith, (data-part _ _ c.requires.image).most)

pub slice_bounds-run-end : goal.slice_bounds-run-end
slice_bounds-run-end g c = (data-part _ _ c.requires.image).inside

pub run-requires : goal.run-requires
run-requires g c = (search rules, (rw (data-part _ _ c.requires.image).in-data c.requires.txn_value, c.requires.most_bound))

pub returns : goal.returns
returns g c = let d = data-part _ _ c.requires.image in c.run.ensures ∙ rw (d.in-data, d.is-data)
