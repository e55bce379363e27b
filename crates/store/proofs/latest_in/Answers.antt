-- `store::latest_in` meets its contract: which lane it is does not matter to its latest sequence. Assumes nothing.
use Rattle.std.proofs.Common.{sym, ◌∙◌}
use Rattle.lane_log.specs.inner.LogLaws.{latest-in}
use Rattle.store.proofs.latest_in.Goals as goal

pub returns : goal.returns
returns c = let e = c.of.ensures in c.latest.ensures ∙ rw (e.words, e.slots, e.base, e.log) (sym (latest-in _ _ _))
