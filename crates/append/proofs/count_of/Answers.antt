-- `append::count_of` meets its contract: no words write nothing, others as their run does.
-- Assumes nothing.
use Rattle.std.proofs.Common.{length, ap, ◌∙◌}
use Rattle.append.specs.inner.LogMarkLaws.{count_none}
use Rattle.append.proofs.count_of.Goals as goal

pub returns-then-txn-eq0 : goal.returns-then-txn-eq0
returns-then-txn-eq0 c = count_none _ _ _ c.if-txn-eq0.true

pub returns : goal.returns
returns c = c.len.ensures.value ∙ ap length c.writes_on.ensures
