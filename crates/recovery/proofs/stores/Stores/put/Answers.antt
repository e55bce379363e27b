-- `recovery::stores::Stores::put` meets its contract: the store is made, or the limit is used up.
-- Assumes nothing.
use Rattle.std.proofs.Common.{sym, ◌∙◌}
use Rattle.recovery.specs.inner.LimitLaws.{limited-made, limited-skipped}
use Rattle.recovery.proofs.stores.Stores.put.Goals as goal
use Rattle.recovery.proofs.stores.Stores.put.Goals.{then-self, else-self}

pub returns-clause-written : goal.returns-clause-written
returns-clause-written c =
    elim c.if-self.branch [
      | then-self w ↦ w.nvm-is ∙ sym (limited-made _ _ _ _ w.if-self.true)
      | else-self w ↦ w.nvm-is ∙ sym (limited-skipped _ _ _ _ w.if-self.false)
    ]
