-- `append::log` meets its contract: a refused call is the step refused; no words settle the lane, a transaction is logged.
-- Assumes nothing.
use Rattle.std.proofs.Common.{refl, sym, ap, ◌∙◌}
use Rattle.store.specs.Interface.{keeps}
use Rattle.append.specs.inner.LogMarkLaws.{log-refused, log-refuses, settle-checks, settle-step}
use Rattle.store.specs.inner.ResultLaws.{none-found, answered-err, err-nonzero}
use Rattle.append.proofs.log.Goals as goal

pub returns-in_err-log_checks : goal.returns-in_err-log_checks
returns-in_err-log_checks c =
    rw (answered-err _ _ c.from_residual.ensures.1)
    (log-refuses _ _ _ _ _ _ _ _ (log-refused _ _ _ _ _ c.in_err-log_checks.ensures (err-nonzero _)) (err-nonzero _))

pub settle-requires : goal.settle-requires
settle-requires c =
    settle-checks _ _ _ _ c.if-txn-eq0.true _ (sym (none-found c.in_ok-log_checks.ensures)) refl

pub returns-then-txn-eq0 : goal.returns-then-txn-eq0
returns-then-txn-eq0 c =
    c.settle.ensures ∙ ap (keeps _) (settle-step _ _ _ _ c.if-txn-eq0.true)

pub log_txn-requires-clause-flags_value : goal.log_txn-requires-clause-flags_value
log_txn-requires-clause-flags_value c = none-found c.in_ok-log_checks.ensures
