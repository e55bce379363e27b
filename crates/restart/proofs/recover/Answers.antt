-- `restart::recover` meets its contract: a refused call, or recovery by the sizes given. Assumes nothing.
use Rattle.std.proofs.Common.{◌∙◌}
use Rattle.restart.specs.inner.RestartLaws.{restarted-err, recover-checked, recover-refused, recover-taken}
use Rattle.store.specs.inner.ResultLaws.{none-found, err-nonzero}
use Rattle.restart.proofs.recover.Goals as goal

pub returns-in_err-recover_refusal : goal.returns-in_err-recover_refusal
returns-in_err-recover_refusal c =
    restarted-err _ _ _ _ _ _ c.from_residual.ensures.1 (recover-refused _ _ _ _ _ c.in_err-recover_refusal.ensures (err-nonzero _))

pub recover_by-requires : goal.recover_by-requires
recover_by-requires c =
    let k = recover-checked _ _ _ (none-found c.in_ok-recover_refusal.ensures) in
    record { image = k.image; cache_len = k.same-cache; flags_len = k.same_flags }

pub returns : goal.returns
returns c =
    c.recover_by.ensures ∙ recover-taken _ _ _ _ (none-found c.in_ok-recover_refusal.ensures)
