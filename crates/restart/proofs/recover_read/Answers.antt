-- `restart::recover_read` meets its contract: a refused call, or recovery by the sizes that the trailer tells.
-- Assumes nothing.
use Rattle.std.proofs.Common.{◌∙◌}
use Rattle.restart.specs.inner.RestartLaws.{restarted-err, read-long, read-checked, read-refused, read_taken}
use Rattle.store.specs.inner.ResultLaws.{none-found, err-nonzero}
use Rattle.restart.proofs.recover_read.Goals as goal

pub returns-in_err-recover_read_refusal : goal.returns-in_err-recover_read_refusal
returns-in_err-recover_read_refusal c =
    restarted-err _ _ _ _ _ _ c.from_residual.ensures.1 (read-refused _ _ _ _ c.in_err-recover_read_refusal.ensures (err-nonzero _))

pub sizes_at_end-sizes-requires : goal.sizes_at_end-sizes-requires
sizes_at_end-sizes-requires c =
    read-long _ _ (none-found c.in_ok-recover_read_refusal.ensures)

pub recover_by-requires : goal.recover_by-requires
recover_by-requires c =
    let k = read-checked _ _ (none-found c.in_ok-recover_read_refusal.ensures) in
    rw c.sizes_at_end-sizes.ensures record { image = k.image; cache_len = k.same-cache; flags_len = k.same_flags }

pub returns : goal.returns
returns c =
    c.recover_by.ensures ∙ read_taken _ _ _ _ c.sizes_at_end-sizes.ensures (none-found c.in_ok-recover_read_refusal.ensures)
