-- `store::format` meets its contract: a refused call is the step refused, and otherwise the filled buffers and the start record are a start.
-- Assumes nothing.
use Rattle.std.proofs.Common.{refl, sym}
use Rattle.store.specs.Calls.{format_step, started}
use Rattle.store.specs.inner.FormatLaws.{length-start_image}
use Rattle.store.specs.inner.StoreLaws.{format-checked, step-taken}
use Rattle.store.specs.Interface.{step_of}
use Rattle.store.specs.inner.ResultLaws.{none-found, format-err}
use Rattle.store.proofs.format.Goals as goal

pub returns-in_err-format_refusal : goal.returns-in_err-format_refusal
unfolding format_step
returns-in_err-format_refusal c =
    format-err _ _ _ _ _ _ _ c.from_residual.ensures.1 c.in_err-format_refusal.ensures

pub fill-requires : goal.fill-requires
fill-requires c =
    let k = format-checked _ _ _ _ (none-found c.in_ok-format_refusal.ensures) in
    record { sizes_value = k.0; start_len = k.2; cache_len = k.1.in-cache; nvm_len = k.1.in-nvm; flags_len = k.1.in-flags }

pub returns : goal.returns
unfolding format_step started step_of
returns c =
    let k = format-checked _ _ _ _ (none-found c.in_ok-format_refusal.ensures) in
    rw (
      c.start_record.ensures,
      c.fill.ensures.cached,
      c.fill.ensures.persistent,
      c.fill.ensures.unflushed,
      ← (length-start_image c.args.sizes c.args.start.now k.2),
    )
    (step-taken _ _ _ _ (sym (none-found c.in_ok-format_refusal.ensures)) refl)
