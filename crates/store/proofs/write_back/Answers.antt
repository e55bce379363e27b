-- `store::write_back` meets its contract: a refused call is the step refused, and otherwise the one word copied is the step.
-- Assumes nothing.
use Rattle.std.proofs.Common.{refl, sym, arith}
use Rattle.store.specs.Calls.{write_back_step}
use Rattle.store.specs.inner.StoreLaws.{write_back-checked, step-taken}
use Rattle.store.specs.Interface.{answer_of}
use Rattle.store.specs.inner.ResultLaws.{none-found, blank-err}
use Rattle.store.proofs.write_back.Goals as goal

pub returns-in_err-write_back_refusal : goal.returns-in_err-write_back_refusal
unfolding write_back_step
returns-in_err-write_back_refusal c = blank-err _ _ _ _ _ _ _ c.from_residual.ensures.1 c.in_err-write_back_refusal.ensures

pub write_back-requires : goal.write_back-requires
write_back-requires c =
    let k = write_back-checked _ _ _ (none-found c.in_ok-write_back_refusal.ensures) in
    record { word_in_bounds = k.1; word_in_bounds_2 = omega (arith, k.0.same-nvm, k.1) }

pub returns : goal.returns
unfolding write_back_step answer_of
returns c =
    rw c.write_back.ensures (step-taken _ _ _ _ (sym (none-found c.in_ok-write_back_refusal.ensures)) refl)
