-- `answers::restart` writes what a taken recovery answers and leaves, and returns its number. Assumes nothing.
use Rattle.std.proofs.Common.{refl, sym, ◌∙◌}
use Rattle.recovery.specs.Recovery.{told}
use Rattle.recovery.specs.Interface.{recovered_of}
use Rattle.store.specs.inner.ResultLaws.{not-zero}
use Rattle.vandzulge.specs.inner.Results.{restarted_words}
use Rattle.vandzulge.specs.inner.ExportsLaws.{told-taken, taken, not_taken}
use Rattle.vandzulge.proofs.answers.restart.Goals as goal

pub returns-in-Ok : goal.returns-in-Ok
returns-in-Ok c =
    let n = sym (told-taken c.in-Ok.taken) in
    rw c.in-Ok.is record { number = n; state = c.recovered.ensures.state; answer = taken _ _ _ _ _ n refl c.recovered.ensures.answer }

pub returns-in-Err : goal.returns-in-Err
unfolding told recovered_of restarted_words
returns-in-Err c =
    let n = c.number.ensures in
    rw c.in-Err.is record { number = n; state = refl; answer = not_taken _ _ _ _ n (λ z. not-zero _ (sym n ∙ z)) }
