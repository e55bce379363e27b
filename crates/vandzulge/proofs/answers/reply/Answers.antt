-- `answers::reply` writes the answer's four words over all four where the call is taken, and returns its number. Assumes nothing.
use Rattle.std.proofs.Common.{refl, sym, ◌∙◌}
use Rattle.store.specs.Machine.{said}
use Rattle.store.specs.Interface.{answer_of}
use Rattle.store.specs.inner.ResultLaws.{taken-number, not-zero}
use Rattle.vandzulge.specs.inner.ExportsLaws.{taken, not_taken}
use Rattle.vandzulge.proofs.answers.reply.Goals as goal

pub returns-in-Ok : goal.returns-in-Ok
returns-in-Ok c =
    let n = sym (taken-number c.in-Ok.taken) in
    rw c.in-Ok.is record { number = n; words = taken _ _ _ _ _ n refl (c.copy_from_slice.ensures.after ∙ c.answer_words-words.ensures) }

pub returns-in-Err : goal.returns-in-Err
unfolding said answer_of
returns-in-Err c =
    let n = c.number.ensures in
    rw c.in-Err.is record { number = n; words = not_taken _ _ _ _ n (λ z. not-zero _ (sym n ∙ z)) }
