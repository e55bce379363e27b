-- `answers::number_in` returns the number of the refusal, 0 where there is none. Assumes nothing.
use Rattle.std.proofs.Common.{sym}
use Rattle.store.specs.Machine.{said}
use Rattle.store.specs.Interface.{answer_of}
use Rattle.store.specs.inner.ResultLaws.{taken-number}
use Rattle.vandzulge.proofs.answers.number_in.Goals as goal

pub returns-in-Ok : goal.returns-in-Ok
returns-in-Ok c = rw c.in-Ok.is (sym (taken-number _))

pub returns-in-Err : goal.returns-in-Err
unfolding said answer_of
returns-in-Err c = rw c.in-Err.is c.number.ensures
