-- `answers::start` writes the words of a start where there is one, and returns its number. Assumes nothing.
use Rattle.std.proofs.Common.{refl}
use Rattle.vandzulge.specs.inner.Results.{started_number, started_words}
use Rattle.vandzulge.proofs.answers.start.Goals as goal

pub returns-in-Ok : goal.returns-in-Ok
unfolding started_number started_words
returns-in-Ok c = rw c.in-Ok.is record { number = refl; words = c.put_start.ensures }

pub returns-in-Err : goal.returns-in-Err
unfolding started_number started_words
returns-in-Err c = rw c.in-Err.is record { number = c.number.ensures; words = refl }
