-- `answers::recovered` writes answer and record where recovery finished, 0s for an answer where it was cut short. Assumes nothing.
use Rattle.std.proofs.Common.{refl, ◌∙◌}
use Rattle.recovery.specs.Recovery.{told}
use Rattle.recovery.specs.Interface.{recovered_of}
use Rattle.vandzulge.specs.Exports.{where_finished, told_words}
use Rattle.vandzulge.specs.inner.Results.{restarted_words}
use Rattle.vandzulge.proofs.answers.recovered.Goals as goal

pub returns-in-Some : goal.returns-in-Some
unfolding told recovered_of told_words where_finished restarted_words
returns-in-Some c =
    rw c.in-Some.is record { state = c.put_start.ensures; answer = c.copy_from_slice.ensures.after ∙ c.finished_words-words.ensures }

pub returns-in-None : goal.returns-in-None
unfolding told recovered_of told_words where_finished restarted_words
returns-in-None c = rw c.in-None.is record { state = refl; answer = c.copy_from_slice-in-None.ensures.after }
