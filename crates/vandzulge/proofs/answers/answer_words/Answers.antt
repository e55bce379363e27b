-- `answers::answer_words`: a bit says whether a Mark dropped a transaction. Assumes nothing.
use Rattle.std.proofs.Common.{refl, ◌∙◌}
use Rattle.store.specs.Machine.{said}
use Rattle.store.specs.Interface.{answer_of}
use Rattle.codec.proofs.WriteLaws.{bit-byte}
use Rattle.vandzulge.specs.Exports.{said_words, first_word}
use Rattle.vandzulge.proofs.answers.answer_words.Goals as goal

pub returns-in-Marked : goal.returns-in-Marked
unfolding said answer_of said_words first_word
returns-in-Marked c = rw (c.from.ensures ∙ bit-byte _, c.in-Marked.is) refl
