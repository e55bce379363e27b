-- `store::write_back_refusal` meets its contract: each return rewrites the definition by the tests that led there.
-- Assumes nothing.
use Rattle.std.proofs.Common.{sym, ◌∙◌, le-leb}
use Rattle.std.proofs.lemmas.Bool.{lt-leb}
use Rattle.store.specs.Machine.{first_cause}
use Rattle.store.specs.Calls.{write_back_refusal, bad_buffers}
use Rattle.store.specs.Interface.{number, refusal_of}
use Rattle.store.proofs.write_back_refusal.Goals as goal

pub returns-then-not-buffers_ok : goal.returns-then-not-buffers_ok
unfolding write_back_refusal bad_buffers first_cause refusal_of number
returns-then-not-buffers_ok c = rw (sym c.buffers_ok.ensures ∙ c.if-not-buffers_ok.true)

pub returns-then-cache-word : goal.returns-then-cache-word
unfolding write_back_refusal bad_buffers first_cause refusal_of number
returns-then-cache-word c =
    rw (sym c.buffers_ok.ensures ∙ c.if-not-buffers_ok.false, le-leb _ _ c.if-cache-word.true)

pub returns : goal.returns
unfolding write_back_refusal bad_buffers first_cause refusal_of number
returns c =
    rw (sym c.buffers_ok.ensures ∙ c.if-not-buffers_ok.false, lt-leb _ _ c.if-cache-word.false)
