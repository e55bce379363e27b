-- `store::drain_refusal` meets its contract: each return rewrites the definition by the tests that led there.
-- Assumes nothing.
use Rattle.std.proofs.Common.{refl, sym, ◌∙◌, ◌≡◌, length, le-leb}
use Rattle.std.proofs.lemmas.Bool.{lt-leb}
use Rattle.image.specs.inner.ImageLaws.{buffers-in}
use Rattle.record.specs.Record.{record_ok}
use Rattle.codec.specs.Fields.{state_length, record_in, pairs_in}
use Rattle.codec.proofs.Arrays.{chunk_read, last_read}
use Rattle.store.specs.Machine.{first_cause}
use Rattle.store.specs.Calls.{drain_refusal, bad_buffers, bad_record, bad_lane}
use Rattle.store.specs.inner.KeepsLaws.{state-fits, state-short}
use Rattle.store.specs.Interface.{number, refusal_of}
use Rattle.store.proofs.drain_refusal.Goals as goal
use Rattle.store.proofs.drain_refusal.Goals.{After-record_ok}

pub returns-then-not-buffers_ok : goal.returns-then-not-buffers_ok
unfolding drain_refusal bad_buffers bad_record bad_lane first_cause refusal_of number
returns-then-not-buffers_ok c = rw (sym c.buffers_ok.ensures ∙ c.if-not-buffers_ok.true)

pub returns-then-state-ne-STATE_WORDS : goal.returns-then-state-ne-STATE_WORDS
unfolding drain_refusal bad_buffers bad_record bad_lane first_cause refusal_of number
returns-then-state-ne-STATE_WORDS c =
    rw (sym c.buffers_ok.ensures ∙ c.if-not-buffers_ok.false, state-short _ c.if-state-ne-STATE_WORDS.true)

pub record_ok-requires : goal.record_ok-requires
record_ok-requires c = (buffers-in _ _ _ _ (sym c.buffers_ok.ensures ∙ c.if-not-buffers_ok.false)).sizes.lanes-high

-- the range check's answer, of the record and the pairs in the words
checked : (c : After-record_ok)
    → let a = c.args in length a.state.now ≡ state_length → c.record_ok.result ≡ record_ok a.sizes (record_in a.state.now) (pairs_in a.state.now)
checked c n =
    c.record_ok.ensures
    ∙ rw (chunk_read _ _ _ _ c.unwrap.ensures c.first_chunk.ensures.cases, last_read _ _ _ _ _ n c.unwrap-2.ensures c.last_chunk.ensures.cases) refl

pub returns-then-not-record_ok : goal.returns-then-not-record_ok
unfolding drain_refusal bad_buffers bad_record bad_lane first_cause refusal_of number
returns-then-not-record_ok c =
    rw (
      sym c.buffers_ok.ensures ∙ c.if-not-buffers_ok.false,
      state-fits _ c.if-state-ne-STATE_WORDS.false,
      sym (checked (goal.at.returns-then-not-record_ok c).After-record_ok c.if-state-ne-STATE_WORDS.false) ∙ c.if-not-record_ok.true,
    )

pub returns-then-sizes-lane : goal.returns-then-sizes-lane
unfolding drain_refusal bad_buffers bad_record bad_lane first_cause refusal_of number
returns-then-sizes-lane c =
    rw (
      sym c.buffers_ok.ensures ∙ c.if-not-buffers_ok.false,
      state-fits _ c.if-state-ne-STATE_WORDS.false,
      sym (checked (goal.at.returns-then-sizes-lane c).After-record_ok c.if-state-ne-STATE_WORDS.false) ∙ c.if-not-record_ok.false,
      le-leb _ _ c.if-sizes-lane.true,
    )

pub returns : goal.returns
unfolding drain_refusal bad_buffers bad_record bad_lane first_cause refusal_of number
returns c =
    rw (
      sym c.buffers_ok.ensures ∙ c.if-not-buffers_ok.false,
      state-fits _ c.if-state-ne-STATE_WORDS.false,
      sym (checked (goal.at.returns c).After-record_ok c.if-state-ne-STATE_WORDS.false) ∙ c.if-not-record_ok.false,
      lt-leb _ _ c.if-sizes-lane.false,
    )
