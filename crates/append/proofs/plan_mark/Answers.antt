-- `append::plan_mark` meets its contract: the checks, then the room for one timestamp.
-- Assumes nothing.
use Rattle.std.proofs.Common.{rules, sym, ap, ◌∙◌, arith}
use Rattle.image.specs.inner.ImageLaws.{sizes-in}
use Rattle.record.specs.Record.{is_held}
use Rattle.store.specs.inner.StoreLaws.{checked}
use Rattle.codec.specs.inner.ReadLaws.{lanes-read}
use Rattle.store.specs.inner.KeepsLaws.{words-there}
use Rattle.append.specs.inner.LogMarkLaws.{mark-refused, mark-held, mark-room, planned-err, searchable}
use Rattle.store.specs.Interface.{number, refusal_of}
use Rattle.store.specs.inner.ResultLaws.{none-found, err-nonzero}
use Rattle.codec.proofs.Arrays.{chunk_read}
use Rattle.append.proofs.plan_mark.Goals as goal

pub returns-in_err-drain_refusal : goal.returns-in_err-drain_refusal
returns-in_err-drain_refusal c =
    planned-err _ _ _ _ c.from_residual.ensures.1 (mark-refused _ _ _ _ c.in_err-drain_refusal.ensures (err-nonzero _))

pub unwrap-words-requires : goal.unwrap-words-requires
unwrap-words-requires c =
    let k = checked _ _ _ _ _ _ _ (none-found c.in_ok-drain_refusal.ensures) in
    search (rules, words-there c.args.state.now k.in_pairs)

pub returns-then-is_some : goal.returns-then-is_some
unfolding refusal_of number is_held
returns-then-is_some c =
    mark-held _ _ _ (none-found c.in_ok-drain_refusal.ensures)
    (ap is_held (sym (rw (chunk_read _ _ _ _ c.unwrap-words.ensures c.first_chunk.ensures.cases) at c.lock-lock.ensures)) ∙ sym c.is_some.ensures ∙ c.if-is_some.true)

pub latest_near-latest-requires : goal.latest_near-latest-requires
latest_near-latest-requires c =
    let k = checked _ _ _ _ _ _ _ (none-found c.in_ok-drain_refusal.ensures) in
    record { image = k.image; lane_lt_lanes = k.lane_below }

pub append_refusal-requires : goal.append_refusal-requires
append_refusal-requires c =
    let k = checked _ _ _ _ _ _ _ (none-found c.in_ok-drain_refusal.ensures) in
    record {
      searchable = rw (chunk_read _ _ _ _ c.unwrap-words.ensures c.first_chunk.ensures.cases)
          (searchable _ _ _ _ _ _ _ k (lanes-read _) _ _ c.latest_near-latest.ensures (omega arith) (omega (arith, (sizes-in _ k.image.sizes-ok).slots-low)));
    }

-- what is asked then is the room for one timestamp
pub returns-in_err-append_refusal : goal.returns-in_err-append_refusal
unfolding is_held
returns-in_err-append_refusal c =
    planned-err _ _ _ _ c.from_residual-in_err-append_refusal.ensures.1
    (mark-room _ _ _ (none-found c.in_ok-drain_refusal.ensures) _ (ap is_held (sym (rw (chunk_read _ _ _ _ c.unwrap-words.ensures c.first_chunk.ensures.cases) at c.lock-lock.ensures)) ∙ sym c.is_some.ensures ∙ c.if-is_some.false)
    (rw (chunk_read _ _ _ _ c.unwrap-words.ensures c.first_chunk.ensures.cases) at c.in_err-append_refusal.ensures))

pub returns : goal.returns
unfolding is_held
returns c = (
  sym
      (mark-room _ _ _ (none-found c.in_ok-drain_refusal.ensures) _ (ap is_held (sym (rw (chunk_read _ _ _ _ c.unwrap-words.ensures c.first_chunk.ensures.cases) at c.lock-lock.ensures)) ∙ sym c.is_some.ensures ∙ c.if-is_some.false)
      (sym (none-found (rw (chunk_read _ _ _ _ c.unwrap-words.ensures c.first_chunk.ensures.cases) at c.in_ok-append_refusal.ensures)))),
  c.latest_near-latest.ensures,
)
