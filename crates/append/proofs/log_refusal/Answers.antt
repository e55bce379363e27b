-- `append::log_refusal` meets its contract: the checks, then the run on the data words and the room for its sequence.
-- Assumes nothing.
use Rattle.std.proofs.Common.{rules, refl, sym, ◌∙◌}
use Rattle.store.specs.inner.StoreLaws.{checked}
use Rattle.codec.specs.inner.ReadLaws.{lanes-read}
use Rattle.store.specs.inner.KeepsLaws.{words-there}
use Rattle.append.specs.inner.LogMarkLaws.{log-refused, unrefused, log-room, count-on, log-searchable}
use Rattle.store.specs.Interface.{refusal_of}
use Rattle.store.specs.inner.ResultLaws.{none-found, found-err, err-nonzero}
use Rattle.codec.proofs.Arrays.{chunk_read}
use Rattle.append.proofs.log_refusal.Goals as goal

pub returns-in_err-log_checks : goal.returns-in_err-log_checks
returns-in_err-log_checks c =
    found-err _ _ _ c.from_residual.ensures.1 (log-refused _ _ _ _ _ c.in_err-log_checks.ensures (err-nonzero _))

pub count_of-count-requires : goal.count_of-count-requires
count_of-count-requires c =
    let u = unrefused _ _ _ _ (none-found c.in_ok-log_checks.ensures) in
    record { image = (checked _ _ _ _ _ _ _ u.at-lane).image; txn_value = u.txn-ok }

pub unwrap-requires : goal.unwrap-requires
unwrap-requires c =
    let k = checked _ _ _ _ _ _ _ (unrefused _ _ _ _ (none-found c.in_ok-log_checks.ensures)).at-lane in
    search (rules, words-there c.args.state.now k.in_pairs)

pub plan_log-requires : goal.plan_log-requires
plan_log-requires c =
    let h = none-found c.in_ok-log_checks.ensures in
    let k = checked _ _ _ _ _ _ _ (unrefused _ _ _ _ h).at-lane in
    record {
      searchable = rw (chunk_read _ _ _ _ c.unwrap.ensures c.first_chunk.ensures.cases) (log-searchable _ _ _ _ _ _ _ _ _ (lanes-read _) h (count-on _ _ _ _ _ _ _ _ c.count_of-count.ensures));
    }

-- the room that is asked for is Log's last cause
pub returns-in_err-plan_log : goal.returns-in_err-plan_log
returns-in_err-plan_log c =
    found-err _ _ _ c.from_residual-in_err-plan_log.ensures.1
    ((rw (chunk_read _ _ _ _ c.unwrap.ensures c.first_chunk.ensures.cases) at c.in_err-plan_log.ensures)
    ∙ log-room _ _ _ _ (unrefused _ _ _ _ (none-found c.in_ok-log_checks.ensures)) _ (count-on _ _ _ _ _ _ _ _ c.count_of-count.ensures) _ refl)

pub returns : goal.returns
unfolding refusal_of
returns c =
    sym (rw (chunk_read _ _ _ _ c.unwrap.ensures c.first_chunk.ensures.cases) at c.in_ok-plan_log.ensures.0)
    ∙ log-room _ _ _ _ (unrefused _ _ _ _ (none-found c.in_ok-log_checks.ensures)) _ (count-on _ _ _ _ _ _ _ _ c.count_of-count.ensures) _ refl
