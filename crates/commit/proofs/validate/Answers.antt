-- `commit::validate` meets its contract: a refused call is the step refused, and otherwise the drain keeps what the rest of Validate looks at.
use Rattle.std.proofs.Common.{refl, sym, ◌∙◌, ap, rules}
use Rattle.store.specs.inner.StoreLaws.{lane-small}
use Rattle.store.specs.inner.CachedWritesLaws.{writes-few, writes-low}
use Rattle.store.specs.Interface.{keeps}
use Rattle.codec.specs.inner.ReadLaws.{lanes-read}
use Rattle.store.specs.inner.KeepsLaws.{words-there}
use Rattle.commit.specs.inner.CommitLaws.{validate-accepted, committable, validate-refuses, validate-taken}
use Rattle.store.specs.inner.ResultLaws.{none-found, answered-err, err-nonzero}
use Rattle.codec.proofs.Arrays.{chunk_lent}
use Rattle.commit.proofs.validate.Goals as goal

pub returns-in_err-validate_refusal : goal.returns-in_err-validate_refusal
returns-in_err-validate_refusal c = rw (answered-err _ _ c.from_residual.ensures.1) (validate-refuses _ _ _ _ _ _ _ (err-nonzero _) _ c.in_err-validate_refusal.ensures)

pub writes_on-writes-requires : goal.writes_on-writes-requires
writes_on-writes-requires c =
    let a = validate-accepted _ _ _ _ _ _ _ _ _ (sym (none-found c.in_ok-validate_refusal.ensures)) refl in
    (search rules, (a.0.known.image, (search rules, a.1)))

pub unwrap-requires : goal.unwrap-requires
unwrap-requires c =
    let a = validate-accepted _ _ _ _ _ _ _ _ _ (sym (none-found c.in_ok-validate_refusal.ensures)) refl in
    search (rules, words-there c.args.state.now a.0.known.in_pairs)

pub latest_near-latest-requires : goal.latest_near-latest-requires
latest_near-latest-requires c =
    let k = (validate-accepted _ _ _ _ _ _ _ _ _ (sym (none-found c.in_ok-validate_refusal.ensures)) refl).0.known in
    record { image = k.image; lane_lt_lanes = k.lane_below }

pub drain-requires : goal.drain-requires
drain-requires c =
    let k = (validate-accepted _ _ _ _ _ _ _ _ _ (sym (none-found c.in_ok-validate_refusal.ensures)) refl).0.known in
    record { lane_lt_max_lanes = lane-small _ _ k.image.sizes-ok k.lane_below; nvm_len = k.same-nvm; flags_len = k.same_flags }

pub validate_drained-requires : goal.validate_drained-requires
validate_drained-requires c =
    let a = validate-accepted _ _ _ _ _ _ _ _ _ (sym (none-found c.in_ok-validate_refusal.ensures)) refl in
    record {
      latest_value = c.latest_near-latest.ensures;
      committable = rw (chunk_lent _ _ _ _ c.unwrap-2.ensures c.first_chunk_mut.ensures.cases) (committable _ _ _ _ _ _ _ _ a.0 (lanes-read _) c.drain.ensures.cleared);
      few = writes-few _ _ _ _ _ (c.as_slice.ensures.value ∙ c.writes_on-writes.ensures) a.1;
      words_below = writes-low _ _ _ _ _ (c.as_slice.ensures.value ∙ c.writes_on-writes.ensures) a.1;
    }

pub returns : goal.returns
returns c =
    let a = validate-accepted _ _ _ _ _ _ _ _ _ (sym (none-found c.in_ok-validate_refusal.ensures)) refl in
    (rw (chunk_lent _ _ _ _ c.unwrap-2.ensures c.first_chunk_mut.ensures.cases) at c.validate_drained.ensures) _ _ _
    ∙ ap (keeps _)
    (validate-taken _ _ _ _ _ _ _ _ _ c.drain.ensures.copied c.drain.ensures.cleared _ _ _ (sym (none-found c.in_ok-validate_refusal.ensures)) refl
    (c.as_slice.ensures.value ∙ c.writes_on-writes.ensures))
