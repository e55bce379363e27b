-- `store::format_refusal` meets its contract: each return rewrites the definition by the tests that led there.
-- Assumes nothing.
use Rattle.std.proofs.Common.{sym, ◌∙◌, ne_eqb, eq-eqb}
use Rattle.store.specs.Machine.{first_cause}
use Rattle.store.specs.Calls.{bad_lag, format_refusal}
use Rattle.store.specs.Interface.{number, refusal_of}
use Rattle.store.proofs.format_refusal.Goals as goal

pub returns-then-not-format_ok : goal.returns-then-not-format_ok
unfolding format_refusal first_cause refusal_of number
returns-then-not-format_ok c = rw (sym c.format_ok.ensures ∙ c.if-not-format_ok.true)

pub returns-then-start-sizes : goal.returns-then-start-sizes
unfolding format_refusal first_cause refusal_of number
returns-then-start-sizes c =
    rw (sym c.format_ok.ensures ∙ c.if-not-format_ok.false, ne_eqb _ _ c.if-start-sizes.true)

pub returns-then-not-lag_ok : goal.returns-then-not-lag_ok
unfolding format_refusal first_cause bad_lag refusal_of number
returns-then-not-lag_ok c =
    rw (
      sym c.format_ok.ensures ∙ c.if-not-format_ok.false,
      eq-eqb _ _ c.if-start-sizes.false,
      sym c.lag_ok.ensures ∙ c.if-not-lag_ok.true,
    )

pub returns : goal.returns
unfolding format_refusal first_cause bad_lag refusal_of number
returns c =
    rw (
      sym c.format_ok.ensures ∙ c.if-not-format_ok.false,
      eq-eqb _ _ c.if-start-sizes.false,
      sym c.lag_ok.ensures ∙ c.if-not-lag_ok.false,
    )
