-- `lane_log::Log::higher` meets its contract, by the tests that it makes. Assumes nothing.
use Rattle.std.proofs.Common.{refl, sym, ◌∙◌}
use Rattle.lane_log.specs.inner.Search.{half_at}
use Rattle.lane_log.proofs.HigherLaws.{higher-low, higher-less, higher-tied, higher-is}
use Rattle.lane_log.proofs.Log.higher.Goals as goal

pub returns-then-not-stamp_high : goal.returns-then-not-stamp_high
returns-then-not-stamp_high c = higher-low _ _ _ (sym c.stamp_high.ensures ∙ c.if-not-stamp_high.true)

pub returns-then-half-best : goal.returns-then-half-best
unfolding half_at
returns-then-half-best c = higher-less _ _ _ (sym c.stamp_high.ensures ∙ c.if-not-stamp_high.false) refl c.if-half-best.true

pub returns-then-half-best-2 : goal.returns-then-half-best-2
unfolding half_at
returns-then-half-best-2 c = higher-tied _ _ _ (sym c.stamp_high.ensures ∙ c.if-not-stamp_high.false) refl c.if-half-best-2.true

pub returns : goal.returns
unfolding half_at
returns c = higher-is _ _ _ (sym c.stamp_high.ensures ∙ c.if-not-stamp_high.false) refl c.if-half-best.false c.if-half-best-2.false
