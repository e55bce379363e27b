-- Inner: how the code goes, need not be believed. Laws of the search for the greatest timestamp: what one slot makes of a candidate. Assumes nothing.
use Rattle.std.specs.Prelude.{ℕ, ◌<◌, ◌≤◌, ◌≡◌, ◌≢◌, List, true, false, Some, None}
use Rattle.std.proofs.Common.{arith, eq-eqb, ne_eqb, le-leb}
use Rattle.std.proofs.lemmas.Bool.{lt-leb}
use Rattle.lane_log.specs.declared.search.Candidate.{Candidate}
use Rattle.lane_log.specs.inner.Search.{half_at, stamp_high, higher}

-- one slot, as the code's tests tell
module _ (log : List ℕ) (j : ℕ) (a : Candidate) where
  pub higher-low : stamp_high log j ≡ false → a ≡ higher log j a
  unfolding higher
  higher-low h = rw h

  module _ (high : stamp_high log j ≡ true) {h : ℕ} (e : h ≡ half_at log j) where
    pub higher-less : h < a.half → a ≡ higher log j a
    unfolding higher
    higher-less l = rw (high, ← e, lt-leb a.half h l)

    pub higher-tied : h ≡ a.half → record { half = h; slot = None } ≡ higher log j a
    unfolding higher
    higher-tied t = rw (high, ← e, le-leb a.half h (omega arith), eq-eqb h a.half t)

    pub higher-is : a.half ≤ h → h ≢ a.half → record { half = h; slot = Some j } ≡ higher log j a
    unfolding higher
    higher-is l d = rw (high, ← e, le-leb a.half h l, ne_eqb h a.half d)
