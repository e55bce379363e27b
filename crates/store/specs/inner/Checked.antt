-- Inner: how the code goes, need not be believed. What a call knows and does once its first refusals are ruled out. Assumes nothing.
use Rattle.std.specs.Prelude.{ℕ, ◌*◌, ◌<◌, true, List, ◌∷◌, ◌++◌, ◌≡◌, length, replicate}
use Rattle.image.specs.inner.Facts.{IsImage}
use Rattle.image.specs.declared.Sizes.{Sizes}
use Rattle.lane_log.specs.Log.{latest_in}
use Rattle.record.specs.Record.{lock_length, record_ok, with_lane, drained_lane, lane_at}
use Rattle.record.specs.declared.Record.{Record}

-- what a call knows of its sizes, record, buffers and lane once refusals 1, 2 and 3 are ruled out
pub record Checked (z : Sizes) (state : Record) (pairs cache nvm flags : List ℕ) (L : ℕ) : Type 0 where
  pub image : IsImage z cache
  pub same-nvm : length nvm ≡ length cache
  pub same_flags : length flags ≡ length cache
  pub in_pairs : length pairs ≡ lock_length
  pub in-range : record_ok z state pairs ≡ true
  pub lane_below : L < z.lanes

-- what Format writes before the trailer
unfoldable pub body_of : Sizes → (start : List ℕ) → List ℕ
body_of z start = 0 ∷ start ++ replicate (2 * z.lanes * z.slots) 0

-- the record after a drain of lane L
unfoldable pub drained_state : Sizes → (cache : List ℕ) → ℕ → Record → Record
drained_state z cache L r = with_lane r L (drained_lane (latest_in z cache L) (lane_at r L))
