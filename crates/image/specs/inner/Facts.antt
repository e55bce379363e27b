-- Inner: how the code goes, need not be believed. What functions on an image or on a log ask for. Assumes nothing.
use Rattle.std.specs.Prelude.{ℕ, ◌*◌, ◌≤◌, ◌≡◌, true, List, length}
use Rattle.image.specs.Image.{min_slots, max_slots, max_image, sizes_ok, former_length}
use Rattle.image.specs.declared.Sizes.{Sizes}

-- sizes in range, and at least as many words as their image has without a trailer, but no more than any image; a clause of
-- the functions that read an image, and no struct that lends it: the calls change the words between such reads, and would make one for each
pub record IsImage (z : Sizes) (image : List ℕ) : Type 0 where
  pub sizes-ok : sizes_ok z ≡ true
  pub in_image : former_length z ≤ length image
  pub small : length image ≤ max_image

-- slots as many as a lane may have, and words as many as its log has
pub record IsLog (slots : ℕ) (log : List ℕ) : Type 0 where
  pub in-log : length log ≡ 2 * slots
  pub slots-low : min_slots ≤ slots
  pub slots-high : slots ≤ max_slots
