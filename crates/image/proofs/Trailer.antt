-- The last four words of an image, as the code has them: a chunk of their own. Assumes nothing.
use Rattle.std.proofs.Common.{◌≡◌, ℕ, ◌+◌, ◌-◌, ◌≤◌, ◌∙◌, ap, arith, ◌&&◌, List, length, get_or, drop, nat_eq, le-leb}
use Rattle.std.proofs.Math.Seq.{get_or-drop}
use Rattle.image.specs.Image.{sizes_ok, former_length, image_length, sizes_at_end, trailer_ok}
use Rattle.image.specs.declared.Sizes.{Sizes}

module _ (image last : List ℕ) (h : 4 ≤ length image) (e : last ≡ drop (length image - 4) image) where
  last-at : (i k : ℕ) → i + k ≡ 4 → get_or last i 0 ≡ get_or image (length image - k) 0
  last-at i k s =
      let at : length image - 4 + i ≡ length image - k = omega arith in
      ap (λ (l : List ℕ). get_or l i 0) e ∙ get_or-drop (length image - 4) image i 0 ∙ ap (λ j. get_or image j 0) at

  pub last-sizes : ◌≡◌ {A = Sizes} (record { words = get_or last 0 0; lanes = get_or last 1 0; slots = get_or last 2 0 }) (sizes_at_end image)
  unfolding sizes_at_end
  last-sizes = simp (last-at 0 4 (omega arith), last-at 1 3 (omega arith), last-at 2 2 (omega arith))

  -- the tests that are left once there are four words, at the sizes that they tell
  pub last-tests : (z : Sizes) → z ≡ sizes_at_end image
      → trailer_ok image ≡ (sizes_ok z && (nat_eq (get_or last 3 0) (former_length z) && nat_eq (length image) (image_length z)))
  unfolding trailer_ok
  last-tests z s = rw (s, le-leb 4 (length image) h, last-at 3 1 (omega arith))
