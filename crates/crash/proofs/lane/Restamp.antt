-- A commit's store in the log: one value word, after which the log is the window of the history with the new timestamp. Assumes nothing.
use mathlib.Core.Path.{◌≡◌, ap, ◌∙◌, sym}
use mathlib.Core.Logic.{◌≢◌}
use mathlib.Core.List.{List}
use Prim.Native.Nat.{ℕ, ◌+◌, ◌*◌, ◌%◌, ◌≤◌, ◌<◌}
use native.Mathlib.Omega.{arith}
use native.Mathlib.Nat.{mod-lt}
use native.Mathlib.Decide.{ℕ_discrete}
use lib.Dec.{ltb}
use lib.ListN.{length, get_or, set, length-set}
use lib.Seq.{get_or-set_same, get_or-set_other}
use borrow.Author.Tests.{ltb-true, ltb-false}
use Rattle.laws.specs.inner.Tests.{split}
use Rattle.slot.specs.Slot.{stamp_of}
use Rattle.slot.proofs.SlotLaws.{stamp-bits}
use Rattle.image.specs.Image.{former_length, log_start, log_of}
use Rattle.image.specs.inner.ImageLaws.{get_or-log, length-log, log_of-set}
use Rattle.image.specs.declared.Sizes.{Sizes}
use Rattle.lane_log.specs.Append.{restamp_store}
use Rattle.crash.proofs.lane.Absolute.{wrap_of, wrap-bound, window}
use Rattle.crash.proofs.lane.Ghost.{Past, blank, sta, address_of, value_of}
use Rattle.crash.proofs.lane.Window.{Window, Exact, at}

-- number e of the history is a timestamp s that closes k entries, and stands in the window; c is the new timestamp
module _ (N : ℕ) (pos : 0 < N) (h : List Past) (e k s c : ℕ) (is : at h e ≡ sta k s) (old : e < length h) (new : length h ≤ e + N) where
  pub window-commit : (log : List ℕ) → length log ≡ 2 * N → Window N h log → Window N (set h e (sta k c)) (set log (2 * (e % N) + 1) (c + wrap_of N e))
  unfolding Window address_of value_of stamp_of
  window-commit log len w a lo hi = elim (ℕ_discrete a e) [ yes p ↦ rw p mine | no d ↦ other d ]
    where
      mine : Exact N (set h e (sta k c)) (set log (2 * (e % N) + 1) (c + wrap_of N e)) e
      mine =
          record {
            address = get_or-set_other log (2 * (e % N) + 1) (2 * (e % N)) _ 0 (λ q. omega arith) ∙ (w e new old).address ∙ ap (address_of (wrap_of N e)) is
                ∙ ap (address_of (wrap_of N e)) (sym (get_or-set_same h e (sta k c) blank old));
            value = get_or-set_same log (2 * (e % N) + 1) _ 0 (omega (arith, mod-lt e pos))
                ∙ ap (value_of (wrap_of N e)) (sym (get_or-set_same h e (sta k c) blank old));
          }

      other : a ≢ e → Exact N (set h e (sta k c)) (set log (2 * (e % N) + 1) (c + wrap_of N e)) a
      other d =
          let l : a < length h = omega (arith, length-set h e (sta k c)) in
          let u : length h ≤ a + N = omega (arith, length-set h e (sta k c)) in
          let o = w a u l in
          let apart : a % N ≢ e % N = λ q.
          d (split (ltb a e) (λ t. window N pos a e q (omega (arith, ltb-true a e t)) (omega arith))
          (λ t. sym (window N pos e a (sym q) (ltb-false a e t) (omega arith)))) in
          record {
            address = get_or-set_other log (2 * (e % N) + 1) (2 * (a % N)) _ 0 (λ q. omega arith) ∙ o.address
                ∙ ap (address_of (wrap_of N a)) (sym (get_or-set_other h e a (sta k c) blank d));
            value = get_or-set_other log (2 * (e % N) + 1) (2 * (a % N) + 1) _ 0 (λ q. apart (omega arith)) ∙ o.value
                ∙ ap (value_of (wrap_of N a)) (sym (get_or-set_other h e a (sta k c) blank d));
          }

-- the same of the image, by the store that a commit makes
module _ (z : Sizes) (L : ℕ) (lane : L < z.lanes) (pos : 0 < z.slots) (h : List Past) (e k s c : ℕ)
    (is : at h e ≡ sta k s) (even : s % 2 ≡ 0) (old : e < length h) (new : length h ≤ e + z.slots) (image : List ℕ) where
  -- the wrap bit of the address word is that of the number
  wrap-there : Window z.slots h (log_of z L image) → get_or image (log_start z L + 2 * (e % z.slots)) 0 % 2 ≡ wrap_of z.slots e
  unfolding Window address_of
  wrap-there w =
      ap (◌% 2) (sym (get_or-log z L image (2 * (e % z.slots)) (omega (arith, mod-lt e pos))) ∙ (w e new old).address ∙ ap (address_of (wrap_of z.slots e)) is)
      ∙ (stamp-bits k s (wrap_of z.slots e) even (wrap-bound z.slots e)).0

  pub window-restamp : former_length z ≤ length image → Window z.slots h (log_of z L image)
      → Window z.slots (set h e (sta k c))
      (log_of z L (set image (restamp_store (log_start z L) (e % z.slots) c image).at (restamp_store (log_start z L) (e % z.slots) c image).value))
  unfolding restamp_store
  window-restamp len w =
      let j : ℕ = 2 * (e % z.slots) + 1 in
      let place : log_start z L + 2 * (e % z.slots) + 1 ≡ log_start z L + j = omega arith in
      rw (place, wrap-there w, log_of-set z L image j (c + wrap_of z.slots e) (omega (arith, mod-lt e pos)))
      (window-commit z.slots pos h e k s c is old new (log_of z L image) (length-log z L image len lane) w)
