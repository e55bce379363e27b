-- Inner: how the code goes, need not be believed. The image that a finished recovery leaves: its length, its base, its data words, and its logs, which
-- are all 0. Assumes nothing.
use Rattle.std.specs.Prelude.{◌≡◌, cond, List, ◌∷◌, ℕ, ◌+◌, ◌*◌, ◌≤◌, ◌<◌, eqb, length, get_or, replicate, None}
use Rattle.std.proofs.Math.Path.{ap, sym}
use Rattle.std.proofs.Common.{◌∙◌, ext_get_or, ne_eqb}
use native.Mathlib.Omega.{arith}
use Rattle.std.proofs.lemmas.List.{length-replicate, get_or-replicate}
use Rattle.laws.specs.inner.Lists.{All, more, All-append, All-map}
use Rattle.image.specs.Image.{former_length, base_of, data_of, log_start, log_of}
use Rattle.image.specs.inner.ImageLaws.{get_or-data, get_or-log, length-data, length-log, log-fits}
use Rattle.image.specs.inner.StoresLaws.{last_at, last_at-append, length-stored, get_or-stored}
use Rattle.image.specs.declared.Sizes.{Sizes}
use Rattle.recovery.specs.Recovery.{boundary, undone, undo_stores, new_base, zeros, recovery_stores}
use Rattle.recovery.specs.inner.OrderLaws.{undone-none}
use Rattle.recovery.specs.inner.UndoneLaws.{firsts_of, undo_sequences-at}
use Rattle.recovery.specs.inner.UndoStoreLaws.{data-undo}
use Rattle.recovery.specs.inner.AgainLaws.{recovered_image, all-zeroing, zeros-low, zeros-at}

-- no store reaches past the former length: the trailer is never stored to
pub stores-within : (z : Sizes) (c : List ℕ) → All (λ x. x.at < former_length z) (recovery_stores z c)
unfolding recovery_stores former_length
stores-within z c =
    All-append (All-map (λ x d. omega (arith, d.1)) (data-undo z c))
    (more (omega arith)
    (All-map (λ x d. d.1)
    (all-zeroing (1 + z.words) (1 + z.words) (2 * z.lanes * z.slots) (1 + z.words + 2 * z.lanes * z.slots) (omega arith) (omega arith))))

pub recovered-length : (z : Sizes) (c : List ℕ) → length (recovered_image z c) ≡ length c
recovered-length z c = length-stored (recovery_stores z c) c

module _ (z : Sizes) (c : List ℕ) (size : former_length z ≤ length c) where
  recovered-fits : former_length z ≤ length (recovered_image z c)
  recovered-fits = rw (recovered-length z c) size

  -- what stands at word i: the undo stores, then the base, then the zeros
  at : (i : ℕ) → i < length c
      → get_or (recovered_image z c) i 0
      ≡ last_at (zeros (1 + z.words) (2 * z.lanes * z.slots)) i (cond (eqb 0 i) (new_base z c) (last_at (undo_stores z c) i (get_or c i 0)))
  unfolding recovery_stores last_at
  at i h =
      get_or-stored (recovery_stores z c) c i h
      ∙ last_at-append (undo_stores z c) (record { at = 0; value = new_base z c } ∷ zeros (1 + z.words) (2 * z.lanes * z.slots)) i (get_or c i 0)

  low : (i x : ℕ) → i ≤ z.words → last_at (zeros (1 + z.words) (2 * z.lanes * z.slots)) i x ≡ x
  low i x h = zeros-low (1 + z.words) (2 * z.lanes * z.slots) i x (omega arith)

  pub recovered-base : base_of (recovered_image z c) ≡ new_base z c
  unfolding base_of former_length
  recovered-base = at 0 (omega arith) ∙ low 0 (new_base z c) (omega arith)

  -- a data word: the first old value of the last sequence undone that names it, and as it was where none does
  pub recovered-word : (w : ℕ) → w < z.words → get_or (recovered_image z c) (1 + w) 0 ≡ firsts_of (undone z c) w (get_or c (1 + w) 0)
  unfolding former_length undo_stores
  recovered-word w h =
      at (1 + w) (omega arith)
      ∙ ap (λ t. last_at (zeros (1 + z.words) (2 * z.lanes * z.slots)) (1 + w) (cond t (new_base z c) (last_at (undo_stores z c) (1 + w) (get_or c (1 + w) 0))))
      (ne_eqb 0 (1 + w) (λ e. omega arith))
      ∙ low (1 + w) (last_at (undo_stores z c) (1 + w) (get_or c (1 + w) 0)) (omega arith)
      ∙ undo_sequences-at (undone z c) w (get_or c (1 + w) 0)

  log-word : (i : ℕ) → 1 + z.words ≤ i → i < former_length z → get_or (recovered_image z c) i 0 ≡ 0
  unfolding former_length
  log-word i h g = at i (omega arith) ∙ zeros-at (1 + z.words) (2 * z.lanes * z.slots) i _ h g

  past-data : (L j : ℕ) → 1 + z.words ≤ log_start z L + j
  unfolding log_start
  past-data L j = omega arith

  pub recovered-log : (L : ℕ) → L < z.lanes → log_of z L (recovered_image z c) ≡ replicate (2 * z.slots) 0
  recovered-log L h =
      ext_get_or 0 (log_of z L (recovered_image z c)) (replicate (2 * z.slots) 0) (len ∙ sym (length-replicate (2 * z.slots) 0))
      (λ j g. point j (omega (arith, len)))
    where
      len : length (log_of z L (recovered_image z c)) ≡ 2 * z.slots
      len = length-log z L (recovered_image z c) recovered-fits h

      point : (j : ℕ) → j < 2 * z.slots → get_or (log_of z L (recovered_image z c)) j 0 ≡ get_or (replicate (2 * z.slots) 0) j 0
      point j g =
          get_or-log z L (recovered_image z c) j g
          ∙ log-word (log_start z L + j) (past-data L j) (omega (arith, log-fits z L h))
          ∙ sym (get_or-replicate (2 * z.slots) j 0 0 g)

  -- words that are a list's, one by one, are that list
  pub recovered-words : (ws : List ℕ) → length ws ≡ z.words → ((w : ℕ) → w < z.words → firsts_of (undone z c) w (get_or c (1 + w) 0) ≡ get_or ws w 0)
      → data_of z (recovered_image z c) ≡ ws
  recovered-words ws l f =
      ext_get_or 0 (data_of z (recovered_image z c)) ws (len ∙ sym l)
      (λ w h. let b : w < z.words = omega (arith, len) in get_or-data z (recovered_image z c) w b ∙ recovered-word w b ∙ f w b)
    where
      len : length (data_of z (recovered_image z c)) ≡ z.words
      len = length-data z (recovered_image z c) recovered-fits

  -- without a boundary nothing is undone: the data words stay
  pub recovered-none : boundary z c ≡ None → data_of z (recovered_image z c) ≡ data_of z c
  unfolding firsts_of
  recovered-none e =
      recovered-words (data_of z c) (length-data z c size)
      (λ w h. ap (λ qs. firsts_of qs w (get_or c (1 + w) 0)) (undone-none z c e) ∙ sym (get_or-data z c w h))
