-- Inner: how the code goes, need not be believed. Undoing stores to data words only: the base timestamp and the logs stay. Assumes nothing.
use Rattle.std.specs.Prelude.{◌≡◌, refl, ◌⊎◌, List, ℕ, ◌≤◌, ◌<◌}
use Rattle.std.proofs.Common.{inl, inr, arith, ne_eqb}
use Rattle.laws.specs.inner.Lists.{All, none as nil, more, All-append, All-map}
use Rattle.image.specs.Stores.{Store}
use Rattle.image.specs.inner.StoresLaws.{last_at}
use Rattle.image.specs.declared.Sizes.{Sizes}
use Rattle.lane_log.specs.Log.{Old, Complete}
use Rattle.recovery.specs.Recovery.{undo_entries, undo_sequences, undo_stores}
use Rattle.recovery.specs.inner.OrderLaws.{All-undone}
use Rattle.recovery.specs.inner.SequenceLaws.{Low, sound}

abbrev pub OnData : ℕ → Store → Type 0
OnData W s = (1 ≤ s.at) × (s.at ≤ W)

pub data-entries : (W : ℕ) {es : List Old} → All (Low W) es → All (OnData W) (undo_entries es)
unfolding undo_entries
data-entries W nil = nil
data-entries W (more h hs) = All-append (data-entries W hs) (more (omega arith, omega arith) nil)

pub data-sequences : (W : ℕ) {qs : List Complete} → All (λ q. All (Low W) q.entries) qs → All (OnData W) (undo_sequences qs)
unfolding undo_sequences
data-sequences W nil = nil
data-sequences W (more h hs) = All-append (data-entries W h) (data-sequences W hs)

pub data-undo : (z : Sizes) (image : List ℕ) → All (OnData z.words) (undo_stores z image)
unfolding undo_stores
data-undo z image = data-sequences z.words (All-undone z image (All-map (λ q s. s.low) (sound z image)))

-- a word that is no data word stays
pub off-data : (W : ℕ) {l : List Store} → All (OnData W) l → (i x : ℕ) → (i ≡ 0) ⊎ (W < i) → last_at l i x ≡ x
unfolding last_at
off-data W nil i x o = refl
off-data W (more {x = s} h hs) i x o = rw (ne_eqb s.at i (λ e. off e o)) (off-data W hs i x o)
  where
    off : s.at ≡ i → (i ≡ 0) ⊎ (W < i) → ⊥
    off e (inl p) = omega (arith, h)
    off e (inr p) = omega (arith, h)
