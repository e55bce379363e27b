-- One lane's log in non-volatile memory against the cache and `was`, the cached log at the lane's last drain, word by word, over every change of
-- memory. Assumes nothing.
use mathlib.Core.Path.{◌≡◌, refl, ◌∙◌, sym}
use mathlib.Core.Logic.{◌≢◌, ◌⊎◌, inl, inr}
use mathlib.Core.Bool.{Bool, true, false, cond}
use mathlib.Core.List.{List}
use Prim.Native.Nat.{ℕ, ◌+◌, ◌*◌, ◌≤◌, ◌<◌}
use native.Mathlib.Omega.{arith}
use lib.Dec.{eqb}
use lib.ListN.{length, get_or}
use Rattle.laws.specs.inner.Tests.{split, clash}
use Rattle.laws.specs.inner.Lists.{All}
use Rattle.image.specs.Image.{former_length, log_start, log_of}
use Rattle.image.specs.inner.ImageLaws.{log-fits, get_or-log}
use Rattle.image.specs.Flush.{flushed, flush_all, written_back, drained_nvm, drained_flags}
use Rattle.image.specs.inner.FlushLaws.{unflush-other, flushed-flush_all, flush_all-keeps, get_or-written_back, get_or-drained_nvm, get_or-drained_flags}
use Rattle.image.specs.Stores.{Store, stored, places}
use Rattle.image.specs.inner.StoresLaws.{among, last_at-none, get_or-stored}
use Rattle.image.specs.declared.Sizes.{Sizes}
use Rattle.crash.proofs.lane.Regions.{Apart, among-apart}

pub record Mem (z : Sizes) (L : ℕ) (was cache flags nvm : List ℕ) : Type 0 where
  -- each word is the cached one or that of the last drain
  pub mix : (j : ℕ) → j < 2 * z.slots → (get_or nvm (log_start z L + j) 0 ≡ get_or cache (log_start z L + j) 0) ⊎ (get_or nvm (log_start z L + j) 0 ≡ get_or was j 0)
  -- each word is the cached one or flushed by the lane
  pub cover : (j : ℕ) → j < 2 * z.slots
      → (get_or nvm (log_start z L + j) 0 ≡ get_or cache (log_start z L + j) 0) ⊎ (flushed L (get_or flags (log_start z L + j) 0) ≡ true)

-- the same as lists of their own
pub mix-log : (z : Sizes) (L : ℕ) {was cache flags nvm : List ℕ} → Mem z L was cache flags nvm → (j : ℕ) → j < 2 * z.slots
    → (get_or (log_of z L nvm) j 0 ≡ get_or (log_of z L cache) j 0) ⊎ (get_or (log_of z L nvm) j 0 ≡ get_or was j 0)
mix-log z L {was} {cache} {flags} {nvm} m j h = rw (get_or-log z L nvm j h, get_or-log z L cache j h) (m.mix j h)

-- non-volatile memory as the cache has it in the log
pub mem-same : (z : Sizes) (L : ℕ) (cache flags nvm : List ℕ) → ((j : ℕ) → j < 2 * z.slots → get_or nvm (log_start z L + j) 0 ≡ get_or cache (log_start z L + j) 0)
    → Mem z L (log_of z L cache) cache flags nvm
mem-same z L cache flags nvm same = record { mix = λ j h. inl (same j h); cover = λ j h. inl (same j h) }

module _ (z : Sizes) (L : ℕ) (lane : L < z.lanes) (was cache flags nvm : List ℕ)
    (cl : former_length z ≤ length cache) (fl : former_length z ≤ length flags) (nl : former_length z ≤ length nvm) where
  abbrev k : ℕ → ℕ
  k j = log_start z L + j

  in-cache : (j : ℕ) → j < 2 * z.slots → k j < length cache
  in-cache j h = omega (arith, log-fits z L lane)

  in-flags : (j : ℕ) → j < 2 * z.slots → k j < length flags
  in-flags j h = omega (arith, log-fits z L lane)

  in-nvm : (j : ℕ) → j < 2 * z.slots → k j < length nvm
  in-nvm j h = omega (arith, log-fits z L lane)

  pub mem-written_back : (i : ℕ) → Mem z L was cache flags nvm → Mem z L was cache flags (written_back i cache nvm)
  mem-written_back i m =
      record { mix = λ j h. go (λ x. x ≡ get_or was j 0) j h (m.mix j h); cover = λ j h. go (λ x. flushed L (get_or flags (k j) 0) ≡ true) j h (m.cover j h) }
    where
      go : (P : ℕ → Type 0) (j : ℕ) → j < 2 * z.slots → (get_or nvm (k j) 0 ≡ get_or cache (k j) 0) ⊎ P (get_or nvm (k j) 0)
          → (get_or (written_back i cache nvm) (k j) 0 ≡ get_or cache (k j) 0) ⊎ P (get_or (written_back i cache nvm) (k j) 0)
      go P j h v = rw (get_or-written_back i cache nvm (k j) (in-nvm j h)) (split (eqb i (k j)) (λ e. rw e (inl refl)) (λ e. rw e v))

  -- another lane drains
  pub mem-drained-other : (M : ℕ) → L ≢ M → Mem z L was cache flags nvm → Mem z L was cache (drained_flags M flags) (drained_nvm M flags cache nvm)
  mem-drained-other M d m = record { mix = mix'; cover = cover' }
    where
      mix' : (j : ℕ) → j < 2 * z.slots
          → (get_or (drained_nvm M flags cache nvm) (k j) 0 ≡ get_or cache (k j) 0) ⊎ (get_or (drained_nvm M flags cache nvm) (k j) 0 ≡ get_or was j 0)
      mix' j h =
          rw (get_or-drained_nvm M flags cache nvm (k j) (in-flags j h) (in-cache j h) (in-nvm j h))
          (split (flushed M (get_or flags (k j) 0)) (λ e. rw e (inl refl)) (λ e. rw e (m.mix j h)))

      cover' : (j : ℕ) → j < 2 * z.slots
          → (get_or (drained_nvm M flags cache nvm) (k j) 0 ≡ get_or cache (k j) 0) ⊎ (flushed L (get_or (drained_flags M flags) (k j) 0) ≡ true)
      cover' j h =
          rw (
            get_or-drained_nvm M flags cache nvm (k j) (in-flags j h) (in-cache j h) (in-nvm j h),
            get_or-drained_flags M flags (k j),
            unflush-other L M (get_or flags (k j) 0) d,
          )
          (split (flushed M (get_or flags (k j) 0)) (λ e. rw e (inl refl)) (λ e. rw e (m.cover j h)))

  -- the lane itself drains: its log is as cached
  pub drained-own : Mem z L was cache flags nvm → (j : ℕ) → j < 2 * z.slots → get_or (drained_nvm L flags cache nvm) (k j) 0 ≡ get_or cache (k j) 0
  drained-own m j h =
      rw (get_or-drained_nvm L flags cache nvm (k j) (in-flags j h) (in-cache j h) (in-nvm j h)) (go (flushed L (get_or flags (k j) 0)) refl (m.cover j h))
    where
      go : (b : Bool) → flushed L (get_or flags (k j) 0) ≡ b → (get_or nvm (k j) 0 ≡ get_or cache (k j) 0) ⊎ (flushed L (get_or flags (k j) 0) ≡ true)
          → cond b (get_or cache (k j) 0) (get_or nvm (k j) 0) ≡ get_or cache (k j) 0
      go true e v = refl
      go false e (inl p) = p
      go false e (inr q) = clash (flushed L (get_or flags (k j) 0)) q e

  pub mem-drained-own : Mem z L was cache flags nvm → Mem z L (log_of z L cache) cache (drained_flags L flags) (drained_nvm L flags cache nvm)
  mem-drained-own m = mem-same z L cache (drained_flags L flags) (drained_nvm L flags cache nvm) (drained-own m)

  -- stores that a lane flushes, none of them in this log
  pub mem-stored-other : (M : ℕ) (xs : List Store) → All (λ x. Apart z L x.at) xs → Mem z L was cache flags nvm
      → Mem z L was (stored xs cache) (flush_all M (places xs) flags) nvm
  mem-stored-other M xs off m = record { mix = λ j h. rw (same j h) (m.mix j h); cover = λ j h. rw (same j h) (keep j h (m.cover j h)) }
    where
      same : (j : ℕ) → j < 2 * z.slots → get_or (stored xs cache) (k j) 0 ≡ get_or cache (k j) 0
      same j h = get_or-stored xs cache (k j) (in-cache j h) ∙ last_at-none xs (k j) (get_or cache (k j) 0) (among-apart z L j h off)

      keep : (j : ℕ) → j < 2 * z.slots → (get_or nvm (k j) 0 ≡ get_or cache (k j) 0) ⊎ (flushed L (get_or flags (k j) 0) ≡ true)
          → (get_or nvm (k j) 0 ≡ get_or cache (k j) 0) ⊎ (flushed L (get_or (flush_all M (places xs) flags) (k j) 0) ≡ true)
      keep j h (inl p) = inl p
      keep j h (inr q) = inr (flush_all-keeps L M (places xs) flags (k j) (in-flags j h) q)

  -- the lane's own stores, after its drain
  pub mem-stored-own : (xs : List Store) → ((j : ℕ) → j < 2 * z.slots → get_or nvm (k j) 0 ≡ get_or cache (k j) 0)
      → Mem z L (log_of z L cache) (stored xs cache) (flush_all L (places xs) flags) nvm
  mem-stored-own xs same = record { mix = λ j h. inr (same j h ∙ sym (get_or-log z L cache j h)); cover = cover' }
    where
      cover' : (j : ℕ) → j < 2 * z.slots
          → (get_or nvm (k j) 0 ≡ get_or (stored xs cache) (k j) 0) ⊎ (flushed L (get_or (flush_all L (places xs) flags) (k j) 0) ≡ true)
      cover' j h =
          split (among (k j) (places xs))
          (λ e. inr (flushed-flush_all L (places xs) flags (k j) (in-flags j h) ∙ rw e))
          (λ e. inl (same j h ∙ sym (get_or-stored xs cache (k j) (in-cache j h) ∙ last_at-none xs (k j) (get_or cache (k j) 0) e)))
