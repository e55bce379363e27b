-- Inner: how the code goes, need not be believed. A recovery that was cut after any of its stores, or with any of the log words cleared, and then done
-- again, leaves the same image: before the base is stored the next recovery finds the same stores, and from then on nothing to undo. Assumes nothing.
use Rattle.std.specs.Prelude.{◌≡◌, ◌⊎◌, Bool, cond, ◌&&◌, leb, ltb, get_or, None}
use Rattle.std.proofs.Math.Path.{refl, ap, ap₂}
use Rattle.std.proofs.Common.{sym, ◌∙◌, inr, le_refl}
use Rattle.std.proofs.Math.Logic.{inl}
use Rattle.std.proofs.Math.Bool.{true, false}
use mathlib.Core.List.{List, [], ◌∷◌, ◌++◌}
use Prim.Native.Nat.{ℕ, zero, suc, ◌+◌, ◌-◌, ◌*◌, ◌%◌, ◌≤◌, ◌<◌, max}
use native.Mathlib.Omega.{arith}
use Rattle.std.proofs.Math.Dec.{eqb}
use Rattle.std.proofs.Math.ListN.{length, take, get_or-eq_default}
use Rattle.std.proofs.Math.Seq.{take-append-le}
use borrow.Author.Tests.{ne_eqb, eqb-false, leb-true, leb-false, ltb-true, ltb-false, le-ltb}
use Rattle.laws.specs.inner.Tests.{split, and_left, and_right}
use Rattle.laws.specs.inner.Lists.{All, none as nil, more, All-take, take_past, stretch-same}
use Rattle.slot.specs.Slot.{read_of, whole_of, entry_shape, stamp_shape}
use Rattle.slot.specs.declared.Content.{Content}
use Rattle.slot.specs.declared.Content.TheVariants.{Empty, Torn, Entry, Stamp}
use Rattle.image.specs.Image.{former_length, base_of, log_start, log_of}
use Rattle.image.specs.inner.ImageLaws.{get_or-log}
use Rattle.image.specs.Stores.{Store, stored}
use Rattle.image.specs.inner.StoresLaws.{last_at, length-stored, get_or-stored, stored-append, stored-over, stored-again}
use Rattle.image.specs.declared.Sizes.{Sizes}
use Rattle.lane_log.specs.Log.{slot_at, closes, complete_below, complete_in, ordered, first_of, latest, latest_in, contribution}
use Rattle.record.specs.Record.{lesser}
use Rattle.recovery.specs.Recovery.{boundary_below, boundary, complete_of, undone_from, undone, undo_sequences, undo_stores, whole_stamp, greatest_below}
use Rattle.recovery.specs.Recovery.{greatest_of, new_base, zeros, recovery_stores, recovered_nvm}
use Rattle.recovery.specs.inner.Clearing.{clearing, partly_cleared}
use Rattle.recovery.specs.inner.UndoStoreLaws.{OnData, data-undo, off-data}

-- the image that a finished recovery leaves
abbrev pub recovered_image : Sizes → List ℕ → List ℕ
recovered_image z image = stored (recovery_stores z image) image

-- ---- two images with the same base and logs: the same stores
pub record Alike (z : Sizes) (a b : List ℕ) : Type 0 where
  pub base : base_of a ≡ base_of b
  pub logs : (L : ℕ) → log_of z L a ≡ log_of z L b

module _ (z : Sizes) (a b : List ℕ) (k : Alike z a b) where
  pub alike-in : (L : ℕ) → complete_in z a L ≡ complete_in z b L
  unfolding complete_in
  alike-in L = rw (k.base, k.logs L)

  pub alike_of : (n : ℕ) → complete_of z a n ≡ complete_of z b n
  unfolding complete_of
  alike_of zero = refl
  alike_of (suc n) = ap₂ ◌++◌ (alike_of n) (alike-in n)

  pub alike-boundary : (n : ℕ) → boundary_below z a n ≡ boundary_below z b n
  unfolding boundary_below latest_in
  alike-boundary zero = refl
  alike-boundary (suc n) = ap₂ lesser (alike-boundary n) (ap (λ l. contribution (latest l)) (alike-in n))

  alike-greatest : (n : ℕ) → greatest_of z a n ≡ greatest_of z b n
  unfolding greatest_of
  alike-greatest zero = refl
  alike-greatest (suc n) = ap₂ max (alike-greatest n) (ap (λ l. greatest_below z.words l z.slots) (k.logs n))

  pub alike-stores : recovery_stores z a ≡ recovery_stores z b
  unfolding recovery_stores undo_stores undone new_base boundary
  alike-stores = rw (alike_of z.lanes, alike-boundary z.lanes, alike-greatest z.lanes, k.base)

past-data : (z : Sizes) (L i : ℕ) → z.words < log_start z L + i
unfolding log_start
past-data z L i = omega arith

-- stores to data words leave an image alike
pub alike-data : (z : Sizes) (c : List ℕ) {l : List Store} → 0 < length c → All (OnData z.words) l → Alike z (stored l c) c
unfolding base_of log_of
alike-data z c {l} pos h =
    record {
      base = get_or-stored l c 0 pos ∙ off-data z.words h 0 (get_or c 0 0) (inl refl);
      logs = λ L. stretch-same (log_start z L) (2 * z.slots) (stored l c) c (length-stored l c)
          (λ i _ b. get_or-stored l c (log_start z L + i) (rw length-stored at b)
          ∙ off-data z.words h (log_start z L + i) (get_or c (log_start z L + i) 0) (inr (past-data z L i)));
    }

-- ---- a base at or above every whole timestamp: nothing is complete
module _ (W N base : ℕ) (log : List ℕ) (L : ℕ) where
  closes-none : (j : ℕ) (x : Content) → whole_stamp x ≤ base → closes W N base log L j x ≡ []
  unfolding closes whole_stamp
  closes-none j Empty h = refl
  closes-none j Torn h = refl
  closes-none j (Entry i v p) h = refl
  closes-none j (Stamp n s p) h = rw (le-ltb base s h)

  pub below_none : (k : ℕ) → greatest_below W log k ≤ base → complete_below W N base log L k ≡ []
  unfolding complete_below greatest_below
  below_none zero h = refl
  below_none (suc k) h = rw (below_none k (omega arith), closes-none k (slot_at W log k) (omega arith))

module _ (z : Sizes) (image : List ℕ) where
  none_of : (n : ℕ) → greatest_of z image n ≤ base_of image → (complete_of z image n ≡ []) × (boundary_below z image n ≡ None)
  unfolding complete_of boundary_below greatest_of complete_in latest_in latest ordered first_of contribution lesser
  none_of zero h = (refl, refl)
  none_of (suc n) h =
      let e : complete_below z.words z.slots (base_of image) (log_of z n image) n z.slots ≡ []
      = below_none z.words z.slots (base_of image) (log_of z n image) n z.slots (omega arith) in
      let r = none_of n (omega arith) in
      (rw (r.0, e), rw (r.1, e))

  -- an image whose base is its new base: no boundary
  pub spent-boundary : greatest_of z image z.lanes ≤ base_of image → boundary z image ≡ None
  unfolding boundary
  spent-boundary h = (none_of z.lanes h).1

  pub spent-stores : greatest_of z image z.lanes ≤ base_of image
      → recovery_stores z image ≡ record { at = 0; value = base_of image } ∷ zeros (1 + z.words) (2 * z.lanes * z.slots)
  unfolding recovery_stores undo_stores undone new_base undone_from undo_sequences
  spent-stores h =
      rw (spent-boundary h)
      (ap (λ m. record { at = 0; value = m } ∷ zeros (1 + z.words) (2 * z.lanes * z.slots))
      (let e : max (base_of image) (greatest_of z image z.lanes) ≡ base_of image = omega arith in e))

-- ---- words that became 0 raise no timestamp
zero-value : (W x : ℕ) → whole_stamp (read_of W x 0) ≡ 0
unfolding read_of whole_of whole_stamp
zero-value W x =
    split (eqb x 0) (λ e. rw e) (λ e. rw e
    (split (eqb (x % 2) 0)
    (λ f. rw f (split (entry_shape W x) (λ g. rw g) (λ g. rw g (split (stamp_shape x) (λ h. rw h) (λ h. rw h)))))
    (λ f. rw f)))

zero-address : (W y : ℕ) → whole_stamp (read_of W 0 y) ≡ 0
unfolding read_of whole_stamp
zero-address W y = split (eqb y 0) (λ e. rw e) (λ e. rw e)

-- a word as it was, or 0
abbrev pub Same0 : (now was : ℕ) → Type 0
Same0 x y = (x ≡ y) ⊎ (x ≡ 0)

less-stamp : (W x y x₀ y₀ : ℕ) → Same0 x x₀ → Same0 y y₀ → whole_stamp (read_of W x y) ≤ whole_stamp (read_of W x₀ y₀)
less-stamp W x y x₀ y₀ (inl p) (inl q) = rw (p, q) (le_refl _)
less-stamp W x y x₀ y₀ (inl p) (inr q) = rw (q, zero-value W x) (omega arith)
less-stamp W x y x₀ y₀ (inr p) q = rw (p, zero-address W y) (omega arith)

less-below : (W : ℕ) (new old : List ℕ) (k : ℕ) → ((i : ℕ) → i < 2 * k → Same0 (get_or new i 0) (get_or old i 0)) → greatest_below W new k ≤ greatest_below W old k
unfolding greatest_below slot_at
less-below W new old zero h = omega arith
less-below W new old (suc k) h =
    let r = less-below W new old k (λ i l. h i (omega arith)) in
    let t : whole_stamp (read_of W (get_or new (2 * k) 0) (get_or new (2 * k + 1) 0)) ≤ whole_stamp (read_of W (get_or old (2 * k) 0) (get_or old (2 * k + 1) 0))
    = less-stamp W _ _ _ _ (h (2 * k) (omega arith)) (h (2 * k + 1) (omega arith)) in
    omega arith

module _ (z : Sizes) (new old : List ℕ) (h : (i : ℕ) → z.words < i → Same0 (get_or new i 0) (get_or old i 0)) where
  log-word : (L i : ℕ) → i < 2 * z.slots → Same0 (get_or (log_of z L new) i 0) (get_or (log_of z L old) i 0)
  log-word L i l = rw (get_or-log z L new i l, get_or-log z L old i l) (h (log_start z L + i) (past-data z L i))

  less-of : (n : ℕ) → greatest_of z new n ≤ greatest_of z old n
  unfolding greatest_of
  less-of zero = omega arith
  less-of (suc n) =
      let r = less-of n in
      let t = less-below z.words (log_of z n new) (log_of z n old) z.slots (log-word n) in
      omega arith

-- ---- the zeros
-- a store of 0 at a word from `low` on and below `high`
abbrev pub Zeroing : (low high : ℕ) → Store → Type 0
Zeroing low high s = (low ≤ s.at) × (s.at < high) × (s.value ≡ 0)

pub all-zeroing : (low at n high : ℕ) → low ≤ at → at + n ≤ high → All (Zeroing low high) (zeros at n)
unfolding zeros
all-zeroing low at zero high h g = nil
all-zeroing low at (suc n) high h g = more (h, omega arith, refl) (all-zeroing low (suc at) n high (omega arith) (omega arith))

module _ (low high : ℕ) where
  pub zeroing-at : {l : List Store} → All (Zeroing low high) l → (i x : ℕ) → Same0 (last_at l i x) x
  unfolding last_at
  zeroing-at nil i x = inl refl
  zeroing-at (more {x = s} {l = l} h hs) i x =
      split (eqb s.at i)
      (λ e. rw e (inr (go (zeroing-at hs i s.value))))
      (λ e. rw e (zeroing-at hs i x))
    where
      go : Same0 (last_at l i s.value) s.value → last_at l i s.value ≡ 0
      go (inl p) = p ∙ h.2
      go (inr p) = p

  -- they leave the words below and above
  pub zeroing-off : {l : List Store} → All (Zeroing low high) l → (i x : ℕ) → (i < low) ⊎ (high ≤ i) → last_at l i x ≡ x
  unfolding last_at
  zeroing-off nil i x o = refl
  zeroing-off (more {x = s} h hs) i x o = rw (ne_eqb s.at i (λ e. off e o)) (zeroing-off hs i x o)
    where
      off : s.at ≡ i → (i < low) ⊎ (high ≤ i) → ⊥
      off e (inl p) = omega (arith, h.0)
      off e (inr p) = omega (arith, h.1)

pub zeros-low : (at n i x : ℕ) → i < at → last_at (zeros at n) i x ≡ x
zeros-low at n i x h = zeroing-off at (at + n) (all-zeroing at at n (at + n) (omega arith) (omega arith)) i x (inl h)

-- and are 0 where they stand
pub zeros-at : (at n i x : ℕ) → at ≤ i → i < at + n → last_at (zeros at n) i x ≡ 0
unfolding zeros last_at
zeros-at at zero i x h g = absurd (omega arith)
zeros-at at (suc n) i x h g =
    split (eqb at i)
    (λ e. ap (λ t. last_at (zeros (suc at) n) i (cond t 0 x)) e
    ∙ go (zeroing-at (suc at) (suc at + n) (all-zeroing (suc at) (suc at) n (suc at + n) (omega arith) (omega arith)) i 0))
    (λ e. ap (λ t. last_at (zeros (suc at) n) i (cond t 0 x)) e ∙ zeros-at (suc at) n i x (omega (arith, eqb-false at i e)) (omega arith))
  where
    go : Same0 (last_at (zeros (suc at) n) i 0) 0 → last_at (zeros (suc at) n) i 0 ≡ 0
    go (inl p) = p
    go (inr p) = p

-- some of them made before change nothing
zeros-again : (at n : ℕ) {l : List Store} → All (Zeroing at (at + n)) l → (i x : ℕ) → last_at (zeros at n) i (last_at l i x) ≡ last_at (zeros at n) i x
zeros-again at n {l} h i x =
    split (ltb i at)
    (λ e. ap (last_at (zeros at n) i) (zeroing-off at (at + n) h i x (inl (ltb-true i at e))))
    (λ e. split (ltb i (at + n))
    (λ f. zeros-at at n i (last_at l i x) (ltb-false i at e) (ltb-true i (at + n) f) ∙ sym (zeros-at at n i x (ltb-false i at e) (ltb-true i (at + n) f)))
    (λ f. ap (last_at (zeros at n) i) (zeroing-off at (at + n) h i x (inr (ltb-false i (at + n) f)))))

-- ---- some log words cleared
all-clearing : (z : Sizes) (words : List ℕ) → All (Zeroing (1 + z.words) (former_length z)) (clearing z words)
unfolding clearing
all-clearing z [] = nil
all-clearing z (i ∷ is) =
    split (leb (1 + z.words) i && ltb i (former_length z))
    (λ e. rw e (more (leb-true _ _ (and_left _ _ e), ltb-true _ _ (and_right (leb (1 + z.words) i) _ e), refl) (all-clearing z is)))
    (λ e. rw e (all-clearing z is))

-- ---- the theorems
module _ (z : Sizes) (c : List ℕ) (pos : 0 < length c) where
  U : List Store
  U = undo_stores z c

  zs : List Store
  zs = zeros (1 + z.words) (2 * z.lanes * z.slots)

  -- the store of the base, then these
  based : List Store → List Store
  based l = record { at = 0; value = new_base z c } ∷ l

  whole : recovery_stores z c ≡ U ++ based zs
  unfolding recovery_stores U based zs
  whole = refl

  undo-data : All (OnData z.words) U
  unfolding U
  undo-data = data-undo z c

  all-zs : All (Zeroing (1 + z.words) (former_length z)) zs
  unfolding zs former_length
  all-zs = all-zeroing (1 + z.words) (1 + z.words) (2 * z.lanes * z.slots) _ (omega arith) (omega arith)

  -- once the base is stored, and any zeros of log words
  late : List Store → List ℕ
  late l = stored (based l) (stored U c)

  late-made : (l : List Store) → stored (U ++ based l) c ≡ late l
  unfolding late
  late-made l = stored-append U (based l) c

  length-late : (l : List Store) → length (late l) ≡ length c
  unfolding late
  length-late l = length-stored (based l) (stored U c) ∙ length-stored U c

  top : greatest_of z c z.lanes ≤ new_base z c
  unfolding new_base
  top = omega arith

  late-at : (l : List Store) (i : ℕ) → i < length c → get_or (late l) i 0 ≡ last_at l i (cond (eqb 0 i) (new_base z c) (get_or (stored U c) i 0))
  unfolding late based last_at
  late-at l i h = get_or-stored (based l) (stored U c) i (rw length-stored h)

  module _ (l : List Store) (h : All (Zeroing (1 + z.words) (former_length z)) l) where
    late-base : base_of (late l) ≡ new_base z c
    unfolding base_of
    late-base = late-at l 0 pos ∙ zeroing-off (1 + z.words) (former_length z) h 0 (new_base z c) (inl (omega arith))

    late-word : (i : ℕ) → z.words < i → Same0 (get_or (late l) i 0) (get_or c i 0)
    late-word i g =
        split (ltb i (length c))
        (λ e. let b = ltb-true i (length c) e in
        rw (late-at l i b, ne_eqb 0 i (λ p. omega arith), get_or-stored U c i b, off-data z.words undo-data i (get_or c i 0) (inr g))
        (zeroing-at (1 + z.words) (former_length z) h i (get_or c i 0)))
        (λ e. inr (get_or-eq_default (late l) 0 (omega (arith, length-late l, ltb-false i (length c) e))))

    -- no timestamp is above the base
    late-spent : greatest_of z (late l) z.lanes ≤ base_of (late l)
    late-spent = omega (arith, less-of z (late l) c late-word z.lanes, late-base, top)

    late-stores : recovery_stores z (late l) ≡ based zs
    unfolding based zs
    late-stores = spent-stores z (late l) late-spent ∙ ap (λ b. record { at = 0; value = b } ∷ zs) late-base

    -- the zeros made before do not show
    late-over : (i x : ℕ) → last_at (based zs) i (last_at (based l) i x) ≡ last_at (based zs) i x
    unfolding based zs last_at former_length
    late-over i x = by (eqb 0 i) refl
      where
        by : (b : Bool) → eqb 0 i ≡ b → last_at zs i (cond b (new_base z c) (last_at l i (cond b (new_base z c) x))) ≡ last_at zs i (cond b (new_base z c) x)
        by true e = refl
        by false e = zeros-again (1 + z.words) (2 * z.lanes * z.slots) h i x

    late-again : recovered_image z (late l) ≡ recovered_image z c
    unfolding late
    late-again = rw (late-stores, whole, stored-append U (based zs) c) (stored-over (based zs) (based l) (stored U c) late-over)

  -- ---- any of the log words cleared
  module _ (words : List ℕ) where
    is-late : partly_cleared z words c ≡ late (clearing z words)
    unfolding partly_cleared U based
    is-late = late-made (clearing z words)

    pub cleared-length : length (partly_cleared z words c) ≡ length c
    cleared-length = ap length is-late ∙ length-late (clearing z words)

    pub cleared-base : base_of (partly_cleared z words c) ≡ new_base z c
    cleared-base = ap base_of is-late ∙ late-base (clearing z words) (all-clearing z words)

    -- a recovery cut while it clears the log words, whichever of them are cleared, and done again leaves the same image
    pub cleared-again : recovered_image z (partly_cleared z words c) ≡ recovered_image z c
    cleared-again = rw is-late (late-again (clearing z words) (all-clearing z words))

  -- ---- any number of stores made
  -- base and logs are as they were, or the base is stored
  data Stage (k : ℕ) : Type 0 where
    early : Alike z (recovered_nvm z k c) c → Stage k
    past : (m : ℕ) → recovered_nvm z k c ≡ late (take m zs) → Stage k

  stage : (k : ℕ) → Stage k
  unfolding recovered_nvm based
  stage k =
      split (leb k (length U))
      (λ e. early (rw (whole, take-append-le k U (based zs) (leb-true k (length U) e)) (alike-data z c pos (All-take k undo-data))))
      (λ e. rest (k - length U) (take_past U (based zs) k (omega (arith, leb-false k (length U) e))) (omega (arith, leb-false k (length U) e)))
    where
      rest : (m : ℕ) → take k (U ++ based zs) ≡ U ++ take m (based zs) → 0 < m → Stage k
      rest zero e h = absurd (omega arith)
      rest (suc m) e h = past m (rw (whole, e) (late-made (take m zs)))

  pub cut-base : (k : ℕ) → (base_of (recovered_nvm z k c) ≡ base_of c) ⊎ (base_of (recovered_nvm z k c) ≡ new_base z c)
  cut-base k = go (stage k)
    where
      go : Stage k → (base_of (recovered_nvm z k c) ≡ base_of c) ⊎ (base_of (recovered_nvm z k c) ≡ new_base z c)
      go (early a) = inl a.base
      go (past m e) = inr (ap base_of e ∙ late-base (take m zs) (All-take m all-zs))

  -- a recovery cut after any of its stores and done again leaves the same image
  pub recovered-again : (k : ℕ) → recovered_image z (recovered_nvm z k c) ≡ recovered_image z c
  unfolding recovered_nvm
  recovered-again k = go (stage k)
    where
      go : Stage k → recovered_image z (recovered_nvm z k c) ≡ recovered_image z c
      go (early a) = rw (alike-stores z (recovered_nvm z k c) c a) (stored-again (recovery_stores z c) k c)
      go (past m e) = rw e (late-again (take m zs) (All-take m all-zs))
