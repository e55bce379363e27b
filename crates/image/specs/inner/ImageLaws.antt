-- Inner: how the code goes, need not be believed. Laws of the sizes and of the image: ranges, lengths of buffers, where the logs stand, and a store seen in
-- data words and logs. Assumes nothing.
use Rattle.std.specs.Prelude.{◌≡◌, ◌≢◌, ◌⊎◌, Bool, ◌&&◌, ◌||◌, List, leb, eqb, ltb, length, get_or, set, take, drop}
use Rattle.std.proofs.Common.{◌∙◌, le_trans, mul-le-mul, length-set}
use Rattle.std.proofs.Math.Path.{refl}
use Rattle.std.proofs.Math.Logic.{inl, inr}
use Rattle.std.proofs.Math.Bool.{true, false}
use Prim.Native.Nat.{ℕ, suc, ◌+◌, ◌-◌, ◌*◌, ◌≤◌, ◌<◌}
use native.Mathlib.Omega.{arith}
use Rattle.std.proofs.Math.Nat.{mul-le-mul_left, add-sub_cancel_left}
use Rattle.std.proofs.Math.ListN.{length-drop}
use Rattle.std.proofs.Math.Seq.{take-set-lt, get_or-set_other, get_or-take, get_or-drop, length-take-le}
use Rattle.std.proofs.lemmas.List.{drop-set-add}
use borrow.Author.Tests.{leb-true, le-leb, lt-leb, eqb-true, ltb-true, ltb-false, eq-eqb, ne_eqb}
use Rattle.laws.specs.inner.Tests.{split, and_left, and_right}
use Rattle.laws.specs.inner.Lists.{stretch-same}
use Rattle.image.specs.Image.{max_words, max_lanes, min_slots, max_slots, max_former, max_image}
use Rattle.image.specs.Image.{sizes_ok, former_length, image_length, all_are, format_ok, former_ok, buffers_ok}
use Rattle.image.specs.Image.{sizes_at_end, trailer_ok, data_of, log_start, log_of}
use Rattle.image.specs.inner.Facts.{IsImage, IsLog}
use Rattle.image.specs.declared.Sizes.{Sizes}

-- ---- ranges
pub record InRange (z : Sizes) : Type 0 where
  pub words-low : 1 ≤ z.words
  pub words-high : z.words ≤ max_words
  pub lanes_low : 1 ≤ z.lanes
  pub lanes-high : z.lanes ≤ max_lanes
  pub slots-low : min_slots ≤ z.slots
  pub slots-high : z.slots ≤ max_slots

pub sizes-in : (z : Sizes) → sizes_ok z ≡ true → InRange z
unfolding sizes_ok
sizes-in z e =
    let b = and_right (leb 1 z.words) _ e in
    let c = and_right (leb z.words max_words) _ b in
    let d = and_right (leb 1 z.lanes) _ c in
    let f = and_right (leb z.lanes max_lanes) _ d in
    record {
      words-low = leb-true _ _ (and_left (leb 1 z.words) _ e);
      words-high = leb-true _ _ (and_left (leb z.words max_words) _ b);
      lanes_low = leb-true _ _ (and_left (leb 1 z.lanes) _ c);
      lanes-high = leb-true _ _ (and_left (leb z.lanes max_lanes) _ d);
      slots-low = leb-true _ _ (and_left (leb min_slots z.slots) (leb z.slots max_slots) f);
      slots-high = leb-true _ _ (and_right (leb min_slots z.slots) (leb z.slots max_slots) f);
    }

-- the words of all logs together
pub logs-small : (z : Sizes) → InRange z → 2 * z.lanes * z.slots ≤ 2 * max_lanes * max_slots
logs-small z s = mul-le-mul {n₁ = 2 * z.lanes} {m₁ = z.slots} {n₂ = 2 * max_lanes} {m₂ = max_slots} (omega arith) s.slots-high

pub length-small : (z : Sizes) → InRange z → former_length z ≤ max_former
unfolding former_length
length-small z s = omega (arith, logs-small z s)

-- the log of a lane ends within the image
pub log-fits : (z : Sizes) (L : ℕ) → L < z.lanes → log_start z L + 2 * z.slots ≤ former_length z
unfolding log_start former_length
log-fits z L h = omega (arith, mul-le-mul_left (2 * z.slots) h)

-- the logs before that of a lane have at most as many words as all
pub logs-before-small : (z : Sizes) (L : ℕ) → InRange z → L < z.lanes → 2 * z.slots * L ≤ 2 * max_lanes * max_slots
unfolding log_start former_length
logs-before-small z L s h = omega (arith, log-fits z L h, logs-small z s)

-- ---- three buffers of n words
pub record AllAre (n cache nvm flags : ℕ) : Type 0 where
  pub in-cache : cache ≡ n
  pub in-nvm : nvm ≡ n
  pub in-flags : flags ≡ n

pub all_in : (n cache nvm flags : ℕ) → all_are n cache nvm flags ≡ true → AllAre n cache nvm flags
unfolding all_are
all_in n cache nvm flags e =
    let c = and_right (eqb cache n) _ e in
    record {
      in-cache = eqb-true _ _ (and_left (eqb cache n) _ e);
      in-nvm = eqb-true _ _ (and_left (eqb nvm n) (eqb flags n) c);
      in-flags = eqb-true _ _ (and_right (eqb nvm n) (eqb flags n) c);
    }

pub all-good : (n cache nvm flags : ℕ) → AllAre n cache nvm flags → all_are n cache nvm flags ≡ true
unfolding all_are
all-good n cache nvm flags a = rw (eq-eqb cache n a.in-cache, eq-eqb nvm n a.in-nvm, eq-eqb flags n a.in-flags)

-- as long as an image of these sizes, without a trailer or with it
pub record Buffers (z : Sizes) (cache nvm flags : ℕ) : Type 0 where
  pub sizes-ok : sizes_ok z ≡ true
  pub sizes : InRange z
  pub fits : former_length z ≤ cache
  pub small : cache ≤ max_image
  pub same-nvm : nvm ≡ cache
  pub same_flags : flags ≡ cache

module _ (z : Sizes) (cache nvm flags : ℕ) where
  long-buffers : (n : ℕ) → sizes_ok z ≡ true → former_length z ≤ n → n ≤ former_length z + 4 → AllAre n cache nvm flags → Buffers z cache nvm flags
  long-buffers n s low high a =
      record {
        sizes-ok = s;
        sizes = sizes-in z s;
        fits = omega (arith, a.in-cache);
        small = omega (arith, a.in-cache, length-small z (sizes-in z s));
        same-nvm = omega (arith, a.in-cache, a.in-nvm);
        same_flags = omega (arith, a.in-cache, a.in-flags);
      }

  -- the test of one length, and what it tells
  long-in : (n : ℕ) → (sizes_ok z && all_are n cache nvm flags) ≡ true → (sizes_ok z ≡ true) × AllAre n cache nvm flags
  long-in n e = (and_left (sizes_ok z) _ e, all_in n cache nvm flags (and_right (sizes_ok z) _ e))

  long-good : (n : ℕ) → sizes_ok z ≡ true → AllAre n cache nvm flags → (sizes_ok z && all_are n cache nvm flags) ≡ true
  long-good n s a = rw (s, all-good n cache nvm flags a)

  -- with a trailer
  pub format-in : format_ok z cache nvm flags ≡ true → (sizes_ok z ≡ true) × AllAre (image_length z) cache nvm flags
  unfolding format_ok
  format-in = long-in (image_length z)

  format-buffers : format_ok z cache nvm flags ≡ true → Buffers z cache nvm flags
  unfolding image_length
  format-buffers e = let a = format-in e in long-buffers _ a.0 (omega arith) (omega arith) a.1

  -- without
  pub former-in : former_ok z cache nvm flags ≡ true → (sizes_ok z ≡ true) × AllAre (former_length z) cache nvm flags
  unfolding former_ok
  former-in = long-in (former_length z)

  pub former-buffers : former_ok z cache nvm flags ≡ true → Buffers z cache nvm flags
  former-buffers e = let a = former-in e in long-buffers _ a.0 (omega arith) (omega arith) a.1

  -- either
  pub either : buffers_ok z cache nvm flags ≡ true → (format_ok z cache nvm flags ≡ true) ⊎ (former_ok z cache nvm flags ≡ true)
  unfolding buffers_ok format_ok former_ok
  either e = go (sizes_ok z) (all_are (image_length z) cache nvm flags) (all_are (former_length z) cache nvm flags) e
    where
      go : (s a b : Bool) → (s && (a || b)) ≡ true → ((s && a) ≡ true) ⊎ ((s && b) ≡ true)
      go true true b e = inl refl
      go true false b e = inr e
      go false a b e = inl e

  pub buffers-in : buffers_ok z cache nvm flags ≡ true → Buffers z cache nvm flags
  buffers-in e = elim (either e) [ inl f ↦ format-buffers f | inr f ↦ former-buffers f ]

  pub format-either : format_ok z cache nvm flags ≡ true → buffers_ok z cache nvm flags ≡ true
  unfolding buffers_ok format_ok
  format-either e = rw (and_left (sizes_ok z) _ e, and_right (sizes_ok z) _ e)

  pub former-either : former_ok z cache nvm flags ≡ true → buffers_ok z cache nvm flags ≡ true
  unfolding buffers_ok former_ok
  former-either e =
      rw (and_left (sizes_ok z) _ e, and_right (sizes_ok z) _ e) (or-true (all_are (image_length z) cache nvm flags))
    where
      or-true : (b : Bool) → (b || true) ≡ true
      or-true true = refl
      or-true false = refl

  pub format-good : sizes_ok z ≡ true → AllAre (image_length z) cache nvm flags → format_ok z cache nvm flags ≡ true
  unfolding format_ok
  format-good = long-good (image_length z)

  pub former-good : sizes_ok z ≡ true → AllAre (former_length z) cache nvm flags → former_ok z cache nvm flags ≡ true
  unfolding former_ok
  former-good = long-good (former_length z)

-- ---- the trailer, as it is tested
module _ (image : List ℕ) where
  pub trailer-short : length image < 4 → false ≡ trailer_ok image
  unfolding trailer_ok
  trailer-short h = rw (lt-leb 4 (length image) h)

  module _ (h : 4 ≤ length image) where
    pub trailer-sizes : sizes_ok (sizes_at_end image) ≡ false → false ≡ trailer_ok image
    unfolding trailer_ok
    trailer-sizes e = rw (le-leb 4 (length image) h, e)

    module _ (s : sizes_ok (sizes_at_end image) ≡ true) (k : ℕ) (e : k ≡ former_length (sizes_at_end image)) where
      pub trailer-fourth : (get_or image (length image - 1) 0 ≡ k → ⊥) → false ≡ trailer_ok image
      unfolding trailer_ok
      trailer-fourth d = rw (le-leb 4 (length image) h, s, ← e, ne_eqb _ _ d)

      pub trailer-long : get_or image (length image - 1) 0 ≡ k → (n : ℕ) → n ≡ image_length (sizes_at_end image) → eqb (length image) n ≡ trailer_ok image
      unfolding trailer_ok
      trailer-long f n g = rw (le-leb 4 (length image) h, s, ← e, eq-eqb _ _ f, g)

  -- and what is known where it is right
  pub trailer-in : trailer_ok image ≡ true → (sizes_ok (sizes_at_end image) ≡ true) × (length image ≡ image_length (sizes_at_end image))
  unfolding trailer_ok
  trailer-in e =
      let a = and_right (leb 4 (length image)) _ e in
      let b = and_right (sizes_ok (sizes_at_end image)) _ a in
      (and_left (sizes_ok (sizes_at_end image)) _ a, eqb-true _ _ (and_right (eqb (get_or image (length image - 1) 0) (former_length (sizes_at_end image))) _ b))

  pub trailer-four : trailer_ok image ≡ true → 4 ≤ length image
  unfolding image_length
  trailer-four e = omega (arith, (trailer-in e).1)

  -- it is then an image of the sizes that it tells
  pub trailer-image : trailer_ok image ≡ true → IsImage (sizes_at_end image) image
  unfolding image_length
  trailer-image e =
      let t = trailer-in e in
      let s = length-small _ (sizes-in _ t.0) in
      record { sizes-ok = t.0; in_image = omega (arith, t.1); small = omega (arith, t.1, s) }

-- an image has a word
pub image-filled : (z : Sizes) (n : ℕ) → former_length z ≤ n → 0 < n
unfolding former_length
image-filled z n e = omega arith

-- ---- the parts of an image
module _ (z : Sizes) where
  pub get_or-data : (image : List ℕ) (i : ℕ) → i < z.words → get_or (data_of z image) i 0 ≡ get_or image (1 + i) 0
  unfolding data_of
  get_or-data image i h = get_or-take z.words (drop 1 image) i 0 h ∙ get_or-drop 1 image i 0

  pub get_or-log : (L : ℕ) (image : List ℕ) (j : ℕ) → j < 2 * z.slots → get_or (log_of z L image) j 0 ≡ get_or image (log_start z L + j) 0
  unfolding log_of
  get_or-log L image j h = get_or-take (2 * z.slots) (drop (log_start z L) image) j 0 h ∙ get_or-drop (log_start z L) image j 0

  pub length-data : (image : List ℕ) → former_length z ≤ length image → length (data_of z image) ≡ z.words
  unfolding data_of former_length
  length-data image e = length-take-le z.words (drop 1 image) (omega (arith, length-drop 1 image))

  pub length-log : (L : ℕ) (image : List ℕ) → former_length z ≤ length image → L < z.lanes → length (log_of z L image) ≡ 2 * z.slots
  unfolding log_of
  length-log L image e h =
      length-take-le (2 * z.slots) (drop (log_start z L) image) (omega (arith, length-drop (log_start z L) image, log-fits z L h))

  pub log-of : (L : ℕ) (image : List ℕ) → IsImage z image → L < z.lanes → IsLog z.slots (log_of z L image)
  log-of L image i h =
      let s = sizes-in z i.sizes-ok in
      record { in-log = length-log L image i.in_image h; slots-low = s.slots-low; slots-high = s.slots-high }

  -- where the code finds the log of a lane: a part that ends within an image of few words
  pub part-fits : (L : ℕ) (image : List ℕ) (start : ℕ) → IsImage z image → L < z.lanes → start ≡ log_start z L
      → (start + 2 * z.slots ≤ length image) × (length image ≤ max_image)
  part-fits L image start i h e =
      (rw e (le_trans (log-fits z L h) i.in_image), i.small)

  pub part_log : (L : ℕ) (image : List ℕ) (start : ℕ) → start ≡ log_start z L
      → take (start + 2 * z.slots - start) (drop start image) ≡ log_of z L image
  unfolding log_of
  part_log L image start e = rw (e, add-sub_cancel_left (log_start z L) (2 * z.slots))

  -- the logs of different lanes stand apart
  pub logs-apart : (L M j : ℕ) → L ≢ M → j < 2 * z.slots → (log_start z M + j < log_start z L) ⊎ (log_start z L + 2 * z.slots ≤ log_start z M + j)
  unfolding log_start
  logs-apart L M j d h =
      split (ltb M L)
      (λ e. inl (omega (arith, mul-le-mul_left (2 * z.slots) (ltb-true M L e))))
      (λ e. inr (omega (arith, mul-le-mul_left (2 * z.slots) (let k : suc L ≤ M = omega (arith, ltb-false M L e) in k))))

  -- ---- a store to an image, seen in its logs
  pub log_of-set : (L : ℕ) (image : List ℕ) (j v : ℕ) → j < 2 * z.slots → log_of z L (set image (log_start z L + j) v) ≡ set (log_of z L image) j v
  unfolding log_of
  log_of-set L image j v h = rw (drop-set-add (log_start z L) image j v, take-set-lt (2 * z.slots) (drop (log_start z L) image) j v h)

  -- a store before or past a log
  pub log_of-out : (L : ℕ) (image : List ℕ) (i v : ℕ) → (i < log_start z L) ⊎ (log_start z L + 2 * z.slots ≤ i) → log_of z L (set image i v) ≡ log_of z L image
  unfolding log_of
  log_of-out L image i v o =
      stretch-same (log_start z L) (2 * z.slots) (set image i v) image (length-set image i v)
      (λ k h _. get_or-set_other image i (log_start z L + k) v 0 (λ e. off k h e o))
    where
      off : (k : ℕ) → k < 2 * z.slots → log_start z L + k ≡ i → (i < log_start z L) ⊎ (log_start z L + 2 * z.slots ≤ i) → ⊥
      off k h e (inl p) = omega arith
      off k h e (inr p) = omega arith

  -- ---- in its data words
  pub data_of-set : (image : List ℕ) (i v : ℕ) → i < z.words → data_of z (set image (1 + i) v) ≡ set (data_of z image) i v
  unfolding data_of
  data_of-set image i v h = rw (drop-set-add 1 image i v, take-set-lt z.words (drop 1 image) i v h)

  pub data_of-set-log : (L : ℕ) (image : List ℕ) (j v : ℕ) → data_of z (set image (log_start z L + j) v) ≡ data_of z image
  unfolding data_of log_start
  data_of-set-log L image j v =
      stretch-same 1 z.words (set image _ v) image (length-set image _ v) (λ k h _. get_or-set_other image _ (1 + k) v 0 (λ e. omega arith))
