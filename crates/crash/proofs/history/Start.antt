-- A start, by Format or a finished recovery: the book's part; and the image that Format makes. Assumes nothing.
use Rattle.std.specs.Prelude.{Some, None}
use mathlib.Core.Path.{◌≡◌, refl, ap, ◌∙◌, sym, subst}
use mathlib.Core.Bool.{true}
use mathlib.Core.List.{List, ◌∷◌, ◌++◌}
use Prim.Native.Nat.{ℕ, ◌+◌, ◌-◌, ◌*◌, ◌%◌, ◌≤◌, ◌<◌}
use native.Mathlib.Omega.{arith}
use native.Mathlib.Nat.{le_refl}
use lib.ListN.{length, get_or, drop, replicate, length-replicate, get_or-replicate, get_or-append}
use lib.Seq.{take_at, drop_at, get_or-append-add, ext_get_or}
use Rattle.laws.specs.inner.Lists.{none as nil}
use Rattle.image.specs.Image.{max_lanes, sizes_ok, former_length, trailer, image_length, base_of, data_of, log_start, log_of}
use Rattle.image.specs.inner.ImageLaws.{sizes-in, get_or-log, length-log, log-fits}
use Rattle.image.specs.inner.BulkLaws.{get_or-zeros}
use Rattle.image.specs.declared.Sizes.{Sizes}
use Rattle.record.specs.Record.{start_lane, start_record, lane_at, is_logged, lock_length, no_pairs, is_held, floor_ok, phase_ok, lag_ok, record_ok}
use Rattle.record.specs.inner.RecordLaws.{LaneIn}
use Rattle.record.specs.declared.Lane.{Lane}
use Rattle.record.specs.declared.Logged.{Logged}
use Rattle.store.specs.Calls.{started, start_image}
use Rattle.store.specs.inner.Checked.{body_of}
use Rattle.store.specs.inner.FormatLaws.{length-body, body-trailer, length-start_image}
use Rattle.crash.specs.History.{newest_stamp, Page, blank_page, page_at, opened, replay, words_below, present, written, visible, is_some}
use Rattle.crash.specs.Theorem.{lock_state, holder_state, Live, end_of}
use Rattle.crash.proofs.recovery.Data.{last}
use Rattle.crash.proofs.history.Lanes.{lane-start}
use Rattle.crash.proofs.history.Ranges.{RecordRange, record-ranged, free-ok, stamp-now}
use Rattle.crash.proofs.history.Agree.{last_of, Book, not-locked}
use Rattle.crash.proofs.lane.Ends.{Form, form-buffers}

-- ---- the book
module _ (z : Sizes) (lag base : ℕ) (image words : List ℕ) (ok : sizes_ok z ≡ true) (in-lag : lag_ok lag ≡ true)
    (even : base % 2 ≡ 0) (long : former_length z ≤ length image) (form : Form z (end_of z image)) (same : data_of z image ≡ words) where
  eight : z.lanes ≤ max_lanes
  eight = (sizes-in z ok).lanes-high

  page-start : (M : ℕ) → M < z.lanes → page_at (opened z lag words base) M ≡ blank_page
  unfolding page_at opened
  page-start M i = get_or-replicate z.lanes M blank_page blank_page i

  start-range : LaneIn z base start_lane
  unfolding start_lane floor_ok phase_ok
  start-range = record { next = let k = (sizes-in z ok).slots-low in omega arith; wrap = omega arith; floor = refl; phase = refl }

  eight-lanes : length (start_record lag base).lanes ≡ max_lanes
  unfolding start_record
  eight-lanes = length-replicate max_lanes start_lane

  ranges-start : RecordRange z (start_record lag base) no_pairs
  unfolding start_record
  ranges-start =
      record {
        even = even;
        last = stamp-now base even;
        lag = in-lag;
        lanes = λ M i. subst (LaneIn z base) (sym (lane-start z lag base eight M i)) start-range;
        lock = free-ok z (start_record lag base) no_pairs None refl;
      }

  in-range : record_ok z (start_record lag base) no_pairs ≡ true
  in-range = record-ranged z (start_record lag base) no_pairs (rw eight-lanes eight) ranges-start

  idle-start : (M : ℕ) → M < z.lanes → (lane_at (start_record lag base) M).phase ≡ None
  unfolding start_lane
  idle-start M i = ap (λ (l : Lane). l.phase) (lane-start z lag base eight M i)

  pub none-held : {A : Type 0} (M : ℕ) (g : Logged) → M < z.lanes → (lane_at (started lag base image).state M).phase ≡ Some g → A
  unfolding started
  none-held M g i e = absurd (let d = idle-start M i in let z : ◌≡◌ {A = ℕ} 0 1 = cc in omega arith)

  floors-start : (M : ℕ) → M < z.lanes → (lane_at (start_record lag base) M).floor ≡ (page_at (opened z lag words base) M).floor
  unfolding start_lane
  floors-start M i = rw (lane-start z lag base eight M i, page-start M i)

  held_start : (M : ℕ) → M < z.lanes → is_logged (lane_at (start_record lag base) M).phase ≡ is_some (page_at (opened z lag words base) M).held
  unfolding start_lane is_logged is_some
  held_start M i = rw (lane-start z lag base eight M i, page-start M i)

  no-stamp : {A : Type 0} (M s : ℕ) → M < z.lanes → newest_stamp (page_at (opened z lag words base) M).newest ≡ Some s → A
  unfolding newest_stamp
  no-stamp M s i e =
      absurd (let d = ap (λ (p : Page). newest_stamp p.newest) (page-start M i) in let z : ◌≡◌ {A = ℕ} 0 1 = cc in omega arith)

  live-start : Live z (opened z lag words base) (started lag base image)
  unfolding started opened present words_below visible written replay start_record lock_state holder_state
  live-start =
      record {
        words = same;
        clock = refl;
        lag = refl;
        floors = floors-start;
        held = held_start;
        lock = refl;
      }

  pub book-start : Book z base (opened z lag words base) (started lag base image)
  unfolding started opened last_of start_record is_held
  book-start =
      record {
        buffers = form-buffers z image image (replicate (length image) 0) ok long form refl (length-replicate {A = ℕ} (length image) 0);
        in_pairs = length-replicate {A = ℕ} lock_length 0;
        fields = in-range;
        lanes = rw eight-lanes eight;
        pages = length-replicate z.lanes blank_page;
        live = live-start;
        rising = last;
        above = nil;
        upto = nil;
        low = le_refl base;
        last = refl;
        stamps = λ M s i e. no-stamp M s i e;
        holding = λ M g i e. none-held M g i e;
        locking = λ k e. not-locked None k refl e;
      }

-- ---- the image of Format
module _ (z : Sizes) (start : List ℕ) (words : length start ≡ z.words) where
  pub image-data : data_of z (start_image z start) ≡ start
  unfolding start_image data_of
  image-data = take_at start (replicate (2 * z.lanes * z.slots) 0 ++ trailer z) z.words words

  pub image-base : base_of (start_image z start) ≡ 0
  unfolding start_image base_of
  image-base = refl

  pub image-fits : former_length z ≤ length (start_image z start)
  unfolding image_length
  image-fits = omega (arith, length-start_image z start words)

  -- past the base and the start words, and before the trailer
  word-past : (k : ℕ) → k < 2 * z.lanes * z.slots → get_or (start_image z start) (length (0 ∷ start) + k) 0 ≡ 0
  unfolding start_image
  word-past k h =
      get_or-append-add (0 ∷ start) (replicate (2 * z.lanes * z.slots) 0 ++ trailer z) k 0
      ∙ get_or-append (replicate (2 * z.lanes * z.slots) 0) (trailer z) 0 k (omega (arith, length-replicate {A = ℕ} (2 * z.lanes * z.slots) 0))
      ∙ get_or-zeros (2 * z.lanes * z.slots) k

  word-late : (i : ℕ) → 1 + z.words ≤ i → i < former_length z → get_or (start_image z start) i 0 ≡ 0
  unfolding former_length
  word-late i h g =
      let e : length (0 ∷ start) + (i - length (0 ∷ start)) ≡ i = omega arith in
      ap (λ (j : ℕ). get_or (start_image z start) j 0) (sym e) ∙ word-past (i - length (0 ∷ start)) (omega arith)

  pub image-end : end_of z (start_image z start) ≡ trailer z
  unfolding end_of
  image-end = ap (drop (former_length z)) (body-trailer z start) ∙ drop_at (body_of z start) (trailer z) (former_length z) (length-body z start words)

  late : (L j : ℕ) → 1 + z.words ≤ log_start z L + j
  unfolding log_start
  late L j = omega arith

  pub image-log : (L : ℕ) → L < z.lanes → log_of z L (start_image z start) ≡ replicate (2 * z.slots) 0
  image-log L h =
      ext_get_or 0 (log_of z L (start_image z start)) (replicate (2 * z.slots) 0) (len ∙ sym (length-replicate (2 * z.slots) 0))
      (λ j g. let k : j < 2 * z.slots = rw len at g in
      get_or-log z L (start_image z start) j k ∙ word-late (log_start z L + j) (late L j) (omega (arith, log-fits z L h)) ∙ sym (get_or-zeros (2 * z.slots) j))
    where
      len : length (log_of z L (start_image z start)) ≡ 2 * z.slots
      len = length-log z L (start_image z start) image-fits h
