-- Inner: how the code goes, need not be believed. Laws of the listing: a line more, as loops print it, and how long the parts are. Assumes nothing.
use Rattle.std.specs.Prelude.{◌≡◌, List, [], ◌∷◌, ◌++◌, length, get_or, take, Option, Some, None}
use Rattle.std.proofs.Math.Path.{refl, sym, ap}
use Rattle.std.proofs.Common.{◌∙◌, append-nil, append_assoc, add-one}
use Prim.Native.Nat.{ℕ, zero, suc, ◌+◌, ◌*◌, ◌≤◌, ◌<◌}
use native.Mathlib.Omega.{arith}
use Rattle.std.proofs.Math.Seq.{take-suc}
use Rattle.std.proofs.Math.ListN.{length-append}
use Rattle.slot.specs.declared.Content.{Content}
use Rattle.slot.specs.declared.Content.TheVariants.{Empty, Torn, Entry, Stamp}
use Rattle.image.specs.Image.{max_slots, base_of, log_of}
use Rattle.image.specs.declared.Sizes.{Sizes}
use Rattle.lane_log.specs.Log.{Complete, slot_at, closes, complete_below, complete_in, latest_in}
use Rattle.lane_log.specs.inner.Search.{closed_at}
use Rattle.lane_log.proofs.SearchLaws.{closed-from, closes-none, closes-one, closed_as}
use Rattle.recovery.specs.Recovery.{undone}
use Rattle.inspection.specs.Inspection.{base_text, slot_text, entry_text, timestamp_text, sequence_text, newest_text, undo_text}
use Rattle.inspection.specs.Inspection.{named, line_of, content_text, slot_line, slot_lines, sequence_line, sequence_lines, newest_line}
use Rattle.inspection.specs.Inspection.{lane_text, lanes_text, listing}
use Rattle.inspection.specs.Inspection.{content_room, slot_room, line_room, lane_room}
use Rattle.inspection.specs.inner.InspectionFacts.{closed_text, undo_lines}
use Rattle.recovery.specs.declared.Listed.{Listed}
use Rattle.recovery.specs.inner.UndoList.{undo_list}
use Rattle.inspection.specs.inner.LineLaws.{named-short, line-short}
use Rattle.lane_log.specs.declared.Log.{Log}
use Rattle.lane_log.specs.declared.Sequence.{Sequence}

-- ---- slots
content-short : (c : Content) → length (content_text c) ≤ content_room
unfolding content_text
content-short Empty = omega arith
content-short Torn = omega arith
content-short (Entry i v p) = omega (arith, line-short entry_text (i ∷ v ∷ p ∷ []))
content-short (Stamp n s p) = omega (arith, line-short timestamp_text (n ∷ s ∷ p ∷ []))

slot-short : (L j : ℕ) (c : Content) → length (slot_line L j c) ≤ slot_room
unfolding slot_line
slot-short L j c =
    rw (length-append (named slot_text (L ∷ j ∷ [])) (content_text c)) (omega (arith, named-short slot_text (L ∷ j ∷ []), content-short c))

module _ (W : ℕ) (log : List ℕ) (L : ℕ) where
  pub slots-none : [] ≡ slot_lines W log L 0
  unfolding slot_lines
  slots-none = refl

  pub slots-more : (k : ℕ) → slot_lines W log L k ++ slot_line L k (slot_at W log k) ≡ slot_lines W log L (k + 1)
  unfolding slot_lines
  slots-more k = ap (slot_lines W log L) (sym (add-one k))

  pub slots-short : (k : ℕ) → length (slot_lines W log L k) ≤ slot_room * k
  unfolding slot_lines
  slots-short zero = omega arith
  slots-short (suc k) =
      rw (length-append (slot_lines W log L k) (slot_line L k (slot_at W log k))) (omega (arith, slots-short k, slot-short L k (slot_at W log k)))

-- ---- complete sequences
sequences-append : (name : List ℕ) (qs rs : List Complete) → sequence_lines name (qs ++ rs) ≡ sequence_lines name qs ++ sequence_lines name rs
unfolding sequence_lines
sequences-append name [] rs = refl
sequences-append name (q ∷ qs) rs =
    ap (λ l. sequence_line name q ++ l) (sequences-append name qs rs) ∙ sym (append_assoc (sequence_line name q) (sequence_lines name qs) (sequence_lines name rs))

closed-short : (L : ℕ) (q : Option Sequence) → length (closed_text L q) ≤ line_room
unfolding closed_text
closed-short L None = omega arith
closed-short L (Some q) = omega (arith, line-short sequence_text (L ∷ q.slot ∷ q.count ∷ q.stamp ∷ []))

module _ (W N base : ℕ) (log : List ℕ) (L : ℕ) where
  closed-text : (j : ℕ) → closed_text L (closed_at W N base log j) ≡ sequence_lines sequence_text (closes W N base log L j (slot_at W log j))
  unfolding closed_text sequence_line sequence_lines
  closed-text j = by (closed_at W N base log j) refl
    where
      by : (x : Option Sequence) → closed_at W N base log j ≡ x → closed_text L x ≡ sequence_lines sequence_text (closes W N base log L j (slot_at W log j))
      by None e = sym (ap (sequence_lines sequence_text) (closes-none W N base log L j e))
      by (Some q) e =
          let c = closed-from W N base log j q e in
          ap (λ k. line_of sequence_text (L ∷ k ∷ q.count ∷ q.stamp ∷ [])) c.slot
          ∙ ap (λ n. line_of sequence_text (L ∷ j ∷ n ∷ q.stamp ∷ [])) (sym c.whole)
          ∙ sym (append-nil (sequence_line sequence_text (closed_as W N base log L j q c)))
          ∙ sym (ap (sequence_lines sequence_text) (closes-one W N base log L j q c))

  pub below_none : [] ≡ sequence_lines sequence_text (complete_below W N base log L 0)
  unfolding complete_below sequence_lines
  below_none = refl

  pub below_more : (k : ℕ)
      → sequence_lines sequence_text (complete_below W N base log L k) ++ closed_text L (closed_at W N base log k)
      ≡ sequence_lines sequence_text (complete_below W N base log L (k + 1))
  unfolding complete_below
  below_more k =
      ap (λ l. sequence_lines sequence_text (complete_below W N base log L k) ++ l) (closed-text k)
      ∙ sym (sequences-append sequence_text (complete_below W N base log L k) (closes W N base log L k (slot_at W log k)))
      ∙ ap (λ n. sequence_lines sequence_text (complete_below W N base log L n)) (sym (add-one k))

  pub below-short : (k : ℕ) → length (sequence_lines sequence_text (complete_below W N base log L k)) ≤ line_room * k
  unfolding complete_below sequence_lines
  below-short zero = omega arith
  below-short (suc k) =
      rw (
        sequences-append sequence_text (complete_below W N base log L k) (closes W N base log L k (slot_at W log k)),
        ← closed-text k,
        length-append (sequence_lines sequence_text (complete_below W N base log L k)) (closed_text L (closed_at W N base log k)),
      )
      (omega (arith, below-short k, closed-short L (closed_at W N base log k)))

pub newest-short : (L : ℕ) (q : Option Sequence) → length (newest_line L q) ≤ line_room
unfolding newest_line
newest-short L None =
    rw (length-append (named newest_text (L ∷ [])) (32 ∷ 110 ∷ 111 ∷ 110 ∷ 101 ∷ 10 ∷ [])) (omega (arith, named-short newest_text (L ∷ [])))
newest-short L (Some q) = omega (arith, line-short newest_text (L ∷ q.slot ∷ q.count ∷ q.stamp ∷ []))

-- ---- lanes
module _ (z : Sizes) (image : List ℕ) where
  lane-short : (L : ℕ) → z.slots ≤ max_slots → length (lane_text z image L) ≤ lane_room
  unfolding lane_text complete_in
  lane-short L h =
      rw (
        length-append (slot_lines z.words (log_of z L image) L z.slots ++ sequence_lines sequence_text (complete_in z image L))
            (newest_line L (latest_in z image L)),
        length-append (slot_lines z.words (log_of z L image) L z.slots) (sequence_lines sequence_text (complete_in z image L)),
      )
      (omega (
        arith,
        slots-short z.words (log_of z L image) L z.slots,
        below-short z.words z.slots (base_of image) (log_of z L image) L z.slots,
        newest-short L (latest_in z image L),
      ))

  -- the parts, as they are printed from the lane's log
  pub lane-parts : (L : ℕ) (l : Log) (q : Option Sequence) → l.words ≡ z.words → l.slots ≡ z.slots → l.base ≡ base_of image → l.log.now ≡ log_of z L image
      → q ≡ latest_in z image L
      → slot_lines l.words l.log.now L l.slots ++ sequence_lines sequence_text (complete_below l.words l.slots l.base l.log.now L l.slots) ++ newest_line L q
      ≡ lane_text z image L
  unfolding lane_text complete_in
  lane-parts L l q w n b e g = rw (w, n, b, e, g)

  pub lanes-none : [] ≡ lanes_text z image 0
  unfolding lanes_text
  lanes-none = refl

  pub lanes-more : (k : ℕ) → lanes_text z image k ++ lane_text z image k ≡ lanes_text z image (k + 1)
  unfolding lanes_text
  lanes-more k = ap (lanes_text z image) (sym (add-one k))

  pub lanes-short : (k : ℕ) → z.slots ≤ max_slots → length (lanes_text z image k) ≤ lane_room * k
  unfolding lanes_text
  lanes-short zero h = omega arith
  lanes-short (suc k) h = rw (length-append (lanes_text z image k) (lane_text z image k)) (omega (arith, lanes-short k h, lane-short k h))

-- ---- what recovery undoes
undo_append : (xs ys : List Listed) → undo_lines (xs ++ ys) ≡ undo_lines xs ++ undo_lines ys
unfolding undo_lines
undo_append [] ys = refl
undo_append (q ∷ qs) ys =
    ap (λ l. line_of undo_text (q.lane ∷ q.slot ∷ q.count ∷ q.stamp ∷ []) ++ l) (undo_append qs ys)
    ∙ sym (append_assoc (line_of undo_text (q.lane ∷ q.slot ∷ q.count ∷ q.stamp ∷ [])) (undo_lines qs) (undo_lines ys))

pub undo-none : (order : List Listed) → [] ≡ undo_lines (take 0 order)
unfolding undo_lines
undo-none order = refl

pub undo-more : (order : List Listed) (n : ℕ) (d : Listed) → n < length order →
    let q = get_or order n d in
    undo_lines (take n order) ++ line_of undo_text (q.lane ∷ q.slot ∷ q.count ∷ q.stamp ∷ []) ≡ undo_lines (take (n + 1) order)
unfolding undo_lines
undo-more order n d h =
    let q = get_or order n d in
    ap (λ l. undo_lines (take n order) ++ l) (sym (append-nil (line_of undo_text (q.lane ∷ q.slot ∷ q.count ∷ q.stamp ∷ []))))
    ∙ sym (undo_append (take n order) (q ∷ [])) ∙ ap undo_lines (sym (take-suc order n d h) ∙ ap (λ k. take k order) (sym (add-one n)))

pub undo-short : (order : List Listed) → length (undo_lines order) ≤ line_room * length order
unfolding undo_lines
undo-short [] = omega arith
undo-short (q ∷ qs) =
    rw (length-append (line_of undo_text (q.lane ∷ q.slot ∷ q.count ∷ q.stamp ∷ [])) (undo_lines qs))
    (omega (arith, undo-short qs, line-short undo_text (q.lane ∷ q.slot ∷ q.count ∷ q.stamp ∷ [])))

-- ---- all of it
undo-all : (qs : List Complete) → undo_lines (undo_list qs) ≡ sequence_lines undo_text qs
unfolding undo_list sequence_lines sequence_line undo_lines
undo-all [] = refl
undo-all (q ∷ qs) = ap (λ l. line_of undo_text (q.lane ∷ q.slot ∷ length q.entries ∷ q.stamp ∷ []) ++ l) (undo-all qs)

pub listing-parts : (z : Sizes) (image : List ℕ) (base : ℕ) (order : List Listed) → base ≡ get_or image 0 0 → order ≡ undo_list (undone z image)
    → line_of base_text (base ∷ []) ++ lanes_text z image z.lanes ++ undo_lines order ≡ listing z image
unfolding listing base_of
listing-parts z image base order b e =
    ap (λ l. line_of base_text (base ∷ []) ++ lanes_text z image z.lanes ++ l) (ap undo_lines e ∙ undo-all (undone z image))
    ∙ ap (λ k. line_of base_text (k ∷ []) ++ lanes_text z image z.lanes ++ sequence_lines undo_text (undone z image)) b
