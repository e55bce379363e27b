-- Inner: how the code goes, need not be believed. Recovery makes at most max_undone + 1 + 2 * max_lanes * max_slots stores, so that a limit of 2 ^ 64 - 1
-- is none. Assumes nothing.
use Rattle.std.specs.Prelude.{◌≡◌, refl, ◌&&◌, List, [], ◌∷◌, ◌++◌, ℕ, zero, suc, ◌+◌, ◌*◌, ◌≤◌, leb, ltb, eqb, length, Option, Some, None}
use Rattle.std.proofs.Common.{ap, ◌∙◌, arith, eqb-true}
use Rattle.std.proofs.Math.ListN.{length-append}
use Rattle.laws.specs.inner.Tests.{split, and_right}
use Rattle.slot.specs.Slot.{max_entries}
use Rattle.slot.specs.declared.Content.{Content}
use Rattle.slot.specs.declared.Content.TheVariants.{Empty, Torn, Entry, Stamp}
use Rattle.image.specs.Image.{max_lanes, max_slots, base_of, log_of}
use Rattle.image.specs.inner.ImageLaws.{InRange, logs-small}
use Rattle.image.specs.declared.Sizes.{Sizes}
use Rattle.lane_log.specs.Log.{Complete, slot_at, entries_back, closes, complete_below, complete_in, undone_before, insert, ordered}
use Rattle.lane_log.specs.inner.LogLaws.{stamp-in}
use Rattle.recovery.specs.Recovery.{boundary, complete_of, at_or_above, undone_from, undone, undo_entries, undo_sequences, undo_stores}
use Rattle.recovery.specs.Recovery.{recovery_stores}
use Rattle.recovery.specs.inner.Limit.{max_undone}
use Rattle.recovery.specs.inner.LimitLaws.{length-undo, length-zeros}
use Rattle.report.specs.Report.{no_limit}

-- ---- how many stores undo a list of sequences
stores : List Complete → ℕ
stores qs = length (undo_sequences qs)

stores-cons : (q : Complete) (qs : List Complete) → stores (q ∷ qs) ≡ length q.entries + stores qs
unfolding undo_sequences stores
stores-cons q qs = length-append (undo_entries q.entries) (undo_sequences qs) ∙ ap (λ n. n + stores qs) (length-undo q.entries)

stores-none : stores [] ≡ 0
unfolding undo_sequences stores
stores-none = refl

stores-append : (qs rs : List Complete) → stores (qs ++ rs) ≡ stores qs + stores rs
stores-append [] rs = omega (arith, stores-none)
stores-append (q ∷ qs) rs = omega (arith, stores-cons q (qs ++ rs), stores-cons q qs, stores-append qs rs)

-- the order does not matter, and fewer sequences make fewer stores
stores-insert : (all : List Complete) (q : Complete) (qs : List Complete) → stores (insert all q qs) ≡ length q.entries + stores qs
unfolding insert
stores-insert all q [] = stores-cons q []
stores-insert all q (r ∷ rs) =
    split (undone_before all q r)
    (λ e. rw e (stores-cons q (r ∷ rs)))
    (λ e. rw e (omega (arith, stores-cons r (insert all q rs), stores-insert all q rs, stores-cons r rs)))

stores-ordered : (all qs : List Complete) → stores (ordered all qs) ≡ stores qs
unfolding ordered
stores-ordered all [] = refl
stores-ordered all (q ∷ qs) = omega (arith, stores-insert all q (ordered all qs), stores-ordered all qs, stores-cons q qs)

stores-above : (b : ℕ) (qs : List Complete) → stores (at_or_above b qs) ≤ stores qs
unfolding at_or_above
stores-above b [] = omega arith
stores-above b (q ∷ qs) =
    split (leb b q.stamp)
    (λ e. rw e (omega (arith, stores-cons q (at_or_above b qs), stores-cons q qs, stores-above b qs)))
    (λ e. rw e (omega (arith, stores-cons q qs, stores-above b qs)))

stores-from : (b : Option ℕ) (qs : List Complete) → stores (undone_from b qs) ≤ stores qs
unfolding undone_from
stores-from None qs = omega (arith, stores-none)
stores-from (Some b) qs = omega (arith, stores-ordered qs (at_or_above b qs), stores-above b qs)

-- ---- the sequences of an image
-- a slot closes one of at most max_entries entries
stores-closed : (W N base : ℕ) (log : List ℕ) (L j : ℕ) (c : Content) → slot_at W log j ≡ c → stores (closes W N base log L j c) ≤ max_entries
unfolding closes
stores-closed W N base log L j Empty h = omega (arith, stores-none)
stores-closed W N base log L j Torn h = omega (arith, stores-none)
stores-closed W N base log L j (Entry i v p) h = omega (arith, stores-none)
stores-closed W N base log L j (Stamp n s p) h =
    let es = entries_back W N log j p n in
    split (ltb base s && eqb (length es) n)
    (λ e.
    rw e
    (omega (
      arith,
      stores-cons (record { stamp = s; lane = L; slot = j; wrap = p; entries = es }) [],
      stores-none,
      eqb-true (length es) n (and_right (ltb base s) (eqb (length es) n) e),
      (stamp-in W log j n s p h).count,
    )))
    (λ e. rw e (omega (arith, stores-none)))

stores-below : (W N base : ℕ) (log : List ℕ) (L k : ℕ) → stores (complete_below W N base log L k) ≤ max_entries * k
unfolding complete_below
stores-below W N base log L zero = omega (arith, stores-none)
stores-below W N base log L (suc k) =
    omega (
      arith,
      stores-append (complete_below W N base log L k) (closes W N base log L k (slot_at W log k)),
      stores-below W N base log L k,
      stores-closed W N base log L k (slot_at W log k) refl,
    )

stores-in : (z : Sizes) (image : List ℕ) (k : ℕ) → z.slots ≤ max_slots → stores (complete_of z image k) ≤ max_entries * max_slots * k
unfolding complete_of complete_in
stores-in z image zero h = omega (arith, stores-none)
stores-in z image (suc k) h =
    omega (
      arith,
      stores-append (complete_of z image k) (complete_in z image k),
      stores-in z image k h,
      stores-below z.words z.slots (base_of image) (log_of z k image) k z.slots,
    )

-- ---- all stores
module _ (z : Sizes) (s : InRange z) (image : List ℕ) where
  pub undo-few : length (undo_stores z image) ≤ max_undone
  unfolding undo_stores undone stores
  undo-few = omega (arith, stores-from (boundary z image) (complete_of z image z.lanes), stores-in z image z.lanes s.slots-high, s.lanes-high)

  pub stores-few : length (recovery_stores z image) ≤ max_undone + 1 + 2 * max_lanes * max_slots
  unfolding recovery_stores
  stores-few = rw length-append (omega (arith, undo-few, length-zeros (1 + z.words) (2 * z.lanes * z.slots), logs-small z s))

  pub no-limit : length (recovery_stores z image) ≤ no_limit
  unfolding no_limit
  no-limit = omega (arith, stores-few)
