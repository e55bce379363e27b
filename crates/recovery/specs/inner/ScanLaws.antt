-- Inner: how the code goes, need not be believed. Laws of reading the logs: what a slot offers, a lane's timestamps tried from the greatest down, and
-- the lanes one after another: the boundary, the new base, the torn slots. Assumes nothing.
use Rattle.std.specs.Prelude.{◌≡◌, ◌≢◌, Bool, true, List, leb, ltb, eqb, length, set, Option, Some, None}
use Rattle.std.proofs.Math.Path.{refl, sym, ap, ap₂, subst}
use Rattle.std.proofs.Common.{◌∙◌, get_or-set_same}
use Rattle.std.proofs.Math.Bool.{false}
use Prim.Native.Nat.{ℕ, zero, suc, ◌+◌, ◌-◌, ◌*◌, max, ◌≤◌, ◌<◌}
use native.Mathlib.Omega.{arith}
use Rattle.std.proofs.Math.Numerals.{add-one}
use Rattle.std.proofs.Math.Nat.{add-sub_cancel_left}
use Rattle.std.proofs.Math.ListN.{get_or, length-set}
use Rattle.std.proofs.Math.Seq.{get_or-set_other}
use borrow.Author.Count.{below_none, below_more}
use borrow.Author.Tests.{ltb-true, lt-ltb, le-ltb, leb-true, leb-false, le-leb, lt-leb, eqb-true, eqb-false, not-true}
use borrow.Rule.Slice.PartMut.{put_mid}
use Rattle.laws.specs.inner.Tests.{split, clash}
use Rattle.winners.specs.inner.Winners.{AtMost, greatest_at, Tournament}
use Rattle.winners.proofs.GreatestLaws.{greatest-low, greatest-most}
use Rattle.slot.specs.declared.Content.{Content}
use Rattle.slot.specs.declared.Content.TheVariants.{Empty, Torn, Entry, Stamp}
use Rattle.slot.specs.Slot.{max_entries}
use Rattle.image.specs.Image.{max_lanes, max_slots, sizes_ok, base_of, log_of}
use Rattle.image.specs.declared.Sizes.{Sizes}
use Rattle.lane_log.specs.Log.{slot_at, entries_back, latest_in, given, contribution}
use Rattle.lane_log.specs.inner.LogLaws.{stamp-in, latest-in}
use Rattle.lane_log.specs.inner.Search.{entry_back, closed_at, NoLap}
use Rattle.lane_log.proofs.SearchLaws.{Closed, closed-from, closed-bad, closed-whole, laps-closed, latest-none, latest-lapped}
use Rattle.recovery.specs.inner.LapLaws.{LapIs, kept, moved, lap-is, lap-every}
use Rattle.lane_log.specs.declared.Sequence.{Sequence}
use Rattle.record.specs.Record.{lesser}
use Rattle.recovery.specs.Recovery.{boundary_below, boundary, whole_stamp, greatest_below, greatest_of, new_base}
use Rattle.recovery.specs.Recovery.{one_if_torn, torn_below, torn_of, torn_in}
use Rattle.recovery.specs.inner.Picking.{count_of, wrap_of, offered, lacks_last, offer_at, lap_below, Offers, part_of, Offering, Tournaments}
use Rattle.recovery.specs.inner.PickingLaws.{not-above, is-below}
use Rattle.recovery.specs.inner.LanesLaws.{numbers-small, lane_inside, put-here, put_other, trees-put}

-- ---- one slot
-- what a timestamp says
module _ {c : Content} {n s p : ℕ} (e : c ≡ Stamp n s p) where
  pub stamp-whole : s ≡ whole_stamp c
  unfolding whole_stamp
  stamp-whole = sym (ap whole_stamp e)

  pub stamp-count : n ≡ count_of c
  unfolding count_of
  stamp-count = sym (ap count_of e)

  pub stamp-wrap : p ≡ wrap_of c
  unfolding wrap_of
  stamp-wrap = sym (ap wrap_of e)

-- and what is none
abbrev NoStamp : Content → Type 0
NoStamp c = (n s p : ℕ) → c ≡ Stamp n s p → ⊥

other-whole : (c : Content) → NoStamp c → 0 ≡ whole_stamp c
unfolding whole_stamp
other-whole Empty h = refl
other-whole Torn h = refl
other-whole (Entry i v p) h = refl
other-whole (Stamp n s p) h = absurd (h n s p refl)

pub other-wrap : (c : Content) → NoStamp c → 0 ≡ wrap_of c
unfolding wrap_of
other-wrap Empty h = refl
other-wrap Torn h = refl
other-wrap (Entry i v p) h = refl
other-wrap (Stamp n s p) h = absurd (h n s p refl)

-- what a slot adds to the greatest timestamp and to the torn slots
module _ (most torn : ℕ) (c : Content) where
  pub torn-adds : c ≡ Torn → (most ≡ max most (whole_stamp c)) × (torn + 1 ≡ torn + one_if_torn c)
  unfolding whole_stamp one_if_torn
  torn-adds e = rw e (omega arith, refl)

  pub stamp-adds : {n s p : ℕ} → c ≡ Stamp n s p → (max s most ≡ max most (whole_stamp c)) × (torn ≡ torn + one_if_torn c)
  unfolding whole_stamp one_if_torn
  stamp-adds e = rw e (omega arith, omega arith)

  pub other-adds : (c ≡ Torn → ⊥) → NoStamp c → (most ≡ max most (whole_stamp c)) × (torn ≡ torn + one_if_torn c)
  unfolding one_if_torn
  other-adds g h = (omega (arith, other-whole c h), by c refl)
    where
      by : (d : Content) → c ≡ d → torn ≡ torn + one_if_torn c
      by Empty e = rw e (omega arith)
      by Torn e = absurd (g e)
      by (Entry i v p) e = rw e (omega arith)
      by (Stamp n s p) e = absurd (h n s p e)

-- a timestamp that is offered says how many entries it closes
offered-by : (base : ℕ) (c : Content) → offered base (whole_stamp c) ≢ 0
    → (c ≡ Stamp (count_of c) (offered base (whole_stamp c)) (wrap_of c)) × (base < offered base (whole_stamp c))
unfolding offered whole_stamp count_of wrap_of
offered-by base Empty h = absurd (h (split (ltb base 0) (λ e. rw e) (λ e. rw e)))
offered-by base Torn h = absurd (h (split (ltb base 0) (λ e. rw e) (λ e. rw e)))
offered-by base (Entry i v p) h = absurd (h (split (ltb base 0) (λ e. rw e) (λ e. rw e)))
offered-by base (Stamp n s p) h = split (ltb base s) (λ e. rw e (refl, ltb-true base s e)) (λ e. absurd (h (rw e)))

never : {A : Type 0} {q : Sequence} → None ≡ Some q → A
never e = absurd (let z : ◌≡◌ {A = ℕ} 0 1 = cc in omega arith)

module _ (W N base : ℕ) (log : List ℕ) (j : ℕ) where
  -- a complete sequence's timestamp is offered
  pub closed-offered : (q : Sequence) → Closed W N base log j q → offered base (whole_stamp (slot_at W log j)) ≡ q.stamp
  unfolding offered whole_stamp
  closed-offered q c = rw (c.reads, lt-ltb base q.stamp c.above)

  offered-none : offered base (whole_stamp (slot_at W log j)) ≡ 0 → closed_at W N base log j ≡ None
  offered-none h = by (closed_at W N base log j) refl
    where
      by : (x : Option Sequence) → closed_at W N base log j ≡ x → x ≡ None
      by None e = refl
      by (Some q) e = let c = closed-from W N base log j q e in absurd (omega (arith, closed-offered q c, c.above))

  pub wrap-low : (c : Content) → c ≡ slot_at W log j → wrap_of c ≤ 1
  unfolding wrap_of
  wrap-low Empty e = omega arith
  wrap-low Torn e = omega arith
  wrap-low (Entry i v p) e = omega arith
  wrap-low (Stamp n s p) e = (stamp-in W log j n s p (sym e)).wrap

  -- what is offered before any is tried, as the code's tests tell
  module _ (c : Content) where
    pub offer-other : NoStamp c → 0 ≡ offer_at W N base log j c
    unfolding offer_at
    offer-other h = rw (← other-whole c h, le-leb 0 base (omega arith))

    pub offer-low : {s : ℕ} → s ≡ whole_stamp c → s ≤ base → 0 ≡ offer_at W N base log j c
    unfolding offer_at
    offer-low d h = rw (← d, le-leb _ _ h)

    module _ {s n p : ℕ} {b : Bool} (d : s ≡ whole_stamp c) (h : base < s) (f : n ≡ count_of c) (g : p ≡ wrap_of c) (k : b ≡ lacks_last W N log j n p) where
      pub offer-lacks : b ≡ true → 0 ≡ offer_at W N base log j c
      unfolding offer_at
      offer-lacks t = rw (← d, lt-leb _ _ h, ← f, ← g, ← k, t)

      pub offer-stamp : b ≡ false → s ≡ offer_at W N base log j c
      unfolding offer_at
      offer-stamp t = rw (← d, lt-leb _ _ h, ← f, ← g, ← k, t)

  -- one that lacks its last entry is not complete
  lacks-none : (c : Content) → c ≡ slot_at W log j → lacks_last W N log j (count_of c) (wrap_of c) ≡ true → closed_at W N base log j ≡ None
  unfolding lacks_last count_of wrap_of
  lacks-none Empty e h = clash false h refl
  lacks-none Torn e h = clash false h refl
  lacks-none (Entry i v p) e h = clash false h refl
  lacks-none (Stamp n s p) e h =
      split (eqb n 0)
      (λ t. clash false (rw t at h) refl)
      (λ t. sym (closed-bad W N base log j e refl 0 (omega (arith, eqb-false n 0 t)) (not-true _ (rw t at h))))

  -- what is offered is the timestamp, or 0, and 0 only where no sequence is complete
  offer-some : (c : Content) → offer_at W N base log j c ≢ 0 → offer_at W N base log j c ≡ offered base (whole_stamp c)
  unfolding offer_at offered
  offer-some c h =
      split (leb (whole_stamp c) base)
      (λ e. absurd (h (rw e)))
      (λ e. split (lacks_last W N log j (count_of c) (wrap_of c))
      (λ f. absurd (h (rw (e, f))))
      (λ f. rw (e, f, lt-ltb base (whole_stamp c) (leb-false _ _ e))))

  offer-none : (c : Content) → c ≡ slot_at W log j → offer_at W N base log j c ≡ 0 → closed_at W N base log j ≡ None
  unfolding offer_at offered
  offer-none c e h =
      split (leb (whole_stamp c) base)
      (λ d. offered-none (rw (← e, le-ltb base (whole_stamp c) (leb-true _ _ d))))
      (λ d. split (lacks_last W N log j (count_of c) (wrap_of c))
      (λ f. lacks-none c e f)
      (λ f. let z : whole_stamp c ≡ 0 = rw (d, f) at h in absurd (omega (arith, leb-false (whole_stamp c) base d))))

-- ---- no more slots are torn than there are
one-low : (c : Content) → one_if_torn c ≤ 1
unfolding one_if_torn
one-low Empty = omega arith
one-low Torn = omega arith
one-low (Entry i v p) = omega arith
one-low (Stamp n s p) = omega arith

below-low : (W : ℕ) (log : List ℕ) (j : ℕ) → torn_below W log j ≤ j
unfolding torn_below
below-low W log zero = omega arith
below-low W log (suc j) = omega (arith, below-low W log j, one-low (slot_at W log j))

torn-low : (z : Sizes) (image : List ℕ) (k : ℕ) → torn_of z image k ≤ k * z.slots
unfolding torn_of
torn-low z image zero = omega arith
torn-low z image (suc k) = omega (arith, torn-low z image k, below-low z.words (log_of z k image) z.slots)

-- with those of lane L
pub count_low : (z : Sizes) → sizes_ok z ≡ true → (image : List ℕ) (L torn t : ℕ) → L < z.lanes → torn ≤ L * z.slots
    → t ≡ torn_below z.words (log_of z L image) z.slots → torn + t ≤ max_lanes * max_slots
count_low z ok image L torn t h l e =
    omega (arith, e, below-low z.words (log_of z L image) z.slots, lane_inside z L _ (numbers-small z ok) h)

-- ---- the pass over a lane's slots, up to slot j
pub record OfferedTo (z : Sizes) (image : List ℕ) (L j : ℕ) (s : List ℕ) (most torn : ℕ) : Type 0 where
  pub long : length s ≡ z.slots
  pub stamps : (i : ℕ) → i < j
      → get_or s i 0 ≡ offer_at z.words z.slots (base_of image) (log_of z L image) i (slot_at z.words (log_of z L image) i)
  pub whole : most ≡ greatest_below z.words (log_of z L image) j
  pub counted : torn ≡ torn_below z.words (log_of z L image) j

module _ (z : Sizes) (image : List ℕ) (L : ℕ) where
  pub offered-start : (s : List ℕ) → length s ≡ z.slots → OfferedTo z image L 0 s 0 0
  unfolding greatest_below torn_below
  offered-start s e =
      record {
        long = e;
        stamps = below_none (λ i. get_or s i 0
            ≡ offer_at z.words z.slots (base_of image) (log_of z L image) i (slot_at z.words (log_of z L image) i));
        whole = refl;
        counted = refl;
      }

  pub offered-low : (j : ℕ) (s : List ℕ) (most torn : ℕ) → OfferedTo z image L j s most torn → torn ≤ j
  offered-low j s most torn r = omega (arith, r.counted, below-low z.words (log_of z L image) j)

  pub offered-more : (j : ℕ) (s : List ℕ) (most torn : ℕ) → OfferedTo z image L j s most torn → j < z.slots
      → (c : Content) (v m t : ℕ) → c ≡ slot_at z.words (log_of z L image) j
      → {log : List ℕ} → log ≡ log_of z L image → v ≡ offer_at z.words z.slots (base_of image) log j c
      → (m ≡ max most (whole_stamp c)) × (t ≡ torn + one_if_torn c)
      → OfferedTo z image L (j + 1) (set s j v) m t
  unfolding greatest_below torn_below
  offered-more j s most torn r h c v m t e₁ e₆ e₃ e₄ =
      let d : whole_stamp c ≡ whole_stamp (slot_at z.words (log_of z L image) j) = ap whole_stamp e₁ in
      let f : one_if_torn c ≡ one_if_torn (slot_at z.words (log_of z L image) j) = ap one_if_torn e₁ in
      record {
        long = length-set s j v ∙ r.long;
        stamps = below_more (λ i. get_or (set s j v) i 0
            ≡ offer_at z.words z.slots (base_of image) (log_of z L image) i (slot_at z.words (log_of z L image) i)) j
            (λ i l. get_or-set_other s j i v 0 (λ e. omega arith) ∙ r.stamps i l)
            (get_or-set_same s j v 0 (rw r.long h) ∙ e₃ ∙ ap₂ (λ l x. offer_at z.words z.slots (base_of image) l j x) e₆ e₁);
        whole = rw add-one (omega (arith, d, e₄.0, r.whole));
        counted = rw add-one (omega (arith, f, e₄.1, r.counted));
      }

  pub offered-all : (j : ℕ) (s : List ℕ) (most torn : ℕ) → OfferedTo z image L j s most torn → j ≡ z.slots
      → Offers z image L s × (most ≡ greatest_below z.words (log_of z L image) z.slots) × (torn ≡ torn_below z.words (log_of z L image) z.slots)
  offered-all j s most torn r e = (
    record {
      long = r.long;
      some = λ i h d. let f = r.stamps i (rw e h) in
          f ∙ offer-some z.words z.slots (base_of image) (log_of z L image) i (slot_at z.words (log_of z L image) i) (λ n. d (f ∙ n));
      every = λ i h d. offer-none z.words z.slots (base_of image) (log_of z L image) i (slot_at z.words (log_of z L image) i) refl
          (sym (r.stamps i (rw e h)) ∙ d);
    },
    r.whole ∙ ap (greatest_below z.words (log_of z L image)) e,
    r.counted ∙ ap (torn_below z.words (log_of z L image)) e,
  )

-- ---- the search for a lane's latest sequence: m is the place of the greatest timestamp that is offered
module _ (z : Sizes) (image : List ℕ) (L : ℕ) (pos : 0 < z.slots) (s : List ℕ)
    (o : Offers z image L s) (m : ℕ) (e : m ≡ greatest_at s (length s)) where
  pub search-low : m < z.slots
  search-low = rw (e, o.long) (greatest-low s z.slots pos)

  most : (i : ℕ) → i < z.slots → AtMost s i m
  most i h = rw e (greatest-most s (length s) i (rw o.long h))

  -- none is offered
  pub search-none : get_or s m 0 ≡ 0 → None ≡ contribution (latest_in z image L)
  unfolding contribution
  search-none h =
      rw (
        latest-in z image L,
        latest-none z.words z.slots (base_of image) (log_of z L image) z.slots
            (λ i l. o.every i l (omega (arith, not-above s i m (most i l)))),
      )

  module _ (h : get_or s m 0 ≢ 0) (c : Content) (r : c ≡ slot_at z.words (log_of z L image) m) where
    says : (c ≡ Stamp (count_of c) (get_or s m 0) (wrap_of c)) × (base_of image < get_or s m 0)
    says =
        let f : get_or s m 0 ≡ offered (base_of image) (whole_stamp c) = o.some m search-low h ∙ ap (λ x. offered (base_of image) (whole_stamp x)) (sym r) in
        rw f (offered-by (base_of image) c (λ d. h (f ∙ d)))

    pub search-few : (count_of c ≤ max_entries) × (wrap_of c ≤ 1)
    search-few = let f = stamp-in z.words (log_of z L image) m _ _ _ (sym r ∙ says.0) in (f.count, f.wrap)

    pub search-stamp : c ≡ Stamp (count_of c) (get_or s m 0) (wrap_of c)
    search-stamp = says.0

    -- it is incomplete, and offered no more
    pub search-drops : (i : ℕ) → i < count_of c → entry_back z.words z.slots (log_of z L image) m (wrap_of c) (i + 1) ≡ false
        → Offers z image L (set s m 0)
    search-drops i l b =
        record {
          long = length-set s m 0 ∙ o.long;
          some = λ j k n. split (eqb j m)
              (λ t. absurd (n (rw (eqb-true j m t) (get_or-set_same s m 0 0 (rw o.long search-low)))))
              (λ t. let g : get_or (set s m 0) j 0 ≡ get_or s j 0 = get_or-set_other s m j 0 0 (eqb-false j m t) in g ∙ o.some j k (λ d. n (g ∙ d)));
          every = λ j k n. split (eqb j m)
              (λ t. rw (eqb-true j m t) (sym (closed-bad z.words z.slots (base_of image) (log_of z L image) m r says.0 i l b)))
              (λ t. o.every j k (sym (get_or-set_other s m j 0 0 (eqb-false j m t)) ∙ n));
        }

    -- it is complete: the latest
    module _ (w : length (entries_back z.words z.slots (log_of z L image) m (wrap_of c) (count_of c)) ≡ count_of c) where
      closed-stamp : (i : ℕ) → i < z.slots → (q : Sequence) → closed_at z.words z.slots (base_of image) (log_of z L image) i ≡ Some q → q.stamp ≡ get_or s i 0
      closed-stamp i k q x =
          sym (o.some i k (λ d. never (sym (o.every i k d) ∙ x))
          ∙ closed-offered z.words z.slots (base_of image) (log_of z L image) i q
          (closed-from z.words z.slots (base_of image) (log_of z L image) i q x))

      here : Sequence
      here = record { stamp = get_or s m 0; count = count_of c; slot = m }

      found : Sequence
      found = lap_below z.words z.slots (log_of z L image) s (get_or s m 0) (wrap_of c) here m

      -- a slot that laps it offers the timestamp
      laps-offered : (i : ℕ) → i < m → get_or s i 0 ≢ get_or s m 0 → NoLap z.words z.slots (log_of z L image) (get_or s m 0) (wrap_of c) i
      laps-offered i k d r l =
          d (sym (closed-stamp i (omega (arith, search-low)) r
          (laps-closed z.words z.slots (base_of image) (log_of z L image) (get_or s m 0) (wrap_of c) i r says.1 l)) ∙ l.stamp)

      search-found : latest_in z image L ≡ Some found
      unfolding found here
      search-found =
          latest-in z image L
          ∙ latest-lapped z.words z.slots (base_of image) (log_of z L image) m search-low here
          (sym (closed-whole z.words z.slots (base_of image) (log_of z L image) m r says.0 says.1 w))
          (λ i k q x. rw (closed-stamp i k q x) (not-above s i m (most i k)))
          (λ i l k q x. rw (closed-stamp i k q x) (is-below s i m l (most i k)))
          (wrap_of c) (sym r ∙ says.0)
          ∙ ap Some (sym (lap-every z.words z.slots (log_of z L image) (get_or s m 0) (wrap_of c) s here m laps-offered))

      found-stamp : found.stamp ≡ get_or s m 0
      unfolding found here
      found-stamp = by (lap-is z.words z.slots (log_of z L image) (get_or s m 0) (wrap_of c) s here m)
        where
          by : {q : Sequence} → LapIs z.words z.slots (log_of z L image) (get_or s m 0) (wrap_of c) s here m q → q.stamp ≡ get_or s m 0
          by (kept f n) = ap (λ (q : Sequence). q.stamp) f
          by (moved j k o l n) = l.stamp

      pub search-latest : (q : Sequence)
          → q ≡ lap_below z.words z.slots (log_of z L image) s (get_or s m 0) (wrap_of c) (record { stamp = get_or s m 0; count = count_of c; slot = m }) m
          → given q.count (get_or s m 0) ≡ contribution (latest_in z image L)
      unfolding contribution found here
      search-latest q d = rw (search-found, d, found-stamp)

-- ---- the lanes below k
pub record Scanned (z : Sizes) (image : List ℕ) (room k : ℕ) (a t : List ℕ) (b : Option ℕ) (base torn : ℕ) : Type 0 where
  pub trees : Tournaments room z.slots k a t
  pub offering : Offering z image k a
  pub least : b ≡ boundary_below z image k
  pub most : base ≡ max (base_of image) (greatest_of z image k)
  pub counted : torn ≡ torn_of z image k

module _ (z : Sizes) (image : List ℕ) (room : ℕ) where
  pub scanned-none : (a t : List ℕ) → length a ≡ room → length t ≡ room → Scanned z image room 0 a t None (get_or image 0 0) 0
  unfolding boundary_below greatest_of torn_of base_of
  scanned-none a t e f =
      record {
        trees = record { long = e; tree-long = f; at = λ L h. absurd (omega arith) };
        offering = record { at = λ L h. absurd (omega arith) };
        least = refl;
        most = omega arith;
        counted = refl;
      }

  module _ (i : z.lanes * z.slots ≤ room) (k : ℕ) (a t : List ℕ) (b : Option ℕ) (base torn : ℕ) (r : Scanned z image room k a t b base torn)
      (l : k < z.lanes)
      (s u : List ℕ)
      (o : Offers z image k s) (w : Tournament s u) where
    fits : k * z.slots + z.slots ≤ length a
    fits = rw r.trees.long (lane_inside z k room i l)

    offers : (L : ℕ) → L < k + 1 → Offers z image L (part_of z.slots L (put_mid (k * z.slots) z.slots a s))
    offers L h =
        split (eqb L k)
        (λ d. rw (eqb-true L k d, put-here z.slots k a s fits o.long) o)
        (λ d. rw (put_other z.slots k a s fits o.long L (eqb-false L k d)) (r.offering.at L (omega (arith, eqb-false L k d))))

    pub scanned-more : (b' : Option ℕ) (base' torn' : ℕ)
        → b' ≡ lesser b (contribution (latest_in z image k)) → base' ≡ max base (greatest_below z.words (log_of z k image) z.slots)
        → torn' ≡ torn + torn_below z.words (log_of z k image) z.slots
        → Scanned z image room (k + 1) (put_mid (k * z.slots) (k * z.slots + z.slots - k * z.slots) a s)
        (put_mid (k * z.slots) (k * z.slots + z.slots - k * z.slots) t u) b' base' torn'
    unfolding boundary_below greatest_of torn_of
    scanned-more b' base' torn' g h f =
        rw (add-sub_cancel_left (k * z.slots) z.slots)
        (record {
          trees = trees-put room z.slots k a t s u r.trees.long r.trees.tree-long (lane_inside z k room i l) o.long w (k + 1)
              (λ M m d. r.trees.at M (omega (arith, d)));
          offering = record { at = offers };
          least = rw (add-one, ← r.least) g;
          most = rw add-one (omega (arith, h, r.most));
          counted = rw add-one (omega (arith, f, r.counted));
        })

  pub scanned-low : (k : ℕ) (a t : List ℕ) (b : Option ℕ) (base torn : ℕ) → Scanned z image room k a t b base torn → torn ≤ k * z.slots
  scanned-low k a t b base torn r = rw r.counted (torn-low z image k)

  pub scanned-all : (k : ℕ) (a t : List ℕ) (b : Option ℕ) (base torn : ℕ) → Scanned z image room k a t b base torn → k ≡ z.lanes
      → (b ≡ boundary z image) × (base ≡ new_base z image) × (torn ≡ torn_in z image) × Offering z image z.lanes a
      × Tournaments room z.slots z.lanes a t
  unfolding boundary new_base torn_in
  scanned-all k a t b base torn r e = (
    r.least ∙ ap (boundary_below z image) e,
    r.most ∙ ap (λ n. max (base_of image) (greatest_of z image n)) e,
    r.counted ∙ ap (torn_of z image) e,
    subst (λ n. Offering z image n a) e r.offering,
    subst (λ n. Tournaments room z.slots n a t) e r.trees,
  )
