-- Inner: how the code goes, need not be believed. Laws of the search: what one slot closes, which is the latest, by the slot of the
-- greatest timestamp and by every slot, and hits. Assumes nothing.
use Prim.Native.Nat.{ℕ, zero, suc, ◌+◌, ◌-◌, ◌*◌, ◌/◌, ◌%◌, ◌≤◌, ◌<◌}
use Rattle.std.proofs.Math.Path.{◌≡◌, refl, sym, ap, ap₂}
use Rattle.std.proofs.Common.{subst, ◌∙◌, eq-or-lt_of_le, add-one, Option, Some, None}
use Rattle.std.specs.List.{fold, list_all, list_any, range_with_len}
use Rattle.std.specs.Prelude.{Bool, cond, not, ◌&&◌, List, [], ◌∷◌, ◌⊎◌, ◌≢◌, ltb}
use Rattle.std.proofs.Math.Bool.{true, false, ◌||◌, and-true, and-false, or-true, or-false}
use Rattle.std.proofs.Math.Logic.{⊎_elim, inl, inr}
use native.Mathlib.Omega.{arith}
use Rattle.std.proofs.Math.Dec.{leb, eqb}
use Rattle.std.proofs.Math.ListN.{length, get_or}
use Rattle.std.specs.Int.Bits.{bit_or, or_add_and}
use Rattle.std.proofs.lemmas.Nat.{or_lt, and_le_l, and_le_r}
use borrow.Author.Tests.{ltb-true, ltb-false, leb-true, leb-false, eqb-true, eqb-false, eq-eqb, ne_eqb, lt-ltb, le-ltb, le-leb, lt-leb}
use Rattle.laws.specs.inner.Tests.{split, clash, and_left, and_right, or_left, or_right}
use Rattle.laws.specs.inner.Members.{In, here, in-cases, In-left, In-right, In-append}
use Rattle.slot.specs.Slot.{tag, max_entries, stamp_of}
use Rattle.slot.specs.declared.Content.{Content}
use Rattle.slot.specs.declared.Content.TheVariants.{Empty, Torn, Entry, Stamp}
use Rattle.lane_log.specs.declared.Sequence.{Sequence}
use Rattle.lane_log.specs.declared.search.Candidate.{Candidate}
use Rattle.lane_log.specs.Log.{slot_at, Complete, entries_back, closes, complete_below, top_wrap, after_wrap, ordered}
use Rattle.lane_log.specs.Log.{sequence_of, first_of, latest, ahead, overlaps, hits_from, hits}
use Rattle.lane_log.proofs.Ranges.{all-pass, all-fails, any-not, any-which, any-on, any-groups, any-folds, fold-below, fold-on}
use Rattle.lane_log.specs.inner.LogLaws.{stamp-in, back_none, back_more, back_whole, back-bad, closes-low, closes-short, closes-all, hits-append, overlaps-ahead, back-le}
use Rattle.lane_log.specs.inner.OrderLaws.{Before, stamp, wrap, slot, Rising, rising-one, below-rising, Top, absent, is, top, side_before}
use Rattle.lane_log.specs.inner.OrderLaws.{side_after}
use Rattle.lane_log.specs.inner.LatestLaws.{is_one, latest-first}
use Rattle.lane_log.specs.Append.{circular}
use Rattle.lane_log.specs.inner.Search.{entry_back, whole_back, closed_at, hit_at, stamp_from, stamp_high, half_at, higher, group, any_high, SkipsLow}
use Rattle.lane_log.specs.inner.Search.{candidate_below, candidate_closed, rival, rival_below, greater, greatest_below, lap_over, lapped_below, Laps, NoLap}

-- ---- the sequence that a slot closes
-- does a slot hold a whole timestamp
unfoldable pub is_stamp : Content → Bool
is_stamp Empty = false
is_stamp Torn = false
is_stamp (Entry i v p) = false
is_stamp (Stamp n s p) = true

-- as a `let .. else` on a timestamp tells
pub not-stamp : (c : Content) → ((n s p : ℕ) → c ≡ Stamp n s p → ⊥) → is_stamp c ≡ false
unfolding is_stamp
not-stamp Empty h = refl
not-stamp Torn h = refl
not-stamp (Entry i v p) h = refl
not-stamp (Stamp n s p) h = absurd (h n s p refl)

-- as a low address word tells
pub not-high : (W : ℕ) (log : List ℕ) (j : ℕ) → stamp_high log j ≡ false → is_stamp (slot_at W log j) ≡ false
unfolding stamp_high is_stamp stamp_of
not-high W log j h = by (slot_at W log j) refl
  where
    by : (c : Content) → slot_at W log j ≡ c → is_stamp c ≡ false
    by Empty e = refl
    by Torn e = refl
    by (Entry i v p) e = refl
    by (Stamp n s p) e = let f = (stamp-in W log j n s p e).address in absurd (omega (arith, leb-false (8 * tag) (get_or log (2 * j) 0) h))

-- the entries before it, by the first bad one
module _ (W N : ℕ) (log : List ℕ) (j p : ℕ) where
  pub whole-bad : (i n : ℕ) → i < n → entry_back W N log j p (i + 1) ≡ false → false ≡ whole_back W N log j p n
  unfolding whole_back
  whole-bad i n h e =
      let less = back-bad W N log j p i n h e in sym (ne_eqb (length (entries_back W N log j p n)) n (λ same. omega arith))

  pub whole-all : (n : ℕ) → length (entries_back W N log j p n) ≡ n → true ≡ whole_back W N log j p n
  unfolding whole_back
  whole-all n e = sym (eq-eqb (length (entries_back W N log j p n)) n e)

  pub all_whole : (n : ℕ) → whole_back W N log j p n ≡ true → length (entries_back W N log j p n) ≡ n
  unfolding whole_back
  all_whole n h = eqb-true (length (entries_back W N log j p n)) n h

  -- asked of each in turn
  pub whole-range : (n : ℕ) → list_all (λ i. entry_back W N log j p (i + 1)) (range_with_len 0 n) ≡ whole_back W N log j p n
  whole-range n = by (each n)
    where
      -- the first bad one, or none
      each : (n : ℕ) → ((i : ℕ) × (i < n) × (entry_back W N log j p (i + 1) ≡ false)) ⊎ (length (entries_back W N log j p n) ≡ n)
      each zero = inr (back_none W N log j p)
      each (suc n) = ⊎_elim (λ d. inl (d.0, omega arith, d.2))
          (λ e. split (entry_back W N log j p (n + 1)) (λ t. inr (let s : n + 1 ≡ suc n = omega arith in rw s at (back_more W N log j p n e t))) (λ t. inl (n, omega arith, t)))
          (each n)

      by : ((i : ℕ) × (i < n) × (entry_back W N log j p (i + 1) ≡ false)) ⊎ (length (entries_back W N log j p n) ≡ n)
          → list_all (λ i. entry_back W N log j p (i + 1)) (range_with_len 0 n) ≡ whole_back W N log j p n
      by (inl d) = all-fails (λ i. entry_back W N log j p (i + 1)) 0 n d.0 d.1 (ap (entry_back W N log j p) (let e : 0 + d.0 + 1 ≡ d.0 + 1 = omega arith in e) ∙ d.2)
          ∙ whole-bad d.0 n d.1 d.2
      by (inr e) = all-pass (λ i. entry_back W N log j p (i + 1)) 0 n
          (λ i l. ap (entry_back W N log j p) (let f : 0 + i + 1 ≡ i + 1 = omega arith in f) ∙ back_whole W N log j p i n e l)
          ∙ whole-all n e

module _ (W N base : ℕ) (log : List ℕ) (j : ℕ) where
  pub closed-other : (c : Content) → c ≡ slot_at W log j → is_stamp c ≡ false → None ≡ closed_at W N base log j
  unfolding closed_at is_stamp closes first_of
  closed-other Empty e h = rw (sym e)
  closed-other Torn e h = rw (sym e)
  closed-other (Entry i v p) e h = rw (sym e)
  closed-other (Stamp n s p) e h = absurd (let z : ◌≡◌ {A = ℕ} 0 1 = cc in omega arith)

  module _ {c : Content} {n s p : ℕ} (r : c ≡ slot_at W log j) (e : c ≡ Stamp n s p) where
    pub closed-low : s ≤ base → None ≡ closed_at W N base log j
    unfolding closed_at first_of
    closed-low h = rw (closes-low W N base log 0 j (sym r ∙ e) h)

    pub closed-short : whole_back W N log j p n ≡ false → None ≡ closed_at W N base log j
    unfolding closed_at whole_back first_of
    closed-short h =
        let less : length (entries_back W N log j p n) < n = omega (arith, back-le W N log j p n, eqb-false (length (entries_back W N log j p n)) n h) in
        rw (closes-short W N base log 0 j (sym r ∙ e) less)

    pub closed-bad : (i : ℕ) → i < n → entry_back W N log j p (i + 1) ≡ false → None ≡ closed_at W N base log j
    closed-bad i h g = closed-short (sym (whole-bad W N log j p i n h g))

    pub closed-whole : base < s → length (entries_back W N log j p n) ≡ n → Some (record { stamp = s; count = n; slot = j }) ≡ closed_at W N base log j
    unfolding closed_at first_of sequence_of
    closed-whole h g = rw (closes-all W N base log 0 j (sym r ∙ e) h g, g)

-- what it has, where there is one
pub record Closed (W N base : ℕ) (log : List ℕ) (j : ℕ) (q : Sequence) : Type 0 where
  pub slot : q.slot ≡ j
  pub above : base < q.stamp
  pub few : q.count ≤ max_entries
  pub wrap : ℕ
  pub reads : slot_at W log j ≡ Stamp q.count q.stamp wrap
  pub whole : length (entries_back W N log j wrap q.count) ≡ q.count

never : {A T : Type 0} {q : T} → None ≡ Some q → A
never e = absurd (let z : ◌≡◌ {A = ℕ} 0 1 = cc in omega arith)

pub closed-from : (W N base : ℕ) (log : List ℕ) (j : ℕ) (q : Sequence) → closed_at W N base log j ≡ Some q → Closed W N base log j q
unfolding closed_at closes first_of sequence_of
closed-from W N base log j q e = by (slot_at W log j) refl e
  where
    whole : (n s p : ℕ) → slot_at W log j ≡ Stamp n s p → (b : Bool) → (ltb base s && eqb (length (entries_back W N log j p n)) n) ≡ b
        → first_of (cond b (record { stamp = s; lane = 0; slot = j; wrap = p; entries = entries_back W N log j p n } ∷ []) []) ≡ Some q → Closed W N base log j q
    whole n s p r false h g = never g
    whole n s p r true h g =
        let l : length (entries_back W N log j p n) ≡ n = eqb-true _ _ (and_right (ltb base s) _ h) in
        let e₁ : s ≡ q.stamp = cc in
        let e₂ : length (entries_back W N log j p n) ≡ q.count = cc in
        let e₃ : j ≡ q.slot = cc in
        let m : n ≡ q.count = sym l ∙ e₂ in
        record {
          slot = sym e₃;
          above = rw (← e₁) (ltb-true _ _ (and_left (ltb base s) _ h));
          few = rw (← m) (stamp-in W log j n s p r).count;
          wrap = p;
          reads = rw (← m, ← e₁) r;
          whole = rw (← m) l;
        }

    by : (c : Content) → slot_at W log j ≡ c → first_of (closes W N base log 0 j c) ≡ Some q → Closed W N base log j q
    by Empty r g = never g
    by Torn r g = never g
    by (Entry i v p) r g = never g
    by (Stamp n s p) r g = whole n s p r (ltb base s && eqb (length (entries_back W N log j p n)) n) refl g

same : {T : Type 0} {a b : T} → Some a ≡ Some b → a ≡ b
same e = cc

-- the same as a list
pub closes-none : (W N base : ℕ) (log : List ℕ) (L j : ℕ) → closed_at W N base log j ≡ None → closes W N base log L j (slot_at W log j) ≡ []
unfolding closed_at closes first_of
closes-none W N base log L j e = by (slot_at W log j) e
  where
    by : (c : Content) → first_of (closes W N base log 0 j c) ≡ None → closes W N base log L j c ≡ []
    by Empty e = refl
    by Torn e = refl
    by (Entry i v p) e = refl
    by (Stamp n s p) e =
        split (ltb base s && eqb (length (entries_back W N log j p n)) n) (λ t. never (sym (rw t at e))) (λ t. rw t)

-- what it is as a complete sequence of lane L
abbrev pub closed_as : (W N base : ℕ) (log : List ℕ) (L j : ℕ) (q : Sequence) → Closed W N base log j q → Complete
closed_as W N base log L j q c =
    record { stamp = q.stamp; lane = L; slot = j; wrap = c.wrap; entries = entries_back W N log j c.wrap q.count }

pub closes-one : (W N base : ℕ) (log : List ℕ) (L j : ℕ) (q : Sequence) (c : Closed W N base log j q)
    → closes W N base log L j (slot_at W log j)
    ≡ closed_as W N base log L j q c ∷ []
closes-one W N base log L j q c = closes-all W N base log L j c.reads c.above c.whole

pub closed-as : (W N base : ℕ) (log : List ℕ) (L j : ℕ) (q : Sequence) (c : Closed W N base log j q) → sequence_of (closed_as W N base log L j q c) ≡ q
unfolding sequence_of
closed-as W N base log L j q c =
    rw c.whole (ap (λ k. record { stamp = q.stamp; count = q.count; slot = k }) (sym c.slot))

-- ---- all complete sequences, by what each slot closes
-- a sequence of lane L that one of the slots below k closes
pub record FromSlot (W N base : ℕ) (log : List ℕ) (L k : ℕ) (q : Complete) : Type 0 where
  pub at : ℕ
  pub low : at < k
  pub by : Sequence
  pub is : closed_at W N base log at ≡ Some by
  pub closed : Closed W N base log at by
  pub same : q ≡ closed_as W N base log L at by closed

module _ (W N base : ℕ) (log : List ℕ) (L : ℕ) where
  pub slot-in : (j k : ℕ) → j < k → (q : Sequence) (c : Closed W N base log j q) → In (closed_as W N base log L j q c) (complete_below W N base log L k)
  unfolding complete_below
  slot-in j zero l q c = absurd (omega arith)
  slot-in j (suc k) l q c =
      ⊎_elim
      (λ (d : j ≡ k).
      In-right (complete_below W N base log L k)
      (subst (λ k. In (closed_as W N base log L j q c) (closes W N base log L k (slot_at W log k))) d (rw (closes-one W N base log L j q c) here)))
      (λ (d : j < k). In-left (closes W N base log L k (slot_at W log k)) (slot-in j k d q c))
      (eq-or-lt_of_le {n = j} {m = k} (omega arith))

  from_one : (j : ℕ) (q : Complete) → In q (closes W N base log L j (slot_at W log j)) → FromSlot W N base log L (suc j) q
  from_one j q i = by (closed_at W N base log j) refl
    where
      by : (x : Option Sequence) → closed_at W N base log j ≡ x → FromSlot W N base log L (suc j) q
      by None e = let n : In q [] = rw (closes-none W N base log L j e) at i in elim n [ ]
      by (Some s) e =
          let c = closed-from W N base log j s e in
          let n : In q (closed_as W N base log L j s c ∷ []) = rw (closes-one W N base log L j s c) at i in
          ⊎_elim
          (λ (d : q ≡ closed_as W N base log L j s c). record { at = j; low = omega arith; by = s; is = e; closed = c; same = d })
          (λ (d : In q []). elim d [ ])
          (in-cases n)

  pub in-slot : (k : ℕ) (q : Complete) → In q (complete_below W N base log L k) → FromSlot W N base log L k q
  unfolding complete_below
  in-slot zero q i = elim i [ ]
  in-slot (suc k) q i =
      ⊎_elim
      (λ (d : In q (complete_below W N base log L k)).
      let f = in-slot k q d in
      record { at = f.at; low = omega (arith, f.low); by = f.by; is = f.is; closed = f.closed; same = f.same })
      (λ (d : In q (closes W N base log L k (slot_at W log k))). from_one k q d)
      (In-append (complete_below W N base log L k) i)

  pub below_none : (k : ℕ) → ((i : ℕ) → i < k → closed_at W N base log i ≡ None) → complete_below W N base log L k ≡ []
  unfolding complete_below
  below_none zero h = refl
  below_none (suc k) h = rw (below_none k (λ i l. h i (omega arith)), closes-none W N base log L k (h k (omega arith)))

pub latest-none : (W N base : ℕ) (log : List ℕ) (k : ℕ) → ((i : ℕ) → i < k → closed_at W N base log i ≡ None)
    → latest (complete_below W N base log 0 k) ≡ None
unfolding latest ordered first_of
latest-none W N base log k h = rw (below_none W N base log 0 k h)

-- ---- the lap over the wrap
-- so it is complete, where s is above the base
pub laps-closed : (W N base : ℕ) (log : List ℕ) (s p i : ℕ) (r : Sequence) → base < s → Laps W N log s p i r → closed_at W N base log i ≡ Some r
laps-closed W N base log s p i r h l =
    sym (closed-whole W N base log i refl l.reads h l.whole)
    ∙ ap Some (ap₂ (λ t k. record { stamp = t; count = r.count; slot = k }) (sym l.stamp) (sym l.slot))

-- what the slots below k give
pub data LappedIs (W N : ℕ) (log : List ℕ) (s p : ℕ) (best : Sequence) (k : ℕ) (r : Sequence) : Type 0 where
  kept : r ≡ best → ((i : ℕ) → i < k → NoLap W N log s p i) → LappedIs W N log s p best k r
  moved : (j : ℕ) → j < k → Laps W N log s p j r → ((i : ℕ) → j < i → i < k → NoLap W N log s p i) → LappedIs W N log s p best k r

module _ (W N : ℕ) (log : List ℕ) (s p k : ℕ) (best : Sequence) where
  lap-content : (c : Content) → is_stamp c ≡ false → best ≡ lap_over W N log s p k c best
  unfolding lap_over is_stamp
  lap-content Empty h = refl
  lap-content Torn h = refl
  lap-content (Entry i v o) h = refl
  lap-content (Stamp n t o) h = clash true refl h

  -- as the code's tests tell
  pub lap-other : is_stamp (slot_at W log k) ≡ false → best ≡ lap_over W N log s p k (slot_at W log k) best
  lap-other h = lap-content (slot_at W log k) h

  module _ {n t o : ℕ} (e : slot_at W log k ≡ Stamp n t o) where
    pub lap-stamp : t ≢ s → best ≡ lap_over W N log s p k (slot_at W log k) best
    unfolding lap_over
    lap-stamp h = rw (e, ne_eqb t s h)

    pub lap-wrap : o ≡ p → best ≡ lap_over W N log s p k (slot_at W log k) best
    unfolding lap_over
    lap-wrap h = rw (e, eq-eqb o p h, and-false (eqb t s))

    pub lap-short : whole_back W N log k o n ≡ false → best ≡ lap_over W N log s p k (slot_at W log k) best
    unfolding lap_over
    lap-short h = rw (e, h, and-false (not (eqb o p)), and-false (eqb t s))

    pub lap-is : t ≡ s → o ≢ p → whole_back W N log k o n ≡ true → record { stamp = s; count = n; slot = k } ≡ lap_over W N log s p k (slot_at W log k) best
    unfolding lap_over
    lap-is h g f = rw (e, eq-eqb t s h, ne_eqb o p g, f)

-- ---- so the latest is found
stamp-parts : {n t o m s q : ℕ} → Stamp n t o ≡ Stamp m s q → (n ≡ m) × (t ≡ s) × (o ≡ q)
stamp-parts e = (cc, cc, cc)

module _ (W N : ℕ) (log : List ℕ) (s p : ℕ) where
  pub lap-cases : (k : ℕ) (best r : Sequence) → r ≡ lap_over W N log s p k (slot_at W log k) best
      → Laps W N log s p k r ⊎ ((r ≡ best) × NoLap W N log s p k)
  unfolding is_stamp
  lap-cases k best r f = by (slot_at W log k) refl
    where
      other : is_stamp (slot_at W log k) ≡ false → Laps W N log s p k r ⊎ ((r ≡ best) × NoLap W N log s p k)
      other h = inr (f ∙ sym (lap-other W N log s p k best h), λ r l. clash (is_stamp (slot_at W log k)) (ap is_stamp l.reads) h)

      by : (c : Content) → slot_at W log k ≡ c → Laps W N log s p k r ⊎ ((r ≡ best) × NoLap W N log s p k)
      by Empty e = other (ap is_stamp e)
      by Torn e = other (ap is_stamp e)
      by (Entry i v o) e = other (ap is_stamp e)
      by (Stamp n t o) e =
          split (eqb t s)
          (λ a. split (eqb o p)
          (λ b. inr (
            f ∙ sym (lap-wrap W N log s p k best e (eqb-true o p b)),
            λ r l. l.other (sym (stamp-parts (sym e ∙ l.reads)).2 ∙ eqb-true o p b),
          ))
          (λ b. split (whole_back W N log k o n)
          (λ c. let g = f ∙ sym (lap-is W N log s p k best e (eqb-true t s a) (eqb-false o p b) c) in
          inl (rw g (record {
            stamp = refl;
            slot = refl;
            wrap = o;
            other = eqb-false o p b;
            reads = rw (← eqb-true t s a) e;
            whole = all_whole W N log k o n c;
          })))
          (λ c. inr (
            f ∙ sym (lap-short W N log s p k best e c),
            λ r l. let d = stamp-parts (sym e ∙ l.reads) in
                clash (whole_back W N log k o n) (rw (d.0, d.2) (sym (whole-all W N log k l.wrap r.count l.whole))) c,
          ))))
          (λ a. inr (f ∙ sym (lap-stamp W N log s p k best e (eqb-false t s a)), λ r l. eqb-false t s a (stamp-parts (sym e ∙ l.reads)).1))

  pub lapped-is : (best : Sequence) (k : ℕ) → LappedIs W N log s p best k (lapped_below W N log s p best k)
  unfolding lapped_below
  lapped-is best zero = kept refl (λ i l. absurd (omega arith))
  lapped-is best (suc k) = by (lapped-is best k) (lap-cases k (lapped_below W N log s p best k) _ refl)
    where
      r : Sequence
      r = lap_over W N log s p k (slot_at W log k) (lapped_below W N log s p best k)

      by : LappedIs W N log s p best k (lapped_below W N log s p best k)
          → Laps W N log s p k r ⊎ ((r ≡ lapped_below W N log s p best k) × NoLap W N log s p k) → LappedIs W N log s p best (suc k) r
      by b (inl l) = moved k (omega arith) l (λ i g h. absurd (omega arith))
      by (kept e n) (inr l) =
          kept (l.0 ∙ e) (λ i h. ⊎_elim (λ (d : i ≡ k). rw d l.1) (λ (d : i < k). n i d) (eq-or-lt_of_le {n = i} {m = k} (omega arith)))
      by (moved j h m n) (inr l) =
          moved j (omega arith) (rw l.0 m)
          (λ i g h. ⊎_elim (λ (d : i ≡ k). rw d l.1) (λ (d : i < k). n i g d) (eq-or-lt_of_le {n = i} {m = k} (omega arith)))

-- of each slot in turn
pub lapped-range : (W N : ℕ) (log : List ℕ) (s p : ℕ) (found : Sequence) (n : ℕ)
    → fold (λ b k. lap_over W N log s p k (slot_at W log k) b) found (range_with_len 0 n) ≡ lapped_below W N log s p found n
unfolding lapped_below
lapped-range W N log s p found n =
    fold-below (λ b k. lap_over W N log s p k (slot_at W log k) b) (lapped_below W N log s p found) (λ k. rw (add-one k) refl) n

-- slot j closes the highest of the greatest timestamp
module _ (W N base : ℕ) (log : List ℕ) (j : ℕ) (low : j < N) (s : Sequence) (e : closed_at W N base log j ≡ Some s)
    (most : (i : ℕ) → i < N → (q : Sequence) → closed_at W N base log i ≡ Some q → q.stamp ≤ s.stamp)
    (high : (i : ℕ) → j < i → i < N → (q : Sequence) → closed_at W N base log i ≡ Some q → q.stamp < s.stamp) where
  qs : List Complete
  qs = complete_below W N base log 0 N

  here-closed : Closed W N base log j s
  here-closed = closed-from W N base log j s e

  mine : Complete
  mine = closed_as W N base log 0 j s here-closed

  mine-in : In mine qs
  unfolding mine qs
  mine-in = slot-in W N base log 0 j N low s here-closed

  rising : Rising qs
  unfolding qs
  rising = below-rising W N base log 0 N

  from : (q : Complete) → In q qs → FromSlot W N base log 0 N q
  unfolding qs
  from q i = in-slot W N base log 0 N q i

  not-past : (q : Complete) → In q qs → q.stamp ≡ s.stamp → q.slot ≤ j
  not-past q i d =
      let f = from q i in
      split (ltb j f.at)
      (λ t. absurd (omega (arith, high f.at (ltb-true j f.at t) f.low f.by f.is, ap (λ (q : Complete). q.stamp) f.same)))
      (λ t. omega (arith, ltb-false j f.at t, ap (λ (q : Complete). q.slot) f.same))

  -- its wrap bit is that of the highest slot
  sides : (p : ℕ) → top_wrap 0 s.stamp p qs ≡ here-closed.wrap
  unfolding mine
  sides p = by (top 0 s.stamp rising)
    where
      by : Top 0 s.stamp qs → top_wrap 0 s.stamp p qs ≡ here-closed.wrap
      by (absent f n) = absurd (n mine mine-in refl refl)
      by (is t i l m f b) =
          let d : t ≡ mine = rising-one rising i mine-in l (let g : t.slot ≡ j = omega (arith, not-past t i m, b mine mine-in refl refl) in g) in
          f p ∙ ap (λ (q : Complete). q.wrap) d

  before-mine : (q : Complete) → q.lane ≡ 0 → q.stamp ≡ s.stamp → q.wrap ≡ here-closed.wrap → after_wrap qs q ≡ 0
  before-mine q l d w = side_before qs q here-closed.wrap (rw (l, d) sides) w

  after-mine : (q : Complete) → q.lane ≡ 0 → q.stamp ≡ s.stamp → q.wrap ≢ here-closed.wrap → after_wrap qs q ≡ 1
  after-mine q l d w = side_after qs q here-closed.wrap (rw (l, d) sides) w

  laps-at : (q : Complete) (f : FromSlot W N base log 0 N q) → q.stamp ≡ s.stamp → q.wrap ≢ here-closed.wrap
      → Laps W N log s.stamp here-closed.wrap f.at f.by
  laps-at q f d w =
      let e : f.by.stamp ≡ s.stamp = sym (ap (λ (q : Complete). q.stamp) f.same) ∙ d in
      record {
        stamp = e;
        slot = f.closed.slot;
        wrap = f.closed.wrap;
        other = λ v. w (ap (λ (q : Complete). q.wrap) f.same ∙ v);
        reads = f.closed.reads ∙ ap (λ t. Stamp f.by.count t f.closed.wrap) e;
        whole = f.closed.whole;
      }

  -- it is the latest, where no slot below it laps it
  no-laps : ((i : ℕ) → i < j → NoLap W N log s.stamp here-closed.wrap i) → (q : Complete) → In q qs → (q ≡ mine) ⊎ Before qs mine q
  unfolding mine
  no-laps n q i =
      let f = from q i in
      let l : q.lane ≡ 0 = ap (λ (q : Complete). q.lane) f.same in
      let m : q.stamp ≤ s.stamp = omega (arith, most f.at f.low f.by f.is, ap (λ (q : Complete). q.stamp) f.same) in
      split (ltb q.stamp s.stamp)
      (λ t. inr (stamp (ltb-true _ _ t)))
      (λ t. let d : q.stamp ≡ s.stamp = omega (arith, ltb-false q.stamp s.stamp t) in
      split (eqb q.slot j)
      (λ u. inl (rising-one rising i mine-in l (eqb-true _ _ u)))
      (λ u. let b : q.slot < j = omega (arith, not-past q i d, eqb-false q.slot j u) in
      split (eqb q.wrap here-closed.wrap)
      (λ v. inr (slot d l (before-mine q l d (eqb-true _ _ v) ∙ sym (before-mine mine refl refl refl)) b))
      (λ v. absurd (n f.at (omega (arith, ap (λ (q : Complete). q.slot) f.same)) f.by (laps-at q f d (eqb-false _ _ v))))))

  -- else the highest one that laps it is
  apart : (q : Complete) → In q qs → q.lane ≡ 0 → q.stamp ≡ s.stamp → q.wrap ≢ here-closed.wrap → q.slot < j
  unfolding mine
  apart q i l d w =
      split (eqb q.slot j)
      (λ u. absurd (w (ap (λ (q : Complete). q.wrap) (rising-one rising i mine-in l (eqb-true _ _ u)))))
      (λ u. omega (arith, not-past q i d, eqb-false q.slot j u))

  module _ (k : ℕ) (below : k < j) (r : Sequence) (a : Laps W N log s.stamp here-closed.wrap k r)
      (n : (i : ℕ) → k < i → i < j → NoLap W N log s.stamp here-closed.wrap i) where
    lapping : Closed W N base log k r
    lapping =
        record {
          slot = a.slot;
          above = rw a.stamp here-closed.above;
          few = (stamp-in W log k r.count s.stamp a.wrap a.reads).count;
          wrap = a.wrap;
          reads = a.reads ∙ ap (λ t. Stamp r.count t a.wrap) (sym a.stamp);
          whole = a.whole;
        }

    its : Complete
    its = closed_as W N base log 0 k r lapping

    its-in : In its qs
    unfolding its qs
    its-in = slot-in W N base log 0 k N (omega arith) r lapping

    its-after : after_wrap qs its ≡ 1
    unfolding its lapping
    its-after = after-mine its refl a.stamp a.other

    its-first : (q : Complete) → In q qs → (q ≡ its) ⊎ Before qs its q
    unfolding its
    its-first q i =
        let f = from q i in
        let l : q.lane ≡ 0 = ap (λ (q : Complete). q.lane) f.same in
        let m : q.stamp ≤ s.stamp = omega (arith, most f.at f.low f.by f.is, ap (λ (q : Complete). q.stamp) f.same) in
        split (ltb q.stamp s.stamp)
        (λ t. inr (stamp (rw a.stamp (ltb-true _ _ t))))
        (λ t. let d : q.stamp ≡ s.stamp = omega (arith, ltb-false q.stamp s.stamp t) in
        split (eqb q.wrap here-closed.wrap)
        (λ v. inr (wrap (d ∙ sym a.stamp) l (omega (arith, before-mine q l d (eqb-true _ _ v), its-after))))
        (λ v. let w = eqb-false q.wrap here-closed.wrap v in
        let b : q.slot < j = apart q i l d w in
        split (ltb k q.slot)
        (λ u. absurd (n f.at (omega (arith, ltb-true k q.slot u, ap (λ (q : Complete). q.slot) f.same))
        (omega (arith, ap (λ (q : Complete). q.slot) f.same)) f.by (laps-at q f d w)))
        (λ u. split (eqb q.slot k)
        (λ x. inl (rising-one rising i its-in l (eqb-true _ _ x)))
        (λ x. inr (slot (d ∙ sym a.stamp) l (after-mine q l d w ∙ sym its-after)
        (let y : q.slot < k = omega (arith, ltb-false k q.slot u, eqb-false q.slot k x) in y))))))

  pub latest-lapped : (p : ℕ) → slot_at W log j ≡ Stamp s.count s.stamp p
      → latest (complete_below W N base log 0 N) ≡ Some (lapped_below W N log s.stamp p s j)
  unfolding qs mine its
  latest-lapped p o = rw (stamp-parts (sym o ∙ here-closed.reads)).2 (by (lapped-is W N log s.stamp here-closed.wrap s j))
    where
      by : {r : Sequence} → LappedIs W N log s.stamp here-closed.wrap s j r → latest (complete_below W N base log 0 N) ≡ Some r
      by (kept f n) = latest-first qs mine mine-in (no-laps n) ∙ ap Some (closed-as W N base log 0 j s here-closed ∙ sym f)
      by {r} (moved k b a n) = latest-first qs (its k b r a n) (its-in k b r a n) (its-first k b r a n)
          ∙ ap Some (closed-as W N base log 0 k r (lapping k b r a n))

-- ---- the slot of the greatest timestamp
-- a slot that closes a sequence can hold a timestamp, and has it in its value word
pub closed-half : (W N base : ℕ) (log : List ℕ) (j : ℕ) (q : Sequence) → closed_at W N base log j ≡ Some q
    → (stamp_high log j ≡ true) × (q.stamp ≡ 2 * half_at log j)
unfolding stamp_high half_at stamp_of
closed-half W N base log j q e =
    let c = closed-from W N base log j q e in
    let f = stamp-in W log j q.count q.stamp c.wrap c.reads in
    (le-leb (8 * tag) (get_or log (2 * j) 0) (omega (arith, f.address)), omega (arith, f.even, f.wrap, f.value))

-- a group of which no slot can hold a timestamp
or-high : (a b : ℕ) → leb (8 * tag) (bit_or a b) ≡ (leb (8 * tag) a || leb (8 * tag) b)
or-high a b =
    split (leb (8 * tag) a)
    (λ h. rw h (le-leb (8 * tag) (bit_or a b) (omega (arith, leb-true (8 * tag) a h, or_add_and a b, and_le_r a b))))
    (λ h. split (leb (8 * tag) b)
    (λ g. rw (h, g) (le-leb (8 * tag) (bit_or a b) (omega (arith, leb-true (8 * tag) b g, or_add_and a b, and_le_l a b))))
    (λ g. rw (h, g) (lt-leb (8 * tag) (bit_or a b) (or_lt 15 a b (leb-false (8 * tag) a h) (leb-false (8 * tag) b g)))))

pub any-high : (log : List ℕ) (j : ℕ)
    → leb (8 * tag)
    (bit_or (bit_or (get_or log (2 * j) 0) (get_or log (2 * (j + 1)) 0)) (bit_or (get_or log (2 * (j + 2)) 0) (get_or log (2 * (j + 3)) 0)))
    ≡ any_high log j
unfolding any_high stamp_high
any-high log j =
    or-high (bit_or (get_or log (2 * j) 0) (get_or log (2 * (j + 1)) 0)) (bit_or (get_or log (2 * (j + 2)) 0) (get_or log (2 * (j + 3)) 0))
    ∙ ap₂ ◌||◌ (or-high (get_or log (2 * j) 0) (get_or log (2 * (j + 1)) 0)) (or-high (get_or log (2 * (j + 2)) 0) (get_or log (2 * (j + 3)) 0))

-- so a step that changes nothing at such slots changes nothing over it
pub fold-low : {A : Type 0} (h : A → ℕ → A) (log : List ℕ) → SkipsLow log h → (j : ℕ) (a : A) → any_high log j ≡ false → fold h a (range_with_len j group) ≡ a
unfolding any_high
fold-low h log skips j a e =
    let first = or_left (stamp_high log j || stamp_high log (j + 1)) _ e in
    let last = or_right (stamp_high log j || stamp_high log (j + 1)) _ e in
    ap (λ b. fold h b (range_with_len (j + 1) 3)) (skips a j (or_left (stamp_high log j) _ first))
    ∙ ap (λ b. fold h b (range_with_len (j + 1 + 1) 2)) (skips a (j + 1) (or_right (stamp_high log j) _ first))
    ∙ ap (λ b. fold h b (range_with_len (j + 1 + 1 + 1) 1))
    (skips a (j + 1 + 1) (ap (stamp_high log) (let f : j + 1 + 1 ≡ j + 2 = omega arith in f) ∙ or_left (stamp_high log (j + 2)) _ last))
    ∙ skips a (j + 1 + 1 + 1) (ap (stamp_high log) (let f : j + 1 + 1 + 1 ≡ j + 3 = omega arith in f) ∙ or_right (stamp_high log (j + 2)) _ last)

pub fold-passed : {A : Type 0} (h : A → ℕ → A) (log : List ℕ) → SkipsLow log h → (b : A) (j n : ℕ) → j + group ≡ n → any_high log j ≡ false
    → fold h b (range_with_len 0 j) ≡ fold h b (range_with_len 0 n)
fold-passed h log skips b j n e low =
    sym (fold-low h log skips j (fold h b (range_with_len 0 j)) low)
    ∙ ap (λ i. fold h (fold h b (range_with_len 0 j)) (range_with_len i group)) (let f : j ≡ 0 + j = omega arith in f)
    ∙ fold-on h b 0 j group
    ∙ ap (λ k. fold h b (range_with_len 0 k)) e

-- the candidate of all slots
pub higher-skips : (log : List ℕ) → SkipsLow log (λ a j. higher log j a)
unfolding higher
higher-skips log a j h = rw h

pub candidate-range : (base : ℕ) (log : List ℕ) (n : ℕ)
    → fold (λ a j. higher log j a) (record { half = base / 2; slot = None }) (range_with_len 0 n) ≡ candidate_below base log n
unfolding candidate_below
candidate-range base log n = fold-below (λ a j. higher log j a) (candidate_below base log) (λ k. rw (add-one k) refl) n

-- what a candidate is of the slots below n: none is above it, and where it has a slot, no other has its timestamp
pub record Highest (log : List ℕ) (n : ℕ) (c : Candidate) : Type 0 where
  pub most : (i : ℕ) → i < n → stamp_high log i ≡ true → half_at log i ≤ c.half
  pub value : (j : ℕ) → c.slot ≡ Some j → half_at log j ≡ c.half
  pub sole : (j : ℕ) → c.slot ≡ Some j → (i : ℕ) → i < n → stamp_high log i ≡ true → half_at log i ≡ c.half → i ≡ j

module _ (log : List ℕ) where
  -- slot n changes nothing
  highest-keeps : (n : ℕ) (c : Candidate) → Highest log n c → (stamp_high log n ≡ true → half_at log n < c.half) → Highest log (suc n) c
  highest-keeps n c g h = record {
    most = λ i l t.
        ⊎_elim (λ (e : i ≡ n). rw e (omega (arith, h (rw e at t)))) (λ (d : i < n). g.most i d t) (eq-or-lt_of_le {n = i} {m = n} (omega arith));
    value = g.value;
    sole = λ j s i l t v.
        ⊎_elim (λ (e : i ≡ n). absurd (omega (arith, h (rw e at t), ap (half_at log) e))) (λ (d : i < n). g.sole j s i d t v)
        (eq-or-lt_of_le {n = i} {m = n} (omega arith));
  }

  -- slot n is as high, and the candidate has no slot
  highest-tied : (n : ℕ) (c : Candidate) → Highest log n c → c.half ≡ half_at log n
      → Highest log (suc n) (record { half = half_at log n; slot = None })
  highest-tied n c g h = record {
    most = λ i l t.
        ⊎_elim (λ (e : i ≡ n). omega (arith, ap (half_at log) e)) (λ (d : i < n). omega (arith, g.most i d t)) (eq-or-lt_of_le {n = i} {m = n} (omega arith));
    value = λ j s. never s;
    sole = λ j s i l t v. never s;
  }

  -- slot n is the highest
  highest-takes : (n : ℕ) (c : Candidate) → Highest log n c → c.half < half_at log n
      → Highest log (suc n) (record { half = half_at log n; slot = Some n })
  highest-takes n c g h = record {
    most = λ i l t.
        ⊎_elim (λ (e : i ≡ n). omega (arith, ap (half_at log) e)) (λ (d : i < n). omega (arith, g.most i d t)) (eq-or-lt_of_le {n = i} {m = n} (omega arith));
    value = λ j s. ap (half_at log) (sym (same s));
    sole = λ j s i l t v.
        ⊎_elim (λ (e : i ≡ n). e ∙ same s) (λ (d : i < n). absurd (omega (arith, g.most i d t))) (eq-or-lt_of_le {n = i} {m = n} (omega arith));
  }

  pub highest-all : (base n : ℕ) → Highest log n (candidate_below base log n)
  unfolding candidate_below higher
  highest-all base zero = record { most = λ i l t. absurd (omega arith); value = λ j s. never s; sole = λ j s i l t v. never s }
  highest-all base (suc n) =
      let c = candidate_below base log n in
      let g = highest-all base n in
      split (stamp_high log n)
      (λ t. split (leb c.half (half_at log n))
      (λ l. split (eqb (half_at log n) c.half)
      (λ e. rw (t, l, e) (highest-tied n c g (sym (eqb-true _ _ e))))
      (λ e. rw (t, l, e) (highest-takes n c g (omega (arith, leb-true c.half (half_at log n) l, eqb-false (half_at log n) c.half e)))))
      (λ l. rw (t, l) (highest-keeps n c g (λ _. leb-false _ _ l))))
      (λ t. rw t (highest-keeps n c g (λ u. clash _ u t)))

-- which it is
known : (x : Option Sequence) → (x ≡ None) ⊎ ((q : Sequence) × (x ≡ Some q))
known None = inl refl
known (Some q) = inr (q, refl)

-- the slot of a candidate
module _ (W N base : ℕ) (log : List ℕ) where
  from-closed : (j : ℕ) {q : Sequence} → candidate_closed W N base log (Some j) ≡ Some q → (j < N) × (closed_at W N base log j ≡ Some q)
  unfolding candidate_closed
  from-closed j e = split (leb N j) (λ t. never (rw t at e)) (λ t. (leb-false N j t, rw t at e))

  with_slot : (o : Option ℕ) {q : Sequence} → candidate_closed W N base log o ≡ Some q → (j : ℕ) × (o ≡ Some j)
  unfolding candidate_closed
  with_slot None e = never e
  with_slot (Some j) e = (j, refl)

pub highest-is : (N base : ℕ) (log : List ℕ) {c : Candidate} → c ≡ candidate_below base log N → Highest log N c
highest-is N base log e = rw e (highest-all log base N)

module _ (W N base : ℕ) (log : List ℕ) {c : Candidate} (highest : Highest log N c) where
  -- none is above the base
  pub candidate-lacks : c.half ≡ base / 2 → None ≡ latest (complete_below W N base log 0 N)
  candidate-lacks h = sym (latest-none W N base log N each)
    where
      each : (i : ℕ) → i < N → closed_at W N base log i ≡ None
      each i l =
          ⊎_elim (λ (n : closed_at W N base log i ≡ None). n)
          (λ n.
          let q = n.0 in
          let d = closed-half W N base log i q n.1 in
          let above = (closed-from W N base log i q n.1).above in
          absurd (omega (arith, highest.most i l d.0, d.1)))
          (known (closed_at W N base log i))

  -- its slot closes a complete sequence
  candidate-latest : {j : ℕ} {x : Option Sequence} {q : Sequence} → c.slot ≡ Some j → x ≡ candidate_closed W N base log (Some j) → x ≡ Some q
      → Some q ≡ latest (complete_below W N base log 0 N)
  candidate-latest {j = j} {q = q} s r f = sym (latest-first qs mine mine-in first ∙ ap Some (closed-as W N base log 0 j q closed))
    where
      at : (j < N) × (closed_at W N base log j ≡ Some q)
      at = from-closed W N base log j (sym r ∙ f)

      closed : Closed W N base log j q
      closed = closed-from W N base log j q at.1

      qs : List Complete
      qs = complete_below W N base log 0 N

      mine : Complete
      mine = closed_as W N base log 0 j q closed

      mine-in : In mine qs
      mine-in = slot-in W N base log 0 j N at.0 q closed

      first : (p : Complete) → In p qs → (p ≡ mine) ⊎ Before qs mine p
      first p i =
          let from = in-slot W N base log 0 N p i in
          let m = closed-half W N base log j q at.1 in
          let d = closed-half W N base log from.at from.by from.is in
          let same : p.stamp ≡ from.by.stamp = ap (λ (p : Complete). p.stamp) from.same in
          split (ltb p.stamp q.stamp)
          (λ t. inr (stamp (ltb-true _ _ t)))
          (λ t.
          let half : half_at log from.at ≡ c.half = omega (
            arith,
            ltb-false p.stamp q.stamp t,
            m.1,
            d.1,
            highest.value j s,
            highest.most from.at from.low d.0,
          ) in
          inl (rising-one (below-rising W N base log 0 N) i mine-in (ap (λ (p : Complete). p.lane) from.same)
          (ap (λ (p : Complete). p.slot) from.same ∙ highest.sole j s from.at from.low d.0 half)))

  -- as the code's tests tell
  pub candidate-chosen : {x : Option Sequence} {q : Sequence} → x ≡ candidate_closed W N base log c.slot → x ≡ Some q
      → Some q ≡ latest (complete_below W N base log 0 N)
  candidate-chosen {q = q} r f =
      let s = with_slot W N base log c.slot (sym r ∙ f) in
      candidate-latest s.1 (r ∙ ap (candidate_closed W N base log) s.1) f

-- ---- a slot looked at first
-- all slots
module _ (log : List ℕ) (k b : ℕ) where
  pub rival-skips : SkipsLow log (λ found j. found || rival log k b j)
  unfolding rival stamp_from
  rival-skips found j h = rw h (or-false found)

  pub rival-range : (n : ℕ) → fold (λ found j. found || rival log k b j) false (range_with_len 0 n) ≡ rival_below log k b n
  unfolding rival_below
  rival-range n = fold-below (λ found j. found || rival log k b j) (rival_below log k b) (λ i. rw (add-one i) refl) n

  -- a group of which no slot can hold a timestamp
  pub rival-low : (j : ℕ) → any_high log j ≡ false → false ≡ list_any (rival log k b) (range_with_len j group)
  rival-low j low =
      sym (any-folds (rival log k b) false (range_with_len j group) ∙ fold-low (λ found i. found || rival log k b i) log rival-skips j false low)

  -- the slots in groups, and the rest after them
  abbrev pub rival_grouped : (n : ℕ) → Bool
  rival_grouped n = list_any (λ i. list_any (rival log k b) (range_with_len (group * i) group)) (range_with_len 0 (n / group))

  abbrev pub rival_rest : (n : ℕ) → Bool
  rival_rest n = list_any (rival log k b) (range_with_len (n - n % group) (n % group))

  rival-parts : (n : ℕ) → (rival_grouped n || rival_rest n) ≡ rival_below log k b n
  rival-parts n =
      ap (λ x. x || rival_rest n) (any-groups (rival log k b) group 0 (n / group))
      ∙ ap₂ (λ m i. list_any (rival log k b) (range_with_len 0 m) || list_any (rival log k b) (range_with_len i (n % group)))
      (let f : group * (n / group) ≡ n - n % group = omega arith in f) (let f : n - n % group ≡ 0 + (n - n % group) = omega arith in f)
      ∙ any-on (rival log k b) 0 (n - n % group) (n % group)
      ∙ ap (λ m. list_any (rival log k b) (range_with_len 0 m)) (let f : n - n % group + n % group ≡ n = omega arith in f)
      ∙ any-folds (rival log k b) false (range_with_len 0 n)
      ∙ rival-range n

  -- as the code's tests tell: of the groups, and where none of these can, of the rest
  pub rival-found : (n : ℕ) {x : Bool} → x ≡ rival_grouped n → x ≡ true → x ≡ rival_below log k b n
  rival-found n e t = t ∙ rw (sym e ∙ t) at (rival-parts n)

  pub rival-later : (n : ℕ) {x y : Bool} → x ≡ rival_grouped n → x ≡ false → y ≡ rival_rest n → y ≡ rival_below log k b n
  rival-later n e t r = r ∙ rw (sym e ∙ t) at (rival-parts n)

  rivals-none : (i n : ℕ) → i < n → rival_below log k b n ≡ false → rival log k b i ≡ false
  unfolding rival_below
  rivals-none i zero l h = absurd (omega arith)
  rivals-none i (suc n) l h =
      ⊎_elim (λ (e : i ≡ n). rw e (or_right (rival_below log k b n) _ h)) (λ (e : i < n). rivals-none i n e (or_left (rival_below log k b n) _ h))
      (eq-or-lt_of_le {n = i} {m = n} (omega arith))

rival-lower : (log : List ℕ) (k b j : ℕ) → b ≡ 2 * half_at log k → stamp_high log j ≡ true → j ≢ k → rival log k b j ≡ false → half_at log j < half_at log k
unfolding rival stamp_from half_at
rival-lower log k b j e t d h =
    split (leb b (get_or log (2 * j + 1) 0))
    (λ u. clash true refl (rw (t, u, ne_eqb j k d) at h))
    (λ u. let less = leb-false b (get_or log (2 * j + 1) 0) u in omega arith)

-- no other slot can hold a timestamp as high as that of the sequence that slot k closes
pub near-latest : (W N base : ℕ) (log : List ℕ) (k : ℕ) {x : Option Sequence} {q : Sequence} → x ≡ candidate_closed W N base log (Some k) → x ≡ Some q
    → rival_below log k q.stamp N ≡ false → Some q ≡ latest (complete_below W N base log 0 N)
near-latest W N base log k {q = q} r f h = candidate-latest W N base log {c = record { half = half_at log k; slot = Some k }} highest refl r f
  where
    half : q.stamp ≡ 2 * half_at log k
    half = (closed-half W N base log k q (from-closed W N base log k (sym r ∙ f)).1).1

    below : (i : ℕ) → i < N → stamp_high log i ≡ true → i ≢ k → half_at log i < half_at log k
    below i l t d = rival-lower log k q.stamp i half t d (rivals-none log k q.stamp i N l h)

    highest : Highest log N (record { half = half_at log k; slot = Some k })
    highest = record {
      most = λ i l t. split (eqb i k) (λ e. rw (eqb-true i k e) (omega arith)) (λ e. omega (arith, below i l t (eqb-false i k e)));
      value = λ j s. ap (half_at log) (sym (same s));
      sole = λ j s i l t v. split (eqb i k) (λ e. eqb-true i k e ∙ same s) (λ e. absurd (omega (arith, below i l t (eqb-false i k e))));
    }

-- ---- every slot
-- of each slot in turn
pub greatest-range : (W N base : ℕ) (log : List ℕ) (n : ℕ)
    → fold (λ b k. greater b (closed_at W N base log k)) None (range_with_len 0 n) ≡ greatest_below W N base log n
unfolding greatest_below
greatest-range W N base log n =
    fold-below (λ b k. greater b (closed_at W N base log k)) (greatest_below W N base log) (λ k. rw (add-one k) refl) n

-- what it is: of the sequences that the slots below k close, the highest of the greatest timestamp
pub record Greatest (W N base : ℕ) (log : List ℕ) (k : ℕ) (q : Sequence) : Type 0 where
  pub low : q.slot < k
  pub is : closed_at W N base log q.slot ≡ Some q
  pub most : (i : ℕ) → i < k → (r : Sequence) → closed_at W N base log i ≡ Some r → r.stamp ≤ q.stamp
  pub high : (i : ℕ) → q.slot < i → i < k → (r : Sequence) → closed_at W N base log i ≡ Some r → r.stamp < q.stamp

abbrev pub NoneClosed : (W N base : ℕ) (log : List ℕ) (k : ℕ) → Type 0
NoneClosed W N base log k = (i : ℕ) → i < k → closed_at W N base log i ≡ None

pub data GreatestIs (W N base : ℕ) (log : List ℕ) (k : ℕ) (x : Option Sequence) : Type 0 where
  lacking : x ≡ None → NoneClosed W N base log k → GreatestIs W N base log k x
  found : (q : Sequence) → x ≡ Some q → Greatest W N base log k q → GreatestIs W N base log k x

module _ (W N base : ℕ) (log : List ℕ) where
  -- slot k closes a sequence that is not below the others
  greatest-takes : (k : ℕ) (r : Sequence) → closed_at W N base log k ≡ Some r
      → ((i : ℕ) → i < k → (q : Sequence) → closed_at W N base log i ≡ Some q → q.stamp ≤ r.stamp) → Greatest W N base log (suc k) r
  greatest-takes k r e h =
      let s : r.slot ≡ k = (closed-from W N base log k r e).slot in
      record {
        low = omega arith;
        is = ap (closed_at W N base log) s ∙ e;
        most = λ i l q f.
            ⊎_elim
            (λ (d : i ≡ k). omega (arith, ap (λ (q : Sequence). q.stamp) (is_one (sym f ∙ ap (closed_at W N base log) d ∙ e))))
            (λ (d : i < k). h i d q f)
            (eq-or-lt_of_le {n = i} {m = k} (omega arith));
        high = λ i g l q f. absurd (omega arith);
      }

  -- slot k changes nothing
  greatest-keeps : (k : ℕ) (q : Sequence) → Greatest W N base log k q
      → ((r : Sequence) → closed_at W N base log k ≡ Some r → r.stamp < q.stamp) → Greatest W N base log (suc k) q
  greatest-keeps k q g h = record {
    low = omega (arith, g.low);
    is = g.is;
    most = λ i l r f.
        ⊎_elim (λ (d : i ≡ k). omega (arith, h r (rw d at f))) (λ (d : i < k). g.most i d r f) (eq-or-lt_of_le {n = i} {m = k} (omega arith));
    high = λ i a l r f.
        ⊎_elim (λ (d : i ≡ k). h r (rw d at f)) (λ (d : i < k). g.high i a d r f) (eq-or-lt_of_le {n = i} {m = k} (omega arith));
  }

  greatest-step : (k : ℕ) (a x : Option Sequence) → closed_at W N base log k ≡ x → GreatestIs W N base log k a → GreatestIs W N base log (suc k) (greater a x)
  unfolding greater
  greatest-step k a None e (lacking f n) =
      lacking f (λ i l. ⊎_elim (λ (d : i ≡ k). rw d e) (λ (d : i < k). n i d) (eq-or-lt_of_le {n = i} {m = k} (omega arith)))
  greatest-step k a None e (found q f g) = found q f (greatest-keeps k q g (λ r h. never (sym e ∙ h)))
  greatest-step k a (Some r) e (lacking f n) =
      found r (rw f) (greatest-takes k r e (λ i l q h. never (sym (n i l) ∙ h)))
  greatest-step k a (Some r) e (found q f g) =
      split (ltb r.stamp q.stamp)
      (λ t. found q (rw (f, t))
      (greatest-keeps k q g (λ p h. omega (arith, ltb-true r.stamp q.stamp t, ap (λ (q : Sequence). q.stamp) (is_one (sym e ∙ h))))))
      (λ t. found r (rw (f, t)) (greatest-takes k r e (λ i l p h. omega (arith, ltb-false r.stamp q.stamp t, g.most i l p h))))

  pub greatest-all : (k : ℕ) → GreatestIs W N base log k (greatest_below W N base log k)
  unfolding greatest_below
  greatest-all zero = lacking refl (λ i l. absurd (omega arith))
  greatest-all (suc k) = greatest-step k _ _ refl (greatest-all k)

  module _ {x : Option Sequence} (e : x ≡ greatest_below W N base log N) where
    -- there is none
    pub all_none : x ≡ None → None ≡ latest (complete_below W N base log 0 N)
    all_none h = by (greatest-all N)
      where
        by : GreatestIs W N base log N (greatest_below W N base log N) → None ≡ latest (complete_below W N base log 0 N)
        by (lacking f n) = sym (latest-none W N base log N n)
        by (found q f g) = never (sym h ∙ e ∙ f)

    module _ {q : Sequence} (h : x ≡ Some q) where
      pub all-greatest : Greatest W N base log N q
      all-greatest = by (greatest-all N)
        where
          by : GreatestIs W N base log N (greatest_below W N base log N) → Greatest W N base log N q
          by (lacking f n) = never (sym f ∙ sym e ∙ h)
          by (found r f g) = rw (is_one (sym h ∙ e ∙ f)) g

      -- there is one, and others may have its timestamp
      pub all-latest : {r : Sequence} → r ≡ lapped_below W N log q.stamp (get_or log (2 * q.slot) 0 % 2) q q.slot
          → Some r ≡ latest (complete_below W N base log 0 N)
      unfolding stamp_of
      all-latest d =
          let g = all-greatest in
          let c = closed-from W N base log q.slot q g.is in
          let f = stamp-in W log q.slot q.count q.stamp c.wrap c.reads in
          let w : c.wrap ≡ get_or log (2 * q.slot) 0 % 2 = omega (arith, f.address, f.wrap) in
          ap Some d ∙ sym (latest-lapped W N base log q.slot g.low q g.is g.most g.high _ (rw (← w) c.reads))

-- ---- hits
-- slot numbers, circularly
pub circular-low : (N k : ℕ) → k < 2 * N → circular N k < N
unfolding circular
circular-low N k h = split (ltb k N) (λ e. rw e (ltb-true k N e)) (λ e. rw e (omega (arith, ltb-false k N e)))

pub ahead-circular : (N k d : ℕ) → k < N → d < N → ahead N k (circular N (k + d)) ≡ d
unfolding ahead circular
ahead-circular N k d h g =
    split (ltb (k + d) N)
    (λ e. rw (e, le-leb k (k + d) (omega arith)) (omega arith))
    (λ e. let far = ltb-false (k + d) N e in rw (e, lt-leb k (k + d - N) (omega arith)) (omega arith))

circular-ahead : (N k j : ℕ) → k < N → j < N → circular N (k + ahead N k j) ≡ j
unfolding ahead circular
circular-ahead N k j h g =
    split (leb k j)
    (λ e. let near = leb-true k j e in rw (e, lt-ltb (k + (j - k)) N (omega arith)) (omega arith))
    (λ e. let wrapped = leb-false k j e in rw (e, le-ltb (k + (j + N - k)) N (omega arith)) (omega arith))

module _ (W N base : ℕ) (log : List ℕ) (k m b : ℕ) where
  hit-not : (j : ℕ) (c : Content) → slot_at W log j ≡ c → is_stamp c ≡ false → hit_at W N base log k m b j ≡ false
  unfolding hit_at is_stamp closes hits_from
  hit-not j Empty e h = rw e
  hit-not j Torn e h = rw e
  hit-not j (Entry i v p) e h = rw e
  hit-not j (Stamp n s p) e h = absurd (let z : ◌≡◌ {A = ℕ} 0 1 = cc in omega arith)

  -- a timestamp's, as four tests: whether two circular ranges meet is one comparison
  hit-stamp : (j n s p : ℕ) → slot_at W log j ≡ Stamp n s p → k < N → j < N → 1 ≤ m
      → hit_at W N base log k m b j ≡ ((ltb base s && whole_back W N log j p n) && (leb b s && ltb (ahead N k j) (m + n)))
  unfolding hit_at whole_back closes hits_from
  hit-stamp j n s p e h g l =
      rw e
      (split (ltb base s && eqb (length (entries_back W N log j p n)) n)
      (λ t.
      let whole = eqb-true (length (entries_back W N log j p n)) n (and_right (ltb base s) _ t) in
      rw (t, whole) (or-false (leb b s && overlaps N k m j n) ∙ ap (λ (x : Bool). leb b s && x) (overlaps-ahead N k m j n h g l)))
      (λ t. rw t))

  hit-distant : (j n s p : ℕ) → slot_at W log j ≡ Stamp n s p → k < N → j < N → 1 ≤ m → m + n ≤ ahead N k j → hit_at W N base log k m b j ≡ false
  hit-distant j n s p e h g l f =
      hit-stamp j n s p e h g l ∙ rw (le-ltb (ahead N k j) (m + n) f, and-false (leb b s)) (and-false (ltb base s && whole_back W N log j p n))

  -- no slot closes a sequence that is hit from farther ahead than this
  hit-within : (j : ℕ) → k < N → j < N → 1 ≤ m → m + max_entries ≤ ahead N k j → hit_at W N base log k m b j ≡ false
  unfolding is_stamp
  hit-within j h g l f = by (slot_at W log j) refl
    where
      by : (c : Content) → slot_at W log j ≡ c → hit_at W N base log k m b j ≡ false
      by Empty e = hit-not j Empty e refl
      by Torn e = hit-not j Torn e refl
      by (Entry i v p) e = hit-not j (Entry i v p) e refl
      by (Stamp n s p) e = hit-distant j n s p e h g l (omega (arith, (stamp-in W log j n s p e).count))

  -- one whose words are not as high as those of a timestamp at or above b
  hit-early : (j : ℕ) → k < N → j < N → 1 ≤ m → stamp_from log j b ≡ false → hit_at W N base log k m b j ≡ false
  unfolding is_stamp stamp_from stamp_high stamp_of
  hit-early j h g l f = by (slot_at W log j) refl
    where
      by : (c : Content) → slot_at W log j ≡ c → hit_at W N base log k m b j ≡ false
      by Empty e = hit-not j Empty e refl
      by Torn e = hit-not j Torn e refl
      by (Entry i v p) e = hit-not j (Entry i v p) e refl
      by (Stamp n s p) e =
          let t = stamp-in W log j n s p e in
          let high : leb (8 * tag) (get_or log (2 * j) 0) ≡ true = le-leb (8 * tag) (get_or log (2 * j) 0) (omega (arith, t.address)) in
          let less : get_or log (2 * j + 1) 0 < b = leb-false b (get_or log (2 * j + 1) 0) (rw high at f) in
          hit-stamp j n s p e h g l
          ∙ rw (lt-leb b s (omega (arith, t.value))) (and-false (ltb base s && whole_back W N log j p n))

  -- the slot d places after slot k
  pub hit-passed : (d j : ℕ) → j ≡ circular N (k + d) → k < N → d < N → 1 ≤ m → stamp_from log j b ≡ false
      → false ≡ hit_at W N base log k m b (circular N (k + d))
  hit-passed d j at h g l f = rw (← at) (sym (hit-early j h (rw at (circular-low N (k + d) (omega arith))) l f))

  module _ (d j : ℕ) (at : j ≡ circular N (k + d)) {c : Content} (r : c ≡ slot_at W log j) where
    pub hit_other : is_stamp c ≡ false → false ≡ hit_at W N base log k m b (circular N (k + d))
    hit_other h = rw (← at) (sym (hit-not j c (sym r) h))

    module _ {n s p : ℕ} (e : c ≡ Stamp n s p) (low : k < N) (near : d < N) (some : 1 ≤ m) where
      hit-tests : hit_at W N base log k m b (circular N (k + d)) ≡ ((ltb base s && whole_back W N log j p n) && (leb b s && ltb d (m + n)))
      hit-tests =
          let below : j < N = rw at (circular-low N (k + d) (omega arith)) in
          let ahead-at : ahead N k j ≡ d = rw at (ahead-circular N k d low near) in
          rw (← at, hit-stamp j n s p (sym r ∙ e) low below some, ahead-at)

      pub hit-base : s ≤ base → false ≡ hit_at W N base log k m b (circular N (k + d))
      hit-base h = sym (hit-tests ∙ rw (le-ltb base s h))

      pub hit-low : s < b → false ≡ hit_at W N base log k m b (circular N (k + d))
      hit-low h = sym (hit-tests ∙ rw (lt-leb b s h) (and-false (ltb base s && whole_back W N log j p n)))

      pub hit-far : m + n ≤ d → false ≡ hit_at W N base log k m b (circular N (k + d))
      hit-far h = sym (hit-tests ∙ rw (le-ltb d (m + n) h, and-false (leb b s)) (and-false (ltb base s && whole_back W N log j p n)))

      pub hit-near : base < s → b ≤ s → d < m + n → whole_back W N log j p n ≡ hit_at W N base log k m b (circular N (k + d))
      hit-near h g f = sym (hit-tests ∙ rw (lt-ltb base s h, le-leb b s g, lt-ltb d (m + n) f) (and-true (whole_back W N log j p n)))

  hits-suc : (j : ℕ)
      → hits_from N k m b (complete_below W N base log 0 (suc j))
      ≡ (hits_from N k m b (complete_below W N base log 0 j) || hit_at W N base log k m b j)
  unfolding complete_below hit_at
  hits-suc j = hits-append N k m b (complete_below W N base log 0 j) (closes W N base log 0 j (slot_at W log j))

  hits-no : (n : ℕ) → ((j : ℕ) → j < n → hit_at W N base log k m b j ≡ false) → hits_from N k m b (complete_below W N base log 0 n) ≡ false
  unfolding complete_below hits_from
  hits-no zero h = refl
  hits-no (suc n) h = hits-suc n ∙ rw (hits-no n (λ j l. h j (omega arith)), h n (omega arith))

  hits-yes : (j n : ℕ) → j < n → hit_at W N base log k m b j ≡ true → hits_from N k m b (complete_below W N base log 0 n) ≡ true
  hits-yes j zero l h = absurd (omega arith)
  hits-yes j (suc n) l h =
      hits-suc n
      ∙ ⊎_elim
      (λ (e : j ≡ n). let g : hit_at W N base log k m b n ≡ true = rw e at h in rw g (or-true (hits_from N k m b (complete_below W N base log 0 n))))
      (λ (e : j < n). rw (hits-yes j n e h))
      (eq-or-lt_of_le {n = j} {m = n} (omega arith))

-- of the slots from slot k on, each in turn
module _ (W N base : ℕ) (log : List ℕ) (k m b : ℕ) where
  pub hits-range : k < N → 1 ≤ m → m + max_entries ≤ N
      → list_any (λ d. hit_at W N base log k m b (circular N (k + d))) (range_with_len 0 (m + max_entries))
      ≡ hits_from N k m b (complete_below W N base log 0 N)
  hits-range h l few =
      split (list_any test (range_with_len 0 n))
      (λ e. e ∙ sym (yes (any-which test 0 n e)))
      (λ e. e ∙ sym (hits-no W N base log k m b N (no e)))
    where
      n : ℕ
      n = m + max_entries

      test : ℕ → Bool
      test d = hit_at W N base log k m b (circular N (k + d))

      yes : (i : ℕ) × (i < n) × (test (0 + i) ≡ true) → hits_from N k m b (complete_below W N base log 0 N) ≡ true
      yes d = hits-yes W N base log k m b (circular N (k + (0 + d.0))) N (circular-low N (k + (0 + d.0)) (omega (arith, d.1))) d.2

      no : list_any test (range_with_len 0 n) ≡ false → (j : ℕ) → j < N → hit_at W N base log k m b j ≡ false
      no e j g =
          split (ltb (ahead N k j) n)
          (λ t. ap (hit_at W N base log k m b) (sym (circular-ahead N k j h g))
          ∙ ap test (let f : ahead N k j ≡ 0 + ahead N k j = omega arith in f) ∙ any-not test 0 n e (ahead N k j) (ltb-true (ahead N k j) n t))
          (λ t. hit-within W N base log k m b j h g l (ltb-false (ahead N k j) n t))

-- no bound, or one
module _ (N k m : ℕ) (qs : List Complete) {bound : Option ℕ} where
  pub hits-none : bound ≡ None → false ≡ hits N k m bound qs
  unfolding hits
  hits-none e = rw e

  pub hits_at : {b : ℕ} → bound ≡ Some b → (r : Bool) → hits_from N k m b qs ≡ r → r ≡ hits N k m bound qs
  unfolding hits
  hits_at e r h = rw e (sym h)
