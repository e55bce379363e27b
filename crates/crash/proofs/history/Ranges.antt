-- Every call leaves the record in its ranges: refusal 2 never happens to a store that was formatted. Assumes nothing.
use Rattle.std.specs.Prelude.{Option, Some, None}
use mathlib.Core.Path.{◌≡◌, refl, ap, ◌∙◌}
use mathlib.Core.Logic.{◌⊎◌, inl, inr}
use mathlib.Core.Bool.{Bool, true, false, not, ◌||◌}
use mathlib.Core.List.{List, [], ◌∷◌}
use Prim.Native.Nat.{ℕ, zero, suc, ◌+◌, ◌%◌, ◌≤◌, ◌<◌, min}
use native.Mathlib.Omega.{arith}
use native.Mathlib.Nat.{le_trans}
use lib.Dec.{eqb, leb, ltb}
use lib.ListN.{length, get_or, take, length-take}
use lib.Seq.{get_or-take}
use borrow.Author.Tests.{leb-true, ltb-true, eqb-true, eq-eqb, le-leb, lt-ltb}
use Rattle.laws.specs.inner.Tests.{and_left, and_right, and_both, or_cases}
use Rattle.laws.specs.inner.Lists.{All, none as nil, more}
use Rattle.txn.specs.Txn.{max_writes, max_long}
use Rattle.txn.specs.declared.Write.{Write}
use Rattle.image.specs.declared.Sizes.{Sizes}
use Rattle.record.specs.Record.{no_lane, lane_at, is_logged, pairs_from, part_length, stamp_ok, floor_ok, pairs_ok, phase_ok, lane_ok, lanes_ok, lag_ok, Lock}
use Rattle.record.specs.Record.{held_ok, lock_ok, record_ok, pairs_of}
use Rattle.record.specs.inner.RecordLaws.{LaneIn, lane-in, record-in}
use Rattle.record.specs.declared.Pair.{Pair}
use Rattle.record.specs.declared.Lane.{Lane}
use Rattle.record.specs.declared.Locked.{Locked}
use Rattle.record.specs.declared.Record.{Record}
use Rattle.record.specs.Record.{Phase}

-- ---- a lane
lane-ranged : (z : Sizes) (clock : ℕ) (l : Lane) → LaneIn z clock l → lane_ok z clock l ≡ true
unfolding lane_ok
lane-ranged z clock l r = rw (lt-ltb l.next z.slots r.next, le-leb l.wrap 1 r.wrap, r.floor, r.phase)

-- ---- the lock
pub record HeldRange (z : Sizes) (r : Record) (ps : List ℕ) (k : Locked) : Type 0 where
  pub lane : k.lane < z.lanes
  pub idle : is_logged (lane_at r k.lane).phase ≡ false
  pub stamp : stamp_ok r.clock k.stamp ≡ true
  pub count : k.count ≤ max_long
  pub pairs : pairs_ok z.words (pairs_from ps 0 k.count) ≡ true
  pub whole : k.written % max_writes ≡ 0
  pub left : k.written < k.count
  pub logged : (k.logged ≡ k.written) ⊎ (k.logged ≡ k.written + part_length k)

not_set : (b : Bool) → not b ≡ true → b ≡ false
not_set true e = absurd (let z : ◌≡◌ {A = ℕ} 0 1 = cc in omega arith)
not_set false e = refl

pub held-range : (z : Sizes) (r : Record) (ps : List ℕ) (k : Locked) → held_ok z r ps k ≡ true → HeldRange z r ps k
unfolding held_ok
held-range z r ps k h =
    let h₁ = and_right (ltb k.lane z.lanes) _ h in
    let h₂ = and_right (not (is_logged (lane_at r k.lane).phase)) _ h₁ in
    let h₃ = and_right (stamp_ok r.clock k.stamp) _ h₂ in
    let h₄ = and_right (leb k.count max_long) _ h₃ in
    let h₅ = and_right (pairs_ok z.words (pairs_from ps 0 k.count)) _ h₄ in
    let h₆ = and_right (eqb (k.written % max_writes) 0) _ h₅ in
    let h₇ = and_right (ltb k.written k.count) _ h₆ in
    record {
      lane = ltb-true k.lane z.lanes (and_left _ _ h);
      idle = not_set _ (and_left _ _ h₁);
      stamp = and_left _ _ h₂;
      count = leb-true k.count max_long (and_left _ _ h₃);
      pairs = and_left _ _ h₄;
      whole = eqb-true (k.written % max_writes) 0 (and_left _ _ h₅);
      left = ltb-true k.written k.count (and_left _ _ h₆);
      logged = either (or_cases (eqb k.logged k.written) _ h₇);
    }
  where
    either : (eqb k.logged k.written ≡ true) ⊎ (eqb k.logged (k.written + part_length k) ≡ true)
        → (k.logged ≡ k.written) ⊎ (k.logged ≡ k.written + part_length k)
    either (inl e) = inl (eqb-true k.logged k.written e)
    either (inr e) = inr (eqb-true k.logged (k.written + part_length k) e)

or-right-true : (a : Bool) → (a || true) ≡ true
or-right-true true = refl
or-right-true false = refl

pub held-ranged : (z : Sizes) (r : Record) (ps : List ℕ) (k : Locked) → HeldRange z r ps k → held_ok z r ps k ≡ true
unfolding held_ok
held-ranged z r ps k h =
    rw (
      lt-ltb k.lane z.lanes h.lane,
      h.idle,
      h.stamp,
      le-leb k.count max_long h.count,
      h.pairs,
      eq-eqb (k.written % max_writes) 0 h.whole,
      lt-ltb k.written k.count h.left,
    )
    (either h.logged)
  where
    either : (k.logged ≡ k.written) ⊎ (k.logged ≡ k.written + part_length k)
        → (eqb k.logged k.written || eqb k.logged (k.written + part_length k)) ≡ true
    either (inl e) = rw (eq-eqb k.logged k.written e)
    either (inr e) = rw (eq-eqb k.logged (k.written + part_length k) e) (or-right-true (eqb k.logged k.written))

pub free-ok : (z : Sizes) (r : Record) (ps : List ℕ) (l : Lock) → l ≡ None → lock_ok z r ps l ≡ true
unfolding lock_ok
free-ok z r ps l e = rw e

pub held-ok : (z : Sizes) (r : Record) (ps : List ℕ) (l : Lock) (k : Locked) → l ≡ Some k → lock_ok z r ps l ≡ held_ok z r ps k
unfolding lock_ok
held-ok z r ps l k e = rw e

-- what a change of the record leaves of it
pub lock-stays : (z : Sizes) (r s : Record) (ps : List ℕ) (l : Lock) → s.clock ≡ r.clock
    → ((M : ℕ) → is_logged (lane_at s M).phase ≡ is_logged (lane_at r M).phase) → lock_ok z r ps l ≡ true → lock_ok z s ps l ≡ true
unfolding lock_ok
lock-stays z r s ps None c f h = refl
lock-stays z r s ps (Some k) c f h =
    let v = held-range z r ps k h in
    held-ranged z s ps k
    (record {
      lane = v.lane;
      idle = f k.lane ∙ v.idle;
      stamp = rw c v.stamp;
      count = v.count;
      pairs = v.pairs;
      whole = v.whole;
      left = v.left;
      logged = v.logged;
    })

-- ---- the record
lanes-out : (z : Sizes) (clock : ℕ) (ls : List Lane) → ((M : ℕ) → M < length ls → lane_ok z clock (get_or ls M no_lane) ≡ true) → lanes_ok z clock ls ≡ true
unfolding lanes_ok
lanes-out z clock [] f = refl
lanes-out z clock (l ∷ ls) f =
    and_both (lane_ok z clock l) (lanes_ok z clock ls) (f 0 (let k : 0 < suc (length ls) = omega arith in k))
    (lanes-out z clock ls (λ M i. f (suc M) (let k : suc M < suc (length ls) = omega arith in k)))

pub record RecordRange (z : Sizes) (r : Record) (ps : List ℕ) : Type 0 where
  pub even : r.clock % 2 ≡ 0
  pub last : stamp_ok r.clock r.last ≡ true
  pub lag : lag_ok r.lag ≡ true
  pub lanes : (M : ℕ) → M < z.lanes → LaneIn z r.clock (lane_at r M)
  pub lock : lock_ok z r ps r.lock ≡ true

module _ (z : Sizes) (r : Record) (ps : List ℕ) (long : z.lanes ≤ length r.lanes) where
  taken-long : length (take z.lanes r.lanes) ≡ z.lanes
  taken-long = length-take z.lanes r.lanes ∙ (let e : min z.lanes (length r.lanes) ≡ z.lanes = omega arith in e)

  pub record-range : record_ok z r ps ≡ true → RecordRange z r ps
  unfolding record_ok
  record-range h =
      let k = record-in z r ps h in
      record {
        even = k.clock;
        last = and_left (stamp_ok r.clock r.last) _ (and_right (eqb (r.clock % 2) 0) _ h);
        lag = k.lag;
        lanes = λ M i. lane-in z r.clock (lane_at r M) (k.lanes M i (le_trans i long));
        lock = k.lock;
      }

  pub record-ranged : RecordRange z r ps → record_ok z r ps ≡ true
  unfolding record_ok lane_at
  record-ranged k =
      rw (eq-eqb (r.clock % 2) 0 k.even, k.last, k.lag)
      (and_both _ _ (lanes-out z r.clock (take z.lanes r.lanes)
      (λ M i.
      let j : M < z.lanes = rw taken-long at i in
      ap (lane_ok z r.clock) (get_or-take z.lanes r.lanes M no_lane j) ∙ lane-ranged z r.clock (get_or r.lanes M no_lane) (k.lanes M j)))
      k.lock)

-- ---- a later clock
pub stamp-later : (c d s : ℕ) → c ≤ d → stamp_ok c s ≡ true → stamp_ok d s ≡ true
unfolding stamp_ok
stamp-later c d s h e =
    and_both (eqb (s % 2) 0) (leb s d) (and_left _ _ e) (le-leb s d (let k = leb-true s c (and_right (eqb (s % 2) 0) _ e) in omega arith))

pub stamp-now : (s : ℕ) → s % 2 ≡ 0 → stamp_ok s s ≡ true
unfolding stamp_ok
stamp-now s e = rw (eq-eqb (s % 2) 0 e, le-leb s s (omega arith))

floor-later : (c d : ℕ) (f : Option ℕ) → c ≤ d → floor_ok c f ≡ true → floor_ok d f ≡ true
unfolding floor_ok
floor-later c d None h e = refl
floor-later c d (Some s) h e = stamp-later c d s h e

phase-later : (z : Sizes) (c d : ℕ) (redo : List Pair) (p : Phase) → c ≤ d → phase_ok z c redo p ≡ true → phase_ok z d redo p ≡ true
unfolding phase_ok
phase-later z c d redo None h e = refl
phase-later z c d redo (Some g) h e =
    let e₁ = and_right (ltb g.first z.slots) _ e in
    let e₂ = and_right (leb 1 g.count) _ e₁ in
    let e₃ = and_right (leb g.count max_writes) _ e₂ in
    let s = and_left (stamp_ok c g.stamp) (pairs_ok z.words (take g.count redo)) e₃ in
    let p = and_right (stamp_ok c g.stamp) (pairs_ok z.words (take g.count redo)) e₃ in
    rw (and_left (ltb g.first z.slots) _ e, and_left (leb 1 g.count) _ e₁, and_left (leb g.count max_writes) _ e₂, stamp-later c d g.stamp h s, p)

pub lane-later : (z : Sizes) (c d : ℕ) (l : Lane) → c ≤ d → LaneIn z c l → LaneIn z d l
lane-later z c d l h r =
    record {
      next = r.next;
      wrap = r.wrap;
      floor = floor-later c d l.floor h r.floor;
      phase = phase-later z c d l.redo l.phase h r.phase;
    }

-- ---- the redo log of a run
pub pairs-low : (W n : ℕ) {ws : List Write} → 0 < W → All (λ w. w.word < W) ws → pairs_ok W (pairs_of n ws) ≡ true
unfolding pairs_ok pairs_of
pairs-low W zero pos a = refl
pairs-low W (suc n) pos nil = and_both (ltb 0 W) _ (lt-ltb 0 W pos) (pairs-low W n pos nil)
pairs-low W (suc n) pos (more {x = w} h hs) = and_both (ltb w.word W) _ (lt-ltb w.word W h) (pairs-low W n pos hs)

pub phase-logged : (z : Sizes) (clock first : ℕ) (ws : List Write) → 0 < z.words → first < z.slots → 1 ≤ length ws → length ws ≤ max_writes → clock % 2 ≡ 0
    → All (λ w. w.word < z.words) ws → take (length ws) (pairs_of max_writes ws) ≡ pairs_of (length ws) ws
    → phase_ok z clock (pairs_of max_writes ws) (Some (record { first = first; count = length ws; stamp = clock })) ≡ true
unfolding phase_ok
phase-logged z clock first ws pos f lo hi even low e =
    rw (lt-ltb first z.slots f, le-leb 1 (length ws) lo, le-leb (length ws) max_writes hi, stamp-now clock even, e) (pairs-low z.words (length ws) pos low)
