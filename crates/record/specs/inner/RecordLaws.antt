-- Inner: how the code goes, need not be believed. Laws of the record: what the range check says, a lane after an update, the lower bound, the redo log.
-- Assumes nothing.
use Rattle.std.specs.Prelude.{◌≡◌, refl, true, false, not, ◌&&◌, List, [], ◌∷◌, ℕ, zero, suc, ◌+◌, ◌-◌, ◌%◌, ◌^◌, ◌≤◌, ◌<◌, min, leb, ltb, eqb, length, get_or, take, Option, Some, None}
use Rattle.std.proofs.Common.{sym, ap, ◌∙◌, le_of_suc-le-suc, arith, set-set, eqb-true, leb-true, leb-false, ltb-true, ltb-false, lt-ltb, le-ltb}
use Rattle.laws.specs.inner.Tests.{split, clash, and_left, and_right}
use Rattle.txn.specs.Txn.{max_writes, max_long}
use Rattle.txn.specs.declared.Write.{Write}
use Rattle.image.specs.declared.Sizes.{Sizes}
use Rattle.record.specs.declared.Pair.{Pair}
use Rattle.record.specs.declared.Logged.{Logged}
use Rattle.record.specs.declared.Lane.{Lane}
use Rattle.record.specs.declared.Locked.{Locked}
use Rattle.record.specs.declared.Record.{Record}
use Rattle.record.specs.Record.{no_pair, no_lane, lane_at, is_logged, logged_in, stamp_ok, floor_ok, pairs_ok, phase_ok, lane_ok, lanes_ok, lag_ok, lock_ok, Phase, Lock}
use Rattle.record.specs.Record.{pairs_from, is_held, locked_in, part_length, held_ok, record_ok, spent}
use Rattle.record.specs.Record.{lesser, lag_passed, with_lane, with_clock, pairs_of}
use Rattle.record.specs.inner.Every.{every, every-at}

-- ---- what the range check says
pub record StampIn (clock s : ℕ) : Type 0 where
  pub even : s % 2 ≡ 0
  pub low : s ≤ clock

pub stamp-in : (clock s : ℕ) → stamp_ok clock s ≡ true → StampIn clock s
unfolding stamp_ok
stamp-in clock s h = record { even = eqb-true (s % 2) 0 (and_left _ (leb s clock) h); low = leb-true s clock (and_right (eqb (s % 2) 0) _ h) }

-- the two tests over lists are tests of every element
pub pairs-every : (W : ℕ) (l : List Pair) → pairs_ok W l ≡ every (λ p. ltb p.word W) l
unfolding pairs_ok every
pairs-every W [] = refl
pairs-every W (p ∷ l) = ap (λ t. ltb p.word W && t) (pairs-every W l)

pub lanes-every : (z : Sizes) (clock : ℕ) (l : List Lane) → lanes_ok z clock l ≡ every (lane_ok z clock) l
unfolding lanes_ok every
lanes-every z clock [] = refl
lanes-every z clock (x ∷ l) = ap (λ t. lane_ok z clock x && t) (lanes-every z clock l)

-- a pair below the count
pub pair-below : (W : ℕ) (redo : List Pair) (count i : ℕ) → pairs_ok W (take count redo) ≡ true → i < count → i < length redo
    → (get_or redo i no_pair).word < W
pair-below W redo count i h k b =
    ltb-true (get_or redo i no_pair).word W
    (every-at (λ p. ltb p.word W) redo i count no_pair (sym (pairs-every W (take count redo)) ∙ h) k b)

pub record LoggedIn (z : Sizes) (clock : ℕ) (redo : List Pair) (g : Logged) : Type 0 where
  pub first : g.first < z.slots
  pub least : 1 ≤ g.count
  pub most : g.count ≤ max_writes
  pub stamp : StampIn clock g.stamp
  pub pairs : pairs_ok z.words (take g.count redo) ≡ true

pub logged-in : (z : Sizes) (clock : ℕ) (redo : List Pair) (g : Logged) → phase_ok z clock redo (Some g) ≡ true → LoggedIn z clock redo g
unfolding phase_ok
logged-in z clock redo g h =
    let a = ltb g.first z.slots in
    let b = leb 1 g.count in
    let c = leb g.count max_writes in
    let s = stamp_ok clock g.stamp in
    let p = pairs_ok z.words (take g.count redo) in
    let h₁ = and_right a (b && (c && (s && p))) h in
    let h₂ = and_right b (c && (s && p)) h₁ in
    let h₃ = and_right c (s && p) h₂ in
    record {
      first = ltb-true g.first z.slots (and_left a (b && (c && (s && p))) h);
      least = leb-true 1 g.count (and_left b (c && (s && p)) h₁);
      most = leb-true g.count max_writes (and_left c (s && p) h₂);
      stamp = stamp-in clock g.stamp (and_left s p h₃);
      pairs = and_right s p h₃;
    }

-- the same of a phase that is known to hold one
pub phase-in : (z : Sizes) (clock : ℕ) (redo : List Pair) (p : Phase) → is_logged p ≡ true → phase_ok z clock redo p ≡ true
    → LoggedIn z clock redo (logged_in p)
unfolding is_logged logged_in
phase-in z clock redo None k h = let e : ◌≡◌ {A = ℕ} 0 1 = cc in absurd (omega arith)
phase-in z clock redo (Some g) k h = logged-in z clock redo g h

pub record LaneIn (z : Sizes) (clock : ℕ) (l : Lane) : Type 0 where
  pub next : l.next < z.slots
  pub wrap : l.wrap ≤ 1
  pub floor : floor_ok clock l.floor ≡ true
  pub phase : phase_ok z clock l.redo l.phase ≡ true

pub lane-in : (z : Sizes) (clock : ℕ) (l : Lane) → lane_ok z clock l ≡ true → LaneIn z clock l
unfolding lane_ok
lane-in z clock l h =
    let a = ltb l.next z.slots in
    let b = leb l.wrap 1 in
    let c = floor_ok clock l.floor in
    let p = phase_ok z clock l.redo l.phase in
    let h₁ = and_right a (b && (c && p)) h in
    let h₂ = and_right b (c && p) h₁ in
    record {
      next = ltb-true l.next z.slots (and_left a (b && (c && p)) h);
      wrap = leb-true l.wrap 1 (and_left b (c && p) h₁);
      floor = and_left c p h₂;
      phase = and_right c p h₂;
    }

pub record RecordIn (z : Sizes) (r : Record) (ps : List ℕ) : Type 0 where
  pub clock : r.clock % 2 ≡ 0
  pub last : StampIn r.clock r.last
  pub lag : lag_ok r.lag ≡ true
  pub lanes : (L : ℕ) → L < z.lanes → L < length r.lanes → lane_ok z r.clock (lane_at r L) ≡ true
  pub lock : lock_ok z r ps r.lock ≡ true

pub record-in : (z : Sizes) (r : Record) (ps : List ℕ) → record_ok z r ps ≡ true → RecordIn z r ps
unfolding record_ok lane_at
record-in z r ps h =
    let a = eqb (r.clock % 2) 0 in
    let b = stamp_ok r.clock r.last in
    let c = lag_ok r.lag in
    let d = lanes_ok z r.clock (take z.lanes r.lanes) in
    let e = lock_ok z r ps r.lock in
    let h₁ = and_right a (b && (c && (d && e))) h in
    let h₂ = and_right b (c && (d && e)) h₁ in
    let h₃ = and_right c (d && e) h₂ in
    record {
      clock = eqb-true (r.clock % 2) 0 (and_left a (b && (c && (d && e))) h);
      last = stamp-in r.clock r.last (and_left b (c && (d && e)) h₁);
      lag = and_left c (d && e) h₂;
      lanes = λ L u k. every-at (lane_ok z r.clock) r.lanes L z.lanes no_lane
          (sym (lanes-every z r.clock (take z.lanes r.lanes)) ∙ and_left d e h₃) u k;
      lock = and_right d e h₃;
    }

-- the test of a lock that is known to be held
pub lock-held : (z : Sizes) (r : Record) (ps : List ℕ) (l : Lock) (k : Locked) → l ≡ Some k → held_ok z r ps k ≡ lock_ok z r ps l
unfolding lock_ok
lock-held z r ps l k e = rw e

-- what it says then
pub record HeldIn (z : Sizes) (clock : ℕ) (ps : List ℕ) (k : Locked) : Type 0 where
  pub lane : k.lane < z.lanes
  pub stamp : StampIn clock k.stamp
  pub most : k.count ≤ max_long
  pub pairs : pairs_ok z.words (pairs_from ps 0 k.count) ≡ true
  pub left : k.written < k.count

pub held_in : (z : Sizes) (r : Record) (ps : List ℕ) (l : Lock) → is_held l ≡ true → lock_ok z r ps l ≡ true → HeldIn z r.clock ps (locked_in l)
unfolding is_held locked_in lock_ok held_ok
held_in z r ps None t h = clash false t refl
held_in z r ps (Some k) t h =
    let h₁ = and_right (ltb k.lane z.lanes) _ h in
    let h₂ = and_right (not (is_logged (lane_at r k.lane).phase)) _ h₁ in
    let h₃ = and_right (stamp_ok r.clock k.stamp) _ h₂ in
    let h₄ = and_right (leb k.count max_long) _ h₃ in
    let h₅ = and_right (pairs_ok z.words (pairs_from ps 0 k.count)) _ h₄ in
    let h₆ = and_right (eqb (k.written % max_writes) 0) _ h₅ in
    record {
      lane = ltb-true k.lane z.lanes (and_left _ _ h);
      stamp = stamp-in r.clock k.stamp (and_left _ _ h₂);
      most = leb-true k.count max_long (and_left _ _ h₃);
      pairs = and_left _ _ h₄;
      left = ltb-true k.written k.count (and_left _ _ h₆);
    }

-- a part ends at the count at most, and is of sixteen writes at most
pub part-most : (k : Locked) → k.written < k.count → k.written + part_length k ≤ k.count
unfolding part_length
part-most k h = omega arith

pub part-few : (k : Locked) → part_length k ≤ max_writes
unfolding part_length
part-few k = omega arith

-- a clock that is not spent has room for a new timestamp, clock + 2
pub clock-next : (r : Record) → spent r ≡ false → r.clock + 2 < 2 ^ 64
unfolding spent
clock-next r h = omega (arith, leb-false (2 ^ 64 - 2) r.clock h)

-- and, where it is even, for its wrap bit
pub clock-room : (r : Record) → spent r ≡ false → r.clock % 2 ≡ 0 → r.clock + 3 < 2 ^ 64
unfolding spent
clock-room r h e = omega (arith, leb-false (2 ^ 64 - 2) r.clock h)

-- ---- a lane after an update
-- of two updates of a lane the second stays
pub lane-twice : (r : Record) (L : ℕ) (a b : Lane) → with_lane (with_lane r L a) L b ≡ with_lane r L b
unfolding with_lane
lane-twice r L a b = ap (λ (ls : List Lane). record { clock = r.clock; last = r.last; lanes = ls; lag = r.lag; lock = r.lock }) (set-set r.lanes L a b)

pub clock-lane : (r : Record) (clock L : ℕ) (l : Lane) → with_clock (with_lane r L l) clock ≡ with_lane (with_clock r clock) L l
unfolding with_clock with_lane
clock-lane r clock L l = refl

-- ---- the lower bound
pub lesser-none : (a : Option ℕ) → lesser a None ≡ a
unfolding lesser
lesser-none None = refl
lesser-none (Some a) = refl

pub lesser-assoc : (a b c : Option ℕ) → lesser (lesser a b) c ≡ lesser a (lesser b c)
unfolding lesser
lesser-assoc None b c = refl
lesser-assoc (Some a) None c = refl
lesser-assoc (Some a) (Some b) None = refl
lesser-assoc (Some a) (Some b) (Some c) = ap Some (let e : min (min a b) c ≡ min a (min b c) = omega arith in e)

-- ---- the lag limit
-- a difference above the limit, where there is one
pub lag-above : (lag s f : ℕ) → f < s → ltb lag (s - f) ≡ lag_passed lag s (Some f)
unfolding lag_passed
lag-above lag s f h =
    split (ltb (f + lag) s) (λ e. lt-ltb lag (s - f) (omega (arith, ltb-true (f + lag) s e)) ∙ sym e)
    (λ e. le-ltb lag (s - f) (omega (arith, ltb-false (f + lag) s e)) ∙ sym e)

-- a bound that is not below the timestamp is not in its way
pub lag-below : (lag s f : ℕ) → s ≤ f → ltb f s ≡ lag_passed lag s (Some f)
unfolding lag_passed
lag-below lag s f h = le-ltb f s h ∙ sym (le-ltb (f + lag) s (omega arith))

-- ---- the redo log
-- the first pairs of a longer redo log
pub pairs-cut : (n m : ℕ) (ws : List Write) → n ≤ m → take n (pairs_of m ws) ≡ pairs_of n ws
unfolding pairs_of
pairs-cut zero m ws h = refl
pairs-cut (suc n) zero ws h = absurd (omega arith)
pairs-cut (suc n) (suc m) [] h = ap (λ (l : List Pair). no_pair ∷ l) (pairs-cut n m [] (le_of_suc-le-suc h))
pairs-cut (suc n) (suc m) (w ∷ ws) h =
    ap (λ (l : List Pair). record { word = w.word; value = w.new } ∷ l) (pairs-cut n m ws (le_of_suc-le-suc h))
