-- Inner: how the code goes, need not be believed. Laws of fields read where they stand in the record's words, and of the lower bound. Assumes nothing.
use Rattle.std.specs.Prelude.{ℕ, zero, suc, ◌+◌, ◌-◌, ◌*◌, ◌≤◌, ◌<◌, ◌≡◌, refl, List, eqb, length, get_or, take, drop, Option}
use Rattle.std.proofs.Common.{sym, ◌∙◌, ap, arith, mul-suc, le_of_suc-le-suc, length-drop, drop-drop, get_or-set_same, get_or-set_other, eqb-true}
use Rattle.std.proofs.lemmas.Bool.{eqb-false}
use Rattle.laws.specs.inner.Tests.{split}
use Rattle.txn.specs.Txn.{max_writes}
use Rattle.image.specs.Image.{max_lanes}
use Rattle.record.specs.Record.{no_lane, lane_at, cursor_of, lesser, least_floor, with_lane}
use Rattle.record.specs.declared.Pair.{Pair}
use Rattle.record.specs.declared.Lane.{Lane}
use Rattle.record.specs.declared.Record.{Record}
use Rattle.codec.specs.Fields.{head_length, lane_length, lanes_end, record_length}
use Rattle.codec.specs.Fields.{row_of, phase_of, floor_of, pair_of, lane_of, lock_of, record_of}
use Rattle.codec.specs.inner.FieldsLaws.{tail-is}
use Rattle.codec.specs.inner.InPlace.{floor_with}
use Rattle.record.specs.Record.{Lock}
use Rattle.record.specs.Record.{Phase}

-- ---- a lane's words
pub row_at : {A : Type 0} (size : ℕ) (of : List ℕ → A) (n : ℕ) (ws : List ℕ) (i : ℕ) (d : A) → i < n → get_or (row_of size of n ws) i d ≡ of (drop (size * i) ws)
unfolding row_of
row_at size of zero ws i d h = absurd (omega arith)
row_at size of (suc n) ws zero d h = let e : size * 0 ≡ 0 = omega arith in rw e
row_at size of (suc n) ws (suc i) d h =
    row_at size of n (drop size ws) i d (le_of_suc-le-suc h)
    ∙ ap of (drop-drop (size * i) size ws ∙ ap (λ k. drop k ws) (let e : size + size * i ≡ size * suc i = omega (arith, mul-suc size i) in e))

pub row-all : {A : Type 0} (size : ℕ) (of : List ℕ → A) (n : ℕ) (ws : List ℕ) → length (row_of size of n ws) ≡ n
unfolding row_of
row-all size of zero ws = refl
row-all size of (suc n) ws = ap suc (row-all size of n (drop size ws))

-- a record read from words has its eight lanes
pub lanes-read : (ws : List ℕ) → length (record_of ws).lanes ≡ max_lanes
unfolding record_of
lanes-read ws = row-all lane_length lane_of max_lanes (drop 2 ws)

-- the lane whose words begin at `at`
pub lane-there : (ws : List ℕ) (l at : ℕ) → l < max_lanes → at ≡ 2 + lane_length * l
    → lane_of (take (length ws - at) (drop at ws)) ≡ lane_at (record_of ws) l
unfolding lane_at record_of
lane-there ws l at h e =
    rw e
    (ap lane_of (tail-is (2 + lane_length * l) ws ∙ sym (drop-drop (lane_length * l) 2 ws))
    ∙ sym (row_at lane_length lane_of max_lanes (drop 2 ws) l no_lane h))

-- its words are all there
pub lane-left : (ws : List ℕ) (l at : ℕ) → l < max_lanes → length ws ≡ record_length → at ≡ 2 + lane_length * l
    → lane_length ≤ length (take (length ws - at) (drop at ws))
lane-left ws l at h n e = rw (tail-is at ws) (omega (arith, length-drop at ws, n))

-- ---- fields, each from a part of the slice or from the lane's words
pub lock-there : (ws : List ℕ) (k : Lock) → k ≡ lock_of (take (length ws - (lanes_end + 1)) (drop (lanes_end + 1) ws)) → k ≡ (record_of ws).lock
unfolding record_of
lock-there ws k e = e ∙ ap lock_of (tail-is (lanes_end + 1) ws)

pub floor-there : (ws : List ℕ) (f : Option ℕ) (l : Lane) → f ≡ floor_of (take (length ws - 6) (drop 6 ws)) → lane_of ws ≡ l → f ≡ l.floor
unfolding lane_of
floor-there ws f l e n = e ∙ ap floor_of (tail-is 6 ws) ∙ ap (λ (m : Lane). m.floor) n

pub phase-there : (ws : List ℕ) (p : Phase) (l : Lane) → p ≡ phase_of ws → lane_of ws ≡ l → p ≡ l.phase
unfolding lane_of
phase-there ws p l e n = e ∙ ap (λ (m : Lane). m.phase) n

pub cursor-there : (ws : List ℕ) (l : Lane) → lane_of ws ≡ l → record { slot = get_or ws 4 0; wrap = get_or ws 5 0 } ≡ cursor_of l
unfolding lane_of cursor_of
cursor-there ws l n = ap (λ (m : Lane). cursor_of m) n

pub redo-there : (ws : List ℕ) (ps : List Pair) (l : Lane) → ps ≡ row_of 2 pair_of max_writes (take (length ws - head_length) (drop head_length ws))
    → lane_of ws ≡ l → ps ≡ l.redo
unfolding lane_of
redo-there ws ps l e n = e ∙ ap (row_of 2 pair_of max_writes) (tail-is head_length ws) ∙ ap (λ (m : Lane). m.redo) n

-- ---- the lower bound
-- the floors of the lanes, one of which is replaced
floor-with : (r : Record) (L i : ℕ) (l : Lane) → i < length r.lanes → floor_with r L l.floor i ≡ (get_or (with_lane r L l).lanes i no_lane).floor
unfolding floor_with lane_at with_lane
floor-with r L i l h =
    split (eqb i L) (λ e. rw (e, eqb-true i L e) (ap (λ (m : Lane). m.floor) (sym (get_or-set_same r.lanes L l no_lane (rw (eqb-true i L e) at h)))))
    (λ e. rw e (ap (λ (m : Lane). m.floor) (sym (get_or-set_other r.lanes L i l no_lane (λ p. eqb-false i L e p)))))

-- a floor more
pub least-with : (r : Record) (L i : ℕ) (l : Lane) (given least floor next : Option ℕ) → i < length r.lanes → l.floor ≡ given
    → least ≡ least_floor (take i (with_lane r L l).lanes) → floor ≡ floor_with r L given i → next ≡ lesser least floor
    → next ≡ lesser (least_floor (take i (with_lane r L l).lanes)) (get_or (with_lane r L l).lanes i no_lane).floor
least-with r L i l given least floor next h e a b n =
    n ∙ ap (λ (t : Option ℕ). lesser t floor) a
    ∙ ap (lesser (least_floor (take i (with_lane r L l).lanes))) (b ∙ ap (λ (t : Option ℕ). floor_with r L t i) (sym e) ∙ floor-with r L i l h)
