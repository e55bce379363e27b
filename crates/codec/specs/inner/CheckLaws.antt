-- Inner: how the code goes, need not be believed. Laws of the range check made on the record's words. Assumes nothing.
use Rattle.std.specs.Prelude.{ℕ, zero, suc, ◌+◌, ◌-◌, ◌*◌, ◌≤◌, ◌≡◌, refl, Bool, List, ◌∷◌, length, get_or, take, drop}
use Rattle.std.proofs.Common.{sym, ◌∙◌, ap, arith, le_of_suc-le-suc, get_or-drop}
use Rattle.txn.specs.Txn.{max_writes}
use Rattle.image.specs.declared.Sizes.{Sizes}
use Rattle.record.specs.Record.{no_lane, lane_at, pair_at, pairs_from, floor_ok, pairs_ok, lane_ok}
use Rattle.record.specs.declared.Pair.{Pair}
use Rattle.record.specs.declared.Lane.{Lane}
use Rattle.record.specs.declared.Record.{Record}
use Rattle.codec.specs.Fields.{head_length, row_of, floor_of, pair_of}
use Rattle.codec.specs.inner.FieldsLaws.{tail-is}

-- ---- the first pairs
pair-on : (ws : List ℕ) (i : ℕ) → pair_at (drop 2 ws) i ≡ pair_at ws (suc i)
unfolding pair_at
pair-on ws i =
    let e : 2 + 2 * i ≡ 2 * suc i = omega arith in
    let f : 2 + (2 * i + 1) ≡ 2 * suc i + 1 = omega arith in
    rw (get_or-drop 2 ws (2 * i) 0, get_or-drop 2 ws (2 * i + 1) 0, e, f)

pub pairs-on : (ws : List ℕ) (i n : ℕ) → pairs_from (drop 2 ws) i n ≡ pairs_from ws (suc i) n
unfolding pairs_from
pairs-on ws i zero = refl
pairs-on ws i (suc n) = rw (pair-on ws i, pairs-on ws (suc i) n)

pair-first : (ws : List ℕ) → pair_of ws ≡ pair_at ws 0
unfolding pair_of pair_at
pair-first ws = refl

pub pairs_first : (ws : List ℕ) (n count : ℕ) → count ≤ n → take count (row_of 2 pair_of n ws) ≡ pairs_from ws 0 count
unfolding row_of pairs_from
pairs_first ws n zero h = refl
pairs_first ws zero (suc count) h = absurd (omega arith)
pairs_first ws (suc n) (suc count) h =
    ap (λ (l : List Pair). pair_of ws ∷ l) (pairs_first (drop 2 ws) n count (le_of_suc-le-suc h) ∙ pairs-on ws 0 count)
    ∙ ap (λ (p : Pair). p ∷ pairs_from ws 1 count) (pair-first ws)

-- a lane's pairs below its count, from the part of the slice that they begin
pub pairs-part : (ws : List ℕ) (W count : ℕ) (b : Bool) → count ≤ max_writes
    → b ≡ pairs_ok W (pairs_from (take (length ws - head_length) (drop head_length ws)) 0 count)
    → b ≡ pairs_ok W (take count (row_of 2 pair_of max_writes (drop head_length ws)))
pairs-part ws W count b h e =
    e ∙ ap (λ (l : List ℕ). pairs_ok W (pairs_from l 0 count)) (tail-is head_length ws) ∙ ap (pairs_ok W) (sym (pairs_first (drop head_length ws) max_writes count h))

-- ---- a lane's floor, from the part of the slice that it begins
pub floor-part : (ws : List ℕ) (clock : ℕ) (b : Bool) → b ≡ floor_ok clock (floor_of (take (length ws - 6) (drop 6 ws))) → floor_ok clock (floor_of (drop 6 ws)) ≡ b
floor-part ws clock b e = ap (λ (l : List ℕ). floor_ok clock (floor_of l)) (sym (tail-is 6 ws)) ∙ sym e

-- ---- a lane of the record, tested on its own words
pub lane-tested : (z : Sizes) (clock : ℕ) (r : Record) (L : ℕ) (l : Lane) (b : Bool) → l ≡ lane_at r L → b ≡ lane_ok z clock l
    → lane_ok z clock (get_or r.lanes L no_lane) ≡ b
unfolding lane_at
lane-tested z clock r L l b e t = ap (lane_ok z clock) (sym e) ∙ sym t
