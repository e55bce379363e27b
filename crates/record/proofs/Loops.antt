-- Laws for loops over a list's first elements, here and over the record's words: one element more, an element that fails. Assumes nothing.
use Rattle.std.specs.Prelude.{None}
use mathlib.Core.Path.{◌≡◌, refl, sym, ap, ◌∙◌}
use mathlib.Core.Bool.{true, false}
use mathlib.Core.List.{List, [], ◌∷◌}
use Prim.Native.Nat.{ℕ, zero, suc, ◌+◌, ◌*◌, ◌≤◌, ◌<◌}
use native.Mathlib.Nat.{le_of_suc-le-suc}
use native.Mathlib.Numerals.{add-one}
use native.Mathlib.Omega.{arith}
use lib.Dec.{ltb}
use lib.ListN.{length, get_or, set, take, replicate}
use lib.Seq.{take-nil}
use borrow.Author.Tests.{lt-ltb, le-ltb}
use Rattle.laws.specs.inner.Tests.{and_left, and_right, and_both}
use Rattle.txn.specs.inner.Writes.{no_write}
use Rattle.txn.specs.declared.Write.{Write}
use Rattle.image.specs.declared.Sizes.{Sizes}
use Rattle.record.specs.declared.Pair.{Pair}
use Rattle.record.specs.declared.Lane.{Lane}
use Rattle.record.specs.Record.{no_pair, no_lane, pair_at, pairs_from, pairs_ok, lane_ok, lanes_ok, lesser, least_floor, pairs_of}
use Rattle.record.specs.inner.Every.{and-false, every_more, every-fails}
use Rattle.record.specs.inner.RecordLaws.{lanes-every, lesser-none, lesser-assoc}

-- ---- the range check of pairs in words: a pair more, from pair j on; a pair that fails
long-past : (W : ℕ) (ps : List ℕ) (j i k : ℕ) → k ≡ j + i → pairs_ok W (pairs_from ps j i) ≡ true → get_or ps (2 * k) 0 < W
    → pairs_ok W (pairs_from ps j (suc i)) ≡ true
unfolding pairs_ok pairs_from pair_at
long-past W ps j zero k e h u = let e₁ : k ≡ j = omega arith in and_both (ltb (get_or ps (2 * j) 0) W) true (lt-ltb _ W (rw e₁ at u)) refl
long-past W ps j (suc i) k e h u =
    let t = ltb (get_or ps (2 * j) 0) W in
    and_both t (pairs_ok W (pairs_from ps (suc j) (suc i))) (and_left t (pairs_ok W (pairs_from ps (suc j) i)) h)
    (long-past W ps (suc j) i k (omega arith) (and_right t (pairs_ok W (pairs_from ps (suc j) i)) h) u)

long-late : (W : ℕ) (ps : List ℕ) (j i k n : ℕ) → k ≡ j + i → i < n → W ≤ get_or ps (2 * k) 0 → pairs_ok W (pairs_from ps j n) ≡ false
unfolding pairs_ok pairs_from pair_at
long-late W ps j i k zero e h u = absurd (omega arith)
long-late W ps j zero k (suc n) e h u = let e₁ : k ≡ j = omega arith in rw (le-ltb (get_or ps (2 * j) 0) W (rw e₁ at u))
long-late W ps j (suc i) k (suc n) e h u =
    and-false (ltb (get_or ps (2 * j) 0) W) (pairs_ok W (pairs_from ps (suc j) n)) (long-late W ps (suc j) i k n (omega arith) (le_of_suc-le-suc h) u)

pub long-none : (W : ℕ) (ps : List ℕ) → pairs_ok W (pairs_from ps 0 0) ≡ true
unfolding pairs_ok pairs_from
long-none W ps = refl

pub long-more : (W : ℕ) (ps : List ℕ) (i : ℕ) → pairs_ok W (pairs_from ps 0 i) ≡ true → get_or ps (2 * i) 0 < W → pairs_ok W (pairs_from ps 0 (i + 1)) ≡ true
long-more W ps i h u = rw add-one (long-past W ps 0 i i (omega arith) h u)

pub long-fail : (W : ℕ) (ps : List ℕ) (i n : ℕ) → i < n → W ≤ get_or ps (2 * i) 0 → pairs_ok W (pairs_from ps 0 n) ≡ false
long-fail W ps i n h u = long-late W ps 0 i i n (omega arith) h u

-- ---- of the lanes
pub lanes-none : (z : Sizes) (clock : ℕ) → lanes_ok z clock [] ≡ true
unfolding lanes_ok
lanes-none z clock = refl

pub lanes-more : (z : Sizes) (clock : ℕ) (lanes : List Lane) (i : ℕ) → lanes_ok z clock (take i lanes) ≡ true
    → lane_ok z clock (get_or lanes i no_lane) ≡ true → lanes_ok z clock (take (i + 1) lanes) ≡ true
lanes-more z clock lanes i h k =
    lanes-every z clock (take (i + 1) lanes)
    ∙ every_more (lane_ok z clock) lanes i no_lane (sym (lanes-every z clock (take i lanes)) ∙ h) k

pub lanes-fail : (z : Sizes) (clock : ℕ) (lanes : List Lane) (i n : ℕ) → i < n → i < length lanes
    → lane_ok z clock (get_or lanes i no_lane) ≡ false → lanes_ok z clock (take n lanes) ≡ false
lanes-fail z clock lanes i n h b k = lanes-every z clock (take n lanes) ∙ every-fails (lane_ok z clock) lanes i n no_lane h b k

-- ---- the lower bound
pub least-empty : least_floor [] ≡ None
unfolding least_floor
least-empty = refl

past : (lanes : List Lane) (i : ℕ) → least_floor (take (suc i) lanes) ≡ lesser (least_floor (take i lanes)) (get_or lanes i no_lane).floor
unfolding least_floor lesser
past [] zero = refl
past [] (suc i) = refl
past (x ∷ l) zero = lesser-none x.floor
past (x ∷ l) (suc i) = ap (lesser x.floor) (past l i) ∙ sym (lesser-assoc x.floor (least_floor (take i l)) (get_or l i no_lane).floor)

pub least_more : (lanes : List Lane) (i : ℕ) → least_floor (take (i + 1) lanes) ≡ lesser (least_floor (take i lanes)) (get_or lanes i no_lane).floor
least_more lanes i = rw add-one (past lanes i)

-- ---- a redo log
pub redo-empty : (n : ℕ) → replicate n no_pair ≡ pairs_of n []
unfolding pairs_of
redo-empty zero = refl
redo-empty (suc n) = ap (λ (l : List Pair). no_pair ∷ l) (redo-empty n)

past_end : (n i : ℕ) → set (pairs_of n []) i no_pair ≡ pairs_of n []
unfolding pairs_of
past_end zero i = refl
past_end (suc n) zero = refl
past_end (suc n) (suc i) = ap (λ (l : List Pair). no_pair ∷ l) (past_end n i)

put : (n : ℕ) (ws : List Write) (i : ℕ)
    → set (pairs_of n (take i ws)) i (record { word = (get_or ws i no_write).word; value = (get_or ws i no_write).new }) ≡ pairs_of n (take (suc i) ws)
unfolding pairs_of
put n [] i = ap (λ (l : List Write). set (pairs_of n l) i no_pair) (take-nil i) ∙ past_end n i
put zero (w ∷ ws) i = refl
put (suc n) (w ∷ ws) zero = refl
put (suc n) (w ∷ ws) (suc i) = ap (λ (l : List Pair). record { word = w.word; value = w.new } ∷ l) (put n ws i)

pub redo-more : (n : ℕ) (ws : List Write) (i : ℕ)
    → set (pairs_of n (take i ws)) i (record { word = (get_or ws i no_write).word; value = (get_or ws i no_write).new }) ≡ pairs_of n (take (i + 1) ws)
redo-more n ws i = rw add-one (put n ws i)
