-- A lane's newest timestamp as a reading of its log gives it: what it gives to the boundary, and what a drain makes of the floor. Assumes nothing.
use Rattle.std.specs.Prelude.{Option, Some, None}
use mathlib.Core.Path.{◌≡◌, refl}
use Prim.Native.Nat.{ℕ, zero, suc, ◌<◌}
use native.Mathlib.Omega.{arith}
use native.Mathlib.Nat.{zero-lt-suc}
use Rattle.lane_log.specs.Log.{given, contribution}
use Rattle.lane_log.specs.inner.LogLaws.{given-none, given-some}
use Rattle.record.specs.Record.{floor_after_drain}
use Rattle.crash.specs.History.{Newest, unset, closing_at, mark_at, floor_on_drain}
use Rattle.lane_log.specs.declared.Sequence.{Sequence}

-- that of a sequence of n entries stamped s
unfoldable pub newest_by : (n s : ℕ) → Newest
newest_by zero s = mark_at s
newest_by (suc n) s = closing_at s

unfoldable pub newest_of : Option Sequence → Newest
newest_of None = unset
newest_of (Some q) = newest_by q.count q.stamp

-- what it gives to the boundary
unfoldable pub giving : Newest → Option ℕ
giving unset = None
giving (closing_at s) = Some s
giving (mark_at s) = None

pub closing-by : (n s : ℕ) → 0 < n → newest_by n s ≡ closing_at s
unfolding newest_by
closing-by zero s h = absurd (omega arith)
closing-by (suc n) s h = refl

pub unset-nothing : (l : Option Sequence) → newest_of l ≡ unset → l ≡ None
unfolding newest_of newest_by
unset-nothing None e = refl
unset-nothing (Some q) e = absurd (by q.count e)
  where
    by : (n : ℕ) → newest_by n q.stamp ≡ unset → ⊥
    by zero e = let z : ◌≡◌ {A = ℕ} 0 1 = cc in omega arith
    by (suc n) e = let z : ◌≡◌ {A = ℕ} 0 1 = cc in omega arith

given_by : (n s : ℕ) → given n s ≡ giving (newest_by n s)
unfolding giving newest_by
given_by zero s = given-none 0 s refl
given_by (suc n) s = given-some (suc n) s (zero-lt-suc n)

pub contribution-is : (l : Option Sequence) → contribution l ≡ giving (newest_of l)
unfolding contribution giving newest_of
contribution-is None = refl
contribution-is (Some q) = given_by q.count q.stamp

-- a drain makes what it gives the floor, where there is a timestamp
pub floor-by : (n s : ℕ) (floor : Option ℕ) → floor_on_drain (newest_by n s) floor ≡ giving (newest_by n s)
unfolding floor_on_drain giving newest_by
floor-by zero s floor = refl
floor-by (suc n) s floor = refl

pub drained-floor : (q : Option Sequence) (floor : Option ℕ) → floor_after_drain q floor ≡ floor_on_drain (newest_of q) floor
unfolding floor_after_drain floor_on_drain newest_of
drained-floor None floor = refl
drained-floor (Some q) floor = rw (floor-by q.count q.stamp floor) (given_by q.count q.stamp)
