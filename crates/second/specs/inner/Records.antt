-- Inner: how the code goes, need not be believed. The record of a start, a lane by its number, and a record whose lane is another one: what the functions
-- over them return. Assumes nothing.
use Rattle.std.specs.Prelude.{ℕ, cond, List, None, nat_le, replicate, slice_get, slice_set, unwrap_or}
use Rattle.second.specs.declared.records.Pair.{Pair}
use Rattle.second.specs.declared.records.Lane.{Lane}
use Rattle.second.specs.declared.records.Record.{Record}

abbrev pub no_pair : Pair
no_pair = record { word = 0; value = 0 }

-- a lane at a start
abbrev pub idle_lane : Lane
idle_lane = record { held = None; next = 0; wrap = 1; floor = None; pairs = replicate 16 no_pair }

unfoldable pub start_of : (lag base : ℕ) → Record
start_of lag base = record { clock = base; last = base; lag = lag; lanes = replicate 8 idle_lane; lock = None; lock_pairs = replicate 64 no_pair }

-- lane L, an idle one where there is none
abbrev pub lane_in : Record → (L : ℕ) → Lane
lane_in r L = unwrap_or (slice_get r.lanes L) idle_lane

-- the record with another lane L, itself where there is none
abbrev pub with_lane : Record → (L : ℕ) → Lane → Record
with_lane r L l = cond (nat_le 8 L) r (record r { lanes = slice_set r.lanes L l })

-- a lane's pairs with another pair i, themselves where there is none
abbrev pub with_pair : List Pair → (i : ℕ) → Pair → List Pair
with_pair ps i p = cond (nat_le 16 i) ps (slice_set ps i p)

-- with another pair i of the lock, itself where there is none
abbrev pub with_lock_pair : Record → (i : ℕ) → Pair → Record
with_lock_pair r i p = cond (nat_le 64 i) r (record r { lock_pairs = slice_set r.lock_pairs i p })
