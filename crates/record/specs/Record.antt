-- The record: its start, the lock and its pairs, the range check, floors, the lower bound, the lag limit, updates. SPECIFICATION, "Record". Assumes nothing.
use Rattle.std.specs.Prelude.{ℕ, zero, suc, ◌+◌, ◌-◌, ◌*◌, ◌%◌, ◌^◌, min, Bool, true, false, not, ◌&&◌, ◌||◌, List, [], ◌∷◌, leb, ltb, eqb, get_or, set, take, replicate, Option, Some, None, is_some}
use Rattle.txn.specs.Txn.{max_writes, max_long}
use Rattle.txn.specs.declared.Write.{Write}
use Rattle.image.specs.Image.{max_lanes}
use Rattle.image.specs.declared.Sizes.{Sizes}
use Rattle.lane_log.specs.Log.{given}
use Rattle.lane_log.specs.declared.Cursor.{Cursor}
use Rattle.record.specs.declared.Pair.{Pair}
use Rattle.record.specs.declared.Logged.{Logged}
use Rattle.record.specs.declared.Lane.{Lane}
use Rattle.record.specs.declared.Locked.{Locked}
use Rattle.record.specs.declared.Record.{Record}
use Rattle.lane_log.specs.declared.Sequence.{Sequence}

-- ---- the start
abbrev pub no_pair : Pair
no_pair = record { word = 0; value = 0 }

-- a lane at a start: idle without floor, at slot 0 with wrap bit 1
unfoldable pub start_lane : Lane
start_lane = record { phase = None; next = 0; wrap = 1; floor = None; redo = replicate max_writes no_pair }

-- the record at a start, with this lag limit: clock and last commit are the base timestamp, and the lock is free
unfoldable pub start_record : (lag base : ℕ) → Record
start_record lag base = record { clock = base; last = base; lanes = replicate max_lanes start_lane; lag = lag; lock = None }

-- stands where a call takes or gives no record
abbrev pub blank_record : Record
blank_record = start_record 2 0

-- ---- lanes
-- what stands past the end of the lanes
abbrev pub no_lane : Lane
no_lane = record { phase = None; next = 0; wrap = 0; floor = None; redo = [] }

unfoldable pub lane_at : Record → ℕ → Lane
lane_at r L = get_or r.lanes L no_lane

unfoldable pub cursor_of : Lane → Cursor
cursor_of l = record { slot = l.next; wrap = l.wrap }

-- what a lane holds: a logged transaction, or none
abbrev pub Phase : Type 0
Phase = Option Logged

unfoldable pub is_logged : Phase → Bool
is_logged phase = is_some phase

-- the logged transaction of a phase, 0s where there is none
unfoldable pub logged_in : Phase → Logged
logged_in None = record { first = 0; count = 0; stamp = 0 }
logged_in (Some g) = g

-- ---- the lock. Its redo log stands beside the record, as words: a word number and a new value for each write of the transaction that holds it
-- how many words: 64 pairs
abbrev pub lock_length : ℕ
lock_length = 2 * max_long

-- at a start they are 0
abbrev pub no_pairs : List ℕ
no_pairs = replicate lock_length 0

-- pair i of such words, and n pairs from pair i on
unfoldable pub pair_at : List ℕ → ℕ → Pair
pair_at ps i = record { word = get_or ps (2 * i) 0; value = get_or ps (2 * i + 1) 0 }

unfoldable pub pairs_from : List ℕ → (i n : ℕ) → List Pair
pairs_from ps i zero = []
pairs_from ps i (suc n) = pair_at ps i ∷ pairs_from ps (suc i) n

-- the lock: free, or held by a transaction
abbrev pub Lock : Type 0
Lock = Option Locked

unfoldable pub is_held : Lock → Bool
is_held lock = is_some lock

-- the transaction that holds the lock, 0s where there is none
unfoldable pub locked_in : Lock → Locked
locked_in None = record { lane = 0; stamp = 0; count = 0; logged = 0; written = 0 }
locked_in (Some k) = k

-- how many writes its present part has: sixteen, the last part what is left
unfoldable pub part_length : Locked → ℕ
part_length k = min max_writes (k.count - k.written)

-- ---- the range check (refusal 2 is that it is false)
-- a timestamp of the record is even and not above the clock
unfoldable pub stamp_ok : (clock s : ℕ) → Bool
stamp_ok clock s = eqb (s % 2) 0 && leb s clock

unfoldable pub floor_ok : (clock : ℕ) → Option ℕ → Bool
floor_ok clock None = true
floor_ok clock (Some s) = stamp_ok clock s

unfoldable pub pairs_ok : (W : ℕ) → List Pair → Bool
pairs_ok W [] = true
pairs_ok W (p ∷ ps) = ltb p.word W && pairs_ok W ps

-- the pairs are looked at below the count alone
unfoldable pub phase_ok : Sizes → (clock : ℕ) → List Pair → Phase → Bool
phase_ok z clock redo None = true
phase_ok z clock redo (Some g) =
    ltb g.first z.slots && (leb 1 g.count && (leb g.count max_writes && (stamp_ok clock g.stamp && pairs_ok z.words (take g.count redo))))

unfoldable pub lane_ok : Sizes → (clock : ℕ) → Lane → Bool
lane_ok z clock l = ltb l.next z.slots && (leb l.wrap 1 && (floor_ok clock l.floor && phase_ok z clock l.redo l.phase))

unfoldable pub lanes_ok : Sizes → (clock : ℕ) → List Lane → Bool
lanes_ok z clock [] = true
lanes_ok z clock (l ∷ ls) = lane_ok z clock l && lanes_ok z clock ls

-- the greatest lag limit
abbrev pub max_lag : ℕ
max_lag = 2 ^ 32

-- a lag limit is even, and 2 to the greatest; else it is refusal 16 where a start is given it, and 2 in a record
unfoldable pub lag_ok : ℕ → Bool
lag_ok n = eqb (n % 2) 0 && (leb 2 n && leb n max_lag)

-- a lane in use that is idle; pairs looked at below the count alone; whole parts written, and not all; logged as many, or one part more
unfoldable pub held_ok : Sizes → Record → (pairs : List ℕ) → Locked → Bool
held_ok z r ps k =
    ltb k.lane z.lanes
    && (not (is_logged (lane_at r k.lane).phase)
    && (stamp_ok r.clock k.stamp
    && (leb k.count max_long
    && (pairs_ok z.words (pairs_from ps 0 k.count)
    && (eqb (k.written % max_writes) 0
    && (ltb k.written k.count
    && (eqb k.logged k.written || eqb k.logged (k.written + part_length k))))))))

-- under a free lock the pairs may hold anything
unfoldable pub lock_ok : Sizes → Record → (pairs : List ℕ) → Lock → Bool
lock_ok z r ps None = true
lock_ok z r ps (Some k) = held_ok z r ps k

-- the lanes that are not in use may hold anything
unfoldable pub record_ok : Sizes → Record → (pairs : List ℕ) → Bool
record_ok z r ps =
    eqb (r.clock % 2) 0 && (stamp_ok r.clock r.last && (lag_ok r.lag && (lanes_ok z r.clock (take z.lanes r.lanes) && lock_ok z r ps r.lock)))

-- the clock can give no new timestamp
unfoldable pub spent : Record → Bool
spent r = leb (2 ^ 64 - 2) r.clock

-- ---- floors
unfoldable pub lesser : Option ℕ → Option ℕ → Option ℕ
lesser None b = b
lesser (Some a) None = Some a
lesser (Some a) (Some b) = Some (min a b)

unfoldable pub least_floor : List Lane → Option ℕ
least_floor [] = None
least_floor (l ∷ ls) = lesser l.floor (least_floor ls)

-- the lower bound: the least floor of the lanes in use
unfoldable pub bound_of : Sizes → Record → Option ℕ
bound_of z r = least_floor (take z.lanes r.lanes)

-- is timestamp s more than the lag limit above a bound, in whole numbers; never where there is none, nor where it is above s
unfoldable pub lag_passed : (lag s : ℕ) → Option ℕ → Bool
lag_passed lag s None = false
lag_passed lag s (Some f) = ltb (f + lag) s

-- a lane's floor after a drain: what its latest sequence gives, if it has one; so a drained mark ends it
unfoldable pub floor_after_drain : Option Sequence → Option ℕ → Option ℕ
floor_after_drain None floor = floor
floor_after_drain (Some q) floor = given q.count q.stamp

-- after an append stamped s, a mark's too: it sets a floor where there is none
unfoldable pub floor_after_append : ℕ → Option ℕ → Option ℕ
floor_after_append s None = Some s
floor_after_append s (Some f) = Some f

-- ---- updates
unfoldable pub with_lane : Record → ℕ → Lane → Record
with_lane r L l = record { clock = r.clock; last = r.last; lanes = set r.lanes L l; lag = r.lag; lock = r.lock }

unfoldable pub with_clock : Record → ℕ → Record
with_clock r clock = record { clock = clock; last = r.last; lanes = r.lanes; lag = r.lag; lock = r.lock }

unfoldable pub with_last : Record → ℕ → Record
with_last r last = record { clock = r.clock; last = last; lanes = r.lanes; lag = r.lag; lock = r.lock }

unfoldable pub with_lock : Record → Lock → Record
with_lock r lock = record { clock = r.clock; last = r.last; lanes = r.lanes; lag = r.lag; lock = lock }

-- a lane after a drain that found this latest sequence
unfoldable pub drained_lane : Option Sequence → Lane → Lane
drained_lane q l = record { phase = l.phase; next = l.next; wrap = l.wrap; floor = floor_after_drain q l.floor; redo = l.redo }

-- a lane after an append stamped s that ended at a cursor
unfoldable pub appended_lane : ℕ → Cursor → Phase → List Pair → Lane → Lane
appended_lane s c phase redo l = record { phase = phase; next = c.slot; wrap = c.wrap; floor = floor_after_append s l.floor; redo = redo }

unfoldable pub idle_lane : Lane → Lane
idle_lane l = record { phase = None; next = l.next; wrap = l.wrap; floor = l.floor; redo = l.redo }

-- the redo log of a list of writes: n pairs, 0 where there are no more
unfoldable pub pairs_of : (n : ℕ) → List Write → List Pair
pairs_of zero ws = []
pairs_of (suc n) [] = no_pair ∷ pairs_of n []
pairs_of (suc n) (w ∷ ws) = record { word = w.word; value = w.new } ∷ pairs_of n ws

-- pairs as words
unfoldable pub words_of_pairs : List Pair → List ℕ
words_of_pairs [] = []
words_of_pairs (p ∷ ps) = p.word ∷ p.value ∷ words_of_pairs ps
