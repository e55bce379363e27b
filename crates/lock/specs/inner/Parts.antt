-- Inner: how the code goes, need not be believed. What Lock finds out before it acts, a plan; a locked transaction's present part, and Continue from the
-- drain on. Assumes nothing.
use Rattle.std.specs.Prelude.{ℕ, zero, suc, ◌+◌, ◌-◌, ◌≤◌, ◌<◌, ◌≡◌, List, [], ◌∷◌, true, cond, eqb, ltb, length, get_or, set, Option, Some, None, Result, Ok, Err}
use Rattle.txn.specs.Txn.{max_long, current}
use Rattle.txn.specs.declared.Write.{Write}
use Rattle.image.specs.inner.Facts.{IsImage}
use Rattle.image.specs.declared.Sizes.{Sizes}
use Rattle.lane_log.specs.Log.{latest_in}
use Rattle.lane_log.specs.inner.AppendEntries.{Within}
use Rattle.lane_log.specs.declared.Cursor.{Cursor}
use Rattle.record.specs.Record.{lane_at, cursor_of, lock_length, pair_at, pairs_from, part_length, pairs_ok, with_lane, with_clock, with_lock, drained_lane, appended_lane}
use Rattle.record.specs.inner.RecordLaws.{HeldIn}
use Rattle.record.specs.declared.Locked.{Locked}
use Rattle.record.specs.declared.Pair.{Pair}
use Rattle.record.specs.declared.Record.{Record}
use Rattle.codec.specs.Fields.{record_in, pairs_in}
use Rattle.store.specs.Answers as answer
use Rattle.store.specs.declared.Refusal.{Refusal}
use Rattle.store.specs.Interface.{refusal_of}
use Rattle.store.specs.Machine.{Machine, Step, Cause, first_cause}
use Rattle.store.specs.Calls.{bad_buffers, bad_record, bad_lane, bad_txn, already_logged, lock_held}
use Rattle.store.specs.Locks.{slots_counted, part_logged, part_written}
use Rattle.lock.specs.declared.Plan.{Plan}
use Rattle.lane_log.specs.declared.Sequence.{Sequence}

-- ---- Lock
-- cause 12
abbrev pub too_many : Sizes → List ℕ → Cause
too_many z f = record { number = 12; holds = ltb (z.slots - 17) (slots_counted f) }

-- its refusals before it runs the transaction
unfoldable pub lock_checks : Sizes → ℕ → List ℕ → Machine → ℕ
lock_checks z L f m =
    first_cause
    (bad_buffers z m
    ∷ bad_record z m
    ∷ bad_lane z L
    ∷ bad_txn current max_long z f
    ∷ already_logged L m
    ∷ lock_held m
    ∷ too_many z f
    ∷ [])

-- a plan that is not refused: the transaction's writes and the lane's latest sequence
pub record Found (plan : Plan) (refusal : ℕ) (ws : List Write) (q : Option Sequence) : Type 0 where
  pub number : refusal ≡ 0
  pub writes : plan.writes ≡ ws
  pub latest : plan.latest ≡ q

-- a plan: a refusal with this number, or what is found where there is none
abbrev pub Planned : Result Plan Refusal → (refusal : ℕ) → List Write → Option Sequence → Type 0
Planned (Ok plan) refusal ws q = Found plan refusal ws q
Planned (Err e) refusal ws q = refusal_of (Err e) ≡ refusal

-- record r once lane L, whose latest sequence its drain found, has taken the lock at timestamp s for n writes
unfoldable pub taken_state : Record → (L : ℕ) → Option Sequence → (s n : ℕ) → Record
taken_state r L q s n =
    with_lock (with_clock (with_lane r L (drained_lane q (lane_at r L))) s) (Some (record { lane = L; stamp = s; count = n; logged = 0; written = 0 }))

-- ---- pairs
-- data words after pairs are written
unfoldable pub pairs_written : List Pair → List ℕ → List ℕ
pairs_written [] ws = ws
pairs_written (p ∷ ps) ws = pairs_written ps (set ws p.word p.value)

-- the value of a word after n pairs from pair j on, looking back over them
unfoldable pub value_before : (ps : List ℕ) (j n : ℕ) (ws : List ℕ) (word : ℕ) → ℕ
value_before ps j zero ws word = get_or ws word 0
value_before ps j (suc n) ws word = cond (eqb (pair_at ps (j + n)).word word) (pair_at ps (j + n)).value (value_before ps j n ws word)

-- the pairs of a locked transaction of which not all are written, to words below W
pub record PairsHeld (W : ℕ) (ps : List ℕ) (k : Locked) : Type 0 where
  pub most : k.count ≤ max_long
  pub pairs : pairs_ok W (pairs_from ps 0 k.count) ≡ true
  pub left : k.written < k.count

-- ---- Continue
-- the transaction whose present part is logged
unfoldable pub logged_held : Locked → Locked
logged_held k = record { lane = k.lane; stamp = k.stamp; count = k.count; logged = k.logged + part_length k; written = k.written }

-- record r after the present part is logged by an append that ended at a cursor; the lane's latest sequence was found by its drain
unfoldable pub logged_state : Record → Option Sequence → Locked → Cursor → Record
logged_state r q k end =
    let l = lane_at r k.lane in
    with_lane (with_lock r (Some (logged_held k))) k.lane (appended_lane k.stamp end None l.redo (drained_lane q l))

-- what Continue knows of the transaction that holds the lock, once it has drained the lane: the words are still those before the drain
pub record PartAt (z : Sizes) (state : List ℕ) (q : Option Sequence) (cache flags : List ℕ) (k : Locked) : Type 0 where
  pub image : IsImage z cache
  pub same_flags : length flags ≡ length cache
  pub in_pairs : length (pairs_in state) ≡ lock_length
  pub found : q ≡ latest_in z cache k.lane
  pub place : Within z.slots (cursor_of (lane_at (record_in state) k.lane))
  pub held : HeldIn z (record_in state).clock (pairs_in state) k

-- its two steps on a drained machine
unfoldable pub logged_step : Sizes → Locked → Machine → Step
logged_step z k m = record { answer = answer.Locked (record { left = k.count - k.written; stamp = k.stamp }); machine = part_logged z k m }

unfoldable pub written_step : Locked → Machine → Step
written_step k m =
    record { answer = answer.Locked (record { left = k.count - (k.written + part_length k); stamp = k.stamp }); machine = part_written k m }
