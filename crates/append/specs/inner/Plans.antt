-- Inner: how the code goes, need not be believed. What Log and Mark find out before they act: refusals 8, 15 and 9, Log's other refusals, a plan.
-- Assumes nothing.
use Rattle.std.specs.Prelude.{ℕ, ◌+◌, ◌^◌, ◌≤◌, ◌<◌, ◌≡◌, List, [], ◌∷◌, Bool, true, cond, not, ◌&&◌, ◌||◌, leb, eqb, length, Option, None, Result, Ok, Err}
use Rattle.slot.specs.Slot.{max_entries}
use Rattle.txn.specs.Txn.{max_writes, txn_ok}
use Rattle.txn.specs.declared.Write.{Write}
use Rattle.image.specs.inner.Facts.{IsImage}
use Rattle.image.specs.declared.Sizes.{Sizes}
use Rattle.lane_log.specs.Log.{latest_in, complete_in, hits}
use Rattle.lane_log.specs.inner.AppendEntries.{Loggable, Within}
use Rattle.lane_log.specs.declared.Cursor.{Cursor}
use Rattle.record.specs.Record.{lane_at, spent, bound_of, lag_passed, cursor_of, drained_lane, appended_lane, with_lane, with_clock}
use Rattle.record.specs.declared.Record.{Record}
use Rattle.store.specs.Answers.{Answer}
use Rattle.store.specs.Answers.{Logged}
use Rattle.store.specs.Machine.{Machine, Step, Cause, first_cause}
use Rattle.store.specs.Calls.{bad_buffers, bad_record, bad_lane, already_logged, lock_held, writes_on, appended, logged}
use Rattle.store.specs.inner.Checked.{drained_state}
use Rattle.store.specs.Interface.{refusal_of}
use Rattle.store.specs.declared.Refusal.{Refusal}
use Rattle.record.specs.Record.{Phase}
use Rattle.lane_log.specs.declared.Sequence.{Sequence}

-- refusals 8, 15 and 9 of a call on record r that appends n slots to lane L, floors as after the lane's drain; the lag limit binds it or not
unfoldable pub room_refusal : Sizes → Record → (cache : List ℕ) → (L n : ℕ) → (binds : Bool) → ℕ
room_refusal z r cache L n binds =
    first_cause
    (record { number = 8; holds = spent r }
    ∷ record { number = 15; holds = binds && lag_passed r.lag (r.clock + 2) (bound_of z (drained_state z cache L r)) }
    ∷ record { number = 9; holds = hits z.slots (lane_at r L).next n (bound_of z (drained_state z cache L r)) (complete_in z cache L) }
    ∷ [])

-- cause 5 of Log: words that are no well-formed transaction
abbrev pub bad_words : Sizes → List ℕ → Cause
bad_words z f = record { number = 5; holds = not (eqb (length f) 0) && not (txn_ok max_writes z.words f) }

-- Log's refusals before it runs the transaction
unfoldable pub log_checks : Sizes → ℕ → List ℕ → Machine → ℕ
log_checks z L f m =
    first_cause
    (bad_buffers z m
    ∷ bad_record z m
    ∷ bad_lane z L
    ∷ bad_words z f
    ∷ already_logged L m
    ∷ lock_held m
    ∷ [])

-- those of an append of n entries that are left then: asked where it settles the lane or writes
unfoldable pub log_room : Sizes → Record → (cache : List ℕ) → (L : ℕ) → (settles : Bool) → (n : ℕ) → ℕ
log_room z r cache L settles n = cond (not settles && eqb n 0) 0 (room_refusal z r cache L (n + 1) true)

-- does Log take a timestamp: it is given no words, or it writes
unfoldable pub takes_stamp : Sizes → List ℕ → Machine → Bool
takes_stamp z f m = eqb (length f) 0 || leb 1 (length (writes_on z f m))

-- a plan: a refusal with this number, or the lane's latest sequence where there is none
abbrev pub Planned : Result (Option Sequence) Refusal → (refusal : ℕ) → Option Sequence → Type 0
Planned (Ok latest) refusal q = (refusal ≡ 0) × (latest ≡ q)
Planned (Err e) refusal q = refusal_of (Err e) ≡ refusal

-- what the search for a hit needs: n slots from lane L's next one on, and the lane's latest sequence
pub record Searchable (z : Sizes) (r : Record) (latest : Option Sequence) (cache : List ℕ) (L n : ℕ) : Type 0 where
  pub image : IsImage z cache
  pub lane_below : L < z.lanes
  pub found : latest ≡ latest_in z cache L
  pub next : (lane_at r L).next < z.slots
  pub least : 1 ≤ n
  pub most : n + max_entries ≤ z.slots

-- what an append of these writes to lane L's log at a cursor needs at timestamp s
pub record Appendable (z : Sizes) (c : Cursor) (cache flags : List ℕ) (L : ℕ) (w : List Write) (s : ℕ) : Type 0 where
  pub image : IsImage z cache
  pub same_flags : length flags ≡ length cache
  pub lane_below : L < z.lanes
  pub place : Within z.slots c
  pub room : s + 1 < 2 ^ 64
  pub writes : Loggable w

-- what Log or Mark on record r knows once it has drained the lane: its latest sequence, and that these writes may be appended
pub record AfterDrain (z : Sizes) (r : Record) (latest : Option Sequence) (cache flags : List ℕ) (L : ℕ) (w : List Write) : Type 0 where
  pub found : latest ≡ latest_in z cache L
  pub appendable : Appendable z (cursor_of (lane_at r L)) cache flags L w (r.clock + 2)

-- Log of these writes on a drained machine
unfoldable pub logged_step : Sizes → ℕ → List Write → Machine → Step
logged_step z L ws m = record { answer = Logged (record { count = length ws; stamp = (m.state).clock + 2 }); machine = logged z L ws m }

-- a mark on a drained machine, of Log of no words and of Mark, each with its answer
unfoldable pub marked_step : Sizes → ℕ → Answer → Machine → Step
marked_step z L answer m = record { answer = answer; machine = appended z L [] None (lane_at m.state L).redo m }

-- record r after an append at timestamp s that ended at a cursor and left lane L, whose latest sequence its drain found, with this phase
unfoldable pub appended_state : Record → (L : ℕ) → Option Sequence → (s : ℕ) → Cursor → Phase → Record
appended_state r L latest s end phase =
    with_lane (with_clock r s) L (appended_lane s end phase (lane_at r L).redo (drained_lane latest (lane_at r L)))
