-- Inner: how the code goes, need not be believed. Laws of calls on record and pairs in words: what a taken and a refused step leave there, and how long
-- the words are. Assumes nothing.
use Rattle.std.specs.Prelude.{ℕ, ◌≤◌, ◌≡◌, true, false, List, ◌++◌, eqb, length, take, Option}
use Rattle.std.proofs.Common.{◌∙◌, ap, arith, length-take, length-drop, eq-eqb, ne_eqb}
use Rattle.image.specs.declared.Sizes.{Sizes}
use Rattle.lane_log.specs.Log.{latest_in}
use Rattle.lane_log.specs.declared.Cursor.{Cursor}
use Rattle.record.specs.Record.{lock_length, lane_at, cursor_of, floor_after_drain, with_lane, drained_lane}
use Rattle.record.specs.declared.Record.{Record}
use Rattle.codec.specs.Fields.{record_length, state_length, pairs_in, words_of}
use Rattle.codec.specs.inner.InPlace.{headed}
use Rattle.store.specs.Answers.{Answer}
use Rattle.store.specs.Answers.{Refused}
use Rattle.store.specs.Machine.{Step, unless, said}
use Rattle.store.specs.Interface.{machine_of, machine_in, where_taken, kept_by, keeps}
use Rattle.store.specs.inner.Checked.{drained_state}
use Rattle.record.specs.Record.{Phase}
use Rattle.lane_log.specs.declared.Sequence.{Sequence}

-- ---- steps
keeps-new : (before : List ℕ) (answer : Answer) (r : Record) (pairs cache nvm flags : List ℕ) → (said answer).number ≡ 0
    → kept_by answer (words_of r ++ pairs) cache nvm flags ≡ keeps before (record { answer = answer; machine = machine_of r pairs cache nvm flags })
unfolding keeps where_taken
keeps-new before answer r pairs cache nvm flags n = rw n

-- a taken step leaves the words of its machine
pub keeps-taken : (before : List ℕ) (answer : Answer) (r : Record) (ws pairs cache nvm flags : List ℕ) (s : Step)
    → record { answer = answer; machine = machine_of r pairs cache nvm flags } ≡ s → (said answer).number ≡ 0 → ws ≡ words_of r
    → kept_by answer (ws ++ pairs) cache nvm flags ≡ keeps before s
keeps-taken before answer r ws pairs cache nvm flags s e n w =
    ap (λ (l : List ℕ). kept_by answer (l ++ pairs) cache nvm flags) w ∙ keeps-new before answer r pairs cache nvm flags n ∙ ap (keeps before) e

-- a refused one leaves the words that it found
pub keeps-refused : (n : ℕ) (state cache nvm flags : List ℕ) (s : Step) → (n ≡ 0 → ⊥)
    → kept_by (Refused n) state cache nvm flags ≡ keeps state (unless n (machine_in state cache nvm flags) s)
unfolding keeps unless where_taken said
keeps-refused n state cache nvm flags s h = rw (ne_eqb n 0 h, ne_eqb n 0 h)

-- ---- lengths: that the words are as many as they should be is what refusal 1 asks of the pairs
pub pairs-long : (state : List ℕ) → length (pairs_in state) ≡ lock_length → length state ≡ state_length
pairs-long state e = omega (arith, e, length-drop record_length state)

pub state-fits : (state : List ℕ) → length state ≡ state_length → eqb (length (pairs_in state)) lock_length ≡ true
state-fits state e = eq-eqb (length (pairs_in state)) lock_length (omega (arith, e, length-drop record_length state))

pub state-short : (state : List ℕ) → (length state ≡ state_length → ⊥) → eqb (length (pairs_in state)) lock_length ≡ false
state-short state h = ne_eqb (length (pairs_in state)) lock_length (λ e. h (pairs-long state e))

pub record-long : (state : List ℕ) → length state ≡ state_length → length (take record_length state) ≡ record_length
record-long state e = omega (arith, e, length-take record_length state)

-- by the length of the pairs, which a call knows that is not refused 1
pub words-there : (state : List ℕ) → length (pairs_in state) ≡ lock_length → record_length ≤ length state
words-there state e = omega (arith, e, length-drop record_length state)

pub words_long : (state : List ℕ) → length (pairs_in state) ≡ lock_length → length (take record_length state) ≡ record_length
words_long state e = record-long state (pairs-long state e)

-- ---- the record after a drain, by what is read and stored of the lane's head
pub drained-head : (r : Record) (L : ℕ) (latest : Option Sequence) (phase : Phase) (cursor : Cursor) (old floor : Option ℕ) → phase ≡ (lane_at r L).phase
    → cursor ≡ cursor_of (lane_at r L) → old ≡ (lane_at r L).floor → floor ≡ floor_after_drain latest old
    → with_lane r L (headed phase cursor floor (lane_at r L)) ≡ with_lane r L (drained_lane latest (lane_at r L))
unfolding headed drained_lane cursor_of
drained-head r L latest phase cursor old floor a b c d = rw (d, c, a, b)

pub drained-words : (z : Sizes) (cache : List ℕ) (L : ℕ) (r : Record) (latest : Option Sequence) → latest ≡ latest_in z cache L
    → words_of (with_lane r L (drained_lane latest (lane_at r L))) ≡ words_of (drained_state z cache L r)
unfolding drained_state
drained-words z cache L r latest e = rw e
