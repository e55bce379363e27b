-- Inner: how the code goes, need not be believed. Redo and Validate from the drain on, and what they know then: what the inner functions' contracts
-- compare. Assumes nothing.
use Rattle.std.specs.Prelude.{ℕ, ◌+◌, ◌^◌, ◌≤◌, ◌<◌, Bool, cond, not, ◌&&◌, List, [], ◌∷◌, ◌++◌, ◌≡◌, eqb, length, get_or, Option}
use Rattle.txn.specs.Txn.{max_writes}
use Rattle.txn.specs.declared.Write.{Write}
use Rattle.image.specs.Image.{log_start, log_of}
use Rattle.image.specs.inner.Facts.{IsImage}
use Rattle.image.specs.Stores.{Store}
use Rattle.image.specs.declared.Sizes.{Sizes}
use Rattle.lane_log.specs.Append.{circular, restamp_store}
use Rattle.record.specs.Record.{no_pair, lane_at, is_logged, logged_in, drained_lane, idle_lane, with_lane, with_clock, with_last, pairs_of, Phase}
use Rattle.record.specs.inner.RecordLaws.{LoggedIn}
use Rattle.record.specs.declared.Logged.{Logged}
use Rattle.record.specs.declared.Pair.{Pair}
use Rattle.record.specs.declared.Record.{Record}
use Rattle.store.specs.Answers.{Committed, Stale, Changed}
use Rattle.store.specs.Machine.{Machine, Step, first_cause}
use Rattle.store.specs.Calls.{is_stale, pair_stores, redo_pairs, committed, entries_match, matches, released}
use Rattle.lane_log.specs.declared.Sequence.{Sequence}

-- the number of the last three causes, 7, 11 and 8, of a lane of this phase
unfoldable pub commit_refusal : Phase → (held spent : Bool) → ℕ
commit_refusal phase held spent =
    first_cause
    (record { number = 7; holds = not (is_logged phase) }
    ∷ record { number = 11; holds = held }
    ∷ record { number = 8; holds = spent }
    ∷ [])

-- record r with lane L holding nothing, after its drain, which found this latest sequence
unfoldable pub released_state : ℕ → Option Sequence → Record → Record
released_state L latest r = with_lane r L (idle_lane (drained_lane latest (lane_at r L)))

-- and after a commit at timestamp s
unfoldable pub committed_state : ℕ → Option Sequence → (s : ℕ) → Record → Record
committed_state L latest s r = released_state L latest (with_last (with_clock r s) s)

-- the stores of a commit at timestamp s of what lane L has logged: the pairs, then the timestamp in the slot that closes the logged entries
unfoldable pub commit_words : Sizes → (L : ℕ) → Logged → (s : ℕ) → List Pair → (cache : List ℕ) → List Store
commit_words z L g s ps cache = pair_stores ps ++ (restamp_store (log_start z L) (circular z.slots (g.first + g.count)) s cache ∷ [])

-- are the writes those that lane L has logged
unfoldable pub matches_held : Sizes → (L : ℕ) → Logged → List Write → (cache : List ℕ) → Bool
matches_held z L g ws cache = eqb (length ws) g.count && entries_match z.words z.slots (log_of z L cache) g.first ws

-- each pair is of a word after the first of n words
abbrev pub PairsInside : (n : ℕ) → List Pair → Type 0
PairsInside n pairs = (i : ℕ) → i < length pairs → 1 + (get_or pairs i no_pair).word < n

-- what a commit at timestamp s of what lane L has logged needs of its buffers
pub record Restampable (z : Sizes) (cache flags : List ℕ) (L : ℕ) (g : Logged) (s : ℕ) : Type 0 where
  pub image : IsImage z cache
  pub same_flags : length flags ≡ length cache
  pub lane_below : L < z.lanes
  pub first : g.first < z.slots
  pub most : g.count ≤ max_writes
  pub room : s + 1 < 2 ^ 64

-- what a call knows of a drained lane that may commit; the record may be the one before the drain
pub record Committable (z : Sizes) (r : Record) (cache flags : List ℕ) (L : ℕ) : Type 0 where
  pub restampable : Restampable z cache flags L (logged_in (lane_at r L).phase) (r.clock + 2)
  pub logged : LoggedIn z r.clock (lane_at r L).redo (logged_in (lane_at r L).phase)

-- ---- the calls on a drained lane
unfoldable pub redo_drained : Sizes → ℕ → Machine → Step
redo_drained z L m =
    cond (is_stale L m)
    (record { answer = Stale; machine = m })
    (record { answer = Committed ((m.state).clock + 2); machine = committed z L (redo_pairs L m) m })

unfoldable pub validate_drained : Sizes → ℕ → List Write → Machine → Step
validate_drained z L ws m =
    cond (matches z L ws m)
    (record { answer = Committed ((m.state).clock + 2); machine = committed z L (pairs_of (length ws) ws) m })
    (record { answer = Changed; machine = released L m })
