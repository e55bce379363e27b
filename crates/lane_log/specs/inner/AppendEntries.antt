-- Inner: how the code goes, need not be believed. The entries of an append alone, and what an append asks of its writes, of its place and of the
-- buffers. Assumes nothing.
use Rattle.std.specs.Prelude.{ℕ, ◌+◌, ◌*◌, ◌≤◌, ◌<◌, List, [], ◌∷◌, length}
use Rattle.laws.specs.inner.Lists.{All}
use Rattle.slot.specs.Slot.{entry_of}
use Rattle.txn.specs.Txn.{max_writes}
use Rattle.txn.specs.declared.Write.{Write}
use Rattle.image.specs.Image.{max_words, max_lanes, max_slots}
use Rattle.image.specs.Stores.{Store}
use Rattle.lane_log.specs.declared.Cursor.{Cursor}
use Rattle.lane_log.specs.Append.{onward, slot_stores}

-- every write is to a word below W
abbrev pub WordsBelow : ℕ → List Write → Type 0
WordsBelow W ws = All (λ (w : Write). w.word < W) ws

-- a list of writes as a run hands it on, to words that an image may have
pub record Loggable (ws : List Write) : Type 0 where
  pub few : length ws ≤ max_writes
  pub low : WordsBelow max_words ws

-- a place of a log of N slots
pub record Within (N : ℕ) (c : Cursor) : Type 0 where
  pub slot : c.slot < N
  pub wrap : c.wrap ≤ 1

-- a log of N slots that starts at image word `start`, within the cache and the flag bytes, and a lane with a bit in these
pub record LogAt (start N L : ℕ) (cache flags : List ℕ) : Type 0 where
  pub slots-high : N ≤ max_slots
  pub in-cache : start + 2 * N ≤ length cache
  pub in-flags : start + 2 * N ≤ length flags
  pub lane-high : L < max_lanes

-- the stores of an entry for each write
unfoldable pub entry_stores : (start N : ℕ) → Cursor → List Write → List Store
entry_stores start N c [] = []
entry_stores start N c (w ∷ ws) = slot_stores start c.slot (entry_of w.word w.old c.wrap) (entry_stores start N (onward N c) ws)
