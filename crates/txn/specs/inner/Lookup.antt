-- Inner: how the code goes, need not be believed. Looking up a word among a run's writes so far: for each bucket of words the code holds the number of
-- writes up to the last one to it. Assumes nothing.
use Rattle.std.specs.Prelude.{◌≡◌, ℕ, ◌%◌, ◌<◌, ◌≤◌, List, length, take, slice_index}
use Rattle.txn.specs.declared.Write.{Write}
use Rattle.txn.specs.Txn.{applied}

-- how many buckets of words there are
abbrev pub buckets : ℕ
buckets = 64

-- to look up a word, the writes up to the last one to its bucket are enough
pub record Seen (ws : List ℕ) (writes : List Write) (last : List ℕ) : Type 0 where
  pub whole : length last ≡ buckets
  pub within : (w : ℕ) → slice_index last (w % buckets) ≤ length writes
  pub enough : (w : ℕ) → w < length ws → slice_index (applied (take (slice_index last (w % buckets)) writes) ws) w ≡ slice_index (applied writes ws) w
