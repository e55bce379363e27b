-- What ties a running store's logs, data words and history together: the part of the invariant that neither the logs nor the book keep alone. Assumes nothing.
use Rattle.std.specs.Prelude.{Some}
use mathlib.Core.Path.{◌≡◌}
use mathlib.Core.Logic.{◌≢◌, ◌⊎◌}
use mathlib.Core.Bool.{true, false}
use mathlib.Core.List.{List, ◌∷◌}
use Prim.Native.Nat.{ℕ, ◌+◌, ◌-◌, ◌/◌, ◌≤◌, ◌<◌}
use lib.ListN.{length, get_or, take}
use Rattle.laws.specs.inner.Lists.{All}
use Rattle.txn.specs.declared.Write.{Write}
use Rattle.image.specs.Image.{base_of}
use Rattle.image.specs.Flush.{flushed}
use Rattle.image.specs.declared.Sizes.{Sizes}
use Rattle.record.specs.Record.{lane_at}
use Rattle.record.specs.declared.Locked.{Locked}
use Rattle.record.specs.declared.Logged.{Logged}
use Rattle.store.specs.Machine.{Machine}
use Rattle.crash.specs.History.{Commit, History, page_at, replay, writes_logged, least_floor_of}
use Rattle.laws.specs.inner.Members.{In}
use Rattle.recovery.specs.inner.UndoneLaws.{first_old, writes}
use Rattle.crash.proofs.recovery.Data.{olds_of, txn_writes}
use Rattle.crash.proofs.lane.Seqs.{Seq}
use Rattle.crash.proofs.lane.Written.{RoomFor, newest_in}
use Rattle.crash.proofs.lane.Log.{Track}
use Rattle.crash.proofs.lane.Running.{Running}
use Rattle.crash.proofs.history.Agree.{all_writes, holder_of}
use Rattle.crash.proofs.history.Parts.{part_from}

-- no sequence of gs with g's timestamp that was appended before g names word w
abbrev pub NoneEarlier : List Seq → Seq → ℕ → Type 0
NoneEarlier gs g w = (f : Seq) → In f gs → f.stamp ≡ g.stamp → f.end < g.end → writes f.entries w ≡ false

-- sequence g among those of its lane: the first old value of each word that it names, and no earlier one with its timestamp, is the word below the timestamp
unfoldable pub TrueOf : (W : ℕ) → History → List Seq → Seq → Type 0
TrueOf W h gs g = (w : ℕ) → w < W → (x : ℕ) → NoneEarlier gs g w → writes g.entries w ≡ true
    → first_old g.entries w x ≡ get_or (replay W (Some g.stamp) h.commits h.start) w 0

-- a lane's newest sequence names word w, and no append has come since the lane's last drain
pub record Names (t : Track) (w : ℕ) : Type 0 where
  pub by : Seq
  pub rest : List Seq
  pub newest : t.gs ≡ by ∷ rest
  pub drained : length t.priors ≡ length t.gs
  pub named : writes by.entries w ≡ true

-- a lane has flushed data word w
pub record Flushes (z : Sizes) (m : Machine) (w : ℕ) : Type 0 where
  pub lane : ℕ
  pub low : lane < z.lanes
  pub bit : flushed lane (get_or m.flags (1 + w) 0) ≡ true

-- a sequence with timestamp s names word w
pub record NamedBy (z : Sizes) (ts : ℕ → Track) (s w : ℕ) : Type 0 where
  pub lane : ℕ
  pub low : lane < z.lanes
  pub by : Seq
  pub among : In by (ts lane).gs
  pub stamp : by.stamp ≡ s
  pub named : writes by.entries w ≡ true

-- each word that a commit writes is named with its timestamp
unfoldable pub Backed : Sizes → History → (ℕ → Track) → Commit → Type 0
Backed z h ts c = (w : ℕ) → w < z.words → txn_writes z.words w c.txn (replay z.words (Some c.stamp) h.commits h.start) ≡ true
    → NamedBy z ts c.stamp w

-- ---- a transaction that holds the lock
-- a sequence of gs that has timestamp s and names word w
pub record PartOf (gs : List Seq) (s w : ℕ) : Type 0 where
  pub by : Seq
  pub among : In by gs
  pub stamp : by.stamp ≡ s
  pub named : writes by.entries w ≡ true

-- the newest sequence has the entries of these writes
pub record Newly (gs : List Seq) (ws : List Write) : Type 0 where
  pub by : Seq
  pub rest : List Seq
  pub newest : gs ≡ by ∷ rest
  pub entries : by.entries ≡ olds_of ws

-- the slots that its parts still need which are not yet logged: one for each write, and a timestamp for each sixteen begun
unfoldable pub slots_left : Locked → ℕ
slots_left k = let n = k.count - k.logged in n + (n + 15) / 16

-- of the transaction with these writes and its lane's ghosts t, where so many slots are to come: each word of the parts that are logged is named by one of
-- them; by one that is drained, if its part is written; and a part that is not yet written is the newest sequence
pub record LockTies (N : ℕ) (t : Track) (coming : ℕ) (k : Locked) (ws : List Write) : Type 0 where
  pub logged : (w : ℕ) → writes (olds_of (take k.logged ws)) w ≡ true → PartOf t.gs k.stamp w
  pub written : (w : ℕ) → writes (olds_of (take k.written ws)) w ≡ true → (p : PartOf t.gs k.stamp w) × In p.by t.priors
  pub newest : k.written < k.logged → Newly t.gs (part_from k ws)
  pub slots : slots_left k ≤ coming
  pub few : coming ≤ N

pub record Ties (z : Sizes) (base : ℕ) (m : Machine) (h : History) : Type 0 where
  pub ts : ℕ → Track
  pub running : Running z m ts
  pub at_base : base_of m.cache ≡ base
  -- a lane's newest timestamp is its page's
  pub newest : (L : ℕ) → L < z.lanes → (page_at h L).newest ≡ newest_in (ts L).gs
  -- the newest sequence of a lane that holds a transaction has the entries of its writes
  pub entries : (L : ℕ) → L < z.lanes → (x : Logged) → (lane_at m.state L).phase ≡ Some x → (g : Seq) (gs : List Seq) → (ts L).gs ≡ g ∷ gs
      → g.entries ≡ olds_of (writes_logged z L h)
  -- every sequence is true, with its timestamp now and with that of the last drain
  pub now : (L : ℕ) → L < z.lanes → All (TrueOf z.words h (ts L).gs) (ts L).gs
  pub before : (L : ℕ) → L < z.lanes → All (TrueOf z.words h (ts L).priors) (ts L).priors
  -- a sequence that is just appended is no commit's
  pub open' : (L : ℕ) → L < z.lanes → (g : Seq) → (ts L).gs ≡ g ∷ (ts L).priors → All (λ c. c.stamp ≢ g.stamp) h.commits
  -- a data word is the same in non-volatile memory, or some lane has flushed it; a lane has flushed only words that its newest
  -- sequence names, which is a commit or a part that is written
  pub cells : (w : ℕ) → w < z.words → (get_or m.nvm (1 + w) 0 ≡ get_or m.cache (1 + w) 0) ⊎ Flushes z m w
  pub flags : (L : ℕ) → L < z.lanes → (w : ℕ) → w < z.words → flushed L (get_or m.flags (1 + w) 0) ≡ true → Names (ts L) w
  -- every commit is backed
  pub backed : (c : Commit) → In c h.commits → Backed z h ts c
  -- what is at or above the least floor stands whole, and will with the slots that each lane is sure to write
  pub to_come : ℕ → ℕ
  pub room : (L : ℕ) → L < z.lanes → (b : ℕ) → least_floor_of h.pages ≡ Some b → (g : Seq) → In g (ts L).gs → b ≤ g.stamp
      → RoomFor z.slots (to_come L) (ts L).hist g
  -- a lock that is held
  pub lock : (k : Locked) → m.state.lock ≡ Some k → (f : List ℕ) → h.lock ≡ Some (holder_of k f)
      → LockTies z.slots (ts k.lane) (to_come k.lane) k (all_writes z f h)
