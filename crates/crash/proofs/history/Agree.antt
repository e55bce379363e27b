-- What record, cached image and history have in common while the store runs:
-- the book's part, which the calls alone keep, and what the logs must say. Assumes nothing.
use Rattle.std.specs.Prelude.{Option, Some, None}
use mathlib.Core.Path.{◌≡◌, refl, ap, ◌∙◌, sym}
use mathlib.Core.Logic.{◌≢◌}
use mathlib.Core.Bool.{Bool, true, false, ◌&&◌}
use mathlib.Core.List.{List, [], ◌∷◌}
use Prim.Native.Nat.{ℕ, suc, ◌+◌, ◌-◌, ◌≤◌, ◌<◌}
use native.Mathlib.Omega.{arith}
use native.Mathlib.Nat.{le_refl}
use lib.Dec.{eqb, ltb}
use lib.ListN.{length, get_or, take}
use borrow.Author.Tests.{ne_eqb, ltb-true, ltb-false, lt-ltb, le-ltb}
use Rattle.laws.specs.inner.Tests.{split, eqb_same}
use Rattle.laws.specs.inner.Lists.{All, none as nil, more}
use Rattle.slot.specs.declared.Content.TheVariants.{Entry}
use Rattle.txn.specs.Txn.{max_writes, max_long, current, former, txn_by, run}
use Rattle.txn.specs.inner.Writes.{no_write}
use Rattle.txn.specs.declared.Write.{Write}
use Rattle.image.specs.Image.{buffers_ok, log_of}
use Rattle.image.specs.declared.Sizes.{Sizes}
use Rattle.lane_log.specs.Log.{slot_at, latest_in}
use Rattle.lane_log.specs.Append.{circular}
use Rattle.lane_log.proofs.SearchLaws.{circular-low}
use Rattle.record.specs.Record.{lane_at, is_logged, logged_in, lock_length, is_held, stamp_ok, record_ok, pairs_of, words_of_pairs, Phase, Lock}
use Rattle.record.specs.declared.Locked.{Locked}
use Rattle.record.specs.declared.Logged.{Logged}
use Rattle.store.specs.Machine.{Machine}
use Rattle.store.specs.Calls.{entry_matches, entries_match}
use Rattle.crash.specs.History.{closing_at, newest_stamp, Commit, Holder, History, page_at, replay, words_below, present, written, visible}
use Rattle.crash.specs.History.{writes_logged, same_olds, is_above, commit_above}
use Rattle.crash.specs.Theorem.{lock_state, holder_state, Live}
use Rattle.crash.proofs.recovery.Data.{Rising, last, then}
use Rattle.crash.proofs.lane.Newest.{newest_of}

-- ---- commits
-- the timestamp of the last commit, `base` where there is none
unfoldable pub last_of : (base : ℕ) → List Commit → ℕ
last_of base [] = base
last_of base (c ∷ cs) = last_of c.stamp cs

-- ---- entries
-- the writes stand in a log as entries, from slot j on, with any wrap bits
pub data Entries (W N : ℕ) (log : List ℕ) : ℕ → List Write → Type 0 where
  no-entry : {j : ℕ} → Entries W N log j []
  entry : {j : ℕ} {w : Write} {ws : List Write} (p : ℕ) → slot_at W log j ≡ Entry w.word w.old p → Entries W N log (circular N (j + 1)) ws
      → Entries W N log j (w ∷ ws)

-- ---- the book's part
-- lane L holds the logged transaction g: the history holds its transaction, and the redo log has its writes
pub record Holding (z : Sizes) (base : ℕ) (h : History) (m : Machine) (L : ℕ) (g : Logged) : Type 0 where
  pub txn : List ℕ
  pub held : (page_at h L).held ≡ Some txn
  pub ok : txn_by former max_writes z.words txn ≡ true
  pub newest : (page_at h L).newest ≡ closing_at g.stamp
  pub above : base ≤ g.stamp
  pub upto : g.stamp ≤ h.clock
  -- its timestamp is no commit's
  pub apart : All (λ c. c.stamp ≢ g.stamp) h.commits
  pub count : g.count ≡ length (writes_logged z L h)
  pub redo : take g.count (lane_at m.state L).redo ≡ pairs_of g.count (writes_logged z L h)

-- the writes of a transaction on all commits: while the lock is held, those of the transaction that holds it
unfoldable pub all_writes : Sizes → List ℕ → History → List Write
all_writes z f h = run z.words f (present z h)

-- what the history says of a lock that record and transaction tell
unfoldable pub holder_of : Locked → List ℕ → Holder
holder_of k f = record { lane = k.lane; txn = f; stamp = k.stamp; left = k.count - k.written; ready = ltb k.written k.logged }

-- the lock is held, as k says: the history's holder is the same, the pairs are those of all its writes, and its timestamp is the clock, above all others
pub record Locking (z : Sizes) (base : ℕ) (h : History) (m : Machine) (k : Locked) : Type 0 where
  pub txn : List ℕ
  pub ok : txn_by current max_long z.words txn ≡ true
  pub holder : h.lock ≡ Some (holder_of k txn)
  pub clock : h.clock ≡ k.stamp
  pub low : base < k.stamp
  pub commits : All (λ c. c.stamp < k.stamp) h.commits
  pub others : (M s : ℕ) → M < z.lanes → M ≢ k.lane → newest_stamp (page_at h M).newest ≡ Some s → s < k.stamp
  -- of its own lane, until its first part is logged, and from then on
  pub mine : k.logged ≡ 0 → (s : ℕ) → newest_stamp (page_at h k.lane).newest ≡ Some s → s < k.stamp
  pub own : 0 < k.logged → (page_at h k.lane).newest ≡ closing_at k.stamp
  pub count : k.count ≡ length (all_writes z txn h)
  pub pairs : m.pairs ≡ words_of_pairs (pairs_of max_long (all_writes z txn h))

-- `base` is the clock at the start
pub record Book (z : Sizes) (base : ℕ) (h : History) (m : Machine) : Type 0 where
  -- causes 1 and 2 do not hold
  pub buffers : buffers_ok z (length m.cache) (length m.nvm) (length m.flags) ≡ true
  pub in_pairs : length m.pairs ≡ lock_length
  pub fields : record_ok z m.state m.pairs ≡ true
  pub lanes : z.lanes ≤ length m.state.lanes
  pub pages : length h.pages ≡ z.lanes
  pub live : Live z h m
  pub rising : Rising h.commits
  pub above : All (λ c. base < c.stamp) h.commits
  pub upto : All (λ c. c.stamp ≤ h.clock) h.commits
  pub low : base ≤ h.clock
  pub last : m.state.last ≡ last_of base h.commits
  pub stamps : (L s : ℕ) → L < z.lanes → newest_stamp (page_at h L).newest ≡ Some s → stamp_ok h.clock s ≡ true
  pub holding : (L : ℕ) (g : Logged) → L < z.lanes → (lane_at m.state L).phase ≡ Some g → Holding z base h m L g
  pub locking : (k : Locked) → m.state.lock ≡ Some k → Locking z base h m k

-- ---- what the cached logs must say
pub record Logs (z : Sizes) (h : History) (m : Machine) : Type 0 where
  -- a lane's latest sequence has the newest timestamp of its page, and is a mark where that is
  pub newest : (L : ℕ) → L < z.lanes → newest_of (latest_in z m.cache L) ≡ (page_at h L).newest
  -- a lane that holds a transaction has its entries in its log
  pub entries : (L : ℕ) (g : Logged) → L < z.lanes → (lane_at m.state L).phase ≡ Some g
      → Entries z.words z.slots (log_of z L m.cache) g.first (writes_logged z L h)

-- ---- phases
pub is-held : (p : Phase) → is_logged p ≡ true → p ≡ Some (logged_in p)
unfolding is_logged logged_in
is-held None e = absurd (let z : ◌≡◌ {A = ℕ} 0 1 = cc in omega arith)
is-held (Some g) e = refl

-- ---- the lock
-- a free one has no holder
pub no-holder : (l : Lock) (y : Option Holder) → lock_state l ≡ holder_state y → is_held l ≡ false → y ≡ None
unfolding lock_state holder_state is_held
no-holder None None e f = refl
no-holder None (Some k) e f = absurd (let z : ◌≡◌ {A = ℕ} 0 1 = cc in omega arith)
no-holder (Some k) y e f = absurd (let z : ◌≡◌ {A = ℕ} 0 1 = cc in omega arith)

pub not-locked : {A : Type 0} (l : Lock) (k : Locked) → is_held l ≡ false → l ≡ Some k → A
unfolding is_held
not-locked l k f e = absurd (let d = ap is_held e in let z : ◌≡◌ {A = ℕ} 0 1 = cc in omega arith)

-- then the words are those of the commits
pub visible-free : (z : Sizes) (h : History) → h.lock ≡ None → visible z h ≡ present z h
unfolding visible written
visible-free z h e = ap (λ (y : Option Holder). written z y (present z h)) e

-- what keeps it
module _ (z : Sizes) (base : ℕ) (h k : History) (m n : Machine) (start : k.start ≡ h.start) (clock : k.clock ≡ h.clock)
    (commits : k.commits ≡ h.commits) (lock : k.lock ≡ h.lock) (newest : (M : ℕ) → (page_at k M).newest ≡ (page_at h M).newest)
    (pairs : n.pairs ≡ m.pairs) where
  same-all : (f : List ℕ) → all_writes z f k ≡ all_writes z f h
  unfolding all_writes present words_below
  same-all f =
      ap (λ (cs : List Commit). run z.words f (replay z.words None cs k.start)) commits
      ∙ ap (λ (ws : List ℕ). run z.words f (replay z.words None h.commits ws)) start

  pub locking-kept : (x : Locked) → Locking z base h m x → Locking z base k n x
  locking-kept x v =
      record {
        txn = v.txn;
        ok = v.ok;
        holder = lock ∙ v.holder;
        clock = clock ∙ v.clock;
        low = v.low;
        commits = rw commits v.commits;
        others = λ M s i d e. v.others M s i d (ap newest_stamp (sym (newest M)) ∙ e);
        mine = λ q s e. v.mine q s (ap newest_stamp (sym (newest x.lane)) ∙ e);
        own = λ q. newest x.lane ∙ v.own q;
        count = v.count ∙ ap length (sym (same-all v.txn));
        pairs = pairs ∙ v.pairs ∙ ap (λ (ws : List Write). words_of_pairs (pairs_of max_long ws)) (sym (same-all v.txn));
      }

-- ---- stale
-- commits that rise from c on do not end below it
last_up : (b : ℕ) {cs : List Commit} → All (λ d. b < d.stamp) cs → Rising cs → b ≤ last_of b cs
unfolding last_of
last_up b nil last = le_refl b
last_up b (more {x = c} h hs) (then a r) = omega (arith, last_up c.stamp a r)

-- some commit is above a timestamp just where the last one is
pub above-last : (base s : ℕ) {cs : List Commit} → base ≤ s → Rising cs → commit_above (Some s) cs ≡ ltb s (last_of base cs)
unfolding commit_above is_above last_of
above-last base s h last = sym (le-ltb s base h)
above-last base s h (then {c = c} a r) =
    split (ltb s c.stamp)
    (λ e. rw e (sym (lt-ltb s _ (omega (arith, ltb-true s c.stamp e, last_up c.stamp a r)))))
    (λ e. rw e (above-last c.stamp s (ltb-false s c.stamp e) r))

-- ---- matching
swapped : (a b c : Bool) → (a && (b && c)) ≡ (b && (a && c))
swapped true b c = refl
swapped false true c = refl
swapped false false c = refl

-- entries that stand in the log match just the writes of the same words and old values
pub entries-match : (W N : ℕ) (log : List ℕ) {j : ℕ} {vs : List Write} → Entries W N log j vs → (ws : List Write)
    → (eqb (length ws) (length vs) && entries_match W N log j ws) ≡ same_olds ws vs
unfolding entries_match same_olds entry_matches
entries-match W N log no-entry [] = refl
entries-match W N log no-entry (w ∷ ws) = rw (ne_eqb (suc (length ws)) 0 (λ e. omega arith))
entries-match W N log (entry {ws = vs} p e es) [] = rw (ne_eqb 0 (suc (length vs)) (λ e. omega arith))
entries-match W N log (entry {j = j} {w = v} {ws = vs} p e es) (w ∷ ws) =
    rw (eqb_same (suc (length ws)) (suc (length vs)) (length ws) (length vs) (λ q. omega arith) (λ q. omega arith), e)
    (swapped (eqb (length ws) (length vs)) (eqb w.word v.word && eqb w.old v.old) (entries_match W N log (circular N (j + 1)) ws)
    ∙ ap (λ t. (eqb w.word v.word && eqb w.old v.old) && t) (entries-match W N log es ws))

-- the same by index: slot j + i, circularly, is the entry of write i
circular-near : (N k : ℕ) → k < N → circular N k ≡ k
unfolding circular
circular-near N k h = rw (lt-ltb k N h)

circular-high : (N k : ℕ) → circular N (N + k) ≡ k
unfolding circular
circular-high N k = rw (le-ltb (N + k) N (omega arith)) (omega arith)

circular-on : (N j i : ℕ) → j < N → i < N → circular N (circular N (j + 1) + i) ≡ circular N (j + suc i)
circular-on N j i h k =
    split (ltb (j + 1) N)
    (λ e. rw (circular-near N (j + 1) (ltb-true (j + 1) N e)) (ap (circular N) (let f : j + 1 + i ≡ j + suc i = omega arith in f)))
    (λ e.
    let d = ltb-false (j + 1) N e in
    let f : j + 1 ≡ N + 0 = omega arith in
    let g : j + suc i ≡ N + i = omega arith in
    let z : 0 + i ≡ i = omega arith in
    rw (f, g, circular-high N 0, circular-high N i, z) (circular-near N i k))

pub entries_from : (W N : ℕ) (log : List ℕ) (j : ℕ) (ws : List Write) → j < N → length ws ≤ N
    → ((i : ℕ) → i < length ws → (p : ℕ) × (slot_at W log (circular N (j + i)) ≡ Entry (get_or ws i no_write).word (get_or ws i no_write).old p))
    → Entries W N log j ws
entries_from W N log j [] h l f = no-entry
entries_from W N log j (w ∷ ws) h l f =
    let a = f 0 (let k : 0 < suc (length ws) = omega arith in k) in
    let z : j + 0 ≡ j = omega arith in
    entry a.0 (ap (slot_at W log) (sym (circular-near N j h)) ∙ ap (λ k. slot_at W log (circular N k)) (sym z) ∙ a.1)
    (entries_from W N log (circular N (j + 1)) ws (circular-low N (j + 1) (omega arith)) (omega arith)
    (λ i k.
    let b = f (suc i) (let q : suc i < suc (length ws) = omega arith in q) in
    (b.0, ap (slot_at W log) (circular-on N j i h (omega arith)) ∙ b.1)))
