-- Sizes, lengths and the end of the image, and the base timestamp, the same in cache and non-volatile memory: kept by every call and every change of
-- memory. Assumes nothing.
use Rattle.std.specs.Prelude.{Some}
use mathlib.Core.Path.{◌≡◌, ◌∙◌, sym}
use mathlib.Core.List.{List}
use Prim.Native.Nat.{ℕ, ◌+◌, ◌%◌, ◌≤◌, ◌<◌}
use native.Mathlib.Omega.{arith}
use native.Mathlib.Nat.{le_trans}
use lib.Dec.{eqb}
use lib.ListN.{length, get_or}
use Rattle.laws.specs.inner.Tests.{split}
use Rattle.laws.specs.inner.Lists.{All, none, more, All-append, All-map}
use Rattle.txn.specs.declared.Write.{Write}
use Rattle.image.specs.Image.{former_length, base_of, log_start}
use Rattle.image.specs.inner.ImageLaws.{InRange, image-filled, log-fits}
use Rattle.image.specs.Flush.{flushed, written_back, drained_nvm}
use Rattle.image.specs.inner.FlushLaws.{length-flush_all, length-written_back, get_or-written_back, length-drained_nvm, get_or-drained_nvm, length-drained_flags}
use Rattle.image.specs.Stores.{Store, places}
use Rattle.image.specs.inner.StoresLaws.{length-stored}
use Rattle.image.specs.declared.Sizes.{Sizes}
use Rattle.lane_log.specs.Append.{append_stores, circular, restamp_store}
use Rattle.record.specs.Record.{lane_at, cursor_of, logged_in, with_lane, with_clock, with_last}
use Rattle.record.specs.declared.Pair.{Pair}
use Rattle.record.specs.declared.Logged.{Logged}
use Rattle.record.specs.declared.Record.{Record}
use Rattle.store.specs.Machine.{Machine}
use Rattle.store.specs.Calls.{drained, changed, pair_stores, commit_stores, committed, released}
use Rattle.crash.specs.Theorem.{end_of}
use Rattle.crash.proofs.history.Lanes.{lane-drained, lane-committed, lane-released}
use Rattle.crash.proofs.lane.Regions.{inside-late, stored-base}
use Rattle.crash.proofs.lane.Append.{append-inside}
use Rattle.crash.proofs.lane.Ends.{Tailed, tail-nvm, tail-drained, tail-changed, end-written}

pub record Shape (z : Sizes) (m : Machine) : Type 0 where
  pub sizes : InRange z
  pub in-cache : former_length z ≤ length m.cache
  pub in-nvm : former_length z ≤ length m.nvm
  pub in-flags : former_length z ≤ length m.flags
  pub tail : Tailed z m
  pub lanes : z.lanes ≤ length m.state.lanes
  -- the clock is even, and so is the base, which is not above it
  pub clock : m.state.clock % 2 ≡ 0
  pub even : base_of m.cache % 2 ≡ 0
  pub low : base_of m.cache ≤ m.state.clock
  pub base : base_of m.nvm ≡ base_of m.cache

-- the machine with another non-volatile memory
abbrev pub with_nvm : Machine → List ℕ → Machine
with_nvm m nvm = record { state = m.state; pairs = m.pairs; cache = m.cache; nvm = nvm; flags = m.flags }

-- ---- where the stores of a commit go
pub pairs-data : (W : ℕ) {ps : List Pair} → All (λ p. p.word < W) ps → All (λ x. (1 ≤ x.at) × (x.at < 1 + W)) (pair_stores ps)
unfolding pair_stores
pairs-data W none = none
pairs-data W (more {x = p} l h) = more (word p l) (pairs-data W h)
  where
    word : (p : Pair) → p.word < W → (1 ≤ 1 + p.word) × (1 + p.word < 1 + W)
    word p l = (omega arith, omega arith)

as_many : {n a b : ℕ} → b ≡ a → n ≤ a → n ≤ b
as_many e h = rw e h

module _ (z : Sizes) (m : Machine) (s : Shape z m) where
  -- ---- non-volatile memory alone
  pub shape-nvm : (nvm : List ℕ) → length nvm ≡ length m.nvm → end_of z nvm ≡ end_of z m.nvm → base_of nvm ≡ base_of m.cache → Shape z (with_nvm m nvm)
  shape-nvm nvm l e b =
      record {
        sizes = s.sizes;
        in-cache = s.in-cache;
        in-nvm = rw l s.in-nvm;
        in-flags = s.in-flags;
        tail = tail-nvm z m s.tail nvm e;
        lanes = s.lanes;
        clock = s.clock;
        even = s.even;
        low = s.low;
        base = b;
      }

  -- the base after a write-back of any word
  written-base : (i : ℕ) (nvm : List ℕ) → former_length z ≤ length nvm → base_of nvm ≡ base_of m.cache
      → base_of (written_back i m.cache nvm) ≡ base_of m.cache
  unfolding base_of
  written-base i nvm l e =
      get_or-written_back i m.cache nvm 0 (image-filled z (length nvm) l) ∙ split (eqb i 0) (λ t. rw t) (λ t. rw t e)

  pub shape-written_back : (i : ℕ) → Shape z (with_nvm m (written_back i m.cache m.nvm))
  shape-written_back i =
      shape-nvm (written_back i m.cache m.nvm) (length-written_back i m.cache m.nvm) (end-written z i m.cache m.nvm s.tail.cache)
      (written-base i m.nvm s.in-nvm s.base)

  -- ---- a drain
  drained-base : (L : ℕ) → base_of (drained_nvm L m.flags m.cache m.nvm) ≡ base_of m.cache
  unfolding base_of
  drained-base L =
      get_or-drained_nvm L m.flags m.cache m.nvm 0 (image-filled z _ s.in-flags) (image-filled z _ s.in-cache) (image-filled z _ s.in-nvm)
      ∙ split (flushed L (get_or m.flags 0 0)) (λ t. rw t) (λ t. rw t s.base)

  module _ (L : ℕ) (lane : L < z.lanes) where
    inside : L < length m.state.lanes
    inside = le_trans lane s.lanes

    pub shape-drained : Shape z (drained z L m)
    unfolding drained with_lane
    shape-drained =
        record {
          sizes = s.sizes;
          in-cache = s.in-cache;
          in-nvm = rw (length-drained_nvm L m.flags m.cache m.nvm) s.in-nvm;
          in-flags = rw (length-drained_flags L m.flags) s.in-flags;
          tail = tail-drained z m s.in-cache s.in-nvm s.in-flags s.tail L;
          lanes = as_many (lane-drained z L m inside).lanes s.lanes;
          clock = s.clock;
          even = s.even;
          low = s.low;
          base = drained-base L;
        }

    -- ---- cached stores past the base and before the end
    pub shape-changed : (xs : List Store) (r : Record) → All (λ x. 1 ≤ x.at) xs → All (λ x. x.at < former_length z) xs → z.lanes ≤ length r.lanes
        → m.state.clock ≤ r.clock → r.clock % 2 ≡ 0 → Shape z (changed L xs r m)
    unfolding changed
    shape-changed xs r past within l up even =
        let b = stored-base m.cache past in
        record {
          sizes = s.sizes;
          in-cache = rw (length-stored xs m.cache) s.in-cache;
          in-nvm = s.in-nvm;
          in-flags = rw (length-flush_all L (places xs) m.flags) s.in-flags;
          tail = tail-changed z m s.tail L r within;
          lanes = l;
          clock = even;
          even = rw b s.even;
          low = rw b (le_trans s.low up);
          base = s.base ∙ sym b;
        }

    -- a sequence stamped c, with the record r after it
    pub shape-extends : (ws : List Write) (c : ℕ) (r : Record) → (lane_at m.state L).next < z.slots → z.lanes ≤ length r.lanes
        → m.state.clock ≤ r.clock → r.clock % 2 ≡ 0
        → Shape z (changed L (append_stores (log_start z L) z.slots c (cursor_of (lane_at m.state L)) ws) r m)
    unfolding cursor_of
    shape-extends ws c r next lanes up even =
        let i = append-inside z L lane (omega arith) c (cursor_of (lane_at m.state L)) ws next in
        shape-changed (append_stores (log_start z L) z.slots c (cursor_of (lane_at m.state L)) ws) r
        (All-map (λ x j. le_trans (let e : 1 ≤ 1 + z.words = omega arith in e) (inside-late z L x.at j)) i)
        (All-map (λ x j. le_trans j.1 (log-fits z L lane)) i) lanes up even

    -- a commit's stores: data words, and the value word of a slot
    pub commit-past : (ps : List Pair) → All (λ p. p.word < z.words) ps → All (λ x. 1 ≤ x.at) (commit_stores z L ps m)
    unfolding commit_stores restamp_store
    commit-past ps low = All-append (All-map (λ x h. h.0) (pairs-data z.words low)) (more (let e : 1 ≤ _ + 1 = omega arith in e) none)

    commit-within : (ps : List Pair) → All (λ p. p.word < z.words) ps → (x : Logged) → (lane_at m.state L).phase ≡ Some x
        → circular z.slots (x.first + x.count) < z.slots → All (λ y. y.at < former_length z) (commit_stores z L ps m)
    unfolding commit_stores restamp_store logged_in log_start
    commit-within ps low x held slot =
        rw held
        (All-append (All-map (λ y h. let f = log-fits z L lane in omega (arith, h.1)) (pairs-data z.words low))
        (more (let f = log-fits z L lane in omega arith) none))

    pub shape-committed : (ps : List Pair) → All (λ p. p.word < z.words) ps → (x : Logged) → (lane_at m.state L).phase ≡ Some x
        → circular z.slots (x.first + x.count) < z.slots → Shape z (committed z L ps m)
    unfolding committed changed with_lane with_clock with_last
    shape-committed ps low x held slot =
        shape-changed (commit_stores z L ps m) _ (commit-past ps low) (commit-within ps low x held slot)
        (as_many (lane-committed z L m inside ps).lanes s.lanes) (omega arith) (omega (arith, s.clock))

    pub shape-released : Shape z (released L m)
    unfolding released with_lane
    shape-released =
        record {
          sizes = s.sizes;
          in-cache = s.in-cache;
          in-nvm = s.in-nvm;
          in-flags = s.in-flags;
          tail = record { form = s.tail.form; cache = s.tail.cache; flags = s.tail.flags };
          lanes = as_many (lane-released z L m inside).lanes s.lanes;
          clock = s.clock;
          even = s.even;
          low = s.low;
          base = s.base;
        }
