-- The history goes on: a call adds commits not below the clock and above what was given before, at the end, and what stood below stays. Assumes nothing.
use Rattle.std.specs.Prelude.{Option, Some, None}
use mathlib.Core.Path.{◌≡◌, refl, ap, ◌∙◌, sym}
use mathlib.Core.Logic.{◌≢◌}
use mathlib.Core.Bool.{cond}
use mathlib.Core.List.{List, [], ◌∷◌, ◌++◌, append-nil}
use Prim.Native.Nat.{ℕ, ◌+◌, ◌-◌, ◌≤◌, ◌<◌}
use native.Mathlib.Omega.{arith}
use native.Mathlib.Nat.{le_refl}
use lib.ListN.{length, take}
use Rattle.laws.specs.inner.Lists.{All, none as nil, more, All-append, All-map}
use Rattle.txn.specs.Txn.{run, after}
use Rattle.image.specs.declared.Sizes.{Sizes}
use Rattle.record.specs.Record.{lane_at, pairs_of}
use Rattle.record.specs.inner.RecordLaws.{stamp-in}
use Rattle.record.specs.declared.Logged.{Logged}
use Rattle.store.specs.Machine.{Machine}
use Rattle.crash.specs.History.{Newest, closing_at, newest_stamp, Commit, History, page_at, is_below, replay, words_below}
use Rattle.crash.specs.History.{after_drain, stamped, released, writes_logged}
use Rattle.crash.proofs.recovery.Data.{Rising, last, then, replay-none}
use Rattle.crash.proofs.history.Agree.{last_of, Holding, Book}

-- ---- commits at the end
pub replay-append : (W : ℕ) (b : Option ℕ) (cs ds : List Commit) (ws : List ℕ) → replay W b (cs ++ ds) ws ≡ replay W b ds (replay W b cs ws)
unfolding replay
replay-append W b [] ds ws = refl
replay-append W b (c ∷ cs) ds ws = replay-append W b cs ds (cond (is_below b c.stamp) (after W c.txn ws) ws)

pub last-append : (base : ℕ) (cs : List Commit) (c : Commit) → last_of base (cs ++ (c ∷ [])) ≡ c.stamp
unfolding last_of
last-append base [] c = refl
last-append base (d ∷ cs) c = last-append d.stamp cs c

-- commits up to a clock, and then commits above it
pub rising-append : (clock : ℕ) {cs ds : List Commit}
    → Rising cs → All (λ c. c.stamp ≤ clock) cs → Rising ds → All (λ d. clock < d.stamp) ds → Rising (cs ++ ds)
rising-append clock last nil r f = r
rising-append clock (then {c = c} a q) (more h hs) r f = then (All-append a (All-map (λ d k. omega arith) f)) (rising-append clock q hs r f)

-- ---- the writes that a lane has logged
pub writes-held : (z : Sizes) (h : History) (L : ℕ) (f : List ℕ) (s : ℕ) → (page_at h L).held ≡ Some f → (page_at h L).newest ≡ closing_at s
    → writes_logged z L h ≡ run z.words f (words_below z (Some s) h)
unfolding writes_logged newest_stamp
writes-held z h L f s p q = rw (p, writes_logged) (ap (λ (n : Newest). run z.words f (words_below z (newest_stamp n) h)) q)

-- ---- the relation
-- the new commits are not below the clock, and above `given`: that is the clock too, unless one of them has the clock's own timestamp
pub record Onward (given : ℕ) (h k : History) : Type 0 where
  pub new : List Commit
  pub start : k.start ≡ h.start
  pub lag : k.lag ≡ h.lag
  pub clock : h.clock ≤ k.clock
  pub commits : k.commits ≡ h.commits ++ new
  pub rising : Rising new
  pub fresh : All (λ c. h.clock ≤ c.stamp) new
  pub upto : All (λ c. c.stamp ≤ k.clock) new
  pub over : All (λ c. given < c.stamp) new

-- but for the newest of lane L, no timestamp of the history is above `given`
pub record Earlier (z : Sizes) (L : ℕ) (h : History) (given : ℕ) : Type 0 where
  pub commits : All (λ c. c.stamp ≤ given) h.commits
  pub others : (M s : ℕ) → M < z.lanes → M ≢ L → newest_stamp (page_at h M).newest ≡ Some s → s ≤ given

-- none is above the clock
pub earlier-clock : (z : Sizes) (base : ℕ) (h : History) (m : Machine) → Book z base h m → (L : ℕ) → Earlier z L h h.clock
earlier-clock z base h m b L = record { commits = b.upto; others = λ M s i d e. (stamp-in h.clock s (b.stamps M s i e)).low }

-- nothing is committed
pub onward-same : (h k : History) → k.start ≡ h.start → k.lag ≡ h.lag → h.clock ≤ k.clock → k.commits ≡ h.commits → Onward h.clock h k
onward-same h k start lag clock commits =
    record {
      new = [];
      start = start;
      lag = lag;
      clock = clock;
      commits = commits ∙ sym (append-nil h.commits);
      rising = last;
      fresh = nil;
      upto = nil;
      over = nil;
    }

pub onward-drained : (L : ℕ) (h : History) → Onward h.clock h (after_drain L h)
unfolding after_drain
onward-drained L h = onward-same h (after_drain L h) refl refl (le_refl h.clock) refl

pub onward-released : (L : ℕ) (h : History) → Onward h.clock h (released L h)
unfolding released
onward-released L h = onward-same h (released L h) refl refl (le_refl h.clock) refl

-- a timestamp without a commit
pub onward-stamped : (L : ℕ) (kind : ℕ → Newest) (held : Option (List ℕ)) (h : History) → Onward h.clock h (stamped L kind held [] h)
unfolding stamped
onward-stamped L kind held h =
    onward-same h (stamped L kind held [] h) refl refl (let c : h.clock ≤ h.clock + 2 = omega arith in c) (append-nil h.commits)

-- a commit
pub onward-commit : (L : ℕ) (f : List ℕ) (h : History) → Onward h.clock h (stamped L closing_at None (f ∷ []) h)
unfolding stamped
onward-commit L f h =
    record {
      new = record { stamp = h.clock + 2; txn = f } ∷ [];
      start = refl;
      lag = refl;
      clock = omega arith;
      commits = refl;
      rising = then nil last;
      fresh = more (let k : h.clock ≤ h.clock + 2 = omega arith in k) nil;
      upto = more (le_refl (h.clock + 2)) nil;
      over = more (let k : h.clock < h.clock + 2 = omega arith in k) nil;
    }

-- the commit of a transaction that holds the lock, at the clock's own timestamp
pub onward-written : (s : ℕ) (f : List ℕ) (h k : History) → k.start ≡ h.start → k.lag ≡ h.lag → k.clock ≡ h.clock
    → k.commits ≡ h.commits ++ (record { stamp = s; txn = f } ∷ []) → h.clock ≡ s → 0 < s → Onward (s - 1) h k
onward-written s f h k start lag clock commits at pos =
    record {
      new = record { stamp = s; txn = f } ∷ [];
      start = start;
      lag = lag;
      clock = omega arith;
      commits = commits;
      rising = then nil last;
      fresh = more (let l : h.clock ≤ s = omega arith in l) nil;
      upto = more (let l : s ≤ k.clock = omega arith in l) nil;
      over = more (let l : s - 1 < s = omega arith in l) nil;
    }

-- ---- what it keeps
module _ (z : Sizes) (h k : History) {given : ℕ} (o : Onward given h k) where
  pub rising-onward : Rising h.commits → All (λ c. c.stamp ≤ given) h.commits → Rising k.commits
  rising-onward r u = rw o.commits (rising-append (given) r u o.rising o.over)

  pub above-onward : (base : ℕ) → base ≤ given → All (λ c. base < c.stamp) h.commits → All (λ c. base < c.stamp) k.commits
  above-onward base b a = rw o.commits (All-append a (All-map (λ c p. omega arith) o.over))

  pub upto-onward : All (λ c. c.stamp ≤ h.clock) h.commits → All (λ c. c.stamp ≤ k.clock) k.commits
  upto-onward u = rw o.commits (All-append (All-map (λ c p. omega (arith, p, o.clock)) u) o.upto)

  -- the words below a timestamp that was given
  pub words-onward : (s : ℕ) → s ≤ h.clock → words_below z (Some s) k ≡ words_below z (Some s) h
  unfolding words_below
  words-onward s l =
      rw (o.commits, o.start, replay-append z.words (Some s) h.commits o.new h.start)
      (replay-none z.words s (replay z.words (Some s) h.commits h.start) (All-map (λ c p. omega arith) o.fresh))

  -- a transaction that another lane holds, or that is held through a drain
  pub holding-onward : (base : ℕ) (m n : Machine) (M : ℕ) (g : Logged) → Holding z base h m M g → g.stamp ≤ given
      → (page_at k M).held ≡ (page_at h M).held → (page_at k M).newest ≡ (page_at h M).newest → (lane_at n.state M).redo ≡ (lane_at m.state M).redo
      → Holding z base k n M g
  holding-onward base m n M g v l p q r =
      record {
        txn = v.txn;
        held = p ∙ v.held;
        ok = v.ok;
        newest = q ∙ v.newest;
        above = v.above;
        upto = omega (arith, v.upto, o.clock);
        apart = rw o.commits (All-append v.apart (All-map (λ c i e. omega arith) o.over));
        count = v.count ∙ sym (ap length same);
        redo = ap (take g.count) r ∙ v.redo ∙ ap (pairs_of g.count) (sym same);
      }
    where
      same : writes_logged z M k ≡ writes_logged z M h
      same =
          writes-held z k M v.txn g.stamp (p ∙ v.held) (q ∙ v.newest)
          ∙ ap (run z.words v.txn) (words-onward g.stamp v.upto)
          ∙ sym (writes-held z h M v.txn g.stamp v.held v.newest)
