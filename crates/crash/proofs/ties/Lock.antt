-- The ties are kept where the lock is taken: nothing is appended, and refusal 9 leaves room for all slots that are counted for the transaction. Assumes
-- nothing.
use Rattle.std.specs.Prelude.{Some}
use mathlib.Core.Path.{◌≡◌, refl, ◌∙◌, sym, subst}
use mathlib.Core.Logic.{◌≢◌, ◌⊎◌, inl, inr}
use mathlib.Core.Bool.{true, false, cond}
use mathlib.Core.List.{List, []}
use Prim.Native.Nat.{ℕ, ◌+◌, ◌-◌, ◌/◌, ◌≤◌, ◌<◌}
use native.Mathlib.Omega.{arith}
use lib.Dec.{eqb}
use lib.ListN.{length, get_or, take}
use borrow.Author.Tests.{eq-eqb, ne_eqb}
use Rattle.laws.specs.inner.Tests.{clash}
use Rattle.laws.specs.inner.Lists.{none as nil}
use Rattle.txn.specs.Txn.{max_long, current, txn_by}
use Rattle.txn.specs.inner.TxnLaws.{length_run}
use Rattle.txn.specs.declared.Write.{Write}
use Rattle.image.specs.Image.{data_of}
use Rattle.image.specs.Flush.{flush_all}
use Rattle.image.specs.Stores.{stored, places}
use Rattle.image.specs.declared.Sizes.{Sizes}
use Rattle.record.specs.Record.{lane_at, is_logged, is_held, with_clock, with_lock}
use Rattle.record.specs.declared.Locked.{Locked}
use Rattle.store.specs.Machine.{Machine}
use Rattle.store.specs.Calls.{drained, changed, writes_on}
use Rattle.store.specs.Locks.{slots_counted, locked}
use Rattle.crash.specs.History.{History, page_at, after_drain, lock_taken, least_floor_of}
use Rattle.laws.specs.inner.Members.{In}
use Rattle.recovery.specs.inner.UndoneLaws.{writes}
use Rattle.crash.proofs.recovery.Data.{olds_of}
use Rattle.crash.proofs.induction.Moves.{Known, Room}
use Rattle.crash.proofs.history.Agree.{all_writes, Book}
use Rattle.crash.proofs.history.Answers.{bound-drained}
use Rattle.crash.proofs.history.Onward.{Onward, earlier-clock, onward-same}
use Rattle.crash.proofs.history.Books.{phase-drained}
use Rattle.crash.proofs.history.BooksLock.{not-logged}
use Rattle.crash.proofs.lane.Seqs.{Seq}
use Rattle.crash.proofs.lane.Written.{RoomFor, room_whole}
use Rattle.crash.proofs.lane.Log.{levelled}
use Rattle.crash.proofs.lane.Reads.{lane-room}
use Rattle.crash.proofs.lane.Running.{Running, running-changed, running-pairs}
use Rattle.crash.proofs.ties.Ties.{Flushes, slots_left, LockTies, Ties}
use Rattle.crash.proofs.ties.Laws.{AtMost, TrackTo, Cells, drained-mine, all-onward, Moving, ties-moved}
use Rattle.crash.proofs.ties.Logs.{ties-logs}
use Rattle.crash.proofs.ties.Drain.{not-longer}
use Rattle.crash.proofs.ties.Append.{was, from, book, drain, level-tracks, given-was, now-was, newest-was}

-- ---- slots to come
-- of lane L alone
unfoldable pub only : (L n : ℕ) → ℕ → ℕ
only L n M = cond (eqb L M) n 0

pub only_here : (L n : ℕ) → only L n L ≡ n
unfolding only
only_here L n = rw (eq-eqb L L refl)

pub only-others : (L n M : ℕ) → M ≢ L → only L n M ≡ 0
unfolding only
only-others L n M d = rw (ne_eqb L M (λ e. d (sym e)))

-- of a lock that is held as k says, what is claimed of k is claimed of any that it is
pub locked-as : (P : Locked → Type 0) {k x : Locked} → Some k ≡ Some x → P k → P x
locked-as P {k} {x} e v = let q : k ≡ x = cc in subst P q v

-- the slots counted are enough for the writes that come
enough : (f : List ℕ) (n : ℕ) (k : Locked) → n ≤ length f / 4 → k.count ≡ n → k.logged ≡ 0 → slots_left k ≤ slots_counted f
unfolding slots_left slots_counted
enough f n k l e d = omega arith

none_yet : {A : Type 0} (ws : List Write) (w : ℕ) → writes (olds_of (take 0 ws)) w ≡ true → A
unfolding writes olds_of
none_yet ws w e = clash false e refl

module _ (z : Sizes) (base : ℕ) (m : Machine) (h : History) (L : ℕ) (f : List ℕ) (b : Book z base h m) (t : Ties z base m h) (k : Known z m L)
    (ok : txn_by current max_long z.words f ≡ true) (idle : is_logged (lane_at m.state L).phase ≡ false)
    (counted : slots_counted f ≤ z.slots - 17) (room : Room z m L (slots_counted f)) where
  abbrev ws : List Write
  ws = writes_on z f m

  abbrev h₁ : History
  h₁ = was z base h m b t L k

  abbrev m₁ : Machine
  m₁ = from z base h m b t L k

  abbrev t₁ : Ties z base m₁ h₁
  t₁ = (drain z base h m b t L k).ties

  abbrev lt : TrackTo t.ts t₁.ts L (levelled z L m (t.ts L))
  lt = level-tracks z base h m b t L k

  abbrev new : History
  new = lock_taken L f (length ws) h₁

  abbrev to : Machine
  to = locked L ws m₁

  abbrev its : Locked
  its = record { lane = L; stamp = m₁.state.clock + 2; count = length ws; logged = 0; written = 0 }

  abbrev left : ℕ → ℕ
  left = only L (slots_counted f)

  onward : Onward h₁.clock h₁ new
  unfolding lock_taken
  onward = onward-same h₁ new refl refl (let l : h₁.clock ≤ h₁.clock + 2 = omega arith in l) refl

  running : Running z to t₁.ts
  unfolding locked changed with_clock with_lock stored places flush_all lane_at
  running =
      running-pairs z (changed L [] to.state m₁) t₁.ts
      (running-changed z m₁ t₁.ts t₁.running L k.lane [] to.state nil (λ M. refl) refl (omega arith)
      (let e = t₁.running.shape.clock in omega arith))
      to.pairs

  cells : Cells z to
  unfolding locked
  cells w l = go (t₁.cells w l)
    where
      go : (get_or m₁.nvm (1 + w) 0 ≡ get_or m₁.cache (1 + w) 0) ⊎ Flushes z m₁ w → (get_or m₁.nvm (1 + w) 0 ≡ get_or m₁.cache (1 + w) 0) ⊎ Flushes z to w
      go (inl e) = inl e
      go (inr f) = inr (record { lane = f.lane; low = f.low; bit = f.bit })

  -- refusal 9: what is at or above the least floor has room for all of them
  has_room : (g : Seq) → In g (t.ts L).gs → AtMost (least_floor_of h₁.pages) g.stamp → RoomFor z.slots (t₁.to_come L) (t.ts L).hist g
      → RoomFor z.slots (left L) (t.ts L).hist g
  has_room g i a w =
      rw (only_here L (slots_counted f))
      (lane-room z L m (t.ts L) t.running.shape (t.running.lanes L k.lane) (slots_counted f) a.stamp room.slots
      (bound-drained z base h m b (ties-logs z base m h b t) L k.lane ∙ a.is) i (room_whole z.slots (t₁.to_come L) (t.ts L).hist g w) a.low)

  few : length ws ≤ length f / 4
  unfolding writes_on
  few = length_run z.words f (data_of z m.cache)

  lock-now : (ws' : List Write) → LockTies z.slots (t₁.ts L) (left L) its ws'
  lock-now ws' =
      record {
        logged = λ w e. none_yet ws' w e;
        written = λ w e. none_yet ws' w e;
        newest = λ l. absurd (omega arith);
        slots = rw (only_here L (slots_counted f)) (enough f (length ws) its few refl refl);
        few = rw (only_here L (slots_counted f)) (omega arith);
      }

  idle-now : is_logged (lane_at m₁.state L).phase ≡ false
  idle-now = phase-drained z base L k.lane h m b (ties-logs z base m h b t) L ∙ idle

  moving : Moving z L h₁ new m₁ to t₁.ts t₁.ts t₁.to_come left
  unfolding locked lock_taken with_clock with_lock lane_at page_at
  moving =
      record {
        track = levelled z L m (t.ts L);
        tracks = record { here = lt.here; others = λ M d. refl };
        page = page_at h₁ L;
        pages = record { here = refl; others = λ M d. refl; pages = refl };
        given = h₁.clock;
        onward = onward;
        earlier = earlier-clock z base h₁ m₁ (book z base h m b t L k) L;
        running = running;
        at_base = refl;
        phases = λ M d. refl;
        newest = newest-was z base h m b t L k;
        entries = λ x e g gs q. not-logged (lane_at m₁.state L).phase x idle-now e;
        now = all-onward z h₁ new onward (given-was z base h m b t L k) (now-was z base h m b t L k);
        before = all-onward z h₁ new onward (given-was z base h m b t L k) (now-was z base h m b t L k);
        open' = λ g e. not-longer g (t.ts L).gs e;
        cells = cells;
        own = λ w i e. clash _ e (drained-mine z m t.running.shape L (1 + w));
        others = λ M d w i. refl;
        floor = λ M i g j f. f;
        coming = λ M d. rw (only-others L (slots_counted f) M d) (omega arith);
        stays = λ c i g j e. rw lt.here at j;
        kept = λ g j. inl (rw lt.here (j, λ a w. has_room g j a w));
        fresh = λ c i. inl i;
        lock = λ x e g q.
            locked-as (λ (x : Locked). LockTies z.slots (t₁.ts x.lane) (left x.lane) x (all_writes z g new)) e (lock-now (all_writes z g new));
      }

  pub ties-locked : Ties z base to new
  ties-locked = (ties-moved z base L h₁ new m₁ to (book z base h m b t L k) t₁ t₁.ts left moving).ties

pub ties-locks : (z : Sizes) (base : ℕ) (m : Machine) (h : History) (L : ℕ) (f : List ℕ) → Book z base h m → Ties z base m h → Known z m L
    → txn_by current max_long z.words f ≡ true → is_logged (lane_at m.state L).phase ≡ false → is_held m.state.lock ≡ false
    → slots_counted f ≤ z.slots - 17 → 0 < length (writes_on z f m) → Room z m L (slots_counted f)
    → Ties z base (locked L (writes_on z f m) (drained z L m)) (lock_taken L f (length (writes_on z f m)) (after_drain L h))
ties-locks z base m h L f b t k ok i free c p r = ties-locked z base m h L f b t k ok i c r
