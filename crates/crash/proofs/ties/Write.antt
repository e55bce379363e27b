-- The ties are kept where a part of the transaction that holds the lock is written: the lane flushes just the words that its newest sequence names, and
-- with the last part each word of the transaction is named with its timestamp. Assumes nothing.
use Rattle.std.specs.Prelude.{Some, None}
use mathlib.Core.Path.{◌≡◌, refl, ap, ◌∙◌, sym}
use mathlib.Core.Logic.{◌⊎◌, inl, inr}
use mathlib.Core.Bool.{true, ◌||◌, or-false}
use mathlib.Core.List.{List, [], ◌∷◌, append-nil}
use Prim.Native.Nat.{ℕ, ◌+◌, ◌-◌, ◌≤◌, ◌<◌}
use native.Mathlib.Omega.{arith}
use native.Mathlib.Nat.{le_refl}
use lib.Dec.{eqb}
use lib.ListN.{length, get_or, take}
use lib.Seq.{take_all}
use borrow.Author.Tests.{eqb-true, eqb-false, le-ltb}
use Rattle.laws.specs.inner.Tests.{split}
use Rattle.laws.specs.inner.Lists.{All, none as nil, All-map}
use Rattle.txn.specs.Txn.{run}
use Rattle.txn.specs.declared.Write.{Write}
use Rattle.image.specs.Image.{base_of}
use Rattle.image.specs.Flush.{flushed}
use Rattle.image.specs.Stores.{Store, places}
use Rattle.image.specs.inner.StoresLaws.{among}
use Rattle.image.specs.declared.Sizes.{Sizes}
use Rattle.record.specs.Record.{lane_at, part_length, is_held, with_last, with_lock}
use Rattle.record.specs.declared.Pair.{Pair}
use Rattle.record.specs.declared.Lane.{Lane}
use Rattle.record.specs.declared.Locked.{Locked}
use Rattle.record.specs.declared.Record.{Record}
use Rattle.store.specs.Machine.{Machine}
use Rattle.store.specs.Calls.{drained, changed, pair_stores}
use Rattle.store.specs.Locks.{part_of}
use Rattle.store.specs.Locks as store
use Rattle.crash.specs.History.{Commit, History, page_at, is_below, replay, present, words_below}
use Rattle.crash.specs.History.{after_drain, part_written}
use Rattle.laws.specs.inner.Members.{In, here, there, In-append}
use Rattle.recovery.specs.inner.UndoneLaws.{writes}
use Rattle.crash.proofs.recovery.Data.{olds_of, txn_writes, replay-all, replay_snoc, last}
use Rattle.crash.proofs.induction.Moves.{Known}
use Rattle.crash.proofs.history.Agree.{all_writes, holder_of, Locking, Book, not-locked}
use Rattle.crash.proofs.history.Onward.{Onward, Earlier, onward-written}
use Rattle.crash.proofs.history.Parts.{part_from, part-some, in-range, its_writes, part_low, part-pairs}
use Rattle.crash.proofs.history.BooksLock.{not-logged, more_written, with_some, with_all, some-machine, some-history, all-machine, all-history, txn-in}
use Rattle.crash.proofs.lane.Regions.{stored-base}
use Rattle.crash.proofs.lane.Shape.{pairs-data}
use Rattle.crash.proofs.lane.Log.{Track, levelled}
use Rattle.crash.proofs.lane.Running.{Running, running-changed}
use Rattle.crash.proofs.ties.Ties.{Names, Backed, Newly, slots_left, LockTies, Ties}
use Rattle.crash.proofs.ties.Laws.{TrackTo, cells-changed, drained-mine, changed-mine, changed-others, all-onward, Moving, ties-moved}
use Rattle.crash.proofs.ties.Drain.{not-longer}
use Rattle.crash.proofs.ties.Commit.{pairs-named, pairs-low}
use Rattle.crash.proofs.ties.Append.{was, from, book, drain, level-tracks, shape, given-was, now-was, newest-was}
use Rattle.crash.proofs.ties.Lock.{locked-as}
use Rattle.crash.proofs.ties.Part.{lock-was, ties-lock}

module _ (z : Sizes) (base : ℕ) (m : Machine) (h : History) (k : Locked) (b : Book z base h m) (t : Ties z base m h) (known : Known z m k.lane)
    (e : m.state.lock ≡ Some k) (one-logged : k.logged ≡ k.written + part_length k) where
  abbrev L : ℕ
  L = k.lane

  abbrev s : ℕ
  s = k.stamp

  abbrev it : Locking z base h m k
  it = b.locking k e

  abbrev its : List Write
  its = its_writes z base h m b k e

  abbrev h₁ : History
  h₁ = was z base h m b t L known

  abbrev m₁ : Machine
  m₁ = from z base h m b t L known

  abbrev b₁ : Book z base h₁ m₁
  b₁ = book z base h m b t L known

  abbrev t₁ : Ties z base m₁ h₁
  t₁ = (drain z base h m b t L known).ties

  abbrev track : Track
  track = levelled z L m (t.ts L)

  abbrev lt : TrackTo t.ts t₁.ts L track
  lt = level-tracks z base h m b t L known

  abbrev its-lock : LockTies z.slots track (t₁.to_come L) k its
  its-lock = ties-lock z base m h k b t known e

  abbrev it₁ : Locking z base h₁ m₁ k
  it₁ = b₁.locking k (lock-was z base m h k b t known e)

  abbrev part : List Write
  part = part_from k its

  abbrev upto : ℕ
  upto = k.written + part_length k

  abbrev xs : List Store
  xs = pair_stores (part_of k m.pairs)

  left-some : k.written < k.count
  left-some = (in-range z base h m b k e).left

  -- ---- the stores: the words that the newest sequence names
  part-data : All (λ x. (1 ≤ x.at) × (x.at < 1 + z.words)) xs
  part-data = pairs-data z.words (rw (part-pairs z base h m b k e) (pairs-low z.words (part_low z base h m b k e)))

  newly : Newly (t.ts L).gs part
  newly = its-lock.newest (let p = part-some k left-some in omega arith)

  part-named : (w : ℕ) → among (1 + w) (places xs) ≡ writes newly.by.entries w
  part-named w =
      ap (λ (ps : List Pair). among (1 + w) (places (pair_stores ps))) (part-pairs z base h m b k e)
      ∙ pairs-named part w ∙ ap (λ es. writes es w) (sym newly.entries)

  -- ---- the record is r then, and the history is new
  module _ (r : Record) (lanes : (M : ℕ) → lane_at r M ≡ lane_at m₁.state M) (many : length r.lanes ≡ length m₁.state.lanes)
      (clock : r.clock ≡ m₁.state.clock) (new : History) (pages : new.pages ≡ h₁.pages) (onward : Onward (s - 1) h₁ new)
      (fresh : (c : Commit) → In c new.commits → (In c h₁.commits) ⊎ Backed z new t₁.ts c)
      (lock : (x : Locked) → r.lock ≡ Some x → (f : List ℕ) → new.lock ≡ Some (holder_of x f)
      → LockTies z.slots (t₁.ts x.lane) (t₁.to_come x.lane) x (all_writes z f new)) where
    abbrev to : Machine
    to = changed L xs r m₁

    running : Running z to t₁.ts
    running =
        running-changed z m₁ t₁.ts t₁.running L known.lane xs r part-data lanes many (omega arith)
        (let d = t₁.running.shape.clock in omega arith)

    base-to : base_of to.cache ≡ base_of m₁.cache
    unfolding changed
    base-to = stored-base m₁.cache (All-map (λ (x : Store) i. i.0) part-data)

    own : (w : ℕ) → w < z.words → flushed L (get_or to.flags (1 + w) 0) ≡ true → Names track w
    own w l y =
        record {
          by = newly.by;
          rest = newly.rest;
          newest = newly.newest;
          drained = refl;
          named = sym (part-named w) ∙ sym (or-false _)
              ∙ ap (λ c. among (1 + w) (places xs) || c) (sym (drained-mine z m t.running.shape L (1 + w)))
              ∙ sym (changed-mine z m₁ (shape z base h m b t L known) L xs r w l) ∙ y;
        }

    page-same : (M : ℕ) → page_at new M ≡ page_at h₁ M
    unfolding page_at
    page-same M = rw pages

    earlier : Earlier z L h₁ (s - 1)
    earlier =
        record {
          commits = All-map (λ c i. omega (arith, i)) it₁.commits;
          others = λ M r i d q. let l = it₁.others M r i d q in omega arith;
        }

    moving : Moving z L h₁ new m₁ to t₁.ts t₁.ts t₁.to_come t₁.to_come
    unfolding changed
    moving =
        record {
          track = track;
          tracks = record { here = lt.here; others = λ M d. refl };
          page = page_at h₁ L;
          pages = record { here = page-same L; others = λ M d. page-same M; pages = ap length pages };
          given = s - 1;
          onward = onward;
          earlier = earlier;
          running = running;
          at_base = base-to;
          phases = λ M d. ap (λ (l : Lane). l.phase) (lanes M);
          newest = newest-was z base h m b t L known;
          entries = λ x y g gs q.
              not-logged (lane_at m₁.state L).phase x (in-range z base h₁ m₁ b₁ k (lock-was z base m h k b t known e)).idle
              (ap (λ (l : Lane). l.phase) (sym (lanes L)) ∙ y);
          now = all-onward z h₁ new onward (given-was z base h m b t L known) (now-was z base h m b t L known);
          before = all-onward z h₁ new onward (given-was z base h m b t L known) (now-was z base h m b t L known);
          open' = λ g y. not-longer g (t.ts L).gs y;
          cells = cells-changed z m₁ (shape z base h m b t L known) t₁.cells L known.lane xs r;
          own = own;
          others = λ M d w l. changed-others z m₁ (shape z base h m b t L known) L xs r M d w l;
          floor = λ M i g j f. f;
          coming = λ M d. le_refl (t₁.to_come M);
          stays = λ c i g j y. rw lt.here at j;
          kept = λ g j. inl (rw lt.here (j, λ a w. w));
          fresh = fresh;
          lock = lock;
        }

    ties-to : Ties z base to new
    ties-to = (ties-moved z base L h₁ new m₁ to b₁ t₁ t₁.ts t₁.to_come moving).ties

  -- ---- not the last part
  module _ (d : upto ≡ k.count → ⊥) where
    abbrev held : Locked
    held = more_written k

    abbrev some-state : Record
    some-state = with_lock m₁.state (Some held)

    abbrev with-some : History
    with-some = with_some k it.txn h₁

    -- all that is logged is written
    lock-held : LockTies z.slots track (t₁.to_come L) held its
    unfolding slots_left
    lock-held =
        record {
          logged = its-lock.logged;
          written = λ w y.
              let p = its-lock.logged w (ap (λ (i : ℕ). writes (olds_of (take i its)) w) one-logged ∙ y) in
              (p, p.among);
          newest = λ l. absurd (omega arith);
          slots = its-lock.slots;
          few = its-lock.few;
        }

    same-txn : (f : List ℕ) → with-some.lock ≡ Some (holder_of held f) → f ≡ it.txn
    unfolding holder_of
    same-txn f q = sym (ap txn-in q)

    same-all : (f : List ℕ) → f ≡ it.txn → its ≡ all_writes z f with-some
    unfolding all_writes present words_below after_drain
    same-all f q = ap (λ (f : List ℕ). all_writes z f h) (sym q)

    lock-some : (x : Locked) → some-state.lock ≡ Some x → (f : List ℕ) → with-some.lock ≡ Some (holder_of x f)
        → LockTies z.slots (t₁.ts x.lane) (t₁.to_come x.lane) x (all_writes z f with-some)
    unfolding with_lock
    lock-some x y =
        locked-as (λ (x : Locked). (f : List ℕ) → with-some.lock ≡ Some (holder_of x f)
        → LockTies z.slots (t₁.ts x.lane) (t₁.to_come x.lane) x (all_writes z f with-some)) y
        (λ f q. rw (sym (same-all f (same-txn f q)), lt.here) lock-held)

    onward-some : Onward (s - 1) h₁ with-some
    onward-some =
        record {
          new = [];
          start = refl;
          lag = refl;
          clock = le_refl h₁.clock;
          commits = sym (append-nil h₁.commits);
          rising = last;
          fresh = nil;
          upto = nil;
          over = nil;
        }

    ties-some : Ties z base (changed L xs some-state m₁) with-some
    unfolding with_lock lane_at
    ties-some = ties-to some-state (λ M. refl) refl refl with-some refl onward-some (λ c i. inl i) lock-some

    some_written : Ties z base (store.part_written k m₁) (part_written (holder_of k it.txn) h₁)
    unfolding drained
    some_written = rw (some-machine k d m₁, some-history k d left-some it.txn h₁) ties-some

  -- ---- the last part
  module _ (d : upto ≡ k.count) where
    abbrev all-state : Record
    all-state = with_lock (with_last m₁.state s) None

    abbrev its-commit : Commit
    its-commit = record { stamp = s; txn = it.txn }

    abbrev with-all : History
    with-all = with_all k it.txn h₁

    onward-all : Onward (s - 1) h₁ with-all
    onward-all = onward-written s it.txn h₁ with-all refl refl refl refl it₁.clock (let l = it.low in omega arith)

    -- the words below its timestamp are those before it
    words-before : replay z.words (Some s) with-all.commits with-all.start ≡ present z h
    unfolding present words_below is_below after_drain
    words-before =
        replay_snoc z.words (Some s) h.commits its-commit h.start
        ∙ rw (le-ltb s s (le_refl s)) (replay-all z.words s h.start it.commits)

    all-logged : take k.logged its ≡ its
    all-logged = take_all k.logged its (let c = it.count in omega arith)

    backed : Backed z with-all t₁.ts its-commit
    unfolding Backed txn_writes all_writes
    backed w l y =
        let p = its-lock.logged w
        (ap (λ (ws : List Write). writes (olds_of ws) w) all-logged
        ∙ ap (λ (ws : List ℕ). writes (olds_of (run z.words it.txn ws)) w) (sym words-before) ∙ y) in
        record { lane = L; low = known.lane; by = p.by; among = rw lt.here p.among; stamp = p.stamp; named = p.named }

    fresh-all : (c : Commit) → In c with-all.commits → (In c h₁.commits) ⊎ Backed z with-all t₁.ts c
    fresh-all c i = go c (In-append h₁.commits i)
      where
        go : (c : Commit) → (In c h₁.commits) ⊎ (In c (its-commit ∷ [])) → (In c h₁.commits) ⊎ Backed z with-all t₁.ts c
        go c (inl j) = inl j
        go c (inr here) = inr backed
        go c (inr (there j)) = elim j [ ]

    ties-all : Ties z base (changed L xs all-state m₁) with-all
    unfolding with_lock with_last lane_at is_held
    ties-all =
        ties-to all-state (λ M. refl) refl refl with-all refl onward-all fresh-all (λ x y f q. not-locked None x refl y)

    all-written : Ties z base (store.part_written k m₁) (part_written (holder_of k it.txn) h₁)
    unfolding drained
    all-written = rw (all-machine k d m₁, all-history k d it.txn h₁) ties-all

  pub ties-makes : Ties z base (store.part_written k (drained z k.lane m)) (part_written (holder_of k (b.locking k e).txn) (after_drain k.lane h))
  ties-makes = split (eqb upto k.count) (λ q. all-written (eqb-true upto k.count q)) (λ q. some_written (eqb-false upto k.count q))
