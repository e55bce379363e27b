-- What the invariant says of the cells when power fails: recovery will find the words below the boundary, which is not below the least floor. Assumes nothing.
use Rattle.std.specs.Prelude.{Option, Some, None}
use mathlib.Core.Path.{◌≡◌, refl, ap, ◌∙◌, sym, subst}
use mathlib.Core.Logic.{◌⊎◌, inl, inr}
use mathlib.Core.Bool.{true, false}
use mathlib.Core.List.{List, [], ◌∷◌}
use Prim.Native.Nat.{ℕ, ◌+◌, ◌%◌, ◌≤◌, ◌<◌}
use native.Mathlib.Omega.{arith}
use native.Mathlib.Nat.{le_refl, zero-lt-suc}
use lib.ListN.{length, get_or, take}
use lib.Seq.{ext_get_or}
use borrow.Author.Tests.{lt-ltb, le-ltb}
use Rattle.laws.specs.inner.Tests.{split, clash}
use Rattle.laws.specs.inner.Lists.{All, All-map}
use Rattle.txn.specs.Txn.{after}
use Rattle.image.specs.Image.{former_length, data_of}
use Rattle.image.specs.inner.ImageLaws.{get_or-data, length-data}
use Rattle.image.specs.declared.Sizes.{Sizes}
use Rattle.lane_log.specs.Log.{Old, Complete, complete_in}
use Rattle.record.specs.Record.{is_held, Lock}
use Rattle.record.specs.declared.Locked.{Locked}
use Rattle.store.specs.Machine.{Machine}
use Rattle.recovery.specs.Recovery.{boundary, complete_of}
use Rattle.crash.specs.History.{Commit, History, replay, is_below, words_below, present, least_floor_of}
use Rattle.crash.specs.Theorem.{NotBelow, no_boundary, at_least}
use Rattle.laws.specs.inner.Members.{In, here, there, In-All}
use Rattle.recovery.specs.inner.SequenceLaws.{lane-in}
use Rattle.recovery.specs.inner.UndoneLaws.{writes, OldIn}
use Rattle.crash.proofs.recovery.Data.{Rising, last, then, olds_of, applied-stays, length-replay, replay-none, txn_writes, value_below}
use Rattle.crash.proofs.recovery.Recovered.{Shows, plain, cut, Backing, Backed, finish, back, Word, same, named, cut_at}
use Rattle.crash.proofs.history.Lanes.{bound-agrees}
use Rattle.crash.proofs.history.Agree.{Book, no-holder, visible-free}
use Rattle.crash.proofs.history.Parts.{in-range, its_writes, words-held}
use Rattle.crash.proofs.history.Books.{start-long}
use Rattle.crash.proofs.induction.FromLogs.{AtCut}
use Rattle.crash.proofs.lane.Ghost.{Past}
use Rattle.crash.proofs.lane.Seqs.{Seq}
use Rattle.crash.proofs.lane.Shown.{Listed}
use Rattle.crash.proofs.lane.Written.{Whole, room_whole, found_as}
use Rattle.crash.proofs.lane.Log.{Track}
use Rattle.crash.proofs.lane.Cut.{CutShows}
use Rattle.crash.proofs.lane.RunningCut.{cut-floors, cut-clock-some, cut-clock-least, not-appended, cut-some, cut_all, cut-seen, cut-seen-newest}
use Rattle.crash.proofs.ties.Ties.{TrueOf, Flushes, Ties}
use Rattle.crash.proofs.ties.Order.{undone-later}
use Rattle.crash.proofs.ties.Ties as ties

-- ---- commits that are backed one by one are backed in order
module _ (W b : ℕ) (qs : List Complete) where
  -- the words before a commit are those below its timestamp
  first-words : (c : Commit) {cs : List Commit} (ws : List ℕ) → All (λ d. c.stamp < d.stamp) cs → replay W (Some c.stamp) (c ∷ cs) ws ≡ ws
  unfolding replay is_below
  first-words c ws a = rw (le-ltb c.stamp c.stamp (le_refl c.stamp)) (replay-none W c.stamp ws (All-map (λ d h. omega arith) a))

  later-words : (c d : Commit) (cs : List Commit) (ws : List ℕ) → c.stamp < d.stamp
      → replay W (Some d.stamp) (c ∷ cs) ws ≡ replay W (Some d.stamp) cs (after W c.txn ws)
  unfolding replay is_below
  later-words c d cs ws h = rw (lt-ltb c.stamp d.stamp h)

  backed-all : {cs : List Commit} (ws : List ℕ) → Rising cs
      → ((c : Commit) → In c cs → b ≤ c.stamp → (w : ℕ) → w < W → txn_writes W w c.txn (replay W (Some c.stamp) cs ws) ≡ true → Backing W b qs c w)
      → Backed W b qs ws cs
  backed-all ws last f = finish
  backed-all ws (then {c = c} {cs = cs} a r) f =
      back (λ l w j e. f c here l w j (ap (txn_writes W w c.txn) (first-words c ws a) ∙ e))
      (backed-all (after W c.txn ws) r (λ d i l w j e. f d (there i) l w j (ap (txn_writes W w d.txn) (later-words c d cs ws (In-All a i)) ∙ e)))

-- a part that is drained, of the transaction that holds the lock, names word w
pub record Made (z : Sizes) (m : Machine) (ts : ℕ → Track) (w : ℕ) : Type 0 where
  pub lane : ℕ
  pub low : lane < z.lanes
  pub by : Seq
  pub among : In by (ts lane).gs
  pub drained : In by (ts lane).priors
  pub stamp : by.stamp ≡ m.state.clock
  pub named : writes by.entries w ≡ true

free-now : (l : Lock) → l ≡ None → is_held l ≡ false
unfolding is_held
free-now l e = rw e

words-now : (z : Sizes) (base : ℕ) (h : History) (m : Machine) → Book z base h m → is_held m.state.lock ≡ false
    → data_of z m.cache ≡ replay z.words None h.commits h.start
unfolding present words_below
words-now z base h m k e = k.live.words ∙ visible-free z h (no-holder m.state.lock h.lock k.live.lock e)

all-words : (z : Sizes) (h : History) (w : ℕ) → get_or (present z h) w 0 ≡ get_or (replay z.words None h.commits h.start) w 0
unfolding present words_below
all-words z h w = refl

module _ (z : Sizes) (base : ℕ) (m : Machine) (h : History) (k : Book z base h m) (v : Ties z base m h) where
  size : former_length z ≤ length m.nvm
  size = v.running.shape.in-nvm

  -- a cached data word is that of all commits, or a part that is written of the transaction that holds the lock names it
  cached : (w : ℕ) → w < z.words → (get_or m.cache (1 + w) 0 ≡ get_or (replay z.words None h.commits h.start) w 0) ⊎ Made z m v.ts w
  cached w l = go m.state.lock refl
    where
      from : (ws : List ℕ) → data_of z m.cache ≡ ws → get_or m.cache (1 + w) 0 ≡ get_or ws w 0
      from ws e = sym (get_or-data z m.cache w l) ∙ ap (λ (ws : List ℕ). get_or ws w 0) e

      made : (x : Locked) (e : m.state.lock ≡ Some x) → writes (olds_of (take x.written (its_writes z base h m k x e))) w ≡ true → Made z m v.ts w
      made x e n =
          let y = k.locking x e in
          let p = (v.lock x e y.txn y.holder).written w n in
          record {
            lane = x.lane;
            low = (in-range z base h m k x e).lane;
            by = p.0.by;
            among = p.0.among;
            drained = p.1;
            stamp = p.0.stamp ∙ sym (k.live.clock ∙ y.clock);
            named = p.0.named;
          }

      go : (y : Lock) → m.state.lock ≡ y → (get_or m.cache (1 + w) 0 ≡ get_or (replay z.words None h.commits h.start) w 0) ⊎ Made z m v.ts w
      go None e = inl (from _ (words-now z base h m k (free-now m.state.lock e)))
      go (Some x) e =
          split (writes (olds_of (take x.written (its_writes z base h m k x e))) w)
          (λ n. inr (made x e n))
          (λ n. inl (from _ (words-held z base h m k x e) ∙ applied-stays w (present z h) _ n ∙ all-words z h w))

  floors : NotBelow (least_floor_of h.pages) (boundary z m.nvm)
  floors =
      subst (λ f. NotBelow f (boundary z m.nvm)) (bound-agrees z m.state h k.lanes k.pages k.live.floors) (cut-floors z m v.ts v.running)

  -- a sequence that names a word has an entry
  some-named : (es : List Old) (w : ℕ) → writes es w ≡ true → 0 < length es
  unfolding writes
  some-named [] w e = clash _ e refl
  some-named (x ∷ es) w e = zero-lt-suc (length es)

  -- ---- no boundary: no data word is flushed, and no part is written, for its lane would give one
  all_same : boundary z m.nvm ≡ None → (w : ℕ) → w < z.words → get_or m.nvm (1 + w) 0 ≡ get_or (replay z.words None h.commits h.start) w 0
  all_same e w l = go (v.cells w l) (cached w l)
    where
      go : (get_or m.nvm (1 + w) 0 ≡ get_or m.cache (1 + w) 0) ⊎ Flushes z m w
          → (get_or m.cache (1 + w) 0 ≡ get_or (replay z.words None h.commits h.start) w 0) ⊎ Made z m v.ts w
          → get_or m.nvm (1 + w) 0 ≡ get_or (replay z.words None h.commits h.start) w 0
      go (inl p) (inl q) = p ∙ q
      go (inl p) (inr y) =
          absurd (cut-clock-some z m v.ts v.running e y.lane y.low y.among y.drained (omega (arith, y.stamp))
          (some-named y.by.entries w y.named))
      go (inr f) q =
          let n = v.flags f.lane f.low w l f.bit in
          absurd (cut-some z m v.ts v.running e f.lane f.low n.newest n.drained (some-named n.by.entries w n.named))

  no-boundary : boundary z m.nvm ≡ None → Shows z m.nvm h.start h.commits
  no-boundary e =
      plain size e
      (ext_get_or 0 (data_of z m.nvm) (replay z.words None h.commits h.start)
      (length-data z m.nvm size ∙ sym (length-replay z.words None h.commits h.start ∙ start-long z base h m k))
      (λ w l. let i : w < z.words = omega (arith, length-data z m.nvm size) in get_or-data z m.nvm w i ∙ all_same e w i))

  -- ---- a boundary
  module _ (b : ℕ) (bound : boundary z m.nvm ≡ Some b) where
    -- the boundary is not below the least floor
    least : (f : Option ℕ) → least_floor_of h.pages ≡ f → NotBelow f (boundary z m.nvm) → (a : ℕ) × (least_floor_of h.pages ≡ Some a) × (a ≤ b)
    least f e n = go f (boundary z m.nvm) e bound n
      where
        go : (f c : Option ℕ) → least_floor_of h.pages ≡ f → c ≡ Some b → NotBelow f c → (a : ℕ) × (least_floor_of h.pages ≡ Some a) × (a ≤ b)
        go f c e q no_boundary = absurd (let x : ◌≡◌ {A = ℕ} 0 1 = cc in omega arith)
        go f c e q (at_least {f = a} {b = d} l) = (a, e, let x : d ≡ b = cc in omega arith)

    -- what a lane's log shows at or above the boundary stands whole in it
    shown-whole : (L : ℕ) → L < z.lanes → {p : List Past} {gs : List Seq} → CutShows z L (complete_in z m.nvm L) (v.ts L) p gs
        → (g : Seq) → In g gs → b ≤ g.stamp → Whole z.slots p g
    shown-whole L l {p} c g i k = go (c.whole i)
      where
        go : (Whole z.slots p g) ⊎ ((In g (v.ts L).gs) × (Whole z.slots (v.ts L).hist g → Whole z.slots p g)) → Whole z.slots p g
        go (inl w) = w
        go (inr (j, f)) =
            let a = least (least_floor_of h.pages) refl floors in
            f (room_whole z.slots (v.to_come L) (v.ts L).hist g (v.room L l a.0 a.1 g j (omega (arith, a.2))))

    -- what is found has the value below its timestamp at a word, unless an earlier sequence of its lane has the timestamp and names the word:
    -- that one is whole, so it is found too, and it is undone after it
    olds-of : (w : ℕ) → w < z.words → (L : ℕ) → L < z.lanes → {p : List Past} {gs : List Seq} → CutShows z L (complete_in z m.nvm L) (v.ts L) p gs
        → All (TrueOf z.words h gs) gs → (q : Complete) → In q (complete_in z m.nvm L) → b ≤ q.stamp
        → OldIn w (value_below z.words w h.start h.commits) (complete_of z m.nvm z.lanes) q
    unfolding TrueOf OldIn value_below
    olds-of w l L k {p} {gs} c t q i g after n x =
        In-All t y.among w l x
        (λ f j e o. after (found_as z.slots L f) (lane-in z m.nvm z.lanes L k (found f j e o)) e
        (undone-later z (omega (arith, v.running.shape.sizes.slots-low)) L k m.nvm c q.stamp
        (λ f j e. shown-whole L k c f j (omega arith)) i (found f j e o) y
        (record { end = f.end; among = j; slot = refl; wrap = refl }) refl e o))
        n
      where
        y : Listed z.slots gs q
        y = In-All c.known i

        found : (f : Seq) → In f gs → f.stamp ≡ q.stamp → f.end < y.end → In (found_as z.slots L f) (complete_in z m.nvm L)
        found f j e o = c.found j y.among o (shown-whole L k c f j (omega arith))

    olds : (w : ℕ) → w < z.words → (q : Complete) → In q (complete_of z m.nvm z.lanes) → b ≤ q.stamp
        → OldIn w (value_below z.words w h.start h.commits) (complete_of z m.nvm z.lanes) q
    olds w l q i =
        In-All (cut_all z m v.ts v.running
        (λ L k c. olds-of w l L k c (v.now L k))
        (λ L k c. olds-of w l L k c (v.before L k))) i

    -- a word that a commit at or above the boundary writes is named by a sequence among those found
    backing : (c : Commit) → In c h.commits → b ≤ c.stamp → (w : ℕ) → w < z.words
        → txn_writes z.words w c.txn (replay z.words (Some c.stamp) h.commits h.start) ≡ true → Backing z.words b (complete_of z m.nvm z.lanes) c w
    unfolding ties.Backed
    backing c i l w n t =
        let a = least (least_floor_of h.pages) refl floors in
        let y = v.backed c i w n t in
        let s = cut-seen z m v.ts v.running b bound y.lane y.low y.among
        (room_whole z.slots (v.to_come y.lane) (v.ts y.lane).hist y.by
        (v.room y.lane y.low a.0 a.1 y.by y.among (omega (arith, a.2, y.stamp))))
        (omega (arith, y.stamp))
        (λ e. In-All (v.open' y.lane y.low y.by e) i (sym y.stamp)) in
        record {
          by = s.by;
          among = s.found;
          from = s.from;
          upto = omega (arith, s.upto, y.stamp);
          named = ap (λ es. writes es w) s.entries ∙ y.named;
        }

    -- a part that is written stands whole, so it is found
    made-whole : (w : ℕ) (y : Made z m v.ts w) → b ≤ y.by.stamp → Whole z.slots (v.ts y.lane).hist y.by
    made-whole w y l =
        let a = least (least_floor_of h.pages) refl floors in
        room_whole z.slots (v.to_come y.lane) (v.ts y.lane).hist y.by
        (v.room y.lane y.low a.0 a.1 y.by y.among (omega (arith, a.2)))

    word : (w : ℕ) → w < z.words → Word z m.nvm h.start h.commits b w
    word w l = go (v.cells w l) (cached w l)
      where
        go : (get_or m.nvm (1 + w) 0 ≡ get_or m.cache (1 + w) 0) ⊎ Flushes z m w
            → (get_or m.cache (1 + w) 0 ≡ get_or (replay z.words None h.commits h.start) w 0) ⊎ Made z m v.ts w
            → Word z m.nvm h.start h.commits b w
        go (inl e) (inl q) = same (e ∙ q)
        go (inl e) (inr y) =
            let up = cut-clock-least z m v.ts v.running b bound y.lane y.low y.among y.drained (omega (arith, y.stamp))
            (some-named y.by.entries w y.named) in
            let s = cut-seen z m v.ts v.running b bound y.lane y.low y.among (made-whole w y up) up
            (not-appended z m v.ts v.running y.lane y.low y.drained) in
            named s.by s.found s.from (ap (λ es. writes es w) s.entries ∙ y.named)
        go (inr f) q =
            let n = v.flags f.lane f.low w l f.bit in
            let s = cut-seen-newest z m v.ts v.running b bound f.lane f.low n.newest n.drained
            (some-named n.by.entries w n.named) in
            named s.by s.found s.from (ap (λ es. writes es w) s.entries ∙ n.named)

    a-boundary : Shows z m.nvm h.start h.commits
    a-boundary =
        cut b
        (cut_at z m.nvm h.start h.commits b size (start-long z base h m k) bound k.rising olds
        (backed-all z.words b (complete_of z m.nvm z.lanes) h.start k.rising backing) word)

  shows : Shows z m.nvm h.start h.commits
  shows = go (boundary z m.nvm) refl
    where
      go : (c : Option ℕ) → boundary z m.nvm ≡ c → Shows z m.nvm h.start h.commits
      go None e = no-boundary e
      go (Some b) e = a-boundary b e

  pub ties-cut : AtCut z m.nvm h
  ties-cut =
      record {
        size = size;
        form = v.running.shape.tail.form;
        even = ap (λ n. n % 2) v.running.shape.base ∙ v.running.shape.even;
        shows = shows;
        floors = floors;
      }
