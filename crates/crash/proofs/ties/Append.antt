-- The ties are kept by an append, Log's or Mark's: the new sequence has the old values of the present words, its timestamp is above every commit's, and
-- refusal 9 leaves the sequences of the commits at or above the least floor whole. Assumes nothing.
use Rattle.std.specs.Prelude.{Option, Some, None}
use mathlib.Core.Path.{◌≡◌, refl, ap, ◌∙◌, sym, subst}
use mathlib.Core.Logic.{◌≢◌, ◌⊎◌, inl, inr}
use mathlib.Core.Bool.{true, false}
use mathlib.Core.List.{List, [], ◌++◌, append-nil}
use Prim.Native.Nat.{ℕ, ◌+◌, ◌≤◌, ◌<◌}
use native.Mathlib.Omega.{arith}
use native.Mathlib.Nat.{le_trans}
use lib.ListN.{length, get_or}
use Rattle.laws.specs.inner.Tests.{clash}
use Rattle.laws.specs.inner.Lists.{All, more, All-map}
use Rattle.txn.specs.Txn.{max_writes, former, txn_by, run}
use Rattle.txn.specs.inner.TxnLaws.{Chain, chain-nil, run-chain, few-writes, run-low}
use Rattle.txn.specs.declared.Write.{Write}
use Rattle.image.specs.Image.{base_of, data_of, log_start}
use Rattle.image.specs.Flush.{flushed}
use Rattle.image.specs.Stores.{Store}
use Rattle.image.specs.declared.Sizes.{Sizes}
use Rattle.lane_log.specs.Append.{append_stores}
use Rattle.record.specs.Record.{lane_at, cursor_of, is_logged, is_held, appended_lane, with_lane, with_clock, Phase}
use Rattle.record.specs.declared.Record.{Record}
use Rattle.record.specs.declared.Pair.{Pair}
use Rattle.record.specs.declared.Logged.{Logged}
use Rattle.record.specs.declared.Lane.{Lane}
use Rattle.store.specs.Machine.{Machine}
use Rattle.store.specs.Calls.{drained, changed, writes_on, appended, marked, logged}
use Rattle.crash.specs.History.{Newest, closing_at, mark_at, Commit, Page, History, page_at, replay, words_below, present}
use Rattle.crash.specs.History.{floor_or, after_drain, stamped, least_floor_of, writes_logged}
use Rattle.laws.specs.inner.Members.{In, in-cases, there, In-All}
use Rattle.recovery.specs.inner.UndoneLaws.{writes, first_old}
use Rattle.crash.proofs.recovery.Data.{olds_of, length-olds, chain_first, replay-all}
use Rattle.crash.proofs.induction.Moves.{Known, Room}
use Rattle.crash.proofs.history.Lanes.{lane-appended, page-stamped}
use Rattle.crash.proofs.history.Agree.{Book, not-locked}
use Rattle.crash.proofs.history.Answers.{bound-drained}
use Rattle.crash.proofs.history.Onward.{earlier-clock, onward-drained, onward-stamped, writes-held}
use Rattle.crash.proofs.history.Books.{words-free, book-drains, not-held}
use Rattle.crash.proofs.lane.Regions.{Inside, inside-late, stored-base, among-late}
use Rattle.crash.proofs.lane.Append.{append-inside}
use Rattle.crash.proofs.lane.Seqs.{Seq, Hist, next, past_of}
use Rattle.crash.proofs.lane.Newest.{newest_by, closing-by}
use Rattle.crash.proofs.lane.Written.{Whole, RoomFor, room_whole, whole_room, newest_in, newest-whole}
use Rattle.crash.proofs.lane.Shape.{Shape}
use Rattle.crash.proofs.lane.Log.{Track, levelled, extended, next_low}
use Rattle.crash.proofs.lane.Reads.{lane-stays-whole}
use Rattle.crash.proofs.lane.Running.{Running, updated, updated-same, running-logs, running-marks}
use Rattle.crash.proofs.ties.Ties.{TrueOf, Ties}
use Rattle.crash.proofs.ties.Laws.{AtMost, TrackTo, track-to, track-on, Cells, cells-changed, drained-mine, changed-mine}
use Rattle.crash.proofs.ties.Laws.{changed-others, true-more, all-onward, floor-first, given-now, Moving, TiesOf, ties-moved}
use Rattle.crash.proofs.ties.Logs.{ties-logs}
use Rattle.crash.proofs.ties.Drain.{drained-ties}

-- ---- the append comes after a drain of its lane
module _ (z : Sizes) (base : ℕ) (h : History) (m : Machine) (b : Book z base h m) (t : Ties z base m h) (L : ℕ) (k : Known z m L) where
  abbrev pub was : History
  was = after_drain L h

  abbrev pub from : Machine
  from = drained z L m

  abbrev stamp : ℕ
  stamp = m.state.clock + 2

  pub book : Book z base was from
  book = book-drains z base h m b (ties-logs z base m h b t) L k

  pub drain : TiesOf z base from was (updated L (levelled z L m (t.ts L)) t.ts) t.to_come
  drain = drained-ties z base h m b t L k.lane

  pub level-tracks : TrackTo t.ts drain.ties.ts L (levelled z L m (t.ts L))
  level-tracks = subst (λ us. TrackTo t.ts us L (levelled z L m (t.ts L))) (sym drain.tracks) (track-to L (levelled z L m (t.ts L)) t.ts)

  pub shape : Shape z from
  shape = drain.ties.running.shape

  pub clock-was : was.clock ≡ m.state.clock
  unfolding after_drain
  clock-was = sym b.live.clock

  pub given-was : All (λ g. g.stamp ≤ was.clock) (t.ts L).gs
  given-was = rw clock-was (t.running.lanes L k.lane).now.upto

  -- the lane's sequences are true after the drain
  pub now-was : All (TrueOf z.words was (t.ts L).gs) (t.ts L).gs
  now-was = all-onward z h was (onward-drained L h) (given-now z base h m b t L k.lane) (t.now L k.lane)

  pub newest-was : (page_at was L).newest ≡ newest_in (t.ts L).gs
  newest-was = drain.ties.newest L k.lane ∙ ap (λ (u : Track). newest_in u.gs) level-tracks.here

  -- ---- an append of these writes with timestamp c, and the record r after it
  module _ (ws : List Write) (c : ℕ) (r : Record) where
    abbrev pub xs : List Store
    xs = append_stores (log_start z L) z.slots c (cursor_of (lane_at from.state L)) ws

    abbrev pub to : Machine
    to = changed L xs r from

    inside : All (λ x. Inside z L x.at) xs
    unfolding cursor_of
    inside =
        append-inside z L k.lane (omega (arith, shape.sizes.slots-low)) c (cursor_of (lane_at from.state L)) ws
        (next_low z L from (drain.ties.ts L) shape (drain.ties.running.lanes L k.lane))

    pub base-to : base_of to.cache ≡ base_of from.cache
    unfolding changed
    base-to = stored-base from.cache (All-map (λ x i. le_trans (let e : 1 ≤ 1 + z.words = omega arith in e) (inside-late z L x.at i)) inside)

    -- data words stay, and so do their flags
    pub cells-to : Cells z to
    cells-to = cells-changed z from shape drain.ties.cells L k.lane xs r

    pub own-to : (w : ℕ) → w < z.words → flushed L (get_or to.flags (1 + w) 0) ≡ false
    own-to w i =
        changed-mine z from shape L xs r w i
        ∙ rw (among-late z w i (All-map (λ x j. inside-late z L x.at j) inside)) (drained-mine z m t.running.shape L (1 + w))

    pub others-to : (M : ℕ) → M ≢ L → (w : ℕ) → w < z.words → flushed M (get_or to.flags (1 + w) 0) ≡ flushed M (get_or from.flags (1 + w) 0)
    others-to M e w i = changed-others z from shape L xs r M e w i

  -- ---- a timestamp without a commit
  module _ (free : is_held m.state.lock ≡ false) (kind : ℕ → Newest) (held : Option (List ℕ)) where
    abbrev new : History
    new = stamped L kind held [] was

    commits-new : new.commits ≡ h.commits
    unfolding stamped after_drain
    commits-new = append-nil h.commits

    commits-was : new.commits ≡ was.commits
    unfolding stamped
    commits-was = append-nil was.commits

    -- the words below it are the present ones
    words-new : words_below z (Some stamp) new ≡ data_of z m.cache
    unfolding words_below present stamped after_drain
    words-new =
        ap (λ (cs : List Commit). replay z.words (Some stamp) cs h.start) commits-new
        ∙ replay-all z.words stamp h.start (All-map (λ c i. omega (arith, i, b.live.clock)) b.upto)
        ∙ sym (words-free z base L k.lane h m b free)

    -- no commit has it
    apart-new : (s : ℕ) → s ≡ stamp → All (λ c. c.stamp ≢ s) new.commits
    apart-new s e = rw commits-new (All-map (λ c i f. omega (arith, i, b.live.clock)) b.upto)

    -- a sequence of old values of the present words is true with it
    true-new : (gs : List Seq) (g : Seq) (ws : List Write) → g.entries ≡ olds_of ws → g.stamp ≡ stamp → Chain (data_of z m.cache) ws
        → TrueOf z.words new gs g
    unfolding TrueOf words_below
    true-new gs g ws p q c w i x n e =
        ap (λ es. first_old es w x) p ∙ chain_first w x c (ap (λ es. writes es w) (sym p) ∙ e)
        ∙ ap (λ (vs : List ℕ). get_or vs w 0) (sym (ap (λ (s : ℕ). words_below z (Some s) new) q ∙ words-new))

    old-now : All (TrueOf z.words new (t.ts L).gs) (t.ts L).gs
    old-now = all-onward z was new (onward-stamped L kind held was) given-was now-was

  -- what is logged now is what the lane's page has logged
  pub logged-new : is_held m.state.lock ≡ false → (f : List ℕ) → writes_logged z L (stamped L closing_at (Some f) [] was) ≡ writes_on z f m
  unfolding writes_on
  logged-new free f =
      let p = page-stamped L was (rw book.pages k.lane) closing_at (Some f) [] in
      writes-held z (new free closing_at (Some f)) L f stamp (ap (λ (p : Page). p.held) p.here)
      (ap (λ (p : Page). p.newest) p.here ∙ ap (λ (c : ℕ). closing_at (c + 2)) clock-was)
      ∙ ap (run z.words f) (words-new free closing_at (Some f))

  -- ---- one sequence more
  module _ (free : is_held m.state.lock ≡ false) (ws : List Write) (chain : Chain (data_of z m.cache) ws)
      (room : Room z m L (length ws + 1)) (phase : Phase) (redo : List Pair) (kind : ℕ → Newest) (held : Option (List ℕ))
      (kinds : (s : ℕ) → kind s ≡ newest_by (length (olds_of ws)) s) where
    abbrev us : ℕ → Track
    us = updated L (extended z L m ws stamp (t.ts L)) t.ts

    abbrev end : Machine
    end = appended z L ws phase redo from

    newest-to : kind (was.clock + 2) ≡ newest_in (extended z L m ws stamp (t.ts L)).gs
    unfolding newest_in
    newest-to = ap (λ (c : ℕ). kind (c + 2)) clock-was ∙ kinds stamp

    phase-to : (lane_at end.state L).phase ≡ phase
    unfolding appended_lane
    phase-to = ap (λ (l : Lane). l.phase) (lane-appended z L from (le_trans k.lane book.lanes) ws phase redo).here

    base-end : base_of end.cache ≡ base_of from.cache
    unfolding appended
    base-end = base-to ws (from.state.clock + 2) _

    cells-end : Cells z end
    unfolding appended
    cells-end = cells-to ws (from.state.clock + 2) _

    own-end : (w : ℕ) → w < z.words → flushed L (get_or end.flags (1 + w) 0) ≡ false
    unfolding appended
    own-end = own-to ws (from.state.clock + 2) _

    others-end : (M : ℕ) → M ≢ L → (w : ℕ) → w < z.words → flushed M (get_or end.flags (1 + w) 0) ≡ flushed M (get_or from.flags (1 + w) 0)
    unfolding appended
    others-end = others-to ws (from.state.clock + 2) _

    free-end : is_held end.state.lock ≡ false
    unfolding appended changed drained with_lane with_clock
    free-end = free

    -- refusal 9: what is at or above the least floor stays whole
    stays-whole : (f : ℕ) → least_floor_of was.pages ≡ Some f → (g : Seq) → In g (t.ts L).gs → f ≤ g.stamp → Whole z.slots (t.ts L).hist g
        → Whole z.slots ((t.ts L).hist ++ past_of (olds_of ws) stamp) g
    stays-whole f e g i l w =
        lane-stays-whole z L m (t.ts L) t.running.shape (t.running.lanes L k.lane) ws f stamp room.slots
        (bound-drained z base h m b (ties-logs z base m h b t) L k.lane ∙ e) i w l

    -- the new sequence is whole by its position
    kept_new : Running z end us → (g : Seq) → (g ≡ next (t.ts L).hist (olds_of ws) stamp) ⊎ In g (t.ts L).gs
        → ((In g (drain.ties.ts L).gs) × (AtMost (least_floor_of was.pages) g.stamp → RoomFor z.slots (drain.ties.to_come L) (drain.ties.ts L).hist g
        → RoomFor z.slots 0 ((t.ts L).hist ++ past_of (olds_of ws) stamp) g))
        ⊎ (RoomFor z.slots 0 ((t.ts L).hist ++ past_of (olds_of ws) stamp) g)
    kept_new runs g (inl e) =
        let l = subst (λ u. Hist z.words z.slots u.hist u.gs)
        (updated-same L (extended z L m ws stamp (t.ts L)) t.ts) (runs.lanes L k.lane).now.history in
        inr (rw e
        (whole_room z.slots ((t.ts L).hist ++ past_of (olds_of ws) stamp) (next (t.ts L).hist (olds_of ws) stamp) (newest-whole z shape.sizes l)))
    kept_new runs g (inr j) =
        inl (rw level-tracks.here (
          j,
          λ a w. whole_room z.slots ((t.ts L).hist ++ past_of (olds_of ws) stamp) g
              (stays-whole a.stamp a.is g j a.low (room_whole z.slots (drain.ties.to_come L) (t.ts L).hist g w)),
        ))

    module _ (runs : Running z end us) (entries : (x : Logged) → phase ≡ Some x → olds_of ws ≡ olds_of (writes_logged z L (new free kind held))) where
      moving : Moving z L was (new free kind held) from end drain.ties.ts us drain.ties.to_come (λ M. 0)
      moving =
          let a = lane-appended z L from (le_trans k.lane book.lanes) ws phase redo in
          record {
            track = extended z L m ws stamp (t.ts L);
            tracks = track-on level-tracks (track-to L (extended z L m ws stamp (t.ts L)) t.ts);
            page = record { held = held; newest = kind (was.clock + 2); floor = floor_or (page_at was L).floor (Some (was.clock + 2)) };
            pages = page-stamped L was (rw book.pages k.lane) kind held [];
            given = was.clock;
            onward = onward-stamped L kind held was;
            earlier = earlier-clock z base was from book L;
            running = runs;
            at_base = base-end;
            phases = λ M d. ap (λ (l : Lane). l.phase) (a.others M d);
            newest = newest-to;
            entries = λ x e g gs q. let f : g.entries ≡ olds_of ws = cc in f ∙ entries x (sym phase-to ∙ e);
            now = more (true-new free kind held _ (next (t.ts L).hist (olds_of ws) stamp) ws refl refl chain)
                (All-map (λ g i. true-more z.words (new free kind held) (next (t.ts L).hist (olds_of ws) stamp) (t.ts L).gs g i) (old-now free kind held));
            before = old-now free kind held;
            open' = λ g q. apart-new free kind held g.stamp (let f : g.stamp ≡ stamp = cc in f);
            cells = cells-end;
            own = λ w i e. clash _ e (own-end w i);
            others = others-end;
            floor = λ M i g j f.
                floor-first (page_at was L).floor (was.clock + 2) g.stamp
                (omega (arith, In-All (given-now z base was from book drain.ties M i) j)) f;
            coming = λ M d. omega arith;
            stays = λ c i g j e. there (rw level-tracks.here at j);
            kept = λ g j. kept_new runs g (in-cases j);
            fresh = λ c i. inl (subst (In c) (commits-was free kind held) i);
            lock = λ x e f q. not-locked end.state.lock x free-end e;
          }

      pub appended-ties : Ties z base end (new free kind held)
      appended-ties = (ties-moved z base L was (new free kind held) from end book drain.ties us (λ M. 0) moving).ties

-- ---- the calls
pub ties-appends : (z : Sizes) (base : ℕ) (m : Machine) (h : History) (L : ℕ) (f : List ℕ)
    → Book z base h m → Ties z base m h → Known z m L → txn_by former max_writes z.words f ≡ true
    → is_logged (lane_at m.state L).phase ≡ false → is_held m.state.lock ≡ false → 0 < length (writes_on z f m) → Room z m L (length (writes_on z f m) + 1)
    → Ties z base (logged z L (writes_on z f m) (drained z L m)) (stamped L closing_at (Some f) [] (after_drain L h))
unfolding logged writes_on
ties-appends z base m h L f b t k ok i free p r =
    appended-ties z base h m b t L k free (writes_on z f m) chain r _ _ closing_at (Some f)
    (λ s. sym (closing-by (length (olds_of (writes_on z f m))) s (omega (arith, length-olds (writes_on z f m)))))
    (running-logs z m t.ts t.running L k.lane (writes_on z f m) p
    (few-writes former max_writes z.words f (data_of z m.cache) ok) (run-low former max_writes z.words f (data_of z m.cache) ok))
    (λ x e. ap olds_of (sym (logged-new z base h m b t L k free f)))
  where
    chain : Chain (data_of z m.cache) (writes_on z f m)
    chain = run-chain z.words f (data_of z m.cache)

pub ties-marks : (z : Sizes) (base : ℕ) (m : Machine) (h : History) (L : ℕ) → Book z base h m → Ties z base m h → Known z m L → is_held m.state.lock ≡ false
    → Room z m L 1
    → Ties z base (marked z L m) (stamped L mark_at None [] (after_drain L h))
unfolding newest_by olds_of
ties-marks z base m h L b t k free r =
    appended-ties z base h m b t L k free [] chain-nil r None (lane_at m.state L).redo mark_at None (λ s. refl)
    (running-marks z m t.ts t.running L k.lane (lane_at m.state L).redo)
    (λ x e. not-held None x refl e)
