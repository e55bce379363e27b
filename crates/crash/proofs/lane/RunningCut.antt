-- All lanes at a cut: the boundary is not below the least floor; what is found is of the histories; and a sequence that stands whole in a cached log is
-- found, at or above the boundary, unless its lane has just appended it. Assumes nothing.
use Rattle.std.specs.Prelude.{Option, Some, None}
use mathlib.Core.Path.{◌≡◌, refl, ap, ◌∙◌, sym, subst}
use mathlib.Core.Logic.{◌⊎◌, inl, inr}
use mathlib.Core.List.{List, [], ◌∷◌}
use Prim.Native.Nat.{ℕ, zero, suc, ◌≤◌, ◌<◌, min}
use native.Mathlib.Omega.{arith}
use native.Mathlib.Nat.{le_refl, le_trans, le_of_suc-le-suc}
use lib.ListN.{length, get_or, take}
use Rattle.laws.specs.inner.Lists.{All, more}
use Rattle.image.specs.declared.Sizes.{Sizes}
use Rattle.lane_log.specs.Log.{Complete, complete_in, latest, latest_in, contribution}
use Rattle.lane_log.specs.inner.LogLaws.{at_one}
use Rattle.record.specs.Record.{no_lane, lane_at, lesser, least_floor, bound_of}
use Rattle.record.specs.declared.Lane.{Lane}
use Rattle.store.specs.Machine.{Machine}
use Rattle.recovery.specs.Recovery.{boundary, complete_of}
use Rattle.crash.specs.History.{closing_at}
use Rattle.crash.specs.Theorem.{NotBelow, no_boundary, at_least}
use Rattle.laws.specs.inner.Members.{In, All-In}
use Rattle.recovery.specs.inner.SequenceLaws.{lane-in, lane-all}
use Rattle.recovery.specs.inner.BoundaryLaws.{boundary-below, boundary-is}
use Rattle.crash.proofs.lane.Seqs.{Seq, Hist, add, stands, restamped}
use Rattle.crash.proofs.lane.Written.{Falls, falls-kind, newest_in, Whole, found_as}
use Rattle.crash.proofs.lane.Newest.{newest_of, giving, closing-by, contribution-is}
use Rattle.crash.proofs.lane.Ghost.{Past}
use Rattle.crash.proofs.lane.Log.{Track}
use Rattle.crash.proofs.lane.Cut.{CutFound, itself, logged, unseen, CutShows}
use Rattle.crash.proofs.lane.Cut.{lane-cut-latest, lane-cut-shows, lane-cut-floor, lane-cut-found, lane-cut-newest}
use Rattle.crash.proofs.lane.Running.{Running}

-- ---- the least floor is at most each
lesser-left : (f : ℕ) (a b : Option ℕ) → a ≡ Some f → (c : ℕ) × (lesser a b ≡ Some c) × (c ≤ f)
unfolding lesser
lesser-left f None b e = absurd (let z : ◌≡◌ {A = ℕ} 0 1 = cc in omega arith)
lesser-left f (Some a) None e = (a, refl, let g : a ≡ f = at_one e in omega arith)
lesser-left f (Some a) (Some b) e = (min a b, refl, let g : a ≡ f = at_one e in omega arith)

lesser-right : (f : ℕ) (a b : Option ℕ) (d : ℕ) → b ≡ Some d → d ≤ f → (c : ℕ) × (lesser a b ≡ Some c) × (c ≤ f)
unfolding lesser
lesser-right f None b d e l = (d, e, l)
lesser-right f (Some a) None d e l = absurd (let z : ◌≡◌ {A = ℕ} 0 1 = cc in omega arith)
lesser-right f (Some a) (Some b) d e l = (min a b, refl, let g : b ≡ d = at_one e in omega arith)

least-below : (n : ℕ) (lanes : List Lane) (L f : ℕ) → L < n → (get_or lanes L no_lane).floor ≡ Some f → (b : ℕ) × (least_floor (take n lanes) ≡ Some b) × (b ≤ f)
unfolding least_floor
least-below zero lanes L f h e = absurd (omega arith)
least-below (suc n) [] L f h e = absurd (let z : ◌≡◌ {A = ℕ} 0 1 = cc in omega arith)
least-below (suc n) (l ∷ ls) zero f h e = lesser-left f l.floor (least_floor (take n ls)) e
least-below (suc n) (l ∷ ls) (suc L) f h e =
    let r = least-below n ls L f (le_of_suc-le-suc h) e in
    lesser-right f l.floor (least_floor (take n ls)) r.0 r.1 r.2

-- where no timestamp is above c, a sequence with it that is no mark makes it the newest
newest-at : (c : ℕ) {gs : List Seq} (g : Seq) → Falls gs → All (λ f. f.stamp ≤ c) gs → In g gs → c ≤ g.stamp → 0 < length g.entries
    → newest_in gs ≡ closing_at g.stamp
unfolding newest_in
newest-at c {gs = []} g h u i l p = absurd (elim i [ ])
newest-at c {gs = f ∷ gs} g h (more a u) i l p = sym (falls-kind g h i (omega arith)) ∙ closing-by (length g.entries) g.stamp p

giving-closing : (s : ℕ) → giving (closing_at s) ≡ Some s
unfolding giving
giving-closing s = refl

-- a sequence is appended once
append-once : (W N : ℕ) {h : List Past} {g : Seq} {gs : List Seq} → Hist W N h (g ∷ gs) → In g gs → ⊥
append-once W N (add {h = h} H es s ok) i = omega (arith, (stands W N H i).below)

-- a sequence g that is found in the image at or above b, as it is or with its logged timestamp
pub record Seen (z : Sizes) (image : List ℕ) (b : ℕ) (g : Seq) : Type 0 where
  pub by : Complete
  pub found : In by (complete_of z image z.lanes)
  pub from : b ≤ by.stamp
  pub upto : by.stamp ≤ g.stamp
  pub entries : by.entries ≡ g.entries

module _ (z : Sizes) (m : Machine) (ts : ℕ → Track) (v : Running z m ts) where
  -- ---- the boundary
  -- at most what each lane gives
  boundary-least : (b L c : ℕ) → boundary z m.nvm ≡ Some b → L < z.lanes → contribution (latest_in z m.nvm L) ≡ Some c → b ≤ c
  boundary-least b L c e l f =
      let r = boundary-below z m.nvm L c l f in
      let g : r.stamp ≡ b = at_one (sym r.is ∙ e) in
      omega (arith, r.most)

  pub cut-floors : NotBelow (bound_of z m.state) (boundary z m.nvm)
  unfolding bound_of lane_at
  cut-floors = go (boundary z m.nvm) refl
    where
      least : (L f b : ℕ) → L < z.lanes → (get_or m.state.lanes L no_lane).floor ≡ Some f → f ≤ b → NotBelow (least_floor (take z.lanes m.state.lanes)) (Some b)
      least L f b l e k = let r = least-below z.lanes m.state.lanes L f l e in rw r.1 (at_least (le_trans r.2 k))

      by-lane : (L b : ℕ) → L < z.lanes → (f c : Option ℕ) → (get_or m.state.lanes L no_lane).floor ≡ f → c ≡ Some b → NotBelow f c
          → NotBelow (least_floor (take z.lanes m.state.lanes)) (Some b)
      by-lane L b l f c p q no_boundary = absurd (let z : ◌≡◌ {A = ℕ} 0 1 = cc in omega arith)
      by-lane L b l f c p q (at_least {f = x} {b = y} k) = least L x b l p (let e : y ≡ b = at_one q in omega arith)

      go : (c : Option ℕ) → boundary z m.nvm ≡ c → NotBelow (least_floor (take z.lanes m.state.lanes)) c
      go None e = no_boundary
      go (Some b) e =
          let r = boundary-is z m.nvm b e in
          by-lane r.lane b r.low _ _ refl r.latest (lane-cut-floor z r.lane m (ts r.lane) v.shape (v.lanes r.lane r.low))

  -- a lane gives the clock's timestamp where a sequence that is no mark has it, now and at the last drain
  cut-gives : (L : ℕ) → L < z.lanes → {g : Seq} → In g (ts L).gs → In g (ts L).priors → m.state.clock ≤ g.stamp → 0 < length g.entries
      → contribution (latest_in z m.nvm L) ≡ Some g.stamp
  cut-gives L l {g} i j up some =
      contribution-is (latest_in z m.nvm L) ∙ ap giving (go (lane-cut-latest z L m (ts L) v.shape (v.lanes L l))) ∙ giving-closing g.stamp
    where
      go : (newest_of (latest_in z m.nvm L) ≡ newest_in (ts L).gs) ⊎ (newest_of (latest_in z m.nvm L) ≡ newest_in (ts L).priors)
          → newest_of (latest_in z m.nvm L) ≡ closing_at g.stamp
      go (inl e) = e ∙ newest-at m.state.clock g (v.lanes L l).now.falls (v.lanes L l).now.upto i up some
      go (inr e) = e ∙ newest-at m.state.clock g (v.lanes L l).before.falls (v.lanes L l).before.upto j up some

  -- then there is a boundary, not above it
  pub cut-clock-some : boundary z m.nvm ≡ None → (L : ℕ) → L < z.lanes → {g : Seq} → In g (ts L).gs → In g (ts L).priors → m.state.clock ≤ g.stamp
      → 0 < length g.entries → ⊥
  cut-clock-some e L l {g} i j up some =
      let r = boundary-below z m.nvm L g.stamp l (cut-gives L l i j up some) in
      let d = r.is in
      let z : ◌≡◌ {A = ℕ} 0 1 = cc in
      omega arith

  pub cut-clock-least : (b : ℕ) → boundary z m.nvm ≡ Some b → (L : ℕ) → L < z.lanes → {g : Seq} → In g (ts L).gs → In g (ts L).priors
      → m.state.clock ≤ g.stamp → 0 < length g.entries → b ≤ g.stamp
  cut-clock-least b e L l {g} i j up some = boundary-least b L g.stamp e l (cut-gives L l i j up some)

  -- and what was there at the last drain is not just appended
  pub not-appended : (L : ℕ) → L < z.lanes → {g : Seq} → In g (ts L).priors → (ts L).gs ≡ g ∷ (ts L).priors → ⊥
  not-appended L l {g} i e = append-once z.words z.slots (subst (Hist z.words z.slots (ts L).hist) e (v.lanes L l).now.history) i

  -- there is one where some lane's newest sequence is no mark, and drained or committed
  pub cut-some : boundary z m.nvm ≡ None → (L : ℕ) → L < z.lanes → {g : Seq} {rest : List Seq} → (ts L).gs ≡ g ∷ rest
      → length (ts L).priors ≡ length (ts L).gs → 0 < length g.entries → ⊥
  unfolding latest_in
  cut-some e L l p k some =
      let c = lane-cut-newest z L m (ts L) v.shape (v.lanes L l) p k some in
      let r = boundary-below z m.nvm L c.stamp l c.latest in
      let g = r.is in
      let z : ◌≡◌ {A = ℕ} 0 1 = cc in
      omega arith

  -- ---- what is found
  -- of each lane all of it is of the present history, or all of it is of the one at its last drain
  pub cut_all : {P : Complete → Type 0}
      → ((L : ℕ) → L < z.lanes → CutShows z L (complete_in z m.nvm L) (ts L) (ts L).hist (ts L).gs → (q : Complete) → In q (complete_in z m.nvm L) → P q)
      → ((L : ℕ) → L < z.lanes → CutShows z L (complete_in z m.nvm L) (ts L) (ts L).prior (ts L).priors → (q : Complete) → In q (complete_in z m.nvm L)
      → P q)
      → All P (complete_of z m.nvm z.lanes)
  cut_all {P} f g = lane-all z m.nvm z.lanes (λ L l. go L l (lane-cut-shows z L m (ts L) v.shape (v.lanes L l)))
    where
      go : (L : ℕ) → L < z.lanes → (CutShows z L (complete_in z m.nvm L) (ts L) (ts L).hist (ts L).gs)
          ⊎ (CutShows z L (complete_in z m.nvm L) (ts L) (ts L).prior (ts L).priors) → All P (complete_in z m.nvm L)
      go L l (inl c) = All-In (complete_in z m.nvm L) (f L l c)
      go L l (inr c) = All-In (complete_in z m.nvm L) (g L l c)

  -- ---- what is surely found
  module _ (b : ℕ) (bound : boundary z m.nvm ≡ Some b) (L : ℕ) (lane : L < z.lanes) where
    from-latest : (s : ℕ) → contribution (latest (complete_in z m.nvm L)) ≡ Some s → b ≤ s
    unfolding latest_in
    from-latest s e = boundary-least b L s bound lane e

    -- a sequence at or above the boundary that is whole in the cached log, and not just appended
    pub cut-seen : {g : Seq} → In g (ts L).gs → Whole z.slots (ts L).hist g → b ≤ g.stamp → ((ts L).gs ≡ g ∷ (ts L).priors → ⊥) → Seen z m.nvm b g
    cut-seen {g} i w k settled = go (lane-cut-found z L m (ts L) v.shape (v.lanes L lane) i w)
      where
        go : CutFound z.slots L (complete_in z m.nvm L) (ts L).priors (ts L).gs g → Seen z m.nvm b g
        go (itself j) =
            record { by = found_as z.slots L g; found = lane-in z m.nvm z.lanes L lane j; from = k; upto = le_refl g.stamp; entries = refl }
        go (logged s up c j) =
            record {
              by = found_as z.slots L (restamped s g);
              found = lane-in z m.nvm z.lanes L lane j;
              from = from-latest s c;
              upto = omega arith;
              entries = refl;
            }
        go (unseen e) = absurd (settled e)

    -- the newest of a lane that has not just appended, if it is no mark
    pub cut-seen-newest : {g : Seq} {rest : List Seq} → (ts L).gs ≡ g ∷ rest → length (ts L).priors ≡ length (ts L).gs → 0 < length g.entries
        → Seen z m.nvm b g
    cut-seen-newest {g} e k some =
        let c = lane-cut-newest z L m (ts L) v.shape (v.lanes L lane) e k some in
        record {
          by = found_as z.slots L (restamped c.stamp g);
          found = lane-in z m.nvm z.lanes L lane c.found;
          from = from-latest c.stamp c.latest;
          upto = c.upto;
          entries = refl;
        }
