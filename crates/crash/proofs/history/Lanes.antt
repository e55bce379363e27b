-- The record's lanes and the history's pages after each move: lane L becomes another, the rest stay; the lanes of a start;
-- and the least floor of both. Assumes nothing.
use Rattle.std.specs.Prelude.{Option, Some, None}
use mathlib.Core.Path.{◌≡◌, refl, ap₂, sym, subst}
use mathlib.Core.Logic.{◌≢◌}
use mathlib.Core.List.{List, [], ◌∷◌}
use Prim.Native.Nat.{ℕ, zero, suc, ◌+◌, ◌≤◌, ◌<◌}
use native.Mathlib.Omega.{arith}
use native.Mathlib.Decide.{ℕ_discrete}
use native.Mathlib.Nat.{le_of_suc-le-suc, zero-lt-suc, le_trans}
use lib.ListN.{length, get_or, take, length-set, get_or-replicate}
use lib.Seq.{get_or-set_same, get_or-set_other}
use Rattle.txn.specs.declared.Write.{Write}
use Rattle.image.specs.Image.{max_lanes}
use Rattle.image.specs.declared.Sizes.{Sizes}
use Rattle.lane_log.specs.Log.{latest_in}
use Rattle.lane_log.specs.Append.{advance}
use Rattle.record.specs.Record.{no_lane, lane_at, cursor_of, lesser, least_floor, bound_of, floor_after_append}
use Rattle.record.specs.Record.{with_lane, with_clock, with_last, drained_lane, appended_lane, idle_lane, start_lane, start_record}
use Rattle.record.specs.declared.Pair.{Pair}
use Rattle.record.specs.declared.Lane.{Lane}
use Rattle.record.specs.declared.Record.{Record}
use Rattle.store.specs.Machine.{Machine}
use Rattle.store.specs.Calls.{drained, changed, appended, committed}
use Rattle.store.specs.Calls as calls
use Rattle.crash.specs.History.{Newest, Page, History, blank_page, page_at, floor_or, floor_on_drain, after_drain, stamped, released, least_floor_of}
use Rattle.record.specs.Record.{Phase}

-- ---- one lane
-- in record s, made from r, lane L has become l and the others are as they were
pub record LaneTo (r s : Record) (L : ℕ) (l : Lane) : Type 0 where
  pub here : lane_at s L ≡ l
  pub others : (M : ℕ) → M ≢ L → lane_at s M ≡ lane_at r M
  pub lanes : length s.lanes ≡ length r.lanes

pub lane-to : (r : Record) (L : ℕ) (l : Lane) → L < length r.lanes → LaneTo r (with_lane r L l) L l
unfolding with_lane lane_at
lane-to r L l h =
    record {
      here = get_or-set_same r.lanes L l no_lane h;
      others = λ M d. get_or-set_other r.lanes L M l no_lane d;
      lanes = length-set r.lanes L l;
    }

-- what holds of lane L anew and of the others as before
pub lane-cases : (P : ℕ → Type 0) (L : ℕ) → P L → ((M : ℕ) → M ≢ L → P M) → (M : ℕ) → P M
lane-cases P L here others M = elim (ℕ_discrete M L) [ yes e ↦ subst P (sym e) here | no d ↦ others M d ]

-- every lane in use at a start
pub lane-start : (z : Sizes) (lag base : ℕ) → z.lanes ≤ max_lanes → (L : ℕ) → L < z.lanes → lane_at (start_record lag base) L ≡ start_lane
unfolding lane_at start_record
lane-start z lag base h L i = get_or-replicate max_lanes L start_lane no_lane (le_trans i h)

-- ---- each move
module _ (z : Sizes) (L : ℕ) (m : Machine) (h : L < length m.state.lanes) where
  pub lane-drained : LaneTo m.state (drained z L m).state L (drained_lane (latest_in z m.cache L) (lane_at m.state L))
  unfolding drained
  lane-drained = lane-to m.state L _ h

  pub lane-appended : (ws : List Write) (phase : Phase) (redo : List Pair)
      → LaneTo m.state (appended z L ws phase redo m).state L
      (appended_lane (m.state.clock + 2) (advance z.slots (length ws + 1) (cursor_of (lane_at m.state L))) phase redo (lane_at m.state L))
  unfolding appended changed with_clock lane_at
  lane-appended ws phase redo =
      let s = m.state.clock + 2 in
      let l = lane_at m.state L in
      let a = lane-to (with_clock m.state s) L (appended_lane s (advance z.slots (length ws + 1) (cursor_of l)) phase redo l) h in
      record { here = a.here; others = a.others; lanes = a.lanes }

  pub lane-committed : (ps : List Pair) → LaneTo m.state (committed z L ps m).state L (idle_lane (lane_at m.state L))
  unfolding committed changed with_clock with_last lane_at
  lane-committed ps =
      let a = lane-to (with_clock m.state (m.state.clock + 2)) L (idle_lane (lane_at m.state L)) h in
      record { here = a.here; others = a.others; lanes = a.lanes }

  pub lane-released : LaneTo m.state (calls.released L m).state L (idle_lane (lane_at m.state L))
  unfolding calls.released
  lane-released = lane-to m.state L _ h

-- ---- one page
pub record PageTo (g h : History) (L : ℕ) (p : Page) : Type 0 where
  pub here : page_at h L ≡ p
  pub others : (M : ℕ) → M ≢ L → page_at h M ≡ page_at g M
  pub pages : length h.pages ≡ length g.pages

module _ (L : ℕ) (h : History) (i : L < length h.pages) where
  pub page-drained : PageTo h (after_drain L h) L
      (record { held = (page_at h L).held; newest = (page_at h L).newest; floor = floor_on_drain (page_at h L).newest (page_at h L).floor })
  unfolding after_drain page_at
  page-drained =
      record {
        here = get_or-set_same h.pages L _ blank_page i;
        others = λ M d. get_or-set_other h.pages L M _ blank_page d;
        pages = length-set h.pages L _;
      }

  pub page-stamped : (kind : ℕ → Newest) (held : Option (List ℕ)) (txns : List (List ℕ))
      → PageTo h (stamped L kind held txns h) L
      (record { held = held; newest = kind (h.clock + 2); floor = floor_or (page_at h L).floor (Some (h.clock + 2)) })
  unfolding stamped page_at
  page-stamped kind held txns =
      record {
        here = get_or-set_same h.pages L _ blank_page i;
        others = λ M d. get_or-set_other h.pages L M _ blank_page d;
        pages = length-set h.pages L _;
      }

  pub page-released : PageTo h (released L h) L (record { held = None; newest = (page_at h L).newest; floor = (page_at h L).floor })
  unfolding released page_at
  page-released =
      record {
        here = get_or-set_same h.pages L _ blank_page i;
        others = λ M d. get_or-set_other h.pages L M _ blank_page d;
        pages = length-set h.pages L _;
      }

-- ---- floors
pub appended-floor : (s : ℕ) (floor : Option ℕ) → floor_after_append s floor ≡ floor_or floor (Some s)
unfolding floor_after_append floor_or
appended-floor s None = refl
appended-floor s (Some f) = refl

-- the least floor of the first n lanes is that of n pages
pub least-floors : (n : ℕ) (lanes : List Lane) (pages : List Page) → n ≤ length lanes → length pages ≡ n
    → ((M : ℕ) → M < n → (get_or lanes M no_lane).floor ≡ (get_or pages M blank_page).floor) → least_floor (take n lanes) ≡ least_floor_of pages
unfolding least_floor least_floor_of
least-floors zero lanes [] h e f = refl
least-floors zero lanes (p ∷ ps) h e f = absurd (omega arith)
least-floors (suc n) lanes [] h e f = absurd (omega arith)
least-floors (suc n) [] (p ∷ ps) h e f = absurd (omega arith)
least-floors (suc n) (l ∷ ls) (p ∷ ps) h e f =
    ap₂ lesser (f 0 (zero-lt-suc n)) (least-floors n ls ps (le_of_suc-le-suc h) (omega arith) (λ M i. f (suc M) (let k : suc M < suc n = omega arith in k)))

pub bound-agrees : (z : Sizes) (r : Record) (h : History) → z.lanes ≤ length r.lanes → length h.pages ≡ z.lanes
    → ((M : ℕ) → M < z.lanes → (lane_at r M).floor ≡ (page_at h M).floor) → bound_of z r ≡ least_floor_of h.pages
unfolding bound_of lane_at page_at
bound-agrees z r h l e f = least-floors z.lanes r.lanes h.pages l e f
