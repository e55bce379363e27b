-- `recovery::scan::latest` meets its contract. Outer invariant: what is offered is what the log holds, all complete sequences among it; inner: the entries
-- passed are whole. A bad slot drops the timestamp, and the first complete one from the top is the latest. The outer measure is how many are offered.
-- Assumes nothing.
use Rattle.std.proofs.Common.{ℕ, Bool, List, ◌+◌, ◌≤◌, ◌<◌, ◌≡◌, refl, sym, ap, ◌∙◌, arith, length, get_or, rules}
use Rattle.winners.specs.inner.Winners.{greatest_at}
use Rattle.slot.specs.Slot.{max_entries}
use Rattle.slot.specs.declared.Content.{Content}
use Rattle.image.specs.declared.Sizes.{Sizes}
use Rattle.image.specs.inner.Facts.{IsImage}
use Rattle.image.specs.inner.ImageLaws.{sizes-in}
use Rattle.lane_log.specs.Log.{slot_at}
use Rattle.lane_log.specs.inner.LogLaws.{back_none, back_more}
use Rattle.lane_log.specs.inner.Search.{entry_back}
use Rattle.recovery.specs.inner.Picking.{Offers}
use Rattle.recovery.specs.inner.PickingLaws.{left-fewer}
use Rattle.recovery.specs.inner.LapLaws.{lap-same}
use Rattle.recovery.specs.inner.ScanLaws.{stamp-count, stamp-wrap, search-low, search-none, search-few, search-stamp, search-drops, search-latest}
use Rattle.recovery.proofs.scan.latest.Goals as goal
use Rattle.recovery.proofs.scan.latest.Goals.{After-winner-j, In-Stamp}

some : {z : Sizes} {image : List ℕ} → IsImage z image → 0 < z.slots
some i = omega (arith, (sizes-in _ i.sizes-ok).slots-low)

-- the winner is a slot
low : {z : Sizes} {image s : List ℕ} {L m : ℕ} → IsImage z image → Offers z image L s → m ≡ greatest_at s (length s) → m < z.slots
low i o e = search-low _ _ _ (some i) _ o _ e

-- slots and entries are read from the lane's log
reads : (W j : ℕ) {c : Content} {log log' : List ℕ} → c ≡ slot_at W log j → log ≡ log' → c ≡ slot_at W log' j
reads W j e f = e ∙ ap (λ x. slot_at W x j) f

enters : (W N j p i : ℕ) {b : Bool} {log log' : List ℕ} → b ≡ entry_back W N log j p i → log ≡ log' → b ≡ entry_back W N log' j p i
enters W N j p i e f = e ∙ ap (λ x. entry_back W N x j p i) f

few : (k : In-Stamp) → (k.in-Stamp.count ≤ max_entries) × (k.in-Stamp.wrap ≤ 1)
few k =
    rw (stamp-count k.in-Stamp.is, stamp-wrap k.in-Stamp.is)
    (search-few _ _ _ (some k.requires.image) k.stamps.stamps k.stamps.invariant.0 _ k.winner-j.ensures
    k.if-stamp-eq0.false _
    (reads k.args.sizes.words k.winner-j.result (rw k.of-log.ensures.words at k.slot_at.ensures) k.of-log.ensures.log))

pub offset_bounds-stamps-j : goal.offset_bounds-stamps-j
offset_bounds-stamps-j c =
    omega (
      arith,
      low c.requires.image c.stamps.invariant.0 c.winner-j.ensures,
      (sizes-in _ c.requires.image.sizes-ok).slots-high,
    )

pub bounds-stamps-j : goal.bounds-stamps-j
bounds-stamps-j c =
    omega (arith, low c.requires.image c.stamps.invariant.0 c.winner-j.ensures, c.stamps.invariant.0.long)

pub returns-then-stamp-eq0-clause-found : goal.returns-then-stamp-eq0-clause-found
returns-then-stamp-eq0-clause-found c =
    search-none _ _ _ (some c.requires.image) c.stamps.stamps c.stamps.invariant.0 _ c.winner-j.ensures
    c.if-stamp-eq0.true

pub slot_at-requires : goal.slot_at-requires
slot_at-requires c =
    rw c.of-log.ensures.slots (low c.requires.image c.stamps.invariant.0 c.winner-j.ensures)

pub entry_back-requires-clause-j_lt_slots : goal.entry_back-requires-clause-j_lt_slots
entry_back-requires-clause-j_lt_slots c = rw c.of-log.ensures.slots (low c.requires.image c.stamps.invariant.0 c.winner-j.ensures)

pub lapped-found-requires-clause-stamps_len : goal.lapped-found-requires-clause-stamps_len
lapped-found-requires-clause-stamps_len c =
    rw (c.loop-i.invariant.2, c.of-log.ensures.slots) c.stamps.invariant.0.long

pub lapped-found-requires-clause-slot_le_slots : goal.lapped-found-requires-clause-slot_le_slots
lapped-found-requires-clause-slot_le_slots c = omega (arith, c.of-log.ensures.slots, low c.requires.image c.stamps.invariant.0 c.winner-j.ensures)

pub loop-i-init : goal.loop-i-init
loop-i-init c = (search rules, back_none _ _ _ _ _, refl, refl)

pub entry_back-requires-clause-i_le_slots : goal.entry_back-requires-clause-i_le_slots
entry_back-requires-clause-i_le_slots c =
    let k = (goal.at.entry_back-requires-clause-i_le_slots c).In-Stamp in
    omega (arith, c.of-log.ensures.slots, few k, (sizes-in _ c.requires.image.sizes-ok).slots-low)

pub entry_back-requires-clause-wrap_bound : goal.entry_back-requires-clause-wrap_bound
entry_back-requires-clause-wrap_bound c = (few (goal.at.entry_back-requires-clause-wrap_bound c).In-Stamp).1

pub stamps-smaller : goal.stamps-smaller
stamps-smaller c =
    let h = low c.requires.image c.stamps.invariant.0 c.winner-j.ensures in
    rw (c.drop_at.ensures.dropped, c.loop-i.invariant.2) (omega (
      arith,
      left-fewer c.stamps.stamps c.args.sizes.slots c.winner-j.result h (omega (arith, c.stamps.invariant.0.long))
          c.if-stamp-eq0.false,
    ))

pub stamps-preserved : goal.stamps-preserved
stamps-preserved c = (
  rw (c.drop_at.ensures.dropped, c.loop-i.invariant.2)
      (search-drops _ _ _ (some c.requires.image) c.stamps.stamps c.stamps.invariant.0 _ c.winner-j.ensures
      c.if-stamp-eq0.false
      c.slot_at.result
      (reads c.args.sizes.words c.winner-j.result (rw c.of-log.ensures.words at c.slot_at.ensures) c.of-log.ensures.log) c.loop-i.i
      (rw (← stamp-count c.in-Stamp.is) (search rules))
      (rw (← stamp-wrap c.in-Stamp.is)
      (sym (enters c.args.sizes.words c.args.sizes.slots c.winner-j.result c.in-Stamp.wrap (c.loop-i.i + 1) (rw (c.of-log.ensures.words, c.of-log.ensures.slots) at c.entry_back.ensures)
      c.of-log.ensures.log) ∙ c.if-not-entry_back.true))),
  c.drop_at.ensures.again,
)

pub loop-i-preserved : goal.loop-i-preserved
loop-i-preserved c =
    let l = c.loop-i in (
      search rules,
      back_more _ _ _ _ _ l.i l.invariant.1
          (sym (enters c.args.sizes.words c.args.sizes.slots c.winner-j.result c.in-Stamp.wrap (l.i + 1) (rw (c.of-log.ensures.words, c.of-log.ensures.slots) at c.entry_back.ensures)
          c.of-log.ensures.log) ∙ c.if-not-entry_back.false),
      l.invariant.2,
      l.invariant.3,
    )

pub returns-in-stamps-clause-found : goal.returns-in-stamps-clause-found
returns-in-stamps-clause-found c =
    let z = c.args.sizes in
    let a = c.stamps.stamps in
    let e : c.loop-i.i ≡ c.in-Stamp.count = omega arith in
    c.given.ensures
    ∙ search-latest _ _ _ (some c.requires.image) a c.stamps.invariant.0 _ c.winner-j.ensures c.if-stamp-eq0.false
    c.slot_at.result
    (reads z.words c.winner-j.result (rw c.of-log.ensures.words at c.slot_at.ensures) c.of-log.ensures.log)
    (rw (← stamp-wrap c.in-Stamp.is, ← stamp-count c.in-Stamp.is) (rw e at c.loop-i.invariant.1))
    _
    ((rw (c.of-log.ensures.words, c.of-log.ensures.slots) at c.lapped-found.ensures)
    ∙ lap-same z.words z.slots (get_or a c.winner-j.result 0) c.winner-j.result c.of-log.ensures.log
    c.loop-i.invariant.2 (stamp-wrap c.in-Stamp.is) (stamp-count c.in-Stamp.is))

pub unreachable-requires : goal.unreachable-requires
unreachable-requires c =
    c.in_default.not-Stamp _ _ _
    (search-stamp _ _ _ (some c.requires.image) c.stamps.stamps c.stamps.invariant.0 _ c.winner-j.ensures
    c.if-stamp-eq0.false _
    (reads c.args.sizes.words c.winner-j.result (rw c.of-log.ensures.words at c.slot_at.ensures) c.of-log.ensures.log))
