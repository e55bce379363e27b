-- `lane_log::Log::fold_high` meets its contract. The loops' invariant: what a step that changes nothing at a low slot makes of the slots passed. Assumes
-- nothing.
use Rattle.std.proofs.Common.{ℕ, ◌*◌, ◌≤◌, ◌≡◌}
use Rattle.std.specs.List.{fold, range_with_len}
use Rattle.lane_log.specs.inner.Search.{group, SkipsLow}
use Rattle.lane_log.proofs.Log.fold_high.Given as goal

abbrev pub invariant-loop-k : goal.invariant-loop-k
invariant-loop-k g l = (l.k ≤ l.k-end)
    × ((h : g.row.A.Denot → ℕ → g.row.A.Denot) → ((a : g.row.A.Denot) (j : ℕ) (r : g.row.A.Denot) → goal.F-post g l.step a j r → r ≡ h a j)
    → SkipsLow l.self.log.now h → l.folded ≡ fold h l.fn.start (range_with_len 0 (group * l.k)))

abbrev pub invariant-loop-j : goal.invariant-loop-j
invariant-loop-j g l = (l.j ≤ l.j-end)
    × ((h : g.row.A.Denot → ℕ → g.row.A.Denot) → ((a : g.row.A.Denot) (j : ℕ) (r : g.row.A.Denot) → goal.F-post g l.step a j r → r ≡ h a j)
    → SkipsLow l.self.log.now h → l.folded ≡ fold h l.fn.start (range_with_len 0 l.j))

abbrev pub invariant-loop-j-2 : goal.invariant-loop-j-2
invariant-loop-j-2 g l = (l.j ≤ l.j-end)
    × ((h : g.row.A.Denot → ℕ → g.row.A.Denot) → ((a : g.row.A.Denot) (j : ℕ) (r : g.row.A.Denot) → goal.F-post g l.step a j r → r ≡ h a j)
    → SkipsLow l.self.log.now h → l.folded ≡ fold h l.fn.start (range_with_len 0 l.j))
