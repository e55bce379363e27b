-- `inspection::listing::put_lanes` meets its contract: the loop's invariant: the lanes below this one are printed. The measure is the number of
-- lanes left.
-- Assumes nothing.
use Rattle.std.proofs.Common.{◌≤◌}
use Rattle.report.specs.inner.ReportFacts.{Put}
use Rattle.inspection.specs.Inspection.{lanes_text}
use Rattle.inspection.proofs.listing.put_lanes.Given as goal

abbrev pub invariant-loop-lane : goal.invariant-loop-lane
invariant-loop-lane l = (l.lane ≤ l.lane-end) × Put l.initial.page (lanes_text l.sizes l.nvm l.lane) l.page
