-- `bound` is `bound_of` of the record with the lane replaced: the loop has the least floor of the lanes below `l`. Assumes nothing.
use Rattle.std.proofs.Common.{◌≤◌, ◌≡◌, take}
use Rattle.record.specs.Record.{least_floor, with_lane}
use Rattle.record.specs.declared.Lane.{Lane}
use Rattle.codec.specs.Fields.{record_of}
use Rattle.codec.proofs.read.bound.Given as goal

abbrev pub invariant-loop-l : goal.invariant-loop-l
invariant-loop-l l = (l.l ≤ l.l-end)
    × ((m : Lane) → m.floor ≡ l.given → l.least ≡ least_floor (take l.l (with_lane (record_of l.words) l.lane m).lanes))
