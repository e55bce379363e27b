-- `lane_log::tail::append` meets its contract: the entries' stores and then the timestamp's are the stores of the append. Assumes nothing.
use Rattle.std.proofs.Common.{rules, arith}
use Rattle.lane_log.specs.inner.AppendEntries.{Within}
use Rattle.lane_log.specs.inner.AppendLaws.{end-within, append-stored, append-flushed, append-ends}
use Rattle.lane_log.proofs.tail.append.Goals as goal
use Rattle.lane_log.proofs.tail.append.Goals.{After-append_entries-end}

-- the place after the entries is one of the log
there : (c : After-append_entries-end) → let a = c.args in Within a.slots c.append_entries-end.result
there c = end-within _ _ _ _ c.append_entries-end.ensures.last c.requires.within

pub stamp-slot-requires : goal.stamp-slot-requires
stamp-slot-requires c = let w = there (goal.at.stamp-slot-requires c).After-append_entries-end in omega arith

pub store_slot-requires : goal.store_slot-requires
store_slot-requires c = let w = there (goal.at.store_slot-requires c).After-append_entries-end in search rules

pub onward-requires : goal.onward-requires
onward-requires c = let w = there (goal.at.onward-requires c).After-append_entries-end in omega arith

pub returns : goal.returns
returns c =
    let e = c.append_entries-end.ensures in record {
      last = append-ends _ _ _ _ _ e.last c.onward.ensures;
      written = append-stored _ _ _ _ _ _ _ e.last c.stamp-slot.ensures _ _ _ e.written c.store_slot.ensures.written;
      flushed = append-flushed _ _ _ _ _ _ _ e.last c.stamp-slot.ensures _ _ _ _ e.flushed
          (c.store_slot.ensures.flushed c.args.lane c.lane_mask.ensures);
    }
