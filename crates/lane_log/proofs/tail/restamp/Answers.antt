-- `lane_log::tail::restamp` meets its contract: the wrap bit is bit 0 of the address word. Assumes nothing.
use Rattle.std.proofs.Common.{◌+◌, ◌*◌, arith, get_or}
use Rattle.lane_log.specs.inner.AppendLaws.{restamped, restamp-flushed}
use Rattle.slot.proofs.SlotBits.{low_bit}
use Rattle.lane_log.proofs.tail.restamp.Goals as goal

pub overflow_add-cache : goal.overflow_add-cache
overflow_add-cache c = let a = c.args in omega (arith, low_bit (get_or a.cache.now (a.start + 2 * a.j) 0))

pub returns : goal.returns
returns c = let a = c.args in record {
  written = restamped a.start a.j a.stamp _ a.cache.now (low_bit (get_or a.cache.now (a.start + 2 * a.j) 0));
  flushed = restamp-flushed _ a.start a.j a.stamp a.cache.now _ _
      (c.set_flush.ensures a.lane c.lane_mask.ensures);
}
