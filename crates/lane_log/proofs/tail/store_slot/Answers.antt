-- `lane_log::tail::store_slot` meets its contract: two stores and two flushes. Assumes nothing.
use Rattle.lane_log.specs.inner.AppendLaws.{slot-stored, slot-flushed}
use Rattle.lane_log.proofs.tail.store_slot.Goals as goal

pub returns : goal.returns
returns c =
    let a = c.args in record {
      written = slot-stored _ _ _ _;
      flushed = λ L e. slot-flushed L a.start a.j a.slot a.flags.now _ _ (c.set_flush.ensures L e) (c.set_flush-2.ensures L e);
    }
