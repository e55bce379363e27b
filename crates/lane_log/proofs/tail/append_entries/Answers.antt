-- `lane_log::tail::append_entries` meets its contract. The loop's invariant (`Appended`): the entries of the first i writes are stored and flushed. Assumes nothing.
use Rattle.std.proofs.Common.{◌≡◌, length, arith, rules, take_all}
use Rattle.txn.specs.inner.WritesLaws.{All-get_or}
use Rattle.lane_log.specs.inner.AppendLaws.{appended-none, appended-more}
use Rattle.lane_log.proofs.tail.append_entries.Goals as goal

pub loop-write-init : goal.loop-write-init
loop-write-init c = appended-none _ _ _ _ _ _ _ c.requires.within

pub entry-slot-requires : goal.entry-slot-requires
entry-slot-requires c =
    let l = c.loop-write in
    record { word_bound = omega (arith, All-get_or l.write-index c.requires.loggable.low (search rules)); wrap_bound = l.invariant.within.wrap }

pub store_slot-requires : goal.store_slot-requires
store_slot-requires c =
    let l = c.loop-write in
    let v = l.invariant.within in
    omega (arith, l.invariant.long, l.invariant.broad)

pub loop-write-preserved : goal.loop-write-preserved
loop-write-preserved c =
    let l = c.loop-write in
    let e = c.entry-slot in
    appended-more _ _ _ _ _ _ _ l.write-index l.end l.cache l.flags _ e.result _ _ l.invariant (search rules) e.ensures c.onward-end.ensures c.store_slot.ensures.written
    (c.store_slot.ensures.flushed c.args.lane c.lane_mask-mask.ensures)

pub returns : goal.returns
returns c =
    let l = c.loop-write in
    let e : l.write-index ≡ length c.args.writes.now = search rules in
    let t = take_all l.write-index c.args.writes.now (omega arith) in
    record { last = rw (← e) l.invariant.place; written = rw (← t) l.invariant.written; flushed = rw (← t) l.invariant.flushed }
