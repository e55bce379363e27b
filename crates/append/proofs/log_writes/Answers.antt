-- `append::log_writes` meets its contract: the record changed once is the drained one appended to.
-- Assumes nothing.
use Rattle.std.proofs.Common.{ℕ, ◌+◌, ap}
use Rattle.store.specs.inner.StoreLaws.{lane-small}
use Rattle.append.specs.inner.LogMarkLaws.{lane_inside, logs}
use Rattle.store.specs.Interface.{answer_of}
use Rattle.append.proofs.log_writes.Goals as goal

pub cursor-cursor-requires : goal.cursor-cursor-requires
cursor-cursor-requires c =
    let p = c.requires in
    let k = p.after_drain.appendable in
    lane-small _ _ k.image.sizes-ok k.lane_below

pub set_redo-requires : goal.set_redo-requires
set_redo-requires c =
    let p = c.requires in
    let k = p.after_drain.appendable in
    lane-small _ _ k.image.sizes-ok k.lane_below

pub put_appended-requires : goal.put_appended-requires
put_appended-requires c =
    let p = c.requires in
    let k = p.after_drain.appendable in
    lane-small _ _ k.image.sizes-ok k.lane_below

pub returns : goal.returns
unfolding answer_of
returns c =
    let k = c.requires.after_drain.appendable in
    λ before pairs nvm. logs _ _ _ _ _ c.requires.after_drain.found (lane_inside _ _ c.args.words.now k.image.sizes-ok k.lane_below) pairs nvm _
    c.args.writes.now _ _ _ _ _ (ap (λ (k : ℕ). k + 2) c.clock-stamp.ensures) c.cursor-cursor.ensures c.append-end.ensures.after c.append-end.ensures.written
    c.append-end.ensures.flushed before _ _ _ c.pairs_of.ensures c.set_redo.ensures c.put_appended.ensures
