-- `append::put_mark` meets its contract: the record changed once is the drained one with a mark appended.
-- Assumes nothing.
use Rattle.std.proofs.Common.{Ok, ℕ, ◌+◌, ap, [], refl}
use Rattle.store.specs.inner.StoreLaws.{lane-small}
use Rattle.append.specs.inner.LogMarkLaws.{lane_inside, marks}
use Rattle.store.specs.Interface.{answer_of}
use Rattle.store.specs.inner.ResultLaws.{taken-number}
use Rattle.append.proofs.put_mark.Goals as goal

pub cursor-cursor-requires : goal.cursor-cursor-requires
cursor-cursor-requires c =
    let p = c.requires in
    let k = p.after_drain.appendable in
    lane-small _ _ k.image.sizes-ok k.lane_below

pub put_appended-requires : goal.put_appended-requires
put_appended-requires c =
    let p = c.requires in
    let k = p.after_drain.appendable in
    lane-small _ _ k.image.sizes-ok k.lane_below

pub returns : goal.returns
returns c =
    let k = c.requires.after_drain.appendable in
    let e = ap (λ (k : ℕ). k + 2) c.clock-stamp.ensures in record {
      stamp = e;
      marked = λ before pairs nvm answer. marks _ _ _ _ _ c.requires.after_drain.found (lane_inside _ _ c.args.words.now k.image.sizes-ok k.lane_below)
          pairs nvm _ [] _ _ _ _ _ e c.cursor-cursor.ensures c.append-end.ensures.after c.append-end.ensures.written c.append-end.ensures.flushed before _
          (answer_of (Ok answer)) (taken-number answer) refl c.put_appended.ensures;
    }
