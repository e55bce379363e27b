-- `bound` is `bound_of` of the record with the lane replaced: the loop has the least floor of the lanes below `l`. Assumes nothing.
use Rattle.std.proofs.Common.{rules, ◌<◌, ◌≡◌, sym, ◌∙◌, arith, length}
use Rattle.record.specs.Record.{bound_of, with_lane}
use Rattle.record.proofs.Loops.{least-empty, least_more}
use Rattle.codec.specs.Fields.{record_of}
use Rattle.codec.specs.inner.ReadLaws.{lanes-read, least-with}
use Rattle.codec.proofs.read.bound.Goals as goal

pub loop-l-init : goal.loop-l-init
loop-l-init c = (search rules, λ m e. sym least-empty)

pub loop-l-preserved : goal.loop-l-preserved
loop-l-preserved c =
    let a = c.args in
    let l = c.loop-l in
    let r = record_of a.words.now in
    let k : l.l < length r.lanes = omega (arith, lanes-read a.words.now) in (
      search rules,
      λ m e. least-with _ _ l.l m _ _ _ _ k e (l.invariant.1 m e) c.floor_with.ensures c.lesser-least.ensures
          ∙ sym (least_more (with_lane r a.lane m).lanes l.l),
    )

pub returns : goal.returns
unfolding bound_of
returns c =
    let l = c.loop-l in
    let e : l.l ≡ c.args.sizes.lanes = omega arith in
    λ m f. rw (← e) (l.invariant.1 m f)
