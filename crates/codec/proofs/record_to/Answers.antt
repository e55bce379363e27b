-- `record_to` stores `words_of`: the loop has stored what is before the lanes and the lanes below `l`. Assumes nothing.
use Rattle.std.proofs.Common.{rules, sym, ap, ◌∙◌, ◌+◌, ◌-◌, arith, refl, set, length-set}
use borrow.Rule.Slice.PartMut.{put_mid}
use Rattle.codec.specs.Fields.{lanes_end}
use Rattle.codec.specs.inner.FieldsLaws.{begun_all, lanes-none, lanes_on, record-put}
use Rattle.codec.proofs.record_to.Goals as goal

pub loop-l-init : goal.loop-l-init
loop-l-init c = (search rules, lanes-none c.args.state c.args.words.now c.told-words)

pub loop-l-preserved : goal.loop-l-preserved
loop-l-preserved c =
    let l = c.loop-l in (
      search rules,
      lanes_on c.args.state l.l _ l.words _ l.invariant.1 refl (search rules) (search rules) (search rules) c.put_lane.ensures,
    )

pub returns : goal.returns
returns c =
    let l = c.loop-l in
    let xs = set l.words lanes_end c.args.state.lag in
    ap (λ k. put_mid (lanes_end + 1) (k - (lanes_end + 1)) xs c.copy_from_slice.new.self) (sym (length-set l.words lanes_end c.args.state.lag ∙ l.invariant.1.in_all))
    ∙ begun_all _ _ _ _
    (record-put c.args.state _ _ _ _ l.invariant.1 (omega arith) (search rules) c.holder.ensures c.copy_from_slice.ensures.after) refl
