-- `normalise` leaves `words_of` of the record that it found: the loop has brought the lanes below `l` to normal form, and what is behind them is as it was.
-- Assumes nothing.
use Rattle.std.proofs.Common.{rules, sym, ap, ◌∙◌, ◌+◌, ◌-◌, arith, refl, take, drop}
use borrow.Rule.Slice.PartMut.{put_mid}
use Rattle.codec.specs.Fields.{lanes_end, lock_of, lock_words}
use Rattle.codec.specs.inner.FieldsLaws.{begun_all}
use Rattle.codec.proofs.WriteLaws.{normalised-none, normalised-on, normalised-all}
use Rattle.codec.proofs.write.normalise.Goals as goal

pub loop-l-init : goal.loop-l-init
loop-l-init c = (search rules, normalised-none c.args.words.now c.told-words)

pub loop-l-preserved : goal.loop-l-preserved
loop-l-preserved c =
    let l = c.loop-l in
    (search rules, normalised-on c.args.words.now l.l _ l.words _ l.invariant.1 refl (search rules) (search rules) c.normalise_lane.ensures)

pub returns : goal.returns
returns c =
    let l = c.loop-l in
    let ws = l.words in
    let n = sym l.invariant.1.begun.in_all in
    ap (λ k. put_mid (lanes_end + 1) (k - (lanes_end + 1)) ws c.normalise_lock.new.words) n
    ∙ begun_all _ _ _ _
    (normalised-all c.args.words.now l.l ws _ l.invariant.1 (omega arith)
    (c.normalise_lock.ensures ∙ ap (λ k. lock_words (lock_of (take (k - (lanes_end + 1)) (drop (lanes_end + 1) ws)))) n)) refl
