-- `lock::writes_of` meets its contract: the loop has the writes of the first `i` pairs. Assumes nothing.
use Rattle.std.proofs.Common.{◌∙◌, rules, arith, take_all}
use Rattle.lock.specs.inner.PartsLaws.{word-low, made_none, made_more, made-few}
use Rattle.lock.proofs.writes_of.Goals as goal

pub loop-i-init : goal.loop-i-init
loop-i-init c = c.new-writes.ensures ∙ made_none c.args.part.now _

pub value_before-old-requires : goal.value_before-old-requires
value_before-old-requires c = word-low _ c.args.part.now c.loop-i.i c.requires.part_value (search rules)

pub push-requires : goal.push-requires
push-requires c =
    let l = c.loop-i in
    (search rules, omega (arith, made-few c.args.part.now _ l.i _ l.invariant (search rules), c.requires.part_len))

pub loop-i-preserved : goal.loop-i-preserved
loop-i-preserved c =
    let l = c.loop-i in
    c.push.ensures ∙ made_more _ _ l.i _ _ l.invariant (search rules) c.value_before-old.ensures

pub returns : goal.returns
returns c =
    let t = take_all c.loop-i.i c.args.part.now (search rules) in
    rw (← t) c.loop-i.invariant
