-- `txn::txn_ok` meets its contract. The loop's invariant: the check of the instructions from i on decides the whole. Assumes nothing.
use Rattle.std.proofs.Common.{ap, ◌∙◌, rules}
use Rattle.txn.specs.Txn.{instruction_ok}
use Rattle.txn.specs.inner.Chunks.{chunk-is}
use Rattle.txn.specs.inner.CheckLaws.{checked-not, checked-none, checked_refused, checked-more, checked-all}
use Rattle.txn.proofs.txn_ok.Goals as goal
use Rattle.txn.proofs.txn_ok.Goals.{then-not-is_empty-via-then-not-is_empty, then-not-is_empty-via-else-not-is_empty+then-not-contains}

pub returns-then-not-is_empty : goal.returns-then-not-is_empty
returns-then-not-is_empty c = elim c.then-not-is_empty.branch [
  | then-not-is_empty-via-then-not-is_empty w ↦ checked-not _ _ _ (λ a b d. search rules)
  | then-not-is_empty-via-else-not-is_empty+then-not-contains w ↦ checked-not _ _ _ (λ a b d. search rules)
]

pub loop-i-init : goal.loop-i-init
loop-i-init c = rw c.as_chunks.ensures.front_len (checked-none _ _ _ (search rules) (search rules) (search rules))

pub returns-then-not-instruction_ok : goal.returns-then-not-instruction_ok
returns-then-not-instruction_ok c =
    let l = c.loop-i in
    let e = chunk-is _ _ l.i c.as_chunks.ensures.front (search rules) in
    checked_refused _ _ _ l.i _ _ (search rules) l.invariant (c.instruction_ok.ensures ∙ ap (instruction_ok _ _) e) c.if-not-instruction_ok.true

pub loop-i-preserved : goal.loop-i-preserved
loop-i-preserved c =
    let l = c.loop-i in
    let e = chunk-is _ _ l.i c.as_chunks.ensures.front (search rules) in
    checked-more _ _ _ l.i _ _ (search rules) l.invariant (c.instruction_ok.ensures ∙ ap (instruction_ok _ _) e) c.if-not-instruction_ok.false

pub returns : goal.returns
returns c = checked-all _ _ _ _ _ (search rules) c.loop-i.invariant
