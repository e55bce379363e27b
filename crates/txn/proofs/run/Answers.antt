-- `txn::run` meets its contract. The loop's invariant is `Reached`: the writes so far, and the rest of the instructions gives the rest. Assumes nothing.
use Rattle.std.proofs.Common.{length, ◌∙◌, eq-eqb, ne_eqb, arith, rules}
use Rattle.txn.specs.Txn.{instruction_at, applied, current}
use Rattle.txn.specs.inner.Chunks.{chunk-is}
use Rattle.txn.specs.inner.CheckLaws.{ok-few}
use Rattle.txn.specs.inner.Progress.{Stores}
use Rattle.txn.specs.inner.ProgressLaws.{reached-none, reached-all, reached-over, reached-known, reached-low, reached-value, reached-skip, sets, copies, adds, reached-write}
use Rattle.txn.proofs.run.Goals as goal
use Rattle.txn.proofs.run.Goals.{then-value-eq0, else-value-eq0, in-Set, in-Copy, in-Add}

pub loop-instruction-init : goal.loop-instruction-init
loop-instruction-init g c = rw c.new-writes.ensures (reached-none _ _ _ c.requires.txn_value)

pub loop-instruction-preserved-then-passed-gt0 : goal.loop-instruction-preserved-then-passed-gt0
loop-instruction-preserved-then-passed-gt0 g c = reached-over c.loop-instruction.invariant (search rules) c.if-passed-gt0.true

pub unreachable-requires : goal.unreachable-requires
unreachable-requires g c =
    let l = c.loop-instruction in
    let k = chunk-is c.args.txn.now c.as_chunks.result.0.now l.instruction-index c.as_chunks.ensures.front (search rules) in
    reached-known l.invariant (search rules) (rw k at c.in_default.ensures)

pub value-requires-clause-word_in_bounds : goal.value-requires-clause-word_in_bounds
value-requires-clause-word_in_bounds g c =
    let l = c.loop-instruction in
    let k = chunk-is c.args.txn.now c.as_chunks.result.0.now l.instruction-index c.as_chunks.ensures.front (search rules) in
    let e = rw c.in-Copy.is at c.in-Ok.ensures in
    (reached-low l.invariant (search rules) _ (e ∙ k)).1

pub value-requires-in-Add-clause-word_in_bounds : goal.value-requires-in-Add-clause-word_in_bounds
value-requires-in-Add-clause-word_in_bounds g c =
    let l = c.loop-instruction in
    let k = chunk-is c.args.txn.now c.as_chunks.result.0.now l.instruction-index c.as_chunks.ensures.front (search rules) in
    let e = rw c.in-Add.is at c.in-Ok.ensures in
    (reached-low l.invariant (search rules) _ (e ∙ k)).1

pub value-requires-in-Skip-clause-word_in_bounds : goal.value-requires-in-Skip-clause-word_in_bounds
value-requires-in-Skip-clause-word_in_bounds g c =
    let l = c.loop-instruction in
    let k = chunk-is c.args.txn.now c.as_chunks.result.0.now l.instruction-index c.as_chunks.ensures.front (search rules) in
    let e = rw c.in-Skip.is at c.in-Ok.ensures in
    (reached-low l.invariant (search rules) _ (e ∙ k)).1

pub returns : goal.returns
returns g c = reached-all c.loop-instruction.invariant (search rules)

pub push-requires : goal.push-requires
push-requires g c =
    let l = c.loop-instruction in
    (search rules, omega (arith, l.invariant.few, ok-few current _ _ _ c.requires.txn_value))

pub loop-instruction-preserved-in-Skip : goal.loop-instruction-preserved-in-Skip
loop-instruction-preserved-in-Skip g c =
    let l = c.loop-instruction in
    let k = chunk-is c.args.txn.now c.as_chunks.result.0.now l.instruction-index c.as_chunks.ensures.front (search rules) in
    let e = rw c.in-Skip.is at c.in-Ok.ensures in
    let v = reached-value l.invariant (search rules) _ c.as_slice-before.ensures.value _ _ (reached-low l.invariant (search rules) _ (e ∙ k)).1 c.value-in-Skip.ensures in
    let s = reached-skip l.invariant (search rules) (search rules) _ _ _ (e ∙ k) v in
    elim c.if-value-eq0.branch [ then-value-eq0 w ↦ rw w.passed-is (rw (eq-eqb c.value-in-Skip.result 0 w.if-value-eq0.true) at s) | else-value-eq0 w ↦ rw w.passed-is (rw (ne_eqb c.value-in-Skip.result 0 w.if-value-eq0.false) at s) ]

pub value-old-requires-clause-word_in_bounds : goal.value-old-requires-clause-word_in_bounds
value-old-requires-clause-word_in_bounds g c =
    let l = c.loop-instruction in
    let k = chunk-is c.args.txn.now c.as_chunks.result.0.now l.instruction-index c.as_chunks.ensures.front (search rules) in
    elim c.match-operation.branch [
      | in-Set w ↦ rw w.word-is (reached-low l.invariant (search rules) _ (rw w.in-Set.is at c.in-Ok.ensures ∙ k)).0
      | in-Copy w ↦ rw w.word-is (reached-low l.invariant (search rules) _ (rw w.in-Copy.is at c.in-Ok.ensures ∙ k)).0
      | in-Add w ↦ rw w.word-is (reached-low l.invariant (search rules) _ (rw w.in-Add.is at c.in-Ok.ensures ∙ k)).0
    ]

pub loop-instruction-preserved : goal.loop-instruction-preserved
loop-instruction-preserved g c =
    let l = c.loop-instruction in
    let k = chunk-is c.args.txn.now c.as_chunks.result.0.now l.instruction-index c.as_chunks.ensures.front (search rules) in
    let s : Stores (length c.args.memory.now) (instruction_at c.args.txn.now l.instruction-index) (applied l.writes c.args.memory.now) c.match-operation.word.0 c.match-operation.word.1 =
    elim c.match-operation.branch [
      | in-Set w ↦ rw w.word-is (sets _ _ _ _ _ (rw w.in-Set.is at c.in-Ok.ensures ∙ k))
      | in-Copy w ↦ rw w.word-is
          (let e = rw w.in-Copy.is at c.in-Ok.ensures ∙ k in
          copies _ _ _ _ _ _ e (reached-value l.invariant (search rules) _ c.as_slice-before.ensures.value _ _ (reached-low l.invariant (search rules) _ e).1 w.value.ensures))
      | in-Add w ↦ rw w.word-is
          (let e = rw w.in-Add.is at c.in-Ok.ensures ∙ k in
          adds _ _ _ _ _ _ _ e (reached-value l.invariant (search rules) _ c.as_slice-before.ensures.value _ _ (reached-low l.invariant (search rules) _ e).1 w.value-in-Add.ensures))
    ] in
    reached-write l.invariant (search rules) (search rules) _ _ s _ c.as_slice-before.ensures.value _ _ _ c.value-old.ensures c.push.ensures c.len.ensures.value
