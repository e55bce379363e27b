-- `image::flush::drain_by` meets its contract: each block is drained or passed over, and then the words past the last one. Assumes nothing.
use Rattle.std.proofs.Common.{◌≡◌, ℕ, ◌+◌, ◌-◌, ◌*◌, ◌/◌, ◌<◌, ◌≤◌, length, add-one, mul-suc, le_trans, arith}
use Rattle.std.proofs.Math.Nat.{mul-le-mul_left}
use Rattle.image.specs.inner.DrainLaws.{on-part, on-skipped, on-whole}
use Rattle.image.proofs.flush.drain_by.Goals as goal
use Rattle.image.proofs.flush.drain_by.Goals.{then-is_flushed, else-is_flushed}

-- the words of one block more, and that there are so many
next : (m k : ℕ) → m * k + m ≡ m * (k + 1)
next m k = rw (add-one k, mul-suc m k) (omega arith)

whole : (m n : ℕ) → 0 < m → m * (n / m) ≤ n
whole m n h = omega arith

inside : (m k n : ℕ) → 0 < m → k < n / m → m * (k + 1) ≤ n
inside m k n h l = le_trans (mul-le-mul_left m (let s : k + 1 ≤ n / m = omega arith in s)) (whole m n h)

pub loop-block-preserved : goal.loop-block-preserved
loop-block-preserved g c =
    let l = c.loop-block in
    let r = c.requires in
    let m = g.row.N in
    elim c.if-is_flushed.branch [
      | then-is_flushed w ↦
          rw (w.nvm-is, w.flags-is)
          (on-part _ _ _ _ r.nvm_len r.flags_len (m * l.block) (m * (l.block + 1)) m (next m l.block) (inside m l.block (length c.args.cache.now) r.some (omega arith)) _ _ l.invariant
          _ _ _ (omega arith) (omega arith) (omega arith) _ _ w.drain.auto.nvm w.drain.auto.flags w.drain.ensures)
      | else-is_flushed w ↦
          rw (w.nvm-is, w.flags-is)
          (on-skipped _ _ _ _ r.nvm_len r.flags_len (m * l.block) (m * (l.block + 1)) m (next m l.block) (inside m l.block (length c.args.cache.now) r.some (omega arith)) _ _ l.invariant
          _ (omega arith) _ c.any_of.ensures _ c.is_flushed.ensures w.if-is_flushed.false)
    ]

pub returns : goal.returns
returns g c =
    let l = c.loop-block in
    let r = c.requires in
    let n = length c.args.cache.now in
    let m = g.row.N in
    let e : l.block ≡ n / m = omega arith in
    on-whole _ _ _ _ n _ _ (omega arith)
    (on-part _ _ _ _ r.nvm_len r.flags_len (m * (n / m)) n (n - m * (n / m)) (omega (arith, whole m n r.some)) (omega arith) _ _ (rw (← e) l.invariant)
    _ _ _ (omega arith) (omega arith) (omega arith) _ _ c.drain-2.auto.nvm c.drain-2.auto.flags c.drain-2.ensures)
