-- `recovery::stores::Stores::clear_logs` meets its contract: a stretch of zeros as long as the limit lets it be is the stores that are made.
-- Assumes nothing.
use Rattle.std.proofs.Common.{◌+◌, ◌*◌, ◌-◌, ◌≤◌, arith, length}
use Rattle.std.proofs.Math.Nat.{min-le_right}
use Rattle.image.specs.Image.{former_length}
use Rattle.image.specs.inner.ImageLaws.{sizes-in, logs-small}
use Rattle.recovery.specs.inner.LimitLaws.{limited-zeros}
use Rattle.recovery.proofs.stores.Stores.clear_logs.Goals as goal
use Rattle.recovery.proofs.stores.Stores.clear_logs.Goals.{After-made}

pub overflow_mul-count : goal.overflow_mul-count
overflow_mul-count c = omega (arith, (sizes-in _ c.requires.image.sizes-ok).lanes-high)

pub overflow_mul-count-2 : goal.overflow_mul-count-2
overflow_mul-count-2 c = omega (arith, logs-small _ (sizes-in _ c.requires.image.sizes-ok))

pub overflow_add-start : goal.overflow_add-start
overflow_add-start c = omega (arith, (sizes-in _ c.requires.image.sizes-ok).words-high)

-- the stretch lies in the image
inside : (c : After-made)
    → 1 + c.args.sizes.words + c.made.result ≤ length c.args.nvm.now
unfolding former_length
inside c =
    let a = c.args in
    omega (
      arith,
      c.made.ensures,
      min-le_right (a.self.now.limit - a.self.now.due) (2 * a.sizes.lanes * a.sizes.slots),
      c.requires.image.in_image,
    )

pub overflow_add-end : goal.overflow_add-end
overflow_add-end c =
    let a = c.args in
    let s = sizes-in _ c.requires.image.sizes-ok in
    omega (arith, c.made.ensures, min-le_right (a.self.now.limit - a.self.now.due) (2 * a.sizes.lanes * a.sizes.slots), s.words-high, logs-small _ s)

pub offset_bounds-nvm-start : goal.offset_bounds-nvm-start
offset_bounds-nvm-start c = omega (arith, (sizes-in _ c.requires.image.sizes-ok).words-high)

pub slice_bounds-clear_whole_words-end : goal.slice_bounds-clear_whole_words-end
slice_bounds-clear_whole_words-end c = inside c

pub overflow_add-self : goal.overflow_add-self
overflow_add-self c = omega (arith, logs-small _ (sizes-in _ c.requires.image.sizes-ok))

pub returns-clause-written : goal.returns-clause-written
returns-clause-written c =
    let m = (goal.at.returns-clause-written c).After-made in
    let a = c.args in
    limited-zeros _ _ (1 + a.sizes.words) _ c.made.result a.nvm.now _ c.made.ensures (inside m) c.clear_whole_words.ensures
