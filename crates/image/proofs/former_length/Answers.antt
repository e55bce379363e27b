-- `image::former_length` meets its contract: sizes in range keep every sum and product small. Assumes nothing.
use Rattle.std.proofs.Common.{arith}
use Rattle.image.specs.inner.ImageLaws.{sizes-in, logs-small}
use Rattle.image.proofs.former_length.Goals as goal

pub overflow_add-result : goal.overflow_add-result
overflow_add-result c = let s = sizes-in c.args.sizes c.requires in omega arith

pub overflow_mul-result : goal.overflow_mul-result
overflow_mul-result c = let s = sizes-in c.args.sizes c.requires in omega arith

pub overflow_mul-result-2 : goal.overflow_mul-result-2
overflow_mul-result-2 c = omega (arith, logs-small c.args.sizes (sizes-in c.args.sizes c.requires))

pub overflow_add-result-2 : goal.overflow_add-result-2
overflow_add-result-2 c =
    let s = sizes-in c.args.sizes c.requires in
    omega (arith, logs-small c.args.sizes s)
