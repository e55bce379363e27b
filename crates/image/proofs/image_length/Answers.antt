-- `image::image_length` meets its contract: four words more than the former length, which is small. Assumes nothing.
use Rattle.std.proofs.Common.{arith}
use Rattle.image.specs.inner.ImageLaws.{sizes-in, length-small}
use Rattle.image.proofs.image_length.Goals as goal

pub overflow_add-result : goal.overflow_add-result
overflow_add-result c = omega (arith, c.former_length.ensures, length-small _ (sizes-in _ c.requires))
