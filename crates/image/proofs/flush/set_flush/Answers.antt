-- `image::flush::set_flush` meets its contract, by what `with_flush` ensures. Assumes nothing.
use Rattle.image.proofs.flush.set_flush.Goals as goal

pub returns : goal.returns
returns c = λ L e. rw (c.with_flush.ensures L e)
