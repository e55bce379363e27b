-- `set_clock` stores the first word. Assumes nothing.
use Rattle.codec.proofs.WriteLaws.{clock-set}
use Rattle.codec.proofs.write.set_clock.Goals as goal

pub returns : goal.returns
returns c = clock-set c.args.words.now c.args.clock c.told-words
