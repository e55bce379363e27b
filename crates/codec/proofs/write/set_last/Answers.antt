-- `set_last` stores the second word. Assumes nothing.
use Rattle.codec.proofs.WriteLaws.{last_set}
use Rattle.codec.proofs.write.set_last.Goals as goal

pub returns : goal.returns
returns c = last_set c.args.words.now c.args.last c.told-words
