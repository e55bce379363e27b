-- `lock` is the lock of the record's last words. Assumes nothing.
use Rattle.std.proofs.Common.{◌∙◌, ap}
use Rattle.codec.specs.Fields.{lock_of, record_of}
use Rattle.codec.proofs.Arrays.{last_read}
use Rattle.codec.proofs.read.lock.Goals as goal

pub returns : goal.returns
unfolding record_of
returns c = c.lock_from.ensures ∙ ap lock_of (last_read _ _ _ _ _ c.told-words c.unwrap.ensures c.last_chunk.ensures.cases)
