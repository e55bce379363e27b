-- `holder` is `lock_words`: 0s where the lock is free. Assumes nothing.
use Rattle.std.proofs.Common.{refl, ◌∙◌}
use Rattle.record.specs.Record.{is_held}
use Rattle.codec.specs.Fields.{lock_words}
use Rattle.codec.proofs.WriteLaws.{bit-byte, locked-default}
use Rattle.codec.proofs.holder.Goals as goal

pub returns : goal.returns
unfolding lock_words is_held
returns c = rw (c.from.ensures ∙ bit-byte _, c.is_some.ensures, locked-default _ _ c.unwrap_or_default-held.ensures) refl
