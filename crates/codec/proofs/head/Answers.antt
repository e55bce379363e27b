-- `head` is `head_words`: 0s where there is no logged transaction or no floor. Assumes nothing.
use Rattle.std.proofs.Common.{refl, ◌∙◌}
use Rattle.record.specs.Record.{is_logged}
use Rattle.codec.specs.Fields.{is_set, head_words}
use Rattle.codec.specs.inner.InPlace.{headed}
use Rattle.codec.proofs.WriteLaws.{bit-byte, logged-default, stamp-default}
use Rattle.codec.proofs.head.Goals as goal

pub returns : goal.returns
unfolding head_words headed is_logged is_set
returns c = λ l.
    rw (
      c.from.ensures ∙ bit-byte _,
      c.from-2.ensures ∙ bit-byte _,
      c.is_some.ensures,
      c.is_some-2.ensures,
      logged-default _ _ c.unwrap_or_default-logged.ensures,
      c.unwrap_or.ensures ∙ stamp-default c.args.floor,
    )
    refl
