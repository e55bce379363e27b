-- `store::fill` meets its contract: each of the three calls makes one buffer.
-- Assumes nothing.
use Rattle.std.proofs.Common.{◌∙◌, ap, replicate}
use Rattle.store.proofs.fill.Goals as goal

pub returns : goal.returns
returns c =
    record {
      cached = c.fill_image.ensures;
      persistent = c.fill_image-2.ensures;
      unflushed = c.fill.ensures.after (λ y e. e) ∙ ap (λ k. replicate k 0) c.requires.flags_len;
    }
