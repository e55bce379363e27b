-- `vandzulge_validate` leaves and answers what the call's own step says: slices of another length are the call unfit, and otherwise `reply` writes the answer.
-- Assumes nothing.
use Rattle.std.proofs.Common.{sym, ◌∙◌}
use Rattle.vandzulge.specs.inner.ExportsLaws.{both-in, left-unfit, left-by, reply-unfit, reply-by}
use Rattle.vandzulge.proofs.vandzulge_validate.Goals as goal

pub returns-then-not-both_fit : goal.returns-then-not-both_fit
returns-then-not-both_fit c =
    let e = sym c.both_fit.ensures ∙ c.if-not-both_fit.true in
    record { left = left-unfit _ _ _ _ _ _ _ _ e; answered = reply-unfit _ _ _ _ _ _ _ _ e }

pub returns : goal.returns
returns c =
    let b = sym c.both_fit.ensures ∙ c.if-not-both_fit.false in
    record {
      left = left-by _ _ _ _ _ _ _ _ _ _ _ _ _ _ b c.validate-given.ensures c.reply.ensures.number;
      answered = reply-by _ _ _ _ _ _ _ _ _ _ _ _ _ _ _ b c.validate-given.ensures c.reply.ensures.words;
    }

pub reply-requires : goal.reply-requires
reply-requires c = (both-in _ _ (sym c.both_fit.ensures ∙ c.if-not-both_fit.false)).1
