-- `vandzulge_recover` leaves and answers what recovery's own step says: slices of another length are the call unfit, and
-- otherwise `restart` writes. Assumes nothing.
use Rattle.std.proofs.Common.{sym, ◌∙◌}
use Rattle.vandzulge.specs.inner.ExportsLaws.{both-in, restart-unfit, restart-by, restart-reply-unfit, restart-reply-by}
use Rattle.vandzulge.proofs.vandzulge_recover.Goals as goal

pub returns-then-not-both_fit : goal.returns-then-not-both_fit
returns-then-not-both_fit c =
    let e = sym c.both_fit.ensures ∙ c.if-not-both_fit.true in
    record { left = restart-unfit _ _ _ _ _ _ _ _ e; answered = restart-reply-unfit _ _ _ _ _ _ _ _ e }

pub returns : goal.returns
returns c =
    let b = sym c.both_fit.ensures ∙ c.if-not-both_fit.false in
    record {
      left = restart-by _ _ _ _ _ _ _ _ _ _ _ _ _ _ b c.recover-given.ensures c.restart.ensures.number c.restart.ensures.state;
      answered = restart-reply-by _ _ _ _ _ _ _ _ _ _ _ _ _ b c.recover-given.ensures c.restart.ensures.answer;
    }

pub restart-requires : goal.restart-requires
restart-requires c =
    let l = both-in _ _ (sym c.both_fit.ensures ∙ c.if-not-both_fit.false) in record { state_len = l.0; answer_len = l.1 }
