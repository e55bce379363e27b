-- `append::mark_refusal` meets its contract: the plan says whether there is a refusal. Assumes nothing.
use Rattle.std.proofs.Common.{sym}
use Rattle.store.specs.Interface.{refusal_of}
use Rattle.append.proofs.mark_refusal.Goals as goal

pub returns : goal.returns
unfolding refusal_of
returns c = sym c.in_ok-plan_mark.ensures.0
