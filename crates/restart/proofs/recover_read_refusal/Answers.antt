-- `restart::recover_read_refusal` meets its contract: each return rewrites the definition by the tests that led there.
-- Assumes nothing.
use Rattle.std.proofs.Common.{sym, ◌∙◌}
use Rattle.image.specs.Image.{base_of}
use Rattle.image.specs.inner.ImageLaws.{image-filled, trailer-image}
use Rattle.store.specs.Machine.{first_cause}
use Rattle.store.specs.Calls.{bad_lag}
use Rattle.recovery.specs.Recovery.{odd_base, recover_read_refusal}
use Rattle.store.specs.Interface.{number, refusal_of}
use Rattle.restart.proofs.recover_read_refusal.Goals as goal

pub returns-then-not-all_are : goal.returns-then-not-all_are
unfolding recover_read_refusal first_cause refusal_of number
returns-then-not-all_are c = rw (sym c.all_are.ensures ∙ c.if-not-all_are.true)

pub returns-then-not-trailer_ok : goal.returns-then-not-trailer_ok
unfolding recover_read_refusal first_cause refusal_of number
returns-then-not-trailer_ok c =
    rw (sym c.all_are.ensures ∙ c.if-not-all_are.false, sym c.trailer_ok.ensures ∙ c.if-not-trailer_ok.true)

pub bounds-nvm-0 : goal.bounds-nvm-0
bounds-nvm-0 c =
    image-filled _ _ (trailer-image _ (sym c.trailer_ok.ensures ∙ c.if-not-trailer_ok.false)).in_image

pub returns : goal.returns
unfolding recover_read_refusal bad_lag odd_base base_of first_cause
returns c =
    rw (sym c.all_are.ensures ∙ c.if-not-all_are.false, sym c.trailer_ok.ensures ∙ c.if-not-trailer_ok.false)
    c.start_refusal.ensures
