-- `restart::recover_refusal` meets its contract: each return rewrites the definition by the tests that led there.
-- Assumes nothing.
use Rattle.std.proofs.Common.{sym, ◌∙◌}
use Rattle.image.specs.Image.{base_of}
use Rattle.store.specs.Machine.{first_cause}
use Rattle.store.specs.Calls.{bad_lag}
use Rattle.recovery.specs.Recovery.{odd_base, recover_refusal}
use Rattle.image.specs.inner.ImageLaws.{former-buffers, image-filled}
use Rattle.store.specs.Interface.{number, refusal_of}
use Rattle.restart.proofs.recover_refusal.Goals as goal

pub returns-then-not-former_ok : goal.returns-then-not-former_ok
unfolding recover_refusal first_cause refusal_of number
returns-then-not-former_ok c = rw (sym c.former_ok.ensures ∙ c.if-not-former_ok.true)

pub bounds-nvm-0 : goal.bounds-nvm-0
bounds-nvm-0 c =
    let b = former-buffers _ _ _ _ (sym c.former_ok.ensures ∙ c.if-not-former_ok.false) in
    rw b.same-nvm (image-filled _ _ b.fits)

pub returns : goal.returns
unfolding recover_refusal bad_lag odd_base base_of first_cause
returns c = rw (sym c.former_ok.ensures ∙ c.if-not-former_ok.false) c.start_refusal.ensures
