-- `restart::recover_by` meets its contract: cut short, or finished and the cache refilled. Assumes nothing.
use Rattle.std.proofs.Common.{sym, ap, ◌∙◌, replicate}
use Rattle.image.specs.inner.ImageLaws.{image-filled}
use Rattle.restart.specs.inner.RestartLaws.{recovered-long, by-cut, by-finished}
use Rattle.recovery.specs.Interface.{restarted_of}
use Rattle.restart.proofs.recover_by.Goals as goal

pub returns-then-limit-due : goal.returns-then-limit-due
unfolding restarted_of
returns-then-limit-due c =
    let d = c.recover_nvm-due.ensures in
    by-cut _ _ _ _ _ d.counted _ d.written c.if-limit-due.true

pub bounds-nvm-0 : goal.bounds-nvm-0
bounds-nvm-0 c = rw (recovered-long _ _ _ _ c.recover_nvm-due.ensures.written) (image-filled _ _ c.requires.image.in_image)

pub returns : goal.returns
unfolding restarted_of
returns c =
    let d = c.recover_nvm-due.ensures in
    by-finished _ c.args.lag _ _ _ d.counted _ _ _ _ _ _ _ d.boundary d.undo d.torn d.written c.start_record.ensures c.refill.ensures.cached
    (c.refill.ensures.unflushed ∙ ap (λ n. replicate n 0) (c.requires.cache_len ∙ sym (recovered-long _ _ _ _ d.written))) c.if-limit-due.false
