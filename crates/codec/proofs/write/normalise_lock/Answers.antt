-- `normalise_lock` leaves the words of the lock that it found: 0s where it is free, else a 1 in front. Assumes nothing.
use Rattle.std.proofs.Common.{rules, ap, ◌∙◌, ◌-◌}
use borrow.Rule.Slice.PartMut.{put_mid}
use Rattle.codec.proofs.Arrays.{five_cleared}
use Rattle.codec.proofs.WriteLaws.{lock-unset, lock-set}
use Rattle.codec.proofs.write.normalise_lock.Goals as goal

pub returns-then-words-eq0 : goal.returns-then-words-eq0
returns-then-words-eq0 c =
    let ws = c.args.words.now in
    let zs = c.fill.new.self in
    ap (λ k. put_mid 1 (k - 1) ws zs) c.requires
    ∙ five_cleared ws zs c.requires (search (rules, c.fill.ensures.after))
    ∙ lock-unset ws c.requires c.if-words-eq0.true

pub returns-else-words-eq0 : goal.returns-else-words-eq0
returns-else-words-eq0 c = lock-set c.args.words.now c.requires c.if-words-eq0.false
