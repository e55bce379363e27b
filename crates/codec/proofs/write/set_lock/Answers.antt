-- `set_lock` stores the words behind the lag limit. Assumes nothing.
use Rattle.std.proofs.Common.{sym, ap, ◌∙◌, ◌+◌, ◌-◌}
use borrow.Rule.Slice.PartMut.{put_mid}
use Rattle.codec.specs.Fields.{lanes_end, record_of}
use Rattle.codec.proofs.WriteLaws.{lock-put}
use Rattle.codec.proofs.write.set_lock.Goals as goal

pub returns : goal.returns
returns c =
    let ws = c.args.words.now in
    let ks = c.copy_from_slice.new.self in
    ap (λ k. record_of (put_mid (lanes_end + 1) (k - (lanes_end + 1)) ws ks)) (sym c.told-words)
    ∙ lock-put ws ks c.args.lock c.told-words (c.copy_from_slice.ensures.after ∙ c.holder.ensures)
