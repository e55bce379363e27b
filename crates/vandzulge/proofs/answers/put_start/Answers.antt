-- `answers::put_start` leaves the record's words and pairs of 0. Assumes nothing.
use Rattle.std.proofs.Common.{◌≡◌, arith, length}
use Rattle.record.specs.Record.{lock_length}
use Rattle.vandzulge.proofs.answers.put_start.Goals as goal

pub returns : goal.returns
returns c =
    let k = (rw c.unwrap.ensures at c.split_first_chunk_mut.ensures.cases) in
    let n : length c.unwrap.result.1.now ≡ lock_length = omega (arith, k.2, c.requires) in
    rw (c.record_to.ensures, c.fill.ensures.after (λ y e. e), n)
