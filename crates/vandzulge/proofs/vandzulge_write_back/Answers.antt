-- `vandzulge_write_back` returns and leaves what `store::write_back` does.
-- Assumes nothing.
use Rattle.store.specs.Calls.{write_back_step}
use Rattle.vandzulge.specs.inner.ExportsLaws.{blank-by}
use Rattle.vandzulge.specs.Exports.{sizes_of}
use Rattle.vandzulge.proofs.vandzulge_write_back.Goals as goal

pub returns : goal.returns
returns c =
    let b = blank-by (write_back_step (sizes_of c.args.words c.args.lanes c.args.slots) c.args.word) _ _ _ _ _ _
    c.write_back.ensures c.number_in.ensures in
    record { number = b.0; copied = b.1 }
