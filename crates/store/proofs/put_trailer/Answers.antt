-- `store::put_trailer` meets its contract: its four stores are the trailer's words. Assumes nothing.
use Rattle.store.specs.inner.FormatLaws.{trailer-stored}
use Rattle.store.proofs.put_trailer.Goals as goal

pub returns : goal.returns
returns c = trailer-stored c.args.sizes c.args.last.now _ c.requires.last_len c.former_length.ensures
