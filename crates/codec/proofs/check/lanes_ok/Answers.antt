-- `lanes_ok`: a test of the numbers of the lanes in use. Assumes nothing.
use Rattle.std.proofs.Common.{rules, tests, ◌∙◌, refl, arith}
use Rattle.std.proofs.lemmas.Iterator.{YieldsList-from_range}
use Rattle.std.proofs.lemmas.Iterator.Search.{all_from_yields_List}
use Rattle.record.specs.Record.{lane_at, lane_ok}
use Rattle.codec.specs.Fields.{record_of}
use Rattle.codec.specs.inner.ReadLaws.{lanes-read}
use Rattle.codec.proofs.Arrays.{lanes_tested}
use Rattle.codec.proofs.check.lanes_ok.Goals as goal

pub returns : goal.returns
returns c =
    let z = c.args.sizes in
    let r = record_of c.args.words.now in
    all_from_yields_List (λ l. lane_ok z r.clock (lane_at r l)) _ _ c.all.result c.all.ensures.ran (YieldsList-from_range 0 z.lanes z.lanes refl (omega arith))
    (λ x b q k. search (rules, tests))
    ∙ lanes_tested z r (omega (arith, c.requires, lanes-read c.args.words.now))
