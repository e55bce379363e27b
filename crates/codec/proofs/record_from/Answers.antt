-- `record_from` is `record_of`, field by field. Assumes nothing.
use Rattle.std.proofs.Common.{rules, tests}
use Rattle.record.specs.Record.{lane_at}
use Rattle.codec.specs.Fields.{record_of}
use Rattle.codec.proofs.Arrays.{from_fn_at, lanes_are}
use Rattle.codec.proofs.record_from.Goals as goal

pub returns : goal.returns
returns c =
    let ws = c.args.words.now in
    let f = c.from_fn.ensures.items in
    let e = lanes_are ws _ f.long (from_fn_at (lane_at (record_of ws)) f (λ i y q b t. (search (rules, tests), search (rules, tests)))) in
    rw (c.clock.ensures, c.last.ensures, e, c.lag.ensures, c.lock.ensures)
