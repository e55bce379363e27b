-- `redo_from`: each pair from its two words. Assumes nothing.
use Rattle.std.proofs.Common.{rules, tests, ◌≡◌, ◌+◌, ◌*◌, ◌∙◌, drop, get_or}
use Rattle.codec.specs.Fields.{head_length, pair_of}
use Rattle.codec.proofs.Arrays.{from_fn_at, redo_read, row_is}
use Rattle.codec.proofs.redo_from.Goals as goal

pub returns : goal.returns
returns c =
    let ws = c.args.lane.now in
    let f = c.from_fn.ensures.items in
    row_is _ _ _ (drop head_length ws) _ f.long
    (from_fn_at (λ i. pair_of (drop (2 * i) (drop head_length ws))) f (λ i y q b t. (
      search (rules, tests),
      (let e : y ≡ record { word = get_or ws (head_length + 2 * i) 0; value = get_or ws (head_length + 2 * i + 1) 0 } = search (rules, tests) in e)
          ∙ redo_read ws i,
    )))
