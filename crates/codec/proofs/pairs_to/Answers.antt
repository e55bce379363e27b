-- `pairs_to`: each pair as its two words. Assumes nothing.
use Rattle.std.proofs.Common.{rules, tests}
use Rattle.codec.specs.Fields.{pair_words}
use Rattle.codec.proofs.Arrays.{map_at, words_each}
use Rattle.codec.proofs.pairs_to.Goals as goal

pub returns : goal.returns
returns c =
    let a = c.map.ensures.items in
    words_each c.args.redo c.map.result (search (rules, a.long))
    (λ k d e h. map_at pair_words a (λ x y p q t. search (rules, tests)) k d e (search (rules, h)))
