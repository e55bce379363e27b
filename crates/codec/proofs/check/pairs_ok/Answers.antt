-- `pairs_ok`: a test of the first of the pairs' chunks. Assumes nothing.
use Rattle.std.proofs.Common.{rules, tests, ltb, length, get_or, take, ap, ◌/◌, ◌∙◌, arith}
use mathlib.Core.List.{List}
use Prim.Native.Nat.{ℕ}
use Rattle.std.specs.List.{list_all}
use Rattle.std.proofs.lemmas.Iterator.{YieldsList-from_slice}
use Rattle.std.proofs.lemmas.Iterator.Search.{all_from_yields_List}
use Rattle.codec.proofs.Arrays.{pairs_all}
use Rattle.codec.proofs.check.pairs_ok.Goals as goal

pub returns : goal.returns
returns c =
    let a = c.args in
    let W = a.words in
    all_from_yields_List (λ x. ltb (get_or x 0 0) W) _ _ c.all.result c.all.ensures.ran (YieldsList-from_slice _ c.iter.ensures.rest) (λ x b q k. search (rules, tests))
    ∙ ap (λ (l : List (List ℕ)). list_all (λ x. ltb (get_or x 0 0) W) (take a.count l)) c.as_chunks.ensures.front
    ∙ pairs_all W a.count (length a.pairs.now / 2) a.pairs.now (omega (arith, c.requires))
