-- `lane_words` is the lane's part of the record's words. Assumes nothing.
use Rattle.std.proofs.Common.{refl, sym, ap, ◌∙◌, ◌+◌, ◌-◌, ◌*◌, take, drop}
use Rattle.codec.specs.Fields.{lane_length, lane_of}
use Rattle.codec.specs.inner.ReadLaws.{lane-there}
use Rattle.codec.proofs.Arrays.{chunk_read}
use Rattle.codec.proofs.WriteLaws.{lane-own}
use Rattle.codec.proofs.read.lane_words.Goals as goal

pub returns : goal.returns
returns c =
    let ws = c.args.words.now in
    let at = 2 + lane_length * c.args.lane in
    ap lane_of (chunk_read _ _ _ _ c.unwrap.ensures c.first_chunk.ensures.cases)
    ∙ sym (lane-own (take (329 - at) (drop at ws)))
    ∙ ap (λ k. lane_of (take (k - at) (drop at ws))) (sym c.told-words)
    ∙ lane-there ws c.args.lane at c.requires refl
