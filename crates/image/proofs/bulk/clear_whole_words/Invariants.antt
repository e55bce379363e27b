-- `image::bulk::clear_whole_words` meets its contract. The loop's invariant: the words that it has passed are 0. Assumes nothing.
use Rattle.std.proofs.Common.{◌≡◌, replicate, take}
use Rattle.image.proofs.bulk.clear_whole_words.Given as goal

abbrev pub invariant-loop-word : goal.invariant-loop-word
invariant-loop-word l = take l.word-index l.words ≡ replicate l.word-index 0
