-- `store::fill_body` meets its contract: base timestamp, start words and zeros are what stands before the trailer.
-- Assumes nothing.
use Rattle.std.proofs.Common.{sym, ◌∙◌, ap, length, rules}
use Rattle.image.specs.Image.{former_length}
use Rattle.store.specs.inner.FormatLaws.{length-body, start-inside, logs-inside, begun-cleared}
use Rattle.store.proofs.fill_body.Goals as goal

pub bounds-words-0 : goal.bounds-words-0
unfolding former_length
bounds-words-0 c = search rules

pub slice_bounds-copy_words-end : goal.slice_bounds-copy_words-end
slice_bounds-copy_words-end c = start-inside c.args.sizes c.args.start.now c.args.words.now c.requires.start_len c.requires.words_len

pub slice_bounds-fill-count : goal.slice_bounds-fill-count
slice_bounds-fill-count c =
    logs-inside c.args.sizes c.args.start.now c.args.words.now c.requires.start_len c.requires.words_len _ c.copy_words.ensures

pub slice_bounds-fill-start : goal.slice_bounds-fill-start
slice_bounds-fill-start c =
    logs-inside c.args.sizes c.args.start.now c.args.words.now c.requires.start_len c.requires.words_len _ c.copy_words.ensures

pub returns : goal.returns
returns c =
    begun-cleared c.args.sizes c.args.start.now c.args.words.now c.requires.start_len c.requires.words_len _ c.copy_words.ensures _ (c.fill.ensures.after (λ y e. e))

pub shape_of-words : goal.shape_of-words
shape_of-words c =
    ap length (returns c) ∙ length-body c.args.sizes c.args.start.now c.requires.start_len ∙ sym c.requires.words_len
