-- `store::fill_image` meets its contract: the body, and after it the trailer. Assumes nothing.
use Rattle.std.proofs.Common.{sym, ◌∙◌, arith}
use Rattle.image.specs.inner.ImageLaws.{sizes-in, length-small}
use Rattle.store.specs.inner.FormatLaws.{body-inside, body-room, trailer-inside, trailer-room, trailer-put}
use Rattle.store.proofs.fill_image.Goals as goal

pub slice_bounds-fill_body-end : goal.slice_bounds-fill_body-end
slice_bounds-fill_body-end c =
    body-inside c.args.sizes c.args.words.now _ c.requires.words_len c.former_length-end.ensures

pub slice_bounds-fill_body-end-2 : goal.slice_bounds-fill_body-end-2
slice_bounds-fill_body-end-2 c =
    sym (body-room c.args.sizes _ _ c.requires.words_len c.former_length-end.ensures)

pub fill_body-requires : goal.fill_body-requires
fill_body-requires c =
    record { start_len = c.requires.start_len; words_len = sym (slice_bounds-fill_body-end-2 c) ∙ c.former_length-end.ensures }

pub offset_bounds-words-end : goal.offset_bounds-words-end
offset_bounds-words-end c =
    omega (arith, c.former_length-end.ensures, length-small _ (sizes-in _ c.requires.sizes_value))

pub slice_bounds-put_trailer-count : goal.slice_bounds-put_trailer-count
slice_bounds-put_trailer-count c =
    trailer-inside c.args.sizes _ _ _ _ c.requires.start_len c.requires.words_len c.former_length-end.ensures c.fill_body.ensures

pub slice_bounds-put_trailer-start : goal.slice_bounds-put_trailer-start
slice_bounds-put_trailer-start c =
    trailer-inside c.args.sizes _ _ _ _ c.requires.start_len c.requires.words_len c.former_length-end.ensures c.fill_body.ensures

pub put_trailer-requires : goal.put_trailer-requires
put_trailer-requires c =
    record { sizes_value = c.requires.sizes_value; last_len = trailer-room c.args.sizes _ _ _ _ c.requires.start_len c.requires.words_len c.former_length-end.ensures c.fill_body.ensures }

pub returns : goal.returns
returns c =
    trailer-put c.args.sizes _ _ _ _ c.requires.start_len c.requires.words_len c.former_length-end.ensures c.fill_body.ensures _ c.put_trailer.ensures
