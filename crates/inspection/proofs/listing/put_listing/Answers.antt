-- `inspection::listing::put_listing` meets its contract: three parts, one after the other; what is listed are the
-- sequences that recovery undoes.
-- Assumes nothing.
use Rattle.std.proofs.Common.{◌≤◌, refl, [], ◌∷◌, arith, take, get_or, length, length-take-le, rules}
use Rattle.image.specs.inner.ImageLaws.{sizes-in, image-filled}
use Rattle.report.specs.inner.PrintingLaws.{put_then, put-long, put_same}
use Rattle.inspection.specs.Inspection.{base_text}
use Rattle.inspection.specs.inner.LineLaws.{line-short}
use Rattle.inspection.specs.inner.ListingLaws.{lanes-short, undo-short, listing-parts}
use Rattle.inspection.proofs.listing.put_listing.Goals as goal

pub bounds-nvm-0 : goal.bounds-nvm-0
bounds-nvm-0 c = image-filled _ _ c.requires.image.in_image

pub put_lanes-requires : goal.put_lanes-requires
put_lanes-requires c = record { image = c.requires.image; max_lanes_in_bounds = omega (arith, c.requires.listing_room_in_bounds, put-long c.put_line.ensures, line-short base_text (get_or c.args.nvm.now 0 0 ∷ [])) }

pub put_undone-requires : goal.put_undone-requires
put_undone-requires c = let z = sizes-in _ c.requires.image.sizes-ok in
    let e : c.undo_order-count.result ≤ length c.undo_order-count.new.order = search rules in
    omega (
      arith,
      length-take-le c.undo_order-count.result c.undo_order-count.new.order e,
      c.requires.listing_room_in_bounds,
      c.undo_order-count.ensures.few,
      put-long c.put_line.ensures,
      line-short base_text (get_or c.args.nvm.now 0 0 ∷ []),
      put-long c.put_lanes.ensures,
      z.lanes-high,
      lanes-short c.args.sizes c.args.nvm.now c.args.sizes.lanes z.slots-high,
    )

pub returns : goal.returns
returns c = let z = sizes-in _ c.requires.image.sizes-ok in
    let e : c.undo_order-count.result ≤ length c.undo_order-count.new.order = search rules in record {
      few = omega (
        arith,
        c.undo_order-count.ensures.few,
        put-long c.put_line.ensures,
        line-short base_text (get_or c.args.nvm.now 0 0 ∷ []),
        put-long c.put_lanes.ensures,
        z.lanes-high,
        lanes-short c.args.sizes c.args.nvm.now c.args.sizes.lanes z.slots-high,
        put-long c.put_undone.ensures,
        undo-short (take c.undo_order-count.result c.undo_order-count.new.order),
        length-take-le c.undo_order-count.result c.undo_order-count.new.order e,
      );
      printed = put_same (listing-parts _ _ _ _ refl c.undo_order-count.ensures.listed) (put_then (put_then c.put_line.ensures c.put_lanes.ensures) c.put_undone.ensures);
    }
