-- `inspection::listing::put_lane` meets its contract: three parts, one after the other, from the lane's log and the image.
-- Assumes nothing.
use Rattle.std.proofs.Common.{arith}
use Rattle.image.specs.inner.ImageLaws.{sizes-in}
use Rattle.report.specs.inner.PrintingLaws.{put_then, put-long, put_same}
use Rattle.inspection.specs.inner.ListingLaws.{lane-parts, slots-short, below-short}
use Rattle.inspection.proofs.listing.put_lane.Goals as goal

pub put_slots-requires : goal.put_slots-requires
put_slots-requires c =
    omega (arith, c.requires.lane_room_in_bounds, (sizes-in _ c.requires.image.sizes-ok).slots-high, c.of-log.ensures.slots)

pub put_sequences-requires : goal.put_sequences-requires
put_sequences-requires c = let g = c.of-log.result in
    omega (
      arith,
      c.requires.lane_room_in_bounds,
      (sizes-in _ c.requires.image.sizes-ok).slots-high,
      c.of-log.ensures.slots,
      put-long c.put_slots.ensures,
      slots-short g.words g.log.now c.args.lane g.slots,
    )

pub put_newest-requires : goal.put_newest-requires
put_newest-requires c = let g = c.of-log.result in
    omega (
      arith,
      c.requires.lane_room_in_bounds,
      (sizes-in _ c.requires.image.sizes-ok).slots-high,
      c.of-log.ensures.slots,
      put-long c.put_slots.ensures,
      slots-short g.words g.log.now c.args.lane g.slots,
      put-long c.put_sequences.ensures,
      below-short g.words g.slots g.base g.log.now c.args.lane g.slots,
    )

pub returns : goal.returns
returns c = put_same (lane-parts c.args.sizes c.args.nvm.now c.args.lane c.of-log.result _ c.of-log.ensures.words c.of-log.ensures.slots c.of-log.ensures.base c.of-log.ensures.log c.latest_in.ensures)
    (put_then (put_then c.put_slots.ensures c.put_sequences.ensures) c.put_newest.ensures)
