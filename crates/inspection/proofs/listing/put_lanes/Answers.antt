-- `inspection::listing::put_lanes` meets its contract: the loop's invariant: the lanes below this one are printed. The measure is the number of
-- lanes left.
-- Assumes nothing.
use Rattle.std.proofs.Common.{◌≡◌, ap, arith, rules}
use Rattle.image.specs.inner.ImageLaws.{sizes-in}
use Rattle.report.specs.inner.PrintingLaws.{put_then, put-long, put-none, put_same}
use Rattle.inspection.specs.Inspection.{lanes_text}
use Rattle.inspection.specs.inner.ListingLaws.{lanes-none, lanes-more, lanes-short}
use Rattle.inspection.proofs.listing.put_lanes.Goals as goal

pub loop-lane-init : goal.loop-lane-init
loop-lane-init c = (search rules, put_same (lanes-none _ _) (put-none _))

pub put_lane-requires : goal.put_lane-requires
put_lane-requires c = let l = c.loop-lane in
    let r = sizes-in _ c.requires.image.sizes-ok in record {
      image = c.requires.image;
      lane_lt_lanes = search rules;
      lane_room_in_bounds = omega (
        arith,
        c.requires.max_lanes_in_bounds,
        r.lanes-high,
        put-long l.invariant.1,
        lanes-short c.args.sizes c.args.nvm.now l.lane r.slots-high,
      );
    }

pub loop-lane-preserved : goal.loop-lane-preserved
loop-lane-preserved c = let l = c.loop-lane in
    (search rules, put_same (lanes-more _ _ _) (put_then l.invariant.1 c.put_lane.ensures))

pub returns : goal.returns
returns c = let l = c.loop-lane in
    let a = c.args in
    let e : l.lane ≡ a.sizes.lanes = search rules in
    put_same (ap (lanes_text a.sizes a.nvm.now) e) l.invariant.1
