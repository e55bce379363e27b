-- `inspection::listing::put_slots` meets its contract: the loop's invariant: the lines of the first j slots are printed.
-- Assumes nothing.
use Rattle.std.proofs.Common.{◌≡◌, ap, ◌∙◌, ◌++◌, arith, rules}
use Rattle.report.specs.inner.PrintingLaws.{put_then, put-long, put-none, put_same}
use Rattle.inspection.specs.Inspection.{slot_line, slot_lines}
use Rattle.inspection.specs.inner.ListingLaws.{slots-none, slots-more, slots-short}
use Rattle.inspection.proofs.listing.put_slots.Goals as goal

pub loop-j-init : goal.loop-j-init
loop-j-init c = (search rules, put_same (slots-none _ _ _) (put-none _))

pub put_slot-requires : goal.put_slot-requires
put_slot-requires c = let l = c.loop-j in
    omega (arith, c.requires, put-long l.invariant.1, slots-short c.args.log.now.words c.args.log.now.log.now c.args.lane l.j)

pub loop-j-preserved : goal.loop-j-preserved
loop-j-preserved c = let l = c.loop-j in
    let a = c.args in (
      search rules,
      put_same
          (ap (λ x. slot_lines a.log.now.words a.log.now.log.now a.lane l.j ++ slot_line a.lane l.j x) c.slot_at.ensures
          ∙ slots-more _ _ _ _)
          (put_then l.invariant.1 c.put_slot.ensures),
    )

pub returns : goal.returns
returns c = let l = c.loop-j in
    let a = c.args in
    let e : l.j ≡ a.log.now.slots = search rules in
    put_same (ap (slot_lines a.log.now.words a.log.now.log.now a.lane) e) l.invariant.1
