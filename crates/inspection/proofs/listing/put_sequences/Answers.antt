-- `inspection::listing::put_sequences` meets its contract: the loop's invariant: the lines of the sequences that the slots below j close are
-- printed. Assumes nothing.
use Rattle.std.proofs.Common.{◌≡◌, ap, ◌∙◌, ◌++◌, arith, rules}
use Rattle.lane_log.specs.Log.{complete_below}
use Rattle.report.specs.inner.PrintingLaws.{put_then, put-long, put-none, put_same}
use Rattle.inspection.specs.Inspection.{sequence_text, sequence_lines}
use Rattle.inspection.specs.inner.InspectionFacts.{closed_text}
use Rattle.inspection.specs.inner.ListingLaws.{below_none, below_more, below-short}
use Rattle.inspection.proofs.listing.put_sequences.Goals as goal

pub loop-j-init : goal.loop-j-init
loop-j-init c = (search rules, put_same (below_none _ _ _ _ _) (put-none _))

pub put_closed-requires : goal.put_closed-requires
put_closed-requires c = let l = c.loop-j in
    let g = c.args.log.now in
    omega (arith, c.requires, put-long l.invariant.1, below-short g.words g.slots g.base g.log.now c.args.lane l.j)

pub loop-j-preserved : goal.loop-j-preserved
loop-j-preserved c = let l = c.loop-j in
    let g = c.args.log.now in (
      search rules,
      put_same
          (ap
          (λ x. sequence_lines sequence_text (complete_below g.words g.slots g.base g.log.now c.args.lane l.j) ++ closed_text c.args.lane x)
          c.closed_at.ensures
          ∙ below_more _ _ _ _ _ _)
          (put_then l.invariant.1 c.put_closed.ensures),
    )

pub returns : goal.returns
returns c = let l = c.loop-j in
    let g = c.args.log.now in
    let e : l.j ≡ g.slots = search rules in
    put_same (ap (λ k. sequence_lines sequence_text (complete_below g.words g.slots g.base g.log.now c.args.lane k)) e) l.invariant.1
