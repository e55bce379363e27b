-- `normalise_lane` leaves the words of the lane that it found: its phase first, then its floor. Assumes nothing.
use Rattle.std.proofs.Common.{rules, ◌≡◌, ◌∙◌, ap, arith}
use Rattle.codec.proofs.Arrays.{three_cleared}
use Rattle.codec.proofs.WriteLaws.{phased, floored, phase-unset, phase-set, floor-unset, floor-set, lane-normalised}
use Rattle.codec.proofs.write.normalise_lane.Goals as goal
use Rattle.codec.proofs.write.normalise_lane.Goals.{then-words-eq0, else-words-eq0}

pub returns-then-words-eq0-2 : goal.returns-then-words-eq0-2
returns-then-words-eq0-2 c =
    let ws = c.args.words.now in
    let joined : c.if-words-eq0.words ≡ phased ws = elim c.if-words-eq0.branch [
      | then-words-eq0 w ↦ w.words-is ∙ three_cleared ws w.fill.new.self (omega (arith, c.requires)) (search (rules, w.fill.ensures.after)) ∙ phase-unset ws w.if-words-eq0.true
      | else-words-eq0 w ↦ w.words-is ∙ phase-set ws w.if-words-eq0.false
    ] in
    floor-unset c.if-words-eq0.words c.if-words-eq0-2.true ∙ ap floored joined ∙ lane-normalised ws c.requires

pub returns-else-words-eq0-2 : goal.returns-else-words-eq0-2
returns-else-words-eq0-2 c =
    let ws = c.args.words.now in
    let joined : c.if-words-eq0.words ≡ phased ws = elim c.if-words-eq0.branch [
      | then-words-eq0 w ↦ w.words-is ∙ three_cleared ws w.fill.new.self (omega (arith, c.requires)) (search (rules, w.fill.ensures.after)) ∙ phase-unset ws w.if-words-eq0.true
      | else-words-eq0 w ↦ w.words-is ∙ phase-set ws w.if-words-eq0.false
    ] in
    floor-set c.if-words-eq0.words c.if-words-eq0-2.false ∙ ap floored joined ∙ lane-normalised ws c.requires
