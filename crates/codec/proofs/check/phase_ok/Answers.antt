-- `phase_ok`: the pairs are the part of the lane's words that begins behind its head. Assumes nothing.
use Rattle.std.proofs.Common.{rules}
use Rattle.record.specs.Record.{phase_ok}
use Rattle.codec.proofs.Arrays.{pairs_part}
use Rattle.codec.proofs.check.phase_ok.Goals as goal

pub returns-then-stamp_ok : goal.returns-then-stamp_ok
unfolding phase_ok
returns-then-stamp_ok c = search (rules, pairs_part c.args.lane.now c.args.sizes.words c.in-Some.logged.count c.told-lane)
