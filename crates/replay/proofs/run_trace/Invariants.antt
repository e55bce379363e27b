-- `run_trace` ends: an op has at least one word, and a trace at least its sizes. Assumes nothing.
use Rattle.std.proofs.Common.{◌<◌, length}
use Rattle.replay.proofs.run_trace.Given as goal

abbrev pub invariant-loop-op : goal.invariant-loop-op
invariant-loop-op g l = length l.words < length l.fn.words

abbrev pub decreases-loop-op : goal.decreases-loop-op
decreases-loop-op g l = length l.words
