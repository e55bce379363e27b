-- `report::reading::decode` meets its contract. The loop's invariant: the words that it has passed are read. Assumes nothing.
use Rattle.std.proofs.Common.{◌≡◌, take}
use Rattle.report.specs.Report.{words_in}
use Rattle.report.proofs.reading.decode.Given as goal

abbrev pub invariant-loop-i : goal.invariant-loop-i
invariant-loop-i l = take l.i l.nvm ≡ words_in l.input l.first l.i
