-- `printing::put_words` meets its contract: each turn prints a line more. Assumes nothing.
use Rattle.std.proofs.Common.{◌≡◌, sym, ap, arith, length, rules}
use Rattle.report.specs.Report.{word_lines}
use Rattle.report.specs.inner.PrintingLaws.{put_then, put-long, put-none, put_same, lines_none, lines_more, lines-short}
use Rattle.report.proofs.printing.put_words.Goals as goal

pub loop-i-init : goal.loop-i-init
loop-i-init c = (search rules, put_same (sym (lines_none _)) (put-none _))

pub put_word-requires : goal.put_word-requires
put_word-requires c =
    let l = c.loop-i in
    omega (arith, c.requires, put-long l.invariant.1, lines-short c.args.words.now l.i)

pub loop-i-preserved : goal.loop-i-preserved
loop-i-preserved c =
    let l = c.loop-i in
    (search rules, put_same (sym (lines_more _ _)) (put_then l.invariant.1 c.put_word.ensures))

pub returns : goal.returns
returns c =
    let l = c.loop-i in
    let e : l.i ≡ length c.args.words.now = search rules in
    put_same (ap (word_lines _) e) l.invariant.1
