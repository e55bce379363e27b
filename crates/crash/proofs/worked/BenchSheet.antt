-- The bench sheet's rows, computed. Assumes nothing.
use mathlib.Core.Path.{refl}
use Rattle.crash.specs.BenchSheet.{BenchSheet}
use Rattle.crash.proofs.worked.Everything.{everything}

pub bench-sheet : BenchSheet
unfolding everything
bench-sheet =
    record {
      word-3-old-5-wrap-1 = refl;
      word-3-old-5-wrap-0 = refl;
      word-3-old-4-wrap-1 = refl;
      word-0-old-most-wrap-0 = refl;
      stamp-6-over-2-wrap-1 = refl;
      stamp-2-over-0-wrap-0 = refl;
      torn-35-4 = refl;
      empty-0-0 = refl;
      add_wraps = refl;
      newest-6-and-10 = refl;
      mark-6-and-10 = refl;
      marks-6-and-10 = refl;
    }
