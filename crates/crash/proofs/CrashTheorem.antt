-- The crash theorem and the former theorem, from the invariant that ties logs, data words and history together; and what follows for
-- commits that are safe, for an idle lane, for lost work and for a lane that is settled. Assumes nothing.
use mathlib.Core.Path.{◌≡◌}
use mathlib.Core.Bool.{true}
use Rattle.image.specs.Image.{sizes_ok}
use Rattle.image.specs.declared.Sizes.{Sizes}
use Rattle.crash.specs.Events.{vandzulge}
use Rattle.crash.specs.Theorem.{CrashTheorem, FormerTheorem}
use Rattle.crash.specs.Corollaries.{SafeTheorem, IdleTheorem, LagTheorem, SettledTheorem}
use Rattle.crash.proofs.induction.Safe.{safe-from}
use Rattle.crash.proofs.induction.Idle.{idle-from}
use Rattle.crash.proofs.induction.Lag.{lag-from}
use Rattle.crash.proofs.induction.Settled.{settled-from}
use Rattle.crash.proofs.induction.FromLogs.{LogLaws, crash-theorem-by-logs, former-theorem-by-logs}
use Rattle.crash.proofs.ties.Ties.{Ties}
use Rattle.crash.proofs.ties.Logs.{ties-logs}
use Rattle.crash.proofs.ties.Start.{ties-starts, ties-writes}
use Rattle.crash.proofs.ties.Drain.{ties-drains, ties-gives-up}
use Rattle.crash.proofs.ties.Append.{ties-appends, ties-marks}
use Rattle.crash.proofs.ties.Commit.{ties-redoes, ties-validates}
use Rattle.crash.proofs.ties.Lock.{ties-locks}
use Rattle.crash.proofs.ties.Part.{ties-parts}
use Rattle.crash.proofs.ties.Write.{ties-makes}
use Rattle.crash.proofs.ties.Cut.{ties-cut}

pub ties-laws : (z : Sizes) → sizes_ok z ≡ true → LogLaws z (Ties z)
ties-laws z ok =
    record {
      logs = ties-logs z;
      cuts = λ base m h b t. ties-cut z base m h b t;
      tails = λ base m h b t. t.running.shape.tail;
      starts = ties-starts z ok;
      writes = ties-writes z;
      drains = ties-drains z;
      appends = ties-appends z;
      redoes = ties-redoes z;
      validates = ties-validates z;
      gives_up = ties-gives-up z;
      marks = ties-marks z;
      locks = ties-locks z;
      parts = λ base m h k b t. ties-parts z base m h k b t;
      makes = λ base m h k b t. ties-makes z base m h k b t;
    }

pub crash-theorem : CrashTheorem vandzulge
crash-theorem = crash-theorem-by-logs Ties ties-laws

pub safe-theorem : SafeTheorem vandzulge
safe-theorem = safe-from vandzulge crash-theorem

pub idle-theorem : IdleTheorem vandzulge
idle-theorem = idle-from vandzulge crash-theorem

pub lag-theorem : LagTheorem vandzulge
lag-theorem = lag-from vandzulge crash-theorem

pub settled-theorem : SettledTheorem vandzulge
settled-theorem = settled-from vandzulge crash-theorem

pub former-theorem : FormerTheorem vandzulge
former-theorem = former-theorem-by-logs Ties ties-laws
