-- Inner: how the code goes, need not be believed. A lane with its head or its redo log replaced, and a floor that one lane is given. Assumes nothing.
use Rattle.std.specs.Prelude.{ℕ, cond, List, eqb, Option}
use Rattle.lane_log.specs.declared.Cursor.{Cursor}
use Rattle.record.specs.Record.{lane_at}
use Rattle.record.specs.declared.Pair.{Pair}
use Rattle.record.specs.declared.Lane.{Lane}
use Rattle.record.specs.declared.Record.{Record}
use Rattle.record.specs.Record.{Phase}

-- a lane with this phase, cursor and floor, and the redo log that it has
unfoldable pub headed : Phase → Cursor → Option ℕ → Lane → Lane
headed phase c floor l = record { phase = phase; next = c.slot; wrap = c.wrap; floor = floor; redo = l.redo }

-- with this redo log
unfoldable pub redone : List Pair → Lane → Lane
redone redo l = record { phase = l.phase; next = l.next; wrap = l.wrap; floor = l.floor; redo = redo }

-- the floor of lane l of a record, where lane L has the one given
unfoldable pub floor_with : Record → (L : ℕ) → (given : Option ℕ) → (l : ℕ) → Option ℕ
floor_with r L given l = cond (eqb l L) given (lane_at r l).floor
