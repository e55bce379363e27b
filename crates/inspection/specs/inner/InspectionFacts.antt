-- Inner: how the code goes, need not be believed. What the functions of the listing print that the definitions say otherwise. Assumes nothing.
use Rattle.std.specs.Prelude.{ℕ, List, [], ◌∷◌, ◌++◌, Option, Some, None}
use Rattle.inspection.specs.Inspection.{sequence_text, undo_text, line_of}
use Rattle.lane_log.specs.declared.Sequence.{Sequence}
use Rattle.recovery.specs.declared.Listed.{Listed}

-- the line of the sequence that a slot of lane L closes, none where it closes none
unfoldable pub closed_text : (L : ℕ) → Option Sequence → List ℕ
closed_text L None = []
closed_text L (Some q) = line_of sequence_text (L ∷ q.slot ∷ q.count ∷ q.stamp ∷ [])

-- a line for each sequence that would be undone
unfoldable pub undo_lines : List Listed → List ℕ
undo_lines [] = []
undo_lines (q ∷ qs) = line_of undo_text (q.lane ∷ q.slot ∷ q.count ∷ q.stamp ∷ []) ++ undo_lines qs
