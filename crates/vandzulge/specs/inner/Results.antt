-- Inner: how the code goes, need not be believed. What the results of Format and recovery leave of the record's words. Assumes nothing.
use Rattle.std.specs.Prelude.{ℕ, List, ◌++◌, Option, Some, None, Result, Ok, Err}
use Rattle.record.specs.Record.{no_pairs}
use Rattle.record.specs.declared.Record.{Record}
use Rattle.codec.specs.Fields.{words_of}
use Rattle.store.specs.declared.Refusal.{Refusal}
use Rattle.store.specs.Interface.{number}
use Rattle.recovery.specs.declared.Restart.{Restart}

-- Format's number, and the words after it
unfoldable pub started_number : Result Record Refusal → ℕ
started_number (Ok r) = 0
started_number (Err e) = number e

unfoldable pub started_words : Result Record Refusal → (before : List ℕ) → List ℕ
started_words (Ok r) before = words_of r ++ no_pairs
started_words (Err e) before = before

-- the words after a recovery
unfoldable pub restarted_words : Result (Option Restart) Refusal → (before : List ℕ) → List ℕ
restarted_words (Ok (Some r)) before = words_of r.state ++ no_pairs
restarted_words (Ok None) before = before
restarted_words (Err e) before = before
