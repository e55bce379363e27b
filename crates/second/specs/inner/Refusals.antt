-- Inner: how the code goes, need not be believed. The number of each refusal. SPECIFICATION, "Machine, refusals and answers". Assumes nothing.
use Rattle.std.specs.Prelude.{ℕ}
use Rattle.second.specs.declared.calls.Refusal.{Refusal}
use Rattle.second.specs.declared.calls.Refusal.TheVariants.{Lengths, NoTrailer, BadLag, BadRecord, NoLane, NoWord, BadTransaction, Holds, HoldsNone, Locked}
use Rattle.second.specs.declared.calls.Refusal.TheVariants.{TooLong, Spent, Lags, Overwrites, OddBase}

abbrev pub number_of : Refusal → ℕ
number_of Lengths = 1
number_of NoTrailer = 14
number_of BadLag = 16
number_of BadRecord = 2
number_of NoLane = 3
number_of NoWord = 4
number_of BadTransaction = 5
number_of Holds = 6
number_of HoldsNone = 7
number_of Locked = 11
number_of TooLong = 12
number_of Spent = 8
number_of Lags = 15
number_of Overwrites = 9
number_of OddBase = 10
