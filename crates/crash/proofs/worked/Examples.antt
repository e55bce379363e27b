-- Worked lists of events, computed by the checker: the theorem's claims are not empty. Each was worked out by hand first. Assumes nothing.
use Rattle.std.specs.Prelude.{Some, None}
use Prim.Native.Nat.{ℕ, zero, suc}
use mathlib.Core.Path.{◌≡◌, refl}
use mathlib.Core.Bool.{true, false}
use mathlib.Core.List.{List, [], ◌∷◌, ◌++◌}
use lib.ListN.{replicate}
use Rattle.txn.specs.Txn.{former}
use Rattle.image.specs.Image.{data_of}
use Rattle.image.specs.declared.Sizes.{Sizes}
use Rattle.store.specs.Machine.{Machine}
use Rattle.store.specs.Calls.{started, start_image}
use Rattle.record.specs.Record.{max_lag, no_lane, lane_at}
use Rattle.record.specs.declared.Lane.{Lane}
use Rattle.store.specs.Answers.{Refused, Done, NoWrites, Logged, Settled, Committed, Stale, Changed, Marked, Locked}
use Rattle.recovery.specs.Recovery.{Restarted, recover_step, recover_read_step}
use Rattle.recovery.specs.Answers.{Recovered}
use Rattle.recovery.specs.Answers as recovereds
use Rattle.recovery.specs.Answers.{Cut, Finished}
use Rattle.crash.specs.Events.{log_by, log, redo, validate_by, validate, mark, drain, lock, proceed}
use Rattle.crash.specs.Events.{Event, format, call, write_back, recover, fails, fails_in_drain, fails_after_drain}
use Rattle.crash.specs.Events.{fails_in_recovery, System, live, down, Reply, answered, recovered, failed, vandzulge, happens}
use Rattle.crash.specs.Theorem.{end_of}
use Rattle.crash.proofs.worked.Everything.{everything}
use Rattle.crash.proofs.worked.Worked.{small, junk, set0, set1, copy, sets, poke, poke_passed, write_backs, marks, proceeds, two_lanes}
use Rattle.crash.proofs.worked.Worked.{tight, rising, over_wrap}

-- ---- running a list of events
unfoldable replies : Sizes → System → List Event → List Reply
replies z y [] = []
replies z y (e ∷ es) = (happens vandzulge z y e).reply ∷ replies z (happens vandzulge z y e).system es

unfoldable after_all : Sizes → System → List Event → System
after_all z y [] = y
after_all z y (e ∷ es) = after_all z (happens vandzulge z y e).system es

-- the data words in non-volatile memory
unfoldable words_in : Sizes → System → List ℕ
words_in z (live m) = data_of z m.nvm
words_in z (down nvm j found) = data_of z nvm

-- and in the cache; a lane's state
unfoldable cached_in : Sizes → System → List ℕ
cached_in z (live m) = data_of z m.cache
cached_in z (down nvm j found) = data_of z j.cache

unfoldable lane_in : ℕ → System → Lane
lane_in L (live m) = lane_at m.state L
lane_in L (down nvm j found) = no_lane

-- a start with these data words; both are 0 at first
abbrev begun_with : List ℕ → System
begun_with start = live (started max_lag 0 (start_image small start))

abbrev begun : System
begun = begun_with (0 ∷ 0 ∷ [])

-- ---- the two-lane scenario
two-lanes : replies small begun two_lanes
    ≡ answered (Logged (record { count = 1; stamp = 2 }))
    ∷ answered (Logged (record { count = 1; stamp = 4 }))
    ∷ answered (Committed 6)
    ∷ answered Stale
    ∷ answered (Committed 8)
    ∷ answered (Logged (record { count = 1; stamp = 10 }))
    ∷ []
unfolding everything replies
two-lanes = refl

-- all is written back and power is cut: the boundary is 6, and both words return to 0
abbrev two_lanes_cut : System
two_lanes_cut = after_all small begun (two_lanes ++ (write_backs 0 139 ++ (fails junk ∷ [])))

two-lanes-recover : replies small two_lanes_cut (recover max_lag 1000 junk ∷ []) ≡ recovered (Finished (record { boundary = Some 6; undone = 3; torn = 0 })) ∷ []
unfolding everything replies after_all write_backs
two-lanes-recover = refl

two-lanes-words : words_in small (after_all small two_lanes_cut (recover max_lag 1000 junk ∷ [])) ≡ 0 ∷ 0 ∷ []
unfolding everything after_all write_backs words_in
two-lanes-words = refl

-- ---- a cut inside a drain: of the commit's two flushed words, the data word and the timestamp's, only the data word is stored
abbrev in_drain : List Event
in_drain = call (log 0 (set0 2)) ∷ call (redo 0) ∷ fails_in_drain (drain 0) (1 ∷ []) junk ∷ []

in-drain : replies small begun (in_drain ++ (recover max_lag 1000 junk ∷ []))
    ≡ answered (Logged (record { count = 1; stamp = 2 }))
    ∷ answered (Committed 4)
    ∷ failed false
    ∷ recovered (Finished (record { boundary = Some 2; undone = 1; torn = 0 }))
    ∷ []
unfolding everything replies
in-drain = refl

in-drain-found : words_in small (after_all small begun in_drain) ≡ 2 ∷ 0 ∷ []
unfolding everything after_all words_in
in-drain-found = refl

in-drain-words : words_in small (after_all small begun (in_drain ++ (recover max_lag 1000 junk ∷ []))) ≡ 0 ∷ 0 ∷ []
unfolding everything after_all words_in
in-drain-words = refl

-- ---- the same with recovery cut twice: after the undone entry and before the base timestamp, and past the base timestamp, which leaves nothing to be undone.
-- The second has cleared three log words, both of slot 0 and the address word of slot 1, whose value word is left: the third finds it torn
cut_twice : replies small (after_all small begun in_drain) (recover max_lag 1 junk ∷ recover max_lag 5 junk ∷ recover max_lag 1000 junk ∷ [])
    ≡ recovered Cut ∷ recovered Cut ∷ recovered (Finished (record { boundary = None; undone = 0; torn = 1 })) ∷ []
unfolding everything replies after_all
cut_twice = refl

cut-twice-words : words_in small (after_all small begun (in_drain ++ (recover max_lag 1 junk ∷ recover max_lag 5 junk ∷ recover max_lag 1000 junk ∷ []))) ≡ 0 ∷ 0 ∷ []
unfolding everything after_all words_in
cut-twice-words = refl

-- ---- a cut inside a call, after its whole drain: the mark at 6 has reached the log, so the lane gives no boundary and the commit at 4 stays;
-- what the second Log would have done is lost
abbrev after_drain : List Event
after_drain = call (log 0 (set0 2)) ∷ call (redo 0) ∷ call (mark 0) ∷ fails_after_drain (log 0 (set0 3)) junk ∷ []

after-drain : replies small begun (after_drain ++ (recover max_lag 1000 junk ∷ []))
    ≡ answered (Logged (record { count = 1; stamp = 2 }))
    ∷ answered (Committed 4)
    ∷ answered (Marked (record { stamp = 6; dropped = false }))
    ∷ failed true
    ∷ recovered (Finished (record { boundary = None; undone = 0; torn = 0 }))
    ∷ []
unfolding everything replies
after-drain = refl

after-drain-words : words_in small (after_all small begun (after_drain ++ (recover max_lag 1000 junk ∷ []))) ≡ 2 ∷ 0 ∷ []
unfolding everything after_all words_in
after-drain-words = refl

-- ---- power failing inside recovery: after its first store, which undoes the entry; at the second try after the base timestamp's;
-- and after its last store, before it answers
abbrev in_recovery : List Event
in_recovery = fails_in_recovery 1 junk ∷ fails_in_recovery 2 junk ∷ fails_in_recovery 138 junk ∷ []

in-recovery : replies small (after_all small begun in_drain) (in_recovery ++ (recover max_lag 1000 junk ∷ []))
    ≡ failed false ∷ failed false ∷ failed false ∷ recovered (Finished (record { boundary = None; undone = 0; torn = 0 })) ∷ []
unfolding everything replies after_all
in-recovery = refl

in-recovery-words : words_in small (after_all small begun (in_drain ++ (in_recovery ++ (recover max_lag 1000 junk ∷ [])))) ≡ 0 ∷ 0 ∷ []
unfolding everything after_all words_in
in-recovery-words = refl

-- ---- of a logged entry's two words only the address word, word 3, has reached memory when power fails: its slot is torn. The recovery that clears it has
-- found it; the next one finds none
torn-slot : replies small begun (call (log 0 (set0 2)) ∷ write_back 3 ∷ fails junk ∷ recover max_lag 1000 junk ∷ recover max_lag 1000 junk ∷ [])
    ≡ answered (Logged (record { count = 1; stamp = 2 }))
    ∷ answered Done
    ∷ failed false
    ∷ recovered (Finished (record { boundary = None; undone = 0; torn = 1 }))
    ∷ recovered (Finished (record { boundary = None; undone = 0; torn = 0 }))
    ∷ []
unfolding everything replies
torn-slot = refl

-- ---- a Validate after its word was changed, and changed back: lane 1 commits 7 at 6 and 0 at 10, lane 0, logged at 2, commits 5 at 12.
-- All is written back; the boundary is 10, and what is committed below it leaves 7
abbrev changed_back : List Event
changed_back =
    call (log 0 (set0 5))
    ∷ call (log 1 (set0 7))
    ∷ call (redo 1)
    ∷ call (log 1 (set0 0))
    ∷ call (redo 1)
    ∷ call (redo 0)
    ∷ call (validate 0 (set0 5))
    ∷ []

changed-back : replies small begun changed_back
    ≡ answered (Logged (record { count = 1; stamp = 2 }))
    ∷ answered (Logged (record { count = 1; stamp = 4 }))
    ∷ answered (Committed 6)
    ∷ answered (Logged (record { count = 1; stamp = 8 }))
    ∷ answered (Committed 10)
    ∷ answered Stale
    ∷ answered (Committed 12)
    ∷ []
unfolding everything replies
changed-back = refl

abbrev changed_back_cut : System
changed_back_cut = after_all small begun (changed_back ++ (write_backs 0 139 ++ (fails junk ∷ [])))

changed-back-recover : replies small changed_back_cut (recover max_lag 1000 junk ∷ [])
    ≡ recovered (Finished (record { boundary = Some 10; undone = 2; torn = 0 })) ∷ []
unfolding everything replies after_all write_backs
changed-back-recover = refl

changed-back-words : words_in small (after_all small changed_back_cut (recover max_lag 1000 junk ∷ [])) ≡ 7 ∷ 0 ∷ []
unfolding everything after_all write_backs words_in
changed-back-words = refl

-- ---- the traps
-- a Mark drops the transaction that its lane holds: it cannot commit behind the mark
mark-drops : replies small begun (call (log 0 (set0 2)) ∷ call (mark 0) ∷ call (redo 0) ∷ [])
    ≡ answered (Logged (record { count = 1; stamp = 2 })) ∷ answered (Marked (record { stamp = 4; dropped = true })) ∷ answered (Refused 7) ∷ []
unfolding everything replies
mark-drops = refl

-- a lane's first sequence sets its floor, before it is drained
first-floor : (lane_in 0 (after_all small begun (call (log 0 (set0 2)) ∷ []))).floor ≡ Some 2
unfolding everything after_all lane_in
first-floor = refl

-- every commit writes, the second as the first
commits : cached_in small (after_all small begun (call (log 0 (set0 2)) ∷ call (redo 0) ∷ call (log 0 (set0 3)) ∷ call (redo 0) ∷ [])) ≡ 3 ∷ 0 ∷ []
unfolding everything after_all cached_in
commits = refl

-- a second attempt is appended after the first: two sequences of two slots each
abbrev second_attempt : List Event
second_attempt =
    call (log 0 copy)
    ∷ call (log 1 (set1 9))
    ∷ call (redo 1)
    ∷ call (redo 0)
    ∷ call (validate 0 copy)
    ∷ call (log 0 copy)
    ∷ []

second-attempt : replies small begun second_attempt
    ≡ answered (Logged (record { count = 1; stamp = 2 }))
    ∷ answered (Logged (record { count = 1; stamp = 4 }))
    ∷ answered (Committed 6)
    ∷ answered Stale
    ∷ answered Changed
    ∷ answered (Logged (record { count = 1; stamp = 8 }))
    ∷ []
unfolding everything replies
second-attempt = refl

second-after-first : (lane_in 0 (after_all small begun second_attempt)).next ≡ 4
unfolding everything after_all lane_in
second-after-first = refl

-- 34 marks fill lane 0's log; lane 1's floor, 2, keeps the first of them from being overwritten
full-log : replies small (after_all small begun (call (mark 1) ∷ marks 0 34)) (call (mark 0) ∷ []) ≡ answered (Refused 9) ∷ []
unfolding everything replies after_all marks
full-log = refl

-- ---- a marked lane holds nothing back
-- lane 1 commits 9 at 4, is marked at 6 and drained, and stays idle
abbrev idle_lane1 : List Event
idle_lane1 = call (log 1 (set1 9)) ∷ call (redo 1) ∷ call (mark 1) ∷ call (drain 1) ∷ []

-- the mark leaves its floor, and the drain ends it; the next sequence sets one again, a mark's too
floor-at-mark : (lane_in 1 (after_all small begun (call (log 1 (set1 9)) ∷ call (redo 1) ∷ call (mark 1) ∷ []))).floor ≡ Some 4
unfolding everything after_all lane_in
floor-at-mark = refl

floor-ended : (lane_in 1 (after_all small begun idle_lane1)).floor ≡ None
unfolding everything after_all lane_in
floor-ended = refl

floor-by-log : (lane_in 1 (after_all small begun (idle_lane1 ++ (call (log 1 (set1 7)) ∷ [])))).floor ≡ Some 8
unfolding everything after_all lane_in
floor-by-log = refl

floor-by-mark : (lane_in 1 (after_all small begun (idle_lane1 ++ (call (mark 1) ∷ [])))).floor ≡ Some 8
unfolding everything after_all lane_in
floor-by-mark = refl

-- lane 0 commits 2 at 10 and drains, commits 3 at 14 and drains. It alone gives a boundary: the commits at 4 and 10 stay, that at 14 is undone
abbrev two_on_lane0 : List Event
two_on_lane0 = call (log 0 (set0 2)) ∷ call (redo 0) ∷ call (drain 0) ∷ call (log 0 (set0 3)) ∷ call (redo 0) ∷ call (drain 0) ∷ fails junk ∷ []

idle-boundary : replies small (after_all small begun (idle_lane1 ++ two_on_lane0)) (recover max_lag 1000 junk ∷ [])
    ≡ recovered (Finished (record { boundary = Some 14; undone = 1; torn = 0 })) ∷ []
unfolding everything replies after_all
idle-boundary = refl

idle-words : words_in small (after_all small begun (idle_lane1 ++ (two_on_lane0 ++ (recover max_lag 1000 junk ∷ [])))) ≡ 2 ∷ 9 ∷ []
unfolding everything after_all words_in
idle-words = refl

-- or lane 0 commits at 10, is marked and drained too: no lane gives a boundary, and every commit stays
abbrev marked_too : List Event
marked_too = call (log 0 (set0 2)) ∷ call (redo 0) ∷ call (mark 0) ∷ call (drain 0) ∷ fails junk ∷ []

no-boundary : replies small (after_all small begun (idle_lane1 ++ marked_too)) (recover max_lag 1000 junk ∷ [])
    ≡ recovered (Finished (record { boundary = None; undone = 0; torn = 0 })) ∷ []
unfolding everything replies after_all
no-boundary = refl

no-boundary-words : words_in small (after_all small begun (idle_lane1 ++ (marked_too ++ (recover max_lag 1000 junk ∷ [])))) ≡ 2 ∷ 9 ∷ []
unfolding everything after_all words_in
no-boundary-words = refl

-- a marked lane's sequences are undone as any: lane 0 has logged at 2 and drained, so the boundary is 2, and lane 1's commit at 6 is above it
abbrev marked_above : List Event
marked_above = call (log 0 (set0 2)) ∷ call (drain 0) ∷ idle_lane1 ++ (fails junk ∷ [])

marked-above : replies small (after_all small begun marked_above) (recover max_lag 1000 junk ∷ [])
    ≡ recovered (Finished (record { boundary = Some 2; undone = 2; torn = 0 })) ∷ []
unfolding everything replies after_all
marked-above = refl

marked-above-words : words_in small (after_all small begun (marked_above ++ (recover max_lag 1000 junk ∷ []))) ≡ 0 ∷ 0 ∷ []
unfolding everything after_all words_in
marked-above-words = refl

-- lane 0's full log again: once lane 1's mark is drained, nothing keeps the first mark from being overwritten
freed-log : replies small (after_all small begun (call (mark 1) ∷ call (drain 1) ∷ marks 0 34)) (call (mark 0) ∷ [])
    ≡ answered (Marked (record { stamp = 72; dropped = false })) ∷ []
unfolding everything replies after_all marks
freed-log = refl

-- ---- a limit on lost work
abbrev begun_lag : (lag : ℕ) → System
begun_lag lag = live (started lag 0 (start_image small (0 ∷ 0 ∷ [])))

-- a limit of 4: lane 1 logs at 2, lane 0 logs at 4 and commits at 6. Its next Log, at 8, is too far above lane 1's floor, 2. Lane 1, the lane with the least
-- floor, is marked, which drops what it holds, and drained: then lane 0 may log, at 10, which is 4 above its own floor
abbrev freed_by_mark : List Event
freed_by_mark =
    call (log 1 (set1 9))
    ∷ call (log 0 (set0 2))
    ∷ call (redo 0)
    ∷ call (log 0 (set0 3))
    ∷ call (mark 1)
    ∷ call (drain 1)
    ∷ call (log 0 (set0 3))
    ∷ []

freed-by-mark : replies small (begun_lag 4) freed_by_mark
    ≡ answered (Logged (record { count = 1; stamp = 2 }))
    ∷ answered (Logged (record { count = 1; stamp = 4 }))
    ∷ answered (Committed 6)
    ∷ answered (Refused 15)
    ∷ answered (Marked (record { stamp = 8; dropped = true }))
    ∷ answered Done
    ∷ answered (Logged (record { count = 1; stamp = 10 }))
    ∷ []
unfolding everything replies
freed-by-mark = refl

-- a limit of 2: lane 1 logs at 2, and lane 0, at the limit, at 4; lane 0 commits at 6. Its next Log, at 8, is too far above lane 1's floor. One that writes
-- nothing is taken, word 1 being 0, and so are Redo, which is stale, Validate, Drain and Mark
abbrev too_far : List Event
too_far =
    call (log 1 (set1 9))
    ∷ call (log 0 (set0 2))
    ∷ call (redo 0)
    ∷ call (log 0 (set0 3))
    ∷ call (log 0 (5 ∷ 0 ∷ 1 ∷ 1 ∷ set0 3))
    ∷ call (redo 1)
    ∷ call (validate 1 (set1 9))
    ∷ call (drain 0)
    ∷ call (mark 1)
    ∷ call (log 0 (set0 3))
    ∷ call (drain 1)
    ∷ []

too-far : replies small (begun_lag 2) too_far
    ≡ answered (Logged (record { count = 1; stamp = 2 }))
    ∷ answered (Logged (record { count = 1; stamp = 4 }))
    ∷ answered (Committed 6)
    ∷ answered (Refused 15)
    ∷ answered NoWrites
    ∷ answered Stale
    ∷ answered (Committed 8)
    ∷ answered Done
    ∷ answered (Marked (record { stamp = 10; dropped = false }))
    ∷ answered (Refused 15)
    ∷ answered Done
    ∷ []
unfolding everything replies
too-far = refl

-- the least floor was lane 0's own in the end, 6, of its commit, which was drained: 12 is too far above that with lane 1's floor ended too. So lane 0 has to
-- be marked and drained itself
marked-itself : replies small (after_all small (begun_lag 2) too_far) (call (log 0 (set0 3)) ∷ call (mark 0) ∷ call (drain 0) ∷ call (log 0 (set0 3)) ∷ [])
    ≡ answered (Refused 15)
    ∷ answered (Marked (record { stamp = 12; dropped = false }))
    ∷ answered Done
    ∷ answered (Logged (record { count = 1; stamp = 14 }))
    ∷ []
unfolding everything replies after_all
marked-itself = refl

-- the limit is reached: a Log at 6, and a cut with the boundary at 4. Half the limit, one commit, is lost
abbrev at_limit : List Event
at_limit = call (log 0 (set0 2)) ∷ call (redo 0) ∷ call (log 0 (set0 3)) ∷ fails junk ∷ []

at-limit : replies small (begun_lag 2) (at_limit ++ (recover 4 1000 junk ∷ []))
    ≡ answered (Logged (record { count = 1; stamp = 2 }))
    ∷ answered (Committed 4)
    ∷ answered (Logged (record { count = 1; stamp = 6 }))
    ∷ failed false
    ∷ recovered (Finished (record { boundary = Some 4; undone = 1; torn = 0 }))
    ∷ []
unfolding everything replies
at-limit = refl

-- the same with power failing inside the drain of the next step, a Redo: of the sequence stamped 6, all but the value word of its timestamp is stored, so
-- that its last slot is torn, and the boundary is 4 still
in-next-drain : replies small (after_all small (begun_lag 2) (call (log 0 (set0 2)) ∷ call (redo 0) ∷ call (log 0 (set0 3)) ∷ []))
    (fails_in_drain (redo 0) (7 ∷ 8 ∷ 9 ∷ []) junk ∷ recover 2 1000 junk ∷ [])
    ≡ failed false ∷ recovered (Finished (record { boundary = Some 4; undone = 1; torn = 1 })) ∷ []
unfolding everything replies after_all
in-next-drain = refl

-- a finished recovery goes on with the limit that it was given; one that is refused for its limit, or a Format, changes nothing
unfoldable lag_in : System → ℕ
lag_in (live m) = m.state.lag
lag_in (down nvm j found) = 0

lag-given : lag_in (after_all small (begun_lag 2) (at_limit ++ (recover 3 1000 junk ∷ recover 4 1000 junk ∷ format 0 (0 ∷ 0 ∷ []) ∷ []))) ≡ 4
unfolding everything after_all lag_in
lag-given = refl

lag-refused : replies small (begun_lag 2) (format 3 (0 ∷ 0 ∷ []) ∷ recover 0 1000 junk ∷ format 3 (0 ∷ []) ∷ format 2 (0 ∷ 0 ∷ []) ∷ [])
    ≡ answered (Refused 16) ∷ recovered (recovereds.Refused 16) ∷ answered (Refused 1) ∷ answered Done ∷ []
unfolding everything replies
lag-refused = refl

-- ---- POKE is withdrawn. Word 0 is 3, so a POKE by it writes word 3 mod 2, which is 1.
-- A new transaction with one is refused with 5, by Log also where it is passed over; one that was logged under the former rule is redone
abbrev redone : List Event
redone =
    call (log_by former 0 poke)
    ∷ call (log 1 poke)
    ∷ call (log 1 poke_passed)
    ∷ call (validate 0 poke)
    ∷ call (redo 0)
    ∷ []

poke-redone : replies small (begun_with (3 ∷ 0 ∷ [])) redone
    ≡ answered (Logged (record { count = 1; stamp = 2 }))
    ∷ answered (Refused 5)
    ∷ answered (Refused 5)
    ∷ answered (Refused 5)
    ∷ answered (Committed 4)
    ∷ []
unfolding everything replies
poke-redone = refl

poke-redone-words : cached_in small (after_all small (begun_with (3 ∷ 0 ∷ [])) redone) ≡ 3 ∷ 7 ∷ []
unfolding everything after_all cached_in
poke-redone-words = refl

-- or dropped by a Mark
poke-dropped : replies small (begun_with (3 ∷ 0 ∷ [])) (call (log_by former 0 poke) ∷ call (mark 0) ∷ call (redo 0) ∷ [])
    ≡ answered (Logged (record { count = 1; stamp = 2 })) ∷ answered (Marked (record { stamp = 4; dropped = true })) ∷ answered (Refused 7) ∷ []
unfolding everything replies
poke-dropped = refl

-- one that is stale can no longer be committed: its lane goes on with a Mark
poke-stale : replies small (begun_with (3 ∷ 0 ∷ []))
    (call (log_by former 0 poke) ∷ call (log 1 (set0 5)) ∷ call (redo 1) ∷ call (redo 0) ∷ call (validate 0 poke) ∷ call (mark 0) ∷ [])
    ≡ answered (Logged (record { count = 1; stamp = 2 }))
    ∷ answered (Logged (record { count = 1; stamp = 4 }))
    ∷ answered (Committed 6)
    ∷ answered Stale
    ∷ answered (Refused 5)
    ∷ answered (Marked (record { stamp = 8; dropped = true }))
    ∷ []
unfolding everything replies
poke-stale = refl

-- a cut with one committed at 4: all is written back, the boundary is 4, and it is undone; or it is marked at 6 and drained, there is no boundary, and it stays
abbrev redone_cut : System
redone_cut = after_all small (begun_with (3 ∷ 0 ∷ [])) (redone ++ (write_backs 0 139 ++ (fails junk ∷ [])))

poke-undone : replies small redone_cut (recover max_lag 1000 junk ∷ []) ≡ recovered (Finished (record { boundary = Some 4; undone = 1; torn = 0 })) ∷ []
unfolding everything replies after_all write_backs
poke-undone = refl

poke-undone-words : words_in small (after_all small redone_cut (recover max_lag 1000 junk ∷ [])) ≡ 3 ∷ 0 ∷ []
unfolding everything after_all write_backs words_in
poke-undone-words = refl

poke-kept-words : words_in small
    (after_all small (begun_with (3 ∷ 0 ∷ [])) (redone ++ (call (mark 0) ∷ call (drain 0) ∷ fails junk ∷ recover max_lag 1000 junk ∷ [])))
    ≡ 3 ∷ 7 ∷ []
unfolding everything after_all words_in
poke-kept-words = refl

-- under the former rule one could be validated too: stale after a commit of lane 1, it writes word 5 mod 2, which is word 1 still
poke-validated : replies small (begun_with (3 ∷ 0 ∷ []))
    (call (log_by former 0 poke) ∷ call (log 1 (set0 5)) ∷ call (redo 1) ∷ call (redo 0) ∷ call (validate_by former 0 poke) ∷ [])
    ≡ answered (Logged (record { count = 1; stamp = 2 }))
    ∷ answered (Logged (record { count = 1; stamp = 4 }))
    ∷ answered (Committed 6)
    ∷ answered Stale
    ∷ answered (Committed 8)
    ∷ []
unfolding everything replies
poke-validated = refl

-- ---- Log of no words
-- a commit at 4 is settled at 6 and the lane drained: no lane gives a boundary, and the commit stays
abbrev settled_list : List Event
settled_list = call (log 0 (set0 2)) ∷ call (redo 0) ∷ call (log 0 []) ∷ call (drain 0) ∷ fails junk ∷ []

settled-kept : replies small begun (settled_list ++ (recover max_lag 1000 junk ∷ []))
    ≡ answered (Logged (record { count = 1; stamp = 2 }))
    ∷ answered (Committed 4)
    ∷ answered (Settled 6)
    ∷ answered Done
    ∷ failed false
    ∷ recovered (Finished (record { boundary = None; undone = 0; torn = 0 }))
    ∷ []
unfolding everything replies
settled-kept = refl

settled-words : words_in small (after_all small begun (settled_list ++ (recover max_lag 1000 junk ∷ []))) ≡ 2 ∷ 0 ∷ []
unfolding everything after_all words_in
settled-words = refl

-- without the later drain the commit is the boundary, and lost
settled-undrained : words_in small (after_all small begun (call (log 0 (set0 2)) ∷ call (redo 0) ∷ call (log 0 []) ∷ fails junk ∷ recover max_lag 1000 junk ∷ []))
    ≡ 0 ∷ 0 ∷ []
unfolding everything after_all words_in
settled-undrained = refl

-- the drain inside a later step of the lane serves too, even where power cuts that step short behind it
settled-by-step : words_in small
    (after_all small begun
    (call (log 0 (set0 2)) ∷ call (redo 0) ∷ call (log 0 []) ∷ fails_after_drain (log 0 (set0 3)) junk ∷ recover max_lag 1000 junk ∷ []))
    ≡ 2 ∷ 0 ∷ []
unfolding everything after_all words_in
settled-by-step = refl

-- another lane's floor of 2 is below the commit at 6: that is the boundary, and the commit is lost
settled-below : words_in small
    (after_all small begun
    (call (log 1 (set1 9)) ∷ call (drain 1) ∷ call (log 0 (set0 2)) ∷ call (redo 0) ∷ call (log 0 []) ∷ call (drain 0) ∷ fails junk
    ∷ recover max_lag 1000 junk ∷ []))
    ≡ 0 ∷ 0 ∷ []
unfolding everything after_all words_in
settled-below = refl

-- the store after it is the one after a Mark, where the lane holds nothing
settled-as-mark : after_all small begun (call (log 0 (set0 2)) ∷ call (redo 0) ∷ call (log 0 []) ∷ [])
    ≡ after_all small begun (call (log 0 (set0 2)) ∷ call (redo 0) ∷ call (mark 0) ∷ [])
unfolding everything after_all
settled-as-mark = refl

-- a lane that holds a transaction is not settled, and the transaction can still be committed; one word is no transaction; to Validate no words are none
-- either; there is no lane 2
settled-not : replies small begun
    (call (log 0 (set0 2)) ∷ call (log 0 []) ∷ call (redo 0) ∷ call (log 0 (1 ∷ [])) ∷ call (validate 0 []) ∷ call (log 2 []) ∷ [])
    ≡ answered (Logged (record { count = 1; stamp = 2 }))
    ∷ answered (Refused 6)
    ∷ answered (Committed 4)
    ∷ answered (Refused 5)
    ∷ answered (Refused 5)
    ∷ answered (Refused 3)
    ∷ []
unfolding everything replies
settled-not = refl

-- ---- long transactions
-- two data words and one lane of 60 slots: an image of 123 words, and the four of its trailer. 40 instructions count 43 slots, as many as leave room for a
-- sequence of sixteen
abbrev wide : Sizes
wide = record { words = 2; lanes = 1; slots = 60 }

-- words 0 and 1 are 9 and 8; 40 marks have moved the lane to slot 40 and the clock to 80
abbrev moved : System
moved = after_all wide (live (started max_lag 0 (start_image wide (9 ∷ 8 ∷ [])))) (marks 0 40)

-- Lock at 82, and six Continues. The three parts stand at slots 40 to 56, 57 to 13 over the wrap, and 14 to 22
abbrev long_list : (n : ℕ) → List Event
long_list n = call (lock 0 (sets 1 40)) ∷ proceeds 0 n

long-replies : replies wide moved (long_list 6)
    ≡ answered (Locked (record { left = 40; stamp = 82 }))
    ∷ answered (Locked (record { left = 40; stamp = 82 }))
    ∷ answered (Locked (record { left = 24; stamp = 82 }))
    ∷ answered (Locked (record { left = 24; stamp = 82 }))
    ∷ answered (Locked (record { left = 8; stamp = 82 }))
    ∷ answered (Locked (record { left = 8; stamp = 82 }))
    ∷ answered (Locked (record { left = 0; stamp = 82 }))
    ∷ []
unfolding everything replies after_all marks proceeds sets
long-replies = refl

-- of each of the first n + 1 numbers
unfoldable each : (ℕ → List ℕ) → (n : ℕ) → List (List ℕ)
each f zero = f 0 ∷ []
each f (suc n) = each f n ++ (f (suc n) ∷ [])

-- the words that a caller sees, after Lock and after each Continue
long-seen : each (λ n. cached_in wide (after_all wide moved (long_list n))) 6
    ≡ (9 ∷ 8 ∷ []) ∷ (9 ∷ 8 ∷ []) ∷ (16 ∷ 15 ∷ []) ∷ (16 ∷ 15 ∷ []) ∷ (32 ∷ 31 ∷ []) ∷ (32 ∷ 31 ∷ []) ∷ (40 ∷ 39 ∷ []) ∷ []
unfolding everything after_all cached_in marks proceeds sets each
long-seen = refl

-- power fails after Lock, or after one of the Continues: with all words written back, and with none. Recovery leaves nothing of the transaction
abbrev none7 : List (List ℕ)
none7 = (9 ∷ 8 ∷ []) ∷ (9 ∷ 8 ∷ []) ∷ (9 ∷ 8 ∷ []) ∷ (9 ∷ 8 ∷ []) ∷ (9 ∷ 8 ∷ []) ∷ (9 ∷ 8 ∷ []) ∷ (9 ∷ 8 ∷ []) ∷ []

long-cut-back : each (λ n. words_in wide (after_all wide moved (long_list n ++ (write_backs 0 123 ++ (fails junk ∷ recover max_lag 1000 junk ∷ []))))) 6 ≡ none7
unfolding everything after_all words_in marks proceeds sets each write_backs
long-cut-back = refl

long-cut : each (λ n. words_in wide (after_all wide moved (long_list n ++ (fails junk ∷ recover max_lag 1000 junk ∷ [])))) 6 ≡ none7
unfolding everything after_all words_in marks proceeds sets each
long-cut = refl

-- and inside the drain of the next step: after both data words alone, and after the whole of it
long-cut-in : each (λ n. words_in wide (after_all wide moved (long_list n ++ (fails_in_drain (proceed 0) (1 ∷ 2 ∷ []) junk ∷ recover max_lag 1000 junk ∷ [])))) 6
    ≡ none7
unfolding everything after_all words_in marks proceeds sets each
long-cut-in = refl

long-cut-after : each (λ n. words_in wide (after_all wide moved (long_list n ++ (fails_after_drain (proceed 0) junk ∷ recover max_lag 1000 junk ∷ [])))) 6
    ≡ none7
unfolding everything after_all words_in marks proceeds sets each
long-cut-after = refl

-- what recovery answers after the last Continue, all written back: all forty entries are undone
long-undone : replies wide (after_all wide moved (long_list 6 ++ (write_backs 0 123 ++ (fails junk ∷ [])))) (recover max_lag 1000 junk ∷ [])
    ≡ recovered (Finished (record { boundary = Some 82; undone = 40; torn = 0 })) ∷ []
unfolding everything replies after_all marks proceeds sets write_backs
long-undone = refl

-- the lane is marked and drained after it: all of it stays
long_kept : words_in wide (after_all wide moved (long_list 6 ++ (call (mark 0) ∷ call (drain 0) ∷ fails junk ∷ recover max_lag 1000 junk ∷ [])))
    ≡ 40 ∷ 39 ∷ []
unfolding everything after_all words_in marks proceeds sets
long_kept = refl

-- ---- the smallest log with two parts, 36 slots, of which 17 instructions count 19. 19 marks move the lane to slot 19: the first part ends in slot 35,
-- before the wrap, the second stands in slots 0 and 1. That one is undone first, though its slot is lower
over-wrap : words_in tight (after_all tight (live (started max_lag 0 (start_image tight (9 ∷ [])))) (over_wrap ++ (call (drain 0) ∷ fails junk ∷ [])))
    ≡ 17 ∷ []
unfolding everything after_all words_in marks proceeds rising
over-wrap = refl

over-wrap-undone : words_in tight
    (after_all tight (live (started max_lag 0 (start_image tight (9 ∷ [])))) (over_wrap ++ (call (drain 0) ∷ fails junk ∷ recover max_lag 1000 junk ∷ [])))
    ≡ 9 ∷ []
unfolding everything after_all words_in marks proceeds rising
over-wrap-undone = refl

-- ---- while the lock is held
-- lane 1 has logged at 2; lane 0 takes the lock at 4 for one write. Steps are refused with 11, but for what comes before it; drains are not
abbrev while_held : List Event
while_held =
    call (log 1 (set1 9))
    ∷ call (lock 0 (set0 2))
    ∷ call (log 0 (set0 3))
    ∷ call (log 0 [])
    ∷ call (log 1 (set1 3))
    ∷ call (redo 1)
    ∷ call (redo 0)
    ∷ call (validate 1 (set1 9))
    ∷ call (mark 1)
    ∷ call (lock 0 (set0 3))
    ∷ call (proceed 1)
    ∷ call (proceed 2)
    ∷ call (drain 1)
    ∷ call (proceed 0)
    ∷ call (mark 0)
    ∷ call (proceed 0)
    ∷ call (proceed 0)
    ∷ call (redo 1)
    ∷ []

while-held : replies small begun while_held
    ≡ answered (Logged (record { count = 1; stamp = 2 }))
    ∷ answered (Locked (record { left = 1; stamp = 4 }))
    ∷ answered (Refused 11)
    ∷ answered (Refused 11)
    ∷ answered (Refused 6)
    ∷ answered (Refused 11)
    ∷ answered (Refused 7)
    ∷ answered (Refused 11)
    ∷ answered (Refused 11)
    ∷ answered (Refused 11)
    ∷ answered (Refused 11)
    ∷ answered (Refused 3)
    ∷ answered Done
    ∷ answered (Locked (record { left = 1; stamp = 4 }))
    ∷ answered (Refused 11)
    ∷ answered (Locked (record { left = 0; stamp = 4 }))
    ∷ answered (Refused 7)
    ∷ answered Stale
    ∷ []
unfolding everything replies
while-held = refl

-- sixteen writes are one part, with no empty one behind it; 17 instructions count 19 slots, which leaves no room for sixteen more in 34; 65 are too many;
-- and a Lock that writes nothing, word 1 being 0, takes nothing
whole_part : replies small begun
    (call (lock 0 (sets 1 17)) ∷ call (lock 0 (sets 1 65)) ∷ call (lock 0 []) ∷ call (lock 0 (5 ∷ 0 ∷ 1 ∷ 1 ∷ set0 3)) ∷ call (proceed 0)
    ∷ call (lock 0 (sets 1 16)) ∷ proceeds 0 3)
    ≡ answered (Refused 12)
    ∷ answered (Refused 5)
    ∷ answered (Refused 5)
    ∷ answered NoWrites
    ∷ answered (Refused 7)
    ∷ answered (Locked (record { left = 16; stamp = 2 }))
    ∷ answered (Locked (record { left = 16; stamp = 2 }))
    ∷ answered (Locked (record { left = 0; stamp = 2 }))
    ∷ answered (Refused 7)
    ∷ []
unfolding everything replies sets proceeds
whole_part = refl

-- the lag limit binds Lock: lane 0 would lock at 8, with lane 1's floor at 2 and a limit of 2
lock-lags : replies small (begun_lag 2) (call (log 1 (set1 9)) ∷ call (log 0 (set0 2)) ∷ call (redo 0) ∷ call (lock 0 (set0 3)) ∷ [])
    ≡ answered (Logged (record { count = 1; stamp = 2 }))
    ∷ answered (Logged (record { count = 1; stamp = 4 }))
    ∷ answered (Committed 6)
    ∷ answered (Refused 15)
    ∷ []
unfolding everything replies
lock-lags = refl

-- the timestamp that Lock answers has not been appended, so a drain does not settle the lane with it: the commit at 4 is the boundary, and lost. A
-- Continue's has
lock-unsettled : words_in small
    (after_all small begun (call (log 0 (set0 2)) ∷ call (redo 0) ∷ call (lock 0 (set1 9)) ∷ call (drain 0) ∷ fails junk ∷ recover max_lag 1000 junk ∷ []))
    ≡ 0 ∷ 0 ∷ []
unfolding everything after_all words_in
lock-unsettled = refl

continue-settled : words_in small
    (after_all small begun
    (call (log 0 (set0 2)) ∷ call (redo 0) ∷ call (lock 0 (set1 9)) ∷ call (proceed 0) ∷ call (drain 0) ∷ fails junk ∷ recover max_lag 1000 junk ∷ []))
    ≡ 2 ∷ 0 ∷ []
unfolding everything after_all words_in
continue-settled = refl

-- no lane has a floor when the lock is taken at 2, and still the commit at 2 that comes of it can be lost
lock-unsafe : words_in small (after_all small begun (call (lock 0 (set0 2)) ∷ proceeds 0 2 ++ (fails junk ∷ recover max_lag 1000 junk ∷ []))) ≡ 0 ∷ 0 ∷ []
unfolding everything after_all words_in proceeds
lock-unsafe = refl

-- ---- the trailer
-- the last words of cells and cache after a commit, a cut and a recovery without sizes, and the flags of these words: as Format left them
unfoldable ends_in : Sizes → System → List ℕ
ends_in z (live m) = end_of z m.nvm ++ (end_of z m.cache ++ end_of z m.flags)
ends_in z (down nvm j found) = end_of z nvm

trailer-kept : ends_in small (after_all small begun (two_lanes ++ (write_backs 0 143 ++ (fails junk ∷ recover max_lag 1000 junk ∷ []))))
    ≡ 2 ∷ 2 ∷ 34 ∷ 139 ∷ 2 ∷ 2 ∷ 34 ∷ 139 ∷ 0 ∷ 0 ∷ 0 ∷ 0 ∷ []
unfolding everything after_all write_backs ends_in
trailer-kept = refl

-- a write-back of its last word is taken, one of the word past it refused
trailer-written : replies small begun (write_back 142 ∷ write_back 143 ∷ []) ≡ answered Done ∷ answered (Refused 4) ∷ []
unfolding everything replies
trailer-written = refl

-- such an image is not recovered with its sizes given
unfoldable answered_by : Restarted → Recovered
answered_by r = r.answer

trailer-given : answered_by (recover_step small max_lag 1000 (started max_lag 0 (start_image small (0 ∷ 0 ∷ [])))) ≡ recovereds.Refused 1
unfolding everything answered_by
trailer-given = refl

-- ---- an image of the former length: 139 words, base 4, both data words 5, empty logs
abbrev former139 : Machine
former139 = started max_lag 4 (4 ∷ 5 ∷ 5 ∷ replicate 136 0)

former-taken : answered_by (recover_step small max_lag 1000 former139) ≡ Finished (record { boundary = None; undone = 0; torn = 0 })
unfolding everything answered_by
former-taken = refl

-- without sizes it is refused: its last words tell none
former-unread : answered_by (recover_read_step max_lag 1000 former139) ≡ recovereds.Refused 14
unfolding everything answered_by
former-unread = refl

-- from there on it works as any, but Format is refused; a cut with the commit at 8 written back, and it is undone
abbrev former_list : List Event
former_list = call (log 0 (set0 2)) ∷ call (redo 0) ∷ format max_lag (0 ∷ 0 ∷ []) ∷ write_back 138 ∷ write_back 139 ∷ []

abbrev former_begun : System
former_begun = live (recover_step small max_lag 1000 former139).machine

former-works : replies small former_begun former_list
    ≡ answered (Logged (record { count = 1; stamp = 6 })) ∷ answered (Committed 8) ∷ answered (Refused 1) ∷ answered Done ∷ answered (Refused 4) ∷ []
unfolding everything replies
former-works = refl

abbrev former_cut : System
former_cut = after_all small former_begun (former_list ++ (write_backs 0 139 ++ (fails junk ∷ [])))

former-recovers : replies small former_cut (recover max_lag 1000 junk ∷ []) ≡ recovered (Finished (record { boundary = Some 8; undone = 1; torn = 0 })) ∷ []
unfolding everything replies after_all write_backs
former-recovers = refl

former-words : words_in small (after_all small former_cut (recover max_lag 1000 junk ∷ [])) ≡ 5 ∷ 5 ∷ []
unfolding everything after_all write_backs words_in
former-words = refl

-- ---- one image, two readings: 75 words are an image of the former length of six data words, one lane and 34 slots, and also one with a trailer of two
-- data words, one lane and 34 slots, if its last four words, two torn slots of the one's log, are 2, 1, 34, 71. The call that is used decides
abbrev lookalike : Machine
lookalike = started max_lag 0 (replicate 71 0 ++ (2 ∷ 1 ∷ 34 ∷ 71 ∷ []))

read-given : answered_by (recover_step (record { words = 6; lanes = 1; slots = 34 }) max_lag 1000 lookalike)
    ≡ Finished (record { boundary = None; undone = 0; torn = 2 })
unfolding everything answered_by
read-given = refl

read_told : answered_by (recover_read_step max_lag 1000 lookalike) ≡ Finished (record { boundary = None; undone = 0; torn = 0 })
unfolding everything answered_by
read_told = refl
