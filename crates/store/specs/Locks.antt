-- Long transactions under the lock: the call that takes it, and the call that makes the next step, which logs a part or writes it. SPECIFICATION, "Long
-- transactions". Assumes nothing.
use Rattle.std.specs.Prelude.{ℕ, ◌+◌, ◌-◌, ◌/◌, cond, not, ◌&&◌, List, [], ◌∷◌, leb, ltb, eqb, length, get_or, set, Some, None}
use Rattle.txn.specs.Txn.{max_long, current}
use Rattle.txn.specs.declared.Write.{Write}
use Rattle.image.specs.Image.{data_of}
use Rattle.image.specs.declared.Sizes.{Sizes}
use Rattle.record.specs.Record.{lane_at, is_held, locked_in, part_length, pairs_from, pairs_of, words_of_pairs, spent, with_clock, with_last, with_lock}
use Rattle.record.specs.declared.Pair.{Pair}
use Rattle.record.specs.declared.Locked.{Locked}
use Rattle.record.specs.declared.Record.{Record}
use Rattle.store.specs.Answers as answer
use Rattle.store.specs.Machine.{Machine, Step, first_cause, unless}
use Rattle.store.specs.Calls.{bad_buffers, bad_record, bad_lane, bad_txn, already_logged, lock_held, drained, changed, would_hit, would_lag, writes_on}
use Rattle.store.specs.Calls.{appended_at, pair_stores}

-- ---- Lock
-- the slots counted for a long transaction: one for each instruction, and a timestamp for each sixteen begun
unfoldable pub slots_counted : List ℕ → ℕ
slots_counted f = let n = length f / 4 in n + (n + 15) / 16

-- 8, 15 and 9 do not apply where nothing is written; 12 does: more slots counted than leave room for a sequence of sixteen
unfoldable pub lock_refusal : Sizes → ℕ → List ℕ → Machine → ℕ
lock_refusal z L f m =
    let n = length (writes_on z f m) in
    first_cause
    (bad_buffers z m
    ∷ bad_record z m
    ∷ bad_lane z L
    ∷ bad_txn current max_long z f
    ∷ already_logged L m
    ∷ lock_held m
    ∷ record { number = 12; holds = ltb (z.slots - 17) (slots_counted f) }
    ∷ record { number = 8; holds = leb 1 n && spent m.state }
    ∷ record { number = 15; holds = leb 1 n && would_lag z L m }
    ∷ record { number = 9; holds = leb 1 n && would_hit z L (slots_counted f) m }
    ∷ [])

-- the lock is taken by lane L for these writes, with a new timestamp; nothing is appended
unfoldable pub locked : ℕ → List Write → Machine → Machine
locked L ws m =
    let s = (m.state).clock + 2 in
    record {
      state = with_lock (with_clock m.state s) (Some (record { lane = L; stamp = s; count = length ws; logged = 0; written = 0 }));
      pairs = words_of_pairs (pairs_of max_long ws);
      cache = m.cache;
      nvm = m.nvm;
      flags = m.flags;
    }

unfoldable pub lock_step : Sizes → ℕ → List ℕ → Machine → Step
lock_step z L f m =
    let ws = writes_on z f m in
    unless (lock_refusal z L f m) m
    (cond (eqb (length ws) 0)
    (record { answer = answer.NoWrites; machine = drained z L m })
    (record { answer = answer.Locked (record { left = length ws; stamp = (m.state).clock + 2 }); machine = locked L ws (drained z L m) }))

-- ---- Continue
-- 7: no lock is held; 11: another lane holds it
unfoldable pub proceed_refusal : Sizes → ℕ → Machine → ℕ
proceed_refusal z L m =
    first_cause
    (bad_buffers z m
    ∷ bad_record z m
    ∷ bad_lane z L
    ∷ record { number = 7; holds = not (is_held (m.state).lock) }
    ∷ record { number = 11; holds = not (eqb (locked_in (m.state).lock).lane L) }
    ∷ [])

-- the pairs of the present part
unfoldable pub part_of : Locked → (pairs : List ℕ) → List Pair
part_of k ps = pairs_from ps k.written (part_length k)

-- the writes that pairs make on data words, each with its running old value
unfoldable pub pair_writes : List Pair → List ℕ → List Write
pair_writes [] ws = []
pair_writes (p ∷ ps) ws = record { word = p.word; old = get_or ws p.word 0; new = p.value } ∷ pair_writes ps (set ws p.word p.value)

-- the present part logged, as Log does, but with the lock's timestamp
unfoldable pub part_logged : Sizes → Locked → Machine → Machine
part_logged z k m =
    let ws = pair_writes (part_of k m.pairs) (data_of z m.cache) in
    let held : Locked = record { lane = k.lane; stamp = k.stamp; count = k.count; logged = k.logged + length ws; written = k.written } in
    appended_at z k.lane k.stamp ws None (lane_at m.state k.lane).redo (with_lock m.state (Some held)) m

-- the record after the present part is written: the last one commits, and frees the lock
unfoldable pub part_written_state : Locked → Record → Record
part_written_state k r =
    let n = k.written + part_length k in
    cond (eqb n k.count) (with_lock (with_last r k.stamp) None)
    (with_lock r (Some (record { lane = k.lane; stamp = k.stamp; count = k.count; logged = k.logged; written = n })))

unfoldable pub part_written : Locked → Machine → Machine
part_written k m = changed k.lane (pair_stores (part_of k m.pairs)) (part_written_state k m.state) m

-- the next step of a locked transaction: where all that is logged is written, the next part is logged; else that part is written
unfoldable pub next_step : Sizes → Locked → Machine → Step
next_step z k m =
    cond (eqb k.logged k.written)
    (record { answer = answer.Locked (record { left = k.count - k.written; stamp = k.stamp }); machine = part_logged z k m })
    (record { answer = answer.Locked (record { left = k.count - (k.written + part_length k); stamp = k.stamp }); machine = part_written k m })

unfoldable pub proceed_step : Sizes → ℕ → Machine → Step
proceed_step z L m = unless (proceed_refusal z L m) m (next_step z (locked_in (m.state).lock) (drained z L m))
