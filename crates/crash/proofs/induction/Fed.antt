-- What the history does with each move, which calls are taken, and that none changes a length: one equation a move. Assumes nothing.
use Rattle.std.specs.Prelude.{Some, None}
use mathlib.Core.Path.{◌≡◌, refl}
use mathlib.Core.Bool.{true, false, not}
use mathlib.Core.List.{List, [], ◌∷◌}
use Prim.Native.Nat.{ℕ, ◌+◌, ◌-◌, ◌≤◌, ◌<◌}
use lib.ListN.{length}
use borrow.Author.Tests.{eq-eqb, le-leb, lt-leb}
use Rattle.laws.specs.inner.Tests.{clash}
use Rattle.txn.specs.Txn.{max_writes, max_long, current, former, txn_by}
use Rattle.image.specs.inner.FlushLaws.{length-drained_nvm}
use Rattle.image.specs.declared.Sizes.{Sizes}
use Rattle.record.specs.Record.{lane_at, is_logged, lock_length, is_held, pairs_of}
use Rattle.record.specs.declared.Locked.{Locked}
use Rattle.store.specs.Machine.{Machine, Step, first_cause, unless, said}
use Rattle.store.specs.Calls.{bad_buffers, bad_record, bad_lane, drained, changed, writes_on, appended, marked, logged}
use Rattle.store.specs.Calls.{committed, is_stale, redo_pairs, matches, drain_refusal, drain_step}
use Rattle.store.specs.Calls as calls
use Rattle.store.specs.Locks.{slots_counted, locked, part_logged, part_written}
use Rattle.store.specs.Answers.{Answer}
use Rattle.store.specs.Answers.{Refused, Done}
use Rattle.crash.specs.Events.{Call, drain, lane_of, call_step, vandzulge, is_taken}
use Rattle.crash.specs.History.{closing_at, mark_at, History, page_at, after_drain, stamped, released, held_by}
use Rattle.crash.specs.History.{lock_taken, next_part, is_counted, taken, after_call}
use Rattle.crash.proofs.induction.Moves.{Known, Room, Ready, Drains, quiet, late, plain, idling}
use Rattle.crash.proofs.induction.Moves.{Move, refusing, draining, logging, settling, redoing, validating, giving-up, marking, locking, parting, writing}
use Rattle.crash.proofs.induction.Moves.{call-moves}

-- ---- the history
pub fed-refusing : (c : Call) (n : ℕ) (h : History) → after_call c (Refused n) h ≡ h
unfolding after_call said
fed-refusing c n h = refl

pub fed-draining : (z : Sizes) (m : Machine) {c : Call} {a : Answer} (h : History) → Drains z m c a → after_call c a h ≡ after_drain (lane_of c) h
unfolding after_call said taken is_counted lane_of
fed-draining z m h (quiet q L w f ok i e) = refl
fed-draining z m h (late L r t) = refl
fed-draining z m h (plain L) = refl
fed-draining z m h (idling L f e) = refl

-- what each move does to machine and history together: an invariant is kept by calls if it is kept so
pub record Steps (z : Sizes) (Inv : Machine → History → Type 0) : Type 0 where
  pub drains : (m : Machine) (h : History) (L : ℕ) → Inv m h → Known z m L → Inv (drained z L m) (after_drain L h)
  pub logs : (m : Machine) (h : History) (L : ℕ) (f : List ℕ) → Inv m h → Known z m L → txn_by former max_writes z.words f ≡ true
      → is_logged (lane_at m.state L).phase ≡ false → is_held m.state.lock ≡ false → 0 < length (writes_on z f m)
      → Room z m L (length (writes_on z f m) + 1)
      → Inv (logged z L (writes_on z f m) (drained z L m)) (stamped L closing_at (Some f) [] (after_drain L h))
  pub redoes : (m : Machine) (h : History) (L : ℕ) → Inv m h → Known z m L → Ready m L → is_stale L m ≡ false
      → Inv (committed z L (redo_pairs L m) (drained z L m)) (stamped L closing_at None (held_by (page_at h L).held) (after_drain L h))
  pub validates : (m : Machine) (h : History) (L : ℕ) (f : List ℕ) → Inv m h → Known z m L → txn_by former max_writes z.words f ≡ true
      → Ready m L → matches z L (writes_on z f m) m ≡ true
      → Inv (committed z L (pairs_of (length (writes_on z f m)) (writes_on z f m)) (drained z L m)) (stamped L closing_at None (f ∷ []) (after_drain L h))
  pub gives_up : (m : Machine) (h : History) (L : ℕ) (f : List ℕ) → Inv m h → Known z m L → txn_by former max_writes z.words f ≡ true
      → Ready m L → matches z L (writes_on z f m) m ≡ false
      → Inv (calls.released L (drained z L m)) (released L (after_drain L h))
  pub marks : (m : Machine) (h : History) (L : ℕ) → Inv m h → Known z m L → is_held m.state.lock ≡ false → Room z m L 1
      → Inv (marked z L m) (stamped L mark_at None [] (after_drain L h))
  pub locks : (m : Machine) (h : History) (L : ℕ) (f : List ℕ) → Inv m h → Known z m L → txn_by current max_long z.words f ≡ true
      → is_logged (lane_at m.state L).phase ≡ false → is_held m.state.lock ≡ false → slots_counted f ≤ z.slots - 17
      → 0 < length (writes_on z f m) → Room z m L (slots_counted f)
      → Inv (locked L (writes_on z f m) (drained z L m)) (lock_taken L f (length (writes_on z f m)) (after_drain L h))
  pub parts : (m : Machine) (h : History) (k : Locked) → Inv m h → Known z m k.lane → m.state.lock ≡ Some k → k.logged ≡ k.written
      → Inv (part_logged z k (drained z k.lane m)) (next_part h.lock (after_drain k.lane h))
  pub makes : (m : Machine) (h : History) (k : Locked) → Inv m h → Known z m k.lane → m.state.lock ≡ Some k → (k.logged ≡ k.written → ⊥)
      → Inv (part_written k (drained z k.lane m)) (next_part h.lock (after_drain k.lane h))

module _ (z : Sizes) (Inv : Machine → History → Type 0) (steps : Steps z Inv) where
  by_move : (m : Machine) (h : History) {c : Call} {s : Step} → Move z m c s → Inv m h → Inv s.machine (after_call c s.answer h)
  unfolding after_call said taken is_counted
  by_move m h {c} (refusing n e p) v = rw (fed-refusing c n h) v
  by_move m h (draining k d) v = rw (fed-draining z m h d) (steps.drains m h _ v k)
  by_move m h (logging q L w f k ok i e p r) v = rw (le-leb 1 (length (writes_on z (w ∷ f) m)) p) (steps.logs m h L (w ∷ f) v k ok i e p r)
  by_move m h (settling q L k i e r) v = steps.marks m h L v k e r
  by_move m h (redoing L k r t) v = steps.redoes m h L v k r t
  by_move m h (validating q L f k ok r t) v = steps.validates m h L f v k ok r t
  by_move m h (giving-up q L f k ok r t) v = steps.gives_up m h L f v k ok r t
  by_move m h (marking L k e r) v = steps.marks m h L v k e r
  by_move m h (locking L f k ok i e d p r) v = rw (le-leb 1 (length (writes_on z f m)) p) (steps.locks m h L f v k ok i e d p r)
  by_move m h (parting k known e t) v = steps.parts m h k v known e t
  by_move m h (writing k known e t) v = steps.makes m h k v known e t

  pub call-by-steps : (m : Machine) (h : History) (c : Call) → Inv m h → Inv (call_step z c m).machine (after_call c (call_step z c m).answer h)
  call-by-steps m h c v = by_move m h (call-moves z m c) v

-- ---- taken calls
taken-by : (z : Sizes) (m : Machine) {c : Call} {s : Step} → Move z m c s → not (said s.answer).refused ≡ true → Known z m (lane_of c)
unfolding said lane_of
taken-by z m (refusing n e p) t = clash false t refl
taken-by z m (draining k d) t = k
taken-by z m (logging q L w f k ok i e p r) t = k
taken-by z m (settling q L k i e r) t = k
taken-by z m (redoing L k r u) t = k
taken-by z m (validating q L f k ok r u) t = k
taken-by z m (giving-up q L f k ok r u) t = k
taken-by z m (marking L k e r) t = k
taken-by z m (locking L f k ok i e d p r) t = k
taken-by z m (parting k known e u) t = known
taken-by z m (writing k known e u) t = known

-- a call that is taken has checked buffers, record and lane
pub taken-known : (z : Sizes) (c : Call) (m : Machine) → is_taken vandzulge z c m ≡ true → Known z m (lane_of c)
unfolding is_taken vandzulge
taken-known z c m t = taken-by z m (call-moves z m c) t

-- and then a Drain of its lane is taken
pub drain-taken : (z : Sizes) (m : Machine) (L : ℕ) → Known z m L → call_step z (drain L) m ≡ record { answer = Done; machine = drained z L m }
unfolding call_step drain_step drain_refusal bad_buffers bad_record bad_lane first_cause unless
drain-taken z m L k = rw (k.buffers, eq-eqb (length m.pairs) lock_length k.pairs, k.fields, lt-leb z.lanes L k.lane)

-- ---- no call changes how long non-volatile memory is
length-by : (z : Sizes) (m : Machine) {c : Call} {s : Step} → Move z m c s → length s.machine.nvm ≡ length m.nvm
unfolding drained logged appended committed changed calls.released locked part_logged part_written
length-by z m (refusing n e p) = refl
length-by z m {c} (draining k d) = length-drained_nvm (lane_of c) m.flags m.cache m.nvm
length-by z m (logging q L w f k ok i e p r) = length-drained_nvm L m.flags m.cache m.nvm
length-by z m (settling q L k i e r) = length-drained_nvm L m.flags m.cache m.nvm
length-by z m (redoing L k r t) = length-drained_nvm L m.flags m.cache m.nvm
length-by z m (validating q L f k ok r t) = length-drained_nvm L m.flags m.cache m.nvm
length-by z m (giving-up q L f k ok r t) = length-drained_nvm L m.flags m.cache m.nvm
length-by z m (marking L k e r) = length-drained_nvm L m.flags m.cache m.nvm
length-by z m (locking L f k ok i e d p r) = length-drained_nvm L m.flags m.cache m.nvm
length-by z m (parting k known e u) = length-drained_nvm k.lane m.flags m.cache m.nvm
length-by z m (writing k known e u) = length-drained_nvm k.lane m.flags m.cache m.nvm

pub call_length : (z : Sizes) (m : Machine) (c : Call) → length (call_step z c m).machine.nvm ≡ length m.nvm
call_length z m c = length-by z m (call-moves z m c)
