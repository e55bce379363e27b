-- How a theorem is shown to be false of a wrong store: a list of events, or one event, computed, at whose end the store has other numbers than the
-- theorem gives. Assumes nothing.
use Rattle.std.specs.Prelude.{Option, Some, None}
use Prim.Native.Nat.{ℕ, ◌+◌}
use mathlib.Core.Path.{◌≡◌, refl, ap, sym, ◌∙◌}
use mathlib.Core.Bool.{Bool, true, false, not, ◌&&◌}
use mathlib.Core.List.{List, [], ◌∷◌, ◌++◌}
use lib.Dec.{ltb, eqb}
use lib.ListN.{length, replicate}
use borrow.Author.Tests.{ltb-true, eq-eqb, eqb-true, not-true}
use Rattle.laws.specs.inner.Tests.{clash, and_left, and_right}
use Rattle.txn.specs.Txn.{after}
use Rattle.image.specs.Image.{trailer, image_length, data_of}
use Rattle.image.specs.declared.Sizes.{Sizes}
use Rattle.record.specs.Record.{blank_record, lag_passed}
use Rattle.store.specs.Machine.{Machine, said}
use Rattle.store.specs.Calls.{format_refusal}
use Rattle.store.specs.Answers.{Answer}
use Rattle.recovery.specs.Recovery.{boundary, all_made, recover_refusal, told}
use Rattle.recovery.specs.Answers.{Recovered}
use Rattle.recovery.specs.Answers.{Refused, Cut, Finished}
use Rattle.crash.specs.Events.{Call, drain, lane_of, Junk, Event, format, call, recover, System, live, down, nvm_of}
use Rattle.crash.specs.Events.{Reply, answered, recovered, failed, ignored, Design, happens}
use Rattle.crash.specs.History.{Commit, History, opened, is_below, replay, present, visible, words_below, least_floor_of}
use Rattle.crash.specs.Theorem.{end_of, InStep, answer_by, format_answer, recovery_answer, Finishes, Replied, Agrees, CrashTheorem, FormerTheorem}
use Rattle.crash.specs.Theorem.{may_store, TrailerTheorem}
use Rattle.crash.specs.Corollaries.{World, next_world, world_after, KeptBy, Kept, goes_on, next_commit, SafeTheorem}
use Rattle.crash.specs.Corollaries.{is_done, stays_idle, others_floor, is_mark, IdleTheorem, stamps_in, cut_cells, is_bound, LagTheorem}
use Rattle.crash.specs.Corollaries.{are_below, gets_drained, is_lock, SettledTheorem}
use Rattle.crash.proofs.induction.Lists.{holds_after}
use Rattle.crash.proofs.worked.Everything.{everything}

-- ---- numbers that a store has, and that the theorem gives: the same in a store of which it holds
pub record Sides : Type 0 where
  pub has : List ℕ
  pub due : List ℕ

-- where a claim says nothing
abbrev pub no_sides : Sides
no_sides = record { has = []; due = [] }

unfoldable pub same : List ℕ → List ℕ → Bool
same [] [] = true
same [] (y ∷ ys) = false
same (x ∷ xs) [] = false
same (x ∷ xs) (y ∷ ys) = eqb x y && same xs ys

-- it has these, the others are due, and they differ
unfoldable pub differ : Sides → (has due : List ℕ) → Bool
differ s has due = same s.has has && (same s.due due && not (same has due))

same_true : (xs ys : List ℕ) → same xs ys ≡ true → xs ≡ ys
unfolding same
same_true [] [] t = refl
same_true [] (y ∷ ys) t = clash false t refl
same_true (x ∷ xs) [] t = clash false t refl
same_true (x ∷ xs) (y ∷ ys) t = rw (eqb-true x y (and_left _ _ t), same_true xs ys (and_right (eqb x y) _ t))

same_self : (xs : List ℕ) → same xs xs ≡ true
unfolding same
same_self [] = refl
same_self (x ∷ xs) = rw (eq-eqb x x refl, same_self xs)

differ-not : (s : Sides) (has due : List ℕ) → differ s has due ≡ true → s.has ≡ s.due → ⊥
unfolding differ
differ-not s has due t e =
    let a = and_right (same s.has has) _ t in
    let x = same_true s.has has (and_left _ _ t) in
    let y = same_true s.due due (and_left _ _ a) in
    let n = and_right (same s.due due) _ a in
    let b : has ≡ due = sym x ∙ e ∙ y in
    clash false (rw (b, same_self due) at n) refl

-- ---- the claims, each as two sides
-- the cached data words, and the record's clock, after an event
unfoldable pub words_sides : Sizes → History → System → Sides
words_sides z h (live m) = record { has = data_of z m.cache; due = visible z h }
words_sides z h (down nvm j found) = no_sides

unfoldable pub clock_sides : History → System → Sides
clock_sides h (live m) = record { has = m.state.clock ∷ []; due = h.clock ∷ [] }
clock_sides h (down nvm j found) = no_sides

-- and the record's lag limit
unfoldable pub lag_sides : History → System → Sides
lag_sides h (live m) = record { has = m.state.lag ∷ []; due = h.lag ∷ [] }
lag_sides h (down nvm j found) = no_sides

-- an answer's number, its timestamp where it has one, and how many writes of a locked transaction are not yet made
unfoldable pub numbers_in : Answer → List ℕ
numbers_in a = (said a).number ∷ ((said a).stamp ++ (said a).left)

unfoldable pub answer_sides : Sizes → History → Call → System → Reply → Sides
answer_sides z h c (live m) (answered a) = record { has = numbers_in a; due = numbers_in (answer_by z c h m) }
answer_sides z h c (live m) (recovered r) = no_sides
answer_sides z h c (live m) (failed b) = no_sides
answer_sides z h c (live m) ignored = no_sides
answer_sides z h c (down nvm j found) r = no_sides

unfoldable pub format_sides : Sizes → (lag : ℕ) → (start : List ℕ) → Reply → Sides
format_sides z lag start (answered a) = record { has = numbers_in a; due = numbers_in (format_answer z (trailer z) lag start) }
format_sides z lag start (recovered r) = no_sides
format_sides z lag start (failed b) = no_sides
format_sides z lag start ignored = no_sides

-- how many entries recovery answers to have undone and how many torn slots it answers to have found, of the cells before it
unfoldable pub counts_in : Recovered → List ℕ
counts_in r = (told r).undone ++ (told r).torn

unfoldable pub count_sides : Sizes → (lag limit : ℕ) → (cells : List ℕ) → Reply → Sides
count_sides z lag limit cells (answered a) = no_sides
count_sides z lag limit cells (recovered r) = record { has = counts_in r; due = counts_in (recovery_answer z lag limit cells) }
count_sides z lag limit cells (failed b) = no_sides
count_sides z lag limit cells ignored = no_sides

-- the data words in non-volatile memory after a finished recovery, of the history before it and the cut cells
unfoldable pub finished_sides : Sizes → History → (found : List ℕ) → System → Recovered → Sides
finished_sides z h found is (Refused n) = no_sides
finished_sides z h found is Cut = no_sides
finished_sides z h found (live m) (Finished a) = record { has = data_of z m.nvm; due = words_below z (boundary z found) h }
finished_sides z h found (down nvm j f) (Finished a) = no_sides

unfoldable pub recovered_sides : Sizes → History → (found : List ℕ) → System → Reply → Sides
recovered_sides z h found is (answered a) = no_sides
recovered_sides z h found is (recovered r) = finished_sides z h found is r
recovered_sides z h found is (failed b) = no_sides
recovered_sides z h found is ignored = no_sides

-- ---- a store of which the theorem holds has what is due
words-due : (z : Sizes) (h : History) (y : System) → InStep z (trailer z) h y → (words_sides z h y).has ≡ (words_sides z h y).due
unfolding words_sides
words-due z h (live m) v = v.0.words
words-due z h (down nvm j found) v = refl

clock-due : (z : Sizes) (h : History) (y : System) → InStep z (trailer z) h y → (clock_sides h y).has ≡ (clock_sides h y).due
unfolding clock_sides
clock-due z h (live m) v = ap (λ (t : ℕ). t ∷ []) v.0.clock
clock-due z h (down nvm j found) v = refl

lag-due : (z : Sizes) (h : History) (y : System) → InStep z (trailer z) h y → (lag_sides h y).has ≡ (lag_sides h y).due
unfolding lag_sides
lag-due z h (live m) v = ap (λ (t : ℕ). t ∷ []) v.0.lag
lag-due z h (down nvm j found) v = refl

module _ (z : Sizes) (h : History) (was is : System) (found : List ℕ) where
  format-due : (lag : ℕ) (start : List ℕ) (r : Reply) → Replied z (trailer z) h (format lag start) was found is r
      → (format_sides z lag start r).has ≡ (format_sides z lag start r).due
  unfolding format_sides
  format-due lag start (answered a) v = ap numbers_in v
  format-due lag start (recovered r) v = refl
  format-due lag start (failed b) v = refl
  format-due lag start ignored v = refl

  answer-due : (c : Call) (y : System) (r : Reply) → Replied z (trailer z) h (call c) y found is r → (answer_sides z h c y r).has ≡ (answer_sides z h c y r).due
  unfolding answer_sides
  answer-due c (live m) (answered a) v = ap numbers_in v.gives
  answer-due c (live m) (recovered r) v = refl
  answer-due c (live m) (failed b) v = refl
  answer-due c (live m) ignored v = refl
  answer-due c (down nvm j f) r v = refl

  module _ (lag limit : ℕ) (j : Junk) where
    count-due : (r : Reply) → Replied z (trailer z) h (recover lag limit j) was found is r
        → (count_sides z lag limit (nvm_of was) r).has ≡ (count_sides z lag limit (nvm_of was) r).due
    unfolding count_sides
    count-due (answered a) v = refl
    count-due (recovered r) v = ap counts_in v.gives
    count-due (failed b) v = refl
    count-due ignored v = refl

    finished-due : (y : System) (r : Recovered) → Finishes z h found y r → (finished_sides z h found y r).has ≡ (finished_sides z h found y r).due
    unfolding finished_sides
    finished-due y (Refused n) v = refl
    finished-due y Cut v = refl
    finished-due (live m) (Finished a) v = v.nvm
    finished-due (down nvm k f) (Finished a) v = refl

    recovered-due : (r : Reply) → Replied z (trailer z) h (recover lag limit j) was found is r
        → (recovered_sides z h found is r).has ≡ (recovered_sides z h found is r).due
    unfolding recovered_sides
    recovered-due (answered a) v = refl
    recovered-due (recovered r) v = finished-due is r v.leaves
    recovered-due (failed b) v = refl
    recovered-due ignored v = refl

-- the end of the image: in the cells, in the cache, and its flags
unfoldable pub end_sides : Sizes → System → Sides
end_sides z (live m) =
    record {
      has = end_of z m.nvm ++ (end_of z m.cache ++ end_of z m.flags);
      due = trailer z ++ (trailer z ++ replicate (length (trailer z)) 0);
    }
end_sides z (down nvm j found) = record { has = end_of z nvm; due = trailer z }

end-due : (z : Sizes) (h : History) (y : System) → InStep z (trailer z) h y → (end_sides z y).has ≡ (end_sides z y).due
unfolding end_sides
end-due z h (live m) v = rw (v.1.nvm.ends, v.1.cache.ends, v.1.unflushed.ends)
end-due z h (down nvm j found) v = v.ends

-- ---- a list of events
-- the buffers that Format is handed
unfoldable pub blank : Sizes → Machine
blank z =
    let n = image_length z in
    record { state = blank_record; pairs = []; cache = replicate n 0; nvm = replicate n 0; flags = replicate n 0 }

-- the history before Format, which does not matter, and the store with it
abbrev before : Sizes → History
before z = opened z 2 [] 0

abbrev unformatted : Sizes → World
unformatted z = record { system = live (blank z); history = before z }

-- ---- refutations: store d, formatted with these start words, after the events es and one more
module _ (d : Design) (z : Sizes) (lag : ℕ) (start : List ℕ) (es : List Event) where
  unfoldable pub was : World
  was = world_after d z (unformatted z) (format lag start ∷ es)

  -- Format takes the start words, and the two sides differ
  unfoldable pub differs : Sides → (has due : List ℕ) → Bool
  differs s has due = eqb (format_refusal z lag start (blank z)) 0 && differ s has due

  agrees : (e : Event) (s : Sides) (has due : List ℕ) → differs s has due ≡ true → CrashTheorem d → Agrees d z (trailer z) was.history e was.system
  unfolding differs CrashTheorem was
  agrees e s has due t c =
      (holds_after d z (trailer z) (unformatted z) (format lag start ∷ es) (e ∷ [])
      (c z lag start (blank z) (before z) (eqb-true (format_refusal z lag start (blank z)) 0 (and_left _ _ t)) (es ++ (e ∷ [])))).0

  apart : (s : Sides) (has due : List ℕ) → differs s has due ≡ true → s.has ≡ s.due → ⊥
  unfolding differs
  apart s has due t = differ-not s has due (and_right (eqb (format_refusal z lag start (blank z)) 0) _ t)

  -- after event e
  module _ (e : Event) where
    unfoldable pub is : World
    is = next_world d z was e

    pub wrong-words : (has due : List ℕ) → differs (words_sides z is.history is.system) has due ≡ true → CrashTheorem d → ⊥
    unfolding is next_world
    wrong-words has due t c = apart _ has due t (words-due z _ _ (agrees e _ has due t c).store)

    pub wrong-end : (has due : List ℕ) → differs (end_sides z is.system) has due ≡ true → CrashTheorem d → ⊥
    unfolding is next_world
    wrong-end has due t c = apart _ has due t (end-due z _ _ (agrees e _ has due t c).store)

    pub wrong-clock : (has due : List ℕ) → differs (clock_sides is.history is.system) has due ≡ true → CrashTheorem d → ⊥
    unfolding is next_world
    wrong-clock has due t c = apart _ has due t (clock-due z _ _ (agrees e _ has due t c).store)

    pub wrong-lag : (has due : List ℕ) → differs (lag_sides is.history is.system) has due ≡ true → CrashTheorem d → ⊥
    unfolding is next_world
    wrong-lag has due t c = apart _ has due t (lag-due z _ _ (agrees e _ has due t c).store)

  -- by the answer to another Format
  pub wrong-format : (lag₁ : ℕ) (start₁ has due : List ℕ)
      → differs (format_sides z lag₁ start₁ (happens d z was.system (format lag₁ start₁)).reply) has due ≡ true
      → CrashTheorem d → ⊥
  wrong-format lag₁ start₁ has due t k =
      apart _ has due t (let x = happens d z was.system (format lag₁ start₁) in
      format-due z was.history was.system x.system x.found lag₁ start₁ _ (agrees (format lag₁ start₁) _ has due t k).reply)

  -- by the answer to call c
  pub wrong_answer : (c : Call) (has due : List ℕ)
      → differs (answer_sides z was.history c was.system (happens d z was.system (call c)).reply) has due ≡ true
      → CrashTheorem d → ⊥
  wrong_answer c has due t k = apart _ has due t (let x = happens d z was.system (call c) in
      answer-due z _ was.system x.system x.found c was.system _ (agrees (call c) _ has due t k).reply)

  -- by what a recovery answers, and leaves
  module _ (lag₁ limit : ℕ) (j : Junk) where
    pub wrong-count : (has due : List ℕ)
        → differs (count_sides z lag₁ limit (nvm_of was.system) (happens d z was.system (recover lag₁ limit j)).reply) has due ≡ true
        → CrashTheorem d → ⊥
    wrong-count has due t k =
        apart _ has due t (count-due z was.history was.system _ _ lag₁ limit j _ (agrees (recover lag₁ limit j) _ has due t k).reply)

    unfoldable pub left_sides : Sides
    left_sides =
        let x = happens d z was.system (recover lag₁ limit j) in
        recovered_sides z was.history x.found x.system x.reply

    pub wrong-recovery : (has due : List ℕ) → differs left_sides has due ≡ true → CrashTheorem d → ⊥
    unfolding left_sides
    wrong-recovery has due t k =
        apart _ has due t (recovered-due z was.history was.system _ _ lag₁ limit j _ (agrees (recover lag₁ limit j) _ has due t k).reply)

-- ---- the theorem about stores of the former length: what store d answers to a recovery with sizes given, of these buffers
unfoldable pub former_sides : Design → Sizes → (lag limit : ℕ) → Machine → Sides
former_sides d z lag limit m = record { has = counts_in (d.recover z lag limit m).answer; due = counts_in (recovery_answer z lag limit m.nvm) }

-- the buffers are to be taken, the limit lets all stores through, and the two sides differ
unfoldable pub former_differs : Design → Sizes → (lag limit : ℕ) → Machine → (has due : List ℕ) → Bool
former_differs d z lag limit m has due = eqb (recover_refusal z lag m) 0 && (all_made z limit m.nvm && differ (former_sides d z lag limit m) has due)

pub wrong-former : (d : Design) (z : Sizes) (lag limit : ℕ) (m : Machine) (has due : List ℕ) → former_differs d z lag limit m has due ≡ true
    → FormerTheorem d → ⊥
unfolding former_differs former_sides FormerTheorem
wrong-former d z lag limit m has due t c =
    let a = and_right (eqb (recover_refusal z lag m) 0) _ t in
    differ-not (former_sides d z lag limit m) has due (and_right (all_made z limit m.nvm) _ a)
    (ap counts_in (c z lag limit m (eqb-true (recover_refusal z lag m) 0 (and_left _ _ t)) (and_left _ _ a) []).0)

-- ---- the theorem about who stores to the trailer: what stands there after an event that is not to store to it
unfoldable pub trailer_sides : Design → Sizes → Machine → Event → Sides
trailer_sides d z m e = record { has = end_of z (nvm_of (happens d z (live m) e).system); due = trailer z }

-- the event is such a one, the cells have the trailer, no lane has flushed it, and the two sides differ
unfoldable pub trailer_differs : Design → Sizes → Machine → Event → (has due : List ℕ) → Bool
trailer_differs d z m e has due =
    not (may_store e) && (same (end_of z m.nvm) (trailer z) && (same (end_of z m.flags) (replicate 4 0) && differ (trailer_sides d z m e) has due))

pub wrong-trailer : (d : Design) (z : Sizes) (m : Machine) (e : Event) (has due : List ℕ) → trailer_differs d z m e has due ≡ true → TrailerTheorem d → ⊥
unfolding trailer_differs trailer_sides TrailerTheorem nvm_of
wrong-trailer d z m e has due t c =
    let a = and_right (not (may_store e)) _ t in
    let b = and_right (same (end_of z m.nvm) (trailer z)) _ a in
    differ-not (trailer_sides d z m e) has due (and_right (same (end_of z m.flags) (replicate 4 0)) _ b)
    (c z (live m) e (not-true _ (and_left _ _ t)) (same_true _ _ (and_left _ _ a)) (same_true _ _ (and_left _ _ b)))

-- ---- the corollaries, where every commit is below the timestamp up to which all are kept: then all are due after a recovery
unfoldable pub kept_by_sides : Sizes → History → System → Recovered → Sides
kept_by_sides z h y (Refused n) = no_sides
kept_by_sides z h y Cut = no_sides
kept_by_sides z h (live m) (Finished a) = record { has = data_of z m.nvm; due = present z h }
kept_by_sides z h (down nvm j found) (Finished a) = no_sides

unfoldable pub kept_sides : Sizes → History → System → Reply → Sides
kept_sides z h y (answered a) = no_sides
kept_sides z h y (recovered r) = kept_by_sides z h y r
kept_sides z h y (failed b) = no_sides
kept_sides z h y ignored = no_sides

all-run : (W : ℕ) (f b : Option ℕ) → ((s : ℕ) → is_below f s ≡ true → is_below b s ≡ true) → (cs : List Commit) (ws : List ℕ) → are_below f cs ≡ true
    → replay W b cs ws ≡ replay W None cs ws
unfolding replay are_below is_below
all-run W f b k [] ws t = refl
all-run W f b k (c ∷ cs) ws t =
    rw (k c.stamp (and_left _ _ t)) (all-run W f b k cs (after W c.txn ws) (and_right (is_below f c.stamp) _ t))

module _ (z : Sizes) (h : History) (f : Option ℕ) (all : are_below f h.commits ≡ true) where
  kept-by-due : (y : System) (r : Recovered) → KeptBy z h f y r → (kept_by_sides z h y r).has ≡ (kept_by_sides z h y r).due
  unfolding kept_by_sides present words_below
  kept-by-due y (Refused n) v = refl
  kept-by-due y Cut v = refl
  kept-by-due (live m) (Finished a) v = v.nvm ∙ all-run z.words f v.boundary v.keeps h.commits h.start all
  kept-by-due (down nvm j found) (Finished a) v = refl

  kept-due : (y : System) (r : Reply) → Kept z h f y r → (kept_sides z h y r).has ≡ (kept_sides z h y r).due
  unfolding kept_sides
  kept-due y (answered a) v = refl
  kept-due y (recovered r) v = kept-by-due y r v
  kept-due y (failed b) v = refl
  kept-due y ignored v = refl

-- the words that a recovery leaves, and those that are due
unfoldable pub last_sides : Design → Sizes → World → (lag limit : ℕ) → Junk → Sides
last_sides d z w lag limit j =
    let x = happens d z w.system (recover lag limit j) in
    kept_sides z w.history x.system x.reply

-- a commit that can no longer be lost: after the events es the floors are above s, and recovery comes after fs
module _ (d : Design) (z : Sizes) (lag : ℕ) (start : List ℕ) (es fs : List Event) (s lag₁ limit : ℕ) (j : Junk) where
  unfoldable pub at_last : World
  at_last = world_after d z (was d z lag start es) fs

  -- Format is taken, every commit to come is above s, the floors are above it, nothing starts anew, every commit is one of those up to s, and the two
  -- sides differ
  unfoldable pub safe_differs : (has due : List ℕ) → Bool
  safe_differs has due =
      eqb (format_refusal z lag start (blank z)) 0
      && (ltb s (next_commit (was d z lag start es).history.lock (was d z lag start es).history.clock)
      && (is_below (least_floor_of (was d z lag start es).history.pages) s
      && (goes_on d z (was d z lag start es) fs && (are_below (Some (s + 1)) at_last.history.commits && differ (last_sides d z at_last lag₁ limit j) has due))))

  -- the least timestamp of a commit to come
  abbrev next_at : ℕ
  next_at = next_commit (was d z lag start es).history.lock (was d z lag start es).history.clock

  pub wrong-safe : (has due : List ℕ) → safe_differs has due ≡ true → SafeTheorem d → ⊥
  unfolding safe_differs last_sides SafeTheorem was at_last
  wrong-safe has due t c =
      let t₁ = and_right (eqb (format_refusal z lag start (blank z)) 0) _ t in
      let t₂ = and_right (ltb s next_at) _ t₁ in
      let t₃ = and_right (is_below (least_floor_of (was d z lag start es).history.pages) s) _ t₂ in
      let t₄ = and_right (goes_on d z (was d z lag start es) fs) _ t₃ in
      let x = happens d z at_last.system (recover lag₁ limit j) in
      differ-not (last_sides d z at_last lag₁ limit j) has due (and_right (are_below (Some (s + 1)) at_last.history.commits) _ t₄)
      (kept-due z at_last.history (Some (s + 1)) (and_left _ _ t₄) x.system x.reply
      (c z lag start (blank z) (before z) (eqb-true (format_refusal z lag start (blank z)) 0 (and_left _ _ t)) es fs s
      (ltb-true s next_at (and_left _ _ t₁)) (and_left _ _ t₂) (and_left _ _ t₃) lag₁ limit j))

-- a timestamp as a list of one, or of none
unfoldable pub stamps_of : Option ℕ → List ℕ
stamps_of None = []
stamps_of (Some s) = s ∷ []

-- an idle lane: call x marks it after the events es, it is drained after fs, and recovery comes after gs
module _ (d : Design) (z : Sizes) (lag : ℕ) (start : List ℕ) (x : Call) (es fs gs : List Event) (lag₁ limit : ℕ) (j : Junk) where
  unfoldable pub at_drain : World
  at_drain = world_after d z (next_world d z (was d z lag start es) (call x)) fs

  unfoldable pub at_cut : World
  at_cut = world_after d z (next_world d z at_drain (call (drain (lane_of x)))) gs

  -- it is a mark; Format, it and Drain are taken, the lane stays idle, every commit is below the others' floors, and the two sides differ
  unfoldable pub idle_differs : (has due : List ℕ) → Bool
  idle_differs has due =
      eqb (format_refusal z lag start (blank z)) 0
      && (is_mark x
      && (is_done (happens d z (was d z lag start es).system (call x)).reply
      && (stays_idle (lane_of x) fs
      && (is_done (happens d z at_drain.system (call (drain (lane_of x)))).reply
      && (stays_idle (lane_of x) gs
      && (are_below (others_floor (lane_of x) at_cut.history) at_cut.history.commits && differ (last_sides d z at_cut lag₁ limit j) has due))))))

  pub wrong-idle : (has due : List ℕ) → idle_differs has due ≡ true → IdleTheorem d → ⊥
  unfolding idle_differs last_sides IdleTheorem was at_drain at_cut
  wrong-idle has due t c =
      let t₁ = and_right (eqb (format_refusal z lag start (blank z)) 0) _ t in
      let t₂ = and_right (is_mark x) _ t₁ in
      let t₃ = and_right (is_done (happens d z (was d z lag start es).system (call x)).reply) _ t₂ in
      let t₄ = and_right (stays_idle (lane_of x) fs) _ t₃ in
      let t₅ = and_right (is_done (happens d z at_drain.system (call (drain (lane_of x)))).reply) _ t₄ in
      let t₆ = and_right (stays_idle (lane_of x) gs) _ t₅ in
      let y = happens d z at_cut.system (recover lag₁ limit j) in
      differ-not (last_sides d z at_cut lag₁ limit j) has due (and_right (are_below (others_floor (lane_of x) at_cut.history) at_cut.history.commits) _ t₆)
      (kept-due z at_cut.history (others_floor (lane_of x) at_cut.history) (and_left _ _ t₆) y.system y.reply
      (c z lag start (blank z) (before z) (eqb-true (format_refusal z lag start (blank z)) 0 (and_left _ _ t)) x es fs gs
      (and_left _ _ t₁) (and_left _ _ t₂) (and_left _ _ t₃) (and_left _ _ t₄) (and_left _ _ t₅) lag₁ limit j))

-- a limit on lost work: after the events es call x, which the limit binds, answers timestamp s; after fs the boundary of the cut is b
module _ (d : Design) (z : Sizes) (lag : ℕ) (start : List ℕ) (es : List Event) (x : Call) (fs : List Event) where
  unfoldable pub at_boundary : World
  at_boundary = world_after d z (next_world d z (was d z lag start es) (call x)) fs

  -- Format is taken, x is bound and answers s, nothing starts anew, the boundary is b, and it is further below s than the lag limit
  unfoldable pub loss_differs : (s b : ℕ) → Bool
  loss_differs s b =
      eqb (format_refusal z lag start (blank z)) 0
      && (is_bound x
      && (same (stamps_in (happens d z (was d z lag start es).system (call x)).reply) (s ∷ [])
      && (goes_on d z (next_world d z (was d z lag start es) (call x)) fs
      && (same (stamps_of (boundary z (cut_cells at_boundary.system))) (b ∷ [])
      && lag_passed (was d z lag start es).history.lag s (boundary z (cut_cells at_boundary.system))))))

  pub wrong-loss : (s b : ℕ) → loss_differs s b ≡ true → LagTheorem d → ⊥
  unfolding loss_differs LagTheorem was at_boundary
  wrong-loss s b t c =
      let t₁ = and_right (eqb (format_refusal z lag start (blank z)) 0) _ t in
      let t₂ = and_right (is_bound x) _ t₁ in
      let t₃ = and_right (same (stamps_in (happens d z (was d z lag start es).system (call x)).reply) (s ∷ [])) _ t₂ in
      let t₄ = and_right (goes_on d z (next_world d z (was d z lag start es) (call x)) fs) _ t₃ in
      let t₅ = and_right (same (stamps_of (boundary z (cut_cells at_boundary.system))) (b ∷ [])) _ t₄ in
      clash (lag_passed (was d z lag start es).history.lag s (boundary z (cut_cells at_boundary.system))) t₅
      (c z lag start (blank z) (before z) (eqb-true (format_refusal z lag start (blank z)) 0 (and_left _ _ t)) es fs x s
      (and_left _ _ t₁) (same_true _ _ (and_left _ _ t₂)) (and_left _ _ t₃)).0

-- a lane that is settled: call x answers timestamp s after the events es, and recovery comes after fs
module _ (d : Design) (z : Sizes) (lag : ℕ) (start : List ℕ) (es : List Event) (x : Call) (fs : List Event) (lag₁ limit : ℕ) (j : Junk) where
  unfoldable pub at_end : World
  at_end = world_after d z (next_world d z (was d z lag start es) (call x)) fs

  -- Format is taken, x is not Lock and answers s, nothing starts anew, the lane is drained, k is below s and the floors of the others are above it, every
  -- commit is one of those up to k, and the two sides differ
  unfoldable pub settled_differs : (s k : ℕ) (has due : List ℕ) → Bool
  settled_differs s k has due =
      (eqb (format_refusal z lag start (blank z)) 0 && not (is_lock x))
      && (same (stamps_in (happens d z (was d z lag start es).system (call x)).reply) (s ∷ [])
      && (goes_on d z (next_world d z (was d z lag start es) (call x)) fs
      && (gets_drained d z (lane_of x) (next_world d z (was d z lag start es) (call x)) fs
      && (ltb k s
      && (is_below (others_floor (lane_of x) at_end.history) k
      && (are_below (Some (k + 1)) at_end.history.commits && differ (last_sides d z at_end lag₁ limit j) has due))))))

  pub wrong-settled : (s k : ℕ) (has due : List ℕ) → settled_differs s k has due ≡ true → SettledTheorem d → ⊥
  unfolding settled_differs last_sides SettledTheorem was at_end
  wrong-settled s k has due t c =
      let t₀ = and_left (eqb (format_refusal z lag start (blank z)) 0 && not (is_lock x)) _ t in
      let t₁ = and_right (eqb (format_refusal z lag start (blank z)) 0 && not (is_lock x)) _ t in
      let t₂ = and_right (same (stamps_in (happens d z (was d z lag start es).system (call x)).reply) (s ∷ [])) _ t₁ in
      let t₃ = and_right (goes_on d z (next_world d z (was d z lag start es) (call x)) fs) _ t₂ in
      let t₄ = and_right (gets_drained d z (lane_of x) (next_world d z (was d z lag start es) (call x)) fs) _ t₃ in
      let t₅ = and_right (ltb k s) _ t₄ in
      let t₆ = and_right (is_below (others_floor (lane_of x) at_end.history) k) _ t₅ in
      let y = happens d z at_end.system (recover lag₁ limit j) in
      differ-not (last_sides d z at_end lag₁ limit j) has due (and_right (are_below (Some (k + 1)) at_end.history.commits) _ t₆)
      (kept-due z at_end.history (Some (k + 1)) (and_left _ _ t₆) y.system y.reply
      (((c z lag start (blank z) (before z) (eqb-true (format_refusal z lag start (blank z)) 0 (and_left _ _ t₀)) es fs x s
      (same_true _ _ (and_left _ _ t₁))).1 (not-true (is_lock x) (and_right (eqb (format_refusal z lag start (blank z)) 0) _ t₀)) (and_left _ _ t₂)
      (and_left _ _ t₃) k (ltb-true k s (and_left _ _ t₄)) (and_left _ _ t₅)).1 lag₁ limit j))

-- one name that opens all of this, for the lists that the checker computes
unfoldable pub refuting : ℕ
unfolding everything same differ words_sides clock_sides end_sides numbers_in answer_sides counts_in count_sides finished_sides recovered_sides blank
    was differs is left_sides former_sides former_differs trailer_sides trailer_differs kept_by_sides kept_sides
    last_sides at_last safe_differs at_drain at_cut idle_differs lag_sides format_sides stamps_of at_boundary loss_differs at_end
    settled_differs
refuting = 0
