-- The crash theorem from an invariant, by induction over the events: what the invariant must provide are the fields of `Laws`. Assumes nothing.
use Rattle.std.specs.Prelude.{Option}
use mathlib.Core.Path.{◌≡◌, refl, ap, ◌∙◌, sym, subst}
use mathlib.Core.Logic.{inl, inr}
use mathlib.Core.Bool.{true, cond, ◌&&◌}
use mathlib.Core.List.{List, [], ◌∷◌}
use Prim.Native.Nat.{ℕ, ◌+◌, ◌-◌, ◌≤◌, ◌%◌}
use native.Mathlib.Omega.{arith}
use lib.Dec.{eqb, leb}
use lib.ListN.{length, get_or}
use borrow.Author.Tests.{eqb-true, eq-eqb, ne_eqb}
use Rattle.laws.specs.inner.Tests.{split, and_left, and_right}
use Rattle.image.specs.Image.{sizes_ok, former_length, trailer, image_length, all_are, format_ok, buffers_ok, base_of, data_of}
use Rattle.image.specs.inner.ImageLaws.{buffers-in, format-good}
use Rattle.image.specs.Flush.{flushed, written_back, drained_nvm}
use Rattle.image.specs.inner.FlushLaws.{length-written_back, length-drained_nvm}
use Rattle.image.specs.declared.Sizes.{Sizes}
use Rattle.record.specs.Record.{lock_length, lag_ok}
use Rattle.store.specs.Machine.{Machine, Step, first_cause, unless, said}
use Rattle.store.specs.Calls.{bad_buffers, bad_lag, started, start_image, drained, format_refusal, format_step, write_back_refusal, write_back_step}
use Rattle.store.specs.inner.FormatLaws.{length-start_image}
use Rattle.store.specs.inner.StoreLaws.{format-checked}
use Rattle.store.specs.Answers as answer
use Rattle.recovery.specs.Recovery.{boundary, new_base, recovered_nvm, Restarted, told}
use Rattle.crash.specs.Events.{Call, drain, Junk, Event, format, write_back, call, recover, fails, fails_in_drain, fails_after_drain, fails_in_recovery}
use Rattle.crash.specs.Events.{System, live, down, nvm_of, vandzulge, happens, lane_of, call_step, is_taken, recovery_of, fit, partly_drained}
use Rattle.crash.specs.Events.{bare, found_or, after_step, after_format, recovered_system, after_recovery, after_failure, not_offered}
use Rattle.crash.specs.History.{History, opened, words_below, after_drain, restarted, taken, after_call}
use Rattle.crash.specs.History.{after_recovered, fed_answer, fed_recovery, fed_failure, fed, least_floor_of}
use Rattle.crash.specs.Theorem.{Live, end_of, InStep, Answers, format_answer, NotBelow, RecoveryReply, Replied, Holds, CrashTheorem}
use Rattle.crash.proofs.induction.Moves.{Known}
use Rattle.recovery.specs.inner.AgainLaws.{recovered_image}
use Rattle.recovery.specs.inner.FreshLaws.{recovered-length, recovered-none}
use Rattle.crash.proofs.lane.Ends.{Form, Tailed, same_end, length-end, ends-known}
use Rattle.crash.proofs.recovery.Restart.{recovery-taken, cut-taken, length-fitted, length-recovered_nvm, cut-end}
use Rattle.crash.proofs.recovery.Restart.{Leads, leads-self, leads-cut, leads-length, Restarts, unfit, short, finished, restarts}
use Rattle.crash.proofs.induction.Fed.{taken-known, drain-taken, call_length}

-- ---- what is left to prove
-- of an invariant `Inv` of running store and history, and of what is known of the cells when power fails, `AtCut`
pub record Laws (z : Sizes) (Inv : Machine → History → Type 0) (AtCut : List ℕ → History → Type 0) : Type 0 where
  -- Format
  pub formats : (lag : ℕ) (start : List ℕ) → lag_ok lag ≡ true → length start ≡ z.words → Inv (started lag 0 (start_image z start)) (opened z lag start 0)
  -- a running store
  pub lives : (m : Machine) (h : History) → Inv m h → Live z h m
  pub tails : (m : Machine) (h : History) → Inv m h → Tailed z m
  pub buffers : (m : Machine) (h : History) → Inv m h → buffers_ok z (length m.cache) (length m.nvm) (length m.flags) ≡ true
  pub pairs : (m : Machine) (h : History) → Inv m h → length m.pairs ≡ lock_length
  pub calls : (m : Machine) (h : History) (c : Call) → Inv m h → Inv (call_step z c m).machine (after_call c (call_step z c m).answer h)
  pub answers : (m : Machine) (h : History) (c : Call) → Inv m h → Answers z h m c (call_step z c m).answer
  pub writes : (m : Machine) (h : History) (i : ℕ) → Inv m h
      → Inv (record { state = m.state; pairs = m.pairs; cache = m.cache; nvm = written_back i m.cache m.nvm; flags = m.flags }) h
  -- the cells that a failure leaves
  pub cuts : (m : Machine) (h : History) → Inv m h → AtCut m.nvm h
  pub size : (cells : List ℕ) (h : History) → AtCut cells h → former_length z ≤ length cells
  pub form : (cells : List ℕ) (h : History) → AtCut cells h → Form z (end_of z cells)
  pub even : (cells : List ℕ) (h : History) → AtCut cells h → base_of cells % 2 ≡ 0
  pub words : (cells : List ℕ) (h : History) → AtCut cells h → data_of z (recovered_image z cells) ≡ words_below z (boundary z cells) h
  pub floors : (cells : List ℕ) (h : History) → AtCut cells h → NotBelow (least_floor_of h.pages) (boundary z cells)
  -- a finished recovery is a start
  pub restarts : (lag : ℕ) → lag_ok lag ≡ true → (cells : List ℕ) (h : History) → AtCut cells h
      → Inv (started lag (new_base z cells) (recovered_image z cells)) (restarted z lag cells h)

-- ---- three buffers as long as an image with this end
pub record Sized (z : Sizes) (end : List ℕ) (m : Machine) : Type 0 where
  pub nvm : length m.nvm ≡ former_length z + length end
  pub cache : length m.cache ≡ length m.nvm
  pub flags : length m.flags ≡ length m.nvm

-- ---- Format: refused where the image has no trailer, for the start words and for the lag limit
unfoldable formatted_as : Sizes → (lag : ℕ) → (start : List ℕ) → Machine → Step
formatted_as z lag start m =
    cond (lag_ok lag) (record { answer = answer.Done; machine = started lag 0 (start_image z start) }) (record { answer = answer.Refused 16; machine = m })

formats-at : (z : Sizes) (lag : ℕ) (start : List ℕ) (m : Machine) → format_ok z (length m.cache) (length m.nvm) (length m.flags) ≡ true
    → format_step z lag start m ≡ cond (eqb (length start) z.words) (formatted_as z lag start m) (record { answer = answer.Refused 1; machine = m })
unfolding format_step format_refusal bad_lag first_cause unless formatted_as
formats-at z lag start m b =
    split (eqb (length start) z.words) (λ e. split (lag_ok lag) (λ t. rw (b, e, t)) (λ t. rw (b, e, t))) (λ e. rw (b, e))

format-answer : (z : Sizes) (ok : sizes_ok z ≡ true) (end : List ℕ) (lag : ℕ) (start : List ℕ) (m : Machine) → Form z end → Sized z end m
    → format_step z lag start m
    ≡ cond (eqb (length end) 4 && eqb (length start) z.words) (formatted_as z lag start m) (record { answer = answer.Refused 1; machine = m })
unfolding format_step format_refusal format_ok all_are image_length trailer first_cause unless
format-answer z ok end lag start m (inl e) s =
    rw (e, ok, ne_eqb (length m.cache) (former_length z + 4) (λ p. omega (arith, s.cache, s.nvm, ap length e)))
format-answer z ok end lag start m (inr e) s =
    let n : length m.nvm ≡ former_length z + 4 = omega (arith, s.nvm, ap length e) in
    formats-at z lag start m (format-good z _ _ _ ok (record { in-cache = s.cache ∙ n; in-nvm = n; in-flags = s.flags ∙ n })) ∙ rw e

-- ---- write-back
abbrev written : ℕ → Machine → Machine
written i m = record { state = m.state; pairs = m.pairs; cache = m.cache; nvm = written_back i m.cache m.nvm; flags = m.flags }

write-answer : (z : Sizes) (i n : ℕ) (m : Machine) → buffers_ok z (length m.cache) (length m.nvm) (length m.flags) ≡ true
    → length m.pairs ≡ lock_length → length m.cache ≡ n
    → write_back_step z i m
    ≡ cond (leb n i) (record { answer = answer.Refused 4; machine = m }) (record { answer = answer.Done; machine = written i m })
unfolding write_back_step write_back_refusal bad_buffers first_cause unless
write-answer z i n m b p c =
    let q = eq-eqb (length m.pairs) lock_length p in
    split (leb n i) (λ e. rw (b, q, c, e)) (λ e. rw (b, q, c, e))

write-reply : (i n : ℕ) (m : Machine)
    → (cond {A = Step} (leb n i) (record { answer = answer.Refused 4; machine = m }) (record { answer = answer.Done; machine = written i m })).answer
    ≡ cond (leb n i) (answer.Refused 4) answer.Done
write-reply i n m = split (leb n i) (λ e. rw e) (λ e. rw e)

-- ---- the induction, of a store whose image has this end
module _ (z : Sizes) (ok : sizes_ok z ≡ true) (end : List ℕ) (form : Form z end) (Inv : Machine → History → Type 0) (AtCut : List ℕ → History → Type 0)
    (laws : Laws z Inv AtCut) where
  -- with a record
  pub record Runs (m : Machine) (h : History) : Type 0 where
    pub inv : Inv m h
    pub long : length m.nvm ≡ former_length z + length end

  -- cells that a failure leaves
  record Cells (cells : List ℕ) (h : History) : Type 0 where
    cut : AtCut cells h
    long : length cells ≡ former_length z + length end

  -- without a record: the cut cells are what the invariant knows of, and the cells lead where they lead
  pub record Lost (nvm : List ℕ) (j : Junk) (found : List ℕ) (h : History) : Type 0 where
    pub cut : AtCut found h
    pub leads : Leads z nvm found
    pub ends : end_of z nvm ≡ end
    pub cache : length j.cache ≡ length nvm
    pub flags : length j.flags ≡ length nvm

  unfoldable pub Good : System → History → Type 0
  Good (live m) h = Runs m h
  Good (down nvm j found) h = Lost nvm j (found_or nvm found) h

  cells-now : (m : Machine) (h : History) → Runs m h → Cells m.nvm h
  cells-now m h v = record { cut = laws.cuts m h v.inv; long = v.long }

  cells-end : (cells : List ℕ) (h : History) → Cells cells h → end_of z cells ≡ end
  cells-end cells h c =
      same_end z (end_of z cells) end (laws.form cells h c.cut) form
      (length-end z cells ∙ (let q : length cells - former_length z ≡ length end = omega (arith, c.long) in q))

  sized-now : (m : Machine) (h : History) → Runs m h → Sized z end m
  sized-now m h v =
      let b = buffers-in z _ _ _ (laws.buffers m h v.inv) in
      record { nvm = v.long; cache = sym b.same-nvm; flags = b.same_flags ∙ sym b.same-nvm }

  lost-long : (nvm : List ℕ) (j : Junk) (found : List ℕ) (h : History) → Lost nvm j found h → length nvm ≡ former_length z + length end
  lost-long nvm j found h l = omega (arith, length-end z nvm, ap length l.ends, l.leads.size)

  in_step : (y : System) (h : History) → Good y h → InStep z end h y
  unfolding Good
  in_step (live m) h v =
      let s = sized-now m h v in
      (laws.lives m h v.inv, ends-known z end m form s.nvm s.cache s.flags (laws.tails m h v.inv))
  in_step (down nvm j found) h v = record { long = lost-long nvm j (found_or nvm found) h v; ends = v.ends }

  -- power fails, and leaves these cells, as many as there were
  loses : (was nvm : List ℕ) (j : Junk) (h : History) → length was ≡ length nvm → Cells nvm h → Lost nvm (fit was j) nvm h
  unfolding fit
  loses was nvm j h n c =
      record {
        cut = c.cut;
        leads = leads-self z nvm (laws.size nvm h c.cut) (laws.even nvm h c.cut);
        ends = cells-end nvm h c;
        cache = length-fitted (length was) j.cache ∙ n;
        flags = length-fitted (length was) j.flags ∙ n;
      }

  -- what a recovery or another failure finds, leaves and replies
  module _ (nvm : List ℕ) (j : Junk) (found : List ℕ) (h : History) (l : Lost nvm j found h) where
    bare-sized : Sized z end (bare nvm j)
    unfolding bare
    bare-sized = record { nvm = lost-long nvm j found h l; cache = l.cache; flags = l.flags }

    loses-more : (k : ℕ) (i : Junk) → Lost (recovered_nvm z k nvm) (fit nvm i) found h
    unfolding fit
    loses-more k i =
        record {
          cut = l.cut;
          leads = leads-cut z l.leads k;
          ends = cut-end z k nvm ∙ l.ends;
          cache = length-fitted (length nvm) i.cache ∙ sym (length-recovered_nvm z k nvm);
          flags = length-fitted (length nvm) i.flags ∙ sym (length-recovered_nvm z k nvm);
        }

  -- a recovery by a machine whose cells lead where the cut cells lead
  module _ (lag limit : ℕ) (m : Machine) (y : System) (i : Junk) (found : List ℕ) (h : History) (g : Good y h) (a : AtCut found h)
      (l : Leads z m.nvm found) (s : Sized z end m) (e : end_of z m.nvm ≡ end) where
    recovers : {r : Restarted} → Restarts z lag limit found m r
        → RecoveryReply z h lag limit m.nvm found (recovered_system y (fit m.nvm i) found r r.answer) r.answer
        × Good (recovered_system y (fit m.nvm i) found r r.answer) (after_recovered z lag found r.answer h)
    unfolding recovered_system after_recovered told Good found_or started fit
    recovers (unfit e') = (record { gives = e'; leaves = tt }, g)
    recovers (short e' l') = (
      record { gives = e'; leaves = tt },
      record {
        cut = a;
        leads = l';
        ends = cut-end z limit m.nvm ∙ e;
        cache = length-fitted (length m.nvm) i.cache ∙ sym (length-recovered_nvm z limit m.nvm);
        flags = length-fitted (length m.nvm) i.flags ∙ sym (length-recovered_nvm z limit m.nvm);
      },
    )
    recovers (finished t e') = (
      record {
        gives = e';
        leaves = record {
          nvm = laws.words found h a;
          cache = laws.words found h a;
          floors = laws.floors found h a;
          none = recovered-none z found (laws.size found h a);
        };
      },
      record { inv = laws.restarts lag t found h a; long = recovered-length z found ∙ leads-length z l ∙ s.nvm },
    )

    -- by the call that fits
    by_call : let r = recovery_of vandzulge z lag limit m in
        RecoveryReply z h lag limit m.nvm found (recovered_system y (fit m.nvm i) found r r.answer) r.answer
        × Good (recovered_system y (fit m.nvm i) found r r.answer) (after_recovered z lag found r.answer h)
    by_call =
        recovers
        (subst (Restarts z lag limit found m) (sym (recovery-taken z ok m l.size s.cache s.flags l.even lag limit (rw e form)))
        (restarts z lag limit m l))

  -- Format by a machine whose buffers are as long as the image
  module _ (lag : ℕ) (start : List ℕ) (m : Machine) (y : System) (h : History) (g : Good y h) (s : Sized z end m) where
    formatted : ((format_step z lag start m).answer ≡ format_answer z end lag start)
        × Good (cond (said (format_step z lag start m).answer).refused y (live (format_step z lag start m).machine))
        (cond (said (format_step z lag start m).answer).refused h (opened z lag start 0))
    unfolding said Good started image_length formatted_as
    formatted =
        rw (format-answer z ok end lag start m form s)
        (split (eqb (length end) 4 && eqb (length start) z.words)
        (λ e. rw e
        (split (lag_ok lag)
        (λ t. rw t (refl, begins t (eqb-true (length end) 4 (and_left _ _ e)) (eqb-true (length start) z.words (and_right (eqb (length end) 4) _ e))))
        (λ t. rw t (refl, g))))
        (λ e. rw e (refl, g)))
      where
        begins : lag_ok lag ≡ true → length end ≡ 4 → length start ≡ z.words → Runs (started lag 0 (start_image z start)) (opened z lag start 0)
        begins t f w =
            record {
              inv = laws.formats lag start t w;
              long = length-start_image z start w ∙ (let q : former_length z + 4 ≡ former_length z + length end = omega arith in q);
            }

  -- write-backs, and a drain cut short, which is some of them
  writes-any : (m : Machine) (h : History) (i : ℕ) → Runs m h → Runs (written i m) h
  writes-any m h i v = record { inv = laws.writes m h i v.inv; long = length-written_back i m.cache m.nvm ∙ v.long }

  partly : (L : ℕ) (is : List ℕ) (m : Machine) (h : History) → Runs m h → Cells (partly_drained L is m.flags m.cache m.nvm) h
  unfolding partly_drained
  partly L [] m h v = cells-now m h v
  partly L (i ∷ is) m h v =
      split (flushed L (get_or m.flags i 0)) (λ e. rw e (partly L is (written i m) h (writes-any m h i v))) (λ e. rw e (partly L is m h v))

  -- a whole drain is a Drain
  wholly : (m : Machine) (h : History) (L : ℕ) → Runs m h → Known z m L → Cells (drained_nvm L m.flags m.cache m.nvm) (after_drain L h)
  unfolding after_call taken said drained
  wholly m h L v k =
      record {
        cut = laws.cuts (drained z L m) (after_drain L h)
            (subst (λ (s : Step). Inv s.machine (after_call (drain L) s.answer h)) (drain-taken z m L k) (laws.calls m h (drain L) v.inv));
        long = length-drained_nvm L m.flags m.cache m.nvm ∙ v.long;
      }

  -- ---- one event: what is replied, and what is kept
  record Kept (y : System) (h : History) (e : Event) : Type 0 where
    reply : Replied z end h e y (happens vandzulge z y e).found (happens vandzulge z y e).system (happens vandzulge z y e).reply
    good : Good (happens vandzulge z y e).system (fed z e (happens vandzulge z y e).reply (happens vandzulge z y e).found h)

  -- of a running store
  module _ (m : Machine) (h : History) (v : Runs m h) where
    lost-now : (j : Junk) → Lost m.nvm (fit m.nvm j) m.nvm h
    lost-now j = loses m.nvm m.nvm j h refl (cells-now m h v)

    on-format : (lag : ℕ) (start : List ℕ) → Kept (live m) h (format lag start)
    unfolding happens vandzulge after_format fed fed_answer Good
    on-format lag start = let r = formatted lag start m (live m) h v (sized-now m h v) in record { reply = r.0; good = r.1 }

    on-write : (i : ℕ) → Kept (live m) h (write_back i)
    unfolding happens vandzulge after_step fed fed_answer Good
    on-write i =
        let s = sized-now m h v in
        let n = former_length z + length end in
        let b = write-answer z i n m (laws.buffers m h v.inv) (laws.pairs m h v.inv) (s.cache ∙ s.nvm) in
        record {
          reply = ap (λ (s : Step). s.answer) b ∙ write-reply i n m;
          good = rw b (split (leb n i) (λ e. rw e v) (λ e. rw e (writes-any m h i v)));
        }

    on_call : (c : Call) → Kept (live m) h (call c)
    unfolding happens vandzulge after_step fed fed_answer Good
    on_call c =
        record {
          reply = laws.answers m h c v.inv;
          good = record { inv = laws.calls m h c v.inv; long = call_length z m c ∙ v.long };
        }

    on-recover : (lag limit : ℕ) (j : Junk) → Kept (live m) h (recover lag limit j)
    unfolding happens vandzulge after_recovery fed fed_recovery nvm_of Good
    on-recover lag limit j =
        let l = lost-now j in
        let r = by_call lag limit m (live m) j m.nvm h v l.cut l.leads (sized-now m h v) l.ends in
        record { reply = r.0; good = r.1 }

    on-failure : (j : Junk) → Kept (live m) h (fails j)
    unfolding happens vandzulge after_failure fed fed_failure Good found_or
    on-failure j = record { reply = tt; good = lost-now j }

    on-part : (c : Call) (is : List ℕ) (j : Junk) → Kept (live m) h (fails_in_drain c is j)
    unfolding happens vandzulge after_failure fed fed_failure Good found_or
    on-part c is j =
        record {
          reply = tt;
          good =
              split (is_taken vandzulge z c m)
              (λ t. rw t (let k = partly (lane_of c) is m h v in loses m.nvm _ j h (v.long ∙ sym k.long) k))
              (λ t. rw t (lost-now j));
        }

    on-drain : (c : Call) (j : Junk) → Kept (live m) h (fails_after_drain c j)
    unfolding happens vandzulge after_failure fed fed_failure Good found_or
    on-drain c j =
        record {
          reply = tt;
          good =
              split (is_taken vandzulge z c m)
              (λ t. rw t (let k = wholly m h (lane_of c) v (taken-known z c m t) in loses m.nvm _ j _ (v.long ∙ sym k.long) k))
              (λ t. rw t (lost-now j));
        }

    on-failed-recovery : (n : ℕ) (j : Junk) → Kept (live m) h (fails_in_recovery n j)
    unfolding happens vandzulge after_failure fed fed_failure Good found_or
    on-failed-recovery n j =
        let l = lost-now j in
        record {
          reply = tt;
          good = rw (cut-taken z n m.nvm l.leads.size (rw l.ends form)) (loses-more m.nvm (fit m.nvm j) m.nvm h l n j);
        }

  -- of a store without a record
  module _ (nvm : List ℕ) (j : Junk) (found : Option (List ℕ)) (h : History) (l : Lost nvm j (found_or nvm found) h) where
    down-format : (lag : ℕ) (start : List ℕ) → Kept (down nvm j found) h (format lag start)
    unfolding happens vandzulge after_format fed fed_answer bare Good
    down-format lag start =
        let r = formatted lag start (bare nvm j) (down nvm j found) h l (bare-sized nvm j (found_or nvm found) h l) in
        record { reply = r.0; good = r.1 }

    down-recover : (lag limit : ℕ) (i : Junk) → Kept (down nvm j found) h (recover lag limit i)
    unfolding happens vandzulge after_recovery fed fed_recovery nvm_of bare Good
    down-recover lag limit i =
        let s = bare-sized nvm j (found_or nvm found) h l in
        let r = by_call lag limit (bare nvm j) (down nvm j found) i (found_or nvm found) h l l.cut l.leads s l.ends in
        record { reply = r.0; good = r.1 }

    down-fails : (i : Junk) → Kept (down nvm j found) h (fails i)
    unfolding happens vandzulge after_failure fed fed_failure Good fit
    down-fails i =
        record {
          reply = tt;
          good = record {
            cut = l.cut;
            leads = l.leads;
            ends = l.ends;
            cache = length-fitted (length nvm) i.cache;
            flags = length-fitted (length nvm) i.flags;
          };
        }

    down-failed-recovery : (n : ℕ) (i : Junk) → Kept (down nvm j found) h (fails_in_recovery n i)
    unfolding happens vandzulge after_failure fed fed_failure Good found_or
    down-failed-recovery n i =
        record { reply = tt; good = rw (cut-taken z n nvm l.leads.size (rw l.ends form)) (loses-more nvm j (found_or nvm found) h l n i) }

  event : (y : System) (h : History) (e : Event) → Good y h → Kept y h e
  unfolding Good happens not_offered fed
  event (live m) h (format lag start) v = on-format m h v lag start
  event (live m) h (write_back i) v = on-write m h v i
  event (live m) h (call c) v = on_call m h v c
  event (live m) h (recover lag limit j) v = on-recover m h v lag limit j
  event (live m) h (fails j) v = on-failure m h v j
  event (live m) h (fails_in_drain c is j) v = on-part m h v c is j
  event (live m) h (fails_after_drain c j) v = on-drain m h v c j
  event (live m) h (fails_in_recovery n j) v = on-failed-recovery m h v n j
  event (down nvm j found) h (format lag start) l = down-format nvm j found h l lag start
  event (down nvm j found) h (write_back i) l = record { reply = tt; good = l }
  event (down nvm j found) h (call c) l = record { reply = tt; good = l }
  event (down nvm j found) h (recover lag limit i) l = down-recover nvm j found h l lag limit i
  event (down nvm j found) h (fails i) l = down-fails nvm j found h l i
  event (down nvm j found) h (fails_in_drain c is i) l = record { reply = tt; good = l }
  event (down nvm j found) h (fails_after_drain c i) l = record { reply = tt; good = l }
  event (down nvm j found) h (fails_in_recovery n i) l = down-failed-recovery nvm j found h l n i

  pub all-events : (y : System) (h : History) (es : List Event) → Good y h → Holds vandzulge z end y h es
  all-events y h [] v = tt
  all-events y h (e ∷ es) v =
      let k = event y h e v in (
        record {
          reply = k.reply;
          store = in_step (happens vandzulge z y e).system (fed z e (happens vandzulge z y e).reply (happens vandzulge z y e).found h) k.good;
        },
        all-events (happens vandzulge z y e).system (fed z e (happens vandzulge z y e).reply (happens vandzulge z y e).found h) es k.good,
      )

-- the crash theorem, from the laws
module _ (Inv : Sizes → Machine → History → Type 0) (AtCut : Sizes → List ℕ → History → Type 0)
    (laws : (z : Sizes) → sizes_ok z ≡ true → Laws z (Inv z) (AtCut z)) where
  -- of a store that starts so, with this end
  pub starts_from : (z : Sizes) (ok : sizes_ok z ≡ true) (end : List ℕ) → Form z end → (m : Machine) (h : History) → Inv z m h
      → length m.nvm ≡ former_length z + length end → (es : List Event) → InStep z end h (live m) × Holds vandzulge z end (live m) h es
  unfolding Good
  starts_from z ok end f m h v n es =
      let g : Good z ok end f (Inv z) (AtCut z) (laws z ok) (live m) h = record { inv = v; long = n } in
      (in_step z ok end f (Inv z) (AtCut z) (laws z ok) (live m) h g, all-events z ok end f (Inv z) (AtCut z) (laws z ok) (live m) h es g)

  pub crash-theorem-from : CrashTheorem vandzulge
  unfolding CrashTheorem vandzulge happens after_format fed fed_answer said started trailer image_length formatted_as
  crash-theorem-from z lag start m h e es =
      let f = format-checked z m lag start e in
      let ok = f.0 in
      let v = (laws z ok).formats lag start f.3 f.2 in
      let w : format_step z lag start m ≡ record { answer = answer.Done; machine = started lag 0 (start_image z start) }
      = formats-at z lag start m (format-good z _ _ _ ok f.1) ∙ rw (eq-eqb (length start) z.words f.2, f.3) in
      let g = starts_from z ok (trailer z) (inr refl) (started lag 0 (start_image z start)) (opened z lag start 0) v (length-start_image z start f.2) es in (
        record {
          reply = ap (λ (s : Step). s.answer) w ∙ rw (eq-eqb (length start) z.words f.2, f.3);
          store = subst (λ (s : Step).
              InStep z (trailer z) (cond (said s.answer).refused h (opened z lag start 0)) (cond (said s.answer).refused (live m) (live s.machine)))
              (sym w) g.0;
        },
        subst
            (λ (s : Step). Holds vandzulge z (trailer z) (cond (said s.answer).refused (live m) (live s.machine))
            (cond (said s.answer).refused h (opened z lag start 0)) es)
            (sym w) g.1,
      )
