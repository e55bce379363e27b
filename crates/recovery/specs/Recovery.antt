-- Recovery: the boundary, what is undone and in which order, torn slots, the list of stores, and as many of them as a limit lets through; what its answer
-- tells. SPECIFICATION, "Recovery". Assumes nothing.
use Rattle.std.specs.Prelude.{ℕ, zero, suc, ◌+◌, ◌*◌, ◌%◌, max, Bool, true, false, cond, not, List, [], ◌∷◌, ◌++◌, leb, eqb, length, take, Option, Some, None}
use Rattle.slot.specs.declared.Content.{Content}
use Rattle.slot.specs.declared.Content.TheVariants.{Empty, Torn, Entry, Stamp}
use Rattle.image.specs.Image.{base_of, log_of, all_are, former_ok, sizes_at_end, trailer_ok}
use Rattle.image.specs.Stores.{Store, stored}
use Rattle.image.specs.declared.Sizes.{Sizes}
use Rattle.lane_log.specs.Log.{Old, Complete, slot_at, complete_in, ordered, latest_in, contribution}
use Rattle.record.specs.Record.{lesser}
use Rattle.store.specs.Machine.{Machine, Cause, first_cause}
use Rattle.store.specs.Calls.{bad_lag, started}
use Rattle.recovery.specs.Answers.{Recovered}
use Rattle.recovery.specs.Answers.{Refused, Cut, Finished}

-- ---- 1. the boundary
-- the least of what the lanes below k give
unfoldable pub boundary_below : Sizes → List ℕ → (k : ℕ) → Option ℕ
boundary_below z image zero = None
boundary_below z image (suc k) = lesser (boundary_below z image k) (contribution (latest_in z image k))

unfoldable pub boundary : Sizes → List ℕ → Option ℕ
boundary z image = boundary_below z image z.lanes

-- ---- 2. what is undone
-- all complete sequences of the lanes below k
unfoldable pub complete_of : Sizes → List ℕ → (k : ℕ) → List Complete
complete_of z image zero = []
complete_of z image (suc k) = complete_of z image k ++ complete_in z image k

unfoldable pub at_or_above : ℕ → List Complete → List Complete
at_or_above b [] = []
at_or_above b (q ∷ qs) = cond (leb b q.stamp) (q ∷ at_or_above b qs) (at_or_above b qs)

unfoldable pub undone_from : Option ℕ → List Complete → List Complete
undone_from None qs = []
undone_from (Some b) qs = ordered qs (at_or_above b qs)

-- the sequences that recovery undoes, in its order
unfoldable pub undone : Sizes → List ℕ → List Complete
undone z image = undone_from (boundary z image) (complete_of z image z.lanes)

-- the stores that undo entries, the last one first
unfoldable pub undo_entries : List Old → List Store
undo_entries [] = []
undo_entries (e ∷ es) = undo_entries es ++ (record { at = 1 + e.word; value = e.old } ∷ [])

unfoldable pub undo_sequences : List Complete → List Store
undo_sequences [] = []
undo_sequences (q ∷ qs) = undo_entries q.entries ++ undo_sequences qs

unfoldable pub undo_stores : Sizes → List ℕ → List Store
undo_stores z image = undo_sequences (undone z image)

-- ---- 3. the new base timestamp, and the logs cleared
unfoldable pub whole_stamp : Content → ℕ
whole_stamp Empty = 0
whole_stamp Torn = 0
whole_stamp (Entry i v p) = 0
whole_stamp (Stamp n s p) = s

-- the greatest whole timestamp, complete or not, in the slots below j of a log
unfoldable pub greatest_below : (W : ℕ) → List ℕ → (j : ℕ) → ℕ
greatest_below W log zero = 0
greatest_below W log (suc j) = max (greatest_below W log j) (whole_stamp (slot_at W log j))

unfoldable pub greatest_of : Sizes → List ℕ → (k : ℕ) → ℕ
greatest_of z image zero = 0
greatest_of z image (suc k) = max (greatest_of z image k) (greatest_below z.words (log_of z k image) z.slots)

unfoldable pub new_base : Sizes → List ℕ → ℕ
new_base z image = max (base_of image) (greatest_of z image z.lanes)

-- n words from `at` on become 0, in rising order
unfoldable pub zeros : (at n : ℕ) → List Store
zeros at zero = []
zeros at (suc n) = record { at = at; value = 0 } ∷ zeros (suc at) n

-- ---- 4. how many slots are torn
unfoldable pub one_if_torn : Content → ℕ
one_if_torn Empty = 0
one_if_torn Torn = 1
one_if_torn (Entry i v p) = 0
one_if_torn (Stamp n s p) = 0

-- of the slots below j of a log
unfoldable pub torn_below : (W : ℕ) → List ℕ → (j : ℕ) → ℕ
torn_below W log zero = 0
torn_below W log (suc j) = torn_below W log j + one_if_torn (slot_at W log j)

-- of the logs of the lanes below k
unfoldable pub torn_of : Sizes → List ℕ → (k : ℕ) → ℕ
torn_of z image zero = 0
torn_of z image (suc k) = torn_of z image k + torn_below z.words (log_of z k image) z.slots

unfoldable pub torn_in : Sizes → List ℕ → ℕ
torn_in z image = torn_of z image z.lanes

-- ---- all stores, in order: the entries undone, the base timestamp, the log words
unfoldable pub recovery_stores : Sizes → List ℕ → List Store
recovery_stores z image = undo_stores z image ++ (record { at = 0; value = new_base z image } ∷ zeros (1 + z.words) (2 * z.lanes * z.slots))

-- non-volatile memory after the first `limit` of them
unfoldable pub recovered_nvm : Sizes → (limit : ℕ) → List ℕ → List ℕ
recovered_nvm z limit nvm = stored (take limit (recovery_stores z nvm)) nvm

-- ---- the calls
-- is every store made
unfoldable pub all_made : Sizes → (limit : ℕ) → List ℕ → Bool
all_made z limit nvm = leb (length (recovery_stores z nvm)) limit

pub record Restarted : Type 0 where
  pub answer : Recovered
  pub machine : Machine

-- a call that is refused alters nothing; one cut short has made its stores, and has no record; a finished one is a start, with the lag limit that it
-- was given. Boundary and counts are of the cells that this call found. `limit` is that of stores
unfoldable pub recovered_by : Sizes → (lag limit : ℕ) → (number : ℕ) → Machine → Restarted
recovered_by z lag limit number m =
    let nvm = recovered_nvm z limit m.nvm in
    cond (eqb number 0)
    (cond (all_made z limit m.nvm)
    (record {
      answer = Finished (record { boundary = boundary z m.nvm; undone = length (undo_stores z m.nvm); torn = torn_in z m.nvm });
      machine = started lag (base_of nvm) nvm;
    })
    (record { answer = Cut; machine = record { state = m.state; pairs = m.pairs; cache = m.cache; nvm = nvm; flags = m.flags } }))
    (record { answer = Refused number; machine = m })

unfoldable pub odd_base : Machine → Cause
odd_base m = record { number = 10; holds = eqb (base_of m.nvm % 2) 1 }

-- recovery with sizes given, of an image of the former length
unfoldable pub recover_refusal : Sizes → (lag : ℕ) → Machine → ℕ
recover_refusal z lag m =
    first_cause (record { number = 1; holds = not (former_ok z (length m.cache) (length m.nvm) (length m.flags)) } ∷ bad_lag lag ∷ odd_base m ∷ [])

unfoldable pub recover_step : Sizes → (lag limit : ℕ) → Machine → Restarted
recover_step z lag limit m = recovered_by z lag limit (recover_refusal z lag m) m

-- recovery without sizes, which reads them from the end of the cells
unfoldable pub recover_read_refusal : (lag : ℕ) → Machine → ℕ
recover_read_refusal lag m =
    let n = length m.nvm in
    first_cause
    (record { number = 1; holds = not (all_are n (length m.cache) n (length m.flags)) }
    ∷ record { number = 14; holds = not (trailer_ok m.nvm) }
    ∷ bad_lag lag
    ∷ odd_base m
    ∷ [])

unfoldable pub recover_read_step : (lag limit : ℕ) → Machine → Restarted
recover_read_step lag limit m = recovered_by (sizes_at_end m.nvm) lag limit (recover_read_refusal lag m) m

-- ---- their answers in the specification's words
pub record Told : Type 0 where
  -- was recovery refused, and by which number: 0 where it was not
  pub refused : Bool
  pub number : ℕ
  -- do stores remain past the limit
  pub cut : Bool
  -- the boundary; the count of entries undone, and that of torn slots: lists of one where recovery finished, else of none
  pub boundary : Option ℕ
  pub undone : List ℕ
  pub torn : List ℕ

-- what each answer tells; no two answers tell the same (`ToldLaws.Told-back`)
unfoldable pub told : Recovered → Told
told (Refused n) = record { refused = true; number = n; cut = false; boundary = None; undone = []; torn = [] }
told Cut = record { refused = false; number = 0; cut = true; boundary = None; undone = []; torn = [] }
told (Finished f) = record { refused = false; number = 0; cut = false; boundary = f.boundary; undone = f.undone ∷ []; torn = f.torn ∷ [] }
