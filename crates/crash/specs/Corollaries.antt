-- What users are promised beside the crash theorem; it follows from that: when a commit can no longer be lost, that a lane which is marked and drained
-- and then stays idle delays nobody, how much work a power cut can take at most, and what a lane that is settled keeps. SPECIFICATION, "Corollaries".
-- Assumes nothing.
use Rattle.std.specs.Prelude.{ℕ, ◌+◌, ◌-◌, ◌<◌, Bool, true, false, not, ◌&&◌, ◌||◌, List, [], ◌∷◌, ◌≡◌, eqb, set, Some, Option, None}
use Rattle.image.specs.Image.{data_of}
use Rattle.image.specs.declared.Sizes.{Sizes}
use Rattle.record.specs.Record.{lag_passed}
use Rattle.store.specs.Machine.{Machine, said}
use Rattle.store.specs.Calls.{format_refusal}
use Rattle.recovery.specs.Recovery.{boundary, told}
use Rattle.recovery.specs.Answers.{Recovered}
use Rattle.recovery.specs.Answers.{Refused, Cut, Finished}
use Rattle.crash.specs.Events.{Call, log_by, redo, validate_by, mark, drain, lock, proceed, lane_of, Junk, System, live, down, Design, found_or, happens}
use Rattle.crash.specs.Events.{Event, format, write_back, call, recover, fails, fails_in_drain, fails_after_drain, fails_in_recovery}
use Rattle.crash.specs.Events.{Reply, answered, recovered, failed, ignored}
use Rattle.crash.specs.History.{Commit, Holder, History, blank_page, is_below, words_below, least_floor_of, fed}

-- ---- a store with its history, after an event and after a list of them
pub record World : Type 0 where
  pub system : System
  pub history : History

unfoldable pub next_world : Design → Sizes → World → Event → World
next_world d z w e =
    let a = happens d z w.system e in
    record { system = a.system; history = fed z e a.reply a.found w.history }

unfoldable pub world_after : Design → Sizes → World → List Event → World
world_after d z w [] = w
world_after d z w (e ∷ es) = world_after d z (next_world d z w e) es

-- is a call answered, and not refused
unfoldable pub is_done : Reply → Bool
is_done (answered a) = not (said a).refused
is_done (recovered r) = false
is_done (failed d) = false
is_done ignored = false

-- did power cut a call short after its whole drain
unfoldable pub has_drained : Reply → Bool
has_drained (answered a) = false
has_drained (recovered r) = false
has_drained (failed d) = d
has_drained ignored = false

-- ---- a recovery that has finished leaves the words with the commits below some timestamp, and every commit below `kept` is below that one
pub record Keeps (z : Sizes) (h : History) (kept : Option ℕ) (m : Machine) : Type 0 where
  pub boundary : Option ℕ
  pub nvm : data_of z m.nvm ≡ words_below z boundary h
  pub cache : data_of z m.cache ≡ words_below z boundary h
  pub keeps : (s : ℕ) → is_below kept s ≡ true → is_below boundary s ≡ true

-- only a store with a record has finished
abbrev pub KeptBy : Sizes → History → (kept : Option ℕ) → System → Recovered → Type 0
KeptBy z h kept y (Refused n) = Unit {0}
KeptBy z h kept y Cut = Unit {0}
KeptBy z h kept (live m) (Finished a) = Keeps z h kept m
KeptBy z h kept (down nvm j found) (Finished a) = ⊥

abbrev pub Kept : Sizes → History → (kept : Option ℕ) → System → Reply → Type 0
Kept z h kept y (answered a) = Unit {0}
Kept z h kept y (recovered r) = KeptBy z h kept y r
Kept z h kept y (failed d) = Unit {0}
Kept z h kept y ignored = Unit {0}

-- ---- a commit that can no longer be lost
-- does an event start anew: is it a Format that is taken, or a recovery that finishes
unfoldable pub is_format : Event → Bool
is_format (format lag start) = true
is_format (write_back i) = false
is_format (call c) = false
is_format (recover lag limit j) = false
is_format (fails j) = false
is_format (fails_in_drain c is j) = false
is_format (fails_after_drain c j) = false
is_format (fails_in_recovery n j) = false

unfoldable pub starts_anew : Event → Reply → Bool
starts_anew e (answered a) = is_format e && not (said a).refused
starts_anew e (recovered r) = not ((told r).refused || (told r).cut)
starts_anew e (failed d) = false
starts_anew e ignored = false

-- does none of these events
unfoldable pub goes_on : Design → Sizes → World → List Event → Bool
goes_on d z w [] = true
goes_on d z w (e ∷ es) = not (starts_anew e (happens d z w.system e).reply) && goes_on d z (next_world d z w e) es

-- the least timestamp that a commit to come can have: the lock's while it is held, else the next one
unfoldable pub next_commit : Option Holder → (clock : ℕ) → ℕ
next_commit None clock = clock + 2
next_commit (Some k) clock = k.stamp

-- once the least floor is above s, or no lane has a floor, and every commit to come is above s: s is not above the clock, and below the timestamp of a
-- transaction that holds the lock. Whatever happens until the next start, a recovery that then finishes keeps every commit up to s
unfoldable pub SafeTheorem : Design → Type 0
SafeTheorem d =
    (z : Sizes) (lag : ℕ) (start : List ℕ) (m : Machine) (h : History) → format_refusal z lag start m ≡ 0
    → (es fs : List Event) (s : ℕ) →
    let a = world_after d z (record { system = live m; history = h }) (format lag start ∷ es) in
    let b = world_after d z a fs in
    s < next_commit a.history.lock a.history.clock → is_below (least_floor_of a.history.pages) s ≡ true → goes_on d z a fs ≡ true
    → (lag₁ limit : ℕ) (j : Junk) → let r = happens d z b.system (recover lag₁ limit j) in
    Kept z b.history (Some (s + 1)) r.system r.reply

-- ---- a lane that stays idle: no step of it is called; it may be drained, and anything may happen to the rest of the store
unfoldable pub is_drain : Call → Bool
is_drain (log_by r L f) = false
is_drain (redo L) = false
is_drain (validate_by r L f) = false
is_drain (mark L) = false
is_drain (drain L) = true
is_drain (lock L f) = false
is_drain (proceed L) = false

unfoldable pub is_idle : ℕ → Event → Bool
is_idle L (format lag start) = true
is_idle L (write_back i) = true
is_idle L (call c) = is_drain c || not (eqb (lane_of c) L)
is_idle L (recover lag limit j) = true
is_idle L (fails j) = true
is_idle L (fails_in_drain c is j) = true
is_idle L (fails_after_drain c j) = true
is_idle L (fails_in_recovery n j) = true

unfoldable pub stays_idle : ℕ → List Event → Bool
stays_idle L [] = true
stays_idle L (e ∷ es) = is_idle L e && stays_idle L es

-- the least floor of the lanes but L
unfoldable pub others_floor : ℕ → History → Option ℕ
others_floor L h = least_floor_of (set h.pages L blank_page)

-- does a call append a mark: Mark, or a Log of no words
unfoldable pub is_mark : Call → Bool
is_mark (log_by r L []) = true
is_mark (log_by r L (w ∷ f)) = false
is_mark (redo L) = false
is_mark (validate_by r L f) = false
is_mark (mark L) = true
is_mark (drain L) = false
is_mark (lock L f) = false
is_mark (proceed L) = false

-- a lane is marked, and drained later, and stays idle between the two and afterwards: then a recovery that finishes, whatever happened since and wherever
-- power was cut, keeps every commit below the least floor of the other lanes, and every commit where these have none
unfoldable pub IdleTheorem : Design → Type 0
IdleTheorem d =
    (z : Sizes) (lag : ℕ) (start : List ℕ) (m : Machine) (h : History) → format_refusal z lag start m ≡ 0
    → (x : Call) (es fs gs : List Event) →
    let L = lane_of x in
    let a = world_after d z (record { system = live m; history = h }) (format lag start ∷ es) in
    let b = world_after d z (next_world d z a (call x)) fs in
    let c = world_after d z (next_world d z b (call (drain L))) gs in
    is_mark x ≡ true → is_done (happens d z a.system (call x)).reply ≡ true → stays_idle L fs ≡ true
    → is_done (happens d z b.system (call (drain L))).reply ≡ true → stays_idle L gs ≡ true
    → (lag₁ limit : ℕ) (j : Junk) → let r = happens d z c.system (recover lag₁ limit j) in
    Kept z c.history (others_floor L c.history) r.system r.reply

-- ---- a limit on lost work
-- the timestamp that a call answers: a list of one, or of none
unfoldable pub stamps_in : Reply → List ℕ
stamps_in (answered a) = (said a).stamp
stamps_in (recovered r) = []
stamps_in (failed d) = []
stamps_in ignored = []

-- the cells that the last power cut left, or that one would leave now: recovery undoes from their boundary on
unfoldable pub cut_cells : System → List ℕ
cut_cells (live m) = m.nvm
cut_cells (down nvm j found) = found_or nvm found

-- is a call bound by the lag limit: Log, by either rule and of no words too, and Lock
unfoldable pub is_bound : Call → Bool
is_bound (log_by r L f) = true
is_bound (redo L) = false
is_bound (validate_by r L f) = false
is_bound (mark L) = false
is_bound (drain L) = false
is_bound (lock L f) = true
is_bound (proceed L) = false

-- a Log or a Lock has answered timestamp s: whatever happens until the next start and wherever power is cut, s is not more than the lag limit above the
-- boundary of the cut, if there is one, by the very test that the call makes of the lower bound; and a recovery that then finishes keeps every commit that
-- is further below
unfoldable pub LagTheorem : Design → Type 0
LagTheorem d =
    (z : Sizes) (lag : ℕ) (start : List ℕ) (m : Machine) (h : History) → format_refusal z lag start m ≡ 0
    → (es fs : List Event) (x : Call) (s : ℕ) →
    let a = world_after d z (record { system = live m; history = h }) (format lag start ∷ es) in
    let b = next_world d z a (call x) in
    let c = world_after d z b fs in
    is_bound x ≡ true → stamps_in (happens d z a.system (call x)).reply ≡ s ∷ [] → goes_on d z b fs ≡ true
    → (lag_passed a.history.lag s (boundary z (cut_cells c.system)) ≡ false)
    × ((lag₁ limit : ℕ) (j : Junk) → let r = happens d z c.system (recover lag₁ limit j) in
    Kept z c.history (Some (s - a.history.lag)) r.system r.reply)

-- ---- a lane that is settled
-- are all these commits below a timestamp
unfoldable pub are_below : Option ℕ → List Commit → Bool
are_below b [] = true
are_below b (c ∷ cs) = is_below b c.stamp && are_below b cs

-- does an event drain lane L: is it a call on it that is taken, or one that power cuts short after its whole drain
unfoldable pub drains_lane : ℕ → Event → Reply → Bool
drains_lane L (format lag start) r = false
drains_lane L (write_back i) r = false
drains_lane L (call c) r = eqb (lane_of c) L && is_done r
drains_lane L (recover lag limit j) r = false
drains_lane L (fails j) r = false
drains_lane L (fails_in_drain c is j) r = false
drains_lane L (fails_after_drain c j) r = eqb (lane_of c) L && has_drained r
drains_lane L (fails_in_recovery n j) r = false

-- does one of these events
unfoldable pub gets_drained : Design → Sizes → ℕ → World → List Event → Bool
gets_drained d z L w [] = false
gets_drained d z L w (e ∷ es) = drains_lane L e (happens d z w.system e).reply || gets_drained d z L (next_world d z w e) es

-- is a call Lock: its timestamp is answered before anything is appended with it
unfoldable pub is_lock : Call → Bool
is_lock (log_by r L f) = false
is_lock (redo L) = false
is_lock (validate_by r L f) = false
is_lock (mark L) = false
is_lock (drain L) = false
is_lock (lock L f) = true
is_lock (proceed L) = false

-- a call on a lane has answered timestamp s: a Log of no words, which settles the lane, a Mark, a Continue, or any other. Every commit before it is below
-- s. And once the lane is drained after it, whatever happens until the next start and wherever power is cut, if the call is not Lock: where the floor of
-- every other lane is above k or none, a commit at k below s is below the boundary of the cut, if there is one, and a recovery that then finishes keeps
-- every commit up to k
unfoldable pub SettledTheorem : Design → Type 0
SettledTheorem d =
    (z : Sizes) (lag : ℕ) (start : List ℕ) (m : Machine) (h : History) → format_refusal z lag start m ≡ 0
    → (es fs : List Event) (x : Call) (s : ℕ) →
    let a = world_after d z (record { system = live m; history = h }) (format lag start ∷ es) in
    let b = next_world d z a (call x) in
    let c = world_after d z b fs in
    stamps_in (happens d z a.system (call x)).reply ≡ s ∷ []
    → (are_below (Some s) a.history.commits ≡ true)
    × (is_lock x ≡ false → goes_on d z b fs ≡ true → gets_drained d z (lane_of x) b fs ≡ true
    → (k : ℕ) → k < s → is_below (others_floor (lane_of x) c.history) k ≡ true
    → (is_below (boundary z (cut_cells c.system)) k ≡ true)
    × ((lag₁ limit : ℕ) (j : Junk) → let r = happens d z c.system (recover lag₁ limit j) in
    Kept z c.history (Some (k + 1)) r.system r.reply))
