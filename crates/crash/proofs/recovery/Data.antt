-- What a transaction's writes say of the words before and after it, and why undoing from b on gives the words below b. Assumes nothing.
use Rattle.std.specs.Prelude.{Option, Some, None}
use mathlib.Core.Path.{◌≡◌, refl, ap, ◌∙◌, sym}
use mathlib.Core.Logic.{◌⊎◌, inl, inr}
use mathlib.Core.Bool.{Bool, true, false, cond}
use mathlib.Core.List.{List, [], ◌∷◌, ◌++◌}
use Prim.Native.Nat.{ℕ, suc, ◌+◌, ◌≤◌, ◌<◌, max}
use native.Mathlib.Omega.{arith}
use lib.Dec.{eqb, ltb}
use lib.ListN.{length, get_or, set}
use lib.Seq.{get_or-set_other}
use borrow.Author.Tests.{eqb-true, eqb-false, ltb-true, ltb-false, lt-ltb, le-ltb}
use Rattle.laws.specs.inner.Tests.{split, clash, or_left, or_right}
use Rattle.laws.specs.inner.Lists.{All, none as nil, more, All-map, All-rest}
use Rattle.txn.specs.Txn.{applied, run, after}
use Rattle.txn.specs.inner.TxnLaws.{Chain, chain-nil, chain-cons, run-chain, length-applied}
use Rattle.txn.specs.declared.Write.{Write}
use Rattle.lane_log.specs.Log.{Old, Complete, undone_before}
use Rattle.crash.specs.History.{Commit, is_below, replay}
use Rattle.laws.specs.inner.Members.{In, here, there, in-cases, In-All, All-In}
use Rattle.lane_log.specs.inner.OrderLaws.{Falling, lowest, above, Sorted, empty, first, is-before, not-self}
use Rattle.recovery.specs.inner.OrderLaws.{Undoes}
use Rattle.recovery.specs.inner.UndoneLaws.{first_old, writes, firsts_of, any_writes, any_writes-in, firsts_of-none, OldIn, Ends, done, ends, firsts_of-ends}

-- ---- a run's writes
-- as the entries of a log
unfoldable pub olds_of : List Write → List Old
olds_of [] = []
olds_of (w ∷ l) = record { word = w.word; old = w.old } ∷ olds_of l

pub length-olds : (l : List Write) → length (olds_of l) ≡ length l
unfolding olds_of
length-olds [] = refl
length-olds (w ∷ l) = ap suc (length-olds l)

-- the first old value of a word that is written is what it was
pub chain_first : (w x : ℕ) {ws : List ℕ} {l : List Write} → Chain ws l → writes (olds_of l) w ≡ true → first_old (olds_of l) w x ≡ get_or ws w 0
unfolding writes olds_of first_old
chain_first w x chain-nil h = clash false h refl
chain_first w x (chain-cons {ws = ws} {w = v} {l = l} e c) h =
    split (eqb v.word w)
    (λ t. rw t (e ∙ ap (λ i. get_or ws i 0) (eqb-true v.word w t)))
    (λ t. rw t (chain_first w x c (rw t at h) ∙ get_or-set_other ws v.word w v.new 0 (λ p. eqb-false v.word w t (sym p))))

-- one that is not written stays
pub applied-stays : (w : ℕ) (ws : List ℕ) (l : List Write) → writes (olds_of l) w ≡ false → get_or (applied l ws) w 0 ≡ get_or ws w 0
unfolding writes olds_of applied
applied-stays w ws [] h = refl
applied-stays w ws (v ∷ l) h =
    let t = or_left (eqb v.word w) _ h in
    applied-stays w (set ws v.word v.new) l (or_right (eqb v.word w) _ h)
    ∙ get_or-set_other ws v.word w v.new 0 (λ p. eqb-false v.word w t (sym p))

-- does a transaction write word w, run on these words
unfoldable pub txn_writes : (W w : ℕ) (f ws : List ℕ) → Bool
txn_writes W w f ws = writes (olds_of (run W f ws)) w

pub after-stays : (W w : ℕ) (f ws : List ℕ) → txn_writes W w f ws ≡ false → get_or (after W f ws) w 0 ≡ get_or ws w 0
unfolding txn_writes after
after-stays W w f ws h = applied-stays w ws (run W f ws) h

pub run-first : (W w x : ℕ) (f ws : List ℕ) → txn_writes W w f ws ≡ true → first_old (olds_of (run W f ws)) w x ≡ get_or ws w 0
unfolding txn_writes
run-first W w x f ws h = chain_first w x (run-chain W f ws) h

-- ---- commits
-- by rising timestamp
pub data Rising : List Commit → Type 0 where
  last : Rising []
  then : {c : Commit} {cs : List Commit} → All (λ d. c.stamp < d.stamp) cs → Rising cs → Rising (c ∷ cs)

pub length-replay : (W : ℕ) (b : Option ℕ) (cs : List Commit) (ws : List ℕ) → length (replay W b cs ws) ≡ length ws
unfolding replay after
length-replay W b [] ws = refl
length-replay W b (c ∷ cs) ws = length-replay W b cs _ ∙ go (is_below b c.stamp)
  where
    go : (t : Bool) → length (cond t (applied (run W c.txn ws) ws) ws) ≡ length ws
    go true = length-applied (run W c.txn ws) ws
    go false = refl

-- commits at or above b do not count below b
pub replay-none : (W b : ℕ) {cs : List Commit} (ws : List ℕ) → All (λ c. b ≤ c.stamp) cs → replay W (Some b) cs ws ≡ ws
unfolding replay is_below
replay-none W b ws nil = refl
replay-none W b ws (more {x = c} h hs) = rw (le-ltb c.stamp b h) (replay-none W b ws hs)

-- below a timestamp above every commit, all count
pub replay-all : (W top : ℕ) {cs : List Commit} (ws : List ℕ) → All (λ c. c.stamp < top) cs → replay W (Some top) cs ws ≡ replay W None cs ws
unfolding replay is_below
replay-all W top ws nil = refl
replay-all W top ws (more {x = c} h hs) = rw (lt-ltb c.stamp top h) (replay-all W top (after W c.txn ws) hs)

-- one commit more, above the timestamp or not
pub replay_snoc : (W : ℕ) (b : Option ℕ) (cs : List Commit) (c : Commit) (ws : List ℕ)
    → replay W b (cs ++ (c ∷ [])) ws ≡ cond (is_below b c.stamp) (after W c.txn (replay W b cs ws)) (replay W b cs ws)
unfolding replay
replay_snoc W b [] c ws = refl
replay_snoc W b (d ∷ cs) c ws = replay_snoc W b cs c (cond (is_below b d.stamp) (after W d.txn ws) ws)

module _ (W w : ℕ) where
  -- no commit at or above b and below s writes word w
  pub data Untouched (b s : ℕ) : List ℕ → List Commit → Type 0 where
    stop : {ws : List ℕ} → Untouched b s ws []
    pass : {ws : List ℕ} {c : Commit} {cs : List Commit} → (b ≤ c.stamp → c.stamp < s → txn_writes W w c.txn ws ≡ false)
        → Untouched b s (after W c.txn ws) cs → Untouched b s ws (c ∷ cs)

  later : (n b : ℕ) {cs : List Commit} → b ≤ n → All (λ d. n < d.stamp) cs → All (λ d. b ≤ d.stamp) cs
  later n b h = All-map (λ d p. omega arith)

  -- all at or above b
  steady-from : (b s : ℕ) {cs : List Commit} {ws : List ℕ} → Rising cs → All (λ c. b ≤ c.stamp) cs → Untouched b s ws cs
      → get_or (replay W (Some s) cs ws) w 0 ≡ get_or ws w 0
  unfolding replay is_below
  steady-from b s last nil stop = refl
  steady-from b s (then {c = c} a r) (more h hs) (pass {ws = ws} f u) =
      split (ltb c.stamp s)
      (λ t. rw t (steady-from b s r hs u ∙ after-stays W w c.txn ws (f h (ltb-true c.stamp s t))))
      (λ t. rw t (ap (λ l. get_or l w 0) (replay-none W s ws (later c.stamp s (ltb-false c.stamp s t) a))))

  -- then the word is the same below s and below b
  pub steady-replay : (b s : ℕ) {cs : List Commit} {ws : List ℕ} → b ≤ s → Rising cs → Untouched b s ws cs
      → get_or (replay W (Some s) cs ws) w 0 ≡ get_or (replay W (Some b) cs ws) w 0
  unfolding replay is_below
  steady-replay b s l last stop = refl
  steady-replay b s l (then {c = c} a r) (pass {ws = ws} f u) =
      split (ltb c.stamp b)
      (λ t. rw (t, lt-ltb c.stamp s (omega (arith, ltb-true c.stamp b t))) (steady-replay b s l r u))
      (λ t. let h = ltb-false c.stamp b t in
      let hs = later c.stamp b h a in
      rw t (steady-from b s (then {c = c} a r) (more h hs) (pass {ws = ws} f u) ∙ ap (λ l. get_or l w 0) (sym (replay-none W b ws hs))))

-- word w with the commits below s
unfoldable pub value_below : (W w : ℕ) (start : List ℕ) (cs : List Commit) (s : ℕ) → ℕ
value_below W w start cs s = get_or (replay W (Some s) cs start) w 0

-- no sequence of qs that is at or above b and below s names word w
abbrev pub NoneBetween : (w b s : ℕ) → List Complete → Type 0
NoneBetween w b s qs = (q : Complete) → In q qs → b ≤ q.stamp → q.stamp < s → writes q.entries w ≡ false

-- no sequence of qs that is at or above b names word w
abbrev pub NoneFrom : (w b : ℕ) → List Complete → Type 0
NoneFrom w b qs = (q : Complete) → In q qs → b ≤ q.stamp → writes q.entries w ≡ false

-- a number above every timestamp
stamp-bound : (cs : List Commit) → (t : ℕ) × All (λ c. c.stamp < t) cs
stamp-bound [] = (0, nil)
stamp-bound (c ∷ cs) =
    let r = stamp-bound cs in
    (max (1 + c.stamp) r.0, more {x = c} (omega arith) (All-map (λ d h. omega (arith, h)) r.1))

seq-bound : (qs : List Complete) → (t : ℕ) × All (λ q. q.stamp ≤ t) qs
seq-bound [] = (0, nil)
seq-bound (q ∷ qs) =
    let r = seq-bound qs in
    (max q.stamp r.0, more {x = q} (omega arith) (All-map (λ d h. omega (arith, h)) r.1))

-- ---- the words after undoing everything at or above b
module _ (W w b : ℕ) (start : List ℕ) (cs : List Commit) (order : Rising cs) (qs : List Complete) where
  abbrev Old-is : Complete → Type 0
  Old-is q = OldIn w (value_below W w start cs) qs q

  none_below : (s : ℕ) (rs : List Complete) → any_writes rs w ≡ false → All (λ q. q.stamp < s → writes q.entries w ≡ false) rs
  unfolding any_writes
  none_below s [] e = nil
  none_below s (q ∷ rs) e = more (λ l. or_left (writes q.entries w) _ e) (none_below s rs (or_right (writes q.entries w) _ e))

  none_in : (rs : List Complete) → any_writes rs w ≡ false → {r : Complete} → In r rs → writes r.entries w ≡ false
  unfolding any_writes
  none_in [] e {r = r} x'' = elim x'' [ ]
  none_in (q ∷ rs) e here = or_left (writes q.entries w) _ e
  none_in (q ∷ rs) e (there i) = none_in rs (or_right (writes q.entries w) _ e) i

  -- where a sequence of qs stands: in the rest of the list, or before all of it
  abbrev Where : List Complete → Type 0
  Where rs = (r : Complete) → In r qs → b ≤ r.stamp → (In r rs) ⊎ (All (λ x. undone_before qs x r ≡ false) rs)

  where-rest : {q : Complete} {rs : List Complete} → All (λ r. undone_before qs r q ≡ false) rs → Where (q ∷ rs) → Where rs
  where-rest {q} {rs} a f r i l = go (f r i l)
    where
      it : (r ≡ q) ⊎ In r rs → (In r rs) ⊎ (All (λ x. undone_before qs x r ≡ false) rs)
      it (inl e) = inr (rw e a)
      it (inr j) = inl j

      go : (In r (q ∷ rs)) ⊎ (All (λ x. undone_before qs x r ≡ false) (q ∷ rs)) → (In r rs) ⊎ (All (λ x. undone_before qs x r ≡ false) rs)
      go (inl j) = it (in-cases j)
      go (inr h) = inr (All-rest h)

  after-it : {q : Complete} {rs : List Complete} → Where (q ∷ rs) → any_writes rs w ≡ false → (r : Complete) → In r qs → b ≤ r.stamp
      → undone_before qs q r ≡ true
      → writes r.entries w ≡ false
  after-it {q} {rs} f e r i l t = go (f r i l)
    where
      it : (r ≡ q) ⊎ In r rs → writes r.entries w ≡ false
      it (inl d) = not-self qs q (is-before qs q q (rw d at t))
      it (inr j) = none_in rs e j

      go : (In r (q ∷ rs)) ⊎ (All (λ x. undone_before qs x r ≡ false) (q ∷ rs)) → writes r.entries w ≡ false
      go (inl j) = it (in-cases j)
      go (inr h) = clash _ t (In-All h here)

  each : (top : ℕ) {rs : List Complete} → All (λ r. r.stamp ≤ top) rs → All (λ r. b ≤ r.stamp) rs → Falling rs → Sorted qs rs → All Old-is rs → Where rs
      → ((s : ℕ) → s ≤ top → b ≤ s → All (λ q. q.stamp < s → writes q.entries w ≡ false) rs → Untouched W w b s start cs)
      → Ends w (value_below W w start cs b) rs
  unfolding value_below OldIn
  each top nil nil lowest empty nil f ctx = done
  each top (more h hs) (more g gs) (above {q = q} {qs = rs} a fs) (first u us) (more o os) f ctx =
      ends
      (λ e n x. o (λ r i s t. after-it f e r i (omega arith) t) n x
      ∙ steady-replay W w b q.stamp g order (ctx q.stamp h g (more (λ l. absurd (omega arith)) (none_below q.stamp rs e))))
      (each q.stamp a gs fs us os (where-rest u f) (λ s l k nb. ctx s (omega arith) k (more (λ m. absurd (omega arith)) nb)))

  -- rs undoes the sequences of qs at or above b, each with the value below its timestamp unless one of the same timestamp that is
  -- undone after it names the word too; a word that some commit at or above b and below s writes is named by a sequence in between;
  -- and a word that none of them names is as it is with all commits
  pub final : (x : ℕ) {rs : List Complete} → Undoes b qs rs → ((q : Complete) → In q qs → b ≤ q.stamp → Old-is q)
      → ((s : ℕ) → b ≤ s → NoneBetween w b s qs → Untouched W w b s start cs)
      → (NoneFrom w b qs → x ≡ get_or (replay W None cs start) w 0)
      → firsts_of rs w x ≡ value_below W w start cs b
  unfolding value_below
  final x {rs} u o ctx out =
      split (any_writes rs w)
      (λ e. firsts_of-ends w (get_or (replay W (Some b) cs start) w 0) x
      (each (seq-bound rs).0 (seq-bound rs).1 u.from u.falling u.sorted
      (All-In rs (λ q i. o q (u.found i) (In-All u.from i))) (λ r i l. inl (u.every i l))
      (λ s l k n. ctx s k (λ q i g h. In-All n (u.every i g) h))) e)
      (λ e. firsts_of-none rs w x e ∙ out (λ q i g. none e i g) ∙ all e)
    where
      none : any_writes rs w ≡ false → {q : Complete} → In q qs → b ≤ q.stamp → writes q.entries w ≡ false
      none e {q} i g = split (writes q.entries w) (λ t. clash _ (any_writes-in w (u.every i g) t) e) (λ t. t)

      top : ℕ
      top = max b (stamp-bound cs).0

      all : any_writes rs w ≡ false → get_or (replay W None cs start) w 0 ≡ get_or (replay W (Some b) cs start) w 0
      all e =
          ap (λ l. get_or l w 0) (sym (replay-all W top start (All-map (λ c h. omega (arith, h)) (stamp-bound cs).1)))
          ∙ steady-replay W w b top (omega arith) order (ctx top (omega arith) (λ q i g h. none e i g))
