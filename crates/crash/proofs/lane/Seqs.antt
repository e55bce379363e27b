-- A ghost history is N blanks and then sequences, each whole: a timestamp that stands in it closes one of them, and each of them stands in it.
-- What a lane's last call made of the history of its last drain. Assumes nothing.
use mathlib.Core.Path.{◌≡◌, refl, ap, ◌∙◌, sym, subst}
use mathlib.Core.List.{List, [], ◌∷◌, ◌++◌, append_assoc}
use Prim.Native.Nat.{ℕ, zero, suc, ◌+◌, ◌-◌, ◌/◌, ◌%◌, ◌≤◌, ◌<◌}
use native.Mathlib.Omega.{arith}
use native.Mathlib.Nat.{le_refl, le_of_suc-le-suc, div-eq_of_lt}
use native.Mathlib.Decide.{ℕ_discrete}
use lib.Dec.{ltb}
use lib.ListN.{length, get_or, set, drop, replicate, length-append, length-replicate, get_or-replicate, get_or-append, get_or-eq_default}
use lib.Seq.{drop-cons, drop-length, get_or-append-add, get_or-append_seam, set_at}
use borrow.Author.Tests.{ltb-true, ltb-false, eq-eqb}
use Rattle.laws.specs.inner.Tests.{split}
use Rattle.laws.specs.inner.Lists.{All, none, more}
use Rattle.slot.specs.Slot.{max_entries}
use Rattle.lane_log.specs.Log.{Old, entry_in}
use Rattle.laws.specs.inner.Members.{In, here, there}
use Rattle.crash.proofs.lane.Absolute.{wrap_of}
use Rattle.crash.proofs.lane.Ghost.{Past, blank, ent, sta, content_of, entries_before, Fits}
use Rattle.crash.proofs.lane.Window.{at}

-- entries as they stand in a history, and a sequence: the entries and the timestamp that closes them
unfoldable pub entries_as : List Old → List Past
entries_as [] = []
entries_as (e ∷ es) = ent e.word e.old ∷ entries_as es

unfoldable pub past_of : List Old → ℕ → List Past
past_of es s = entries_as es ++ (sta (length es) s ∷ [])

-- a sequence of a history: its entries, its timestamp now, the number of its timestamp's slot
pub record Seq : Type 0 where
  pub entries : List Old
  pub stamp : ℕ
  pub end : ℕ

-- the sequence of these entries that a history goes on with
abbrev pub next : List Past → List Old → ℕ → Seq
next h es s = record { entries = es; stamp = s; end = length h + length es }

-- a commit gives it a new timestamp
abbrev pub restamped : ℕ → Seq → Seq
restamped c g = record { entries = g.entries; stamp = c; end = g.end }

-- what is logged: at most max_entries entries of data words, and an even timestamp
pub record Loggable (W : ℕ) (es : List Old) (s : ℕ) : Type 0 where
  pub few : length es ≤ max_entries
  pub low : All (λ e. e.word < W) es
  pub even : s % 2 ≡ 0

-- a history of these sequences, the newest first
pub data Hist (W N : ℕ) : List Past → List Seq → Type 0 where
  start : Hist W N (replicate N blank) []
  add : {h : List Past} {gs : List Seq} → Hist W N h gs → (es : List Old) (s : ℕ) → Loggable W es s → Hist W N (h ++ past_of es s) (next h es s ∷ gs)

-- what a lane's last call made of the history of its last drain: nothing, one sequence more, or a new timestamp for its newest sequence, which is no mark
pub data Since : (prior hist : List Past) (priors gs : List Seq) → Type 0 where
  level : {h : List Past} {gs : List Seq} → Since h h gs gs
  grown : {h : List Past} {gs : List Seq} (es : List Old) (s : ℕ) → Since h (h ++ past_of es s) gs (next h es s ∷ gs)
  sealed : {h : List Past} {gs : List Seq} (g : Seq) (c : ℕ) → g.stamp < c → 0 < length g.entries
      → Since h (set h g.end (sta (length g.entries) c)) (g ∷ gs) (restamped c g ∷ gs)

length-as : (es : List Old) → length (entries_as es) ≡ length es
unfolding entries_as
length-as [] = refl
length-as (e ∷ es) = ap suc (length-as es)

pub length-past : (es : List Old) (s : ℕ) → length (past_of es s) ≡ length es + 1
unfolding past_of
length-past es s = length-append (entries_as es) (sta (length es) s ∷ []) ∙ ap (λ n. n + 1) (length-as es)

-- what stands past the end of a list of entries
abbrev pub no_old : Old
no_old = record { word = 0; old = 0 }

at-as : (es : List Old) (rest : List Past) (i : ℕ) → i < length es → at (entries_as es ++ rest) i ≡ ent (get_or es i no_old).word (get_or es i no_old).old
unfolding entries_as
at-as [] rest i h = absurd (omega arith)
at-as (e ∷ es) rest zero h = refl
at-as (e ∷ es) rest (suc i) h = at-as es rest i (le_of_suc-le-suc h)

-- what the entries before a number are depends on the numbers below it
pub before_same : (N : ℕ) (f g : ℕ → Past) (b k : ℕ) → k ≤ b → ((a : ℕ) → a < b → f a ≡ g a) → entries_before N f b k ≡ entries_before N g b k
unfolding entries_before
before_same N f g b zero h e = refl
before_same N f g b (suc k) h e = rw (e (b - suc k) (omega arith), before_same N f g b k (omega arith) e)

own-entry : (p w v : ℕ) → entry_in p (content_of p (ent w v)) ≡ record { word = w; old = v } ∷ []
unfolding entry_in content_of
own-entry p w v = rw (eq-eqb p p refl)

-- ---- one sequence more
module _ (h : List Past) (es : List Old) (s : ℕ) where
  abbrev new : List Past
  new = h ++ past_of es s

  pub length-new : length new ≡ length h + length es + 1
  length-new = length-append h (past_of es s) ∙ (let e : length h + length (past_of es s) ≡ length h + length es + 1 = omega (arith, length-past es s) in e)

  pub at_old : (a : ℕ) → a < length h → at new a ≡ at h a
  at_old a l = get_or-append h (past_of es s) blank a l

  pub at_entry : (i : ℕ) → i < length es → at new (length h + i) ≡ ent (get_or es i no_old).word (get_or es i no_old).old
  unfolding past_of
  at_entry i l = get_or-append-add h (past_of es s) i blank ∙ at-as es (sta (length es) s ∷ []) i l

  pub at-end : at new (length h + length es) ≡ sta (length es) s
  unfolding past_of
  at-end =
      get_or-append-add h (past_of es s) (length es) blank
      ∙ ap (at (past_of es s)) (sym (length-as es)) ∙ get_or-append_seam (entries_as es) (sta (length es) s) [] blank

  -- a number of the new history is of the old one, an entry's, or the timestamp's
  pub data Place (a : ℕ) : Type 0 where
    old : a < length h → Place a
    entry : (i : ℕ) → i < length es → a ≡ length h + i → Place a
    end : a ≡ length h + length es → Place a
    out : length new ≤ a → Place a

  pub place : (a : ℕ) → Place a
  place a =
      split (ltb a (length h)) (λ e. old (ltb-true a (length h) e))
      (λ e. split (ltb a (length h + length es))
      (λ f. entry (a - length h) (omega (arith, ltb-true a (length h + length es) f, ltb-false a (length h) e)) (omega (arith, ltb-false a (length h) e)))
      (λ f. elim (ℕ_discrete a (length h + length es)) [ yes p ↦ end p | no d ↦ out (omega (arith, length-new, ltb-false a (length h + length es) f)) ]))

  module _ (N : ℕ) where
    before-new : (k : ℕ) → k ≤ length es → entries_before N (at new) (length h + length es) k ≡ drop (length es - k) es
    unfolding entries_before
    before-new zero l = sym (ap (λ n. drop n es) (let e : length es - 0 ≡ length es = omega arith in e) ∙ drop-length es)
    before-new (suc k) l =
        let i : ℕ = length es - suc k in
        let n : length h + length es - suc k ≡ length h + i = omega arith in
        let m : suc i ≡ length es - k = omega arith in
        rw (n, at_entry i (omega arith), own-entry (wrap_of N (length h + i)) (get_or es i no_old).word (get_or es i no_old).old, before-new k (omega arith), ← m)
        (sym (drop-cons es i no_old (omega arith)))

    pub before-own : entries_before N (at new) (length h + length es) (length es) ≡ es
    before-own = before-new (length es) (le_refl (length es)) ∙ ap (λ n. drop n es) (let e : length es - length es ≡ 0 = omega arith in e)

blank-at : (N b : ℕ) → at (replicate N blank) b ≡ blank
blank-at N b =
    split (ltb b N) (λ t. get_or-replicate N b blank blank (ltb-true b N t))
    (λ t. get_or-eq_default (replicate N blank) blank
    (let l : length (replicate N blank) ≤ b = omega (arith, ltb-false b N t, length-replicate N blank) in l))

not-blank : {k s : ℕ} {C : Type 0} (c : Past) → c ≡ sta k s → c ≡ blank → C
not-blank c e p = absurd (let z : ◌≡◌ {A = ℕ} 0 1 = cc in omega arith)

not-ent : {k s w v : ℕ} {C : Type 0} (c : Past) → c ≡ sta k s → c ≡ ent w v → C
not-ent c e p = absurd (let z : ◌≡◌ {A = ℕ} 0 1 = cc in omega arith)

same-sta : {k s k' s' : ℕ} (c : Past) → c ≡ sta k s → c ≡ sta k' s' → (k ≡ k') × (s ≡ s')
same-sta c p q = (cc, cc)

All-get_or : {P : Old → Type 0} {l : List Old} (i : ℕ) → All P l → i < length l → P (get_or l i no_old)
All-get_or i none h = absurd (omega arith)
All-get_or zero (more p a) h = p
All-get_or (suc i) (more p a) h = All-get_or i a (le_of_suc-le-suc h)

module _ (W N : ℕ) where
  pub hist-big : {h : List Past} {gs : List Seq} → Hist W N h gs → N ≤ length h
  hist-big start = omega (arith, length-replicate N blank)
  hist-big (add {h = h} H es t ok) = omega (arith, length-new h es t, hist-big H)

  -- the first N numbers are blank
  pub early : {h : List Past} {gs : List Seq} → Hist W N h gs → (a : ℕ) → a < N → at h a ≡ blank
  early start a l = get_or-replicate N a blank blank l
  early (add {h = h} H es t ok) a l = at_old h es t a (omega (arith, hist-big H)) ∙ early H a l

  -- all that stands in a history may stand in a log
  pub hist-fits : {h : List Past} {gs : List Seq} → Hist W N h gs → (a : ℕ) → a < length h → Fits W (wrap_of N a) (at h a)
  unfolding wrap_of
  hist-fits start a l =
      let b : a < N = omega (arith, length-replicate N blank) in
      rw (get_or-replicate N a blank blank b, div-eq_of_lt b)
  hist-fits (add {h = h} H es t ok) a l = go (place h es t a) (λ m. hist-fits H a m)
    where
      go : Place h es t a → (a < length h → Fits W (a / N % 2) (at h a)) → Fits W (a / N % 2) (at (new h es t) a)
      go (old m) ih = rw (at_old h es t a m) (ih m)
      go (entry i m e) ih = rw (e, at_entry h es t i m) (All-get_or i ok.low m)
      go (end e) ih = rw (e, at-end h es t) (ok.few, ok.even)
      go (out m) ih = absurd (omega arith)

  -- a timestamp in the history closes one of its sequences
  pub lookup : {h : List Past} {gs : List Seq} → Hist W N h gs → (b k s : ℕ) → k ≤ b → at h b ≡ sta k s
      → In (record { entries = entries_before N (at h) b k; stamp = s; end = b }) gs
  lookup start b k s l e = not-blank (at (replicate N blank) b) e (blank-at N b)
  lookup (add {h = h} {gs = gs} H es t ok) b k s l e = go (place h es t b) (λ m. lookup H b k s l (sym (at_old h es t b m) ∙ e))
    where
      mine : b ≡ length h + length es → (k ≡ length es) × (s ≡ t)
          → In (record { entries = entries_before N (at (new h es t)) b k; stamp = s; end = b }) (next h es t ∷ gs)
      mine p (u, v) = rw (p, u, v, before-own h es t N) here

      go : Place h es t b → (b < length h → In (record { entries = entries_before N (at h) b k; stamp = s; end = b }) gs)
          → In (record { entries = entries_before N (at (new h es t)) b k; stamp = s; end = b }) (next h es t ∷ gs)
      go (old m) ih = there {l = gs} (rw (before_same N (at (new h es t)) (at h) b k l (λ a n. at_old h es t a (omega arith))) (ih m))
      go (entry i m p) ih = not-ent (at (new h es t) b) e (ap (at (new h es t)) p ∙ at_entry h es t i m)
      go (end p) ih = mine p (same-sta (at (new h es t) b) e (ap (at (new h es t)) p ∙ at-end h es t))
      go (out m) ih = not-blank (at (new h es t) b) e (get_or-eq_default (new h es t) blank m)

  -- and each of its sequences stands in it
  pub record Stands (h : List Past) (g : Seq) : Type 0 where
    pub closes : at h g.end ≡ sta (length g.entries) g.stamp
    pub entries : entries_before N (at h) g.end (length g.entries) ≡ g.entries
    pub below : g.end < length h
    pub late : N + length g.entries ≤ g.end
    pub ok : Loggable W g.entries g.stamp

  pub stands : {h : List Past} {gs : List Seq} {g : Seq} → Hist W N h gs → In g gs → Stands h g
  stands {g = g} start x4 = elim x4 [ ]
  stands (add {h = h} H es t ok) here =
      record { closes = at-end h es t; entries = before-own h es t N; below = omega (arith, length-new h es t); late = omega (arith, hist-big H); ok = ok }
  stands {g = g} (add {h = h} H es t ok) (there i) =
      let r = stands H i in
      record {
        closes = at_old h es t g.end r.below ∙ r.closes;
        entries =
            before_same N (at (new h es t)) (at h) g.end (length g.entries) (omega (arith, r.late)) (λ a n. at_old h es t a (omega (arith, r.below)))
            ∙ r.entries;
        below = omega (arith, length-new h es t, r.below);
        late = r.late;
        ok = r.ok;
      }

  -- the newest ends the history
  pub newest-end : {h : List Past} {g : Seq} {gs : List Seq} → Hist W N h (g ∷ gs) → length h ≡ g.end + 1
  newest-end (add {h = h} H es t ok) = length-new h es t

  -- a commit: the newest sequence takes a new timestamp
  pub seal : (c : ℕ) → c % 2 ≡ 0 → {h : List Past} {g : Seq} {gs : List Seq} → Hist W N h (g ∷ gs)
      → Hist W N (set h g.end (sta (length g.entries) c)) (restamped c g ∷ gs)
  unfolding past_of
  seal c even (add {h = h} {gs = gs} H es t ok) =
      subst (λ l. Hist W N l (next h es c ∷ gs)) (sym put) (add H es c (record { few = ok.few; low = ok.low; even = even }))
    where
      put : set (h ++ past_of es t) (length h + length es) (sta (length es) c) ≡ h ++ past_of es c
      put =
          ap (λ l. set l (length h + length es) (sta (length es) c)) (sym (append_assoc h (entries_as es) (sta (length es) t ∷ [])))
          ∙ set_at (h ++ entries_as es) (sta (length es) t) [] (sta (length es) c) (length h + length es)
          (length-append h (entries_as es) ∙ ap (λ n. length h + n) (length-as es))
          ∙ append_assoc h (entries_as es) (sta (length es) c ∷ [])
