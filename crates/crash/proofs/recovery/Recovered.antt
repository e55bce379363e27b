-- A finished recovery leaves the words below the boundary, if what it finds in the cut cells is right. Assumes nothing.
use Rattle.std.specs.Prelude.{Some, None}
use mathlib.Core.Path.{◌≡◌, ◌∙◌}
use mathlib.Core.Bool.{true}
use mathlib.Core.List.{List, [], ◌∷◌}
use Prim.Native.Nat.{ℕ, ◌+◌, ◌≤◌, ◌<◌}
use native.Mathlib.Omega.{arith}
use lib.ListN.{length, get_or}
use Rattle.laws.specs.inner.Tests.{split, clash}
use Rattle.txn.specs.Txn.{after}
use Rattle.image.specs.Image.{former_length, data_of}
use Rattle.image.specs.declared.Sizes.{Sizes}
use Rattle.lane_log.specs.Log.{Complete}
use Rattle.recovery.specs.Recovery.{boundary, complete_of, undone}
use Rattle.crash.specs.History.{Commit, replay}
use Rattle.laws.specs.inner.Members.{In}
use Rattle.recovery.specs.inner.OrderLaws.{undone-at}
use Rattle.recovery.specs.inner.UndoneLaws.{writes, firsts_of, OldIn}
use Rattle.crash.proofs.recovery.Data.{Rising, Untouched, stop, pass, txn_writes, value_below, NoneBetween, NoneFrom, length-replay, final}
use Rattle.recovery.specs.inner.AgainLaws.{recovered_image}
use Rattle.recovery.specs.inner.FreshLaws.{recovered-words, recovered-none}

-- ---- what is found
-- the cut cells c against the start words and the commits, where the boundary is b
pub record CutAt (z : Sizes) (c start : List ℕ) (cs : List Commit) (b : ℕ) : Type 0 where
  pub size : former_length z ≤ length c
  pub words : length start ≡ z.words
  pub bound : boundary z c ≡ Some b
  pub order : Rising cs
  pub olds : (w : ℕ) → w < z.words → (q : Complete) → In q (complete_of z c z.lanes) → b ≤ q.stamp
      → OldIn w (value_below z.words w start cs) (complete_of z c z.lanes) q
  -- a word that no sequence found from b on and below s names, no commit from b on and below s writes
  pub found : (w : ℕ) → w < z.words → (s : ℕ) → b ≤ s → NoneBetween w b s (complete_of z c z.lanes) → Untouched z.words w b s start cs
  -- a word that no sequence found from b on names is that of all commits
  pub rest : (w : ℕ) → w < z.words → NoneFrom w b (complete_of z c z.lanes) → get_or c (1 + w) 0 ≡ get_or (replay z.words None cs start) w 0

module _ (z : Sizes) (c start : List ℕ) (cs : List Commit) (b : ℕ) (k : CutAt z c start cs b) where
  word : (w : ℕ) → w < z.words → firsts_of (undone z c) w (get_or c (1 + w) 0) ≡ get_or (replay z.words (Some b) cs start) w 0
  unfolding value_below
  word w h =
      final z.words w b start cs k.order (complete_of z c z.lanes) (get_or c (1 + w) 0) (undone-at z c b k.bound) (k.olds w h) (k.found w h) (k.rest w h)

  -- the words that a finished recovery leaves
  pub recovered-data : data_of z (recovered_image z c) ≡ replay z.words (Some b) cs start
  recovered-data = recovered-words z c k.size (replay z.words (Some b) cs start) (length-replay z.words (Some b) cs start ∙ k.words) word

-- ---- with a boundary or without
pub data Shows (z : Sizes) (c start : List ℕ) (cs : List Commit) : Type 0 where
  plain : former_length z ≤ length c → boundary z c ≡ None → data_of z c ≡ replay z.words None cs start → Shows z c start cs
  cut : (b : ℕ) → CutAt z c start cs b → Shows z c start cs

pub recovered-right : (z : Sizes) (c start : List ℕ) (cs : List Commit) → Shows z c start cs
    → data_of z (recovered_image z c) ≡ replay z.words (boundary z c) cs start
recovered-right z c start cs (plain s e d) = rw e (recovered-none z c s e ∙ d)
recovered-right z c start cs (cut b k) = rw k.bound (recovered-data z c start cs b k)

-- ---- the fields `found` and `rest` from what backs a commit, and a word
module _ (W b : ℕ) (qs : List Complete) where
  -- a sequence among qs, from b on and not above a commit, names word w
  pub record Backing (c : Commit) (w : ℕ) : Type 0 where
    pub by : Complete
    pub among : In by qs
    pub from : b ≤ by.stamp
    pub upto : by.stamp ≤ c.stamp
    pub named : writes by.entries w ≡ true

  -- each word that a commit from b on writes, run on the words ws, has one
  pub data Backed : List ℕ → List Commit → Type 0 where
    finish : {ws : List ℕ} → Backed ws []
    back : {ws : List ℕ} {c : Commit} {cs : List Commit} → (b ≤ c.stamp → (w : ℕ) → w < W → txn_writes W w c.txn ws ≡ true → Backing c w)
        → Backed (after W c.txn ws) cs → Backed ws (c ∷ cs)

  pub untouched : (w s : ℕ) {ws : List ℕ} {cs : List Commit} → w < W → Backed ws cs → NoneBetween w b s qs → Untouched W w b s ws cs
  untouched w s h finish n = stop
  untouched w s h (back {ws = ws} {c = c} f r) n =
      pass (λ l m. split (txn_writes W w c.txn ws)
      (λ e. let k = f l w h e in clash (writes k.by.entries w) k.named (n k.by k.among k.from (omega (arith, k.upto))))
      (λ e. e))
      (untouched w s h r n)

-- a cell that is the word of all commits; or a sequence that is found from b on names it
pub data Word (z : Sizes) (c start : List ℕ) (cs : List Commit) (b w : ℕ) : Type 0 where
  same : get_or c (1 + w) 0 ≡ get_or (replay z.words None cs start) w 0 → Word z c start cs b w
  named : (q : Complete) → In q (complete_of z c z.lanes) → b ≤ q.stamp → writes q.entries w ≡ true → Word z c start cs b w

pub word-rest : (z : Sizes) (c start : List ℕ) (cs : List Commit) (b w : ℕ) → Word z c start cs b w → NoneFrom w b (complete_of z c z.lanes)
    → get_or c (1 + w) 0 ≡ get_or (replay z.words None cs start) w 0
word-rest z c start cs b w (same e) n = e
word-rest z c start cs b w (named q i l t) n = clash (writes q.entries w) t (n q i l)

-- so, in these terms
pub cut_at : (z : Sizes) (c start : List ℕ) (cs : List Commit) (b : ℕ) → former_length z ≤ length c → length start ≡ z.words → boundary z c ≡ Some b → Rising cs
    → ((w : ℕ) → w < z.words → (q : Complete) → In q (complete_of z c z.lanes) → b ≤ q.stamp
    → OldIn w (value_below z.words w start cs) (complete_of z c z.lanes) q)
    → Backed z.words b (complete_of z c z.lanes) start cs
    → ((w : ℕ) → w < z.words → Word z c start cs b w)
    → CutAt z c start cs b
cut_at z c start cs b size words bound order olds backed each =
    record {
      size = size;
      words = words;
      bound = bound;
      order = order;
      olds = olds;
      found = λ w h s l n. untouched z.words b (complete_of z c z.lanes) w s h backed n;
      rest = λ w h n. word-rest z c start cs b w (each w h) n;
    }
