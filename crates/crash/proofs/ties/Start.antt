-- The ties at a start, whose logs are 0s, and under write-backs, which change non-volatile memory alone. Assumes nothing.
use Rattle.std.specs.Prelude.{Some}
use mathlib.Core.Path.{◌≡◌, refl, ap, ◌∙◌}
use mathlib.Core.Logic.{inl}
use mathlib.Core.Bool.{true, false}
use mathlib.Core.List.{List, [], ◌∷◌}
use Prim.Native.Nat.{ℕ, ◌+◌, ◌*◌, ◌%◌, ◌≤◌, ◌<◌}
use native.Mathlib.Omega.{arith}
use lib.ListN.{length, get_or, replicate, get_or-replicate}
use Rattle.laws.specs.inner.Tests.{clash}
use Rattle.laws.specs.inner.Lists.{none as nil}
use Rattle.image.specs.Image.{sizes_ok, former_length, base_of, data_of, log_of}
use Rattle.image.specs.inner.ImageLaws.{sizes-in}
use Rattle.image.specs.Flush.{flushed, written_back}
use Rattle.image.specs.inner.FlushLaws.{flushed-zero}
use Rattle.image.specs.declared.Sizes.{Sizes}
use Rattle.record.specs.Record.{start_record}
use Rattle.record.specs.declared.Locked.{Locked}
use Rattle.store.specs.Machine.{Machine}
use Rattle.store.specs.Calls.{started}
use Rattle.crash.specs.History.{Commit, Page, History, blank_page, page_at, opened}
use Rattle.laws.specs.inner.Members.{In}
use Rattle.crash.specs.Theorem.{end_of}
use Rattle.crash.proofs.history.Agree.{Book}
use Rattle.crash.proofs.lane.Ends.{Form}
use Rattle.crash.proofs.lane.Seqs.{Seq}
use Rattle.crash.proofs.lane.Written.{newest_in}
use Rattle.crash.proofs.lane.Running.{start_track, running-start, running-written_back}
use Rattle.crash.proofs.ties.Ties.{Ties}
use Rattle.crash.proofs.ties.Laws.{word_in, cells-written_back}

-- ---- a start
module _ (z : Sizes) (ok : sizes_ok z ≡ true) (lag base : ℕ) (image words : List ℕ)
    (even : base % 2 ≡ 0) (long : former_length z ≤ length image) (form : Form z (end_of z image)) (at : base_of image ≡ base)
    (same : data_of z image ≡ words) (blank : (L : ℕ) → L < z.lanes → log_of z L image ≡ replicate (2 * z.slots) 0) where
  page-start : (L : ℕ) → L < z.lanes → (page_at (opened z lag words base) L).newest ≡ newest_in []
  unfolding page_at opened newest_in
  page-start L i = ap (λ (p : Page). p.newest) (get_or-replicate z.lanes L blank_page blank_page i)

  unflushed : (L w : ℕ) → w < z.words → flushed L (get_or (started lag base image).flags (1 + w) 0) ≡ false
  unfolding started
  unflushed L w i = ap (flushed L) (get_or-replicate (length image) (1 + w) 0 0 (word_in z w (length image) i long)) ∙ flushed-zero L

  none_in : {A : Type 0} {c : Commit} → In c [] → A
  none_in i = elim i [ ]

  no_more : {A : Type 0} {g : Seq} {gs : List Seq} → ◌≡◌ {A = List Seq} [] (g ∷ gs) → A
  no_more e = absurd (omega (arith, ap length e))

  no-lock : {A : Type 0} (k : Locked) → (started lag base image).state.lock ≡ Some k → A
  unfolding started start_record
  no-lock k e = absurd (let z : ◌≡◌ {A = ℕ} 0 1 = cc in omega arith)

  pub ties-starts : Ties z base (started lag base image) (opened z lag words base)
  unfolding started opened
  ties-starts =
      record {
        ts = start_track z image;
        running = running-start z (sizes-in z ok) lag base image even long form at blank;
        at_base = at;
        newest = page-start;
        entries = λ L i x e g gs q. no_more q;
        now = λ L i. nil;
        before = λ L i. nil;
        open' = λ L i g q. no_more q;
        cells = λ w i. inl refl;
        flags = λ L i w j e. clash _ e (unflushed L w j);
        backed = λ c i. none_in i;
        to_come = λ L. 0;
        room = λ L i b e g j l. elim j [ ];
        lock = λ k e f q. no-lock k e;
      }

-- ---- a write-back
pub ties-writes : (z : Sizes) (base : ℕ) (m : Machine) (h : History) (i : ℕ) → Book z base h m → Ties z base m h
    → Ties z base (record { state = m.state; pairs = m.pairs; cache = m.cache; nvm = written_back i m.cache m.nvm; flags = m.flags }) h
ties-writes z base m h i b t =
    record {
      ts = t.ts;
      running = running-written_back z m t.ts t.running i;
      at_base = t.at_base;
      newest = t.newest;
      entries = t.entries;
      now = t.now;
      before = t.before;
      open' = t.open';
      cells = cells-written_back z m t.running.shape t.cells i;
      flags = t.flags;
      backed = t.backed;
      to_come = t.to_come;
      room = t.room;
      lock = t.lock;
    }
