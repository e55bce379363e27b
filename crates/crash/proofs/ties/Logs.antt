-- What the ties say of the cached logs: a lane's latest sequence has its page's newest timestamp, and a lane that holds a transaction has its entries
-- in its log. Assumes nothing.
use mathlib.Core.Path.{◌∙◌, sym}
use Prim.Native.Nat.{ℕ}
use Rattle.image.specs.declared.Sizes.{Sizes}
use Rattle.store.specs.Machine.{Machine}
use Rattle.crash.specs.History.{History, writes_logged}
use Rattle.crash.proofs.history.Agree.{Book, Logs}
use Rattle.crash.proofs.lane.Log.{lane-latest}
use Rattle.crash.proofs.lane.Reads.{lane-held, lane-entries}
use Rattle.crash.proofs.ties.Ties.{Ties}

pub ties-logs : (z : Sizes) (base : ℕ) (m : Machine) (h : History) → Book z base h m → Ties z base m h → Logs z h m
ties-logs z base m h b t =
    record {
      newest = λ L i. lane-latest z L m (t.ts L) t.running.shape (t.running.lanes L i) ∙ sym (t.newest L i);
      entries = λ L x i e.
          let l = t.running.lanes L i in
          let g = lane-held z L m (t.ts L) t.running.shape l x e in
          lane-entries z L m (t.ts L) t.running.shape l x g (writes_logged z L h) (t.entries L i x e g.seq g.rest g.newest);
    }
