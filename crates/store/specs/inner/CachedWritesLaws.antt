-- Inner: how the code goes, need not be believed. Laws of a transaction's writes on the cached data words: the part of the image that its run reads, and
-- the writes of a run. Assumes nothing.
use Rattle.std.specs.Prelude.{ℕ, ◌+◌, ◌-◌, ◌≤◌, ◌≡◌, true, List, drop}
use Rattle.std.proofs.Common.{◌∙◌, arith}
use Rattle.std.proofs.Math.Path.{ap}
use Rattle.std.proofs.Math.Nat.{add-sub_cancel_left}
use Rattle.std.proofs.Math.ListN.{length, take}
use Rattle.txn.specs.Txn.{current, txn_ok, run}
use Rattle.txn.specs.inner.TxnLaws.{few-writes, run-low}
use Rattle.txn.specs.declared.Write.{Write}
use Rattle.image.specs.Image.{max_words, former_length, data_of}
use Rattle.image.specs.inner.Facts.{IsImage}
use Rattle.image.specs.inner.ImageLaws.{sizes-in, length-data}
use Rattle.image.specs.declared.Sizes.{Sizes}
use Rattle.lane_log.specs.inner.AppendEntries.{WordsBelow}
use Rattle.record.specs.declared.Record.{Record}
use Rattle.store.specs.Calls.{writes_on}
use Rattle.store.specs.Interface.{machine_of}

-- ---- the data words, the part of the cached image that a run reads
pub record DataPart (z : Sizes) (cache : List ℕ) : Type 0 where
  pub most : z.words ≤ max_words
  pub inside : 1 + z.words ≤ length cache
  pub is-data : take (1 + z.words - 1) (drop 1 cache) ≡ data_of z cache
  pub in-data : length (take (1 + z.words - 1) (drop 1 cache)) ≡ z.words

part-data : (z : Sizes) (cache : List ℕ) → take (1 + z.words - 1) (drop 1 cache) ≡ data_of z cache
unfolding data_of
part-data z cache = rw (add-sub_cancel_left 1 z.words)

pub data-part : (z : Sizes) (cache : List ℕ) → IsImage z cache → DataPart z cache
unfolding former_length
data-part z cache i =
    record {
      most = (sizes-in z i.sizes-ok).words-high;
      inside = omega (arith, i.in_image);
      is-data = part-data z cache;
      in-data = ap length (part-data z cache) ∙ length-data z cache i.in_image;
    }

-- ---- the writes of a run
module _ (most W : ℕ) (t memory : List ℕ) (w : List Write) (e : w ≡ run W t memory) (ok : txn_ok most W t ≡ true) where
  pub writes-few : length w ≤ most
  writes-few = rw e (few-writes current most W t memory ok)

  pub writes-low : WordsBelow W w
  writes-low = rw e (run-low current most W t memory ok)

-- on a machine's data words they are what the calls' refusals and steps speak of
pub run_on : (z : Sizes) (t : List ℕ) (w : List Write) (state : Record) (pairs cache nvm flags : List ℕ)
    → w ≡ run z.words t (data_of z cache) → w ≡ writes_on z t (machine_of state pairs cache nvm flags)
unfolding writes_on
run_on z t w state pairs cache nvm flags e = e
