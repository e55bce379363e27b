-- `commit::commit` meets its contract: the pairs' stores and then the timestamp's are `commit_words`, since no pair reaches a log word.
use Rattle.std.proofs.Common.{arith}
use Rattle.image.specs.inner.ImageLaws.{sizes-in}
use Rattle.store.specs.inner.StoreLaws.{lane-small}
use Rattle.commit.specs.inner.CommitLaws.{pair_inside, restamp-inside, commit-written, commit-flushed}
use Rattle.commit.proofs.commit.Goals as goal

pub overflow_add-held : goal.overflow_add-held
overflow_add-held c = let k = c.requires.restampable in omega (arith, k.first, k.most, (sizes-in _ k.image.sizes-ok).slots-high)

pub write_pairs-requires : goal.write_pairs-requires
write_pairs-requires c =
    let k = c.requires.restampable in
    record {
      lane_lt_max_lanes = lane-small _ _ k.image.sizes-ok k.lane_below;
      flags_len = k.same_flags;
      pairs_inside = λ i h. pair_inside c.args.sizes c.args.pairs.now _ c.requires.pairs_value k.image.in_image i h;
    }

pub restamp-requires : goal.restamp-requires
restamp-requires c =
    let k = c.requires.restampable in
    let h = restamp-inside _ _ _ _ _ _ _ _ k c.log_start-start.ensures c.circular-slot.ensures _ _ _ c.write_pairs.ensures.written c.write_pairs.ensures.flushed in
    record { j_in_bounds = h.0; j_in_bounds_2 = h.1; lane_lt_max_lanes = lane-small _ _ k.image.sizes-ok k.lane_below; stamp_bound = k.room }

pub returns : goal.returns
returns c =
    let h = c.requires.pairs_value in
    record {
      written = commit-written _ _ _ _ _ _ _ _ _ h c.log_start-start.ensures c.circular-slot.ensures c.write_pairs.ensures.written _ c.restamp.ensures.written;
      flushed = commit-flushed _ _ _ _ _ _ _ _ _ h c.log_start-start.ensures c.circular-slot.ensures c.write_pairs.ensures.written _ _ _ c.write_pairs.ensures.flushed
          c.restamp.ensures.flushed;
    }
