-- `lock::part_writes` meets its contract: the words handed on are the data words. Assumes nothing.
use Rattle.std.proofs.Common.{sym, ap, ◌∙◌, length, arith, rules}
use Rattle.store.specs.inner.CachedWritesLaws.{data-part}
use Rattle.lock.specs.inner.PartsLaws.{length_pairs}
use Rattle.lock.proofs.LockLaws.{part-makeable, part-made}
use Rattle.lock.proofs.part_writes.Goals as goal

pub overflow_add-end : goal.overflow_add-end
overflow_add-end c = omega (arith, (data-part _ _ c.requires.image).most)

pub part_of-part-requires : goal.part_of-part-requires
part_of-part-requires c =
    let p = part-makeable _ _ _ c.requires.pairs_held _ c.part_length-count.ensures _ (data-part _ _ c.requires.image).in-data in
    record { count_bound = p.0; count_le_max_writes = p.1.0 }

pub slice_bounds-part-end : goal.slice_bounds-part-end
slice_bounds-part-end c =
    let p = part-makeable _ _ _ c.requires.pairs_held _ c.part_length-count.ensures _ (data-part _ _ c.requires.image).in-data in
    let few = p.1.0 in
    search rules

pub slice_bounds-writes_of-end : goal.slice_bounds-writes_of-end
slice_bounds-writes_of-end c = sym (ap length c.part_of-part.ensures ∙ length_pairs _ _ _)

pub slice_bounds-writes_of-end-2 : goal.slice_bounds-writes_of-end-2
slice_bounds-writes_of-end-2 c = (data-part _ _ c.requires.image).inside

pub writes_of-requires : goal.writes_of-requires
writes_of-requires c =
    let p = part-makeable _ _ _ c.requires.pairs_held _ c.part_length-count.ensures _ (data-part _ _ c.requires.image).in-data in
    record {
      part_len = rw (c.part_of-part.ensures, length_pairs c.args.pairs.now c.args.held.written c.part_length-count.result) p.1.0;
      part_value = rw c.part_of-part.ensures p.1.1;
    }

pub returns : goal.returns
returns c =
    part-made _ _ _ _ _ _ c.part_length-count.ensures (data-part _ _ c.requires.image).is-data (rw c.part_of-part.ensures at c.writes_of.ensures)
