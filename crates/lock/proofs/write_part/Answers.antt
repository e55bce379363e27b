-- `lock::write_part` meets its contract: the part is copied and written, and the record is the one after it. Assumes nothing.
use Rattle.std.proofs.Common.{sym, ap, ◌∙◌, length, arith, rules}
use Rattle.lock.specs.inner.PartsLaws.{length_pairs}
use Rattle.lock.proofs.LockLaws.{part-long, part_small, part_left, part-copyable, part-writable, part-writes}
use Rattle.store.specs.Interface.{answer_of}
use Rattle.codec.proofs.Arrays.{chunk_lent, last_read}
use Rattle.lock.proofs.write_part.Goals as goal

pub unwrap-requires : goal.unwrap-requires
unwrap-requires c = search (rules, part-long _ c.args.state.now _ _ _ _ c.requires)

pub part_of-part-requires : goal.part_of-part-requires
part_of-part-requires c =
    let p = part-copyable _ _ _ _ _ _ c.requires _ c.part_length-count.ensures _ (last_read _ _ _ _ _ (part-long _ c.args.state.now _ _ _ _ c.requires) c.unwrap.ensures c.last_chunk.ensures.cases) in
    record { count_bound = p.1.0; count_le_max_writes = p.1.1 }

pub write_pairs-requires : goal.write_pairs-requires
write_pairs-requires c =
    let t = (last_read _ _ _ _ _ (part-long _ c.args.state.now _ _ _ _ c.requires) c.unwrap.ensures c.last_chunk.ensures.cases) in
    let p = part-writable _ _ _ _ _ _ c.requires _ c.part_length-count.ensures _ t _ c.part_of-part.ensures in
    record { lane_lt_max_lanes = p.0; flags_len = p.1.0; pairs_inside = p.1.1 }

pub unwrap-words-requires : goal.unwrap-words-requires
unwrap-words-requires c = search (rules, part-long _ c.args.state.now _ _ _ _ c.requires)

pub put_drained-requires : goal.put_drained-requires
put_drained-requires c =
    part_small _ _ _ _ _ _ c.requires

pub overflow_add-result : goal.overflow_add-result
overflow_add-result c =
    omega (arith, part_left _ _ _ _ _ _ c.requires _ c.part_length-count.ensures)

pub overflow_sub-result : goal.overflow_sub-result
overflow_sub-result c =
    omega (arith, part_left _ _ _ _ _ _ c.requires _ c.part_length-count.ensures)

pub returns : goal.returns
unfolding answer_of
returns c =
    let t = (last_read _ _ _ _ _ (part-long _ c.args.state.now _ _ _ _ c.requires) c.unwrap.ensures c.last_chunk.ensures.cases) in
    λ nvm. part-writes _ _ _ _ _ nvm _ _ c.requires.found _ _ _ _ _ _ _ _ c.part_length-count.ensures t
    c.part_of-part.ensures c.write_pairs.ensures.written c.write_pairs.ensures.flushed (rw (chunk_lent _ _ _ _ c.unwrap-words.ensures c.first_chunk_mut.ensures.cases) at c.set_written.ensures) c.put_drained.ensures

pub slice_bounds-part-end : goal.slice_bounds-part-end
slice_bounds-part-end c =
    let p = part-copyable _ _ _ _ _ _ c.requires _ c.part_length-count.ensures _ (last_read _ _ _ _ _ (part-long _ c.args.state.now _ _ _ _ c.requires) c.unwrap.ensures c.last_chunk.ensures.cases) in
    let few = p.1.1 in
    search rules

pub slice_bounds-write_pairs-end : goal.slice_bounds-write_pairs-end
slice_bounds-write_pairs-end c = sym (ap length c.part_of-part.ensures ∙ length_pairs _ _ _)
