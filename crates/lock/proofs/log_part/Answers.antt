-- `lock::log_part` meets its contract: the part's writes are appended, and the record is the one after it. Assumes nothing.
use Rattle.std.proofs.Common.{rules, ◌∙◌}
use Rattle.lock.proofs.LockLaws.{part-long, part_small, part-lanes, part-readable, part-appendable, part_room, writes-tail, part-logs}
use Rattle.store.specs.Interface.{answer_of}
use Rattle.codec.proofs.Arrays.{chunk_read, chunk_lent, last_read}
use Rattle.lock.proofs.log_part.Goals as goal

pub unwrap-requires : goal.unwrap-requires
unwrap-requires c = search (rules, part-long _ c.args.state.now _ _ _ _ c.requires.part_at)

pub unwrap-requires-2 : goal.unwrap-requires-2
unwrap-requires-2 c = search (rules, part-long _ c.args.state.now _ _ _ _ c.requires.part_at)

pub part_writes-writes-requires : goal.part_writes-writes-requires
part_writes-writes-requires c =
    let p = part-readable _ _ _ _ _ _ c.requires.part_at _ (last_read _ _ _ _ _ (part-long _ c.args.state.now _ _ _ _ c.requires.part_at) c.unwrap.ensures c.last_chunk.ensures.cases) in
    record { image = p.0; pairs_held = p.1.1 }

pub cursor-cursor-requires : goal.cursor-cursor-requires
cursor-cursor-requires c =
    part_small _ _ _ _ _ _ c.requires.part_at

pub append-end-requires : goal.append-end-requires
append-end-requires c =
    let t = (last_read _ _ _ _ _ (part-long _ c.args.state.now _ _ _ _ c.requires.part_at) c.unwrap.ensures c.last_chunk.ensures.cases) in
    part-appendable _ _ _ _ _ _ _ _ c.requires.part_at (rw (chunk_read _ _ _ _ c.unwrap-2.ensures c.first_chunk.ensures.cases) at c.cursor-cursor.ensures) (c.as_slice.ensures.value ∙ writes-tail _ _ _ _ _ t c.part_writes-writes.ensures) (search rules)

pub put_logged-requires : goal.put_logged-requires
put_logged-requires c =
    let p = c.requires.part_at in
    record { lane_lt_max_lanes = part_small _ _ _ _ _ _ p; held_bound = part_room _ _ _ _ _ _ p c.requires.logged_value }

pub returns : goal.returns
unfolding answer_of
returns c =
    let p = c.requires.part_at in
    let t = (last_read _ _ _ _ _ (part-long _ c.args.state.now _ _ _ _ c.requires.part_at) c.unwrap.ensures c.last_chunk.ensures.cases) in
    λ nvm. part-logs _ _ _ _ _ nvm _ _ p.found _ _ _ _ _ _ _ (part-lanes _ _ _ _ _ _ p) (c.as_slice.ensures.value ∙ writes-tail _ _ _ _ _ t c.part_writes-writes.ensures)
    (rw (chunk_read _ _ _ _ c.unwrap-2.ensures c.first_chunk.ensures.cases) at c.cursor-cursor.ensures) c.append-end.ensures.after c.append-end.ensures.written c.append-end.ensures.flushed
    (rw (chunk_lent _ _ _ _ c.unwrap-3.ensures c.first_chunk_mut.ensures.cases) at c.put_logged.ensures)
