-- One name that opens every definition, for worked values that the checker computes. Assumes nothing.
use Prim.Native.Nat.{ℕ}
use Rattle.slot.specs.Slot as slots
use Rattle.txn.specs.Txn as txns
use Rattle.image.specs.Image as images
use Rattle.image.specs.Flush as flushes
use Rattle.image.specs.Stores as stores
use Rattle.lane_log.specs.Log as logs
use Rattle.lane_log.specs.Append as appends
use Rattle.record.specs.Record as records
use Rattle.store.specs.Machine as machines
use Rattle.store.specs.Calls as calls
use Rattle.store.specs.Locks as locks
use Rattle.recovery.specs.Recovery as recoveries
use Rattle.crash.specs.Events as events
use Rattle.crash.specs.History as histories
use Rattle.crash.specs.Theorem as theorems
use Rattle.crash.specs.Corollaries as corollaries

unfoldable pub everything : ℕ
unfolding slots.entry_of slots.stamp_of slots.entry_shape slots.stamp_shape slots.whole_of slots.read_of
    txns.instruction_at txns.instructions_from txns.instructions txns.set_ok txns.copy_ok txns.add_ok txns.poke_ok txns.skip_ok txns.instruction_ok
    txns.instruction_by txns.all_by txns.txn_by txns.target txns.result txns.emit txns.passed txns.applied txns.run_from txns.run txns.after
    images.sizes_ok images.former_length images.trailer images.image_length images.all_are images.format_ok images.former_ok images.buffers_ok images.sizes_at_end
    images.trailer_ok images.base_of images.data_of images.log_start images.log_of
    flushes.flushed flushes.flush flushes.unflush flushes.flush_all flushes.written_back flushes.drained_nvm flushes.drained_flags
    stores.stored stores.places
    logs.slot_at logs.back logs.back_wrap logs.entry_in logs.entries_back logs.closes logs.complete_below logs.complete_in logs.top_wrap
    logs.after_wrap logs.greater_or logs.undone_before logs.insert logs.ordered logs.sequence_of logs.first_of logs.latest
    logs.latest_in logs.given logs.contribution logs.ahead logs.overlaps logs.hits_from logs.hits
    appends.onward appends.advance appends.slot_stores appends.append_from appends.append_stores appends.circular appends.restamp_store
    records.start_lane records.start_record records.lane_at records.cursor_of records.is_logged records.logged_in records.pair_at
    records.pairs_from records.is_held records.locked_in records.part_length records.stamp_ok records.floor_ok records.pairs_ok
    records.phase_ok records.lane_ok records.lanes_ok records.lag_ok records.held_ok records.lock_ok records.record_ok records.spent records.lesser
    records.least_floor records.bound_of records.lag_passed records.floor_after_drain records.floor_after_append records.with_lane records.with_clock records.with_last
    records.with_lock records.drained_lane records.appended_lane records.idle_lane records.pairs_of records.words_of_pairs
    machines.first_cause machines.unless machines.said
    calls.bad_buffers calls.bad_record calls.bad_lane calls.bad_txn calls.already_logged calls.not_logged calls.lock_held calls.clock_spent calls.bad_lag
    calls.drained calls.changed calls.would_hit calls.would_lag
    calls.start_image calls.started calls.format_refusal calls.format_step calls.write_back_refusal calls.write_back_step calls.drain_refusal calls.drain_step
    calls.writes_on calls.log_txn_refusal_by calls.appended calls.logged calls.log_txn_step_by calls.settle_refusal calls.settle_step calls.log_refusal_by
    calls.log_step_by calls.pair_stores calls.commit_stores calls.committed calls.redo_refusal
    calls.is_stale calls.redo_pairs calls.redo_step calls.validate_refusal_by calls.entry_matches calls.entries_match calls.matches calls.released
    calls.validate_step_by calls.mark_refusal calls.mark_step
    locks.slots_counted locks.lock_refusal locks.locked locks.lock_step locks.proceed_refusal locks.part_of locks.pair_writes locks.part_logged
    locks.part_written_state locks.part_written locks.next_step locks.proceed_step
    recoveries.boundary_below recoveries.boundary recoveries.complete_of recoveries.at_or_above recoveries.undone_from recoveries.undone
    recoveries.undo_entries recoveries.undo_sequences recoveries.undo_stores
    recoveries.whole_stamp recoveries.greatest_below recoveries.greatest_of recoveries.new_base recoveries.one_if_torn recoveries.torn_below recoveries.torn_of
    recoveries.torn_in recoveries.zeros recoveries.recovery_stores recoveries.recovered_nvm recoveries.all_made recoveries.recovered_by
    recoveries.odd_base recoveries.recover_refusal recoveries.recover_step recoveries.recover_read_refusal recoveries.recover_read_step recoveries.told
    events.nvm_of events.lane_of events.call_step events.vandzulge events.is_taken events.is_former events.recovery_of events.cut_short_of events.fitted events.fit
    events.partly_drained events.bare events.found_or events.after_step events.after_format events.recovered_system events.after_recovery
    events.after_failure events.not_offered events.happens
    histories.page_at histories.opened histories.is_below histories.replay histories.words_below histories.floor_or histories.floor_on_drain histories.after_drain
    histories.stamped histories.released histories.lock_taken histories.part_logged histories.left_after histories.part_written histories.next_part histories.is_some
    histories.held_by histories.is_counted histories.taken histories.restarted histories.after_call
    histories.after_recovered histories.fed_answer histories.fed_recovery histories.fed_failure histories.fed histories.least_floor_of histories.present
    histories.written histories.visible histories.writes_now histories.newest_stamp histories.writes_logged histories.same_olds
    histories.is_above histories.commit_above histories.holds_one histories.not_held histories.lock_held
    histories.held_elsewhere histories.clock_spent histories.would_lag histories.causes_by histories.slots_by histories.progress histories.taken_answer
    theorems.lock_state theorems.holder_state theorems.end_of theorems.is_full theorems.refusal_by theorems.answer_by theorems.recovery_answer theorems.may_store
    corollaries.next_world corollaries.world_after corollaries.is_format corollaries.starts_anew corollaries.goes_on corollaries.next_commit corollaries.is_done
    corollaries.is_drain corollaries.is_idle corollaries.stays_idle corollaries.others_floor corollaries.is_mark corollaries.stamps_in corollaries.cut_cells
    corollaries.is_bound corollaries.is_lock corollaries.are_below corollaries.has_drained corollaries.drains_lane corollaries.gets_drained
everything = 0
