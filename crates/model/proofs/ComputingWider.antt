-- The definitions of 02, 2.10, opened at once beside those that a tick has: 'unfolding computing_wider'.
-- Assumes nothing.
use Rattle.model.proofs.Computing.{computing}
use Rattle.model.specs.Codec.{no_timestamp}
use Rattle.model.specs.Schedule.{both_in_limits, ask_both, ask_wider, change_ahead, change_behind, change_near, same_pairs, along, old_due}
use Rattle.model.specs.Wider.{wider_formed, wider_decode, wider_end, sound_within, wider_frame_questions, counts_down_by, wider_key, wider_key_near, wider_before, wider_due, wider_held_bytes, wider_held, wider_passes, wider_not_expired, wider_sound_holdback, wider_opening_queue, wider_due_before, wider_due_now, not_late_along, wider_ask_counts, wider_place_questions, wider_observer_place_questions, wider_questions, wider_observer_questions, wider_place, wider_judge, wider_hear_one, wider_hear, absorb_wide, wider_absorb_all, wider_tables_sound, wider_least, wider_holdback_sound, wider_repair, step_into, wider_opening_stamp, wider_opened, wider_heard, wider_heard_stamp, wider_new_stamp, wider_sent, wider_delivered_of, wider_kept_of, wider_acceptance, sized_questions, wider_call_questions, tick_in}
use Rattle.model.specs.WiderCalls.{listen_in_questions, wider_last_sound, wider_observer_least, wider_observer_repair, wider_observer_opened, wider_observer_heard, wider_observer_delivered, wider_observer_kept, wider_listened, listen_in, poll_in_questions, wider_polled_queue, wider_soonest_due, wider_next_due, wider_due_within, wider_number_within, poll_in, compare_in_questions, wider_compared, compare_in, read_in_questions, read_in, write_in_questions, write_in, fresh_in_questions, fresh_in}

unfoldable pub computing_wider : Unit {0}
unfolding computing no_timestamp both_in_limits ask_both ask_wider change_ahead change_behind change_near same_pairs along old_due wider_formed wider_decode wider_end sound_within wider_frame_questions counts_down_by wider_key wider_key_near wider_before wider_due wider_held_bytes wider_held wider_passes wider_not_expired wider_sound_holdback wider_opening_queue wider_due_before wider_due_now not_late_along wider_ask_counts wider_place_questions wider_observer_place_questions wider_questions wider_observer_questions wider_place wider_judge wider_hear_one wider_hear absorb_wide wider_absorb_all wider_tables_sound wider_least wider_holdback_sound wider_repair step_into wider_opening_stamp wider_opened wider_heard wider_heard_stamp wider_new_stamp wider_sent wider_delivered_of wider_kept_of wider_acceptance sized_questions wider_call_questions tick_in listen_in_questions wider_last_sound wider_observer_least wider_observer_repair wider_observer_opened wider_observer_heard wider_observer_delivered wider_observer_kept wider_listened listen_in poll_in_questions wider_polled_queue wider_soonest_due wider_next_due wider_due_within wider_number_within poll_in compare_in_questions wider_compared compare_in read_in_questions read_in write_in_questions write_in fresh_in_questions fresh_in
computing_wider = tt
