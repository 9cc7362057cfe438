-- Every definition of the model, opened at once: a proof by computation says 'unfolding computing'.
-- Assumes nothing.
use mathlib.Core.Option.{Option-elim}
use Rattle.laws.specs.Lists.{within, tab, every, any, select, leading, insert_at, chained, apart, overlay, joined, smallest, placed_at, padded, fold_left}
use Rattle.laws.specs.Lex.{lex_compare, first_difference}
use Rattle.model.specs.Setup.{least_modulus, in_limits, is_member, width, longest_frame, depth, holdback_length}
use Rattle.model.specs.Timestamp.{count_at, counts_from, sum, at_most, sound_timestamp, ahead, clock_step, sound_tables, trimmed, widened, near, fresh, replaced, shift, step, absorb, count_own}
use Rattle.model.specs.Frame.{two_bytes, two_at, section, encode, counts_of, payload_count_at, frame_end, well_formed, decode}
use Rattle.model.specs.Order.{reading_of, counts_down, key_by, key, key_near, compare_frames, before, decided_at, due, due_near, reading_clock}
use Rattle.model.specs.Comparison.{reason_at, compare_keys, count_clock, compared, compare_questions, compare_call}
use Rattle.model.specs.Batch.{ends_after, exact_batch, entries_of, batch_entries}
use Rattle.model.specs.Question.{first_no, ask_setup, ask_form, ask_range, ask_stamp, frame_questions}
use Rattle.model.specs.Holdback.{cut_frames, cut_by, held_bytes, held, same_origin, passes, not_early, not_expired, sound_holdback, encode_frames, encode_holdback}
use Rattle.model.specs.Codec.{ask_payload, frame_of}
use Rattle.model.specs.Judge.{ask_late, ask_early, ask_counts, ask_repeat, place_questions, judge_questions, observer_place_questions, observer_questions, place_for, judge, hear_one, hear, absorb_all, absorb_each}
use Rattle.model.specs.Tick.{roomy, call_questions, refusal, tables_sound, step_of, least_due, holdback_sound, repair_of, opening_stamp, opening_queue, opened_queue, due_before, overdue_of, heard_of, heard_stamp, new_stamp, sent_bytes, due_now, delivered_of, kept_of, taken_count, acceptance, tick}
use Rattle.model.specs.Observer.{listen_questions, not_listened, last_sound, observer_least, observer_repair, observer_opened, observer_heard, observer_delivered, observer_kept, listened, listen}
use Rattle.model.specs.Poll.{poll_questions, polled_queue, soonest_due, next_due, due_within, number_within, poll}
use Rattle.model.specs.Long.{long_limits, ask_long_setup, low_first, number_at, long_encode, long_frame_end, long_formed, long_decode, long_frame_questions, longest_long, long_holdback_size, long_not_early, ask_long_early, ask_held, long_place_questions, long_call_questions}

unfoldable pub computing : Unit {0}
unfolding Option-elim within tab every any select leading insert_at chained apart overlay joined smallest placed_at padded lex_compare first_difference least_modulus in_limits is_member width longest_frame depth holdback_length count_at counts_from sum at_most sound_timestamp ahead clock_step sound_tables trimmed widened near fresh replaced shift step absorb count_own two_bytes two_at section encode counts_of payload_count_at frame_end well_formed decode reading_of counts_down key_by key key_near compare_frames before decided_at due due_near reading_clock reason_at compare_keys count_clock compared compare_questions compare_call ends_after exact_batch entries_of batch_entries first_no ask_setup ask_form ask_range ask_stamp frame_questions cut_frames cut_by held_bytes held same_origin passes not_early not_expired sound_holdback encode_frames encode_holdback ask_payload frame_of ask_late ask_early ask_counts ask_repeat place_questions judge_questions observer_place_questions observer_questions place_for judge hear_one hear fold_left absorb_all absorb_each roomy call_questions refusal tables_sound step_of least_due holdback_sound repair_of opening_stamp opening_queue opened_queue due_before overdue_of heard_of heard_stamp new_stamp sent_bytes due_now delivered_of kept_of taken_count acceptance tick listen_questions not_listened last_sound observer_least observer_repair observer_opened observer_heard observer_delivered observer_kept listened listen poll_questions polled_queue soonest_due next_due due_within number_within poll long_limits ask_long_setup low_first number_at long_encode long_frame_end long_formed long_decode long_frame_questions longest_long long_holdback_size long_not_early ask_long_early ask_held long_place_questions long_call_questions
computing = tt
