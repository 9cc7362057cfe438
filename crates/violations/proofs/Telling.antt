-- Every definition of the stories, the premises and the tests, opened at once: a proof by computation says 'unfolding telling'.
-- Assumes nothing.
use Rattle.laws.specs.Lists.{select_from, sort_by, largest, same_list}
use Rattle.model.specs.Codec.{read_questions, no_timestamp, read, write_frame_questions, write_frame}
use Rattle.model.specs.Published.{known, beyond, initial, event_c, event_kn, counted, next_event, rank, less, deliverable, deliverable_by, in_order, same_message, new_ones, event_of, buffered, delivered_at, advanced, message_of, started}
use Rattle.model.specs.Ledger.{press_payload}
use Rattle.model.specs.Run.{lengthened, input_of, listening_of, listened_output, is_accepted, moved_clock, node_after, output_of, done_of, act, at_start, run_from, is_event, sends, message_bytes, schedule_of, message_frame}
use Rattle.model.proofs.ComputingWider.{computing_wider}
use Rattle.theory.specs.Premises.{same_setup, together, distinct, valid_for, exact_holdback, good_start, largest_clock, stale_until, entries_allowed, one_setup, true_clock, step_allowed, hears_allowed, plain_call, accepted_well, allowed, keeps, same_timestamp, is_fresh, all_fresh, is_sent, none_stale, steps_of_one}
use Rattle.theory.specs.Demand2.{heard_before, observed_before, are_bytes, has_width, messages_heard, verdicts_on, outcome_of, publish, publish_all, published_start, reduced, reduced_frame}
use Rattle.theory.specs.Demand3.{covered_from, covered, is_from, heard_in, due_clock, due_in, message_key, earlier, due_here, covered_frame, new_timestamp, written}
use Rattle.theory.specs.Charges.{shown_in, shown_on, heard_and_due}
use Rattle.theory.specs.Changeover.{good_changeover, wider_for, same_wider, well_before, not_too_soon, not_too_late, well_past, frozen_until, drift_of, entries_through, setup_through, accepted_through, allowed_through, phases_after, keeps_through, exact_holdbacks, starts_through, fresh_through}
use Rattle.theory.specs.WiderAny.{numbers_in, marked_later, heard_before_in, observed_before_in, fits_in}
use Rattle.theory.specs.Through.{due_clock_along, due_in_along, message_key_along, earlier_along, due_here_along, covered_along, covered_through}
use Rattle.violations.specs.Tests.{every_from, any_from, same_each, sending_test, hearing_test, delivering_test, causes_right, causality_test, sending_along, hearing_along, delivering_along, causality_along, same_heard_test, shown_test, verdict_test, taken_test, delivered_test, delivery_test, sent_test, outgoing_test, bounded_test, bounded_queue_test, never_full_test, repair_test, any_state_test, observed_test, observer_taken_test, observer_delivered_test, observer_delivery_test, observer_repair_test, last_test, last_bounded_test, observer_queue_test, observer_never_full_test, any_observer_test, same_tables, same_repair, same_taken, same_verdicts, same_holdback, same_outgoing, same_sent, same_delivery, same_delivered, same_all, fresh_test}
use Rattle.violations.specs.Stories.{calls_from, inputs_from, listenings_from}
use Rattle.violations.specs.Through.{calls_through}

unfoldable pub telling : Unit {0}
unfolding select_from sort_by largest same_list read_questions no_timestamp read write_frame_questions write_frame known beyond initial event_c event_kn counted next_event rank less deliverable deliverable_by in_order same_message new_ones event_of buffered delivered_at advanced message_of started lengthened input_of listening_of listened_output is_accepted moved_clock node_after output_of done_of act at_start run_from is_event sends message_bytes schedule_of message_frame same_setup together distinct valid_for exact_holdback good_start largest_clock stale_until entries_allowed one_setup true_clock step_allowed hears_allowed plain_call accepted_well allowed keeps same_timestamp is_fresh all_fresh is_sent none_stale steps_of_one heard_before observed_before are_bytes messages_heard verdicts_on outcome_of publish publish_all published_start reduced reduced_frame covered_from covered is_from heard_in due_clock due_in message_key earlier due_here covered_frame new_timestamp written every_from any_from same_each sending_test hearing_test delivering_test causes_right causality_test verdict_test taken_test delivered_test delivery_test sent_test outgoing_test bounded_test bounded_queue_test never_full_test repair_test any_state_test observed_test observer_taken_test observer_delivered_test observer_delivery_test observer_repair_test last_test last_bounded_test observer_queue_test observer_never_full_test any_observer_test same_tables same_repair same_taken same_verdicts same_holdback same_outgoing same_sent same_delivery same_delivered same_all fresh_test calls_from inputs_from listenings_from good_changeover wider_for same_wider well_before not_too_soon not_too_late well_past frozen_until drift_of entries_through setup_through accepted_through allowed_through phases_after keeps_through exact_holdbacks starts_through fresh_through due_clock_along due_in_along message_key_along earlier_along due_here_along covered_along covered_through sending_along hearing_along delivering_along causality_along calls_through numbers_in marked_later heard_before_in observed_before_in fits_in has_width shown_in shown_on heard_and_due same_heard_test shown_test press_payload computing_wider
telling = tt
