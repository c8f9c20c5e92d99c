-- One name for all definitions that a listing computes with: under `unfolding by_computation` the listing of a given trace
-- computes, so that a worked one is proved by `refl`.
use Prim.Native.Nat.{ℕ}
use Rattle.base_hec.specs.Check.{remainder, check_of, head_of, hec_of, syndrome_of}
use Rattle.base_hec.specs.WrongBit.{one_bit, first_with, wrong_bit, flipped}
use Rattle.base_hec.specs.Modes.{checked, arriving, arriving_fits}
use Rattle.meaning.specs.Numbers.{ranges_hold, splits_hold, unused, kind_in_range, slot_numbers, lets_in}
use Rattle.meaning.specs.State.{words_length, lengths_hold, with_record, with_cells, with_links, with_calendar, with_words, with_bits, with_arrived, record_with, with_clock, with_free, with_output_list, record_in_mode, with_mode, write_cell}
use Rattle.meaning.specs.Words.{connection_at, write_connection, opened_connection, closed_connection, open_word_fits, bucket_fits, second_obeys, second_in_range, buckets_fit, connection_fits, fallen_to, up_to_date, debt}
use Rattle.meaning.specs.Bucket.{obeys_rules, obeys_second, is_none, elapsed, fall, is_excess, delay, fill}
use Rattle.meaning.specs.Bits.{is_set, is_free_space, is_marked, ones_below, none_above, spaces_fit, lowest_from, lowest_free, without_bit, with_bit, marked, unmarked, full_from}
use lib.Count.{ones, ones_in, count_trailing_zeros}
use Rattle.meaning.specs.Header.{vpi_high, header_of, header_at, clp_in, with_clp, tagged_cell, no_user_cell, named, number_in, name_in, connection, names_connection, names_open}
use Rattle.meaning.specs.Operators.{owner_of, owns}
use Rattle.meaning.specs.Lists.{ends_fit, entry_at, write_entry, take_head, join_head, join_tail}
use Rattle.meaning.specs.Arrival.{place, verdict_on, second_after, sent_as, accept, judge}
use Rattle.meaning.specs.Slot.{step1, step2, step3, step4, step5, depart, five_steps, finish, slot_at, slot}
use Rattle.meaning.specs.Calls.{zeros, fresh_record, fresh_state, setup, shared_refusal, open_call, close_call}
use Rattle.list_lines.specs.Text.{decimal, decimal_of, line, shown}
use Rattle.list_lines.specs.Lines.{setup_line, open_line, close_line, letter, shows_vci, served_line, refused_line, slot_line, stop_line, end_line}
use Rattle.trace_record.specs.Trace.{be16, be32, whole, setup_at, open_at, sustain_at, close_at, open_path_at, close_path_at, cell_at, pause_at, first_at, later_at, stands_at}
use Rattle.list_meaning.specs.Trace.{pauses, cell_of, record_calls, calls_at, calls_from, goes_further, calls_of}
use Rattle.list_meaning.specs.Listing.{many_of, recount, less_modulo, end_of, line_of, state_after, answers_after, ends_run, lines_of, lent_for, listing_of}

unfoldable pub by_computation : ℕ
unfolding remainder check_of head_of hec_of syndrome_of one_bit first_with wrong_bit flipped checked arriving arriving_fits ranges_hold splits_hold owner_of owns unused kind_in_range slot_numbers lets_in words_length lengths_hold with_record with_cells with_links with_calendar with_words with_bits with_arrived record_with with_clock with_free with_output_list record_in_mode with_mode write_cell connection_at write_connection opened_connection closed_connection open_word_fits bucket_fits second_obeys second_in_range buckets_fit connection_fits fallen_to up_to_date debt obeys_rules obeys_second is_none elapsed fall is_excess delay fill vpi_high header_of header_at clp_in with_clp tagged_cell no_user_cell named number_in name_in connection names_connection names_open is_set is_free_space is_marked ones_below none_above spaces_fit lowest_from lowest_free without_bit with_bit marked unmarked full_from ones ones_in count_trailing_zeros ends_fit entry_at write_entry take_head join_head join_tail place verdict_on second_after sent_as accept judge step1 step2 step3 step4 step5 depart five_steps finish slot_at slot zeros fresh_record fresh_state setup shared_refusal open_call close_call decimal decimal_of line shown setup_line open_line close_line letter shows_vci served_line refused_line slot_line stop_line end_line be16 be32 whole setup_at open_at sustain_at close_at open_path_at close_path_at cell_at pause_at first_at later_at stands_at pauses cell_of record_calls calls_at calls_from goes_further calls_of many_of recount less_modulo end_of line_of state_after answers_after ends_run lines_of lent_for listing_of
by_computation = 0
