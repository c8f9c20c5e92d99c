-- One name for all definitions that a run computes with: under `unfolding by_computation` a run of given calls computes,
-- so that a worked case is proved by `refl`.
use Rattle.std.specs.Prelude.{ℕ}
use Rattle.base_hec.specs.Check.{remainder, check_of, head_of, hec_of, syndrome_of}
use Rattle.base_hec.specs.WrongBit.{one_bit, first_with, wrong_bit, flipped}
use Rattle.base_hec.specs.Modes.{checked, arriving, arriving_fits}
use Rattle.meaning.specs.Numbers.{ranges_hold, splits_hold, unused, kind_in_range, slot_numbers, lets_in}
use Rattle.meaning.specs.State.{words_length, lengths_hold, with_record, with_cells, with_links, with_calendar, with_words, with_bits}
use Rattle.meaning.specs.State.{with_arrived, record_with, with_clock, with_free, with_output_list, record_in_mode, with_mode, write_cell}
use Rattle.meaning.specs.Words.{connection_at, write_connection, opened_connection, closed_connection, open_word_fits, bucket_fits}
use Rattle.meaning.specs.Words.{second_obeys, second_in_range, buckets_fit, connection_fits, fallen_to, up_to_date, debt}
use Rattle.meaning.specs.Bucket.{obeys_rules, obeys_second, is_none, elapsed, fall, is_excess, delay, fill}
use Rattle.meaning.specs.Bits.{is_set, is_free_space, is_marked, ones_below, none_above, spaces_fit, lowest_from, lowest_free, without_bit, with_bit, marked, unmarked, full_from}
use Rattle.std.specs.Int.Count.{ones, ones_in, count_trailing_zeros, under}
use Rattle.meaning.specs.Header.{vpi_high, header_of, header_at, clp_in, with_clp, tagged_cell, no_user_cell, named, number_in, name_in, connection, names_connection, names_open}
use Rattle.meaning.specs.Operators.{owner_of, owns}
use Rattle.meaning.specs.Lists.{ends_fit, entry_at, write_entry, take_head, join_head, join_tail}
use Rattle.meaning.specs.Arrival.{place, verdict_on, second_after, sent_as, accept, judge}
use Rattle.meaning.specs.Slot.{step1, step2, step3, step4, step5, depart, five_steps, finish, unchecked_slot_at, unchecked_slot, slot_at, slot}
use Rattle.meaning.specs.Calls.{zeros, fresh_record, fresh_state, setup, shared_refusal, open_call, close_call}
use Rattle.meaning.specs.Line.{cells_allowed, line_part, octets_of, line_cell}
use Rattle.meaning_runs.specs.Run.{calls, call, call_at, fresh_run, shown, served}
use Rattle.meaning_runs.specs.Leak.{due_time, due_slot, leak_accepts, sustains, verdict_by, accepts, opening_of}
use Rattle.meaning_runs.specs.Judged.{judged_by}
use Rattle.meaning_runs.specs.Seen.{cells_in, departures_in, cells_of, departures_of}

unfoldable pub by_computation : ℕ
unfolding remainder check_of head_of hec_of syndrome_of one_bit first_with wrong_bit flipped checked arriving arriving_fits
    ranges_hold splits_hold owner_of owns unused kind_in_range slot_numbers lets_in
    words_length lengths_hold with_record with_cells with_links with_calendar with_words with_bits
    with_arrived record_with with_clock with_free with_output_list record_in_mode with_mode write_cell
    connection_at write_connection opened_connection closed_connection open_word_fits bucket_fits
    second_obeys second_in_range buckets_fit connection_fits fallen_to up_to_date debt
    obeys_rules obeys_second is_none elapsed fall is_excess delay fill
    vpi_high header_of header_at clp_in with_clp tagged_cell no_user_cell named number_in name_in connection names_connection names_open
    is_set is_free_space is_marked ones_below none_above spaces_fit lowest_from lowest_free without_bit with_bit marked unmarked full_from
    ones ones_in count_trailing_zeros ends_fit entry_at write_entry take_head join_head join_tail
    place verdict_on second_after sent_as accept judge
    step1 step2 step3 step4 step5 depart five_steps finish unchecked_slot_at unchecked_slot slot_at slot
    zeros fresh_record fresh_state setup shared_refusal open_call close_call
    cells_allowed line_part octets_of line_cell
    calls call call_at fresh_run shown served
    due_time due_slot leak_accepts sustains verdict_by accepts opening_of judged_by cells_in departures_in cells_of departures_of
by_computation = 0
