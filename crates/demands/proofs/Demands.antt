-- Every demand of specs/Demands.antt, with its proof.
use Rattle.demands.specs.Demands.{Demands}
use Rattle.demands.proofs.Examples.{ranges, crossed, table, damaged_table, endings, loss_stays, read_cases, reader_cases, end_cases, number_cases, whole_case, transmit_case, queue_case, held_case, nothing_stored_case, implied_xon_case, literal_mark_case, line_case, refusal_case, order_cases, merge_case, two_hosts, excepted}
use Rattle.demands.proofs.ConfirmationCases.{judged_cases, aside_cases, run_cases, form_cases, confirm_cases, the_scale, yield_cases}
use Rattle.demands.proofs.Confirmations.{confirmations}
use Rattle.demands.proofs.Reader.{reader, reader_call, clean_front_lem}
use Rattle.demands.proofs.ReadBack.{read_back}
use Rattle.demands.proofs.Fifo.{first_in_first_out, loss_count}
use Rattle.demands.proofs.ToldCounts.{told_counts}
use Rattle.demands.proofs.ReadingMore.{reading_more}
use Rattle.demands.proofs.Names.{names_unseen}
use Rattle.demands.proofs.Isolation.{isolation}
use Rattle.demands.proofs.Picks.{four_picks}
use Rattle.demands.proofs.Order.{neighbours, merges}
use Rattle.demands.proofs.Refusals.{refusals}
use Rattle.demands.proofs.Lines.{lines}
use Rattle.demands.proofs.TextLines.{text_lines}
use Rattle.demands.proofs.AnswersReadBack.{answers_read_back}
use Rattle.demands.proofs.Arrivals.{fates, marked}
use Rattle.demands.proofs.GoesOut.{goes_out}
use Rattle.demands.proofs.Bounds.{bounds}

pub demands : Demands
demands =
    record {
      ranges = ranges;
      crossed = crossed;
      table = table;
      damaged_table = damaged_table;
      endings = endings;
      loss_stays = loss_stays;
      read_cases = read_cases;
      reader_cases = reader_cases;
      end_cases = end_cases;
      number_cases = number_cases;
      whole_case = whole_case;
      transmit_case = transmit_case;
      queue_case = queue_case;
      held_case = held_case;
      nothing_stored_case = nothing_stored_case;
      implied_xon_case = implied_xon_case;
      literal_mark_case = literal_mark_case;
      line_case = line_case;
      refusal_case = refusal_case;
      order_cases = order_cases;
      merge_case = merge_case;
      judged_cases = judged_cases;
      aside_cases = aside_cases;
      run_cases = run_cases;
      form_cases = form_cases;
      confirm_cases = confirm_cases;
      the_scale = the_scale;
      yield_cases = yield_cases;
      reader = reader;
      reader_call = reader_call;
      clean_front_lem = clean_front_lem;
      fates = fates;
      marked = marked;
      read_back = read_back;
      first_in_first_out = first_in_first_out;
      loss_count = loss_count;
      told_counts = told_counts;
      goes_out = goes_out;
      reading_more = reading_more;
      two_hosts = two_hosts;
      names_unseen = names_unseen;
      isolation = isolation;
      four_picks = four_picks;
      neighbours = neighbours;
      merges = merges;
      excepted = excepted;
      confirmations = confirmations;
      refusals = refusals;
      lines = lines;
      text_lines = text_lines;
      answers_read_back = answers_read_back;
      bounds = bounds;
    }
