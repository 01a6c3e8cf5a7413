-- All that is demanded of two boxes in a row, in one place.
use Rattle.boxes.specs.Demanded.{Demanded}
use Rattle.boxes.proofs.Boxes.{step7_acts, two_boxes, used_twice}
use Rattle.boxes.proofs.EndingCases.{acts_cases, followed_cases, single_cases, one_ending_cases}
use Rattle.boxes.proofs.EndingTextCases.{ending_number_cases, ending_text_cases, ending_table_cases}

pub demanded : Demanded
demanded =
    record {
      acts_cases = acts_cases;
      followed_cases = followed_cases;
      single_cases = single_cases;
      one_ending_cases = one_ending_cases;
      ending_number_cases = ending_number_cases;
      ending_text_cases = ending_text_cases;
      ending_table_cases = ending_table_cases;
      step7 = step7_acts;
      two_boxes = two_boxes;
      used_twice = used_twice;
    }
