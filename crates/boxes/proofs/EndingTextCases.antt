-- Request h's cases as numbers and as words, by computation over the definitions.
use mathlib.Core.Path.{refl}
use Rattle.paper.specs.Arrival.{ending}
use Rattle.paper.specs.Decimal.{digit, number_of, decimal}
use Rattle.paper.specs.RateLines.{refused_words}
use Rattle.paper.specs.TwoBoxes.{works, single, one_ending}
use Rattle.paper.specs.EndingLines.{ending_words, head_line, table_line, ending_table, ending_text}
use Rattle.boxes.specs.EndingCases.{EndingNumberCases, EndingTextCases, EndingTableCases}

-- what the cases compute with: to unfold one of these names is to unfold all that its own line names
computed : Unit {0}
unfolding ending works single one_ending digit number_of decimal refused_words ending_words head_line table_line ending_table ending_text
computed = tt

pub ending_number_cases : EndingNumberCases
ending_number_cases = record { does = refl; none_does = refl; refused = refl }

pub ending_text_cases : EndingTextCases
unfolding computed
ending_text_cases =
    record {
      does = refl;
      none_does = refl;
      other_way = refl;
      leading_zeros = refl;
      above = refl;
      second_above = refl;
      no_number = refl;
      empty = refl;
      one_word = refl;
      three_words = refl;
    }

pub ending_table_cases : EndingTableCases
unfolding computed
ending_table_cases = record { table = refl }
