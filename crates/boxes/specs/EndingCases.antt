-- Request h's cases, worked out by hand from 01's table. To be read with 02 h beside it.
use Rattle.std.specs.Prelude.{◌≡◌, false, List, [], ◌∷◌, ◌++◌, ℕ, None, Some, Ok, Err}
use Rattle.paper.specs.Text.{text}
use Rattle.paper.specs.Numbers.{ending_numbers}
use Rattle.paper.specs.TwoBoxes.{acts, followed, works, single, one_ending}
use Rattle.paper.specs.EndingLines.{ending_text}
use Rattle.paper.specs.declared.Refusal.TheVariants.{BadField}

-- WHAT A SETTING DOES, by 01's rows

-- `a` CR `b` NL FF CR NL
abbrev pub sample : List ℕ
sample = 0x61 ∷ 0x0D ∷ 0x62 ∷ 0x0A ∷ 0xFF ∷ 0x0D ∷ 0x0A ∷ []

pub record ActsCases : Type 0 where
  pub zero : acts 0 sample ≡ sample
  pub one : acts 1 sample ≡ 0x61 ∷ 0x0D ∷ 0x62 ∷ 0x0D ∷ 0xFF ∷ 0x0D ∷ 0x0D ∷ []
  pub two : acts 2 sample ≡ 0x61 ∷ 0x0A ∷ 0x62 ∷ 0x0A ∷ 0xFF ∷ 0x0A ∷ 0x0A ∷ []
  pub three : acts 3 sample ≡ 0x61 ∷ 0x0A ∷ 0x62 ∷ 0x0D ∷ 0xFF ∷ 0x0A ∷ 0x0D ∷ []
  pub four : acts 4 sample ≡ 0x61 ∷ 0x62 ∷ 0x0A ∷ 0xFF ∷ 0x0A ∷ []
  pub five : acts 5 sample ≡ 0x61 ∷ 0x62 ∷ 0x0D ∷ 0xFF ∷ 0x0D ∷ []
  pub six : acts 6 sample ≡ 0x61 ∷ 0x62 ∷ 0x0A ∷ 0xFF ∷ 0x0A ∷ []
  pub seven : acts 7 sample ≡ 0x61 ∷ 0x62 ∷ 0x0D ∷ 0xFF ∷ 0x0D ∷ []
  pub nothing : acts 4 [] ≡ []

-- "the first followed by the second"
pub record FollowedCases : Type 0 where
  -- NL becomes CR in the first box, and the second drops it with the CR that came; the other way round the CR goes first, and NL comes out as CR
  pub one_then_four : followed 1 4 (0x61 ∷ 0x0D ∷ 0x0A ∷ []) ≡ 0x61 ∷ []
  pub four_then_one : followed 4 1 (0x61 ∷ 0x0D ∷ 0x0A ∷ []) ≡ 0x61 ∷ 0x0D ∷ []
  -- exchanged, and exchanged back
  pub three_twice : followed 3 3 (0x0D ∷ 0x0A ∷ 0x0A ∷ []) ≡ 0x0D ∷ 0x0A ∷ 0x0A ∷ []

-- THE SINGLE SETTING

pub record SingleCases : Type 0 where
  -- CR goes NL CR, NL goes CR NL: as with 0
  pub three_three : single 3 3 ≡ Some 0
  -- CR goes NL CR, NL stays NL and goes CR: both CR
  pub two_one : single 2 1 ≡ Some 1
  -- CR stays and goes NL, NL goes CR and NL
  pub one_two : single 1 2 ≡ Some 2
  pub zero_three : single 0 3 ≡ Some 3
  -- 6 acts as 4 does, and 4 is the least
  pub zero_six : single 0 6 ≡ Some 4
  -- CR is gone, NL comes out as CR; 7 acts as 5 does
  pub four_seven : single 4 7 ≡ Some 5
  -- NL goes CR, and the second box turns it back
  pub five_three : single 5 3 ≡ Some 4
  -- every NL of the first box becomes CR, which the second drops: none of the eight drops NL
  pub one_four : single 1 4 ≡ None
  -- CR comes out as CR, NL is dropped: on the list CR NL this is as 5, on NL alone as none
  pub three_five : single 3 5 ≡ None
  pub seven_six : single 7 6 ≡ None
  -- 4 drops a CR that two boxes with 0 let out
  pub four_for_zero : works 0 0 4 ≡ false

-- ANY TWO NUMBERS

pub record OneEndingCases : Type 0 where
  pub first_pair : one_ending 0 0 ≡ Ok (Some 0)
  pub last_pair : one_ending 7 7 ≡ Ok None
  pub last_with_one : one_ending 7 3 ≡ Ok (Some 4)
  -- "5 is followed by its field": line endings are field 4
  pub first_above : one_ending 8 0 ≡ Err (BadField 4)
  pub second_above : one_ending 0 8 ≡ Err (BadField 4)
  pub both_above : one_ending 8 8 ≡ Err (BadField 4)
  pub greatest : one_ending 0 4294967295 ≡ Err (BadField 4)

-- AS NUMBERS AND AS WORDS

pub record EndingNumberCases : Type 0 where
  pub does : ending_numbers (Ok (Some 4)) ≡ 0 ∷ 1 ∷ 4 ∷ []
  pub none_does : ending_numbers (Ok None) ≡ 0 ∷ 0 ∷ []
  pub refused : ending_numbers (Err (BadField 4)) ≡ 5 ∷ 4 ∷ []

-- what the program writes for its words
pub record EndingTextCases : Type 0 where
  pub does : ending_text (text "0" ∷ text "6" ∷ []) ≡ text "4\n"
  pub none_does : ending_text (text "1" ∷ text "4" ∷ []) ≡ text "none\n"
  pub other_way : ending_text (text "4" ∷ text "1" ∷ []) ≡ text "5\n"
  pub leading_zeros : ending_text (text "003" ∷ text "03" ∷ []) ≡ text "0\n"
  pub above : ending_text (text "8" ∷ text "0" ∷ []) ≡ text "refused 5 4\n"
  pub second_above : ending_text (text "0" ∷ text "12" ∷ []) ≡ text "refused 5 4\n"
  pub no_number : ending_text (text "four" ∷ text "0" ∷ []) ≡ text "refused 5 4\n"
  pub empty : ending_text (text "0" ∷ [] ∷ []) ≡ text "refused 5 4\n"
  pub one_word : ending_text (text "0" ∷ []) ≡ []
  pub three_words : ending_text (text "0" ∷ text "0" ∷ text "0" ∷ []) ≡ []

-- all 64 pairs
pub record EndingTableCases : Type 0 where
  pub table : ending_text []
      ≡ text "  0 1 2 3 4 5 6 7\n"
      ++ text "0 0 1 2 3 4 5 4 5\n"
      ++ text "1 1 1 2 2 - - - -\n"
      ++ text "2 2 1 2 1 2 1 2 1\n"
      ++ text "3 3 1 2 0 - - - -\n"
      ++ text "4 4 5 4 5 4 5 4 5\n"
      ++ text "5 5 5 4 4 - - - -\n"
      ++ text "6 4 5 4 5 4 5 4 5\n"
      ++ text "7 5 5 4 4 - - - -\n"
