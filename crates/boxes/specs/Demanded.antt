-- ALL THAT IS PROVED of request h.
use Rattle.std.specs.Prelude.{ℕ}
use Rattle.paper.specs.declared.Settings.{Settings}
use Rattle.boxes.specs.Boxes.{Step7, TwoBoxes, UsedTwice}
use Rattle.boxes.specs.EndingCases.{ActsCases, FollowedCases, SingleCases, OneEndingCases, EndingNumberCases, EndingTextCases, EndingTableCases}

pub record Demanded : Type 0 where
  pub acts_cases : ActsCases
  pub followed_cases : FollowedCases
  pub single_cases : SingleCases
  pub one_ending_cases : OneEndingCases
  pub ending_number_cases : EndingNumberCases
  pub ending_text_cases : EndingTextCases
  pub ending_table_cases : EndingTableCases
  pub step7 : (s : Settings) → Step7 s
  pub two_boxes : TwoBoxes
  pub used_twice : (setting : ℕ) → UsedTwice setting
