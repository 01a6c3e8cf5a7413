-- The lines of rates that come as numbers.
use mathlib.Core.List.{List, [], ◌∷◌, ◌++◌, map, append_assoc}
use mathlib.Core.Path.{◌≡◌, refl, ap}
use Prim.Native.Nat.{ℕ, ◌^◌, ◌≤◌, ◌<◌}
use native.Mathlib.Omega.{arith}
use lib.ListN.{length, length-append}
use Rattle.paper.specs.Text.{text, each}
use Rattle.paper.specs.Decimal.{decimal}
use Rattle.paper.specs.Rate.{choose}
use Rattle.paper.specs.RateLines.{choice_words, rate_line, rate_lines}
use Rattle.page.specs.Page.{Page, with_text}
use Rattle.page.proofs.Laws.{with_text_then}
use Rattle.decimal.proofs.Digits.{decimal_of_32}
use Rattle.decimal.proofs.ReadBack.{word_reads_back}
use Rattle.fitting.specs.Lines.{longest, longest_line}

abbrev pub line_of : (clock rate : ℕ) → List ℕ
line_of clock rate = rate_line clock (decimal rate)

-- what stands behind the word
abbrev answer : (clock rate : ℕ) → List ℕ
answer clock rate = text " " ++ choice_words (choose clock rate) ++ text "\n"

module _ (clock rate : ℕ) (h : rate < 2 ^ 32) where
  number_line : line_of clock rate ≡ decimal rate ++ answer clock rate
  unfolding rate_line
  number_line = rw (word_reads_back rate (omega arith), append_assoc (decimal rate ++ text " "), append_assoc (decimal rate) (text " "))

  pub number_text : (before : Page) {between after : Page} → between ≡ with_text (decimal rate) before → after ≡ with_text (answer clock rate) between
      → after ≡ with_text (line_of clock rate) before
  number_text before w v = rw (number_line, v, w) (with_text_then (decimal rate) (answer clock rate) before)

  pub number_short : length (answer clock rate) ≤ longest → length (line_of clock rate) ≤ longest_line
  number_short short = rw (number_line, length-append) (omega (arith, short, decimal_of_32 rate (omega arith)))

pub all_lines : (clock : ℕ) (rates : List ℕ) → each (line_of clock) rates ≡ rate_lines clock (map decimal rates)
all_lines clock [] = refl
all_lines clock (rate ∷ rates) = ap (line_of clock rate ++◌) (all_lines clock rates)
