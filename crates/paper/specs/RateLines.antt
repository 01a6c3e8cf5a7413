-- 02 c as a text for the fitters: a line for each rate that is asked for.
use Rattle.std.specs.Prelude.{List, [], ◌∷◌, ◌++◌, map, ℕ, zero, suc, ℤ, pos, negsuc, Result, Ok, Err}
use Rattle.paper.specs.Text.{text}
use Rattle.paper.specs.Decimal.{number_of, decimal}
use Rattle.paper.specs.Numbers.{refusal_numbers}
use Rattle.paper.specs.Rate.{choose}
use Rattle.paper.specs.declared.Refusal.{Refusal}
use Rattle.paper.specs.declared.Chosen.{Chosen}

-- LINES

-- `+4693`, `-12` or `0`
abbrev pub signed : ℤ → List ℕ
signed (pos zero) = text "0"
signed (pos (suc n)) = text "+" ++ decimal (suc n)
signed (negsuc n) = text "-" ++ decimal (suc n)

-- `refused` and the refusal's numbers, each behind a space
abbrev pub spaced : List ℕ → List ℕ
spaced [] = []
spaced (n ∷ ns) = text " " ++ decimal n ++ spaced ns

unfoldable pub refused_words : Refusal → List ℕ
refused_words r = text "refused" ++ spaced (refusal_numbers r)

-- `DIVISOR PERIOD DEVIATION`; or `refused 12`, `refused 13`
unfoldable pub choice_words : Result Chosen Refusal → List ℕ
choice_words (Ok c) = decimal c.pair.divisor ++ text " " ++ decimal c.pair.period ++ text " " ++ signed c.deviation
choice_words (Err r) = refused_words r

-- the rate's word as it came, and the choice
unfoldable pub rate_line : (clock : ℕ) → (word : List ℕ) → List ℕ
rate_line clock word = word ++ text " " ++ choice_words (choose clock (number_of word)) ++ text "\n"

abbrev pub rate_lines : (clock : ℕ) → List (List ℕ) → List ℕ
rate_lines clock [] = []
rate_lines clock (word ∷ words) = rate_line clock word ++ rate_lines clock words

-- THE TEXT

abbrev pub usual_rates : List ℕ
usual_rates =
    50 ∷ 75 ∷ 110 ∷ 150 ∷ 300 ∷ 600 ∷ 1200 ∷ 1800 ∷ 2400 ∷ 3600 ∷ 4800 ∷ 7200 ∷ 9600 ∷ 14400 ∷ 19200 ∷ 28800 ∷ 38400 ∷ 57600 ∷ 115200 ∷ 230400 ∷ []

-- the clock's word alone asks for the usual rates; no word at all, for nothing
unfoldable pub rate_text : (words : List (List ℕ)) → List ℕ
rate_text [] = []
rate_text (clock ∷ []) = rate_lines (number_of clock) (map decimal usual_rates)
rate_text (clock ∷ word ∷ words) = rate_lines (number_of clock) (word ∷ words)
