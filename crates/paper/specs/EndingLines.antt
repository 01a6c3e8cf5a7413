-- 02 h as a text for the fitters: the single setting of a pair, or the table of all 64.
use Rattle.std.specs.Prelude.{List, [], ◌∷◌, ◌++◌, ℕ, Option, None, Some, Result, Ok, Err}
use Rattle.paper.specs.Text.{text, each}
use Rattle.paper.specs.Decimal.{number_of, decimal}
use Rattle.paper.specs.RateLines.{refused_words}
use Rattle.paper.specs.TwoBoxes.{eight, single, one_ending}
use Rattle.paper.specs.declared.Refusal.{Refusal}

-- A PAIR: `0` to `7`, or `none`; or `refused 5 4`
unfoldable pub ending_words : Result (Option ℕ) Refusal → List ℕ
ending_words (Ok (Some one)) = decimal one
ending_words (Ok None) = text "none"
ending_words (Err r) = refused_words r

-- THE TABLE: each column behind a space, `-` for none
abbrev pub column : Option ℕ → List ℕ
column None = text " -"
column (Some one) = text " " ++ decimal one

unfoldable pub head_line : List ℕ
head_line = text " " ++ each (λ second. column (Some second)) eight ++ text "\n"

-- rows are the first box and columns the second, with a head column
abbrev pub column_of : (first second : ℕ) → List ℕ
column_of first second = column (single first second)

unfoldable pub table_line : (first : ℕ) → List ℕ
table_line first = decimal first ++ each (column_of first) eight ++ text "\n"

unfoldable pub ending_table : List ℕ
ending_table = head_line ++ each table_line eight

-- THE TEXT: two words ask for a pair, no word for the table; one word, or more than two, for nothing
unfoldable pub ending_text : (words : List (List ℕ)) → List ℕ
ending_text [] = ending_table
ending_text (first ∷ []) = []
ending_text (first ∷ second ∷ []) = ending_words (one_ending (number_of first) (number_of second)) ++ text "\n"
ending_text (first ∷ second ∷ third ∷ words) = []
