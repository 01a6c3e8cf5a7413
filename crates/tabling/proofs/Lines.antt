-- The table column by column and line by line.
use mathlib.Core.List.{List, [], ◌++◌}
use mathlib.Core.Bool.{false}
use mathlib.Core.Logic.{◌≢◌}
use mathlib.Core.Path.{◌≡◌, refl, sym, ap, ◌∙◌}
use Prim.Native.Nat.{ℕ, zero, suc, ◌*◌, ◌≤◌, ◌<◌}
use native.Mathlib.Omega.{arith}
use lib.ListN.{length, length-append, get_or}
use borrow.Author.Tests.{le-ltb}
use Rattle.std.specs.Prelude.{Option, None, Some, Result, Ok, Err}
use Rattle.paper.specs.Text.{text, each}
use Rattle.paper.specs.Choice.{outside}
use Rattle.paper.specs.Decimal.{decimal}
use Rattle.paper.specs.TwoBoxes.{eight, single, one_ending}
use Rattle.paper.specs.EndingLines.{column, head_line, column_of, table_line, ending_table, ending_text}
use Rattle.paper.specs.declared.Refusal.{Refusal}
use Rattle.page.specs.Page.{Page, with_text}
use Rattle.page.proofs.Laws.{with_text_then}
use Rattle.decimal.proofs.Digits.{decimal_few}
use Rattle.tabling.specs.Lines.{longest_column, longest_line}

-- a box's number in the table has one digit
pub first_few : (first : ℕ) → first ≤ 7 → length (decimal first) ≤ 1
first_few first h = decimal_few 0 first (omega arith)

-- A COLUMN

of_the_eight : (n : ℕ) → n ≤ 7 → outside 0 7 n ≡ false
of_the_eight n h = rw (le-ltb n 0 (omega arith), le-ltb 7 n h)

of_two : (first second : ℕ) → first ≤ 7 → second ≤ 7 → one_ending first second ≡ Ok (single first second)
unfolding one_ending
of_two first second f s = rw (of_the_eight first f, of_the_eight second s)

-- the column of an answer
column_for : Result (Option ℕ) Refusal → List ℕ
column_for (Ok o) = column o
column_for (Err r) = text " -"

of_others : (answer : Result (Option ℕ) Refusal) → ((one : ℕ) → answer ≢ Ok (Some one)) → column_for answer ≡ text " -"
unfolding column_for
of_others (Ok (Some one)) h = absurd (h one refl)
of_others (Ok None) h = refl
of_others (Err r) h = refl

module _ {first second : ℕ} (f : first ≤ 7) (s : second ≤ 7) {answer : Result (Option ℕ) Refusal} (is : answer ≡ one_ending first second) where
  column_is : column_for answer ≡ column_of first second
  unfolding column_for
  column_is = ap column_for (is ∙ of_two first second f s)

  pub column_does : {one : ℕ} → answer ≡ Ok (Some one) → column_of first second ≡ text " " ++ decimal one
  unfolding column_for
  column_does e = sym column_is ∙ ap column_for e

  pub column_none : ((one : ℕ) → answer ≢ Ok (Some one)) → column_of first second ≡ text " -"
  column_none h = sym column_is ∙ of_others answer h

-- THE TABLE

pub line_short : (first : ℕ) → first ≤ 7 → length (each (column_of first) eight) ≤ 8 * longest_column → length (table_line first) ≤ longest_line
unfolding table_line
line_short first h columns =
    rw (length-append (decimal first ++ each (column_of first) eight) (text "\n"), length-append (decimal first))
    (omega (arith, first_few first h, columns))

pub whole_table : (before : Page) {between after : Page} → between ≡ with_text (text "  0 1 2 3 4 5 6 7\n") before
    → after ≡ with_text (each table_line eight) between → after ≡ with_text (ending_text []) before
unfolding ending_text ending_table head_line decimal
whole_table before head lines = rw (lines, head) (with_text_then (text "  0 1 2 3 4 5 6 7\n") (each table_line eight) before)

-- the numbers of the boxes, by place
pub eight_at : (i : ℕ) → i < 8 → get_or eight i 0 ≡ i
eight_at zero h = refl
eight_at (suc zero) h = refl
eight_at (suc (suc zero)) h = refl
eight_at (suc (suc (suc zero))) h = refl
eight_at (suc (suc (suc (suc zero)))) h = refl
eight_at (suc (suc (suc (suc (suc zero))))) h = refl
eight_at (suc (suc (suc (suc (suc (suc zero)))))) h = refl
eight_at (suc (suc (suc (suc (suc (suc (suc zero))))))) h = refl
eight_at (suc (suc (suc (suc (suc (suc (suc (suc i)))))))) h = absurd (omega arith)
