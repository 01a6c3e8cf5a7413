-- The three bits of a value of field 4 give the paper's rows. Assumes nothing.
use mathlib.Core.Logic.{◌≢◌}
use mathlib.Core.List.{List, [], ◌∷◌}
use mathlib.Core.Path.{◌≡◌, refl, sym, ap, ◌∙◌}
use Prim.Native.Nat.{ℕ, zero, suc, ◌+◌, ◌≤◌, ◌<◌, suc-le-suc}
use native.Mathlib.Nat.{le_of_suc-le-suc, not-suc-le-zero, zero-add, add-zero, suc-add, add-suc}
use lib.Bits.{bit_and}
use lib.Dec.{eqb}
use borrow.Author.Tests.{ne_eqb}
use lib.ListN.{get_or, get_or-eq_default}
use Rattle.std.specs.Prelude.{if◌then◌else◌, None, Some}
use Rattle.paper.specs.Arrival.{CR, NL, Row, row, rows, ending}

-- "4 drops CR, 2 turns CR into NL, 1 turns NL into CR"
abbrev pub from_bits : ℕ → Row
from_bits value =
    row
    (if eqb (bit_and value 4) 0 then if eqb (bit_and value 2) 0 then Some CR else Some NL else None)
    (if eqb (bit_and value 1) 0 then Some NL else Some CR)

-- so many rows, worked out from a value on
abbrev worked_out : (count value : ℕ) → List Row
worked_out zero value = []
worked_out (suc count) value = from_bits value ∷ worked_out count (suc value)

-- Bits and table agree: computed over all eight values and both characters.
agree : worked_out 8 0 ≡ rows
agree = refl

-- each row that was worked out is that of its value
worked_out_lem : (count value further : ℕ) → further < count → get_or (worked_out count value) further (row None None) ≡ from_bits (value + further)
worked_out_lem zero value further h = absurd (not-suc-le-zero h)
worked_out_lem (suc count) value zero h = ap from_bits (sym (add-zero value))
worked_out_lem (suc count) value (suc further) h =
    worked_out_lem count (suc value) further (le_of_suc-le-suc h)
    ∙ ap from_bits (suc-add value further ∙ sym (add-suc value further))

-- a value of the eight has the row that its bits give
row_of_bits : (value : ℕ) → value ≤ 7 → get_or rows value (row None None) ≡ from_bits value
row_of_bits value h =
    ap (λ (l : List Row). get_or l value (row None None)) (sym agree)
    ∙ worked_out_lem 8 0 value (suc-le-suc h)
    ∙ ap from_bits (zero-add value)

-- WHAT COMES OUT

module _ (value : ℕ) where
  -- of a value of the eight: by its bits
  pub cr_by_bits : value ≤ 7 → ending value CR ≡ (from_bits value).cr
  unfolding ending
  cr_by_bits h = ap (λ (r : Row). r.cr) (row_of_bits value h)

  pub nl_by_bits : value ≤ 7 → ending value NL ≡ (from_bits value).nl
  unfolding ending
  nl_by_bits h = ap (λ (r : Row). r.nl) (row_of_bits value h)

  -- of a value above 7: nothing
  pub no_cr : 7 < value → ending value CR ≡ None
  unfolding ending
  no_cr h = ap (λ (r : Row). r.cr) (get_or-eq_default rows (row None None) h)

  pub no_nl : 7 < value → ending value NL ≡ None
  unfolding ending
  no_nl h = ap (λ (r : Row). r.nl) (get_or-eq_default rows (row None None) h)

  -- of any other byte: itself
  pub as_it_is : {b : ℕ} → b ≢ CR → b ≢ NL → ending value b ≡ Some b
  unfolding ending
  as_it_is {b} c n = rw (ne_eqb b CR c, ne_eqb b NL n)
