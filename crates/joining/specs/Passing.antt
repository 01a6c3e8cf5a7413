-- What two boxes let out of CR and of NL, and the setting with such a row.
use Rattle.std.specs.Prelude.{◌&&◌, [], ◌∷◌, ℕ, eqb, if◌then◌else◌, Option, None, Some, Result, Ok, Err, option_and_then}
use Rattle.std.specs.List.{find}
use Rattle.paper.specs.Choice.{outside}
use Rattle.paper.specs.Arrival.{CR, NL, ending}
use Rattle.paper.specs.TwoBoxes.{comes, acts, same, eight}
use Rattle.paper.specs.declared.Refusal.{Refusal}
use Rattle.paper.specs.declared.Refusal.TheVariants.{BadField}

-- what the second box makes of what comes out of the first
abbrev pub passed : (first second : ℕ) → ℕ → Option ℕ
passed first second b = option_and_then (ending second) (ending first b)

-- what comes out of a row: nothing, CR or NL
pub data Ends : Option ℕ → Type 0 where
  dropped : Ends None
  as_cr : Ends (Some CR)
  as_nl : Ends (Some NL)

-- "4 drops CR, 2 turns CR into NL, 1 turns NL into CR"
abbrev pub bits_of_cr : Option ℕ → ℕ
bits_of_cr None = 4
bits_of_cr (Some b) = if eqb b NL then 2 else 0

abbrev pub bit_of_nl : ℕ → ℕ
bit_of_nl nl = if eqb nl CR then 1 else 0

-- the least setting that lets this out of CR and that out of NL
unfoldable pub least_for : (cr nl : Option ℕ) → Option ℕ
least_for cr nl = find (λ one. same (acts one (CR ∷ [])) (comes cr) && same (acts one (NL ∷ [])) (comes nl)) eight

-- a number as a value of field 4
unfoldable pub setting_of : ℕ → Result ℕ Refusal
setting_of value = if outside 0 7 value then Err (BadField 4) else Ok value
