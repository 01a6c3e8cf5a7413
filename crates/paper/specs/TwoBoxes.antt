-- 02 h: "Two boxes in a row." What it demands of these definitions stands in crates/boxes.
use Rattle.std.specs.Prelude.{Bool, true, false, ◌&&◌, ◌||◌, List, [], ◌∷◌, ℕ, eqb, if◌then◌else◌, Option, None, Some, Result, Ok, Err}
use Rattle.std.specs.List.{find}
use Rattle.paper.specs.Choice.{outside}
use Rattle.paper.specs.Text.{each}
use Rattle.paper.specs.Arrival.{CR, NL, ending}
use Rattle.paper.specs.declared.Refusal.{Refusal}
use Rattle.paper.specs.declared.Refusal.TheVariants.{BadField}

-- how a setting "acts on every list of characters": what step 7 stores of each, in order
abbrev pub comes : Option ℕ → List ℕ
comes None = []
comes (Some b) = b ∷ []

abbrev pub acts : (setting : ℕ) → List ℕ → List ℕ
acts setting l = each (λ b. comes (ending setting b)) l

-- "as the first followed by the second"
abbrev pub followed : (first second : ℕ) → List ℕ → List ℕ
followed first second l = acts second (acts first l)

-- "which single line-ending setting does the work of both": on CR alone and on NL alone, which is enough for every list
abbrev pub same : List ℕ → List ℕ → Bool
same [] [] = true
same [] (c ∷ m) = false
same (b ∷ l) [] = false
same (b ∷ l) (c ∷ m) = eqb b c && same l m

abbrev pub works_on : (first second one : ℕ) → List ℕ → Bool
works_on first second one l = same (acts one l) (followed first second l)

unfoldable pub works : (first second one : ℕ) → Bool
works first second one = works_on first second one (CR ∷ []) && works_on first second one (NL ∷ [])

-- the least of the eight that does
abbrev pub eight : List ℕ
eight = 0 ∷ 1 ∷ 2 ∷ 3 ∷ 4 ∷ 5 ∷ 6 ∷ 7 ∷ []

unfoldable pub single : (first second : ℕ) → Option ℕ
single first second = find (works first second) eight

-- "for every ordered pair": the setting, or none; field 4 has no other value than the eight
unfoldable pub one_ending : (first second : ℕ) → Result (Option ℕ) Refusal
one_ending first second =
    if outside 0 7 first || outside 0 7 second then Err (BadField 4)
    else Ok (single first second)
