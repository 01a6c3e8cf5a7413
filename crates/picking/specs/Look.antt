-- The search of a pick, over four marks: which channels are ready.
use Rattle.std.specs.Prelude.{Bool, false, List, [], ◌∷◌, ℕ, Option, Some, None, get_or, if◌then◌else◌}

-- the first of the places whose mark is set
unfoldable pub found : (marks : List Bool) → (places : List ℕ) → Option ℕ
found marks [] = None
found marks (n ∷ ns) = if get_or marks n false then Some n else found marks ns
