-- An array with more places than are used.
use Rattle.std.specs.Prelude.{List, ◌++◌, ℕ, ◌-◌, length, replicate}

-- l in front, and zeros in the places behind it
abbrev pub padded : (places : ℕ) → List ℕ → List ℕ
padded places l = l ++ replicate (places - length l) 0
