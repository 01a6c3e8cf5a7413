-- A text as the numbers of its characters, and texts one behind the other.
use Rattle.std.specs.Prelude.{List, ◌++◌, ℕ}
use Prim.Native.String.{String, [], ◌∷◌}
use Prim.Native.Char.{code}

abbrev pub text : String → List ℕ
text [] = List.[]
text (c ∷ s) = List.◌∷◌ (code c) (text s)

-- what is said of each member of a list, in order
abbrev pub each : {A B : Type 0} → (A → List B) → List A → List B
each f List.[] = List.[]
each f (List.◌∷◌ a l) = f a ++ each f l
