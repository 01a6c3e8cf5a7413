-- A search by single looks, over any test of what is nearer: what is kept so far, and one look after the other.
use Rattle.std.specs.Prelude.{Bool, List, [], ◌∷◌, if◌then◌else◌}

unfoldable pub pick : {A : Type 0} → (nearer : A → A → Bool) → (kept seen : A) → A
pick nearer kept seen = if nearer seen kept then seen else kept

unfoldable pub best : {A : Type 0} → (nearer : A → A → Bool) → (kept : A) → List A → A
best nearer kept [] = kept
best nearer kept (seen ∷ others) = best nearer (pick nearer kept seen) others
