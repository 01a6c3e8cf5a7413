-- What holds of both sides of a choice holds of the choice; each side may use what the tests said.
use mathlib.Core.Path.{◌≡◌, refl, sym}
use mathlib.Core.Bool.{Bool, true, false, true≢false, ◌&&◌, ◌||◌}
use Rattle.std.specs.Prelude.{if◌then◌else◌}

module _ {ℓ} {A : Type 0} (P : A → Type ℓ) where
  pub chosen : (t : Bool) {a b : A} → (t ≡ true → P a) → (t ≡ false → P b) → P (if t then a else b)
  chosen true passed failed = passed refl
  chosen false passed failed = failed refl

  pub chosen_or : (t u : Bool) {a b : A} → (t ≡ true → P a) → (u ≡ true → P a) → (t ≡ false → u ≡ false → P b) → P (if t || u then a else b)
  chosen_or true u first second failed = first refl
  chosen_or false u first second failed = chosen u second (failed refl)

  pub chosen_and : (t u : Bool) {a b : A} → (t ≡ true → u ≡ true → P a) → P b → P (if t && u then a else b)
  chosen_and true u passed failed = chosen u (passed refl) (λ _. failed)
  chosen_and false u passed failed = failed

  -- whatever the test says
  pub either : (t : Bool) {a b : A} → P a → P b → P (if t then a else b)
  either t p q = chosen t (λ _. p) (λ _. q)

-- what two tests say, where both say yes
pub both : (t u : Bool) → (t && u) ≡ true → (t ≡ true) × (u ≡ true)
both true u e = (refl, e)
both false u e = absurd (true≢false (sym e))
