-- A round of four, one look at a time.
use mathlib.Core.Bool.{Bool, true, false}
use mathlib.Core.List.{List}
use mathlib.Core.Path.{◌≡◌, refl, ap, ◌∙◌}
use Prim.Native.Nat.{ℕ, zero, suc, ◌+◌, ◌-◌, ◌%◌, ◌≤◌, ◌<◌}
use native.Mathlib.Omega.{arith}
use lib.ListN.{drop, get_or}
use Rattle.std.specs.Prelude.{Some, if◌then◌else◌}
use Rattle.paper.specs.Card.{round}
use Rattle.picking.specs.Look.{found}

module _ (marks : List Bool) (p : ℕ) where
  look : (k : ℕ) → 1 ≤ k → k < 5
      → found marks (drop (k - 1) (round p)) ≡ (if get_or marks ((p + k) % 4) false then Some ((p + k) % 4) else found marks (drop k (round p)))
  unfolding found
  look zero low high = absurd (omega arith)
  look (suc zero) low high = refl
  look (suc (suc zero)) low high = refl
  look (suc (suc (suc zero))) low high = refl
  look (suc (suc (suc (suc zero)))) low high = refl
  look (suc (suc (suc (suc (suc k))))) low high = absurd (omega arith)

  module _ (k : ℕ) (low : 1 ≤ k) (high : k < 5) where
    pub look_finds : get_or marks ((p + k) % 4) false ≡ true → found marks (drop (k - 1) (round p)) ≡ Some ((p + k) % 4)
    look_finds e = look k low high ∙ ap (λ (t : Bool). if t then Some ((p + k) % 4) else found marks (drop k (round p))) e

    pub look_on : get_or marks ((p + k) % 4) false ≡ false → found marks (drop (k - 1) (round p)) ≡ found marks (drop (k + 1 - 1) (round p))
    look_on e =
        let m : k + 1 - 1 ≡ k = omega arith in
        rw m (look k low high ∙ ap (λ (t : Bool). if t then Some ((p + k) % 4) else found marks (drop k (round p))) e)
