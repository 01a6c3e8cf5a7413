-- A refusal of two numbers as C has it, what a channel that is stopped is told as, and a rate that was chosen.
use mathlib.Core.Bool.{Bool, true, false}
use mathlib.Core.Path.{◌≡◌, refl}
use mathlib.Core.List.{[], ◌∷◌}
use Prim.Native.Nat.{ℕ, ◌^◌, ◌<◌}
use lib.IntN.{ℤ, nat_abs}
use lib.Signed.{mag}
use mir.Facts.{to_z-of_z}
use mir.Syntax.{w64}
use mir.Val.{bool_byte, hbits, to_z, of_z}
use Rattle.std.specs.Prelude.{if◌then◌else◌}
use Rattle.paper.specs.Numbers.{refusal_numbers, negative}
use Rattle.paper.specs.declared.Refusal.{Refusal}
use Rattle.paper.specs.declared.Pair.{Pair}
use Rattle.std.specs.Prelude.{Ok}
use Rattle.paper.specs.Rate.{deviating}
use Rattle.printing.specs.Printed.{refusal_number}
use Rattle.telling.specs.Told.{choosing_told, laid}

-- a refusal of two numbers
pub followed : (r : Refusal) {number first next : ℕ} → refusal_numbers r ≡ first ∷ next ∷ [] → number ≡ refusal_number r
    → record { refusal = number; values = next ∷ 0 ∷ 0 ∷ 0 ∷ [] } ≡ laid (refusal_numbers r)
followed r e n =
    let m = rw e at n in
    rw (e, m)

-- "stopped (1) or running (0)"
pub stopped_number : (stopped : Bool) → bool_byte stopped ≡ (if stopped then 1 else 0)
stopped_number true = refl
stopped_number false = refl

-- a rate that was chosen: its deviation is stored as bits and read again
pub chosen_told : (p : Pair) (z : ℤ) (size sign : ℕ) → mag z < 2 ^ hbits w64
    → size ≡ nat_abs (to_z w64 (of_z w64 z)) → sign ≡ negative (to_z w64 (of_z w64 z))
    → record { refusal = 0; values = p.divisor ∷ p.period ∷ size ∷ sign ∷ [] } ≡ choosing_told (Ok (deviating p z))
unfolding choosing_told
chosen_told p z size sign f e g = rw (e, g, to_z-of_z {w = w64} {z = z} (record { sfits = f }))
