-- 02 c: "Choosing the rate." Nothing here says how the choice is found.
use Rattle.std.specs.Prelude.{Bool, true, not, ◌&&◌, ◌||◌, List, [], ◌∷◌, ◌++◌, ℕ, zero, suc, ◌+◌, ◌-◌, ◌*◌, ltb, ℤ, pos, ◌-ℤ◌, ◌*ℤ◌, if◌then◌else◌, Result, Ok, Err}
use Rattle.std.proofs.Math.Option.{Option, none, some}
use Rattle.std.specs.Int.Signed.{quot_z}
use Rattle.paper.specs.Choice.{outside}
use Rattle.paper.specs.declared.Refusal.{Refusal}
use Rattle.paper.specs.declared.Refusal.TheVariants.{OutsideRange, TooFar}
use Rattle.paper.specs.declared.Pair.{Pair}
use Rattle.paper.specs.declared.Chosen.{Chosen}

-- PAIRS: "pick a divisor of 8, 32, 128, 512 or 2048 and a period from 1 to 255."

abbrev pub pair : (divisor period : ℕ) → Pair
pair divisor period = record { divisor = divisor; period = period }

-- a divisor with so many periods, from one on
unfoldable pub row : (divisor start many : ℕ) → List Pair
row divisor start zero = []
row divisor start (suc many) = pair divisor start ∷ row divisor (suc start) many

abbrev pub divisors : List ℕ
divisors = 8 ∷ 32 ∷ 128 ∷ 512 ∷ 2048 ∷ []

unfoldable pub rows : (divisors : List ℕ) → List Pair
rows [] = []
rows (divisor ∷ others) = row divisor 1 255 ++ rows others

-- all 1275, in the order of "ties go to the smaller divisor, then the smaller period"
unfoldable pub pairs : List Pair
pairs = rows divisors

-- "divisor times period"
abbrev pub divider : Pair → ℕ
divider p = p.divisor * p.period

-- a pair that is chosen, with its deviation
abbrev pub deviating : Pair → ℤ → Chosen
deviating p deviation = record { pair = p; deviation = deviation }

-- TESTS OF A LIST

unfoldable pub every : {A : Type 0} → (A → Bool) → List A → Bool
every test [] = true
every test (a ∷ l) = test a && every test l

unfoldable pub first_of : {A : Type 0} → (A → Bool) → List A → Option A
first_of test [] = none
first_of test (a ∷ l) = if test a then some a else first_of test l

module _ (clock wanted : ℕ) where
  -- DISTANCE

  -- "The real rate is the clock over divisor times period." With divider n, its distance from the wanted rate is the fraction of this over n
  unfoldable pub gap : (n : ℕ) → ℕ
  gap n = (clock - wanted * n) + (wanted * n - clock)

  -- "compared as exact fractions"
  unfoldable pub nearer : Pair → Pair → Bool
  nearer p q = ltb (gap (divider p) * divider q) (gap (divider q) * divider p)

  abbrev pub unbeaten : List Pair → Pair → Bool
  unbeaten l p = every (λ q. not (nearer q p)) l

  -- "The choice has the least distance from the wanted rate ...; ties go to the smaller divisor, then the smaller period": the first of the pairs than
  -- which none is nearer
  abbrev pub choice : List Pair → Option Pair
  choice l = first_of (unbeaten l) l

  -- "the signed deviation in millionths of the wanted rate, cut toward zero": from the exact difference between clock and rate times divider
  unfoldable pub deviation : Pair → ℤ
  deviation p = quot_z ((pos clock -ℤ pos (wanted * divider p)) *ℤ pos 1000000) (pos (wanted * divider p))

  -- REFUSALS: "12 clock or rate outside its range; 13 exactly if every pair is more than 25,000 millionths away, before cutting."

  -- "a clock (1,000,000 to 60,000,000 Hz) and a wanted rate (1 to 230,400)"
  unfoldable pub out_of_range : Bool
  out_of_range = outside 1000000 60000000 clock || outside 1 230400 wanted

  unfoldable pub too_far : Pair → Bool
  too_far p = ltb (25000 * (wanted * divider p)) (1000000 * gap (divider p))

  -- a list that is not empty has a first of the nearest: none is never told
  abbrev pub told : Option Pair → Result Chosen Refusal
  told none = Err TooFar
  told (some p) = Ok (deviating p (deviation p))

  unfoldable pub choose : Result Chosen Refusal
  choose =
      if out_of_range then Err OutsideRange else
      if every too_far pairs then Err TooFar
      else told (choice pairs)
