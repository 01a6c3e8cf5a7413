-- The products that are compared, and the whole part of clock over step, held to 1 to 255.
use Prim.Native.Nat.{ℕ, ◌+◌, ◌*◌, ◌/◌, ◌≤◌, ◌<◌}
use native.Mathlib.Nat.{mul-le-mul, mul-le-mul_right, div-mul-le_self, lt-div-mul-add}
use native.Mathlib.Omega.{arith}
use mir.Syntax.{w64}
use mir.Val.{Fits}
use Rattle.choosing.specs.Search.{Beside, most_divider, most_times}

-- a distance times a divider: below 2 ^ 56
pub product_fits : (gap n : ℕ) → gap ≤ most_times → n ≤ most_divider → Fits w64 (gap * n)
product_fits gap n less few = record { fits = omega (arith, mul-le-mul less few) }

module _ (clock step : ℕ) (some : 1 ≤ step) where
  abbrev whole : ℕ
  whole = clock / step

  next : clock < whole * step + step
  next = lt-div-mul-add some

  pub at_1 : whole < 1 → Beside clock step 1
  at_1 less = record {
    least = omega arith;
    most = omega arith;
    below = omega arith;
    above = omega (arith, next, mul-le-mul_right {m = whole} {n = 0} step (omega arith));
  }

  pub at_whole : 1 ≤ whole → whole < 255 → Beside clock step whole
  at_whole least less = record {
    least = least;
    most = omega arith;
    below = omega (arith, div-mul-le_self clock step);
    above = omega (arith, next);
  }

  pub at_255 : 255 ≤ whole → Beside clock step 255
  at_255 most = record {
    least = omega arith;
    most = omega arith;
    below = omega (arith, div-mul-le_self clock step, mul-le-mul_right step most);
    above = omega arith;
  }
