-- The deviation fits 64 bits with a sign at each step.
use mathlib.Core.Bool.{Bool, true, false, cond}
use mathlib.Core.Path.{◌≡◌}
use Prim.Native.Nat.{ℕ, zero, suc, ◌-◌, ◌*◌, ◌/◌, ◌≤◌, ◌<◌}
use native.Mathlib.Nat.{mul-le-mul, mul-le-mul_right, div-le_self}
use native.Mathlib.Omega.{arith}
use lib.Dec.{ltb}
use lib.IntN.{ℤ, pos, negsuc, neg_ℤ, ◌-ℤ◌, ◌*ℤ◌}
use lib.Signed.{mag, quot_z}
use mir.Facts.{to_z-of_z}
use mir.Syntax.{w64}
use mir.Val.{SFits, to_z, of_z}
use Rattle.rates.specs.Rates.{InRange}
use Rattle.choosing.specs.Search.{most_divider, most_times}

mag_minus : (c t m : ℕ) → c ≤ m → t ≤ m → mag (pos c -ℤ pos t) ≤ m
mag_minus c zero m l k = omega arith
mag_minus c (suc t) m l k = go (ltb c (suc t))
  where
    go : (b : Bool) → mag (cond b (negsuc (suc t - suc c)) (pos (c - suc t))) ≤ m
    go true = omega arith
    go false = omega arith

mag_negative : (n : ℕ) → mag (neg_ℤ (pos n)) ≤ n
mag_negative zero = omega arith
mag_negative (suc n) = omega arith

mag_times : (z : ℤ) (k m : ℕ) → mag z ≤ m → mag (z *ℤ pos k) ≤ suc m * k
mag_times (pos a) k m h = omega (arith, mul-le-mul_right k h)
mag_times (negsuc a) k m h = omega (arith, mag_negative (suc a * k), mul-le-mul_right k h)

mag_quotient : (z : ℤ) (t : ℕ) → mag (quot_z z (pos t)) ≤ suc (mag z)
mag_quotient (pos a) t = omega (arith, div-le_self a t)
mag_quotient (negsuc a) t = omega (arith, mag_negative (suc a / t), div-le_self (suc a) t)

plain_fits : (n : ℕ) → n ≤ most_times → SFits w64 (pos n)
plain_fits n most = record { sfits = omega arith }

-- read with a sign, what is small is itself
plain : (n : ℕ) → n ≤ most_times → to_z w64 n ≡ pos n
plain n most = to_z-of_z (plain_fits n most)

pub times_some : (wanted divider n : ℕ) → 1 ≤ wanted → 1 ≤ divider → n ≡ divider → 0 < wanted * n
times_some wanted divider n some least e = rw e (omega (arith, mul-le-mul some least))

-- the steps as the machine makes them: each result is stored as bits and read again
module _ (clock wanted n : ℕ) (s : InRange clock wanted) (most : n ≤ most_divider) where
  abbrev times : ℕ
  times = wanted * n

  slow : clock ≤ most_times
  slow = omega arith

  pub times_most : times ≤ most_times
  times_most = omega (arith, mul-le-mul s.most most)

  pub times_fit : SFits w64 (pos times)
  times_fit = plain_fits times times_most

  difference : mag (pos clock -ℤ pos times) ≤ most_times
  difference = mag_minus clock times most_times slow times_most

  abbrev millionths : ℤ
  millionths = (pos clock -ℤ pos times) *ℤ pos 1000000

  scaled : mag millionths ≤ suc most_times * 1000000
  scaled = mag_times (pos clock -ℤ pos times) 1000000 most_times difference

  plain_difference : SFits w64 (pos clock -ℤ pos times)
  plain_difference = record { sfits = omega (arith, difference) }

  plain_millionths : SFits w64 millionths
  plain_millionths = record { sfits = omega (arith, scaled) }

  plain_quotient : SFits w64 (quot_z millionths (pos times))
  plain_quotient = record { sfits = omega (arith, scaled, mag_quotient millionths times) }

  abbrev minus : ℤ
  minus = to_z w64 clock -ℤ to_z w64 times

  abbrev product : ℤ
  product = to_z w64 (of_z w64 minus) *ℤ pos 1000000

  abbrev quotient : ℤ
  quotient = quot_z (to_z w64 (of_z w64 product)) (to_z w64 times)

  minus_is : minus ≡ pos clock -ℤ pos times
  minus_is = rw (plain clock slow, plain times times_most)

  product_is : product ≡ millionths
  product_is = rw (minus_is, to_z-of_z plain_difference)

  quotient_is : quotient ≡ quot_z millionths (pos times)
  quotient_is = rw (product_is, to_z-of_z plain_millionths, plain times times_most)

  pub minus_fits : SFits w64 minus
  minus_fits = rw minus_is plain_difference

  pub product_fits : SFits w64 product
  product_fits = rw product_is plain_millionths

  pub quotient_fits : SFits w64 quotient
  quotient_fits = rw quotient_is plain_quotient

  pub deviates : to_z w64 (of_z w64 quotient) ≡ quot_z millionths (pos times)
  deviates = rw (quotient_is, to_z-of_z plain_quotient)
