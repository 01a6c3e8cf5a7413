-- The distances of pairs from the wanted rate: fractions in order, and how they fall and rise along the periods of a divisor.
use mathlib.Core.Bool.{true, false}
use mathlib.Core.Path.{◌≡◌}
use Prim.Native.Nat.{ℕ, zero, suc, ◌+◌, ◌*◌, ◌≤◌, ◌<◌}
use native.Mathlib.Nat.{mul-le-mul_right, mul-lt-mul_of_pos_right, le_of_mul-le-mul_right, lt_of_mul-lt-mul_right}
use native.Mathlib.Omega.{arith}
use borrow.Author.Tests.{ltb-true, ltb-false, lt-ltb, le-ltb}
use Rattle.paper.specs.declared.Pair.{Pair}
use Rattle.rates.proofs.FirstBest.{Ordered}
use Rattle.paper.specs.Rate.{pair, divider, gap, nearer, too_far}

-- fractions a/k, b/m, c/n: what is at most b/m is at most all that b/m is at most. m may be 0 where b is not
at_most : (a k b m c n : ℕ) → 1 ≤ b + m → b * k ≤ a * m → c * m ≤ b * n → c * k ≤ a * n
at_most a zero b zero c n some h g = omega arith
at_most a (suc k) b zero c n some h g = absurd (omega arith)
at_most a k b (suc m) c n some h g =
    le_of_mul-le-mul_right {m = c * k} {n = a * n} {k = suc m}
    (omega (arith, mul-le-mul_right n h, mul-le-mul_right k g)) (omega arith)

-- what is above a bound has nothing below the bound above it
above : (r a k b m : ℕ) → 1 ≤ b + m → 25000 * (r * k) < 1000000 * a → a * m ≤ b * k → 25000 * (r * m) < 1000000 * b
above r a k b zero some h g = omega arith
above r a k b (suc m) some h g =
    let pos : 0 < suc m = omega arith in
    lt_of_mul-lt-mul_right k {m = 25000 * (r * suc m)} {n = 1000000 * b} (omega (arith, mul-lt-mul_of_pos_right h pos))

-- a gap that falls by x while the period rises, and one that rises by x
step_nearer : (g h x d k : ℕ) → h ≡ g + x → 1 ≤ g + x * suc k → 1 ≤ d → g * (d * k) < h * (d * suc k)
step_nearer g h x d k e some pos = rw e (omega (arith, mul-le-mul_right d some))

step_farther : (g h x d k : ℕ) → h ≡ g + x → g ≤ x * k → g * (d * suc k) ≤ h * (d * k)
step_farther g h x d k e most = rw e (omega (arith, mul-le-mul_right d most))

module _ (clock wanted : ℕ) (running : 1 ≤ clock) where
  -- no divider, or no gap, but not both
  some_distance : (n : ℕ) → 1 ≤ gap clock wanted n + n
  unfolding gap
  some_distance zero = omega arith
  some_distance (suc n) = omega arith

  asym : (p q : Pair) → nearer clock wanted p q ≡ true → nearer clock wanted q p ≡ false
  unfolding nearer
  asym p q h = omega (arith, ltb-true, le-ltb)

  keeps : (p q r : Pair) → nearer clock wanted p q ≡ false → nearer clock wanted q r ≡ false → nearer clock wanted p r ≡ false
  unfolding nearer
  keeps p q r h g =
      le-ltb _ _
      (at_most (gap clock wanted (divider p)) (divider p) (gap clock wanted (divider q)) (divider q) (gap clock wanted (divider r)) (divider r) (some_distance (divider q))
      (ltb-false _ _ h) (ltb-false _ _ g))

  pub ordered : Ordered (nearer clock wanted)
  ordered = record { asym = asym; keeps = keeps }

  -- what is not nearer than one too far is too far
  pub far_on : (p q : Pair) → too_far clock wanted p ≡ true → nearer clock wanted q p ≡ false → too_far clock wanted q ≡ true
  unfolding nearer too_far
  far_on p q h g =
      lt-ltb _ _
      (above wanted (gap clock wanted (divider p)) (divider p) (gap clock wanted (divider q)) (divider q) (some_distance (divider q))
      (ltb-true _ _ h) (ltb-false _ _ g))

  module _ (divisor period : ℕ) where
    -- up to the exact period each is nearer than the one before
    pub rises : 1 ≤ divisor → wanted * divisor * suc period ≤ clock
        → nearer clock wanted (pair divisor (suc period)) (pair divisor period) ≡ true
    unfolding nearer gap
    rises some below =
        lt-ltb _ _
        (step_nearer (gap clock wanted (divisor * suc period)) (gap clock wanted (divisor * period)) (wanted * divisor) divisor period
        (omega arith) (omega arith) some)

    -- beyond it none is
    pub falls : clock ≤ wanted * divisor * period
        → nearer clock wanted (pair divisor (suc period)) (pair divisor period) ≡ false
    unfolding nearer gap
    falls above =
        le-ltb _ _
        (step_farther (gap clock wanted (divisor * period)) (gap clock wanted (divisor * suc period)) (wanted * divisor) divisor period
        (omega arith) (omega arith))
