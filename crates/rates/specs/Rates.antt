-- WHAT REQUEST c DEMANDS of the choice, as a type: it is allowed, none of the 1275 pairs is nearer, and each refusal is given exactly where it has to be.
-- To be read with 02 c beside it; what is quoted is the request's.
use Rattle.std.specs.Prelude.{◌≡◌, ◌⊎◌, ℕ, suc, ◌*◌, ◌≤◌, ◌<◌, ℤ, pos, nat_abs, Result, Ok, Err}
use mathlib.Core.List.{Memᴰ}
use Rattle.paper.specs.Numbers.{negative}
use Rattle.paper.specs.Rate.{divisors, divider, gap, choose}
use Rattle.paper.specs.declared.Refusal.{Refusal}
use Rattle.paper.specs.declared.Refusal.TheVariants.{OutsideRange, TooFar}
use Rattle.paper.specs.declared.Pair.{Pair}
use Rattle.paper.specs.declared.Chosen.{Chosen}

-- "a clock (1,000,000 to 60,000,000 Hz) and a wanted rate (1 to 230,400)"
pub record InRange (clock wanted : ℕ) : Type 0 where
  pub slow : 1000000 ≤ clock
  pub fast : clock ≤ 60000000
  pub some : 1 ≤ wanted
  pub most : wanted ≤ 230400

-- "a divisor of 8, 32, 128, 512 or 2048 and a period from 1 to 255"
pub record Allowed (p : Pair) : Type 0 where
  pub divisor : Memᴰ p.divisor divisors
  pub least : 1 ≤ p.period
  pub most : p.period ≤ 255

-- "the smaller divisor, then the smaller period"
abbrev pub Before : Pair → Pair → Type 0
Before p q = (p.divisor < q.divisor) ⊎ ((p.divisor ≡ q.divisor) × (p.period ≤ q.period))

module _ (clock wanted : ℕ) where
  -- the distance of one is at most that of the other, "compared as exact fractions"
  abbrev pub AtMost : Pair → Pair → Type 0
  AtMost p q = gap clock wanted (divider p) * divider q ≤ gap clock wanted (divider q) * divider p

  -- "more than 25,000 millionths away, before cutting"
  abbrev pub Far : Pair → Type 0
  Far p = 25000 * (wanted * divider p) < 1000000 * gap clock wanted (divider p)

  abbrev pub EveryFar : Type 0
  EveryFar = (q : Pair) → Allowed q → Far q

  -- "the signed deviation in millionths of the wanted rate, cut toward zero": the most whole millionths that the distance holds, with the side's sign
  pub record Deviates (p : Pair) (deviation : ℤ) : Type 0 where
    pub size : nat_abs deviation * (wanted * divider p) ≤ 1000000 * gap clock wanted (divider p)
    pub cut : 1000000 * gap clock wanted (divider p) < suc (nat_abs deviation) * (wanted * divider p)
    pub above : wanted * divider p ≤ clock → negative deviation ≡ 0
    pub below : clock ≤ wanted * divider p → (deviation ≡ pos 0) ⊎ (negative deviation ≡ 1)

  pub record Right (p : Pair) (deviation : ℤ) : Type 0 where
    pub allowed : Allowed p
    pub nearest : (q : Pair) → Allowed q → AtMost p q
    pub ties : (q : Pair) → Allowed q → AtMost q p → Before p q
    pub near : Far p → ⊥
    pub deviates : Deviates p deviation

  -- what an answer says of a clock and a wanted rate
  pub data Says : Result Chosen Refusal → Type 0 where
    outside : (InRange clock wanted → ⊥) → Says (Err OutsideRange)
    far : InRange clock wanted → EveryFar → Says (Err TooFar)
    chosen : {c : Chosen} → InRange clock wanted → Right c.pair c.deviation → Says (Ok c)

abbrev pub Rates : Type 0
Rates = (clock wanted : ℕ) → Says clock wanted (choose clock wanted)

-- "exactly if": each refusal is given wherever what it says holds
pub record Exactly (clock wanted : ℕ) : Type 0 where
  pub twelve : (InRange clock wanted → ⊥) → choose clock wanted ≡ Err OutsideRange
  pub thirteen : InRange clock wanted → EveryFar clock wanted → choose clock wanted ≡ Err TooFar
