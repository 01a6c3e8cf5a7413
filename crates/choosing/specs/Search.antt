-- The search: what its numbers keep to.
use Rattle.std.specs.Prelude.{◌≡◌, ℕ, ◌+◌, ◌*◌, ◌≤◌, ◌<◌, if◌then◌else◌, Result, Ok, Err}
use Rattle.paper.specs.Rate.{divider, gap, deviating, too_far, deviation}
use Rattle.paper.specs.declared.Refusal.{Refusal}
use Rattle.paper.specs.declared.Refusal.TheVariants.{TooFar}
use Rattle.paper.specs.declared.Pair.{Pair}
use Rattle.paper.specs.declared.Chosen.{Chosen}

-- the greatest divider, 2048 times 255, and the greatest rate times it. So each product fits: a distance is at most this one, since the clock is, and a
-- distance times a divider, or times a million, is below 2 ^ 57
abbrev pub most_divider : ℕ
most_divider = 522240

abbrev pub most_times : ℕ
most_times = 120324096000

-- a pair whose products fit
pub record Held (p : Pair) : Type 0 where
  pub some : 1 ≤ p.divisor * p.period
  pub divisor : p.divisor ≤ 2048
  pub period : p.period ≤ 255

-- within the bounds, so that its products fit
pub record Bounded (wanted n distance : ℕ) : Type 0 where
  pub divider : n ≤ most_divider
  pub times : wanted * n ≤ most_times
  pub gap : distance ≤ most_times

-- a pair with its own divider and distance
pub record Measured (clock wanted : ℕ) (p : Pair) (n distance : ℕ) : Type 0 where
  pub divider : n ≡ divider p
  pub gap : distance ≡ gap clock wanted n
  pub fits : Held p
  pub within : Bounded wanted n distance

-- the period from 1 to 255 that the exact one, clock over step, stands at or behind
pub record Beside (clock step period : ℕ) : Type 0 where
  pub least : 1 ≤ period
  pub most : period ≤ 255
  pub below : 1 < period → step * period ≤ clock
  pub above : period < 255 → clock ≤ step * (period + 1)

-- the answer that a kept pair gives
unfoldable pub told_of : (clock wanted : ℕ) → Pair → Result Chosen Refusal
told_of clock wanted p = if too_far clock wanted p then Err TooFar else Ok (deviating p (deviation clock wanted p))
