-- One law for each way through the finder's code.
use Rattle.std.specs.Prelude.{if◌then◌else◌, Option, Some, None, Ok, Err}
use mathlib.Core.Path.{◌≡◌, refl}
use mathlib.Core.Bool.{Bool, true, false}
use Prim.Native.Nat.{ℕ, zero, suc, ◌+◌, ◌*◌, ◌-◌, ◌≤◌, ◌<◌, min}
use native.Mathlib.Omega.{arith}
use lib.Dec.{eqb, ltb}
use borrow.Author.Tests.{ne_eqb, lt-ltb, le-ltb, le-leb, lt-leb}
use Rattle.paper.specs.Stream.{Character}
use Rattle.paper.specs.Decimal.{digit}
use Rattle.paper.specs.Confirmations.{mark, fits, next, judgement_on, counted, litres_of, furthest}
use Rattle.finding.specs.Finder.{formed, form_step, content_in, fresh, grow, closing, quiet, tell, close, step, counts, advance}
use Rattle.finding.specs.Bounds.{character, tens, SoundForm}
use Rattle.paper.specs.declared.Confirmation.{Confirmation}
use Rattle.paper.specs.declared.Judgement.TheVariants.{Accepted, Gap, Repeated, Aside}
use Rattle.finding.specs.declared.Form.{Form}
use Rattle.finding.specs.declared.Begun.{Begun}
use Rattle.finding.specs.declared.Finder.{Finder}
use Rattle.finding.specs.declared.Step.{Step}
use Rattle.finding.specs.declared.Stop.TheVariants.{Full}

-- BOUNDS

tens_up : (i d : ℕ) → tens i ≤ tens (d + i)
tens_up i zero = let e : 0 + i ≡ i = omega arith in rw e (omega arith)
tens_up i (suc d) = let e : suc d + i ≡ suc (d + i) = omega arith in rw e (omega (arith, tens_up i d))

tens_le : (i j : ℕ) → i ≤ j → tens i ≤ tens j
tens_le i j h = let e : j ≡ (j - i) + i = omega arith in rw e (tens_up i (j - i))

module _ (f : Form) (s : SoundForm f) where
  pub number_small : f.seen < 4 → f.number < 1000
  number_small h = omega (arith, s.number, tens_le (min f.seen 4) 3 (omega arith))

  pub litres_small : f.seen < 11 → f.litres < 100000
  litres_small h = omega (arith, s.litres, tens_le (f.seen - 5) 5 (omega arith))

  pub number_whole : f.number < 10000
  number_whole = omega (arith, s.number, tens_le (min f.seen 4) 4 (omega arith))

  pub litres_whole : f.litres ≤ 999999
  litres_whole = omega (arith, s.seen, s.litres, tens_le (f.seen - 5) 6 (omega (arith, s.seen)))

-- FORM

module _ (f : Form) (b : ℕ) where
  pub form_space : f.seen ≡ 4 → b ≡ 0x20 → Some (formed 5 f.number f.litres) ≡ form_step f b
  unfolding form_step fits
  form_space h e = rw (h, e)

  pub form_no_space : f.seen ≡ 4 → (b ≡ 0x20 → ⊥) → None ≡ form_step f b
  unfolding form_step fits
  form_no_space h e = rw (h, ne_eqb b 0x20 e)

  not_fit : (t : Bool) → fits f.seen b ≡ false → ltb f.seen 11 ≡ t → None ≡ form_step f b
  unfolding form_step
  not_fit true h e = rw (e, h)
  not_fit false h e = rw e

  pub form_low : (f.seen ≡ 4 → ⊥) → b < 0x30 → None ≡ form_step f b
  unfolding fits digit
  form_low h e = not_fit (ltb f.seen 11) (rw (ne_eqb f.seen 4 h, lt-leb 0x30 b e)) refl

  pub form_high : (f.seen ≡ 4 → ⊥) → 0x39 < b → None ≡ form_step f b
  unfolding fits digit
  form_high h e = not_fit (ltb f.seen 11) (rw (ne_eqb f.seen 4 h, le-leb 0x30 b (omega arith), lt-leb b 0x39 e)) refl

  pub form_long : 11 ≤ f.seen → None ≡ form_step f b
  unfolding form_step
  form_long h = rw (le-ltb f.seen 11 h)

  pub form_number : f.seen ≤ 3 → 0x30 ≤ b → b ≤ 0x39 → Some (formed (f.seen + 1) (10 * f.number + (b - 0x30)) f.litres) ≡ form_step f b
  unfolding form_step fits digit
  form_number h e g =
      rw (lt-ltb f.seen 11 (omega arith), ne_eqb f.seen 4 (λ z. omega arith), le-leb 0x30 b e, le-leb b 0x39 g, lt-ltb f.seen 4 (omega arith), le-ltb 4 f.seen (omega arith))

  pub form_litres : 5 ≤ f.seen → f.seen ≤ 10 → 0x30 ≤ b → b ≤ 0x39
      → Some (formed (f.seen + 1) f.number (10 * f.litres + (b - 0x30))) ≡ form_step f b
  unfolding form_step fits digit
  form_litres l k e g =
      rw (lt-ltb f.seen 11 (omega arith), ne_eqb f.seen 4 (λ z. omega arith), le-leb 0x30 b e, le-leb b 0x39 g, le-ltb f.seen 4 (omega arith), lt-ltb 4 f.seen (omega arith))

pub content_none : (o : Option Form) → o ≡ None → None ≡ content_in o
unfolding content_in
content_none o e = rw e

module _ (o : Option Form) (f : Form) (is : o ≡ Some f) where
  pub content_short : f.seen < 6 → None ≡ content_in o
  unfolding content_in
  content_short h = rw (is, lt-leb 6 f.seen h)

  pub content_right : 6 ≤ f.seen → f.seen ≤ 11 → Some (record { number = f.number; litres = f.litres }) ≡ content_in o
  unfolding content_in
  content_right h k = rw (is, le-leb 6 f.seen h, le-leb f.seen 11 k)

-- AN ETX

module _ (f : Finder) (g : Begun) where
  pub close_aside : g.damaged ≡ true → tell f (record { place = g.place; judgement = Aside }) ≡ close f (closing (Some g))
  close_aside h = rw h

  pub close_unlisted : g.damaged ≡ false → content_in g.form ≡ None → quiet f None ≡ close f (closing (Some g))
  close_unlisted h e = rw (h, e)

  pub close_listed : (c : Confirmation) → g.damaged ≡ false → content_in g.form ≡ Some c
      → tell f (record { place = g.place; judgement = judgement_on f.last c }) ≡ close f (closing (Some g))
  close_listed c h e = rw (h, e)

counted_by : (c : Confirmation) (same follows : Bool) → c.litres ≤ 999999
    → litres_of (counted (if same then Repeated c else if follows then Accepted c else Gap c)) ≤ 999999
counted_by c true follows h = omega arith
counted_by c false true h = h
counted_by c false false h = h

pub counted_small : (last : Option ℕ) (c : Confirmation) → c.litres ≤ 999999 → litres_of (counted (judgement_on last c)) ≤ 999999
unfolding judgement_on
counted_small None c h = h
counted_small (Some n) c h = counted_by c (eqb c.number n) (eqb c.number (next n)) h

-- A CHARACTER

module _ (f : Finder) (d : Bool) (b : ℕ) where
  pub step_damaged : d ≡ true → quiet f (grow f.run (character d b)) ≡ step f (character d b)
  unfolding step mark
  step_damaged h = rw h

  pub step_start : d ≡ false → b ≡ 0x02 → quiet f (Some (fresh f.passed)) ≡ step f (character d b)
  unfolding step mark
  step_start h e = rw (h, e)

  pub step_finish : d ≡ false → b ≡ 0x03 → close f (closing f.run) ≡ step f (character d b)
  unfolding step mark
  step_finish h e = rw (h, e)

  pub step_inner : d ≡ false → (b ≡ 0x02 → ⊥) → (b ≡ 0x03 → ⊥) → quiet f (grow f.run (character d b)) ≡ step f (character d b)
  unfolding step mark
  step_inner h e k = rw (h, ne_eqb b 0x02 e, ne_eqb b 0x03 k)

-- WHERE IT STILL COUNTS

module _ (f : Finder) (c : Character) (n : Step) (is : n ≡ step f c) where
  pub beyond_places : furthest < n.finder.passed → Err (Full f.passed) ≡ advance f c
  unfolding advance counts
  beyond_places h = rw (← is, lt-leb n.finder.passed furthest h)

  pub beyond_litres : n.finder.passed ≤ furthest → furthest < n.finder.sum → Err (Full f.passed) ≡ advance f c
  unfolding advance counts
  beyond_litres p h = rw (← is, le-leb n.finder.passed furthest p, lt-leb n.finder.sum furthest h)

  pub still_counted : n.finder.passed ≤ furthest → n.finder.sum ≤ furthest → Ok n ≡ advance f c
  unfolding advance counts
  still_counted p h = rw (← is, le-leb n.finder.passed furthest p, le-leb n.finder.sum furthest h)
