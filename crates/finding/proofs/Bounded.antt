-- The finder's bounds hold of its beginning and are kept by every step.
use mathlib.Core.Path.{◌≡◌, refl}
use mathlib.Core.Bool.{Bool, true, false, ◌&&◌}
use Prim.Native.Nat.{ℕ, suc, ◌+◌, ◌*◌, ◌-◌, ◌≤◌, ◌<◌, min}
use native.Mathlib.Omega.{arith}
use lib.Dec.{eqb, leb, ltb}
use borrow.Author.Tests.{eqb-true, ltb-true, ltb-false, leb-true}
use Rattle.std.specs.Prelude.{if◌then◌else◌, List, [], ◌∷◌, Option, Some, None, IfSome, Ok, Err, IfOk}
use Rattle.paper.specs.Stream.{Character, byte}
use Rattle.paper.specs.Decimal.{digit}
use Rattle.paper.specs.Confirmations.{Mark, start, finish, inner, mark, fits, Finding, finding, next, judgement_on, judgement, counted, last_after, judge, furthest}
use Rattle.finding.specs.Finder.{formed, form_step, form_on, content_in, grow, closing, close, step_at, step, counts, advance, beginning}
use Rattle.finding.specs.Stretches.{form_over}
use Rattle.finding.specs.Bounds.{tens, SoundForm, SoundRun, SoundLast, SoundFinder}
use Rattle.paper.specs.declared.Confirmation.{Confirmation}
use Rattle.paper.specs.declared.Judgement.TheVariants.{Accepted, Gap, Repeated}
use Rattle.finding.specs.declared.Form.{Form}
use Rattle.finding.specs.declared.Begun.{Begun}
use Rattle.finding.specs.declared.Finder.{Finder}
use Rattle.finding.specs.declared.Step.{Step}
use Rattle.finding.specs.declared.Stop.TheVariants.{Full}
use Rattle.finding.proofs.Steps.{number_whole, litres_whole}

-- FORM

fit_by : (b : ℕ) (four space low high : Bool) → eqb b 0x20 ≡ space → leb b 0x39 ≡ high
    → (if four then space else low && high) ≡ true → b - 0x30 ≤ 9
fit_by b true true low high e h is = omega (arith, eqb-true b 0x20 e)
fit_by b true false low high e h is = let z : ◌≡◌ {A = ℕ} 0 1 = cc in absurd (omega arith)
fit_by b false space true true e h is = omega (arith, leb-true b 0x39 h)
fit_by b false space true false e h is = let z : ◌≡◌ {A = ℕ} 0 1 = cc in absurd (omega arith)
fit_by b false space false high e h is = let z : ◌≡◌ {A = ℕ} 0 1 = cc in absurd (omega arith)

fit_small : (k b : ℕ) → fits k b ≡ true → b - 0x30 ≤ 9
unfolding fits digit
fit_small k b is = fit_by b (eqb k 4) (eqb b 0x20) (leb 0x30 b) (leb b 0x39) refl refl is

module _ (f : Form) (b : ℕ) (s : SoundForm f) (small : b - 0x30 ≤ 9) where
  number_kept : (t : Bool) → ltb f.seen 4 ≡ t → (if t then 10 * f.number + (b - 0x30) else f.number) < tens (min (f.seen + 1) 4)
  number_kept true e =
      let i : min (f.seen + 1) 4 ≡ suc (min f.seen 4) = omega (arith, ltb-true f.seen 4 e) in rw i (omega (arith, s.number))
  number_kept false e = let i : min (f.seen + 1) 4 ≡ min f.seen 4 = omega (arith, ltb-false f.seen 4 e) in rw i s.number

  litres_kept : (t : Bool) → ltb 4 f.seen ≡ t → (if t then 10 * f.litres + (b - 0x30) else f.litres) < tens (f.seen + 1 - 5)
  litres_kept true e = let i : f.seen + 1 - 5 ≡ suc (f.seen - 5) = omega (arith, ltb-true 4 f.seen e) in rw i (omega (arith, s.litres))
  litres_kept false e = let i : f.seen + 1 - 5 ≡ f.seen - 5 = omega (arith, ltb-false 4 f.seen e) in rw i s.litres

form_kept_by : (f : Form) (b : ℕ) → SoundForm f → (short fit : Bool) → ltb f.seen 11 ≡ short → fits f.seen b ≡ fit
    → IfSome
    (if short && fit
    then Some
    (formed (f.seen + 1)
    (if ltb f.seen 4 then 10 * f.number + (b - 0x30) else f.number)
    (if ltb 4 f.seen then 10 * f.litres + (b - 0x30) else f.litres))
    else None)
    SoundForm
form_kept_by f b s true true e h =
    record {
      seen = omega (arith, ltb-true f.seen 11 e);
      number = number_kept f b s (fit_small f.seen b h) (ltb f.seen 4) refl;
      litres = litres_kept f b s (fit_small f.seen b h) (ltb 4 f.seen) refl;
    }
form_kept_by f b s true false e h = tt
form_kept_by f b s false fit e h = tt

pub form_kept : (f : Form) (b : ℕ) → SoundForm f → IfSome (form_step f b) SoundForm
unfolding form_step
form_kept f b s = form_kept_by f b s (ltb f.seen 11) (fits f.seen b) refl refl

pub form_on_kept : (o : Option Form) (b : ℕ) → IfSome o SoundForm → IfSome (form_on o b) SoundForm
form_on_kept None b s = tt
form_on_kept (Some f) b s = form_kept f b s

pub forms_kept : (o : Option Form) (bs : List ℕ) → IfSome o SoundForm → IfSome (form_over o bs) SoundForm
forms_kept None bs s = tt
forms_kept (Some f) [] s = s
forms_kept (Some f) (b ∷ bs) s = forms_kept (form_step f b) bs (form_kept f b s)

run_kept : (o : Option Begun) (c : Character) → SoundRun o → SoundRun (grow o c)
run_kept None c s = tt
run_kept (Some g) c s = form_on_kept g.form (byte c) s

-- CONTENT

abbrev SoundConfirmation : Option Confirmation → Type 0
SoundConfirmation None = Unit
SoundConfirmation (Some c) = (c.number < 10000) × (c.litres ≤ 999999)

content_by : (f : Form) → SoundForm f → (least most : Bool) → leb f.seen 11 ≡ most
    → SoundConfirmation (if least && most then Some (record { number = f.number; litres = f.litres }) else None)
content_by f s true true e = (number_whole f s, litres_whole f s)
content_by f s true false e = tt
content_by f s false most e = tt

content_sound : (o : Option Form) → IfSome o SoundForm → SoundConfirmation (content_in o)
unfolding content_in
content_sound None s = tt
content_sound (Some f) s = content_by f s (leb 6 f.seen) (leb f.seen 11) refl

counted_by : (c : Confirmation) (same follows : Bool) → SoundConfirmation (Some c)
    → SoundConfirmation (counted (if same then Repeated c else if follows then Accepted c else Gap c))
counted_by c true follows s = tt
counted_by c false true s = s
counted_by c false false s = s

counted_sound : (last : Option ℕ) (o : Option Confirmation) → SoundConfirmation o → SoundConfirmation (counted (judgement last o))
unfolding judgement_on
counted_sound last None s = tt
counted_sound None (Some c) s = s
counted_sound (Some n) (Some c) s = counted_by c (eqb c.number n) (eqb c.number (next n)) s

abbrev SoundFinding : Option Finding → Type 0
SoundFinding None = Unit
SoundFinding (Some g) = SoundConfirmation g.content

finding_sound : (place : ℕ) (t : Bool) (o : Option Confirmation) → SoundConfirmation o → SoundFinding (finding place t o)
finding_sound place true o s = tt
finding_sound place false None s = tt
finding_sound place false (Some c) s = s

closing_sound : (o : Option Begun) → SoundRun o → SoundFinding (closing o)
closing_sound None s = tt
closing_sound (Some g) s = finding_sound g.place g.damaged (content_in g.form) (content_sound g.form s)

-- STEPS

-- a run and a number last accepted, as `SoundFinder` has them
record SoundRest (f : Finder) : Type 0 where
  run : SoundRun f.run
  last : SoundLast f.last

tell_kept : (f : Finder) (o : Option Confirmation) → SoundFinder f → SoundConfirmation o → SoundLast (last_after f.last o)
tell_kept f None s t = s.last
tell_kept f (Some c) s t = t.0

close_kept : (f : Finder) (o : Option Finding) → SoundFinder f → SoundFinding o → SoundRest (close f o).finder
close_kept f None s t = record { run = tt; last = s.last }
close_kept f (Some g) s t = record { run = tt; last = tell_kept f (counted (judge f.last g).judgement) s (counted_sound f.last g.content t) }

kept_by : (m : Mark) (f : Finder) (c : Character) → SoundFinder f → SoundRest (step_at m f c).finder
kept_by start f c s = record { run = record { seen = omega arith; number = omega arith; litres = omega arith }; last = s.last }
kept_by finish f c s = close_kept f (closing f.run) s (closing_sound f.run s.run)
kept_by inner f c s = record { run = run_kept f.run c s.run; last = s.last }

rest_kept : (f : Finder) (c : Character) → SoundFinder f → SoundRest (step f c).finder
unfolding step
rest_kept f c s = kept_by (mark c) f c s

kept_or_full : (f : Finder) (n : Step) → SoundFinder f → SoundRest n.finder → (passed sum : Bool)
    → leb n.finder.passed furthest ≡ passed → leb n.finder.sum furthest ≡ sum
    → IfOk (if passed && sum then Ok n else Err (Full f.passed)) (λ k. SoundFinder k.finder)
kept_or_full f n s r true true p q =
    record { run = r.run; last = r.last; passed = leb-true n.finder.passed furthest p; sum = leb-true n.finder.sum furthest q }
kept_or_full f n s r true false p q = tt
kept_or_full f n s r false t p q = tt

pub advance_kept : (f : Finder) (c : Character) → SoundFinder f → IfOk (advance f c) (λ k. SoundFinder k.finder)
unfolding advance counts
advance_kept f c s =
    kept_or_full
    f
    (step f c)
    s
    (rest_kept f c s)
    (leb (step f c).finder.passed furthest)
    (leb (step f c).finder.sum furthest)
    refl
    refl

pub fresh : SoundFinder beginning
fresh = record { run = tt; last = tt; passed = omega arith; sum = omega arith }
