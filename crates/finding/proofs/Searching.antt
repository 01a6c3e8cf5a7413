-- One law for each way through the search's code, and its bounds.
use mathlib.Core.Path.{◌≡◌, refl, ap, ◌∙◌}
use mathlib.Core.Bool.{Bool, true, false, ◌&&◌}
use Prim.Native.Nat.{ℕ, ◌+◌, ◌*◌, ◌≤◌}
use native.Mathlib.Omega.{arith}
use lib.Dec.{eqb, leb}
use borrow.Author.Tests.{ne_eqb, leb-true}
use Rattle.std.specs.Prelude.{if◌then◌else◌, Option, Some, None, Result, Ok, Err, IfOk}
use Rattle.paper.specs.Stream.{Character, good, damaged}
use Rattle.paper.specs.Confirmations.{Mark, start, finish, inner, mark, Finding, furthest}
use Rattle.finding.specs.Finder.{closing, close, step_at, step, counts, advance}
use Rattle.finding.specs.Search.{waits, behind, passed, pass, taken_at, take}
use Rattle.finding.specs.Bounds.{SoundFinder, SoundSearch, Bounds}
use Rattle.finding.specs.declared.Finder.{Finder}
use Rattle.finding.specs.declared.Step.{Step}
use Rattle.finding.specs.declared.PartRead.{PartRead}
use Rattle.finding.specs.declared.PartRead.TheVariants as parts
use Rattle.finding.specs.declared.Search.{Search}
use Rattle.finding.specs.declared.Stop.{Stop}
use Rattle.finding.specs.declared.Stop.TheVariants.{Broken, Full}
use Rattle.finding.specs.declared.Taken.{Taken}
use Rattle.finding.proofs.Bounded.{fresh, advance_kept}

-- every step counts its character
counts_by : (f : Finder) (o : Option Finding) → (close f o).finder.passed ≡ f.passed + 1
counts_by f None = refl
counts_by f (Some g) = refl

counts_at : (m : Mark) (f : Finder) (c : Character) → (step_at m f c).finder.passed ≡ f.passed + 1
counts_at start f c = refl
counts_at finish f c = counts_by f (closing f.run)
counts_at inner f c = refl

pub counts_one : (f : Finder) (c : Character) → (step f c).finder.passed ≡ f.passed + 1
unfolding step
counts_one f c = counts_at (mark c) f c

-- and a finder that does not stop took it
took_by : (f : Finder) (n k : Step) (t u : Bool) → leb n.finder.passed furthest ≡ t
    → (if t && u then Ok n else Err (Full f.passed)) ≡ Ok k → (k ≡ n) × (n.finder.passed ≤ furthest)
took_by f n k true true e h = (cc, leb-true n.finder.passed furthest e)
took_by f n k true false e h = cc
took_by f n k false u e h = cc

pub took : (f : Finder) (c : Character) (k : Step) → advance f c ≡ Ok k → (k ≡ step f c) × (k.finder.passed ≡ f.passed + 1) × (k.finder.passed ≤ furthest)
unfolding advance counts
took f c k h =
    let w = took_by f (step f c) k (leb (step f c).finder.passed furthest) (leb (step f c).finder.sum furthest) refl h in
    let one : k.finder.passed ≡ f.passed + 1 = ap (λ (n : Step). n.finder.passed) w.0 ∙ counts_one f c in
    (w.0, one, omega (arith, w.1, one, counts_one f c))

-- A WHOLE CHARACTER

module _ (s : Search) (width : ℕ) (c : Character) where
  place_kept : (k : Step) → advance s.finder c ≡ Ok k → SoundSearch s → width ≤ 3 → s.place + width ≤ 3 * k.finder.passed
  place_kept k is sound h = let w = took s.finder c k is in omega (arith, sound.place, w.1)

  pub place_fits : (k : Step) → advance s.finder c ≡ Ok k → SoundSearch s → width ≤ 3 → s.place + width ≤ 18446744073709551615
  place_fits k is sound h = let w = took s.finder c k is in omega (arith, place_kept k is sound h, w.2)

  pub passes : (k : Step) → advance s.finder c ≡ Ok k → Ok (behind s width k) ≡ pass s width c
  unfolding pass
  passes k h = rw h

  pub pass_stops : (e : Stop) → advance s.finder c ≡ Err e → Err e ≡ pass s width c
  unfolding pass
  pass_stops e h = rw h

-- A BYTE

module _ (s : Search) (b : ℕ) where
  pub mark_begins : s.part ≡ parts.Nothing → b ≡ 0xFF → Ok (waits s parts.Mark) ≡ take s b
  unfolding take taken_at
  mark_begins p h = rw (p, h)

  pub good_one : s.part ≡ parts.Nothing → (b ≡ 0xFF → ⊥) → pass s 1 (good b) ≡ take s b
  unfolding take taken_at
  good_one p h = rw (p, ne_eqb b 0xFF h)

  pub doubled_one : s.part ≡ parts.Mark → b ≡ 0xFF → pass s 2 (good 0xFF) ≡ take s b
  unfolding take taken_at
  doubled_one p h = rw (p, h)

  pub zero_follows : s.part ≡ parts.Mark → b ≡ 0x00 → Ok (waits s parts.MarkZero) ≡ take s b
  unfolding take taken_at
  zero_follows p h = rw (p, h)

  pub broken_one : s.part ≡ parts.Mark → (b ≡ 0xFF → ⊥) → (b ≡ 0x00 → ⊥) → Err (Broken s.place) ≡ take s b
  unfolding take taken_at
  broken_one p h k = rw (p, ne_eqb b 0xFF h, ne_eqb b 0x00 k)

  pub damaged_one : s.part ≡ parts.MarkZero → pass s 3 (damaged b) ≡ take s b
  unfolding take taken_at
  damaged_one p = rw p

-- BOUNDS

pass_kept : (s : Search) (width : ℕ) (c : Character) → SoundSearch s → width ≤ 3 → IfOk (pass s width c) (λ k. SoundSearch k.search)
unfolding pass
pass_kept s width c sound h = by (advance s.finder c) refl (advance_kept s.finder c sound.finder)
  where
    by : (r : Result Step Stop) → advance s.finder c ≡ r → IfOk r (λ k. SoundFinder k.finder) → IfOk (passed s width r) (λ k. SoundSearch k.search)
    by (Ok k) is kept = record { finder = kept; place = place_kept s width c k is sound h }
    by (Err e) is kept = tt

chosen_kept : (t : Bool) (k l : Result Taken Stop) → IfOk k (λ n. SoundSearch n.search) → IfOk l (λ n. SoundSearch n.search)
    → IfOk (if t then k else l) (λ n. SoundSearch n.search)
chosen_kept true k l h i = h
chosen_kept false k l h i = i

taken_kept : (p : PartRead) (s : Search) (b : ℕ) → SoundSearch s → IfOk (taken_at p s b) (λ k. SoundSearch k.search)
unfolding taken_at
taken_kept parts.Nothing s b h =
    chosen_kept (eqb b 0xFF) (Ok (waits s parts.Mark)) (pass s 1 (good b)) (record { finder = h.finder; place = h.place }) (pass_kept s 1 (good b) h (omega arith))
taken_kept parts.Mark s b h =
    chosen_kept
    (eqb b 0xFF)
    (pass s 2 (good 0xFF))
    (if eqb b 0x00 then Ok (waits s parts.MarkZero) else Err (Broken s.place))
    (pass_kept s 2 (good 0xFF) h (omega arith))
    (chosen_kept (eqb b 0x00) (Ok (waits s parts.MarkZero)) (Err (Broken s.place)) (record { finder = h.finder; place = h.place }) tt)
taken_kept parts.MarkZero s b h = pass_kept s 3 (damaged b) h (omega arith)

take_kept : (s : Search) (b : ℕ) → SoundSearch s → IfOk (take s b) (λ k. SoundSearch k.search)
unfolding take
take_kept s b h = taken_kept s.part s b h

pub bounds : Bounds
bounds = record { fresh = fresh; kept = advance_kept; beginning = record { finder = fresh; place = omega arith }; searched = take_kept }
