-- A stretch, gone through byte by byte, is what the search makes of its bytes one after the other.
use Rattle.std.specs.Prelude.{cond, not, Option, Some, None, Ok}
use mathlib.Core.Path.{◌≡◌, refl, sym, ap, ◌∙◌}
use mathlib.Core.Bool.{Bool, true, false, ◌||◌, or-false}
use mathlib.Core.List.{List, [], ◌∷◌, ◌++◌}
use Prim.Native.Nat.{ℕ, suc, ◌+◌, ◌≤◌}
use native.Mathlib.Omega.{arith}
use lib.Dec.{eqb}
use lib.ListN.{length, take, drop}
use borrow.Author.Tests.{le-leb}
use Rattle.std.proofs.lemmas.List.{length-take}
use Rattle.std.proofs.lemmas.List.Sums.{prefix_len-le-length}
use Rattle.std.specs.List.{prefix_len}
use Rattle.paper.specs.Stream.{good}
use Rattle.paper.specs.Confirmations.{mark, inner, furthest}
use Rattle.finding.specs.Finder.{form_step, form_on, grow, quiet, step, counts, advance}
use Rattle.finding.specs.Search.{pass, taken_at, outcome}
use Rattle.finding.specs.Search as search
use Rattle.finding.specs.Bounds.{SoundForm, SoundRun, SoundSearch}
use Rattle.finding.specs.Stretches.{is_plain, form_over, run_over, behind}
use Rattle.finding.specs.Walk.{Follows}
use Rattle.finding.specs.declared.Form.{Form}
use Rattle.finding.specs.declared.Begun.{Begun}
use Rattle.finding.specs.declared.Finder.{Finder}
use Rattle.finding.specs.declared.PartRead.TheVariants as parts
use Rattle.finding.specs.declared.Search.{Search}
use Rattle.finding.proofs.Bounded.{form_kept, forms_kept}
use Rattle.finding.proofs.Forms.{form_none, form_first}

-- A FORM

module _ (f g : Form) (b : ℕ) (is : form_step f b ≡ Some g) where
  pub step_sound : SoundForm f → SoundForm g
  step_sound s = rw is at (form_kept f b s)

  pub over_more : (bs cs : List ℕ) → cs ≡ b ∷ bs → form_over (Some f) cs ≡ form_over (Some g) bs
  over_more bs cs e = rw e (ap (λ (o : Option Form). form_over o bs) is)

-- ONE BYTE OF IT

plain_by : (b : ℕ) (t u v : Bool) → eqb b 0xFF ≡ t → eqb b 0x02 ≡ u → eqb b 0x03 ≡ v → not (t || u || v) ≡ true
    → (eqb b 0xFF ≡ false) × (mark (good b) ≡ inner)
unfolding mark
plain_by b false false false e f g h = (e, rw (f, g))
plain_by b true u v e f g h = cc
plain_by b false true v e f g h = cc
plain_by b false false true e f g h = cc

plain : (b : ℕ) → is_plain b ≡ true → (eqb b 0xFF ≡ false) × (mark (good b) ≡ inner)
plain b h = plain_by b (eqb b 0xFF) (eqb b 0x02) (eqb b 0x03) refl refl refl h

advance_plain : (f : Finder) (b : ℕ) → is_plain b ≡ true → f.passed + 1 ≤ furthest → f.sum ≤ furthest
    → advance f (good b) ≡ Ok (quiet f (grow f.run (good b)))
unfolding advance counts step
advance_plain f b p h l = rw ((plain b p).1, le-leb (f.passed + 1) furthest h, le-leb f.sum furthest l)

form_one : (o : Option Form) (b : ℕ) → form_over o (b ∷ []) ≡ form_on o b
form_one o b = sym (form_first o b []) ∙ form_none (form_on o b)

run_one : (o : Option Begun) (b : ℕ) → grow o (good b) ≡ run_over o (b ∷ [])
run_one None b = refl
run_one (Some g) b = rw (or-false, form_one g.form b)

take_plain : (s : Search) (b : ℕ) → s.part ≡ parts.Nothing → is_plain b ≡ true → s.finder.passed + 1 ≤ furthest → s.finder.sum ≤ furthest
    → search.take s b ≡ Ok (record { search = behind s (b ∷ []); entry = None })
unfolding search.take taken_at pass behind
take_plain s b e p h l = rw (e, (plain b p).0, advance_plain s.finder b p h l, run_one s.finder.run b)

-- ALL OF IT

run_more : (o : Option Begun) (b : ℕ) (bs : List ℕ) → run_over (run_over o (b ∷ [])) bs ≡ run_over o (b ∷ bs)
run_more None b bs = refl
run_more (Some g) b bs = rw (form_one g.form b, form_first g.form b bs)

run_none : (o : Option Begun) → run_over o [] ≡ o
run_none None = refl
run_none (Some g) = rw form_none

behind_none : (s : Search) → s ≡ behind s []
unfolding behind
behind_none s =
    let place : s.place + 0 ≡ s.place = omega arith in
    let passed : s.finder.passed + 0 ≡ s.finder.passed = omega arith in
    rw (place, passed, run_none s.finder.run)

behind_more : (s : Search) (b : ℕ) (bs : List ℕ) → behind (behind s (b ∷ [])) bs ≡ behind s (b ∷ bs)
unfolding behind
behind_more s b bs =
    let place : s.place + 1 + length bs ≡ s.place + length (b ∷ bs) = omega arith in
    let passed : s.finder.passed + 1 + length bs ≡ s.finder.passed + length (b ∷ bs) = omega arith in
    rw (place, passed, run_more s.finder.run b bs)

behind_part : (s : Search) (bs : List ℕ) → s.part ≡ parts.Nothing → (behind s bs).part ≡ parts.Nothing
unfolding behind
behind_part s bs e = e

behind_room : (s : Search) (b : ℕ) (bs : List ℕ) → s.finder.passed + length (b ∷ bs) ≤ furthest
    → (behind s (b ∷ [])).finder.passed + length bs ≤ furthest
unfolding behind
behind_room s b bs h = omega arith

behind_sum : (s : Search) (bs : List ℕ) → s.finder.sum ≤ furthest → (behind s bs).finder.sum ≤ furthest
unfolding behind
behind_sum s bs l = l

-- and where the stretch begins with one byte more
module _ (b : ℕ) (bs : List ℕ) (s : Search) (rest : List ℕ) (h : s.finder.passed + 1 ≤ furthest) (l : s.finder.sum ≤ furthest) (e : s.part ≡ parts.Nothing)
    (below : let n = prefix_len is_plain bs in outcome (behind s (b ∷ [])) (bs ++ rest) ≡ outcome (behind (behind s (b ∷ [])) (take n bs)) (drop n bs ++ rest)) where
  comes_by : (t : Bool) → is_plain b ≡ t
      → let n = cond t (1 + prefix_len is_plain bs) 0 in outcome s (b ∷ (bs ++ rest)) ≡ outcome (behind s (take n (b ∷ bs))) (drop n (b ∷ bs) ++ rest)
  comes_by false i = ap (λ (t : Search). outcome t (b ∷ (bs ++ rest))) (behind_none s)
  comes_by true i =
      let one : 1 + prefix_len is_plain bs ≡ suc (prefix_len is_plain bs) = omega arith in
      rw (take_plain s b e i h l, one)
      (below ∙ ap (λ (t : Search). outcome t (drop (prefix_len is_plain bs) bs ++ rest)) (behind_more s b (take (prefix_len is_plain bs) bs)))

comes_on : (piece : List ℕ) (s : Search) → s.part ≡ parts.Nothing → s.finder.passed + length piece ≤ furthest → s.finder.sum ≤ furthest → (rest : List ℕ)
    → let n = prefix_len is_plain piece in outcome s (piece ++ rest) ≡ outcome (behind s (take n piece)) (drop n piece ++ rest)
comes_on [] s e h l rest = ap (λ (t : Search). outcome t rest) (behind_none s)
comes_on (b ∷ bs) s e h l rest =
    comes_by
    b
    bs
    s
    rest
    (omega arith)
    l
    e
    (comes_on bs (behind s (b ∷ [])) (behind_part s (b ∷ []) e) (behind_room s b bs h) (behind_sum s (b ∷ []) l) rest)
    (is_plain b)
    refl

run_sound : (o : Option Begun) (bs : List ℕ) → SoundRun o → SoundRun (run_over o bs)
run_sound None bs s = tt
run_sound (Some g) bs s = forms_kept g.form bs s

behind_sound : (s : Search) (bs : List ℕ) → SoundSearch s → s.finder.passed + length bs ≤ furthest → SoundSearch (behind s bs)
unfolding behind
behind_sound s bs sound h =
    record {
      finder = record { run = run_sound s.finder.run bs sound.finder.run; last = sound.finder.last; passed = h; sum = sound.finder.sum };
      place = omega (arith, sound.place);
    }

pub follows_stretch : (piece : List ℕ) (s : Search) (n : ℕ) → SoundSearch s → s.part ≡ parts.Nothing → s.finder.passed + length piece ≤ furthest
    → n ≡ prefix_len is_plain piece → Follows piece 0 s None n (behind s (take n piece))
follows_stretch piece s n sound e h is =
    let all : n ≤ length piece = rw is (prefix_len-le-length is_plain piece) in
    record {
      comes = λ rest. rw is (comes_on piece s e h sound.finder.sum rest);
      sound = behind_sound s (take n piece) sound (omega (arith, length-take n piece));
      onward = omega arith;
      within = all;
    }
