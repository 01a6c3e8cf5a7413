-- The front of a stream's characters that can be counted is all of them, or they cannot be counted.
use mathlib.Core.Path.{◌≡◌, refl, sym, ap, ◌∙◌}
use mathlib.Core.Bool.{Bool, true, false, true≢false, ◌&&◌}
use mathlib.Core.List.{List, [], ◌∷◌, ◌++◌, append_assoc, append-nil}
use Prim.Native.Nat.{ℕ, ◌+◌, ◌≤◌, ◌<◌}
use native.Mathlib.Omega.{arith}
use lib.Dec.{leb}
use lib.ListN.{length, length-append}
use borrow.Author.Tests.{eq-eqb, ne_eqb, le-leb, leb-true}
use Rattle.std.specs.Prelude.{if◌then◌else◌}
use Rattle.paper.specs.Stream.{Character, readout}
use Rattle.paper.specs.Confirmations.{sum, countable, furthest}
use Rattle.paper.specs.Yield.{counted_front}
use Rattle.finding.specs.Finder.{after}
use Rattle.finding.specs.Finder as finder
use Rattle.finding.specs.Search.{comes_to, Whole, counted, uncounted, WholeStreams}
use Rattle.finding.specs.declared.Finder.{Finder}
use Rattle.finding.proofs.Finds.{after_pieces, sum_after}
use Rattle.finding.proofs.Outcomes.{sum_of, searches}

-- a front has no more litres than all of the characters
sum_grows : (cs ds : List Character) → sum cs ≤ sum (cs ++ ds)
sum_grows cs ds =
    omega (
      arith,
      sum_of cs,
      sum_of (cs ++ ds),
      ap (λ (f : Finder). f.sum) (after_pieces finder.beginning cs ds),
      sum_after (after finder.beginning cs) ds,
    )

both : (t u : Bool) → (t && u) ≡ true → (t ≡ true) × (u ≡ true)
both true u e = (refl, e)
both false u e = absurd (true≢false (sym e))

front_countable : (cs ds : List Character) → countable (cs ++ ds) ≡ true → countable cs ≡ true
unfolding countable
front_countable cs ds e =
    let p = both (leb (length (cs ++ ds)) furthest) (leb (sum (cs ++ ds)) furthest) e in
    let places : length cs ≤ furthest = omega (arith, leb-true (length (cs ++ ds)) furthest p.0, length-append cs ds) in
    let litres : sum cs ≤ furthest = omega (arith, leb-true (sum (cs ++ ds)) furthest p.1, sum_grows cs ds) in
    rw (le-leb (length cs) furthest places, le-leb (sum cs) furthest litres)

uncountable : (cs ds : List Character) → countable cs ≡ false → (t : Bool) → countable (cs ++ ds) ≡ t → t ≡ false
uncountable cs ds e true h = absurd (true≢false (sym (front_countable cs ds h) ∙ e))
uncountable cs ds e false h = refl

-- all of them, or fewer of what cannot be counted
data Reaches (p cs front : List Character) : Type 0 where
  all : front ≡ p ++ cs → countable (p ++ cs) ≡ true → Reaches p cs front
  fewer : length front < length p + length cs → countable (p ++ cs) ≡ false → Reaches p cs front

behind_one : (p : List Character) (c : Character) (cs : List Character) → (p ++ c ∷ []) ++ cs ≡ p ++ c ∷ cs
behind_one p c cs = append_assoc p (c ∷ []) cs

reaches_more : (p : List Character) (c : Character) (cs front : List Character) → Reaches (p ++ c ∷ []) cs front → Reaches p (c ∷ cs) front
reaches_more p c cs front (all is e) = all (is ∙ behind_one p c cs) (ap countable (sym (behind_one p c cs)) ∙ e)
reaches_more p c cs front (fewer h e) = fewer (omega (arith, length-append p (c ∷ []))) (ap countable (sym (behind_one p c cs)) ∙ e)

reaches_by : (p : List Character) (c : Character) (cs : List Character) → (countable (p ++ c ∷ []) ≡ true → Reaches (p ++ c ∷ []) cs (counted_front (p ++ c ∷ []) cs))
    → (t : Bool) → countable (p ++ c ∷ []) ≡ t → Reaches p (c ∷ cs) (if t then counted_front (p ++ c ∷ []) cs else p)
reaches_by p c cs below true e = reaches_more p c cs (counted_front (p ++ c ∷ []) cs) (below e)
reaches_by p c cs below false e =
    fewer (omega arith) (ap countable (sym (behind_one p c cs)) ∙ uncountable (p ++ c ∷ []) cs e (countable ((p ++ c ∷ []) ++ cs)) refl)

reaches : (p cs : List Character) → countable p ≡ true → Reaches p cs (counted_front p cs)
reaches p [] e = all (sym (append-nil p)) (ap countable (append-nil p) ∙ e)
reaches p (c ∷ cs) e = reaches_by p c cs (λ h. reaches (p ++ c ∷ []) cs h) (countable (p ++ c ∷ [])) refl

none_countable : countable [] ≡ true
unfolding countable
none_countable = refl

whole_by : (s : List ℕ) (cs front : List Character) → Reaches [] cs front → Whole cs (comes_to s cs front [])
whole_by s cs front (all is e) = rw (is, eq-eqb (length cs) (length cs) refl) (counted e)
whole_by s cs front (fewer h e) = rw (ne_eqb (length front) (length cs) (λ z. omega arith)) (uncounted e _ _)

pub whole_streams : WholeStreams
whole_streams s none =
    rw (searches s, none) (whole_by s (readout s).characters (counted_front [] (readout s).characters) (reaches [] (readout s).characters none_countable))
