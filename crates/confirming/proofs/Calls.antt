-- The call's answers, by what the first pass counted.
use mathlib.Core.Path.{◌≡◌, refl, sym, ◌∙◌}
use mathlib.Core.Bool.{Bool, true, false, not, ◌||◌}
use mathlib.Core.List.{List, [], ◌∷◌}
use Prim.Native.Nat.{ℕ, ◌≤◌}
use native.Mathlib.Omega.{arith}
use lib.Dec.{ltb}
use lib.ListN.{length}
use borrow.Author.Tests.{ltb-false}
use Rattle.std.specs.Prelude.{if◌then◌else◌, Some, Ok, Err}
use Rattle.paper.specs.Stream.{readout}
use Rattle.paper.specs.Confirmations.{sum, countable, LentList, places_of, listed_in, Confirmed, confirmed_as, confirm}
use Rattle.paper.specs.declared.Refusal.TheVariants.{BrokenStream, TooManyEntries}
use Rattle.paper.specs.declared.Refusal.{Refusal}
use Rattle.paper.specs.declared.Listed.{Listed}
use Rattle.stream.specs.Scan.{scanned}
use Rattle.confirming.specs.Counted.{counted_in, entries_in, HasPlaces}
use Rattle.confirming.specs.Promise.{Promise, OneAnswer}

promised : {s : List ℕ} {l : LentList} {r : Confirmed} → confirm s l ≡ r → Promise s l r
promised e = record { gives = sym e; says = rw e }

pub one_answer : OneAnswer
one_answer s l r r' p q = p.gives ∙ sym q.gives

-- 8 COMES FIRST

pub refuses_broken : (s : List ℕ) (l : LentList) (place : ℕ) → Some place ≡ scanned s (readout s).rest
    → Promise s l (record { answer = Err (BrokenStream place); list = l })
unfolding confirm
refuses_broken s l place e = promised (go (readout s).rest e)
  where
    go : (rest : List ℕ) → Some place ≡ scanned s rest
        → confirmed_as s l (readout s).characters rest ≡ record { answer = Err (BrokenStream place); list = l }
    go [] e = cc
    go (b ∷ rest) e = cc

-- THEN 16, of a stream of which nothing is broken

refused_by : (t : Bool) (a : Refusal) (m : Listed) (x y : Confirmed) → Err a ≡ (if t then Err TooManyEntries else Ok m)
    → record { is : a ≡ TooManyEntries; first : (if t then x else y) ≡ x }
refused_by true a m x y e = record { is = cc; first = refl }
refused_by false a m x y e = cc

record Counts (t u : Bool) (k m : Listed) : Type 0 where
  few : t ≡ false
  countable : u ≡ true
  listed : k ≡ m

counts_by : (t u : Bool) (k m : Listed) → Ok k ≡ (if t || not u then Err TooManyEntries else Ok m) → Counts t u k m
counts_by true u k m e = cc
counts_by false true k m e = record { few = refl; countable = refl; listed = cc }
counts_by false false k m e = cc

module _ (s : List ℕ) (l : LentList) (none : (readout s).rest ≡ []) where
  pub refuses_many : (a : Refusal) → Err a ≡ counted_in (readout s).characters (places_of l) → Promise s l (record { answer = Err a; list = l })
  unfolding confirm counted_in
  refuses_many a e =
      let by = refused_by (ltb (places_of l) (length (entries_in s)) || not (countable (readout s).characters)) a _ _ _ e in
      promised (rw (none, by.is) by.first)

  module _ (k : Listed) (e : Ok k ≡ counted_in (readout s).characters (places_of l)) where
    counts : Counts
        (ltb (places_of l) (length (entries_in s)))
        (countable (readout s).characters)
        k
        (record { entries = length (entries_in s); litres = sum (readout s).characters })
    unfolding counted_in
    counts = counts_by _ _ k _ e

    pub has_places : HasPlaces s l
    has_places =
        let few : length (entries_in s) ≤ places_of l = omega (arith, ltb-false (places_of l) (length (entries_in s)) counts.few) in
        record {
          whole = none;
          counts = counts.countable;
          in_places = omega arith;
          in_numbers = omega arith;
          in_litres = omega arith;
          in_judgements = omega arith;
        }

    pub lists : Promise s l (record { answer = Ok k; list = listed_in (entries_in s) l })
    unfolding confirm
    lists = promised (rw (none, counts.few, counts.countable, counts.listed))
