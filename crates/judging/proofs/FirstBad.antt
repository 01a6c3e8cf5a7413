-- The first bad field of tests in two parts. Assumes nothing.
use mathlib.Core.Bool.{Bool, true, false}
use mathlib.Core.List.{List, [], ◌∷◌, ◌++◌}
use mathlib.Core.Path.{◌≡◌, refl}
use Prim.Native.Nat.{ℕ}
use native.Mathlib.Omega.{arith}
use lib.Dec.{eqb}
use lib.ListN.{length}
use Rattle.std.specs.Prelude.{Option, Some, None, Result, Ok, Err, if◌then◌else◌}
use Rattle.std.proofs.Math.Option as maybe
use Rattle.std.proofs.Math.Option.{none, some}
use Rattle.paper.specs.declared.Refusal.{Refusal}
use Rattle.paper.specs.declared.Settings.{Settings}
use Rattle.paper.specs.Settings.{Test, tests, settings_of, first_bad, bad_field}
use Rattle.judging.specs.Judged.{fifteen, passed, judged_as}

-- what is answered once tests are passed
abbrev pub and_then : {A : Type 0} → Result Unit Refusal → Result A Refusal → Result A Refusal
and_then (Ok u) r = r
and_then (Err e) r = Err e

pub one_then_other : (ts us : List Test) → passed (first_bad (ts ++ us)) ≡ and_then (passed (first_bad ts)) (passed (first_bad us))
one_then_other [] us = refl
one_then_other (t ∷ ts) us = by_test t.bad (one_then_other ts us)
  where
    by_test : (bad : Bool) → passed (first_bad (ts ++ us)) ≡ and_then (passed (first_bad ts)) (passed (first_bad us))
        → passed (if bad then some t.field else first_bad (ts ++ us))
        ≡ and_then (passed (if bad then some t.field else first_bad ts)) (passed (first_bad us))
    by_test true rest = refl
    by_test false rest = rest

-- fifteen bytes are judged by the tests of their fields
pub fields_judged : (most : ℕ) (l : List ℕ) (s : Settings) → fifteen l ≡ Some s
    → judged_as l (bad_field most l) ≡ and_then (passed (first_bad (tests most s))) (Ok s)
unfolding bad_field
fields_judged most l s e = by_length (eqb (length l) 15) e
  where
    by_tests : (o : maybe.Option ℕ) → judged_as l o ≡ and_then (passed o) (Ok (settings_of l))
    by_tests none = refl
    by_tests (some n) = refl

    by_length : (right : Bool) → ◌≡◌ {A = Option Settings} (if right then Some (settings_of l) else None) (Some s)
        → judged_as l (if right then first_bad (tests most (settings_of l)) else some 0)
        ≡ and_then (passed (first_bad (tests most s))) (Ok s)
    by_length true k = let same : settings_of l ≡ s = cc in rw (← same) (by_tests (first_bad (tests most (settings_of l))))
    by_length false k = absurd (let different : ◌≡◌ {A = ℕ} 0 1 = cc in omega arith)
