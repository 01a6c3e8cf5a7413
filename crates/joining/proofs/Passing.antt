-- What two boxes let out, and the setting that lets out the same.
use mathlib.Core.Bool.{Bool, true, false, ◌||◌}
use mathlib.Core.List.{[], ◌∷◌, ◌++◌, append-nil}
use mathlib.Core.Path.{◌≡◌, refl, ap, ◌∙◌}
use Prim.Native.Nat.{ℕ, ◌+◌}
use lib.Bits.{bit_and}
use lib.Dec.{eqb, ltb}
use borrow.Author.Tests.{ltb-true, ltb-false}
use Rattle.std.specs.Prelude.{if◌then◌else◌, Option, None, Some, Result, Ok, Err, option_and_then}
use Rattle.paper.specs.Choice.{outside}
use Rattle.paper.specs.Arrival.{CR, NL, ending}
use Rattle.paper.specs.TwoBoxes.{comes, acts, followed, works, single, one_ending}
use Rattle.paper.specs.declared.Refusal.{Refusal}
use Rattle.paper.specs.declared.Refusal.TheVariants.{BadField}
use Rattle.rules.proofs.Rows.{cr_by_bits, nl_by_bits, no_cr, no_nl}
use Rattle.joining.specs.Passing.{passed, Ends, dropped, as_cr, as_nl, bits_of_cr, bit_of_nl, least_for, setting_of}

-- WHAT COMES OUT OF A ROW

cr_out : (drops turns : Bool) → Ends (if drops then if turns then Some CR else Some NL else None)
cr_out true true = as_cr
cr_out true false = as_nl
cr_out false turns = dropped

nl_out : (turns : Bool) → Ends (if turns then Some NL else Some CR)
nl_out true = as_nl
nl_out false = as_cr

cr_ends : (value : ℕ) → Ends (ending value CR)
cr_ends value = go (ltb 7 value) refl
  where
    go : (t : Bool) → ltb 7 value ≡ t → Ends (ending value CR)
    go true e = rw (no_cr value (ltb-true 7 value e)) dropped
    go false e = rw (cr_by_bits value (ltb-false 7 value e)) (cr_out (eqb (bit_and value 4) 0) (eqb (bit_and value 2) 0))

nl_ends : (value : ℕ) → Ends (ending value NL)
nl_ends value = go (ltb 7 value) refl
  where
    go : (t : Bool) → ltb 7 value ≡ t → Ends (ending value NL)
    go true e = rw (no_nl value (ltb-true 7 value e)) dropped
    go false e = rw (nl_by_bits value (ltb-false 7 value e)) (nl_out (eqb (bit_and value 1) 0))

-- ONE BOX BEHIND THE OTHER

onward : (second : ℕ) {o : Option ℕ} → Ends o → Ends (option_and_then (ending second) o)
onward second dropped = dropped
onward second as_cr = cr_ends second
onward second as_nl = nl_ends second

pub both_cr : (first second : ℕ) → Ends (passed first second CR)
both_cr first second = onward second (cr_ends first)

pub both_nl : (first second : ℕ) → Ends (passed first second NL)
both_nl first second = onward second (nl_ends first)

-- THE SETTING

pub followed_is : (first second b : ℕ) → followed first second (b ∷ []) ≡ comes (passed first second b)
followed_is first second b = go (ending first b)
  where
    go : (o : Option ℕ) → acts second (comes o ++ []) ≡ comes (option_and_then (ending second) o)
    go None = refl
    go (Some c) = append-nil (comes (ending second c))

pub single_is : (first second : ℕ) → single first second ≡ least_for (passed first second CR) (passed first second NL)
unfolding single least_for works
single_is first second = rw (← followed_is first second CR, ← followed_is first second NL)

pub none_with : {cr : Option ℕ} → Ends cr → None ≡ least_for cr None
unfolding least_for ending
none_with dropped = refl
none_with as_cr = refl
none_with as_nl = refl

pub does_with : {cr : Option ℕ} {nl : ℕ} → Ends cr → Ends (Some nl) → Some (bits_of_cr cr + bit_of_nl nl) ≡ least_for cr (Some nl)
unfolding least_for ending
does_with dropped as_cr = refl
does_with as_cr as_cr = refl
does_with as_nl as_cr = refl
does_with dropped as_nl = refl
does_with as_cr as_nl = refl
does_with as_nl as_nl = refl

-- ANY TWO NUMBERS

-- by its two numbers as settings
chosen : Result ℕ Refusal → Result ℕ Refusal → Result (Option ℕ) Refusal
chosen (Err r) second = Err r
chosen (Ok a) (Err r) = Err r
chosen (Ok a) (Ok b) = Ok (least_for (passed a b CR) (passed a b NL))

is_chosen : (first second : ℕ) → one_ending first second ≡ chosen (setting_of first) (setting_of second)
unfolding one_ending setting_of chosen
is_chosen first second = go (outside 0 7 first) (outside 0 7 second)
  where
    go : (t u : Bool) → ◌≡◌ {A = Result (Option ℕ) Refusal} (if t || u then Err (BadField 4) else Ok (single first second))
        (chosen (if t then Err (BadField 4) else Ok first) (if u then Err (BadField 4) else Ok second))
    go true u = refl
    go false true = refl
    go false false = ap Ok (single_is first second)

module _ (first second : ℕ) where
  pub first_refused : {r : Refusal} → setting_of first ≡ Err r → one_ending first second ≡ Err r
  unfolding chosen
  first_refused h = is_chosen first second ∙ rw h refl

  pub second_refused : {a : ℕ} {r : Refusal} → setting_of first ≡ Ok a → setting_of second ≡ Err r → one_ending first second ≡ Err r
  unfolding chosen
  second_refused h i = is_chosen first second ∙ rw (h, i) refl

  pub answered : {a b : ℕ} → setting_of first ≡ Ok a → setting_of second ≡ Ok b
      → one_ending first second ≡ Ok (least_for (passed a b CR) (passed a b NL))
  unfolding chosen
  answered h i = is_chosen first second ∙ rw (h, i) refl
