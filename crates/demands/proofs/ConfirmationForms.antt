-- The form of a confirmation in the request's words.
use mathlib.Core.Path.{◌≡◌, refl, sym, ap, ◌∙◌}
use mathlib.Core.Bool.{Bool, true, ◌&&◌}
use mathlib.Core.List.{List, [], ◌∷◌, ◌++◌}
use Rattle.std.specs.Prelude.{Option, Some}
use Rattle.std.proofs.lemmas.Option.{none-some}
use Prim.Native.Nat.{ℕ, ◌+◌, ◌≤◌}
use native.Mathlib.Omega.{arith}
use lib.Dec.{eqb, leb}
use lib.ListN.{length, take, drop}
use borrow.Author.Tests.{eqb-true, leb-true, le-leb, ne_eqb}
use Rattle.paper.specs.Decimal.{digit, spelled}
use Rattle.paper.specs.Confirmations.{fits, all_fit, right_length, confirmation_of}
use Rattle.paper.specs.declared.Confirmation.{Confirmation}
use Rattle.demands.specs.Confirmations.{IsDigit, AllDigits, Spells, RightForm}
use Rattle.demands.proofs.Choices.{chosen_and, both}

-- DIGITS

is_digit : (b : ℕ) → digit b ≡ true → IsDigit b
unfolding digit
is_digit b e = let p = both (leb 0x30 b) _ e in (leb-true _ _ p.0, leb-true _ _ p.1)

digit_is : (b : ℕ) → IsDigit b → digit b ≡ true
unfolding digit
digit_is b d = rw (le-leb 0x30 b d.0, le-leb b 0x39 d.1)

behind : (k b : ℕ) → 5 ≤ k → fits k b ≡ digit b
unfolding fits
behind k b h = rw (ne_eqb k 4 (λ e. omega arith))

all_digits_lem : (k : ℕ) (bs : List ℕ) → 5 ≤ k → all_fit k bs ≡ true → AllDigits bs
all_digits_lem k [] h e = tt
all_digits_lem k (b ∷ bs) h e =
    let p = both (fits k b) _ e in
    (is_digit b (sym (behind k b h) ∙ p.0), all_digits_lem (k + 1) bs (omega arith) p.1)

digits_all : (k : ℕ) (bs : List ℕ) → 5 ≤ k → AllDigits bs → all_fit k bs ≡ true
digits_all k [] h d = refl
digits_all k (b ∷ bs) h d =
    ap (λ (t : Bool). t && all_fit (k + 1) bs) (behind k b h ∙ digit_is b d.0) ∙ digits_all (k + 1) bs (omega arith) d.1

-- FORM

only_by : (bs : List ℕ) (c : Confirmation) → all_fit 0 bs ≡ true → 6 ≤ length bs → length bs ≤ 11
    → record { number = spelled 0 (take 4 bs); litres = spelled 0 (drop 5 bs) } ≡ c → Spells bs c
unfolding fits
only_by [] c f l m e = absurd (omega arith)
only_by (a₁ ∷ []) c f l m e = absurd (omega arith)
only_by (a₁ ∷ a₂ ∷ []) c f l m e = absurd (omega arith)
only_by (a₁ ∷ a₂ ∷ a₃ ∷ []) c f l m e = absurd (omega arith)
only_by (a₁ ∷ a₂ ∷ a₃ ∷ a₄ ∷ []) c f l m e = absurd (omega arith)
only_by (a₁ ∷ a₂ ∷ a₃ ∷ a₄ ∷ s ∷ bs) c f l m e =
    let p₁ = both (digit a₁) _ f in
    let p₂ = both (digit a₂) _ p₁.1 in
    let p₃ = both (digit a₃) _ p₂.1 in
    let p₄ = both (digit a₄) _ p₃.1 in
    let p₅ = both (eqb s 0x20) _ p₄.1 in
    record {
      number = a₁ ∷ a₂ ∷ a₃ ∷ a₄ ∷ [];
      litres = bs;
      whole = ap (λ (x : ℕ). a₁ ∷ a₂ ∷ a₃ ∷ a₄ ∷ x ∷ bs) (eqb-true s 0x20 p₅.0);
      four = refl;
      one = omega arith;
      six = omega arith;
      number_digits = (is_digit a₁ p₁.0, (is_digit a₂ p₂.0, (is_digit a₃ p₃.0, (is_digit a₄ p₄.0, tt))));
      litres_digits = all_digits_lem 5 bs (omega arith) p₅.1;
      says = e;
    }

only : (bs : List ℕ) (c : Confirmation) → confirmation_of bs ≡ Some c → Spells bs c
unfolding confirmation_of
only bs c =
    chosen_and (λ (o : Option Confirmation). o ≡ Some c → Spells bs c) (all_fit 0 bs) (right_length (length bs))
    (λ fit right e.
    let long = both (leb 6 (length bs)) _ right in
    only_by bs c fit (leb-true _ _ long.0) (leb-true _ _ long.1) cc)
    (λ e. absurd (none-some c e))

every_by : (n l : List ℕ) → length n ≡ 4 → 1 ≤ length l → length l ≤ 6 → AllDigits n → AllDigits l
    → confirmation_of (n ++ (0x20 ∷ l)) ≡ Some (record { number = spelled 0 n; litres = spelled 0 l })
unfolding confirmation_of fits
every_by [] l f o s d e = absurd (omega arith)
every_by (a₁ ∷ []) l f o s d e = absurd (omega arith)
every_by (a₁ ∷ a₂ ∷ []) l f o s d e = absurd (omega arith)
every_by (a₁ ∷ a₂ ∷ a₃ ∷ []) l f o s d e = absurd (omega arith)
every_by (a₁ ∷ a₂ ∷ a₃ ∷ a₄ ∷ a₅ ∷ n) l f o s d e = absurd (omega arith)
every_by (a₁ ∷ a₂ ∷ a₃ ∷ a₄ ∷ []) l f o s d e =
    rw (
      digit_is a₁ d.0,
      digit_is a₂ d.1.0,
      digit_is a₃ d.1.1.0,
      digit_is a₄ d.1.1.1.0,
      digits_all 5 l (omega arith) e,
      le-leb 6 (length (a₁ ∷ a₂ ∷ a₃ ∷ a₄ ∷ 0x20 ∷ l)) (omega arith),
      le-leb (length (a₁ ∷ a₂ ∷ a₃ ∷ a₄ ∷ 0x20 ∷ l)) 11 (omega arith),
    )

pub right_form : (bs : List ℕ) (c : Confirmation) → RightForm bs c
right_form bs c =
    record {
      every = λ s.
          ap confirmation_of s.whole
          ∙ every_by s.number s.litres s.four s.one s.six s.number_digits s.litres_digits
          ∙ ap Some s.says;
      only = only bs c;
    }
