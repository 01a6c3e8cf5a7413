-- Digits and bytes: the table of the characters' values, and what a text of digits stands for.
use mathlib.Core.Path.{◌≡◌, refl, ap, ◌∙◌}
use mathlib.Core.Bool.{Bool, true, false, ◌&&◌, and-false}
use mathlib.Core.Logic.{◌≢◌}
use mathlib.Core.List.{List, [], ◌∷◌, ◌++◌, map}
use mathlib.Core.Option.{Option, none, some}
use Prim.Native.Nat.{ℕ, zero, suc, ◌+◌, ◌-◌, ◌*◌, ◌/◌, ◌%◌, ◌≤◌, ◌<◌}
use native.Mathlib.Omega.{arith}
use native.Mathlib.Nat.{zero-add}
use lib.Bits.{bit_or, or_add_and, and_le_l, and_le_r}
use lib.Dec.{leb, ltb}
use lib.ListN.{length, get_or, take, set}
use borrow.Author.Tests.{le-leb, lt-leb, leb-true, ltb-true, ltb-false}
use Rattle.std.specs.Prelude.{if◌then◌else◌}
use Rattle.paper.specs.Frames.{between, digit, joined, bytes_of, capital, hexadecimal, newline}
use Rattle.hexadecimal.specs.LineSoFar.{value_or_16, from, digit_table}

-- DIGITS

inside : (low high c : ℕ) → low ≤ c → c ≤ high → between low high c ≡ true
inside low high c l h = rw (le-leb low c l, le-leb c high h)

above : (low high c : ℕ) → high < c → between low high c ≡ false
above low high c h = rw (lt-leb c high h) (and-false (leb low c))

-- a capital is the digit that it stands for
pub digit_capital : (v : ℕ) → v < 16 → digit (capital v) ≡ some v
unfolding digit
digit_capital v h = go (ltb v 10) refl
  where
    go : (t : Bool) → ltb v 10 ≡ t → digit (if t then v + 48 else v + 55) ≡ some v
    go true e =
        let l = ltb-true v 10 e in
        let back : v + 48 - 48 ≡ v = omega arith in
        rw (inside 48 57 (v + 48) (omega arith) (omega arith), back)
    go false e =
        let l = ltb-false v 10 e in
        let back : v + 55 - 55 ≡ v = omega arith in
        rw (above 48 57 (v + 55) (omega arith), inside 65 70 (v + 55) (omega arith) (omega arith), back)

pub capital_newline : (v : ℕ) → capital v ≢ newline
capital_newline v = go (ltb v 10)
  where
    go : (t : Bool) → (if t then v + 48 else v + 55) ≢ newline
    go true e = omega arith
    go false e = omega arith

pub digit_newline : {c v : ℕ} → digit c ≡ some v → c ≢ newline
unfolding digit
digit_newline {c} {v} h e = let bad : none ≡ some v = rw e at h in let z : ◌≡◌ {A = ℕ} 0 1 = cc in omega arith

-- a digit is below 16
data Small : Option ℕ → Type 0 where
  nothing : Small none
  this : {v : ℕ} → v < 16 → Small (some v)

small_choice : (t u : Bool) {a b : Option ℕ} → (t ≡ true → u ≡ true → Small a) → Small b → Small (if t && u then a else b)
small_choice true true s r = s refl refl
small_choice true false s r = r
small_choice false u s r = r

small : (c : ℕ) → Small (digit c)
unfolding digit
small c =
    small_choice (leb 48 c) (leb c 57) (λ t u. let h = leb-true c 57 u in this (omega arith))
    (small_choice (leb 65 c) (leb c 70) (λ t u. let h = leb-true c 70 u in this (omega arith))
    (small_choice (leb 97 c) (leb c 102) (λ t u. let h = leb-true c 102 u in this (omega arith)) nothing))

-- THE TABLE

at_from : (f : ℕ → ℕ) (n many i : ℕ) → i < many → get_or (map f (from n many)) i 0 ≡ f (n + i)
at_from f n zero i h = absurd (omega arith)
at_from f n (suc many) zero h = ap f (omega arith)
at_from f n (suc many) (suc i) h = at_from f (n + 1) many i (omega arith) ∙ ap f (omega arith)

-- the capitals' table
pub capital_at : (d : ℕ) → d < 16
    → get_or (48 ∷ 49 ∷ 50 ∷ 51 ∷ 52 ∷ 53 ∷ 54 ∷ 55 ∷ 56 ∷ 57 ∷ 65 ∷ 66 ∷ 67 ∷ 68 ∷ 69 ∷ 70 ∷ []) d 0 ≡ capital d
capital_at d h = at_from capital 0 16 d h ∙ rw zero-add

module _ (table : List ℕ) (is : table ≡ digit_table) where
  pub table_long : length table ≡ 256
  unfolding digit_table
  table_long = rw is

  pub entry : (c : ℕ) → c < 256 → get_or table c 0 ≡ value_or_16 (digit c)
  unfolding digit_table
  entry c h = rw is (at_from (λ (c : ℕ). value_or_16 (digit c)) 0 256 c h ∙ rw zero-add)

-- values below 16 are digits, and those of no others
pub value_digit : {v : ℕ} (c : ℕ) → v ≡ value_or_16 (digit c) → v ≤ 15 → digit c ≡ some v
value_digit c e l = rw e (go (digit c) (rw e at l))
  where
    go : (o : Option ℕ) → value_or_16 o ≤ 15 → o ≡ some (value_or_16 o)
    go none l = absurd (omega arith)
    go (some v) l = refl

pub value_none : {v : ℕ} (c : ℕ) → v ≡ value_or_16 (digit c) → 15 < v → digit c ≡ none
value_none c e l = go (small c) (rw e at l)
  where
    go : {o : Option ℕ} → Small o → 15 < value_or_16 o → o ≡ none
    go nothing l = refl
    go (this s) l = absurd (omega arith)

-- neither is above both together
pub or_above : (a b : ℕ) → (a ≤ bit_or a b) × (b ≤ bit_or a b)
or_above a b = (omega (arith, or_add_and a b, and_le_r a b), omega (arith, or_add_and a b, and_le_l a b))

-- BYTES

pub below_set : (bytes : List ℕ) (place byte i : ℕ) → byte < 256 → ((i : ℕ) → get_or bytes i 0 < 256) → get_or (set bytes place byte) i 0 < 256
below_set [] place byte i h below = below i
below_set (b ∷ bytes) zero byte zero h below = h
below_set (b ∷ bytes) zero byte (suc i) h below = below (suc i)
below_set (b ∷ bytes) (suc place) byte zero h below = below 0
below_set (b ∷ bytes) (suc place) byte (suc i) h below = below_set bytes place byte i h (λ i. below (suc i))

joined_second : (high : Option ℕ) (bytes : Option (List ℕ)) → joined high none bytes ≡ none
joined_second none bytes = refl
joined_second (some high) bytes = refl

joined_third : (high low : Option ℕ) → joined high low none ≡ none
joined_third none low = refl
joined_third (some high) none = refl
joined_third (some high) (some low) = refl

-- characters that are the same digit stand for each other
pub same_digit : (t : List ℕ) (x y : ℕ) (r : List ℕ) → digit x ≡ digit y → bytes_of (t ++ x ∷ r) ≡ bytes_of (t ++ y ∷ r)
same_digit [] x y [] e = refl
same_digit [] x y (b ∷ r) e = ap (λ (o : Option ℕ). joined o (digit b) (bytes_of r)) e
same_digit (a ∷ []) x y r e = ap (λ (o : Option ℕ). joined (digit a) o (bytes_of r)) e
same_digit (a ∷ b ∷ t) x y r e = ap (joined (digit a) (digit b)) (same_digit t x y r e)

-- "a character that is no hexadecimal digit"
pub no_digit : (t : List ℕ) (x : ℕ) (r : List ℕ) → digit x ≡ none → bytes_of (t ++ x ∷ r) ≡ none
no_digit [] x [] e = refl
no_digit [] x (b ∷ r) e = rw e
no_digit (a ∷ []) x r e = rw e (joined_second (digit a) (bytes_of r))
no_digit (a ∷ b ∷ t) x r e = rw (no_digit t x r e) (joined_third (digit a) (digit b))

-- "an odd count of digits"
pub odd_count : (bytes : List ℕ) (x : ℕ) → bytes_of (hexadecimal bytes ++ x ∷ []) ≡ none
odd_count [] x = refl
odd_count (b ∷ bytes) x = rw (odd_count bytes x) (joined_third (digit (capital (b / 16))) (digit (capital (b % 16))))

-- bytes that are written are read back
pub read_back : (n : ℕ) (frame : List ℕ) → ((i : ℕ) → get_or frame i 0 < 256) → bytes_of (hexadecimal (take n frame)) ≡ some (take n frame)
read_back zero frame h = refl
read_back (suc n) [] h = refl
read_back (suc n) (b ∷ frame) h =
    let small = h 0 in
    let whole : b / 16 * 16 + b % 16 ≡ b = omega arith in
    rw (digit_capital (b / 16) (omega arith), digit_capital (b % 16) (omega arith), read_back n frame (λ i. h (suc i)), whole)
