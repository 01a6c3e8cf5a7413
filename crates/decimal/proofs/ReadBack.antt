-- Numbers read back from their digits.
use mathlib.Core.Path.{◌≡◌, refl, ◌∙◌}
use mathlib.Core.Bool.{Bool, true, false, ◌&&◌}
use mathlib.Core.List.{List, [], ◌∷◌, ◌++◌}
use Prim.Native.Nat.{ℕ, zero, suc, ◌+◌, ◌-◌, ◌*◌, ◌^◌, ◌/◌, ◌%◌, ◌≤◌, ◌<◌}
use native.Mathlib.Omega.{arith}
use native.Mathlib.Nat.{pow-suc}
use native.Mathlib.Numerals.{add-one}
use lib.Dec.{ltb}
use lib.ListN.{length, get_or, get_or-append}
use borrow.Author.Tests.{ltb-true, ltb-false}
use Rattle.std.specs.Prelude.{if◌then◌else◌}
use Rattle.paper.specs.Decimal.{digit, spelled, all_digits, last_digits, digits_of, decimal}
use Rattle.decimal.specs.ReadBack.{DecimalReadsBack, WordReadsBack, NumberReadsBack}
use Rattle.page.proofs.Digits.{length_digits}
use Rattle.decimal.proofs.Words.{is_digit, word_number}

-- ONE DIGIT BEHIND OTHERS

spelled_behind : (v : ℕ) (bs : List ℕ) (b : ℕ) → spelled v (bs ++ b ∷ []) ≡ 10 * spelled v bs + (b - 0x30)
spelled_behind v [] b = refl
spelled_behind v (a ∷ bs) b = spelled_behind (10 * v + (a - 0x30)) bs b

digit_behind : (bs : List ℕ) (n : ℕ) → all_digits bs ≡ true → all_digits (bs ++ (0x30 + n % 10) ∷ []) ≡ true
digit_behind [] n all = rw (is_digit (0x30 + n % 10) (omega arith) (omega arith))
digit_behind (b ∷ bs) n all = go (digit b) all (digit_behind bs n)
  where
    go : (t : Bool) → (t && all_digits bs) ≡ true → (all_digits bs ≡ true → all_digits (bs ++ (0x30 + n % 10) ∷ []) ≡ true)
        → (t && all_digits (bs ++ (0x30 + n % 10) ∷ [])) ≡ true
    go true all others = others all
    go false all others = all

-- ALL OF THEM

all_digits_lem : (count n : ℕ) → all_digits (last_digits count n) ≡ true
all_digits_lem zero n = refl
all_digits_lem (suc count) n = digit_behind (last_digits count (n / 10)) n (all_digits_lem count (n / 10))

spells : (count n : ℕ) → n < 10 ^ count → spelled 0 (last_digits count n) ≡ n
spells zero n h = omega arith
spells (suc count) n h =
    let p = pow-suc 10 count in
    spelled_behind 0 (last_digits count (n / 10)) (0x30 + n % 10) ∙ omega (arith, spells count (n / 10) (omega arith))

some_digit : (j n : ℕ) → 0 < digits_of j n
some_digit zero n = omega arith
some_digit (suc j) n = go (ltb n 10)
  where
    go : (t : Bool) → 0 < (if t then 1 else digits_of j (n / 10) + 1)
    go true = omega arith
    go false = omega arith

-- a number is below the power of ten with as many zeros as it has digits
enough_digits : (j n : ℕ) → n ≤ j → n < 10 ^ digits_of j n
enough_digits zero n h = omega arith
enough_digits (suc j) n h = go (ltb n 10) refl (enough_digits j (n / 10) (omega arith))
  where
    go : (t : Bool) → ltb n 10 ≡ t → n / 10 < 10 ^ digits_of j (n / 10) → n < 10 ^ (if t then 1 else digits_of j (n / 10) + 1)
    go true e tenth = ltb-true n 10 e
    go false e tenth = rw (add-one, pow-suc) (omega arith)

-- a number that begins with 0 is 0
leading_zero : (j n : ℕ) → n ≤ j → get_or (last_digits (digits_of j n) n) 0 0 ≡ 0x30 → n ≡ 0
leading_zero zero n h e = omega arith
leading_zero (suc j) n h first = go (ltb n 10) refl (leading_zero j (n / 10) (omega arith)) first
  where
    go : (t : Bool) → ltb n 10 ≡ t → (get_or (last_digits (digits_of j (n / 10)) (n / 10)) 0 0 ≡ 0x30 → n / 10 ≡ 0)
        → get_or (last_digits (if t then 1 else digits_of j (n / 10) + 1) n) 0 0 ≡ 0x30 → n ≡ 0
    go true e tenth first = omega (arith, ltb-true n 10 e)
    go false e tenth first =
        let front = last_digits (digits_of j (n / 10)) (n / 10) in
        let some : 0 < length front = rw length_digits (some_digit j (n / 10)) in
        omega (arith, ltb-false n 10 e, tenth (rw (add-one, get_or-append front _ 0 0 some) at first))

-- THE THEOREMS

pub decimal_reads_back : (n : ℕ) → DecimalReadsBack n
unfolding decimal
decimal_reads_back n =
    record {
      spells = spells (digits_of n n) n (enough_digits n n (omega arith));
      digits = all_digits_lem (digits_of n n) n;
      some = rw length_digits (some_digit n n);
      leading = λ e. rw (leading_zero n n (omega arith) e);
    }

pub word_reads_back : (n : ℕ) → WordReadsBack n
word_reads_back n small =
    let d = decimal_reads_back n in
    word_number (decimal n) d.some d.digits (omega (arith, d.spells)) ∙ d.spells

pub number_reads_back : (n : ℕ) → NumberReadsBack n
number_reads_back n = record { spells = spells 4 n; digits = all_digits_lem 4 n; four = length_digits 4 n }
