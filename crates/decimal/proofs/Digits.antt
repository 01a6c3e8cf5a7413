-- How many digits a number has.
use mathlib.Core.Path.{◌≡◌, refl, ap, ◌∙◌}
use mathlib.Core.Bool.{Bool, true, false}
use Prim.Native.Nat.{ℕ, zero, suc, ◌+◌, ◌*◌, ◌^◌, ◌/◌, ◌≤◌, ◌<◌, max}
use native.Mathlib.Omega.{arith}
use native.Mathlib.Nat.{pow-suc}
use lib.Dec.{ltb}
use lib.ListN.{length}
use borrow.Author.Tests.{lt-ltb, le-ltb}
use Rattle.std.specs.Prelude.{if◌then◌else◌}
use Rattle.paper.specs.Decimal.{digits_of, decimal}
use Rattle.page.proofs.Digits.{length_digits}

-- it does not matter how much more than enough the first argument is
enough : (j k n : ℕ) → n ≤ j → n ≤ k → digits_of j n ≡ digits_of k n
enough zero zero n l m = refl
enough zero (suc k) n l m = rw (lt-ltb n 10 (omega arith))
enough (suc j) zero n l m = rw (lt-ltb n 10 (omega arith))
enough (suc j) (suc k) n l m = ap (λ (d : ℕ). if ltb n 10 then 1 else d + 1) (enough j k (n / 10) (omega arith) (omega arith))

pub one_digit : (j n : ℕ) → n < 10 → digits_of j n ≡ 1
one_digit zero n h = refl
one_digit (suc j) n h = rw (lt-ltb n 10 h)

pub digits_more : (n : ℕ) → 10 ≤ n → digits_of n n ≡ digits_of (n / 10) (n / 10) + 1
digits_more zero h = absurd (omega arith)
digits_more (suc n) h = rw (le-ltb (suc n) 10 h) (ap (◌+ 1) (enough n (suc n / 10) (suc n / 10) (omega arith) (omega arith)))

-- as many as the greatest power of ten that is no greater says, and 0 has as many as 1
pub digits_are : (k n m : ℕ) → m ≡ max n 1 → 10 ^ k ≤ m → m < 10 * 10 ^ k → digits_of n n ≡ k + 1
digits_are zero n m e low high = rw (one_digit n n (omega arith)) (omega arith)
digits_are (suc k) n m e low high =
    let p = pow-suc 10 k in
    digits_more n (omega arith) ∙ rw (digits_are k (n / 10) (n / 10) (omega arith) (omega arith) (omega arith)) (omega arith)

-- as few as the power of ten says
few : (k j n : ℕ) → n < 10 ^ suc k → digits_of j n ≤ suc k
few zero j n h = omega (arith, one_digit j n h)
few (suc k) zero n h = omega arith
few (suc k) (suc j) n h = let p = pow-suc 10 (suc k) in go (ltb n 10) (few k j (n / 10) (omega arith))
  where
    go : (t : Bool) → digits_of j (n / 10) ≤ suc k → (if t then 1 else digits_of j (n / 10) + 1) ≤ suc (suc k)
    go true h = omega arith
    go false h = omega arith

pub length_decimal : (n : ℕ) → length (decimal n) ≡ digits_of n n
unfolding decimal
length_decimal n = length_digits (digits_of n n) n

pub decimal_few : (k n : ℕ) → n < 10 ^ suc k → length (decimal n) ≤ suc k
decimal_few k n h = rw length_decimal (few k n n h)

-- as few as those of 64, 32 and 8 bits
pub decimal_of_64 : (n : ℕ) → n < 18446744073709551616 → length (decimal n) ≤ 20
decimal_of_64 n h = decimal_few 19 n (omega arith)

pub decimal_of_32 : (n : ℕ) → n < 4294967296 → length (decimal n) ≤ 10
decimal_of_32 n h = decimal_few 9 n (omega arith)

pub decimal_of_8 : (n : ℕ) → n < 256 → length (decimal n) ≤ 3
decimal_of_8 n h = decimal_few 2 n (omega arith)
