-- Digits that are written from the last one back.
use mathlib.Core.List.{List, [], ◌∷◌, ◌++◌, append-nil}
use mathlib.Core.Path.{◌≡◌, refl, ◌∙◌}
use Prim.Native.Nat.{ℕ, zero, suc, ◌+◌, ◌-◌, ◌/◌, ◌%◌, ◌≤◌, ◌<◌}
use native.Mathlib.Omega.{arith}
use lib.ListN.{length, drop, set, length-append, length-set, drop_of_length-le}
use lib.Seq.{append_snoc}
use Rattle.paper.specs.Decimal.{last_digits}

pub length_digits : (count n : ℕ) → length (last_digits count n) ≡ count
length_digits zero n = refl
length_digits (suc count) n = length-append (last_digits count (n / 10)) ((0x30 + n % 10) ∷ []) ∙ omega (arith, length_digits count (n / 10))

-- those that are left to be written are the last digits of the number's front
pub record Backwards (before : List ℕ) (number : ℕ) (after : List ℕ) (front left : ℕ) : Type 0 where
  pub few : left ≤ length before
  pub same : length after ≡ length before
  pub digits : last_digits left front ++ drop left after ≡ last_digits (length before) number

pub backwards_none : (l : List ℕ) (number : ℕ) → Backwards l number l number (length l)
backwards_none l number =
    record { few = omega arith; same = refl; digits = rw (drop_of_length-le l {i = length l} (omega arith)) (append-nil (last_digits (length l) number)) }

drop_set : (l : List ℕ) (i v : ℕ) → i < length l → drop i (set l i v) ≡ v ∷ drop (suc i) l
drop_set [] i v h = absurd (omega arith)
drop_set (a ∷ l) zero v h = refl
drop_set (a ∷ l) (suc i) v h = drop_set l i v (omega arith)

module _ {before after : List ℕ} {number front left : ℕ} (b : Backwards before number after front left) where
  pub backwards_more : 0 < left → Backwards before number (set after (left - 1) (0x30 + front % 10)) (front / 10) (left - 1)
  backwards_more h = let one : left ≡ suc (left - 1) = omega arith in go (left - 1) (rw (← one) b)
    where
      go : (j : ℕ) → Backwards before number after front (suc j) → Backwards before number (set after j (0x30 + front % 10)) (front / 10) j
      go j b =
          let few = b.few in
          let inside : j < length after = omega (arith, b.same) in
          record {
            few = omega arith;
            same = length-set after j (0x30 + front % 10) ∙ b.same;
            digits = rw (drop_set after j (0x30 + front % 10) inside, ← append_snoc) b.digits;
          }

  pub backwards_all : left ≤ 0 → after ≡ last_digits (length before) number
  backwards_all h = let none : left ≡ 0 = omega arith in go (rw none at b)
    where
      go : Backwards before number after front 0 → after ≡ last_digits (length before) number
      go b = b.digits
