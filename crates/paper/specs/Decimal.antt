-- Numbers in decimal digits, read and written.
use Rattle.std.specs.Prelude.{Bool, true, false, ◌&&◌, List, [], ◌∷◌, ◌++◌, ℕ, zero, suc, ◌+◌, ◌*◌, ◌-◌, ◌/◌, ◌%◌, min, leb, ltb, if◌then◌else◌}

-- READ

unfoldable pub digit : ℕ → Bool
digit b = leb 0x30 b && leb b 0x39

-- the number that digits spell behind others that spell v
abbrev pub spelled : (v : ℕ) → List ℕ → ℕ
spelled v [] = v
spelled v (b ∷ bs) = spelled (10 * v + (b - 0x30)) bs

-- a decimal number has one digit or more, and nothing else
abbrev pub all_digits : List ℕ → Bool
all_digits [] = true
all_digits (b ∷ bs) = digit b && all_digits bs

abbrev pub is_decimal : List ℕ → Bool
is_decimal [] = false
is_decimal (b ∷ bs) = all_digits (b ∷ bs)

-- the most that 32 bits hold: outside every range
abbrev pub most32 : ℕ
most32 = 4294967295

-- "A word that is no decimal number, or too large for u32" stands for a number outside every range.
unfoldable pub number_of : (word : List ℕ) → ℕ
number_of word = if is_decimal word then min (spelled 0 word) most32 else most32

-- WRITTEN

-- the last of so many digits
abbrev pub last_digits : (count : ℕ) → ℕ → List ℕ
last_digits zero n = []
last_digits (suc count) n = last_digits count (n / 10) ++ (0x30 + n % 10) ∷ []

-- how many digits a number has: one more than its tenth; the first argument is as large as the number, so there are enough
abbrev pub digits_of : (enough : ℕ) → ℕ → ℕ
digits_of zero n = 1
digits_of (suc enough) n = if ltb n 10 then 1 else digits_of enough (n / 10) + 1

-- all its digits, and so no leading zero
unfoldable pub decimal : ℕ → List ℕ
decimal n = last_digits (digits_of n n) n
