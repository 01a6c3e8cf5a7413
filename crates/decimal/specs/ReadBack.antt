-- Numbers that are written read back, by the paper's own reading of digits.
use Rattle.std.specs.Prelude.{true, ◌≡◌, ℕ, ◌≤◌, ◌<◌, length, get_or}
use Rattle.paper.specs.Text.{text}
use Rattle.paper.specs.Decimal.{spelled, all_digits, most32, number_of, last_digits, decimal}

-- "without leading zeros": what begins with 0 is 0 alone
pub record DecimalReadsBack (n : ℕ) : Type 0 where
  pub spells : spelled 0 (decimal n) ≡ n
  pub digits : all_digits (decimal n) ≡ true
  pub some : 0 < length (decimal n)
  pub leading : get_or (decimal n) 0 0 ≡ 0x30 → decimal n ≡ text "0"

-- and a word that is so written stands for its number, if 32 bits hold it
abbrev pub WordReadsBack : ℕ → Type 0
WordReadsBack n = n ≤ most32 → number_of (decimal n) ≡ n

-- "numbers with their four digits"
pub record NumberReadsBack (n : ℕ) : Type 0 where
  pub spells : n < 10000 → spelled 0 (last_digits 4 n) ≡ n
  pub digits : all_digits (last_digits 4 n) ≡ true
  pub four : length (last_digits 4 n) ≡ 4
