-- The words of a choice.
use mathlib.Core.List.{◌++◌}
use mathlib.Core.Path.{◌≡◌}
use Prim.Native.Nat.{ℕ, zero, suc, ◌^◌, ◌≤◌, ◌<◌}
use native.Mathlib.Omega.{arith}
use lib.IntN.{ℤ, pos, negsuc, nat_abs}
use lib.ListN.{length, length-append}
use mir.Facts.{to_z-of_z}
use mir.Syntax.{w64}
use mir.Val.{SFits, to_z, of_z}
use Rattle.std.specs.Prelude.{Ok}
use Rattle.paper.specs.Text.{text}
use Rattle.paper.specs.Decimal.{decimal}
use Rattle.paper.specs.RateLines.{signed, choice_words}
use Rattle.paper.specs.declared.Chosen.{Chosen}
use Rattle.decimal.proofs.Digits.{decimal_few, decimal_of_32}
use Rattle.fitting.specs.Lines.{longest_signed, longest_choice}

-- at most nineteen digits, since the size is at most 2 ^ 63
size_short : (z : ℤ) → SFits w64 z → length (decimal (nat_abs z)) ≤ 19
size_short (pos n) f = decimal_few 18 n (omega (arith, f.sfits))
size_short (negsuc n) f = decimal_few 18 (suc n) (omega (arith, f.sfits))

signed_short : (z : ℤ) → SFits w64 z → length (signed z) ≤ longest_signed
signed_short (pos zero) f = omega arith
signed_short (pos (suc n)) f = omega (arith, size_short (pos (suc n)) f)
signed_short (negsuc n) f = omega (arith, size_short (negsuc n) f)

-- the machine's tests are of what it reads
abbrev read : ℤ → ℤ
read z = to_z w64 (of_z w64 z)

module _ (z : ℤ) (f : SFits w64 z) {size : ℕ} (e : size ≡ nat_abs (read z)) where
  same : size ≡ nat_abs z
  same = rw (to_z-of_z f) at e

  pub read_size_short : length (decimal size) ≤ 19
  read_size_short = rw same (size_short z f)

pub choice_short : (c : Chosen) → c.pair.divisor < 2 ^ 32 → c.pair.period < 2 ^ 32 → SFits w64 c.deviation
    → length (choice_words (Ok c)) ≤ longest_choice
unfolding choice_words
choice_short c d p f =
    let divisor = decimal c.pair.divisor in
    let period = decimal c.pair.period in
    rw (
      length-append (divisor ++ text " " ++ period ++ text " ") (signed c.deviation),
      length-append (divisor ++ text " " ++ period) (text " "),
      length-append (divisor ++ text " ") period,
      length-append divisor (text " "),
    )
    (omega (arith, decimal_of_32 c.pair.divisor (omega arith), decimal_of_32 c.pair.period (omega arith), signed_short c.deviation f))
