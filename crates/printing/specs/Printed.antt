-- Numbers as a line, and which refusals and reads fit one.
use Rattle.std.specs.Prelude.{List, [], ◌∷◌, ◌++◌, ℕ, ◌+◌, ◌*◌, ◌<◌, ◌≤◌, length, get_or}
use Rattle.paper.specs.Numbers.{refusal_numbers}
use Rattle.paper.specs.Settings.{card_size}
use Rattle.paper.specs.Frames.{lent_bytes, hexadecimal, newline}
use Rattle.paper.specs.declared.Refusal.{Refusal}
use Rattle.paper.specs.declared.Refusal.TheVariants.{BadChannel, BadKind, TooMany, NoRoom, BadField, BadSpecial}
use Rattle.paper.specs.declared.Refusal.TheVariants.{SpecialWaits, BrokenStream, ShortOutput, BadCts, BadLine, OutsideRange, TooFar, TooManyEntries}

-- "one line of hexadecimal in capitals": as the paper's `answered` has it
abbrev pub line_of : (values : List ℕ) → List ℕ
line_of values = hexadecimal values ++ newline ∷ []

-- "Answers begin with 00 or the refusal number"
abbrev pub refusal_number : Refusal → ℕ
refusal_number r = get_or (refusal_numbers r) 0 0

-- The longest line: 00, characters, flagged and all the bytes that a read is lent, two capitals each, and a newline
abbrev pub longest : ℕ
longest = 2 * (3 + lent_bytes card_size) + 1

-- WHAT FITS A LINE. Each number is a byte: those that their types do not bound are named here.

-- "the place of the offending FF"
abbrev pub SmallRefusal : Refusal → Type 0
SmallRefusal BadChannel = Unit
SmallRefusal BadKind = Unit
SmallRefusal TooMany = Unit
SmallRefusal NoRoom = Unit
SmallRefusal (BadField field) = Unit
SmallRefusal BadSpecial = Unit
SmallRefusal SpecialWaits = Unit
SmallRefusal (BrokenStream place) = place < 256
SmallRefusal ShortOutput = Unit
SmallRefusal BadCts = Unit
SmallRefusal BadLine = Unit
SmallRefusal OutsideRange = Unit
SmallRefusal TooFar = Unit
SmallRefusal TooManyEntries = Unit

-- a read wrote no more than the bytes that it was lent
pub record SmallRead (characters flagged bytes : ℕ) (lent : List ℕ) : Type 0 where
  pub removed : characters < 256
  pub overrun : flagged < 256
  pub short : bytes ≤ lent_bytes card_size
  pub inside : bytes ≤ length lent
