-- A line that is still being read, what it stands for, and what is left to be written.
use Rattle.std.specs.Prelude.{Bool, List, [], ◌∷◌, ◌++◌, map, ◌≡◌, ℕ, zero, suc, ◌+◌, ◌/◌, ◌%◌, ◌<◌, ◌≤◌, eqb, leb, length, take, drop, get_or, if◌then◌else◌}
use Rattle.std.proofs.Math.Option.{Option, none, some}
use Rattle.paper.specs.Settings.{Size}
use Rattle.paper.specs.Card.{Card}
use Rattle.paper.specs.Frames.{digit, capital, hexadecimal, lines, replies}
use Rattle.hexadecimal.specs.declared.LineSoFar.{LineSoFar}
use Rattle.hexadecimal.specs.declared.Cut.{Cut}

-- the value of a digit, 16 for a character that is none
abbrev pub value_or_16 : Option ℕ → ℕ
value_or_16 none = 16
value_or_16 (some value) = value

-- the numbers from n on, so many of them
abbrev pub from : ℕ → ℕ → List ℕ
from n zero = []
from n (suc many) = n ∷ from (n + 1) many

-- the values of all 256 characters
unfoldable pub digit_table : List ℕ
digit_table = map (λ (c : ℕ). value_or_16 (digit c)) (from 0 256)

-- "at most 34 bytes": two digits a byte, and one number more for a line that is no frame
abbrev pub most_bytes : ℕ
most_bytes = 34

-- A text that stands for what was read of a line: whatever follows it, the paper answers the same. A line of more than 68 characters, or with one
-- that is no digit, is refused whatever follows, and so is one that begins with the character 0.
unfoldable pub held : LineSoFar → List ℕ → List ℕ
held line frame =
    if leb line.digits 68
    then hexadecimal (take (line.digits / 2) frame) ++ (if eqb (line.digits % 2) 1 then capital line.last ∷ [] else [])
    else 0 ∷ []

-- What the code keeps of a line
pub record Fits (line : LineSoFar) (frame : List ℕ) : Type 0 where
  pub digits : line.digits ≤ 69
  pub last : line.last < 16
  pub room : length frame ≡ most_bytes
  pub bytes : (i : ℕ) → get_or frame i 0 < 256

-- What the paper writes for the line so far and all that follows it
unfoldable pub left : Size → Card Unit → LineSoFar → List ℕ → List ℕ → List ℕ
left z K line frame rest = replies z K (lines (held line frame ++ rest))

-- What the paper writes where a line has ended, or where it goes on
abbrev pub left_after : Bool → Size → Card Unit → LineSoFar → List ℕ → List ℕ → List ℕ
left_after ended z K line frame rest =
    if ended then replies z K (held line frame ∷ lines rest) else left z K line frame rest

-- Reading on in a piece changes nothing in what there is to write
pub record Gathers (piece : List ℕ) (from : ℕ) (line : LineSoFar) (before : List ℕ) (r : Cut) (after : List ℕ) : Type 0 where
  pub same : (z : Size) (K : Card Unit) (rest : List ℕ)
      → left z K line before (drop from piece ++ rest) ≡ left_after r.ended z K r.line after (drop r.at piece ++ rest)
  pub fits : Fits r.line after
  pub onward : from < r.at
  pub within : r.at ≤ length piece
