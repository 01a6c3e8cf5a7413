-- What one character, the pairs at a line's start, and a run of characters change in a line that is being read: nothing in what is left to write.
use Rattle.std.specs.Prelude.{List, ◌∷◌, ◌++◌, ◌≡◌, ℕ, ◌+◌, ◌*◌, ◌<◌, ◌≤◌, length, drop}
use Rattle.paper.specs.Settings.{Size}
use Rattle.paper.specs.Card.{Card}
use Rattle.hexadecimal.specs.LineSoFar.{most_bytes, Fits, left, left_after}
use Rattle.hexadecimal.specs.declared.LineSoFar.{LineSoFar}
use Rattle.hexadecimal.specs.declared.Cut.{Cut}

-- One character more, which is no newline
pub record Keeps (character : ℕ) (line : LineSoFar) (before : List ℕ) (r : LineSoFar) (after : List ℕ) : Type 0 where
  pub same : (z : Size) (K : Card Unit) (rest : List ℕ) → left z K line before (character ∷ rest) ≡ left z K r after rest
  pub fits : Fits r after

-- so many digits of a line, and its last one
abbrev pub counted : ℕ → ℕ → LineSoFar
counted digits last = record { digits = digits; last = last }

-- A line read on in a piece, from one place to another
pub record Reached (piece : List ℕ) (from : ℕ) (line : LineSoFar) (before : List ℕ) (at : ℕ) (now : LineSoFar) (after : List ℕ) : Type 0 where
  pub same : (z : Size) (K : Card Unit) (rest : List ℕ) → left z K line before (drop from piece ++ rest) ≡ left z K now after (drop at piece ++ rest)
  pub fits : Fits now after
  pub start : from ≤ at
  pub within : at ≤ length piece

-- A line's first digits, two a byte; which one was the last does not matter
pub record Paired (piece : List ℕ) (from : ℕ) (before : List ℕ) (count : ℕ) (after : List ℕ) : Type 0 where
  pub reached : (last : ℕ) → last < 16 → Reached piece from (counted 0 last) before (from + 2 * count) (counted (2 * count) last) after
  pub room : length after ≡ most_bytes
  pub few : count ≤ most_bytes

-- A line read on, past its newline or to a place further on in it
pub record Follows (piece : List ℕ) (from : ℕ) (line : LineSoFar) (before : List ℕ) (r : Cut) (after : List ℕ) : Type 0 where
  pub same : (z : Size) (K : Card Unit) (rest : List ℕ)
      → left z K line before (drop from piece ++ rest) ≡ left_after r.ended z K r.line after (drop r.at piece ++ rest)
  pub fits : Fits r.line after
  pub start : from ≤ r.at
  pub onward : from < length piece → from < r.at
  pub within : r.at ≤ length piece
