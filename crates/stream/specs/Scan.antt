-- What the two passes over a stream find.
use Rattle.std.specs.Prelude.{◌≡◌, List, [], ◌∷◌, ℕ, ◌-◌, ◌<◌, length, Option, Some, None}
use Rattle.paper.specs.Stream.{Character, good, damaged, first, stop, readout}
use Rattle.stream.specs.declared.Item.{Item}
use Rattle.stream.specs.declared.Item.TheVariants.{Good, Damaged}

-- nothing of a stream is broken; or its rest begins at the first broken FF
abbrev pub scanned : List ℕ → (rest : List ℕ) → Option ℕ
scanned s [] = None
scanned s (b ∷ rest) = Some (length s - length (b ∷ rest))

abbrev pub character : Item → Character
character (Good b) = good b
character (Damaged b) = damaged b

-- The first item of a stream is the character that is read there, and reading goes on behind its bytes
pub record SplitsInto (s : List ℕ) (item : Item) (behind : List ℕ) : Type 0 where
  pub goes_on : readout s ≡ first (character item) (readout behind)
  pub shorter : length behind < length s

-- No item is there: the stream is at its end, or at a broken FF
abbrev pub Stops : List ℕ → Type 0
Stops s = readout s ≡ stop s
