-- The words of the reader's demands: characters, and the streams that stand for them.
use Rattle.std.specs.Prelude.{◌≡◌, List, [], ◌++◌, map, ℕ, ◌≤◌, ◌<◌, eqb, length, get_or, take, if◌then◌else◌}
use Rattle.paper.specs.Stream.{Character, good, damaged, images, readout}
use Rattle.paper.specs.declared.Item.{Item}
use Rattle.paper.specs.declared.Item.TheVariants.{Plain, Doubled, Damaged}

-- the character that a stored item stands for
abbrev pub character_of : Item → Character
character_of (Plain b) = good b
character_of Doubled = good 0xFF
character_of (Damaged b) = damaged b

-- the item that stands for a character in a marked stream
abbrev pub marked_item : Character → Item
marked_item (good b) = if eqb b 0xFF then Doubled else Plain b
marked_item (damaged b) = Damaged b

-- the image of a list of characters
abbrev pub stream : List Character → List ℕ
stream cs = images (map marked_item cs)

-- the reader accepts s, and gives the characters cs
abbrev pub Accepts : List ℕ → List Character → Type 0
Accepts s cs = readout s ≡ record { characters = cs; rest = [] }

-- "the first such FF is named": it is an FF, what stands before it reads back, and no reading passes it
pub record FirstBroken (s : List ℕ) (place : ℕ) : Type 0 where
  pub mark : get_or s place 0 ≡ 0xFF
  pub inside : place < length s
  pub before : (cs : List Character) × Accepts (take place s) cs
  pub no_further : (cs : List Character) (t : List ℕ) → s ≡ stream cs ++ t → length (stream cs) ≤ place
