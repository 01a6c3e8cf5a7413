-- Items in two arrays: a kind for each (0 plain, 1 doubled, 2 damaged), and a byte.
use Rattle.std.specs.Prelude.{List, [], ◌∷◌, ℕ, eqb, if◌then◌else◌}
use Rattle.paper.specs.Stream.{images}
use Rattle.paper.specs.declared.Item.{Item}
use Rattle.paper.specs.declared.Item.TheVariants.{Plain, Doubled, Damaged}

abbrev pub kind_of : Item → ℕ
kind_of (Plain b) = 0
kind_of Doubled = 1
kind_of (Damaged b) = 2

-- a doubled item is a good FF
abbrev pub byte_of : Item → ℕ
byte_of (Plain b) = b
byte_of Doubled = 0xFF
byte_of (Damaged b) = b

unfoldable pub item_in : (kind byte : ℕ) → Item
item_in kind b =
    if eqb kind 0 then Plain b else
    if eqb kind 1 then Doubled else
    Damaged b

abbrev pub items_in : (kinds bytes : List ℕ) → List Item
items_in [] bs = []
items_in (k ∷ ks) [] = []
items_in (k ∷ ks) (b ∷ bs) = item_in k b ∷ items_in ks bs

-- their images, one after the other
abbrev pub images_in : (kinds bytes : List ℕ) → List ℕ
images_in ks bs = images (items_in ks bs)
