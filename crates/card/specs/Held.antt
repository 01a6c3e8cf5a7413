-- The record that holds the paper's card, and the card that a record holds.
use Rattle.std.specs.Prelude.{map, ◌≡◌}
use Rattle.paper.specs.Settings.{Size, card_size}
use Rattle.paper.specs.Card as model
use Rattle.paper.specs.Bounds as bounds
use Rattle.channel.specs.Held.{channel_of, channel_in}
use Rattle.card.specs.declared.Card.{Card}

-- the size of a card's record
abbrev pub size_of : Card → Size
size_of C = card_size

unfoldable pub card_of : Size → model.Card Unit → Card
card_of z K = record { channels = map (channel_of z) K.channels; place = K.place }

unfoldable pub card_in : Card → model.Card Unit
card_in C = record { channels = map channel_in C.channels; place = C.place }

-- "A card or record here means one that a fresh start and these calls can give": the record of the card that it holds, within the paper's bounds
pub record Sound (C : Card) : Type 0 where
  pub is : C ≡ card_of (size_of C) (card_in C)
  pub bounds : bounds.Sound (size_of C) (card_in C)
