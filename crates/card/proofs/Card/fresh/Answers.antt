use mathlib.Core.List.{[], ◌∷◌}
use Rattle.card.specs.declared.Card.{Card}
use mathlib.Core.Path.{◌≡◌, refl}
use lib.Dec.{lit≤}
use Rattle.paper.specs.Settings.{card_size}
use Rattle.paper.specs.Card.{fresh_card}
use Rattle.card.specs.Held.{card_of}
use Rattle.card.proofs.Laws.{fresh_sound}
use Rattle.card.proofs.Card.fresh.Goals as goal

pub returns : goal.returns
unfolding card_of
returns c =
    let f = c.fresh-channel in
    let e : ◌≡◌ {A = Card} (record { channels = f.result ∷ f.result ∷ f.result ∷ f.result ∷ []; place = 3 }) (card_of card_size fresh_card) =
    rw f.ensures.0 in
    (e, rw e (fresh_sound card_size refl (lit≤ tt)))
