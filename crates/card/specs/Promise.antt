-- What every call on a card promises.
use Rattle.std.specs.Prelude.{List, Option, Some, None, ◌++◌, ◌≡◌, ℕ, drop}
use Rattle.std.proofs.Math.Option as maybe
use Rattle.std.proofs.Math.Option.{none, some}
use Rattle.paper.specs.Given.{Given}
use Rattle.paper.specs.Numbers.{numbers}
use Rattle.paper.specs.Asked.{call_with, unlent}
use Rattle.paper.specs.Card as model
use Rattle.paper.specs.Card.{Call, on, place_on, round, first_ready, step}
use Rattle.paper.specs.declared.Answered.{Answered}
use Rattle.paper.specs.declared.Asked.{Asked}
use Rattle.card.specs.declared.Card.{Card}
use Rattle.card.specs.Held.{size_of, card_of, card_in, Sound}

-- the paper's step on the card that a record holds
unfoldable pub given : Card → Call → Given (model.Card Unit)
given C call = step (size_of C) tt (card_in C) call

-- its answer, and the record of its next state
unfoldable pub answered : Card → Given (model.Card Unit) → Answered Card
answered C g = record { answer = g.answer; next = card_of (size_of C) g.next }

-- The answer and the record that come back are those of the paper's step, and so is what the lent bytes then are. So the answer's numbers, a read's
-- bytes from the place on among them, are the paper's; and the record is sound.
pub record Promise (C : Card) (call : Call) (r : Answered Card) (lent : List ℕ) : Type 0 where
  pub gives : r ≡ answered C (given C call)
  pub leaves : lent ≡ (given C call).lent
  pub says : numbers r.answer (drop (place_on call) lent) ≡ numbers (given C call).answer (drop (place_on call) (given C call).lent)
  pub sound : Sound r.next

-- A call by what is asked of a channel, with bytes at hand: the promise is kept with those that the call is lent, and the others stay.
pub record AskedPromise (C : Card) (channel : ℕ) (asked : Asked) (before : List ℕ) (place : ℕ) (r : Answered Card) (after : List ℕ) : Type 0 where
  pub lent : List ℕ
  pub kept : Promise C (on channel (call_with asked before place)) r lent
  pub at_hand : after ≡ lent ++ unlent asked before

-- the channel that a pick names, if there is one
abbrev pub as_option : maybe.Option ℕ → Option ℕ
as_option none = None
as_option (some n) = Some n

unfoldable pub next_ready : Card → Option ℕ
next_ready C = as_option (first_ready (card_in C) (round C.place))
