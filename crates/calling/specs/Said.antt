-- What answering a frame promises: a call on a channel, a pick, or none.
use Rattle.std.specs.Prelude.{List, ◌≡◌, ℕ}
use Rattle.std.proofs.Math.Option.{Option}
use Rattle.paper.specs.Channel.{ChannelCall}
use Rattle.paper.specs.Card.{Call}
use Rattle.paper.specs.Frames.{replied}
use Rattle.paper.specs.declared.Answer.{Answer}
use Rattle.channel.specs.declared.Channel.{Channel}
use Rattle.channel.specs.Promise as channel
use Rattle.card.specs.declared.Card.{Card}
use Rattle.card.specs.Held.{size_of, card_in, Sound}
use Rattle.page.specs.Page.{Page, with_text}
use Rattle.answers.specs.AnswerLine.{answer_line}

-- A call on a channel kept its promise, and what it answered was written as a line
pub record Says (c : Channel) (call : ChannelCall) (before : Page) (next : Channel) (after : Page) : Type 0 where
  pub answer : Answer
  pub lent : List ℕ
  pub kept : channel.Promise c call (record { answer = answer; next = next }) lent
  pub wrote : after ≡ with_text (answer_line answer lent) before

-- The answer line of a frame that asks for a call or for none, and the record of the card after it, are the paper's
pub record Replies (C : Card) (asked : Option Call) (text : List ℕ) (D : Card) : Type 0 where
  pub says : text ≡ (replied (size_of C) (card_in C) asked).text
  pub leaves : card_in D ≡ (replied (size_of C) (card_in C) asked).next
  pub sound : Sound D

-- A frame that is for no channel was answered, and at most the pick's place has moved
pub record Answers (C : Card) (asked : Option Call) (before : Page) (place : ℕ) (after : Page) : Type 0 where
  pub text : List ℕ
  pub replies : Replies C asked text (record { channels = C.channels; place = place })
  pub wrote : after ≡ with_text text before
