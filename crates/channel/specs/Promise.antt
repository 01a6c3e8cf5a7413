-- What every call on a channel's record promises.
use Rattle.std.specs.Prelude.{Bool, List, ◌++◌, ◌≡◌, ℕ, leb, length, drop}
use Rattle.paper.specs.Given.{Given}
use Rattle.paper.specs.Numbers.{numbers}
use Rattle.paper.specs.Asked.{call_with, unlent}
use Rattle.paper.specs.declared.Answered.{Answered}
use Rattle.paper.specs.declared.Asked.{Asked}
use Rattle.paper.specs.Channel as model
use Rattle.paper.specs.Channel.{ChannelCall, place_of, channel_step}
use Rattle.channel.specs.declared.Channel.{Channel}
use Rattle.channel.specs.Held.{size_of, channel_of, channel_in, Sound}

-- the paper's step on the channel that a record holds
unfoldable pub given : Channel → ChannelCall → Given (model.Channel Unit)
given c call = channel_step (size_of c) tt (channel_in c) call

-- its answer, and the record of its next state
unfoldable pub answered : Channel → Given (model.Channel Unit) → Answered Channel
answered c g = record { answer = g.answer; next = channel_of (size_of c) g.next }

-- The answer and the record that come back are those of the paper's step, and so is what the lent bytes then are. So the answer's numbers, a read's
-- bytes from the place on among them, are the paper's; and the record is sound.
pub record Promise (c : Channel) (call : ChannelCall) (r : Answered Channel) (lent : List ℕ) : Type 0 where
  pub gives : r ≡ answered c (given c call)
  pub leaves : lent ≡ (given c call).lent
  pub says : numbers r.answer (drop (place_of call) lent) ≡ numbers (given c call).answer (drop (place_of call) (given c call).lent)
  pub sound : Sound r.next

-- A call by what is asked, with bytes at hand: the promise is kept with those that the call is lent, and the others stay.
pub record AskedPromise (c : Channel) (asked : Asked) (before : List ℕ) (place : ℕ) (r : Answered Channel) (after : List ℕ) : Type 0 where
  pub lent : List ℕ
  pub kept : Promise c (call_with asked before place) r lent
  pub at_hand : after ≡ lent ++ unlent asked before

-- "show that the promise admits one answer only"
pub record OneAnswer : Type 0 where
  pub by_name : (c : Channel) (call : ChannelCall) (r r' : Answered Channel) (l l' : List ℕ)
      → Promise c call r l → Promise c call r' l' → (r ≡ r') × (l ≡ l')
  pub by_asking : (c : Channel) (asked : Asked) (before : List ℕ) (place : ℕ) (r r' : Answered Channel) (after after' : List ℕ)
      → AskedPromise c asked before place r after → AskedPromise c asked before place r' after' → (r ≡ r') × (after ≡ after')

-- "waiting items reach its threshold"
unfoldable pub at_threshold : Channel → Bool
at_threshold c = leb (channel_in c).settings.threshold (length (channel_in c).queue.slots)
