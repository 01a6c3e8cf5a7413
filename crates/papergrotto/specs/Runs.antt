-- Calls on a record where it stands, one after the other, as their promises tell them; and what they have in common with the paper's run.
use Rattle.std.specs.Prelude.{List, [], ◌∷◌, map, ◌≡◌, ℕ, ◌<◌}
use Rattle.paper.specs.Settings.{card_size}
use Rattle.paper.specs.Channel.{ChannelCall, reset, fresh}
use Rattle.paper.specs.Card.{Call, on}
use Rattle.paper.specs.Run.{Named, nameless}
use Rattle.paper.specs.declared.Answer.TheVariants.{Done}
use Rattle.demands.specs.History.{Entry, history, after}
use Rattle.demands.specs.Spelling.{frame_of}
use Rattle.channel.specs.declared.Channel.{Channel}
use Rattle.channel.specs.Held.{channel_of}
use Rattle.channel.specs.Promise.{given}
use Rattle.telling.specs.declared.Told.{Told}
use Rattle.telling.specs.Told.{told}
use Rattle.papergrotto.specs.Promise.{Promise}

-- What C sees of a call: what it is told, and what the bytes that it lent then are
pub record Heard : Type 0 where
  pub told : Told
  pub lent : List ℕ

-- A record that was called, what C saw of each call, each promise kept, and the record that was left
pub data Called : Channel → List ChannelCall → List Heard → Channel → Type 0 where
  done : {c : Channel} → Called c [] [] c
  then_called : {c d e : Channel} {call : ChannelCall} {calls : List ChannelCall} {r : Told} {l : List ℕ} {hs : List Heard}
      → Promise c call r d l → Called d calls hs e → Called c (call ∷ calls) (record { told = r; lent = l } ∷ hs) e

-- the same calls, on port n of a card
abbrev pub on_port : ℕ → List ChannelCall → List (Named Unit Call)
on_port n calls = nameless (map (on n) calls)

-- what C would see of a call on the port
abbrev pub heard : Entry Unit → Heard
heard e = record { told = told e.answer; lent = e.lent }

-- A RECORD IS THE PAPER'S CHANNEL: of every list of calls on a fresh record C sees what the port's history tells, and they leave the record of the
-- channel after it; and every list of calls can be so made, each on a record that the call before it left sound. So whatever `demands` proves of the
-- history of a port, demands 2 and 3 among it, holds of what C is told, and `ToldReadBack` says that nothing of an answer is lost in the telling.
pub record RecordAsThePaper : Type 0 where
  pub shows : (n : ℕ) → n < 4 → (calls : List ChannelCall) (hs : List Heard) (d : Channel) → Called (channel_of card_size fresh) calls hs d
      → hs ≡ map heard (history card_size n (on_port n calls))
  pub leaves : (n : ℕ) → n < 4 → (calls : List ChannelCall) (hs : List Heard) (d : Channel) → Called (channel_of card_size fresh) calls hs d
      → d ≡ channel_of card_size (after card_size n (on_port n calls))
  pub every_list : (n : ℕ) → n < 4 → (calls : List ChannelCall)
      → Called (channel_of card_size fresh) calls (map heard (history card_size n (on_port n calls))) (channel_of card_size (after card_size n (on_port n calls)))
  -- a reset is no call of C's: a fresh record is stored, and there is nothing to tell
  pub resets : (c : Channel) → Promise c reset (told Done) (channel_of card_size fresh) []

-- an answer can be read back from what C is told: calls of one sort, with the same first byte of their frames, that are told alike have the same answer
abbrev pub ToldReadBack : Type 0
ToldReadBack =
    (c d : Channel) (call other : ChannelCall) → frame_of (on 0 call) ≡ frame_of (on 0 other)
    → told (given c call).answer ≡ told (given d other).answer → (given c call).answer ≡ (given d other).answer
