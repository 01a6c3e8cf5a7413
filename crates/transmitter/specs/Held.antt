-- The record that holds the paper's transmitter, what a record holds, and what each call promises: the paper's answer, and the record that
-- holds what the paper leaves of the transmitter. The queue stands in an array, the oldest byte first, zeros behind it.
use Rattle.std.specs.Prelude.{◌≡◌, Bool, true, false, List, ℕ, ◌≤◌, length, take}
use Rattle.std.proofs.Math.Option.{Option, none, some}
use Rattle.arrays.specs.Padded.{padded}
use Rattle.paper.specs.Given.{Given}
use Rattle.paper.specs.Transmitter as model
use Rattle.paper.specs.declared.Settings.{Settings}
use Rattle.paper.specs.declared.Flags.{Flags}
use Rattle.transmitter.specs.declared.Transmitter.{Transmitter}
use Rattle.paper.specs.declared.Answered.{Answered}

-- whether a special character waits, and which: 0 where none does
abbrev pub waits : Option ℕ → Bool
waits none = false
waits (some b) = true

abbrev pub character : Option ℕ → ℕ
character none = 0
character (some b) = b

abbrev pub special_in : (waits : Bool) → (special : ℕ) → Option ℕ
special_in true b = some b
special_in false b = none

-- the record that holds the paper's transmitter
unfoldable pub transmitter_of : model.Transmitter → Transmitter
transmitter_of t =
    record {
      bytes = padded model.transmit_depth t.bytes;
      count = length t.bytes;
      owed = t.owed;
      waits = waits t.special;
      special = character t.special;
      cts = t.cts;
    }

-- what a record holds
unfoldable pub transmitter_in : Transmitter → model.Transmitter
transmitter_in t = record { bytes = take t.count t.bytes; owed = t.owed; special = special_in t.waits t.special; cts = t.cts }

-- "A card or record here means one that a fresh start and these calls can give"
pub record Sound (t : Transmitter) : Type 0 where
  pub is : t ≡ transmitter_of (transmitter_in t)
  pub sending : length (transmitter_in t).bytes ≤ model.transmit_depth

-- what a call gives, as the record that it returns
unfoldable pub answered_as : Given model.Transmitter → Answered Transmitter
answered_as g = record { answer = g.answer; next = transmitter_of g.next }

-- "Load: takes the first min(length, room) bytes; answers that number."
unfoldable pub loads : Transmitter → List ℕ → Answered Transmitter
loads t l = answered_as (model.loaded (transmitter_in t) l)

-- "Else an owed NL; else the head of the queue; else nothing."
unfoldable pub sends_next : Settings → Transmitter → (owed : Bool) → Answered Transmitter
sends_next s t owed = answered_as (model.send_next s (transmitter_in t) owed (transmitter_in t).bytes)

-- "Line turn, one character time."
unfoldable pub turns : Settings → Flags → Transmitter → Answered Transmitter
turns s f t = answered_as (model.turned s f (transmitter_in t) (transmitter_in t).special)

-- CTS, and refusal 10, "CTS neither 0 nor 1"
unfoldable pub sets_cts : Transmitter → ℕ → Answered Transmitter
sets_cts t value = answered_as (model.cts_set (transmitter_in t) value)

-- "Special s from 1 to 4: the present special character s waits for the next turn."
unfoldable pub asks_special : Settings → Transmitter → ℕ → Answered Transmitter
asks_special s t number = answered_as (model.special_asked s (transmitter_in t) number)
