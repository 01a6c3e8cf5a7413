-- The words of the demands, read off a run: what one port was asked and answered, and what that was to its receive queue and to its transmitter.
use Rattle.std.specs.Prelude.{◌≡◌, Bool, true, false, ◌&&◌, ◌≢◌, List, [], ◌∷◌, ◌++◌, map, ℕ, ◌+◌, eqb, ltb, length, get_or, take, drop, if◌then◌else◌, Result, Ok, Err}
use Rattle.std.proofs.Math.Option.{Option, none, some}
use Rattle.paper.specs.Given.{Given}
use Rattle.paper.specs.Arrival.{arrival, marking, CR, NL}
use Rattle.paper.specs.Queue.{Slot, oldest, names_of}
use Rattle.paper.specs.Numbers.{numbers}
use Rattle.paper.specs.Transmitter.{Transmitter, TransmitCall, load, turn, set_cts, ask_special, special_character}
use Rattle.paper.specs.Channel.{Channel, ChannelCall, arrive, read, take_settings, reset, state, transmit, place_of}
use Rattle.paper.specs.Settings.{Size}
use Rattle.paper.specs.Card.{fresh_card, Call, on, pick, at}
use Rattle.paper.specs.Run.{Named, Moment, run, end}
use Rattle.paper.specs.declared.Settings.{Settings}
use Rattle.paper.specs.declared.Fate.{Fate}
use Rattle.paper.specs.declared.Fate.TheVariants.{Stored, Nothing, Lost}
use Rattle.paper.specs.declared.Answer.{Answer}
use Rattle.paper.specs.declared.Answer.TheVariants as answers
use Rattle.paper.specs.declared.Item.{Item}
use Rattle.paper.specs.declared.Why.{Why}

-- WHAT AN ANSWER SAYS: that the call was refused; an arrival's fate; how many characters a read handed over, and in how many bytes
pub record Report : Type 0 where
  pub refused : Bool
  pub fate : Option Fate
  pub characters : ℕ
  pub bytes : ℕ

-- none of these
abbrev pub nothing_said : Report
nothing_said = record { refused = false; fate = none; characters = 0; bytes = 0 }

abbrev pub report : Answer → Report
report (answers.Refused r) = record { refused = true; fate = none; characters = 0; bytes = 0 }
report (answers.Fated f) = record { refused = false; fate = some f; characters = 0; bytes = 0 }
report (answers.Handed characters flagged bytes) = record { refused = false; fate = none; characters = characters; bytes = bytes }
report (answers.Took n) = nothing_said
report answers.Silent = nothing_said
report (answers.Sent b) = nothing_said
report answers.Done = nothing_said
report (answers.Shown waiting sending stopped losses) = nothing_said
report (answers.Picked n) = nothing_said
report answers.NoneReady = nothing_said

abbrev pub is_refused : Answer → Bool
is_refused a = (report a).refused

-- WHAT A CALL ASKS of a receive queue: to place what the seven steps rule; to hand over so many characters; to be fresh again
pub record Request : Type 0 where
  pub ruling : Option (Result Item Why)
  pub characters : ℕ
  pub reset : Bool

-- none of these
abbrev pub nothing_asked : Request
nothing_asked = record { ruling = none; characters = 0; reset = false }

abbrev pub request : {A : Type 0} → Channel A → ChannelCall → Request
request h (arrive kind b) = record { ruling = some (arrival h.settings h.flags kind b).ruling; characters = 0; reset = false }
request h (read n place buffer) = record { ruling = none; characters = n; reset = false }
request h (take_settings l) = nothing_asked
request h reset = record { ruling = none; characters = 0; reset = true }
request h state = nothing_asked
request h (transmit c) = nothing_asked

-- ONE PORT

-- One call on the port, as it went: the channel that it found, the answer, and the lent bytes after it
pub record Entry (A : Type 0) : Type 0 where
  pub before : Channel A
  pub by : Named A ChannelCall
  pub answer : Answer
  pub lent : List ℕ

module _ {A : Type 0} where
  -- a call, if it names port n
  abbrev pub call_on : ℕ → A → Call → List (Named A ChannelCall)
  call_on n a (on k c) = if eqb k n then record { name = a; call = c } ∷ [] else []
  call_on n a pick = []

  -- the calls that name port n, in order, as they were made
  abbrev pub calls_on : ℕ → List (Named A Call) → List (Named A ChannelCall)
  calls_on n [] = []
  calls_on n (c ∷ cs) = call_on n c.name c.call ++ calls_on n cs

  abbrev pub entry_of : {S : Type 0} → Channel A → Given S → Named A ChannelCall → Entry A
  entry_of h g c = record { before = h; by = c; answer = g.answer; lent = g.lent }

  -- the same calls, as they went
  abbrev pub port : ℕ → List (Moment A) → List (Entry A)
  port n [] = []
  port n (m ∷ ms) = map (entry_of (at m.before n) m.gave) (call_on n m.by.name m.by.call) ++ port n ms

  -- from the last reset on, if there was one: kept are the entries behind the last one that was found
  abbrev pub behind_reset : (kept : List (Entry A)) → List (Entry A) → List (Entry A)
  behind_reset kept [] = kept
  behind_reset kept (e ∷ es) = if (request e.before e.by.call).reset then behind_reset es es else behind_reset kept es

  abbrev pub since_reset : List (Entry A) → List (Entry A)
  since_reset es = behind_reset es es

  -- marking was on at every arrival
  abbrev pub Marking : List (Entry A) → Type 0
  Marking [] = Unit {0}
  Marking (e ∷ es) = ((report e.answer).fate ≢ none → marking e.before.settings ≡ true) × Marking es

-- what the calls on port n were, and what they answered; and the channel after them
abbrev pub history : {A : Type 0} → Size → ℕ → List (Named A Call) → List (Entry A)
history z n cs = port n (run z fresh_card cs)

abbrev pub after : {A : Type 0} → Size → ℕ → List (Named A Call) → Channel A
after z n cs = at (end z fresh_card cs) n

-- all that the parts of a list come to, in order
abbrev pub gathered : {E X : Type 0} → (E → List X) → List E → List X
gathered part [] = []
gathered part (e ∷ es) = part e ++ gathered part es

-- ITS RECEIVE QUEUE

-- What one call on the port was to the queue
pub record QueueEntry (A : Type 0) : Type 0 where
  -- of an arrival: the name of what it may store, what the seven steps rule, and the fate that was told
  pub name : A
  pub ruling : Option (Result Item Why)
  pub fate : Option Fate
  -- of a read: how many characters were asked for, what was handed over, and the bytes that the host finds in its buffer
  pub asked : ℕ
  pub handed : List (Slot A)
  pub bytes : List ℕ
  -- whether it was a reset
  pub reset : Bool

module _ {A : Type 0} where
  abbrev pub queue_entry : Entry A → QueueEntry A
  queue_entry e =
      let asks = request e.before e.by.call in
      let says = report e.answer in
      record {
        name = e.by.name;
        ruling = asks.ruling;
        fate = says.fate;
        -- "a refused read asks for nothing"
        asked = if says.refused then 0 else asks.characters;
        -- the oldest that waited, as many as the answer says
        handed = oldest says.characters e.before.queue;
        -- from the place on, as many as the answer says
        bytes = take says.bytes (drop (place_of e.by.call) e.lent);
        reset = asks.reset;
      }

  -- the queue's own history
  abbrev pub queue_history : List (Entry A) → List (QueueEntry A)
  queue_history es = map queue_entry es

  -- no resets
  abbrev pub NoReset : List (QueueEntry A) → Type 0
  NoReset [] = Unit {0}
  NoReset (e ∷ es) = (e.reset ≡ false) × NoReset es

  -- what was handed over
  abbrev pub handed : List (QueueEntry A) → List (Slot A)
  handed es = gathered (λ (e : QueueEntry A). e.handed) es

  -- the bytes that the host finds in its buffers
  abbrev pub bytes_found : List (QueueEntry A) → List ℕ
  bytes_found es = gathered (λ (e : QueueEntry A). e.bytes) es

abbrev pub loss_now : Option Fate → (later : Bool) → Bool
loss_now none later = later
loss_now (some Stored) later = false
loss_now (some (Nothing why)) later = later
loss_now (some Lost) later = true

abbrev pub lost_one : Option Fate → ℕ
lost_one none = 0
lost_one (some Stored) = 0
lost_one (some (Nothing why)) = 0
lost_one (some Lost) = 1

module _ {A : Type 0} where
  -- a loss comes before anything more is stored
  abbrev pub loss_next : List (QueueEntry A) → Bool
  loss_next [] = false
  loss_next (e ∷ es) = loss_now e.fate (loss_next es)

  -- what the arrivals with fate 0 stored, in order, each flagged if a loss happened while it was the newest
  abbrev pub stored_as : A → Option Fate → Option (Result Item Why) → (over : Bool) → List (Slot A)
  stored_as a none r over = []
  stored_as a (some Stored) none over = []
  stored_as a (some Stored) (some (Ok i)) over = record { item = i; over = over; name = a } ∷ []
  stored_as a (some Stored) (some (Err why)) over = []
  stored_as a (some (Nothing why)) r over = []
  stored_as a (some Lost) r over = []

  abbrev pub stored : List (QueueEntry A) → List (Slot A)
  stored [] = []
  stored (e ∷ es) = stored_as e.name e.fate e.ruling (loss_next es) ++ stored es

  -- how many arrivals had fate 2
  abbrev pub lost : List (QueueEntry A) → ℕ
  lost [] = 0
  lost (e ∷ es) = lost_one e.fate + lost es

-- ITS TRANSMITTER

-- What one call on the port was to the transmitter
pub record TransmitEntry : Type 0 where
  -- of a load: the bytes that it took
  pub took : List ℕ
  -- of a special that was asked for: the special character, if it was taken
  pub asked : List ℕ
  -- of a turn: what it sent while a special waited; and else what it sent, the byte that left the queue, and as what that byte is to go out
  pub special : List ℕ
  pub sent : List ℕ
  pub left : List ℕ
  pub due : List ℕ

-- none of these
abbrev pub nothing_moved : TransmitEntry
nothing_moved = record { took = []; asked = []; special = []; sent = []; left = []; due = [] }

-- "With field 10, a queued NL goes out as CR, leaves the queue and owes an NL."
abbrev pub goes_as : Settings → ℕ → List ℕ
goes_as s b = if eqb s.expand 1 && eqb b NL then CR ∷ NL ∷ [] else b ∷ []

-- a turn that sent something without a special and without an owed NL has taken it off the queue
abbrev pub turn_entry : Settings → Transmitter → (sent : List ℕ) → (waiting : Option ℕ) → TransmitEntry
turn_entry s t sent (some b) = record { took = []; asked = []; special = sent; sent = []; left = []; due = [] }
turn_entry s t sent none =
    let left = if t.owed then [] else take (length sent) t.bytes in
    record { took = []; asked = []; special = []; sent = sent; left = left; due = gathered (goes_as s) left }

-- line: the answer's numbers. "taken": a load took so many of the bytes it was lent; "00, or 01 and the byte sent"; a special that was taken has 00
abbrev pub transmitted : Settings → Transmitter → (line : List ℕ) → TransmitCall → TransmitEntry
transmitted s t line (load l) = record { took = take (get_or line 1 0) l; asked = []; special = []; sent = []; left = []; due = [] }
transmitted s t line turn = turn_entry s t (drop 2 line) t.special
transmitted s t line (set_cts v) = nothing_moved
transmitted s t line (ask_special n) =
    let asked = if eqb (get_or line 0 0) 0 then special_character s n ∷ [] else [] in
    record { took = []; asked = asked; special = []; sent = []; left = []; due = [] }

abbrev pub called_entry : {A : Type 0} → Channel A → (line : List ℕ) → ChannelCall → TransmitEntry
called_entry h line (arrive kind b) = nothing_moved
called_entry h line (read n place buffer) = nothing_moved
called_entry h line (take_settings l) = nothing_moved
called_entry h line reset = nothing_moved
called_entry h line state = nothing_moved
called_entry h line (transmit c) = transmitted h.settings h.transmitter line c

-- the transmitter's own history
abbrev pub transmit_history : {A : Type 0} → List (Entry A) → List TransmitEntry
transmit_history {A} es = map (λ (e : Entry A). called_entry e.before (numbers e.answer []) e.by.call) es

-- TWO HOSTS

-- an arrival or a setting change; a break's byte "is disregarded"
pub data Event : Type 0 where
  arrived : (kind byte : ℕ) → Event
  changed : List ℕ → Event

abbrev pub events_of : ChannelCall → List Event
events_of (arrive k b) = arrived k (if eqb k 3 then 0 else b) ∷ []
events_of (read n place buffer) = []
events_of (take_settings l) = changed l ∷ []
events_of reset = []
events_of state = []
events_of (transmit c) = []

module _ {A : Type 0} where
  -- the arrivals and setting changes, in order; "A refusal changes nothing"
  abbrev pub events : List (Entry A) → List Event
  events [] = []
  events (e ∷ es) = (if is_refused e.answer then [] else events_of e.by.call) ++ events es

abbrev pub count_at : Option Fate → ℕ → (later : List ℕ) → (again : List ℕ) → List ℕ
count_at none n later again = later
count_at (some f) n later again = n ∷ again

abbrev pub tail : List ℕ → List ℕ
tail [] = []
tail (n ∷ ns) = ns

module _ {A : Type 0} where
  -- how many characters are asked for before each arrival and behind the one before it; n: so far
  abbrev pub counts : ℕ → List (QueueEntry A) → List ℕ
  counts n [] = []
  counts n (e ∷ es) = count_at e.fate n (counts (n + e.asked) es) (counts 0 es)

  -- "between each two arrivals": the first count stands before the first arrival, and is between no two
  abbrev pub between : List (QueueEntry A) → List ℕ
  between es = tail (counts 0 es)

-- Just before an arrival: what has been handed over, by name; and the arrival's fate
pub record Before (A : Type 0) : Type 0 where
  pub has : List A
  pub fate : Fate

module _ {A : Type 0} where
  abbrev pub before_at : Option Fate → List A → List (Before A) → List (Before A)
  before_at none has later = later
  before_at (some f) has later = record { has = has; fate = f } ∷ later

  -- has: handed over so far
  abbrev pub befores : (has : List A) → List (QueueEntry A) → List (Before A)
  befores has [] = []
  befores has (e ∷ es) = before_at e.fate has (befores (has ++ names_of e.handed) es)

-- 1 for an arrival; one of a bad kind is refused, and is none
abbrev pub arrivals : ChannelCall → ℕ
arrivals (arrive kind b) = if ltb 3 kind then 0 else 1
arrivals (read n place buffer) = 0
arrivals (take_settings l) = 0
arrivals reset = 0
arrivals state = 0
arrivals (transmit c) = 0

-- each call of a list, with the number of arrivals on port n before it; k: so far
abbrev pub arrivals_on : ℕ → Call → ℕ
arrivals_on n (on m c) = if eqb m n then arrivals c else 0
arrivals_on n pick = 0

abbrev pub numbered : ℕ → (k : ℕ) → List Call → List (Named ℕ Call)
numbered n k [] = []
numbered n k (c ∷ cs) = record { name = k; call = c } ∷ numbered n (k + arrivals_on n c) cs

-- a list stands in another, in order
pub data Within {A : Type 0} : List A → List A → Type 0 where
  empty : Within [] []
  skip : {xs ys : List A} (y : A) → Within xs ys → Within xs (y ∷ ys)
  keep : {xs ys : List A} (x : A) → Within xs ys → Within (x ∷ xs) (x ∷ ys)

-- two lists of one length, related place by place
pub data Each {A B : Type 0} (R : A → B → Type 0) : List A → List B → Type 0 where
  nil : Each R [] []
  cons : {a : A} {b : B} {l : List A} {m : List B} → R a b → Each R l m → Each R (a ∷ l) (b ∷ m)

-- the second host "has been handed each character the first has", and accepts this arrival if the first does
pub record NoWorse {A : Type 0} (first second : Before A) : Type 0 where
  pub has : Within first.has second.has
  pub accepts : first.fate ≡ Stored → second.fate ≡ Stored

-- PICKS

abbrev pub is_pick : Call → Bool
is_pick (on n c) = false
is_pick pick = true

abbrev pub NoPick : {A : Type 0} → List (Named A Call) → Type 0
NoPick [] = Unit {0}
NoPick (c ∷ cs) = (is_pick c.call ≡ false) × NoPick cs
