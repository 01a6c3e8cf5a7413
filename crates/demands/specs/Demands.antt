-- THE DEMANDS, each as a type; proofs/ has a proof of each. To be read with 01 beside it.
use Rattle.std.specs.Prelude.{◌≡◌, Bool, true, false, not, ◌⊎◌, ◌≢◌, List, [], ◌∷◌, ◌++◌, map, ℕ, ◌+◌, ◌-◌, ◌*◌, ◌≤◌, ◌<◌, min, length, get_or, drop, replicate, Result, Ok, Err}
use Rattle.std.proofs.Math.Option.{Option, none, some}
use Rattle.paper.specs.Settings.{Size, card_size}
use Rattle.paper.specs.Arrival.{NL, marking, arrival}
use Rattle.paper.specs.Queue.{oldest, items_of, overruns}
use Rattle.paper.specs.Stream.{Character, good, damaged, images, sort, byte, front, Decoded, decode, clean_front}
use Rattle.paper.specs.Transmitter.{Transmitter, transmit_depth, load, turn}
use Rattle.paper.specs.Channel.{ChannelCall, arrive, read, reset, state, transmit, lent, written}
use Rattle.paper.specs.Card.{Card, fresh_card, Call, on, pick, place_on, step, at, ready}
use Rattle.paper.specs.Run.{Named, run, seen, end, nameless}
use Rattle.paper.specs.Bounds.{Sound}
use Rattle.paper.specs.Numbers.{numbers}
use Rattle.paper.specs.Frames.{newline, call_of, hexadecimal, answered, reply, lines}
use Rattle.paper.specs.declared.Settings.{Settings}
use Rattle.paper.specs.declared.Flags.{Flags}
use Rattle.paper.specs.declared.Item.{Item}
use Rattle.paper.specs.declared.Why.{Why}
use Rattle.paper.specs.declared.Refusal.TheVariants.{BrokenStream, ShortOutput}
use Rattle.paper.specs.declared.Fate.{Fate}
use Rattle.paper.specs.declared.Fate.TheVariants.{Stored, Nothing, Lost}
use Rattle.paper.specs.declared.Answer.TheVariants.{Fated, Handed, Took, Silent, Sent, Shown, Picked}
use Rattle.paper.specs.Text.{text}
use Rattle.demands.specs.Examples.{Ranges, Crossed, Table, DamagedTable, Endings, LossStays, ReadCases, ReaderCases, EndCases, NumberCases, WholeCase, TransmitCase, QueueCase, HeldCase, NothingStoredCase, ImpliedXonCase, LiteralMarkCase, LineCase, RefusalCase, OrderCases, MergeCase}
use Rattle.demands.specs.ConfirmationCases.{JudgedCases, AsideCases, RunCases, FormCases, ConfirmCases, TheScale, YieldCases}
use Rattle.demands.specs.Confirmations.{Confirmations}
use Rattle.demands.specs.Marks.{character_of, stream, Accepts, FirstBroken}
use Rattle.demands.specs.History.{is_refused, calls_on, port, history, after, events, Marking, since_reset, queue_history, NoReset, handed, bytes_found, stored, lost, gathered, TransmitEntry, goes_as, transmit_history, between, Before, befores, numbered, Each, NoWorse, NoPick}
use Rattle.demands.specs.Conditions.{conditions, FirstDue}
use Rattle.demands.specs.Spelling.{Spells, Calls, frame_of}

-- DEMAND 1: "Every call answers for every input."

abbrev pub lent_by : Call → List ℕ
lent_by (on n c) = lent c
lent_by pick = []

-- "refused by a fixed number, with the card and all lent bytes unchanged"; "No refusal is given outside these conditions"
pub record Refusals : Type 1 where
  pub unchanged : (A : Type 0) (z : Size) (a : A) (K : Card A) (c : Call)
      → let g = step z a K c in
      is_refused g.answer ≡ true → (g.next ≡ K) × (g.lent ≡ lent_by c)
  pub exact : (A : Type 0) (z : Size) (a : A) (K : Card A) (c : Call) → FirstDue (conditions z K c) (step z a K c).answer

-- "A line that 11 refuses makes no call": a line that spells a frame is answered as its call, and any other by 0B alone
pub record Lines : Type 0 where
  pub called : (z : Size) (K : Card Unit) (line : List ℕ) (c : Call) → Calls z line c → reply z K line ≡ answered (step z tt K c)
  pub refused : (z : Size) (K : Card Unit) (line : List ℕ) → ((c : Call) → ¬ Calls z line c) → reply z K line ≡ record { text = text "0B\n"; next = K }

-- a byte that does not stand in a list
abbrev pub Without : ℕ → List ℕ → Type 0
Without b l = (i : ℕ) → i < length l → get_or l i 0 ≢ b

-- the lines of a text: "empty input prints nothing"; a line ends at its newline; "A last line without its newline counts"
pub record TextLines : Type 0 where
  pub empty : lines [] ≡ []
  pub ended : (line rest : List ℕ) → Without newline line → lines (line ++ newline ∷ rest) ≡ line ∷ lines rest
  pub unended : (line : List ℕ) → Without newline line → line ≢ [] → lines line ≡ line ∷ []

-- an answer can be read back from its line: what is printed spells the answer's numbers, where they are bytes; and calls with the same first byte of their
-- frames that are answered by the same numbers have the same answer, whatever else they bring, on whatever cards
pub record AnswersReadBack : Type 1 where
  pub printed : (l : List ℕ) → ((i : ℕ) → get_or l i 0 < 256) → Spells (hexadecimal l) l
  -- the first byte is that of 01's table
  pub frame : (z : Size) (f : List ℕ) (c : Call) → call_of z f ≡ some c → frame_of c ≡ get_or f 0 0
  pub answer : (A : Type 0) (z : Size) (a b : A) (K L : Card A) (c d : Call)
      → let g = step z a K c in
      let h = step z b L d in
      frame_of c ≡ frame_of d → numbers g.answer (drop (place_on c) g.lent) ≡ numbers h.answer (drop (place_on d) h.lent)
      → g.answer ≡ h.answer

-- "shown of a fresh one and kept by every call"
pub record Bounds : Type 1 where
  pub fresh : (A : Type 0) (z : Size) → 1 ≤ z.most → Sound {A = A} z fresh_card
  pub kept : (A : Type 0) (z : Size) (a : A) (K : Card A) (c : Call) → 1 ≤ z.most → Sound z K → Sound z (step z a K c).next
  pub reached : (A : Type 0) (z : Size) (cs : List (Named A Call)) → 1 ≤ z.most → Sound z (end z fresh_card cs)

-- DEMAND 2: THE READER

-- "reading the stream back gives the characters", and "every stream the reader accepts is the image of exactly one such list"; a stream that is not
-- accepted has one broken FF to name
pub record Reader : Type 0 where
  pub reads_back : (cs : List Character) → Accepts (stream cs) cs
  pub only_images : (s : List ℕ) (cs : List Character) → Accepts s cs → s ≡ stream cs
  pub once : (cs ds : List Character) → stream cs ≡ stream ds → cs ≡ ds
  pub broken_once : (s : List ℕ) (p q : ℕ) → FirstBroken s p → FirstBroken s q → p ≡ q
  pub broken_unread : (s : List ℕ) (p : ℕ) (cs : List Character) → FirstBroken s p → ¬ Accepts s cs

-- the three answers of the reader's call, "9 before 8", with both buffers afterwards
pub data ReaderGives (s sorts bytes : List ℕ) : Decoded → Type 0 where
  short : (length sorts < length s) ⊎ (length bytes < length s)
      → ReaderGives s sorts bytes (record { answer = Err ShortOutput; sorts = sorts; bytes = bytes })
  broken : length s ≤ length sorts → length s ≤ length bytes → (place : ℕ) → FirstBroken s place
      → ReaderGives s sorts bytes (record { answer = Err (BrokenStream place); sorts = sorts; bytes = bytes })
  served : length s ≤ length sorts → length s ≤ length bytes → (cs : List Character) → Accepts s cs
      → ReaderGives s sorts bytes (record { answer = Ok (length cs); sorts = front (map sort cs) sorts; bytes = front (map byte cs) bytes })

abbrev pub ReaderCall : Type 0
ReaderCall = (s sorts bytes : List ℕ) → ReaderGives s sorts bytes (decode s sorts bytes)

-- "the front of a stream up to its first FF"
pub record CleanFront (s : List ℕ) : Type 0 where
  pub rest : List ℕ
  pub whole : s ≡ clean_front s ++ rest
  pub clean : Without 0xFF (clean_front s)
  pub ends : (rest ≡ []) ⊎ (get_or rest 0 0 ≡ 0xFF)

-- DEMAND 2: ONE ARRIVAL

-- an arrival's fate, by what the seven steps rule and how many wait: nothing to store, with its reason; "stored"; "lost". There is no other
pub data FateOf (depth waiting : ℕ) : Result Item Why → Fate → Type 0 where
  nothing : (why : Why) → FateOf depth waiting (Err why) (Nothing why)
  room : (i : Item) → waiting < depth → FateOf depth waiting (Ok i) Stored
  full : (i : Item) → depth ≤ waiting → FateOf depth waiting (Ok i) Lost

abbrev pub Fates : Type 1
Fates =
    (A : Type 0) (z : Size) (a : A) (K : Card A) (n kind b : ℕ) → n < 4 → kind ≤ 3
    → let h = at K n in
    (f : Fate) × ((step z a K (on n (arrive kind b))).answer ≡ Fated f)
    × FateOf z.depth (length h.queue.slots) (arrival h.settings h.flags kind b).ruling f

-- with marking on, what is stored stands for a damaged 0 where a break came (demand 2: "A break counts as a damaged zero"), for the damaged byte as it
-- came, for a good character where a good one came
pub data StandsFor : (kind byte : ℕ) → Character → Type 0 where
  good_one : (b c : ℕ) → StandsFor 0 b (good c)
  parity : (b : ℕ) → StandsFor 1 b (damaged b)
  framing : (b : ℕ) → StandsFor 2 b (damaged b)
  break : (b : ℕ) → StandsFor 3 b (damaged 0x00)

abbrev pub Marked : Type 0
Marked =
    (s : Settings) (f : Flags) (kind b : ℕ) (i : Item) → kind ≤ 3 → marking s ≡ true → (arrival s f kind b).ruling ≡ Ok i
    → StandsFor kind b (character_of i)

-- DEMAND 2: WHOLE CALL SEQUENCES

-- "Where marking was on at every arrival, reading the stream back gives the characters handed over, good or damaged as stored, in order"
abbrev pub ReadBack : Type 0
ReadBack =
    (z : Size) (n : ℕ) → n < 4 → (cs : List Call)
    → let es = history z n (nameless cs) in
    let qs = queue_history es in
    Marking es → Accepts (bytes_found qs) (map character_of (items_of (handed qs)))

-- first in, first out: what was handed over, and then what still waits, is what the arrivals with fate 0 stored since the last reset, in
-- order; the overrun flag is on those behind which a loss happened while they were the newest, and on no others
abbrev pub FirstInFirstOut : Type 1
FirstInFirstOut =
    (A : Type 0) (z : Size) (n : ℕ) → n < 4 → (cs : List (Named A Call))
    → let qs = queue_history (since_reset (history z n cs)) in
    handed qs ++ (after z n cs).queue.slots ≡ stored qs

-- the loss count is the number of fates 2 since the last reset, "staying at 65,535"
abbrev pub LossCount : Type 1
LossCount =
    (A : Type 0) (z : Size) (n : ℕ) → n < 4 → (cs : List (Named A Call))
    → (after z n cs).queue.losses ≡ min (lost (queue_history (since_reset (history z n cs)))) 65535

-- a read tells of what it hands over and a state of what there is, "at most 12 waiting" (02 a): no count is made up
pub record ToldCounts : Type 1 where
  pub read : (A : Type 0) (z : Size) (a : A) (K : Card A) (n count place : ℕ) (buffer : List ℕ)
      → let g = step z a K (on n (read count place buffer)) in
      let out = oldest count (at K n).queue in
      is_refused g.answer ≡ false
      → (g.answer ≡ Handed (length out) (overruns out) (length (images (items_of out)))) × (g.lent ≡ written buffer place (images (items_of out)))
  pub state : (A : Type 0) (z : Size) (a : A) (K : Card A) (n : ℕ)
      → let h = at K n in
      is_refused (step z a K (on n state)).answer ≡ false
      → (step z a K (on n state)).answer
      ≡ Shown (min (length h.queue.slots) z.most) (length h.transmitter.bytes) (not h.flags.running) h.queue.losses

-- DEMAND 2: WHAT GOES OUT

-- since the last reset: what went out, and then what is still held, is what came in, in order
abbrev pub AllKept : (out : TransmitEntry → List ℕ) (held : Transmitter → List ℕ) (came : TransmitEntry → List ℕ) → Type 1
AllKept out held came =
    (A : Type 0) (z : Size) (n : ℕ) → n < 4 → (cs : List (Named A Call))
    → let ts = transmit_history (since_reset (history z n cs)) in
    gathered out ts ++ held (after z n cs).transmitter ≡ gathered came ts

abbrev pub owing : Bool → List ℕ
owing true = NL ∷ []
owing false = []

abbrev pub waits : Option ℕ → List ℕ
waits none = []
waits (some b) = b ∷ []

-- nothing is left to go out
pub record Gone (t : Transmitter) : Type 0 where
  pub bytes : t.bytes ≡ []
  pub owed : t.owed ≡ false
  pub special : t.special ≡ none

pub record GoesOut : Type 1 where
  -- "Load: takes the first min(length, room) bytes; answers that number."
  pub loads : (A : Type 0) (z : Size) (a : A) (K : Card A) (n : ℕ) (l : List ℕ) → n < 4
      → (step z a K (on n (transmit (load l)))).answer ≡ Took (min (length l) (transmit_depth - length (at K n).transmitter.bytes))
  -- bytes that left the queue, and those still in it, are those that loads took
  pub queued : AllKept (λ e. e.left) (λ t. t.bytes) (λ e. e.took)
  -- each goes out at one turn, an NL under field 10 as CR and NL at two, with nothing but specials between; the last NL may be owed
  pub sent : AllKept (λ e. e.sent) (λ t. owing t.owed) (λ e. e.due)
  -- every special that was taken is sent once, unless it still waits
  pub specials : AllKept (λ e. e.special) (λ t. waits t.special) (λ e. e.asked)
  -- and at the next turn: "A waiting special goes first, even when stopped or CTS is 0, even between CR and its NL."
  pub special_first : (A : Type 0) (z : Size) (a : A) (K : Card A) (n b : ℕ) → n < 4 → (at K n).transmitter.special ≡ some b
      → (step z a K (on n (transmit turn))).answer ≡ Sent b
  -- "Else nothing goes if stopped, or if field 9 is 1 and CTS is 0."
  pub held : (A : Type 0) (z : Size) (a : A) (K : Card A) (n : ℕ) → n < 4
      → let h = at K n in
      h.transmitter.special ≡ none → (h.flags.running ≡ false) ⊎ ((h.settings.hold ≡ 1) × (h.transmitter.cts ≡ false))
      → (step z a K (on n (transmit turn))).answer ≡ Silent
  -- "Else an owed NL; else the head of the queue": the first of all that is due goes
  pub goes : (A : Type 0) (z : Size) (a : A) (K : Card A) (n b : ℕ) (rest : List ℕ) → n < 4
      → let h = at K n in
      h.transmitter.special ≡ none → h.flags.running ≡ true → (h.settings.hold ≡ 1 → h.transmitter.cts ≡ true)
      → owing h.transmitter.owed ++ gathered (goes_as h.settings) h.transmitter.bytes ≡ b ∷ rest
      → (step z a K (on n (transmit turn))).answer ≡ Sent b
  -- and with nothing that holds, two turns for each byte and one each for an owed NL and a special let everything go
  pub all_goes : (A : Type 0) (z : Size) (a : A) (K : Card A) (n turns : ℕ) → n < 4 → Sound z K
      → let h = at K n in
      h.flags.running ≡ true → (h.settings.hold ≡ 1 → h.transmitter.cts ≡ true) → 2 + 2 * length h.transmitter.bytes ≤ turns
      → Gone (at (end z K (replicate turns (record { name = a; call = on n (transmit turn) }))) n).transmitter

-- DEMAND 3

-- "Take two hosts on one port, both from a fresh start, with the same arrivals and setting changes in the same order, and no resets. Suppose
-- that between each two arrivals the second host asks for at least as many characters as the first. Then just before every arrival the second
-- has been handed each character the first has, identified by its arrival; and none that the first's queue accepted is lost to the second."
abbrev pub ReadingMore : Type 0
ReadingMore =
    (z : Size) (n : ℕ) → n < 4 → (cs ds : List Call)
    → let first = history z n (numbered n 0 cs) in
    let second = history z n (numbered n 0 ds) in
    NoReset (queue_history first) → NoReset (queue_history second)
    → events first ≡ events second
    → Each ◌≤◌ (between (queue_history first)) (between (queue_history second))
    → Each NoWorse (befores [] (queue_history first)) (befores [] (queue_history second))

-- it says something, "read with thirteen" (02 a): the card's queue loses the fourteenth arrival to a host that reads nothing, and not to one that
-- reads a character before it
abbrev pub TwoHosts : Type 0
TwoHosts =
    let thirteen = replicate 13 (on 0 (arrive 0 65)) in
    let accepted : List (Before ℕ) = replicate 13 (record { has = []; fate = Stored }) in
    (befores [] (queue_history (history card_size 0 (numbered 0 0 (thirteen ++ on 0 (arrive 0 66) ∷ []))))
    ≡ accepted ++ record { has = []; fate = Lost } ∷ [])
    × (befores [] (queue_history (history card_size 0 (numbered 0 0 (thirteen ++ on 0 (read 1 0 (0 ∷ 0 ∷ 0 ∷ [])) ∷ on 0 (arrive 0 66) ∷ []))))
    ≡ accepted ++ record { has = 0 ∷ []; fate = Stored } ∷ [])

-- names, and so the numbering, change no answer and no lent byte: nothing that a caller sees
abbrev pub NamesUnseen : Type 1
NamesUnseen =
    (A : Type 0) (z : Size) (cs : List (Named A Call))
    → map seen (run z fresh_card cs) ≡ map seen (run z fresh_card (nameless (map (λ (c : Named A Call). c.call) cs)))

-- ONE CHANNEL AND THE OTHERS

-- "A call on one channel alters no other channel, nor the pick's place. Answers depend only on that channel". So a reset moves no place.
pub record Isolation : Type 1 where
  pub others : (A : Type 0) (z : Size) (a : A) (K : Card A) (n : ℕ) (c : ChannelCall) (m : ℕ)
      → m ≢ n → at (step z a K (on n c)).next m ≡ at K m
  pub place : (A : Type 0) (z : Size) (a : A) (K : Card A) (n : ℕ) (c : ChannelCall) → (step z a K (on n c)).next.place ≡ K.place
  pub alone : (A : Type 0) (z : Size) (a : A) (K L : Card A) (n : ℕ) (c : ChannelCall) → at K n ≡ at L n
      → let g = step z a K (on n c) in
      let h = step z a L (on n c) in
      (g.answer ≡ h.answer) × (g.lent ≡ h.lent)
  pub next : (A : Type 0) (z : Size) (a : A) (K L : Card A) (n : ℕ) (c : ChannelCall)
      → length K.channels ≡ length L.channels → at K n ≡ at L n → at (step z a K (on n c)).next n ≡ at (step z a L (on n c)).next n

-- "A channel at its threshold at each of four picks in a row is named by one of them", whatever other calls stand between
abbrev pub FourPicks : Type 1
FourPicks =
    (A : Type 0) (z : Size) (a : A) (K : Card A) (n : ℕ) → n < 4
    → (cs₁ cs₂ cs₃ : List (Named A Call)) → NoPick cs₁ → NoPick cs₂ → NoPick cs₃
    → let K₁ = end z (step z a K pick).next cs₁ in
    let K₂ = end z (step z a K₁ pick).next cs₂ in
    let K₃ = end z (step z a K₂ pick).next cs₃ in
    ready K n ≡ true → ready K₁ n ≡ true → ready K₂ n ≡ true → ready K₃ n ≡ true
    → ((step z a K pick).answer ≡ Picked n) ⊎ (((step z a K₁ pick).answer ≡ Picked n) ⊎ (((step z a K₂ pick).answer ≡ Picked n) ⊎ ((step z a K₃ pick).answer ≡ Picked n)))

-- ORDER BETWEEN PORTS (02 l): "Our logger merges four ports' calls and may swap neighbours."

-- "the same card and the same two answers in either order", and the same lent bytes: each call brings its own
pub record EitherOrder {A : Type 0} (z : Size) (K : Card A) (a b : A) (c d : Call) : Type 0 where
  pub card : (step z b (step z a K c).next d).next ≡ (step z a (step z b K d).next c).next
  pub answer : (step z a K c).answer ≡ (step z a (step z b K d).next c).answer
  pub lent : (step z a K c).lent ≡ (step z a (step z b K d).next c).lent
  pub other_answer : (step z b (step z a K c).next d).answer ≡ (step z b K d).answer
  pub other_lent : (step z b (step z a K c).next d).lent ≡ (step z b K d).lent

-- "two calls naming different channels", "refusals included": any two numbers, also above 3, and any card
abbrev pub Neighbours : Type 1
Neighbours = (A : Type 0) (z : Size) (K : Card A) (a b : A) (m n : ℕ) (c d : ChannelCall) → m ≢ n → EitherOrder z K a b (on m c) (on n d)

-- two lists of calls leave the same card, and each port's calls find the same channel and get the same answers and lent bytes, in their order
pub record Alike {A : Type 0} (z : Size) (K : Card A) (cs ds : List (Named A Call)) : Type 0 where
  pub card : end z K cs ≡ end z K ds
  pub ports : (n : ℕ) → port n (run z K cs) ≡ port n (run z K ds)

-- so any two merges of the same ports' lists of calls, without picks, each port's calls in their order
abbrev pub Merges : Type 1
Merges =
    (A : Type 0) (z : Size) (K : Card A) (cs ds : List (Named A Call)) → NoPick cs → NoPick ds
    → ((n : ℕ) → calls_on n cs ≡ calls_on n ds) → Alike z K cs ds

-- "Picks ... are excepted", and of two calls on one channel nothing is said: they need not come to the same in either order. Of a pick and an arrival,
-- worked out in Examples.OrderCases, answer and card differ. On one channel the card alone differs with a reset and an arrival, an answer alone with a
-- state and an arrival, the lent bytes alone with two reads of one character where two wait. Nor need two lists that differ by such a swap
pub record Excepted : Type 0 where
  pub picks : ¬ EitherOrder {A = Unit} card_size fresh_card tt tt pick (on 0 (arrive 0 65))
  pub resets : ¬ EitherOrder {A = Unit} card_size fresh_card tt tt (on 0 reset) (on 0 (arrive 0 65))
  pub states : ¬ EitherOrder {A = Unit} card_size fresh_card tt tt (on 0 state) (on 0 (arrive 0 65))
  pub reads : let two = end card_size fresh_card (nameless (on 0 (arrive 0 65) ∷ on 0 (arrive 0 66) ∷ [])) in
      let one = on 0 (read 1 0 (replicate 3 9)) in
      ¬ EitherOrder card_size two tt tt one one
  pub merged_picks : ¬ Alike card_size fresh_card (nameless (pick ∷ on 0 (arrive 0 65) ∷ [])) (nameless (on 0 (arrive 0 65) ∷ pick ∷ []))
  pub order_lost : ¬ Alike card_size fresh_card (nameless (on 0 state ∷ on 0 (arrive 0 65) ∷ [])) (nameless (on 0 (arrive 0 65) ∷ on 0 state ∷ []))

-- ALL OF THEM; proofs/Demands.antt has the proof
pub record Demands : Type 1 where
  pub ranges : Ranges
  pub crossed : Crossed
  pub table : Table
  pub damaged_table : DamagedTable
  pub endings : Endings
  pub loss_stays : LossStays
  pub read_cases : ReadCases
  pub reader_cases : ReaderCases
  pub end_cases : EndCases
  pub number_cases : NumberCases
  pub whole_case : WholeCase
  pub transmit_case : TransmitCase
  pub queue_case : QueueCase
  pub held_case : HeldCase
  pub nothing_stored_case : NothingStoredCase
  pub implied_xon_case : ImpliedXonCase
  pub literal_mark_case : LiteralMarkCase
  pub line_case : LineCase
  pub refusal_case : RefusalCase
  pub order_cases : OrderCases
  pub merge_case : MergeCase
  pub judged_cases : JudgedCases
  pub aside_cases : AsideCases
  pub run_cases : RunCases
  pub form_cases : FormCases
  pub confirm_cases : ConfirmCases
  pub the_scale : TheScale
  pub yield_cases : YieldCases
  pub refusals : Refusals
  pub lines : Lines
  pub text_lines : TextLines
  pub answers_read_back : AnswersReadBack
  pub bounds : Bounds
  pub reader : Reader
  pub reader_call : ReaderCall
  pub clean_front_lem : (s : List ℕ) → CleanFront s
  pub fates : Fates
  pub marked : Marked
  pub read_back : ReadBack
  pub first_in_first_out : FirstInFirstOut
  pub loss_count : LossCount
  pub told_counts : ToldCounts
  pub goes_out : GoesOut
  pub reading_more : ReadingMore
  pub two_hosts : TwoHosts
  pub names_unseen : NamesUnseen
  pub isolation : Isolation
  pub four_picks : FourPicks
  pub neighbours : Neighbours
  pub merges : Merges
  pub excepted : Excepted
  pub confirmations : Confirmations
