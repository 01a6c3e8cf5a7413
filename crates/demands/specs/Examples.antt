-- 01's examples, and others worked out by hand from its sentences. To be read with 01 beside it.
use Rattle.std.specs.Prelude.{◌≡◌, true, false, List, [], ◌∷◌, ◌++◌, map, ℕ, ◌+◌, ◌-◌, set, take, drop, replicate, Ok, Err}
use Rattle.std.proofs.Math.Option.{Option, none, some}
use Prim.Native.String.{String}
use Rattle.paper.specs.Settings.{card_size, fresh_bytes, bad_field}
use Rattle.paper.specs.Queue.{items_of, overrun}
use Rattle.paper.specs.Stream.{images, decode, clean_front}
use Rattle.paper.specs.Channel.{Channel, fresh, ChannelCall, arrive, read, take_settings, reset, state, channel_step}
use Rattle.paper.specs.Card.{fresh_card, Call, on, pick, place_on, step}
use Rattle.paper.specs.Run.{Named, end, nameless}
use Rattle.paper.specs.Numbers.{refusal_numbers, numbers}
use Rattle.paper.specs.Frames.{newline, program}
use Rattle.paper.specs.declared.Refusal.TheVariants.{BadChannel, BadKind, TooMany, NoRoom, BadField, BadSpecial, SpecialWaits, BrokenStream, ShortOutput, BadCts, BadLine}
use Rattle.paper.specs.declared.Answer.{Answer}
use Rattle.paper.specs.declared.Answer.TheVariants.{Refused, Handed, Shown}
use Rattle.paper.specs.Text.{text}
use Rattle.demands.specs.History.{calls_on}

-- SETTINGS

-- fresh settings but for a field
abbrev pub but : (field value : ℕ) → List ℕ → List ℕ
but field value l = set l (field - 1) value

-- A field with its lowest and its highest value, from the paper's table
pub record Range : Type 0 where
  pub field : ℕ
  pub lowest : ℕ
  pub highest : ℕ

abbrev pub range : (field lowest highest : ℕ) → Range
range f l h = record { field = f; lowest = l; highest = h }

abbrev pub ranges : List Range
ranges =
    range 1 1 4
    ∷ range 2 0 1
    ∷ range 3 0 1
    ∷ range 4 0 7
    ∷ range 5 0 2
    ∷ range 6 0 1
    ∷ range 7 0 1
    ∷ range 8 1 12
    ∷ range 9 0 1
    ∷ range 10 0 1
    ∷ range 11 0 255
    ∷ range 12 0 255
    ∷ range 13 0 255
    ∷ range 14 0 255
    ∷ range 15 0 255
    ∷ []

-- the bad field of the settings with a value in place of the fresh one
abbrev pub bad_with : (Range → ℕ) → Range → Option ℕ
bad_with value r = bad_field card_size.most (but r.field (value r) fresh_bytes)

-- both ends of every range are right; one beyond an end is bad, and it is that field that is reported
pub record Ranges : Type 0 where
  pub lowest : map (bad_with (λ (r : Range). r.lowest)) ranges ≡ replicate 15 none
  pub highest : map (bad_with (λ (r : Range). r.highest)) ranges ≡ replicate 15 none
  pub above : map (bad_with (λ (r : Range). r.highest + 1)) (take 10 ranges) ≡ map (λ (r : Range). some r.field) (take 10 ranges)
  pub below : bad_with (λ (r : Range). 0) (range 1 1 4) ∷ bad_with (λ (r : Range). 0) (range 8 1 12) ∷ [] ≡ some 1 ∷ some 8 ∷ []

-- lengths other than 15; the crossed values, which are bad only with field 5, or 5 and 7, on; own ranges first, in field order
abbrev pub Crossed : Type 0
Crossed =
    map (bad_field card_size.most)
    (take 14 fresh_bytes
    ∷ (fresh_bytes ++ 0 ∷ [])
    ∷ []
    ∷ but 12 0x11 fresh_bytes
    ∷ but 5 1 (but 12 0x11 fresh_bytes)
    ∷ but 5 2 (but 12 0x11 fresh_bytes)
    ∷ but 5 1 (but 15 0x11 fresh_bytes)
    ∷ but 7 1 (but 15 0x11 fresh_bytes)
    ∷ but 5 1 (but 7 1 (but 15 0x11 fresh_bytes))
    ∷ but 5 2 (but 7 1 (but 15 0x13 fresh_bytes))
    ∷ but 5 1 (but 7 1 (but 12 0x11 (but 15 0x11 fresh_bytes)))
    ∷ but 10 2 (but 5 1 (but 12 0x11 fresh_bytes))
    ∷ but 9 2 (but 3 2 fresh_bytes)
    ∷ [])
    ≡ some 0
    ∷ some 0
    ∷ some 0
    ∷ none
    ∷ some 12
    ∷ some 12
    ∷ none
    ∷ none
    ∷ some 15
    ∷ some 15
    ∷ some 12
    ∷ some 10
    ∷ some 3
    ∷ []

-- ONE ARRIVAL

-- the stored image of one arrival, under settings
abbrev pub image_of : List ℕ → (kind byte : ℕ) → List ℕ
image_of l kind b =
    let set = (channel_step card_size (tt {0}) fresh (take_settings l)).next in
    images (items_of (channel_step card_size (tt {0}) set (arrive kind b)).next.queue.slots)

-- A row: settings, a kind (0 good, 1 parity, 2 framing, 3 break) and a byte, and the stored image
pub record TableRow : Type 0 where
  pub settings : List ℕ
  pub kind : ℕ
  pub byte : ℕ
  pub image : List ℕ

abbrev pub table_row : List ℕ → (kind byte : ℕ) → (image : List ℕ) → TableRow
table_row s k b i = record { settings = s; kind = k; byte = b; image = i }

-- "Prove these as one table"
abbrev pub table_rows : List TableRow
table_rows =
    -- "good 41: 41"
    table_row fresh_bytes 0 0x41 (0x41 ∷ [])
    -- "Break: 00"
    ∷ table_row fresh_bytes 3 0x00 (0x00 ∷ [])
    -- "Break, field 2=0: none"
    ∷ table_row (but 2 0 fresh_bytes) 3 0x00 []
    -- "Mark, break: FF 00 00"
    ∷ table_row (but 1 4 fresh_bytes) 3 0x00 (0xFF ∷ 0x00 ∷ 0x00 ∷ [])
    -- "Mark, good FF: FF FF"
    ∷ table_row (but 1 4 fresh_bytes) 0 0xFF (0xFF ∷ 0xFF ∷ [])
    -- "Mark and strip, good FF: 7F"
    ∷ table_row (but 1 4 (but 3 1 fresh_bytes)) 0 0xFF (0x7F ∷ [])
    -- "Mark and strip, parity C1: FF 00 C1"
    ∷ table_row (but 1 4 (but 3 1 fresh_bytes)) 1 0xC1 (0xFF ∷ 0x00 ∷ 0xC1 ∷ [])
    -- "Discard, framing 41: none"
    ∷ table_row (but 1 2 fresh_bytes) 2 0x41 []
    -- "Null, parity 41: 00"
    ∷ table_row (but 1 3 fresh_bytes) 1 0x41 (0x00 ∷ [])
    -- "Endings 3, NL: 0D"
    ∷ table_row (but 4 3 fresh_bytes) 0 0x0A (0x0D ∷ [])
    -- "Endings 5, NL: 0D"
    ∷ table_row (but 4 5 fresh_bytes) 0 0x0A (0x0D ∷ [])
    -- "Endings 6, CR: none"
    ∷ table_row (but 4 6 fresh_bytes) 0 0x0D []
    ∷ []

abbrev pub stored_images : List TableRow → List (List ℕ)
stored_images [] = []
stored_images (r ∷ rs) = image_of r.settings r.kind r.byte ∷ stored_images rs

abbrev pub given_images : List TableRow → List (List ℕ)
given_images [] = []
given_images (r ∷ rs) = r.image ∷ given_images rs

abbrev pub Table : Type 0
Table = stored_images table_rows ≡ given_images table_rows

-- worked out by hand from steps 1 to 3: what else a break and a damaged character may meet
abbrev pub damaged_rows : List TableRow
damaged_rows =
    let mark = but 1 4 fresh_bytes in
    let mark_and_strip = but 3 1 mark in
    -- mark: a framing error is marked as a parity error is; a damaged 00 is no good 00; a break's byte "is disregarded"
    table_row mark 2 0x41 (0xFF ∷ 0x00 ∷ 0x41 ∷ [])
    ∷ table_row mark 1 0x00 (0xFF ∷ 0x00 ∷ 0x00 ∷ [])
    ∷ table_row mark 0 0x00 (0x00 ∷ [])
    ∷ table_row mark 3 0x41 (0xFF ∷ 0x00 ∷ 0x00 ∷ [])
    -- mark and strip: a break is marked too, and a damaged FF is "unstripped"
    ∷ table_row mark_and_strip 3 0x00 (0xFF ∷ 0x00 ∷ 0x00 ∷ [])
    ∷ table_row mark_and_strip 2 0xFF (0xFF ∷ 0x00 ∷ 0xFF ∷ [])
    -- a marked XOFF and a marked CR "match no special character", and no line ending
    ∷ table_row (but 5 2 mark) 1 0x13 (0xFF ∷ 0x00 ∷ 0x13 ∷ [])
    ∷ table_row (but 4 6 mark) 2 0x0D (0xFF ∷ 0x00 ∷ 0x0D ∷ [])
    -- "Pass: go on as good": stripped, and FF is bare where nothing is marked
    ∷ table_row (but 3 1 fresh_bytes) 2 0xC1 (0x41 ∷ [])
    ∷ table_row fresh_bytes 1 0xFF (0xFF ∷ [])
    -- a break is one by its kind alone: where breaks are ignored, a framing error with the byte 00 is stored, and a break with another byte is not
    ∷ table_row (but 2 0 mark) 2 0x00 (0xFF ∷ 0x00 ∷ 0x00 ∷ [])
    ∷ table_row (but 2 0 mark) 3 0x41 []
    -- null and discard: what is "kept" of a break is a plain 00
    ∷ table_row (but 1 3 fresh_bytes) 2 0xFF (0x00 ∷ [])
    ∷ table_row (but 1 3 fresh_bytes) 3 0x41 (0x00 ∷ [])
    ∷ table_row (but 1 2 fresh_bytes) 3 0x41 (0x00 ∷ [])
    ∷ table_row (but 1 2 fresh_bytes) 1 0x00 []
    ∷ []

abbrev pub DamagedTable : Type 0
DamagedTable = stored_images damaged_rows ≡ given_images damaged_rows

-- 01's table of line endings, for the values 0 to 7: what CR gives, and what NL gives
abbrev pub Endings : Type 0
Endings =
    let under : ℕ → ℕ → List ℕ = λ b v. image_of (but 4 v fresh_bytes) 0 b in
    let values : List ℕ = 0 ∷ 1 ∷ 2 ∷ 3 ∷ 4 ∷ 5 ∷ 6 ∷ 7 ∷ [] in
    (map (under 0x0D) values ≡ (0x0D ∷ []) ∷ (0x0D ∷ []) ∷ (0x0A ∷ []) ∷ (0x0A ∷ []) ∷ [] ∷ [] ∷ [] ∷ [] ∷ [])
    × (map (under 0x0A) values
    ≡ (0x0A ∷ []) ∷ (0x0D ∷ []) ∷ (0x0A ∷ []) ∷ (0x0D ∷ []) ∷ (0x0A ∷ []) ∷ (0x0D ∷ []) ∷ (0x0A ∷ []) ∷ (0x0D ∷ []) ∷ [])

-- "the loss count rises by 1, staying at 65,535"
abbrev pub loss_after : ℕ → ℕ
loss_after n = (overrun {A = Unit {0}} (record { slots = []; losses = n })).losses

abbrev pub LossStays : Type 0
LossStays = (loss_after 255 ≡ 256) × (loss_after 65534 ≡ 65535) × (loss_after 65535 ≡ 65535)

-- READS

-- marking is on, and a damaged 41, a good 42 and a good FF wait
abbrev pub three : Channel (Unit {0})
three =
    let marked = (channel_step card_size tt fresh (take_settings (but 1 4 fresh_bytes))).next in
    let first = (channel_step card_size tt marked (arrive 1 0x41)).next in
    (channel_step card_size tt (channel_step card_size tt first (arrive 0 0x42)).next (arrive 0 0xFF)).next

-- what a read answers, and the lent buffer after it
abbrev pub read_of : (n place : ℕ) → List ℕ → Answer × List ℕ
read_of n place buffer =
    let g = channel_step card_size tt three (read n place buffer) in
    (g.answer, g.lent)

-- "Read 12 into 36 bytes is served, into 35 refused (4); read 0 at the very end of a buffer is served", and a place beyond it is refused; 13 are too
-- many before there is no room; what stands before the place and behind the images stays
pub record ReadCases : Type 0 where
  pub whole : read_of 12 0 (replicate 36 9) ≡ (Handed 3 0 6, 0xFF ∷ 0x00 ∷ 0x41 ∷ 0x42 ∷ 0xFF ∷ 0xFF ∷ replicate 30 9)
  pub too_short : read_of 12 0 (replicate 35 9) ≡ (Refused NoRoom, replicate 35 9)
  pub at_the_end : read_of 0 5 (replicate 5 9) ≡ (Handed 0 0 0, replicate 5 9)
  pub beyond_it : read_of 0 6 (replicate 5 9) ≡ (Refused NoRoom, replicate 5 9)
  pub too_many : read_of 13 0 (replicate 5 9) ≡ (Refused TooMany, replicate 5 9)
  pub inside : read_of 2 1 (1 ∷ 2 ∷ 3 ∷ 4 ∷ 5 ∷ 6 ∷ 7 ∷ 8 ∷ []) ≡ (Handed 2 0 4, 1 ∷ 0xFF ∷ 0x00 ∷ 0x41 ∷ 0x42 ∷ 6 ∷ 7 ∷ 8 ∷ [])

-- MARKED STREAMS

-- what is read, with both buffers afterwards: nothing; a whole stream, into longer buffers; an FF before 01; one cut off; FF 00 cut off; and a broken
-- stream with an output that is too short, where 9 comes before 8
pub record ReaderCases : Type 0 where
  pub nothing : decode [] (7 ∷ []) [] ≡ record { answer = Ok 0; sorts = 7 ∷ []; bytes = [] }
  pub whole : decode (0x41 ∷ 0xFF ∷ 0xFF ∷ 0xFF ∷ 0x00 ∷ 0x42 ∷ []) (replicate 6 9) (replicate 7 8)
      ≡ record { answer = Ok 3; sorts = 0 ∷ 0 ∷ 1 ∷ 9 ∷ 9 ∷ 9 ∷ []; bytes = 0x41 ∷ 0xFF ∷ 0x42 ∷ 8 ∷ 8 ∷ 8 ∷ 8 ∷ [] }
  pub broken : decode (0x41 ∷ 0xFF ∷ 0x01 ∷ 0xFF ∷ []) (replicate 4 9) (replicate 4 8)
      ≡ record { answer = Err (BrokenStream 1); sorts = replicate 4 9; bytes = replicate 4 8 }
  pub cut : decode (0xFF ∷ []) (9 ∷ []) (8 ∷ []) ≡ record { answer = Err (BrokenStream 0); sorts = 9 ∷ []; bytes = 8 ∷ [] }
  pub cut_later : decode (0x41 ∷ 0xFF ∷ 0x00 ∷ []) (replicate 3 9) (replicate 3 8)
      ≡ record { answer = Err (BrokenStream 1); sorts = replicate 3 9; bytes = replicate 3 8 }
  pub short : decode (0x41 ∷ 0xFF ∷ 0x01 ∷ []) (replicate 3 9) (replicate 2 8)
      ≡ record { answer = Err ShortOutput; sorts = replicate 3 9; bytes = replicate 2 8 }
  pub front : clean_front (0x41 ∷ 0x42 ∷ 0xFF ∷ 0x43 ∷ []) ≡ 0x41 ∷ 0x42 ∷ []

-- TRACES

-- a line and its answer
pub record Exchange : Type 0 where
  pub line : String
  pub answer : String

infix 68 ◌⇒◌
abbrev pub ◌⇒◌ : String → String → Exchange
line ⇒ answer = record { line = line; answer = answer }

abbrev pub input_of : List Exchange → List ℕ
input_of [] = []
input_of (x ∷ xs) = text x.line ++ newline ∷ input_of xs

abbrev pub output_of : List Exchange → List ℕ
output_of [] = []
output_of (x ∷ xs) = text x.answer ++ newline ∷ output_of xs

-- the program turns the input text into the output text
abbrev pub Answered : List Exchange → Type 0
Answered xs = program card_size (input_of xs) ≡ output_of xs

-- "empty input prints nothing"; "an empty line is refusal 11"; "A last line without its newline counts", also one that is no frame
pub record EndCases : Type 0 where
  pub nothing : program card_size [] ≡ []
  pub newline_alone : program card_size (text "\n") ≡ text "0B\n"
  pub unended : program card_size (text "0A00\n08") ≡ text "000000000000\n00FF\n"
  pub half_a_byte : program card_size (text "08\n0") ≡ text "00FF\n0B\n"

-- the numbers of each refusal, "5 is followed by its field" and 8 by "the place of the offending FF"; of a read "characters, flagged, bytes", those of
-- ReadCases.inside from its place on; of a state "waiting, transmit waiting, stopped, loss high, loss low"
pub record NumberCases : Type 0 where
  pub refusals : map refusal_numbers
      (BadChannel ∷ BadKind ∷ TooMany ∷ NoRoom ∷ BadField 12 ∷ BadSpecial ∷ SpecialWaits ∷ BrokenStream 7 ∷ ShortOutput ∷ BadCts ∷ BadLine ∷ [])
      ≡ (1 ∷ [])
      ∷ (2 ∷ [])
      ∷ (3 ∷ [])
      ∷ (4 ∷ [])
      ∷ (5 ∷ 12 ∷ [])
      ∷ (6 ∷ [])
      ∷ (7 ∷ [])
      ∷ (8 ∷ 7 ∷ [])
      ∷ (9 ∷ [])
      ∷ (10 ∷ [])
      ∷ (11 ∷ [])
      ∷ []
  pub handed : numbers (Handed 2 1 4) (0xFF ∷ 0x00 ∷ 0x41 ∷ 0x42 ∷ 9 ∷ []) ≡ 0 ∷ 2 ∷ 1 ∷ 0xFF ∷ 0x00 ∷ 0x41 ∷ 0x42 ∷ []
  pub handed_inside : numbers (Handed 2 0 4) (drop (place_on (on 0 (read 2 1 (replicate 8 9)))) (1 ∷ 0xFF ∷ 0x00 ∷ 0x41 ∷ 0x42 ∷ 6 ∷ 7 ∷ 8 ∷ []))
      ≡ 0 ∷ 2 ∷ 0 ∷ 0xFF ∷ 0x00 ∷ 0x41 ∷ 0x42 ∷ []
  pub shown : numbers (Shown 12 3 true 0xABCD) [] ≡ 0 ∷ 12 ∷ 3 ∷ 1 ∷ 0xAB ∷ 0xCD ∷ []
  pub all_lost : numbers (Shown 0 0 false 65535) [] ≡ 0 ∷ 0 ∷ 0 ∷ 0 ∷ 0xFF ∷ 0xFF ∷ []

-- "Whole case, input then output"
abbrev pub WholeCase : Type 0
WholeCase =
    Answered
    ("0700040100020200010200011113000016" ⇒ "00"
    ∷ "010000FF" ⇒ "0000"
    ∷ "01000141" ⇒ "0000"
    ∷ "01000013" ⇒ "0001"
    ∷ "01000016" ⇒ "0000"
    ∷ "01000013" ⇒ "0000"
    ∷ "0100000D" ⇒ "0000"
    ∷ "08" ⇒ "0000"
    ∷ "03000A42" ⇒ "0002"
    ∷ "0400" ⇒ "0000"
    ∷ "01000011" ⇒ "0001"
    ∷ "0400" ⇒ "00010D"
    ∷ "0400" ⇒ "00010A"
    ∷ "0A00" ⇒ "000501000000"
    ∷ "02000C" ⇒ "000500FFFFFF004116130A"
    ∷ "01040041" ⇒ "01"
    ∷ [])

-- "Line turn" and "Special", sentence by sentence, worked out by hand: CTS holds the NL and A that were loaded, and special 3 goes all the same; a
-- second special is refused while it waits; with CTS the NL goes out as CR, and special 1 between it and its NL; field 10 is turned off, and the
-- owed NL does not count in the state and is sent; then A, then nothing; special 0 and 5, and CTS 2, are refused; of thirteen bytes twelve are
-- taken, then none of one, and none of none
abbrev pub TransmitCase : Type 0
TransmitCase =
    Answered
    ("07000101000000000001010111131A1B16" ⇒ "00"
    ∷ "03000A41" ⇒ "0002"
    ∷ "0400" ⇒ "0000"
    ∷ "060003" ⇒ "00"
    ∷ "060004" ⇒ "07"
    ∷ "0400" ⇒ "00011A"
    ∷ "050001" ⇒ "00"
    ∷ "0400" ⇒ "00010D"
    ∷ "060001" ⇒ "00"
    ∷ "0400" ⇒ "000111"
    ∷ "07000101000000000001010011131A1B16" ⇒ "00"
    ∷ "0A00" ⇒ "000001000000"
    ∷ "0400" ⇒ "00010A"
    ∷ "0400" ⇒ "000141"
    ∷ "0400" ⇒ "0000"
    ∷ "060000" ⇒ "06"
    ∷ "060005" ⇒ "06"
    ∷ "050002" ⇒ "0A"
    ∷ "03004142434445464748494A4B4C4D" ⇒ "000C"
    ∷ "03004E" ⇒ "0000"
    ∷ "0300" ⇒ "0000"
    ∷ "0A00" ⇒ "00000C000000"
    ∷ [])

-- eleven good characters, 42 to 4C, arrive on channel 0 and are stored
abbrev pub eleven_stored : List Exchange
eleven_stored =
    "01000042" ⇒ "0000"
    ∷ "01000043" ⇒ "0000"
    ∷ "01000044" ⇒ "0000"
    ∷ "01000045" ⇒ "0000"
    ∷ "01000046" ⇒ "0000"
    ∷ "01000047" ⇒ "0000"
    ∷ "01000048" ⇒ "0000"
    ∷ "01000049" ⇒ "0000"
    ∷ "0100004A" ⇒ "0000"
    ∷ "0100004B" ⇒ "0000"
    ∷ "0100004C" ⇒ "0000"
    ∷ []

-- A full queue, and picks, worked out by hand: with marking, a damaged character and twelve good ones wait, so a further one is lost, and so is
-- XOFF, which stops the transmitter all the same; a read of one makes room for one and not for two; a read of twelve finds one flag, that of the
-- newest when XOFF came, and the next finds one on the newest of all; channels 1 and 2 are picked in turn, then 1 again; read empty, there is none to
-- pick, and the place stays, so that 2 is named before 0; a reset clears the loss count
abbrev pub QueueCase : Type 0
QueueCase =
    Answered
    ("0700040100000100000100001113000016" ⇒ "00"
    ∷ "01000141" ⇒ "0000"
    ∷ eleven_stored
    ++ "0100004D" ⇒ "0000"
    ∷ "0100004E" ⇒ "0002"
    ∷ "01000013" ⇒ "0002"
    ∷ "0A00" ⇒ "000C00010002"
    ∷ "020001" ⇒ "000100FF0041"
    ∷ "0100004F" ⇒ "0000"
    ∷ "01000050" ⇒ "0002"
    ∷ "02000C" ⇒ "000C0142434445464748494A4B4C4D"
    ∷ "020001" ⇒ "0001014F"
    ∷ "0A00" ⇒ "000000010003"
    ∷ "01010041" ⇒ "0000"
    ∷ "01020041" ⇒ "0000"
    ∷ "08" ⇒ "0001"
    ∷ "08" ⇒ "0002"
    ∷ "08" ⇒ "0001"
    ∷ "02010C" ⇒ "00010041"
    ∷ "02020C" ⇒ "00010041"
    ∷ "08" ⇒ "00FF"
    ∷ "01000041" ⇒ "0000"
    ∷ "01020041" ⇒ "0000"
    ∷ "08" ⇒ "0002"
    ∷ "0900" ⇒ "00"
    ∷ "0A00" ⇒ "000000000000"
    ∷ [])

-- 02 a, "Thirteenth character", worked out by hand. Channel 0, which nobody reads at first: the state shows 12 with twelve there, and with one held
-- behind them; the fourteenth is lost and counted, and the state still shows 12; a read of thirteen is refused; a read of twelve finds no flag and
-- leaves one, the held one, which has moved up and has the flag. Channel 1: a line of thirteen characters (STX, 0007, a space, 001200, ETX) loses
-- nothing in two reads
abbrev pub HeldCase : Type 0
HeldCase =
    Answered
    ("01000041" ⇒ "0000"
    ∷ eleven_stored
    ++ "0A00" ⇒ "000C00000000"
    ∷ "0100004D" ⇒ "0000"
    ∷ "0A00" ⇒ "000C00000000"
    ∷ "0100004E" ⇒ "0002"
    ∷ "0A00" ⇒ "000C00000001"
    ∷ "02000D" ⇒ "03"
    ∷ "02000C" ⇒ "000C004142434445464748494A4B4C"
    ∷ "0A00" ⇒ "000100000001"
    ∷ "02000C" ⇒ "0001014D"
    ∷ "01010002" ⇒ "0000"
    ∷ "01010030" ⇒ "0000"
    ∷ "01010030" ⇒ "0000"
    ∷ "01010030" ⇒ "0000"
    ∷ "01010037" ⇒ "0000"
    ∷ "01010020" ⇒ "0000"
    ∷ "01010030" ⇒ "0000"
    ∷ "01010030" ⇒ "0000"
    ∷ "01010031" ⇒ "0000"
    ∷ "01010032" ⇒ "0000"
    ∷ "01010030" ⇒ "0000"
    ∷ "01010030" ⇒ "0000"
    ∷ "01010003" ⇒ "0000"
    ∷ "02010C" ⇒ "000C00023030303720303031323030"
    ∷ "02010C" ⇒ "00010003"
    ∷ "0A01" ⇒ "000000000000"
    ∷ [])

-- 02 b, "Say why nothing was stored", worked out by hand. Damaged characters discarded, breaks ignored, row 4 of the line endings, flow characters
-- swallowed, literal-next on: XOFF is swallowed (1) and stops the transmitter, XON is swallowed (1) and sets it running; a damaged XOFF is discarded (3,
-- not 1) and stops nothing, and a damaged CR is discarded (3, not 5); a break is ignored (4), whatever its byte; a CR is discarded (5), but stored (0)
-- behind the literal mark, which a discarded character between them leaves; the next CR is discarded again. Damaged characters passed, strip on: a
-- damaged XOFF is swallowed and stops (1, not 3), a damaged XON is swallowed and sets running, a damaged CR is a line ending discarded (5, not 3).
-- Thirteen wait: each of the four is told by its own number and not as lost (2), and nothing is counted; a good character is lost. XOFF is the
-- character 0D: it is swallowed (1, not 5); obeyed and stored, it is lost
abbrev pub NothingStoredCase : Type 0
NothingStoredCase =
    Answered
    ("0700020000040200010100001113000016" ⇒ "00"
    ∷ "01000013" ⇒ "0001"
    ∷ "0A00" ⇒ "000000010000"
    ∷ "01000011" ⇒ "0001"
    ∷ "0A00" ⇒ "000000000000"
    ∷ "01000113" ⇒ "0003"
    ∷ "0A00" ⇒ "000000000000"
    ∷ "0100020D" ⇒ "0003"
    ∷ "01000313" ⇒ "0004"
    ∷ "0100000D" ⇒ "0005"
    ∷ "01000016" ⇒ "0000"
    ∷ "01000141" ⇒ "0003"
    ∷ "0100000D" ⇒ "0000"
    ∷ "0100000D" ⇒ "0005"
    ∷ "0100000A" ⇒ "0000"
    ∷ "0700010001050200010100001113000016" ⇒ "00"
    ∷ "01000193" ⇒ "0001"
    ∷ "0A00" ⇒ "000300010000"
    ∷ "01000211" ⇒ "0001"
    ∷ "0A00" ⇒ "000300000000"
    ∷ "0100028D" ⇒ "0005"
    ∷ "02000C" ⇒ "000300160D0A"
    ∷ "0700020000060200000100001113000016" ⇒ "00"
    ∷ eleven_stored
    ++ "0100004D" ⇒ "0000"
    ∷ "0100004E" ⇒ "0000"
    ∷ "01000013" ⇒ "0001"
    ∷ "01000141" ⇒ "0003"
    ∷ "01000300" ⇒ "0004"
    ∷ "0100000D" ⇒ "0005"
    ∷ "0A00" ⇒ "000C00010000"
    ∷ "0100004F" ⇒ "0002"
    ∷ "0A00" ⇒ "000C00010001"
    ∷ "0700020000070200000100000A0D000016" ⇒ "00"
    ∷ "0100000D" ⇒ "0001"
    ∷ "0700020000070100000100000A0D000016" ⇒ "00"
    ∷ "0100000D" ⇒ "0002"
    ∷ "0A00" ⇒ "000C00010002"
    ∷ [])

-- Implied XON, worked out by hand from step 3. Mark, flow characters swallowed, implied XON and literal-next on: XOFF stops the transmitter; a kept break
-- and a marked character leave it so, a good one sets it running; XOFF stops it again, for step 6 recognises it; the literal-next character sets it
-- running, and the XOFF behind it is stored and stops nothing. Discard, row 4 of the line endings: a discarded character leaves it stopped, and a CR of
-- which nothing is stored sets it running. Pass: a damaged character sets it running, for it goes on as good. Implied XON off: a good character leaves it
-- stopped. On again, with thirteen waiting: a good character that is lost sets it running
abbrev pub ImpliedXonCase : Type 0
ImpliedXonCase =
    Answered
    ("0700040100000201010100001113000016" ⇒ "00"
    ∷ "01000013" ⇒ "0001"
    ∷ "01000300" ⇒ "0000"
    ∷ "01000141" ⇒ "0000"
    ∷ "0A00" ⇒ "000200010000"
    ∷ "01000041" ⇒ "0000"
    ∷ "0A00" ⇒ "000300000000"
    ∷ "01000013" ⇒ "0001"
    ∷ "0A00" ⇒ "000300010000"
    ∷ "01000016" ⇒ "0000"
    ∷ "0A00" ⇒ "000400000000"
    ∷ "01000013" ⇒ "0000"
    ∷ "0A00" ⇒ "000500000000"
    ∷ "0700020100040201000100001113000016" ⇒ "00"
    ∷ "01000013" ⇒ "0001"
    ∷ "01000141" ⇒ "0003"
    ∷ "0A00" ⇒ "000500010000"
    ∷ "0100000D" ⇒ "0005"
    ∷ "0A00" ⇒ "000500000000"
    ∷ "0700010100000201000100001113000016" ⇒ "00"
    ∷ "01000013" ⇒ "0001"
    ∷ "01000241" ⇒ "0000"
    ∷ "0A00" ⇒ "000600000000"
    ∷ "0700010100000200000100001113000016" ⇒ "00"
    ∷ "01000013" ⇒ "0001"
    ∷ "01000041" ⇒ "0000"
    ∷ "0A00" ⇒ "000700010000"
    ∷ "02000C" ⇒ "000700FF0000FF00414116134141"
    ∷ "0700010100000201000100001113000016" ⇒ "00"
    ∷ eleven_stored
    ++ "0100004D" ⇒ "0000"
    ∷ "0100004E" ⇒ "0000"
    ∷ "01000013" ⇒ "0001"
    ∷ "0A00" ⇒ "000C00010000"
    ∷ "0100004F" ⇒ "0002"
    ∷ "0A00" ⇒ "000C00000001"
    ∷ [])

-- The literal mark, worked out by hand: an XOFF behind it is stored (0), and without it swallowed (1). Mark: a kept break and a damaged character clear it.
-- Null: a damaged character and a kept break clear it. Discard, breaks ignored: neither clears it, and the XOFF that it lets pass does. Pass: a damaged
-- XOFF behind it is stored. Settings clear it; and a literal-next character behind it is stored and does not set it again
abbrev pub LiteralMarkCase : Type 0
LiteralMarkCase =
    Answered
    ("0700040100000200010100001113000016" ⇒ "00"
    ∷ "01000016" ⇒ "0000"
    ∷ "01000300" ⇒ "0000"
    ∷ "01000013" ⇒ "0001"
    ∷ "01000016" ⇒ "0000"
    ∷ "01000141" ⇒ "0000"
    ∷ "01000013" ⇒ "0001"
    ∷ "0700030100000200010100001113000016" ⇒ "00"
    ∷ "01000016" ⇒ "0000"
    ∷ "01000241" ⇒ "0000"
    ∷ "01000013" ⇒ "0001"
    ∷ "01000016" ⇒ "0000"
    ∷ "01000300" ⇒ "0000"
    ∷ "01000013" ⇒ "0001"
    ∷ "02000C" ⇒ "00080016FF000016FF004116001600"
    ∷ "0700020000000200010100001113000016" ⇒ "00"
    ∷ "01000016" ⇒ "0000"
    ∷ "01000141" ⇒ "0003"
    ∷ "01000341" ⇒ "0004"
    ∷ "01000013" ⇒ "0000"
    ∷ "01000013" ⇒ "0001"
    ∷ "0700010100000200010100001113000016" ⇒ "00"
    ∷ "01000016" ⇒ "0000"
    ∷ "01000113" ⇒ "0000"
    ∷ "01000013" ⇒ "0001"
    ∷ "01000016" ⇒ "0000"
    ∷ "0700010100000200010100001113000016" ⇒ "00"
    ∷ "01000013" ⇒ "0001"
    ∷ "01000016" ⇒ "0000"
    ∷ "01000016" ⇒ "0000"
    ∷ "01000013" ⇒ "0001"
    ∷ "02000C" ⇒ "00070016131613161616"
    ∷ [])

-- What holds a transmitter and when a channel is ready, worked out by hand. Flow characters obeyed and stored, a threshold of 3, CTS holds: with CTS 0
-- a turn sends nothing, and with 1 the first byte; with 0 again nothing but the four specials. An XOFF is stored and stops the transmitter, an XON is
-- stored and sets it running; with one and with two waiting no channel is picked, with three this one is. Settings set it running and leave the queues and
-- CTS: the second byte goes. A reset takes settings and CTS back: an XOFF is a character, one is enough for a pick, and a turn is held again
abbrev pub LineCase : Type 0
LineCase =
    Answered
    ("07000101000001000003010011131A1B16" ⇒ "00"
    ∷ "03004142" ⇒ "0002"
    ∷ "0400" ⇒ "0000"
    ∷ "050001" ⇒ "00"
    ∷ "0400" ⇒ "000141"
    ∷ "050000" ⇒ "00"
    ∷ "0400" ⇒ "0000"
    ∷ "060001" ⇒ "00"
    ∷ "0400" ⇒ "000111"
    ∷ "060002" ⇒ "00"
    ∷ "0400" ⇒ "000113"
    ∷ "060003" ⇒ "00"
    ∷ "0400" ⇒ "00011A"
    ∷ "060004" ⇒ "00"
    ∷ "0400" ⇒ "00011B"
    ∷ "050001" ⇒ "00"
    ∷ "01000013" ⇒ "0000"
    ∷ "0A00" ⇒ "000101010000"
    ∷ "0400" ⇒ "0000"
    ∷ "08" ⇒ "00FF"
    ∷ "01000011" ⇒ "0000"
    ∷ "0A00" ⇒ "000201000000"
    ∷ "08" ⇒ "00FF"
    ∷ "01000013" ⇒ "0000"
    ∷ "0A00" ⇒ "000301010000"
    ∷ "08" ⇒ "0000"
    ∷ "07000101000001000003010011131A1B16" ⇒ "00"
    ∷ "0A00" ⇒ "000301000000"
    ∷ "0400" ⇒ "000142"
    ∷ "0100004E" ⇒ "0000"
    ∷ "020004" ⇒ "0004001311134E"
    ∷ "0900" ⇒ "00"
    ∷ "0A00" ⇒ "000000000000"
    ∷ "01000013" ⇒ "0000"
    ∷ "0A00" ⇒ "000100000000"
    ∷ "08" ⇒ "0000"
    ∷ "07000101000001000003010011131A1B16" ⇒ "00"
    ∷ "030043" ⇒ "0001"
    ∷ "0400" ⇒ "0000"
    ∷ [])

-- A line for each refusal that a frame can meet, worked out by hand: channel 4, kind 4, thirteen asked, settings of no, of fourteen and of sixteen bytes,
-- a 5 in field 1, XON that is XOFF, special 0, a second special, CTS 2; and lines that make no call: a frame that is cut off, one that is too long, an odd
-- digit, no digit, a first byte that is not listed. A line of 34 bytes is a frame, and one of 35 is none
abbrev pub RefusalCase : Type 0
RefusalCase =
    Answered
    ("01040041" ⇒ "01"
    ∷ "01000441" ⇒ "02"
    ∷ "02000D" ⇒ "03"
    ∷ "0700" ⇒ "0500"
    ∷ "07000101000000000001000011130000" ⇒ "0500"
    ∷ "070001010000000000010000111300001600" ⇒ "0500"
    ∷ "0700050100000000000100001113000016" ⇒ "0501"
    ∷ "0700010100000100000100001111000016" ⇒ "050C"
    ∷ "060000" ⇒ "06"
    ∷ "060001" ⇒ "00"
    ∷ "060002" ⇒ "07"
    ∷ "050002" ⇒ "0A"
    ∷ "0A" ⇒ "0B"
    ∷ "0A0000" ⇒ "0B"
    ∷ "0A000" ⇒ "0B"
    ∷ "0A0G" ⇒ "0B"
    ∷ "0B00" ⇒ "0B"
    ∷ "03004142434445464748494A4B4C4D4E4F505152535455565758595A5B5C5D5E5F60" ⇒ "000C"
    ∷ "03004142434445464748494A4B4C4D4E4F505152535455565758595A5B5C5D5E5F6061" ⇒ "0B"
    ∷ [])

-- ORDER BETWEEN PORTS

-- what one buffer of three bytes holds in the end, lent to a read of one character on m and then to one on n, where 41 waits on 0 and 42 on 1
abbrev pub shared_buffer : (m n : ℕ) → List ℕ
shared_buffer m n =
    let K = end card_size fresh_card (nameless (on 0 (arrive 0 0x41) ∷ on 1 (arrive 0 0x42) ∷ [])) in
    let g = step card_size tt K (on m (read 1 0 (replicate 3 9))) in
    (step card_size tt g.next (on n (read 1 0 g.lent))).lent

-- 02 l, "Picks, and calls lent the same buffer, are excepted", worked out by hand. A pick on a fresh card finds none, and the place stays: when characters
-- wait on 0 and 1, the next names 0. Made behind the arrival on 0 it names 0, and the next names 1: another answer and another card. A buffer that two
-- reads share has in the end the byte of the later one
pub record OrderCases : Type 0 where
  pub pick_first : Answered ("08" ⇒ "00FF" ∷ "01000041" ⇒ "0000" ∷ "01010042" ⇒ "0000" ∷ "08" ⇒ "0000" ∷ [])
  pub arrival_first : Answered ("01000041" ⇒ "0000" ∷ "08" ⇒ "0000" ∷ "01010042" ⇒ "0000" ∷ "08" ⇒ "0001" ∷ [])
  pub read_0_first : shared_buffer 0 1 ≡ 0x42 ∷ 9 ∷ 9 ∷ []
  pub read_1_first : shared_buffer 1 0 ≡ 0x41 ∷ 9 ∷ 9 ∷ []

-- what ports 0 to 4 are asked by a list of calls
abbrev pub asked_of : List Call → List (List ChannelCall)
asked_of cs = map (λ (n : ℕ). map (λ (c : Named Unit ChannelCall). c.call) (calls_on n (nameless cs))) (0 ∷ 1 ∷ 2 ∷ 3 ∷ 4 ∷ [])

-- two merges of the same lists, an arrival and a state on 0, a reset on 1, a state on 4; and a pick, which is on no port
abbrev pub MergeCase : Type 0
MergeCase =
    let lists = (arrive 0 0x41 ∷ state ∷ []) ∷ (reset ∷ []) ∷ [] ∷ [] ∷ (state ∷ []) ∷ [] in
    (asked_of (on 0 (arrive 0 0x41) ∷ on 4 state ∷ on 1 reset ∷ on 0 state ∷ []) ≡ lists)
    × (asked_of (on 1 reset ∷ on 0 (arrive 0 0x41) ∷ on 0 state ∷ on 4 state ∷ []) ≡ lists)
    × (asked_of (pick ∷ []) ≡ replicate 5 [])
