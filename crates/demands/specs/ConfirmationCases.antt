-- Request n's cases, worked out by hand from its words. To be read with 02 n beside it.
use Rattle.std.specs.Prelude.{◌≡◌, List, [], ◌∷◌, ◌++◌, map, ℕ, ◌*◌, replicate, Result, Ok, Err}
use Prim.Native.String.{String}
use Rattle.paper.specs.Settings.{card_size, fresh_bytes}
use Rattle.paper.specs.Stream.{Character, good, damaged, readout}
use Rattle.paper.specs.Channel.{arrive, read, take_settings}
use Rattle.paper.specs.Card.{fresh_card, Call, on}
use Rattle.paper.specs.Run.{Moment, run, nameless}
use Rattle.paper.specs.Numbers.{listing_numbers}
use Rattle.paper.specs.Text.{text}
use Rattle.paper.specs.Confirmations.{entries, sum, furthest, LentList, Confirmed, confirm}
use Rattle.paper.specs.Decimal.{decimal}
use Rattle.paper.specs.Yield.{yield_of, yield_sheet}
use Rattle.paper.specs.declared.Refusal.{Refusal}
use Rattle.paper.specs.declared.Refusal.TheVariants.{BrokenStream, TooManyEntries}
use Rattle.paper.specs.declared.Listed.{Listed}
use Rattle.paper.specs.declared.Fate.TheVariants.{Stored}
use Rattle.paper.specs.declared.Answer.TheVariants.{Fated, Handed, Done}
use Rattle.paper.specs.declared.Judgement.{Judgement}
use Rattle.paper.specs.declared.Judgement.TheVariants as judgements
use Rattle.paper.specs.declared.Entry.{Entry}
use Rattle.demands.specs.History.{history, queue_history, bytes_found}
use Rattle.demands.specs.Examples.{but}

-- CHARACTERS

abbrev pub STX : Character
STX = good 0x02

abbrev pub ETX : Character
ETX = good 0x03

-- good characters, as they are typed
abbrev pub typed : String → List Character
typed s = map good (text s)

-- "STX (02), a four-digit number, a space, one to six digits of litres, ETX (03)"
abbrev pub framed : String → List Character
framed s = STX ∷ typed s ++ ETX ∷ []

-- ENTRIES

-- "with the place of its STX among the characters, from 0"
abbrev pub entry : ℕ → Judgement → Entry
entry place j = record { place = place; judgement = j }

abbrev pub accepted : (place number litres : ℕ) → Entry
accepted p n l = entry p (judgements.Accepted (record { number = n; litres = l }))

abbrev pub gap : (place number litres : ℕ) → Entry
gap p n l = entry p (judgements.Gap (record { number = n; litres = l }))

abbrev pub repeated : (place number litres : ℕ) → Entry
repeated p n l = entry p (judgements.Repeated (record { number = n; litres = l }))

abbrev pub aside : (place : ℕ) → Entry
aside p = entry p judgements.Aside

-- the entries of a list of characters, and the sum
abbrev pub Shows : List Character → List Entry → (litres : ℕ) → Type 0
Shows cs es litres = ◌≡◌ {A = List Entry × ℕ} (entries cs, sum cs) (es, litres)

-- JUDGED

pub record JudgedCases : Type 0 where
  -- "The first is accepted without a gap", with any number
  pub first : Shows (framed "4711 20") (accepted 0 4711 20 ∷ []) 20
  pub first_zero : Shows (framed "0000 3") (accepted 0 0 3 ∷ []) 3
  pub next : Shows (framed "0001 250" ++ typed "noise" ++ framed "0002 1") (accepted 0 1 250 ∷ accepted 15 2 1 ∷ []) 251
  -- "0000 follows 9999"; so does no other number, and 0000 nothing else
  pub round : Shows (framed "9999 2" ++ framed "0000 3") (accepted 0 9999 2 ∷ accepted 8 0 3 ∷ []) 5
  pub round_wrong : Shows (framed "9999 2" ++ framed "0001 3") (accepted 0 9999 2 ∷ gap 8 1 3 ∷ []) 5
  pub round_early : Shows (framed "9998 2" ++ framed "0000 3") (accepted 0 9998 2 ∷ gap 8 0 3 ∷ []) 5
  -- "A number equal to the one last accepted is reported as repeated and adds no litres", whatever its litres
  pub repeat : Shows (framed "0001 250" ++ framed "0001 250") (accepted 0 1 250 ∷ repeated 10 1 250 ∷ []) 250
  pub repeat_other_litres : Shows (framed "0001 250" ++ framed "0001 999") (accepted 0 1 250 ∷ repeated 10 1 999 ∷ []) 250
  pub repeat_twice : Shows (framed "0001 2" ++ framed "0001 2" ++ framed "0001 2") (accepted 0 1 2 ∷ repeated 8 1 2 ∷ repeated 16 1 2 ∷ []) 2
  pub repeat_next : Shows (framed "0001 2" ++ framed "0001 2" ++ framed "0002 3") (accepted 0 1 2 ∷ repeated 8 1 2 ∷ accepted 16 2 3 ∷ []) 5
  -- "any other than the next one ... is accepted and reported as a gap": beyond it, or back to an earlier one
  pub beyond : Shows (framed "0001 2" ++ framed "0003 999999") (accepted 0 1 2 ∷ gap 8 3 999999 ∷ []) 1000001
  pub back : Shows (framed "0001 1" ++ framed "0002 2" ++ framed "0001 4") (accepted 0 1 1 ∷ accepted 8 2 2 ∷ gap 16 1 4 ∷ []) 7
  -- a gap is accepted: what is next and what is repeated goes by its number
  pub behind_gap : Shows (framed "0001 1" ++ framed "0005 2" ++ framed "0006 4" ++ framed "0006 4")
      (accepted 0 1 1 ∷ gap 8 5 2 ∷ accepted 16 6 4 ∷ repeated 24 6 4 ∷ []) 7
  pub gap_repeated : Shows (framed "0001 1" ++ framed "0005 2" ++ framed "0005 2") (accepted 0 1 1 ∷ gap 8 5 2 ∷ repeated 16 5 2 ∷ []) 3

-- SET ASIDE: "One that holds a damaged character is listed as set aside, never counted as litres"

-- a confirmation with a damaged third digit
abbrev pub spoiled : List Character
spoiled = STX ∷ typed "00" ++ damaged 0x30 ∷ typed "2 3" ++ ETX ∷ []

pub record AsideCases : Type 0 where
  pub digit : Shows spoiled (aside 0 ∷ []) 0
  -- whichever it is: the sixth digit of the litres, their only one, a break, an FF
  pub sixth_digit : Shows (STX ∷ typed "0001 12345" ++ damaged 0x36 ∷ ETX ∷ []) (aside 0 ∷ []) 0
  pub only_digit : Shows (STX ∷ typed "0001 " ++ damaged 0x39 ∷ ETX ∷ []) (aside 0 ∷ []) 0
  pub damaged_zero : Shows (STX ∷ typed "0001 2" ++ damaged 0x00 ∷ ETX ∷ []) (aside 0 ∷ []) 0
  pub damaged_ff : Shows (STX ∷ typed "0001 2" ++ damaged 0xFF ∷ ETX ∷ []) (aside 0 ∷ []) 0
  -- of whatever form, and with nothing but the damaged character
  pub any_form : Shows (STX ∷ damaged 0x41 ∷ ETX ∷ []) (aside 0 ∷ []) 0
  -- it is not accepted: the first one behind it is the first, and a number is repeated, or the next, by the one before it
  pub before_first : Shows (spoiled ++ framed "0007 4") (aside 0 ∷ accepted 8 7 4 ∷ []) 4
  pub then_repeated : Shows (framed "0001 2" ++ spoiled ++ framed "0001 2") (accepted 0 1 2 ∷ aside 8 ∷ repeated 16 1 2 ∷ []) 2
  pub then_next : Shows (framed "0001 2" ++ spoiled ++ framed "0002 3") (accepted 0 1 2 ∷ aside 8 ∷ accepted 16 2 3 ∷ []) 5
  -- its ETX is damaged: it runs on "to the next good ETX", and what stands there is set aside with it
  pub damaged_end : Shows (STX ∷ typed "0001 2" ++ damaged 0x03 ∷ typed "x" ++ ETX ∷ framed "0001 2") (aside 0 ∷ accepted 10 1 2 ∷ []) 2
  -- but "a new good STX abandons" it, where that comes first
  pub damaged_end_abandoned : Shows (STX ∷ typed "0001 2" ++ damaged 0x03 ∷ framed "0001 2") (accepted 8 1 2 ∷ []) 2
  -- a damaged STX abandons nothing, and begins nothing
  pub damaged_start_inside : Shows (STX ∷ typed "00" ++ damaged 0x02 ∷ typed "01 2" ++ ETX ∷ []) (aside 0 ∷ []) 0
  pub damaged_start : Shows (damaged 0x02 ∷ typed "0001 2" ++ ETX ∷ []) [] 0
  -- damaged ones outside change a place alone
  pub outside : Shows (damaged 0x02 ∷ framed "0001 2" ++ damaged 0x03 ∷ framed "0002 3") (accepted 1 1 2 ∷ accepted 10 2 3 ∷ []) 5

-- RUNS: "Each runs from a good STX to the next good ETX; a new good STX abandons an unfinished one."
pub record RunCases : Type 0 where
  pub nothing : Shows [] [] 0
  -- the end of a confirmation is swallowed; the same with a damaged digit in it; and an STX twice
  pub abandoned : Shows (STX ∷ typed "0001 2" ++ framed "0001 2") (accepted 7 1 2 ∷ []) 2
  pub abandoned_damaged : Shows (STX ∷ typed "000" ++ damaged 0x31 ∷ typed " 2" ++ framed "0001 2") (accepted 7 1 2 ∷ []) 2
  pub abandoned_at_once : Shows (STX ∷ framed "0001 2") (accepted 1 1 2 ∷ []) 2
  pub unfinished : Shows (framed "0001 2" ++ STX ∷ typed "0002 3") (accepted 0 1 2 ∷ []) 2
  pub unfinished_damaged : Shows (framed "0001 2" ++ STX ∷ damaged 0x30 ∷ []) (accepted 0 1 2 ∷ []) 2
  -- an ETX alone ends nothing
  pub end_alone : Shows (ETX ∷ typed "0001 2" ++ ETX ∷ framed "0001 2" ++ typed " 5" ++ ETX ∷ []) (accepted 8 1 2 ∷ []) 2

-- FORM: "an undamaged one of another form isn't listed"
pub record FormCases : Type 0 where
  -- "one to six digits of litres"
  pub one_digit : Shows (framed "0001 0") (accepted 0 1 0 ∷ []) 0
  pub six_digits : Shows (framed "9876 123456") (accepted 0 9876 123456 ∷ []) 123456
  pub leading_zeros : Shows (framed "0012 000250") (accepted 0 12 250 ∷ []) 250
  pub litres_lengths : Shows (framed "0001 1234567" ++ framed "0001 " ++ framed "0001" ++ framed "") [] 0
  pub number_lengths : Shows (framed "001 2" ++ framed "001 23" ++ framed "00001 2" ++ framed "00001 23" ++ framed "1 2" ++ framed " 2") [] 0
  pub two_spaces : Shows (framed "0001  2" ++ framed "0001 2 " ++ framed "0001 2 3" ++ framed " 001 2" ++ framed "00 1 2") [] 0
  pub no_space : Shows (framed "00012" ++ framed "000123" ++ framed "0001-2") [] 0
  -- the characters just below 0 and just above 9, a letter, a sign; a good FF; a good NL
  pub number_others : Shows (framed "000/ 2" ++ framed "000: 2" ++ framed "000A 2" ++ framed "-001 2") [] 0
  pub litres_others : Shows (framed "0001 /" ++ framed "0001 :" ++ framed "0001 A" ++ framed "0001 -2" ++ framed "0001 2.5") [] 0
  pub inside : Shows (STX ∷ typed "0001 2" ++ good 0xFF ∷ ETX ∷ STX ∷ typed "0001" ++ good 0xFF ∷ typed " 2" ++ ETX ∷ framed "0001 2\n") [] 0
  -- and it is not accepted: the number behind it goes by the one before it
  pub passed : Shows (framed "0001 2" ++ framed "0002" ++ framed "0002 3" ++ framed "7" ++ framed "0002 3")
      (accepted 0 1 2 ∷ accepted 14 2 3 ∷ repeated 25 2 3 ∷ []) 5

-- THE CALL

-- the bytes of a confirmation
abbrev pub bytes : String → List ℕ
bytes s = 0x02 ∷ text s ++ 0x03 ∷ []

-- and of one with a damaged third digit, in mark mode
abbrev pub spoiled_bytes : List ℕ
spoiled_bytes = 0x02 ∷ text "00" ++ 0xFF ∷ 0x00 ∷ 0x30 ∷ text "8 1" ++ 0x03 ∷ []

abbrev pub lends : (places numbers litres judgements : List ℕ) → LentList
lends p n l j = record { places = p; numbers = n; litres = l; judgements = j }

-- so many places in each of the four, all 9
abbrev pub lends_of : (places numbers litres judgements : ℕ) → LentList
lends_of p n l j = lends (replicate p 9) (replicate n 9) (replicate l 9) (replicate j 9)

-- so many entries, and so many litres
abbrev pub listed : ℕ → ℕ → Result Listed Refusal
listed n sum = Ok (record { entries = n; litres = sum })

abbrev pub gives : Result Listed Refusal → LentList → Confirmed
gives a l = record { answer = a; list = l }

-- five entries: accepted, set aside, accepted, repeated, a gap; 250 and 40 and 5 litres
abbrev pub five : List ℕ
five = bytes "0007 250" ++ spoiled_bytes ++ bytes "0008 40" ++ bytes "0008 40" ++ bytes "0010 5"

-- the four columns; of the one that is set aside 0, 0 and 3
abbrev pub five_places : List ℕ
five_places = 0 ∷ 10 ∷ 18 ∷ 27 ∷ 36 ∷ []

abbrev pub five_numbers : List ℕ
five_numbers = 7 ∷ 0 ∷ 8 ∷ 8 ∷ 10 ∷ []

abbrev pub five_litres : List ℕ
five_litres = 250 ∷ 0 ∷ 40 ∷ 40 ∷ 5 ∷ []

abbrev pub five_judgements : List ℕ
five_judgements = 0 ∷ 3 ∷ 0 ∷ 2 ∷ 1 ∷ []

pub record ConfirmCases : Type 0 where
  -- nothing asks for no place
  pub nothing : confirm [] (lends [] [] [] []) ≡ gives (listed 0 0) (lends [] [] [] [])
  -- exactly enough places; and more of them, differently many, the rest of which stay
  pub exactly : confirm five (lends_of 5 5 5 5) ≡ gives (listed 5 295) (lends five_places five_numbers five_litres five_judgements)
  pub rest_stays : confirm five (lends_of 6 7 8 9)
      ≡ gives (listed 5 295)
      (lends (five_places ++ replicate 1 9) (five_numbers ++ replicate 2 9) (five_litres ++ replicate 3 9) (five_judgements ++ replicate 4 9))
  -- "16 if the input has more entries than the lent list has places": the shortest of the four decides, and all is as it was
  pub one_too_few : confirm five (lends_of 4 4 4 4) ≡ gives (Err TooManyEntries) (lends_of 4 4 4 4)
  pub few_places : confirm five (lends_of 4 8 8 8) ≡ gives (Err TooManyEntries) (lends_of 4 8 8 8)
  pub few_numbers : confirm five (lends_of 8 4 8 8) ≡ gives (Err TooManyEntries) (lends_of 8 4 8 8)
  pub few_litres : confirm five (lends_of 8 8 4 8) ≡ gives (Err TooManyEntries) (lends_of 8 8 4 8)
  pub few_judgements : confirm five (lends_of 8 8 8 4) ≡ gives (Err TooManyEntries) (lends_of 8 8 8 4)
  -- a confirmation of another form asks for no place
  pub not_listed : confirm (bytes "0001" ++ bytes "0001 2") (lends_of 1 1 1 1) ≡ gives (listed 1 2) (lends (6 ∷ []) (1 ∷ []) (2 ∷ []) (0 ∷ []))
  -- what is counted goes a third as far as 64 bits do: so many characters have no more bytes than these can count
  pub third : 3 * furthest ≡ 18446744073709551615
  -- a broken stream, with the place of its FF in bytes; also where there are too few places: 8 before 16; cut off at the end
  pub broken : confirm (0xFF ∷ 0xFF ∷ bytes "0001 2" ++ 0xFF ∷ 0x41 ∷ bytes "0002 3") (lends_of 2 2 2 2)
      ≡ gives (Err (BrokenStream 10)) (lends_of 2 2 2 2)
  pub broken_first : confirm (five ++ 0xFF ∷ 0x41 ∷ []) (lends_of 4 0 1 2) ≡ gives (Err (BrokenStream 46)) (lends_of 4 0 1 2)
  pub cut : confirm (bytes "0001 2" ++ 0xFF ∷ 0x00 ∷ []) (lends_of 0 0 0 0) ≡ gives (Err (BrokenStream 8)) (lends_of 0 0 0 0)
  -- in numbers: 00, how many entries and the sum; "8" and the place; "16"
  pub numbers : map listing_numbers (listed 5 295 ∷ Err (BrokenStream 46) ∷ Err TooManyEntries ∷ [])
      ≡ (0 ∷ 5 ∷ 295 ∷ []) ∷ (8 ∷ 46 ∷ []) ∷ (16 ∷ []) ∷ []

-- THE SCALE: a scale sends a true FF just before a confirmation

abbrev pub with_ff : List ℕ
with_ff = 0xFF ∷ 0x02 ∷ text "0001 250" ++ 0x03 ∷ []

-- good characters arrive on port 0; it is read twelve at a time
abbrev pub arrivals : List ℕ → List Call
arrivals bs = map (λ (b : ℕ). on 0 (arrive 0 b)) bs

abbrev pub reading : Call
reading = on 0 (read 12 0 (replicate 36 9))

abbrev pub scale_sends : List Call
scale_sends = arrivals (0xFF ∷ 0x02 ∷ text "0001") ++ reading ∷ arrivals (text " 250" ++ 0x03 ∷ []) ++ reading ∷ []

-- "mark": field 1 is 4
abbrev pub marked : List Call
marked = on 0 (take_settings (but 1 4 fresh_bytes)) ∷ scale_sends

-- the bytes that the host finds in its buffers
abbrev pub found_after : List Call → List ℕ
found_after cs = bytes_found (queue_history (history card_size 0 (nameless cs)))

pub record TheScale : Type 0 where
  -- written bare, the stream is broken at its first byte, and nothing is listed
  pub bare : Shows (readout with_ff).characters [] 0
  pub bare_refused : confirm with_ff (lends_of 1 1 1 1) ≡ gives (Err (BrokenStream 0)) (lends_of 1 1 1 1)
  -- through marks, FF FF, it is accepted, once: the FF is the character at place 0
  pub through_marks : Shows (readout (0xFF ∷ with_ff)).characters (accepted 1 1 250 ∷ []) 250
  -- the whole way, with marking on
  pub answers : map (λ (m : Moment Unit). m.gave.answer) (run card_size fresh_card (nameless marked))
      ≡ Done ∷ replicate 6 (Fated Stored) ++ Handed 6 0 7 ∷ replicate 5 (Fated Stored) ++ Handed 5 0 5 ∷ []
  pub found : found_after marked ≡ 0xFF ∷ with_ff
  pub counted : confirm (found_after marked) (lends_of 1 1 1 1) ≡ gives (listed 1 250) (lends (1 ∷ []) (1 ∷ []) (250 ∷ []) (0 ∷ []))
  -- and with marking off
  pub unmarked : confirm (found_after scale_sends) (lends_of 1 1 1 1) ≡ gives (Err (BrokenStream 0)) (lends_of 1 1 1 1)

-- THE YIELD SHEET: text in, text out

pub record YieldCases : Type 0 where
  pub numbers : map decimal (0 ∷ 7 ∷ 10 ∷ 99 ∷ 100 ∷ [])
      ≡ text "0" ∷ text "7" ∷ text "10" ∷ text "99" ∷ text "100" ∷ []
  pub nothing : yield_sheet [] ≡ text "litres 0\n"
  pub noise : yield_sheet (text "no confirmation\n") ≡ text "litres 0\n"
  -- all four sorts of lines; numbers with their leading zeros, litres without
  pub sorts : yield_sheet (bytes "0007 000250" ++ spoiled_bytes ++ bytes "0008 40" ++ bytes "0008 40" ++ bytes "0010 000000")
      ≡ text "0 accepted 0007 250\n13 aside\n21 accepted 0008 40\n30 repeated 0008 40\n39 gap 0010 0\nlitres 290\n"
  pub no_zeros : yield_sheet (bytes "9999 1234" ++ bytes "0000 1") ≡ text "0 accepted 9999 1234\n11 accepted 0000 1\nlitres 1235\n"
  -- what stands before the broken FF is listed. Its place is counted in bytes, an entry's among the characters: behind FF FF and FF 00 41 stands the
  -- third character, and 2, 3 and 8 bytes stand before the broken FF
  pub broken : yield_sheet (0xFF ∷ 0xFF ∷ 0xFF ∷ 0x00 ∷ 0x41 ∷ bytes "0001 2" ++ 0xFF ∷ 0x42 ∷ bytes "0002 3")
      ≡ text "2 accepted 0001 2\nrefused 8 13\n"
  pub broken_inside : yield_sheet (0x02 ∷ text "0001" ++ 0xFF ∷ text " 2" ++ 0x03 ∷ []) ≡ text "refused 8 5\n"
  pub cut : yield_sheet (bytes "0001 2" ++ bytes "0001 2" ++ 0xFF ∷ []) ≡ text "0 accepted 0001 2\n8 repeated 0001 2\nrefused 8 16\n"
  pub scale : yield_sheet (0xFF ∷ with_ff) ≡ text "1 accepted 0001 250\nlitres 250\n"
  -- where not all can be counted: the lines of what is, and the place of the first character that is not, also before a broken FF
  pub full : yield_of [] (framed "0001 2" ++ typed "x") (framed "0001 2") (0xFF ∷ []) ≡ text "0 accepted 0001 2\nfull 8\n"
