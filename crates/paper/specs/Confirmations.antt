-- 02 n: "Confirmations", "over the reader, for the filling line alone".
use Rattle.std.specs.Prelude.{Bool, true, false, not, ◌&&◌, ◌||◌, List, [], ◌∷◌, map, ℕ, ◌+◌, ◌-◌, ◌%◌, min, eqb, leb, ltb, length, take, drop, if◌then◌else◌, Option, Some, None, Result, Ok, Err}
use Rattle.paper.specs.Decimal.{digit, spelled}
use Rattle.paper.specs.Stream.{Character, good, damaged, byte, readout, front}
use Rattle.paper.specs.declared.Refusal.{Refusal}
use Rattle.paper.specs.declared.Refusal.TheVariants.{BrokenStream, TooManyEntries}
use Rattle.paper.specs.declared.Confirmation.{Confirmation}
use Rattle.paper.specs.declared.Judgement.{Judgement}
use Rattle.paper.specs.declared.Judgement.TheVariants.{Accepted, Gap, Repeated, Aside}
use Rattle.paper.specs.declared.Entry.{Entry}
use Rattle.paper.specs.declared.Listed.{Listed}

-- FORM: "a confirmation is STX (02), a four-digit number, a space, one to six digits of litres, ETX (03)."

-- the fifth byte is a space, every other a digit
unfoldable pub fits : (place : ℕ) → ℕ → Bool
fits place b = if eqb place 4 then eqb b 0x20 else digit b

abbrev pub all_fit : (place : ℕ) → List ℕ → Bool
all_fit place [] = true
all_fit place (b ∷ bs) = fits place b && all_fit (place + 1) bs

-- four digits and a space, and behind them "one to six digits of litres"
abbrev pub right_length : ℕ → Bool
right_length n = leb 6 n && leb n 11

-- what the bytes between STX and ETX say; none, where they are "of another form"
unfoldable pub confirmation_of : List ℕ → Option Confirmation
confirmation_of bs =
    if all_fit 0 bs && right_length (length bs)
    then Some (record { number = spelled 0 (take 4 bs); litres = spelled 0 (drop 5 bs) })
    else None

-- RUNS: "Each runs from a good STX to the next good ETX; a new good STX abandons an unfinished one."

-- a good STX, a good ETX, or any other character
pub data Mark : Type 0 where
  start : Mark
  finish : Mark
  inner : Mark

unfoldable pub mark : Character → Mark
mark (good b) = if eqb b 0x02 then start else if eqb b 0x03 then finish else inner
mark (damaged b) = inner

-- one in front of the others, where there is one
abbrev pub ahead : {A : Type 0} → Option A → List A → List A
ahead None xs = xs
ahead (Some x) xs = x ∷ xs

-- "to the next good ETX": the characters before it; none where a good STX, or the end of the characters, comes first
abbrev pub body_at : Mark → Character → Option (List Character) → Option (List Character)
body_at start c rest = None
body_at finish c rest = Some []
body_at inner c None = None
body_at inner c (Some l) = Some (c ∷ l)

abbrev pub body : List Character → Option (List Character)
body [] = None
body (c ∷ cs) = body_at (mark c) c (body cs)

-- "the place of its STX among the characters, from 0", and the characters between its STX and its ETX
pub record Run : Type 0 where
  pub place : ℕ
  pub body : List Character

-- "from a good STX"
abbrev pub run_at : Mark → ℕ → Option (List Character) → Option Run
run_at start place None = None
run_at start place (Some l) = Some (record { place = place; body = l })
run_at finish place rest = None
run_at inner place rest = None

abbrev pub runs_from : ℕ → List Character → List Run
runs_from place [] = []
runs_from place (c ∷ cs) = ahead (run_at (mark c) place (body cs)) (runs_from (place + 1) cs)

abbrev pub runs : List Character → List Run
runs cs = runs_from 0 cs

-- FOUND: "One that holds a damaged character is listed as set aside, never counted as litres; an undamaged one of another form isn't listed."

abbrev pub is_damaged : Character → Bool
is_damaged (good b) = false
is_damaged (damaged b) = true

abbrev pub any_damaged : List Character → Bool
any_damaged [] = false
any_damaged (c ∷ cs) = is_damaged c || any_damaged cs

-- what is listed of a run: its place and what it says; nothing for one that is set aside
pub record Finding : Type 0 where
  pub place : ℕ
  pub content : Option Confirmation

abbrev pub finding : ℕ → (damaged : Bool) → Option Confirmation → Option Finding
finding place true content = Some (record { place = place; content = None })
finding place false None = None
finding place false (Some c) = Some (record { place = place; content = Some c })

abbrev pub found : Run → Option Finding
found r = finding r.place (any_damaged r.body) (confirmation_of (map byte r.body))

abbrev pub findings : List Run → List Finding
findings [] = []
findings (r ∷ rs) = ahead (found r) (findings rs)

-- JUDGED, in order

-- "the next one (0000 follows 9999)"
unfoldable pub next : ℕ → ℕ
next n = (n + 1) % 10000

-- "The first is accepted without a gap. A number equal to the one last accepted is reported as repeated ...; any other than the next one ... is
-- accepted and reported as a gap."
unfoldable pub judgement_on : Option ℕ → Confirmation → Judgement
judgement_on None c = Accepted c
judgement_on (Some n) c =
    if eqb c.number n then Repeated c else
    if eqb c.number (next n) then Accepted c else
    Gap c

abbrev pub judgement : Option ℕ → Option Confirmation → Judgement
judgement last None = Aside
judgement last (Some c) = judgement_on last c

-- what is accepted, with a gap or without; a repeated one "adds no litres", one that is set aside is "never counted as litres"
abbrev pub counted : Judgement → Option Confirmation
counted (Accepted c) = Some c
counted (Gap c) = Some c
counted (Repeated c) = None
counted Aside = None

abbrev pub last_after : Option ℕ → Option Confirmation → Option ℕ
last_after last None = last
last_after last (Some c) = Some c.number

abbrev pub judge : Option ℕ → Finding → Entry
judge last f = record { place = f.place; judgement = judgement last f.content }

abbrev pub judged : Option ℕ → List Finding → List Entry
judged last [] = []
judged last (f ∷ fs) = judge last f ∷ judged (last_after last (counted (judge last f).judgement)) fs

-- THE ENTRIES of a list of characters, and THE SUM: "The sum of litres equals the sum over the accepted ones."

abbrev pub entries : List Character → List Entry
entries cs = judged None (findings (runs cs))

abbrev pub accepted : List Entry → List Confirmation
accepted [] = []
accepted (e ∷ es) = ahead (counted e.judgement) (accepted es)

abbrev pub litres : List Confirmation → ℕ
litres [] = 0
litres (c ∷ cs) = c.litres + litres cs

abbrev pub sum : List Character → ℕ
sum cs = litres (accepted (entries cs))

-- how many characters, and how many litres, are counted: a third of what 64 bits hold
abbrev pub furthest : ℕ
furthest = 6148914691236517205

unfoldable pub countable : List Character → Bool
countable cs = leb (length cs) furthest && leb (sum cs) furthest

-- THE CALL over a stream and a lent list

-- what an entry says, however it is judged
abbrev pub said : Judgement → Option Confirmation
said (Accepted c) = Some c
said (Gap c) = Some c
said (Repeated c) = Some c
said Aside = None

-- the four columns of the list: of one that is set aside, number and litres are 0
abbrev pub place_in : Entry → ℕ
place_in e = e.place

abbrev pub number_of : Option Confirmation → ℕ
number_of None = 0
number_of (Some c) = c.number

abbrev pub litres_of : Option Confirmation → ℕ
litres_of None = 0
litres_of (Some c) = c.litres

abbrev pub number_in : Entry → ℕ
number_in e = number_of (said e.judgement)

abbrev pub litres_in : Entry → ℕ
litres_in e = litres_of (said e.judgement)

abbrev pub judgement_number : Judgement → ℕ
judgement_number (Accepted c) = 0
judgement_number (Gap c) = 1
judgement_number (Repeated c) = 2
judgement_number Aside = 3

abbrev pub judgement_in : Entry → ℕ
judgement_in e = judgement_number e.judgement

pub record LentList : Type 0 where
  pub places : List ℕ
  pub numbers : List ℕ
  pub litres : List ℕ
  pub judgements : List ℕ

-- it has as many places as the shortest of the four has
abbrev pub places_of : LentList → ℕ
places_of l = min (min (length l.places) (length l.numbers)) (min (length l.litres) (length l.judgements))

-- the entries go into its front; the rest stays
abbrev pub listed_in : List Entry → LentList → LentList
listed_in es l =
    record {
      places = front (map place_in es) l.places;
      numbers = front (map number_in es) l.numbers;
      litres = front (map litres_in es) l.litres;
      judgements = front (map judgement_in es) l.judgements;
    }

-- The answer, how many entries and the sum or a refusal, and the list afterwards
pub record Confirmed : Type 0 where
  pub answer : Result Listed Refusal
  pub list : LentList

-- 8 comes first; then "16 if the input has more entries than the lent list has places"
abbrev pub confirmed_as : List ℕ → LentList → List Character → (rest : List ℕ) → Confirmed
confirmed_as s l cs (b ∷ rest) = record { answer = Err (BrokenStream (length s - length (b ∷ rest))); list = l }
confirmed_as s l cs [] =
    if ltb (places_of l) (length (entries cs)) || not (countable cs)
    then record { answer = Err TooManyEntries; list = l }
    else record { answer = Ok (record { entries = length (entries cs); litres = sum cs }); list = listed_in (entries cs) l }

unfoldable pub confirm : List ℕ → LentList → Confirmed
confirm s l = confirmed_as s l (readout s).characters (readout s).rest
