-- WHAT REQUEST n DEMANDS, each as a type: litres are never counted twice running, and never from a damaged character. To be read with 02 n beside it;
-- what is quoted is the request's.
use Rattle.std.specs.Prelude.{◌≡◌, true, false, ◌⊎◌, ◌≢◌, ℕ, ◌+◌, ◌≤◌, ◌<◌, length, Option, Some, None, Ok, Err}
use mathlib.Core.List.{List, [], ◌∷◌, ◌++◌, map, Memᴰ}
use Rattle.paper.specs.Settings.{Size}
use Rattle.paper.specs.Queue.{items_of}
use Rattle.paper.specs.Stream.{Character, good, damaged}
use Rattle.paper.specs.Card.{Call}
use Rattle.paper.specs.Run.{nameless}
use Rattle.paper.specs.Decimal.{spelled}
use Rattle.paper.specs.Confirmations.{confirmation_of, inner, mark, Run, runs, Finding, findings, counted, entries, accepted, sum, countable, said, place_in, LentList, places_of, listed_in, Confirmed, confirm}
use Rattle.paper.specs.declared.Refusal.TheVariants.{BrokenStream, TooManyEntries}
use Rattle.paper.specs.declared.Confirmation.{Confirmation}
use Rattle.paper.specs.declared.Judgement.{Judgement}
use Rattle.paper.specs.declared.Entry.{Entry}
use Rattle.demands.specs.Marks.{character_of, Accepts, FirstBroken}
use Rattle.demands.specs.History.{history, after, Marking, NoReset, queue_history, handed, bytes_found, stored}

-- RUNS

-- characters other than a good STX or a good ETX
pub data Unmarked : List Character → Type 0 where
  nil : Unmarked []
  cons : {c : Character} {cs : List Character} → mark c ≡ inner → Unmarked cs → Unmarked (c ∷ cs)

-- "from a good STX to the next good ETX", with no good STX between; "the place of its STX among the characters, from 0"
pub record StandsIn (cs : List Character) (r : Run) : Type 0 where
  pub before : List Character
  pub behind : List Character
  pub whole : cs ≡ before ++ good 0x02 ∷ (r.body ++ good 0x03 ∷ behind)
  pub place : length before ≡ r.place
  pub inside : Unmarked r.body

-- each place above the one before it, the first at least at a bound
abbrev pub Ascending : ℕ → List ℕ → Type 0
Ascending least [] = Unit
Ascending least (p ∷ ps) = (least ≤ p) × Ascending (p + 1) ps

abbrev pub place_of : Run → ℕ
place_of r = r.place

-- the runs are all that stand in the characters, each once, in order
pub record Runs (cs : List Character) : Type 0 where
  pub every : (r : Run) → StandsIn cs r → Memᴰ r (runs cs)
  pub only : (r : Run) → Memᴰ r (runs cs) → StandsIn cs r
  pub in_order : Ascending 0 (map place_of (runs cs))

-- FORM

abbrev pub IsDigit : ℕ → Type 0
IsDigit b = (0x30 ≤ b) × (b ≤ 0x39)

abbrev pub AllDigits : List ℕ → Type 0
AllDigits [] = Unit
AllDigits (b ∷ bs) = IsDigit b × AllDigits bs

-- "a four-digit number, a space, one to six digits of litres"
pub record Spells (bs : List ℕ) (c : Confirmation) : Type 0 where
  pub number : List ℕ
  pub litres : List ℕ
  pub whole : bs ≡ number ++ 0x20 ∷ litres
  pub four : length number ≡ 4
  pub one : 1 ≤ length litres
  pub six : length litres ≤ 6
  pub number_digits : AllDigits number
  pub litres_digits : AllDigits litres
  pub says : record { number = spelled 0 number; litres = spelled 0 litres } ≡ c

pub record RightForm (bs : List ℕ) (c : Confirmation) : Type 0 where
  pub every : Spells bs c → confirmation_of bs ≡ Some c
  pub only : confirmation_of bs ≡ Some c → Spells bs c

-- ENTRIES

abbrev pub finding_in : Entry → Finding
finding_in e = record { place = e.place; content = said e.judgement }

-- the entries are what is found in the runs, one for one and in order: nothing else is listed. Every undamaged confirmation of the right form is listed
-- exactly once, as what it says, and every one that holds a damaged character, set aside
pub record ListedOnce (cs : List Character) : Type 0 where
  pub listed : map finding_in (entries cs) ≡ findings (runs cs)
  pub undamaged : (place : ℕ) (bs : List ℕ) (c : Confirmation) → StandsIn cs (record { place = place; body = map good bs }) → Spells bs c
      → Memᴰ (record { place = place; content = Some c }) (map finding_in (entries cs))
  pub aside : (r : Run) (b : ℕ) → StandsIn cs r → Memᴰ (damaged b) r.body
      → Memᴰ (record { place = r.place; content = None }) (map finding_in (entries cs))
  pub in_order : Ascending 0 (map place_in (entries cs))

-- an accepted entry is undamaged, of the right form: at its place stands a run of good characters that spell what is counted
pub record Sound (cs : List Character) (e : Entry) (c : Confirmation) : Type 0 where
  pub bytes : List ℕ
  pub stands : StandsIn cs (record { place = e.place; body = map good bytes })
  pub form : Spells bytes c

abbrev pub AcceptedSound : List Character → Type 0
AcceptedSound cs = (e : Entry) (c : Confirmation) → Memᴰ e (entries cs) → counted e.judgement ≡ Some c → Sound cs e c

-- the number of an accepted one differs from that of the accepted one before it
abbrev pub NoRepeat : Option ℕ → List Confirmation → Type 0
NoRepeat last [] = Unit
NoRepeat last (c ∷ cs) = (last ≢ Some c.number) × NoRepeat (Some c.number) cs

abbrev pub NeverTwice : List Character → Type 0
NeverTwice cs = NoRepeat None (accepted (entries cs))

-- litres are never counted twice running, and never from a damaged character; the sum is over the accepted ones by its definition
pub record NeverCountedTwice (cs : List Character) : Type 0 where
  pub runs : Runs cs
  pub once : ListedOnce cs
  pub sound : AcceptedSound cs
  pub never_twice : NeverTwice cs

-- OUTSIDE EVERY RUN

-- no run begins in the characters before a point and ends in those behind it
abbrev pub OutsideRuns : (a b : List Character) → Type 0
OutsideRuns a b =
    (before x y behind : List Character)
    → a ≡ before ++ good 0x02 ∷ x → b ≡ y ++ good 0x03 ∷ behind → Unmarked x → Unmarked y → ⊥

abbrev pub judgement_of : Entry → Judgement
judgement_of e = e.judgement

-- characters other than a good STX or a good ETX that are inserted, lost or damaged outside every run change no entry but its place, and so not the sum
pub record PlacesAlone (a x y b : List Character) : Type 0 where
  pub judgements : map judgement_of (entries (a ++ x ++ b)) ≡ map judgement_of (entries (a ++ y ++ b))
  pub sum : sum (a ++ x ++ b) ≡ sum (a ++ y ++ b)

-- THE WHOLE WAY

-- the call over a stream, with places enough, lists what these characters come to
abbrev pub Lists : List ℕ → List Character → Type 0
Lists s cs =
    (l : LentList) → length (entries cs) ≤ places_of l → countable cs ≡ true
    → confirm s l ≡ record { answer = Ok (record { entries = length (entries cs); litres = sum cs }); list = listed_in (entries cs) l }

-- a channel in mark mode, its reads put together and read back: entries and sum are those of the characters that were handed over and, once all is read,
-- of the characters that arrived and were stored
pub record WholeWay (z : Size) (n : ℕ) (cs : List Call) : Type 0 where
  pub handed : let qs = queue_history (history z n (nameless cs)) in
      Lists (bytes_found qs) (map character_of (items_of (handed qs)))
  pub stored : let qs = queue_history (history z n (nameless cs)) in
      NoReset qs → (after z n (nameless cs)).queue.slots ≡ [] → Lists (bytes_found qs) (map character_of (items_of (stored qs)))

-- THE CALL

-- its three answers, 8 before 16, with the lent list afterwards
pub data ListGives (s : List ℕ) (l : LentList) : Confirmed → Type 0 where
  broken : (place : ℕ) → FirstBroken s place → ListGives s l (record { answer = Err (BrokenStream place); list = l })
  too_many : (cs : List Character) → Accepts s cs → (places_of l < length (entries cs)) ⊎ (countable cs ≡ false)
      → ListGives s l (record { answer = Err TooManyEntries; list = l })
  served : (cs : List Character) → Accepts s cs → length (entries cs) ≤ places_of l → countable cs ≡ true
      → ListGives s l (record { answer = Ok (record { entries = length (entries cs); litres = sum cs }); list = listed_in (entries cs) l })

-- ALL OF IT
pub record Confirmations : Type 0 where
  pub form : (bs : List ℕ) (c : Confirmation) → RightForm bs c
  pub never_counted_twice : (cs : List Character) → NeverCountedTwice cs
  pub places_alone : (a x y b : List Character) → OutsideRuns a b → Unmarked x → Unmarked y → PlacesAlone a x y b
  pub whole_way : (z : Size) (n : ℕ) → n < 4 → (cs : List Call) → Marking (history z n (nameless cs)) → WholeWay z n cs
  pub call : (s : List ℕ) (l : LentList) → ListGives s l (confirm s l)
