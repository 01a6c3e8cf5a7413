-- THE SEARCH through a marked stream, byte by byte: the reader of 01 and the finder behind it.
use Rattle.std.specs.Prelude.{◌≡◌, true, false, List, [], ◌∷◌, ℕ, ◌+◌, ◌-◌, eqb, length, if◌then◌else◌, Option, None, Result, Ok, Err}
use Rattle.paper.specs.Stream.{Character, good, damaged, readout}
use Rattle.paper.specs.Confirmations.{ahead, entries, sum, countable}
use Rattle.paper.specs.Yield.{counted_front}
use Rattle.paper.specs.declared.Entry.{Entry}
use Rattle.finding.specs.Finder.{advance}
use Rattle.finding.specs.Finder as finder
use Rattle.finding.specs.declared.Step.{Step}
use Rattle.finding.specs.declared.PartRead.{PartRead}
use Rattle.finding.specs.declared.PartRead.TheVariants as parts
use Rattle.finding.specs.declared.Search.{Search}
use Rattle.finding.specs.declared.Stop.{Stop}
use Rattle.finding.specs.declared.Stop.TheVariants.{Broken, Full}
use Rattle.finding.specs.declared.Taken.{Taken}

abbrev pub beginning : Search
beginning = record { part = parts.Nothing; place = 0; finder = finder.beginning }

-- ONE BYTE

abbrev pub waits : Search → PartRead → Taken
waits s part = record { search = record { part = part; place = s.place; finder = s.finder }; entry = None }

abbrev pub behind : Search → (width : ℕ) → Step → Taken
behind s width k = record { search = record { part = parts.Nothing; place = s.place + width; finder = k.finder }; entry = k.entry }

abbrev pub passed : Search → (width : ℕ) → Result Step Stop → Result Taken Stop
passed s width (Ok k) = Ok (behind s width k)
passed s width (Err e) = Err e

-- a whole character: the finder takes it
unfoldable pub pass : Search → (width : ℕ) → Character → Result Taken Stop
pass s width c = passed s width (advance s.finder c)

-- "FF FF is good FF; FF 00 x is damaged x; any other byte but FF is a good byte. FF before any other byte ... is broken"
unfoldable pub taken_at : PartRead → Search → ℕ → Result Taken Stop
taken_at parts.Nothing s b = if eqb b 0xFF then Ok (waits s parts.Mark) else pass s 1 (good b)
taken_at parts.Mark s b =
    if eqb b 0xFF then pass s 2 (good 0xFF) else
    if eqb b 0x00 then Ok (waits s parts.MarkZero) else
    Err (Broken s.place)
taken_at parts.MarkZero s b = pass s 3 (damaged b)

unfoldable pub take : Search → ℕ → Result Taken Stop
take s b = taken_at s.part s b

-- ALL BYTES

-- how it ends: with the sum of litres; at a broken FF, by its place in bytes; at a character that cannot be counted, by its place among them
pub data Ending : Type 0 where
  ended : (sum : ℕ) → Ending
  broken : (place : ℕ) → Ending
  full : (place : ℕ) → Ending

pub record Outcome : Type 0 where
  pub entries : List Entry
  pub ending : Ending

abbrev pub ends : Ending → Outcome
ends e = record { entries = []; ending = e }

-- "or cut off at the end"
abbrev pub end_at : PartRead → Search → Ending
end_at parts.Nothing s = ended s.finder.sum
end_at parts.Mark s = broken s.place
end_at parts.MarkZero s = broken s.place

abbrev pub stopped : Stop → Ending
stopped (Broken place) = broken place
stopped (Full place) = full place

abbrev pub told : Option Entry → Outcome → Outcome
told entry o = record { entries = ahead entry o.entries; ending = o.ending }

abbrev pub goes_on : Result Taken Stop → (Search → Outcome) → Outcome
goes_on (Ok k) rest = told k.entry (rest k.search)
goes_on (Err e) rest = ends (stopped e)

abbrev pub outcome : Search → List ℕ → Outcome
outcome s [] = ends (end_at s.part s)
outcome s (b ∷ bs) = goes_on (take s b) (λ t. outcome t bs)

-- WHAT IT COMES TO, by the definitions: the entries of the characters that can be counted; and the sum, or the broken FF, where these are all characters

abbrev pub ended_by : (whole : ℕ) → (counted : List Character) → (rest : List ℕ) → Ending
ended_by whole counted [] = ended (sum counted)
ended_by whole counted (b ∷ rest) = broken (whole - length (b ∷ rest))

abbrev pub ending_of : (whole all : ℕ) → (counted : List Character) → (rest : List ℕ) → Ending
ending_of whole all counted rest = if eqb (length counted) all then ended_by whole counted rest else full (length counted)

abbrev pub comes_to : List ℕ → List Character → (counted : List Character) → (rest : List ℕ) → Outcome
comes_to s cs counted rest = record { entries = entries counted; ending = ending_of (length s) (length cs) counted rest }

abbrev pub Searches : List ℕ → Type 0
Searches s = outcome beginning s ≡ comes_to s (readout s).characters (counted_front [] (readout s).characters) (readout s).rest

-- of a stream of which nothing is broken, whose characters can be counted, or cannot
pub data Whole (cs : List Character) : Outcome → Type 0 where
  counted : countable cs ≡ true → Whole cs (record { entries = entries cs; ending = ended (sum cs) })
  uncounted : countable cs ≡ false → (es : List Entry) (place : ℕ) → Whole cs (record { entries = es; ending = full place })

abbrev pub WholeStreams : Type 0
WholeStreams = (s : List ℕ) → (readout s).rest ≡ [] → Whole (readout s).characters (outcome beginning s)
