-- What the two passes over a stream do.
use Rattle.std.specs.Prelude.{◌≡◌, true, not, ◌||◌, List, [], ℕ, ◌≤◌, ◌<◌, ltb, length, set, if◌then◌else◌, Result, Ok, Err}
use Rattle.paper.specs.Stream.{Character, readout}
use Rattle.paper.specs.Confirmations.{entries, sum, countable, LentList, place_in, number_in, litres_in, judgement_in}
use Rattle.paper.specs.declared.Entry.{Entry}
use Rattle.paper.specs.declared.Listed.{Listed}
use Rattle.paper.specs.declared.Refusal.{Refusal}
use Rattle.paper.specs.declared.Refusal.TheVariants.{TooManyEntries}

-- the first counts the entries: "more entries than the lent list has places", or characters or litres that cannot be counted
unfoldable pub counted_in : List Character → (most : ℕ) → Result Listed Refusal
counted_in cs most =
    if ltb most (length (entries cs)) || not (countable cs)
    then Err TooManyEntries
    else Ok (record { entries = length (entries cs); litres = sum cs })

abbrev pub entries_in : List ℕ → List Entry
entries_in s = entries (readout s).characters

-- the second puts each at its place of all four columns: all of it can be counted, and there is a place for each
pub record HasPlaces (s : List ℕ) (l : LentList) : Type 0 where
  pub whole : (readout s).rest ≡ []
  pub counts : countable (readout s).characters ≡ true
  pub in_places : length (entries_in s) ≤ length l.places
  pub in_numbers : length (entries_in s) ≤ length l.numbers
  pub in_litres : length (entries_in s) ≤ length l.litres
  pub in_judgements : length (entries_in s) ≤ length l.judgements

-- all four columns have the place
pub record HasPlace (at : ℕ) (l : LentList) : Type 0 where
  pub in_places : at < length l.places
  pub in_numbers : at < length l.numbers
  pub in_litres : at < length l.litres
  pub in_judgements : at < length l.judgements

abbrev pub with_entry : LentList → (at : ℕ) → Entry → LentList
with_entry l at e =
    record {
      places = set l.places at (place_in e);
      numbers = set l.numbers at (number_in e);
      litres = set l.litres at (litres_in e);
      judgements = set l.judgements at (judgement_in e);
    }
