-- What the call over a stream and a lent list promises.
use Rattle.std.specs.Prelude.{List, ◌≡◌, ℕ}
use Rattle.paper.specs.Numbers.{listing_numbers}
use Rattle.paper.specs.Confirmations.{LentList, Confirmed, confirm}

-- the lent list, by its four columns
abbrev pub columns : (places numbers litres judgements : List ℕ) → LentList
columns p n l j = record { places = p; numbers = n; litres = l; judgements = j }

-- The answer and the list afterwards are those of the paper's call. So the answer's numbers are the paper's.
pub record Promise (s : List ℕ) (l : LentList) (r : Confirmed) : Type 0 where
  pub gives : r ≡ confirm s l
  pub says : listing_numbers r.answer ≡ listing_numbers (confirm s l).answer

-- "show that the promise admits one answer only"
abbrev pub OneAnswer : Type 0
OneAnswer = (s : List ℕ) (l : LentList) (r r' : Confirmed) → Promise s l r → Promise s l r' → r ≡ r'
