-- What reporting a piece of a stream promises.
use Rattle.std.specs.Prelude.{Bool, true, false, List, [], ◌++◌, ◌≡◌, ℕ, ◌≤◌, ◌<◌, length, drop, Option, Some, None}
use Rattle.paper.specs.Yield.{line_of, lines_of, litres_line, broken_line, full_line}
use Rattle.finding.specs.Search.{Ending, ended, broken, full, stopped, Outcome, outcome}
use Rattle.finding.specs.Bounds.{SoundSearch}
use Rattle.finding.specs.declared.Search.{Search}
use Rattle.finding.specs.declared.Stop.{Stop}
use Rattle.paper.specs.declared.Entry.{Entry}
use Rattle.page.specs.Page.{Page, with_text}
use Rattle.sheet.specs.Lines.{longest}
use Rattle.reporting.specs.declared.Reported.{Reported}

-- the last line
abbrev pub ending_line : Ending → List ℕ
ending_line (ended sum) = litres_line sum
ending_line (broken place) = broken_line place
ending_line (full place) = full_line place

abbrev pub sheet_of : Outcome → List ℕ
sheet_of o = lines_of o.entries ++ ending_line o.ending

-- what is still to be written, from a search and the input that remains
abbrev pub left_of : Search → (rest : List ℕ) → List ℕ
left_of s rest = sheet_of (outcome s rest)

-- and nothing, once the last line was put
abbrev pub still_of : (over : Bool) → Search → (rest : List ℕ) → List ℕ
still_of true s rest = []
still_of false s rest = left_of s rest

-- the line of what a byte tells
unfoldable pub told_line : Option Entry → List ℕ
told_line None = []
told_line (Some entry) = line_of entry

-- and the last line, where nothing follows
unfoldable pub stop_line : Stop → List ℕ
stop_line e = ending_line (stopped e)

-- What was written, and after it what is still to be written for all that is left, is what was to be written for the whole: the piece from the place
-- on, and whatever comes after the piece. So it does not matter where the input is cut. The page stays on the buffer that it was on.
pub record Reports (s : Search) (piece : List ℕ) (from : ℕ) (before : Page) (r : Reported) (after : Page) : Type 0 where
  pub whole : (rest : List ℕ) → after.text ++ still_of r.over r.search (drop r.at piece ++ rest)
      ≡ before.text ++ left_of s (drop from piece ++ rest)
  pub sound : SoundSearch r.search
  pub onward : from < length piece → longest ≤ before.room → from < r.at
  pub within : r.at ≤ length piece
  pub same : after.capacity ≡ before.capacity
  pub lent : after.lent ≡ before.lent

-- what is left at the input's end
abbrev pub Finishes : Search → (before after : Page) → Type 0
Finishes s before after = after ≡ with_text (left_of s []) before
