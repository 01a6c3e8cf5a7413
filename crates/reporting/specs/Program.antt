-- THE SHEET, PIECE BY PIECE: calls of `report`, one after the other, each promise kept, and then the last line, write what the definitions give for
-- the whole input.
use Rattle.std.specs.Prelude.{Bool, true, false, List, [], ◌++◌, ◌≡◌, ℕ, length}
use Rattle.paper.specs.Yield.{yield_sheet}
use Rattle.finding.specs.Search.{beginning}
use Rattle.finding.specs.declared.Search.{Search}
use Rattle.page.specs.Page.{Page}
use Rattle.reporting.specs.declared.Reported.{Reported}
use Rattle.reporting.specs.Reports.{left_of, Reports, Finishes}

-- A piece reported from a place on, by as many calls as it took: each began where the one before it stopped, and with nothing yet on the page that it
-- wrote on. To the piece's end; or until a call has put the last line, and then the rest of the piece is not looked at.
pub data ReportedFrom (piece : List ℕ) : (at : ℕ) → Search → (output : List ℕ) → (over : Bool) → Search → Type 0 where
  at_end : {s : Search} → ReportedFrom piece (length piece) s [] false s
  last_put : {s : Search} {at : ℕ} (blank page : Page) (r : Reported) → blank.text ≡ [] → Reports s piece at blank r page → r.over ≡ true
      → ReportedFrom piece at s page.text true r.search
  then_reported : {s t : Search} {at : ℕ} {over : Bool} (blank page : Page) (output : List ℕ) (r : Reported) → blank.text ≡ []
      → Reports s piece at blank r page → r.over ≡ false
      → ReportedFrom piece r.at r.search output over t → ReportedFrom piece at s (page.text ++ output) over t

-- A piece was reported, and something was written for it
pub record PieceReported (piece : List ℕ) (s : Search) (over : Bool) (t : Search) : Type 0 where
  pub wrote : List ℕ
  pub reported : ReportedFrom piece 0 s wrote over t

-- An input that came in pieces, cut anywhere, and what was written for them; once the last line was put, the rest of the input is not looked at
pub data Ran : Search → (input output : List ℕ) → (over : Bool) → Search → Type 0 where
  done : {s : Search} → Ran s [] [] false s
  stopped : {s t : Search} (piece rest wrote : List ℕ) → ReportedFrom piece 0 s wrote true t → Ran s (piece ++ rest) wrote true t
  then_piece : {s t u : Search} {over : Bool} (piece input wrote output : List ℕ) → ReportedFrom piece 0 s wrote false t → Ran t input output over u
      → Ran s (piece ++ input) (wrote ++ output) over u

-- WHAT WAS WRITTEN FOR THE PIECES IS THE SHEET OF THE WHOLE, however the input was cut
pub record SheetAsThePaper : Type 0 where
  -- with the last line, once the input has ended
  pub ended : (t : Search) (input output : List ℕ) (blank page : Page) → Ran beginning input output false t → blank.text ≡ [] → Finishes t blank page
      → output ++ page.text ≡ yield_sheet input
  -- where the last line was put before
  pub over : (t : Search) (input output : List ℕ) → Ran beginning input output true t → output ≡ yield_sheet input
  -- at any moment: what is still to be written is that of the rest, whatever that will be
  pub so_far : (t : Search) (input output rest : List ℕ) → Ran beginning input output false t → output ++ left_of t rest ≡ yield_sheet (input ++ rest)
