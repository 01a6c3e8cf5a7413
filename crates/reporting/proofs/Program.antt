-- Reporting the pieces is reporting the whole.
use mathlib.Core.Bool.{Bool, true, false}
use mathlib.Core.List.{List, [], ◌∷◌, ◌++◌, append_assoc, append-nil}
use mathlib.Core.Path.{◌≡◌, refl, sym, ap, ◌∙◌}
use Prim.Native.Nat.{ℕ}
use native.Mathlib.Omega.{arith}
use lib.Dec.{eqb}
use lib.ListN.{length, drop, drop_of_length-le}
use Rattle.std.specs.Prelude.{if◌then◌else◌}
use Rattle.paper.specs.Stream.{Character, readout}
use Rattle.paper.specs.Confirmations.{entries}
use Rattle.paper.specs.Yield.{lines_of, full_line, counted_front, last_line, yield_sheet}
use Rattle.finding.specs.Search.{full, beginning, ended_by}
use Rattle.finding.specs.declared.Search.{Search}
use Rattle.finding.proofs.Outcomes.{searches}
use Rattle.reporting.specs.Reports.{ending_line, sheet_of, left_of, still_of}
use Rattle.reporting.specs.Program.{ReportedFrom, at_end, last_put, then_reported, Ran, done, stopped, then_piece, SheetAsThePaper}

-- what was written, and then what is left
piece_whole : {piece : List ℕ} {at : ℕ} {s t : Search} {output : List ℕ} {over : Bool} → ReportedFrom piece at s output over t → (rest : List ℕ)
    → output ++ still_of over t rest ≡ left_of s (drop at piece ++ rest)
piece_whole {piece = piece} at_end rest = rw (drop_of_length-le piece {i = length piece} (omega arith))
piece_whole {piece = piece} (last_put blank page r nothing reports e) rest =
    ap (λ (o : Bool). page.text ++ still_of o r.search (drop r.at piece ++ rest)) (sym e) ∙ rw nothing at (reports.whole rest)
piece_whole {piece = piece} {t = t} {over = over} (then_reported blank page output r nothing reports e more) rest =
    append_assoc page.text output (still_of over t rest)
    ∙ ap (page.text ++◌) (piece_whole more rest)
    ∙ ap (λ (o : Bool). page.text ++ still_of o r.search (drop r.at piece ++ rest)) (sym e)
    ∙ rw nothing at (reports.whole rest)

whole : {s t : Search} {input output : List ℕ} {over : Bool} → Ran s input output over t → (rest : List ℕ)
    → output ++ still_of over t rest ≡ left_of s (input ++ rest)
whole done rest = refl
whole (stopped {s} piece unread wrote reported) rest =
    piece_whole reported (unread ++ rest) ∙ ap (left_of s) (sym (append_assoc piece unread rest))
whole {t = u} {over = over} (then_piece {s} {t} piece input wrote output reported more) rest =
    append_assoc wrote output (still_of over u rest)
    ∙ ap (λ (x : List ℕ). wrote ++ x) (whole more rest)
    ∙ piece_whole reported (input ++ rest)
    ∙ ap (left_of s) (sym (append_assoc piece input rest))

-- at the beginning
last_as_given : (s : List ℕ) (counted : List Character) (rest : List ℕ) → ending_line (ended_by (length s) counted rest) ≡ last_line s counted rest
last_as_given s counted [] = refl
last_as_given s counted (b ∷ rest) = refl

ending_as_given : (s : List ℕ) (counted : List Character) (rest : List ℕ) (t : Bool)
    → ending_line (if t then ended_by (length s) counted rest else full (length counted))
    ≡ (if t then last_line s counted rest else full_line (length counted))
ending_as_given s counted rest true = last_as_given s counted rest
ending_as_given s counted rest false = refl

from_beginning : (input : List ℕ) → left_of beginning input ≡ yield_sheet input
unfolding yield_sheet
from_beginning input =
    let cs = (readout input).characters in
    let counted = counted_front [] cs in
    let last = ending_as_given input counted (readout input).rest (eqb (length counted) (length cs)) in
    ap sheet_of (searches input) ∙ ap (λ (line : List ℕ). lines_of (entries counted) ++ line) last

pub sheet_as_the_paper : SheetAsThePaper
sheet_as_the_paper =
    record {
      ended = λ t input output blank page ran nothing finishes.
          ap (λ (last : List ℕ). output ++ last) (rw (finishes, nothing) refl)
          ∙ whole ran []
          ∙ ap (left_of beginning) (append-nil input)
          ∙ from_beginning input;
      over = λ t input output ran.
          sym (append-nil output) ∙ whole ran [] ∙ ap (left_of beginning) (append-nil input) ∙ from_beginning input;
      so_far = λ t input output rest ran. whole ran rest ∙ from_beginning (input ++ rest);
    }
