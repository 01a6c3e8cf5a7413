-- What is carried from piece to piece.
use Rattle.std.specs.Prelude.{true, false, List, ℕ}
use Rattle.finding.specs.Bounds.{SoundSearch}
use Rattle.finding.specs.declared.Search.{Search}
use Rattle.reporting.specs.Program.{PieceReported}
use Rattle.confirmations.specs.declared.Carried.{Carried}
use Rattle.confirmations.specs.declared.Carried.TheVariants.{Open, Over, Closed}

abbrev pub search_of : Carried → Search
search_of (Open s) = s
search_of (Over s) = s
search_of (Closed s) = s

-- there is more to write: the last line was not put, and the output was not closed
abbrev pub GoesOn : Carried → Type 0
GoesOn (Open s) = SoundSearch s
GoesOn (Over s) = ⊥
GoesOn (Closed s) = ⊥

-- unless the output was closed, the piece was reported: to its end, or to the last line
abbrev pub Leaves : (piece : List ℕ) → Search → Carried → Type 0
Leaves piece s (Open t) = PieceReported piece s false t
Leaves piece s (Over t) = PieceReported piece s true t
Leaves piece s (Closed t) = Unit
