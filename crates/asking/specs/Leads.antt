-- What reading on to the end of a line promises.
use Rattle.std.specs.Prelude.{List, Some, None, Result, ◌++◌, ◌≡◌, ℕ, ◌≤◌, ◌<◌, length, take, drop}
use Rattle.paper.specs.Settings.{Size}
use Rattle.paper.specs.Card as model
use Rattle.paper.specs.Frames.{call_of, replied}
use Rattle.hexadecimal.specs.declared.LineSoFar.{LineSoFar}
use Rattle.hexadecimal.specs.LineSoFar.{Fits, left}
use Rattle.asking.specs.declared.Next.{Next}
use Rattle.asking.specs.declared.Call.{Call}
use Rattle.paper.specs.declared.Refusal.{Refusal}
use Rattle.asking.specs.Frame.{Means}

-- Reading on found no end of the line, or its end and what its frame means: then what there is to write is the paper's answer to the frame, and what
-- the paper writes after it. This holds for a card of any size.
pub data Finds (piece : List ℕ) (from : ℕ) (held : LineSoFar) (before : List ℕ) (r : Next) (after : List ℕ) : Type 0 where
  goes_on : r.found ≡ None
      → ((z : Size) (K : model.Card Unit) (rest : List ℕ)
      → left z K held before (drop from piece ++ rest) ≡ left z K r.line after (drop r.at piece ++ rest))
      → Finds piece from held before r after
  ends : (found : Result Call Refusal) → r.found ≡ Some found
      → ((z : Size) → Means z (take r.long after) found (call_of z (take r.long after)))
      → ((z : Size) (K : model.Card Unit) (rest : List ℕ)
      → let reply = replied z K (call_of z (take r.long after)) in
      left z K held before (drop from piece ++ rest) ≡ reply.text ++ left z reply.next r.line after (drop r.at piece ++ rest))
      → Finds piece from held before r after

-- Where reading on leads: onward in the piece
pub record Leads (piece : List ℕ) (from : ℕ) (held : LineSoFar) (before : List ℕ) (r : Next) (after : List ℕ) : Type 0 where
  pub finds : Finds piece from held before r after
  pub fits : Fits r.line after
  pub long : r.long ≤ 34
  pub onward : from < r.at
  pub within : r.at ≤ length piece
