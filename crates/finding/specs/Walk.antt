-- What going on in a piece of a stream promises.
use Rattle.std.specs.Prelude.{◌≡◌, List, ◌++◌, ℕ, ◌≤◌, ◌<◌, length, drop, Option, None, Result, MatchResult}
use Rattle.paper.specs.declared.Entry.{Entry}
use Rattle.finding.specs.Bounds.{SoundSearch}
use Rattle.finding.specs.Search.{ends, stopped, told, outcome}
use Rattle.finding.specs.declared.Search.{Search}
use Rattle.finding.specs.declared.StoppedAt.{StoppedAt}
use Rattle.finding.specs.declared.Next.{Next}

-- from one place of a piece to another, whatever follows the piece: what is told, and what is still to come
pub record Follows (piece : List ℕ) (from : ℕ) (s : Search) (entry : Option Entry) (at : ℕ) (t : Search) : Type 0 where
  pub comes : (rest : List ℕ) → outcome s (drop from piece ++ rest) ≡ told entry (outcome t (drop at piece ++ rest))
  pub sound : SoundSearch t
  pub onward : from ≤ at
  pub within : at ≤ length piece

-- the next byte that tells an entry, or the end of the piece
pub record Goes (piece : List ℕ) (from : ℕ) (s : Search) (n : Next) : Type 0 where
  pub follows : Follows piece from s n.entry n.at n.search
  pub further : from < length piece → from < n.at
  pub to_the_end : n.entry ≡ None → n.at ≡ length piece

-- a byte of the piece, before any that tells an entry, beyond which it goes no further; and a place further on, and a sound search
pub record Stops (piece : List ℕ) (from : ℕ) (s : Search) (e : StoppedAt) : Type 0 where
  pub comes : (rest : List ℕ) → outcome s (drop from piece ++ rest) ≡ ends (stopped e.stop)
  pub sound : SoundSearch e.search
  pub further : from < e.at
  pub within : e.at ≤ length piece

abbrev pub Walks : (piece : List ℕ) (from : ℕ) → Search → Result Next StoppedAt → Type 0
Walks piece from s r = MatchResult r (Goes piece from s) (Stops piece from s)
