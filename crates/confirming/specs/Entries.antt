-- What a pass over the entries of a stream does.
use Rattle.std.specs.Prelude.{◌≡◌, List, ℕ, ◌≤◌, length, Option, Result, MatchResult}
use Rattle.paper.specs.declared.Refusal.{Refusal}
use Rattle.paper.specs.declared.Refusal.TheVariants.{BrokenStream, TooManyEntries}
use Rattle.paper.specs.declared.Entry.{Entry}
use Rattle.finding.specs.Bounds.{SoundSearch}
use Rattle.finding.specs.Search.{beginning}
use Rattle.finding.specs.Walk.{Goes, Stops}
use Rattle.finding.specs.declared.Stop.{Stop}
use Rattle.finding.specs.declared.StoppedAt.{StoppedAt}
use Rattle.finding.specs.declared.Stop.TheVariants.{Broken, Full}
use Rattle.confirming.specs.declared.Entries.{Entries}

-- before the first
pub record Begins (stream : List ℕ) (e : Entries) : Type 0 where
  pub of : e.stream.now ≡ stream
  pub at : e.at ≡ 0
  pub search : e.search ≡ beginning

-- it stands in the stream
pub record Ready (e : Entries) : Type 0 where
  pub sound : SoundSearch e.search
  pub within : e.at ≤ length e.stream.now

-- what a stop of the search is refused with
abbrev pub refused : Stop → Refusal
refused (Broken place) = BrokenStream place
refused (Full place) = TooManyEntries

-- the search goes no further
pub record Refuses (e : Entries) (a : Refusal) : Type 0 where
  pub stopped : StoppedAt
  pub is : a ≡ refused stopped.stop
  pub stops : Stops e.stream.now e.at e.search stopped

-- the search goes on to the next byte that tells an entry, or to the end
pub record Nexts (before after : Entries) (r : Result (Option Entry) Refusal) : Type 0 where
  pub of : after.stream.now ≡ before.stream.now
  pub walks : MatchResult
      r
      (λ entry. Goes before.stream.now before.at before.search (record { at = after.at; search = after.search; entry = entry }))
      (λ a. Refuses before a)
