-- The bounds within which no number of the finder or of the search runs over: shown of the beginning and kept by every step.
use Rattle.std.specs.Prelude.{Bool, true, false, ℕ, zero, suc, ◌*◌, ◌-◌, ◌≤◌, ◌<◌, min, Option, IfSome, IfOk}
use Rattle.paper.specs.Stream.{Character, good, damaged}
use Rattle.paper.specs.Confirmations.{furthest}
use Rattle.finding.specs.Finder.{advance}
use Rattle.finding.specs.Finder as finder
use Rattle.finding.specs.Search.{beginning, take}
use Rattle.finding.specs.declared.Search.{Search}
use Rattle.finding.specs.declared.Form.{Form}
use Rattle.finding.specs.declared.Begun.{Begun}
use Rattle.finding.specs.declared.Finder.{Finder}

-- a character, as the reader's two lists have it
abbrev pub character : (is_damaged : Bool) → ℕ → Character
character true b = damaged b
character false b = good b

-- what k digits spell is below it
abbrev pub tens : ℕ → ℕ
tens zero = 1
tens (suc k) = 10 * tens k

pub record SoundForm (f : Form) : Type 0 where
  pub seen : f.seen ≤ 11
  pub number : f.number < tens (min f.seen 4)
  pub litres : f.litres < tens (f.seen - 5)

abbrev pub SoundRun : Option Begun → Type 0
SoundRun run = IfSome run (λ g. IfSome g.form SoundForm)

abbrev pub SoundLast : Option ℕ → Type 0
SoundLast last = IfSome last (λ n. n < 10000)

pub record SoundFinder (f : Finder) : Type 0 where
  pub run : SoundRun f.run
  pub last : SoundLast f.last
  pub passed : f.passed ≤ furthest
  pub sum : f.sum ≤ furthest

-- at most three bytes a character
pub record SoundSearch (s : Search) : Type 0 where
  pub finder : SoundFinder s.finder
  pub place : s.place ≤ 3 * s.finder.passed

pub record Bounds : Type 0 where
  pub fresh : SoundFinder finder.beginning
  pub kept : (f : Finder) (c : Character) → SoundFinder f → IfOk (advance f c) (λ k. SoundFinder k.finder)
  pub beginning : SoundSearch beginning
  pub searched : (s : Search) (b : ℕ) → SoundSearch s → IfOk (take s b) (λ k. SoundSearch k.search)
