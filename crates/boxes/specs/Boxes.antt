-- WHAT REQUEST h DEMANDS of two boxes in a row, as types. To be read with 02 h beside it; what is quoted is the request's.
use Rattle.std.specs.Prelude.{◌≡◌, ◌≢◌, Bool, false, ℕ, ◌≤◌, ◌<◌, Option, None, Some, Result, Ok, Err}
use mathlib.Core.List.{List, [], ◌∷◌, map, Memᴰ}
use Rattle.paper.specs.Text.{each}
use Rattle.paper.specs.Arrival.{NL, step7, arrival}
use Rattle.paper.specs.Stream.{image, Character, good}
use Rattle.paper.specs.TwoBoxes.{acts, followed, one_ending}
use Rattle.paper.specs.declared.Settings.{Settings}
use Rattle.paper.specs.declared.Flags.{Flags}
use Rattle.paper.specs.declared.Refusal.{Refusal}
use Rattle.paper.specs.declared.Refusal.TheVariants.{BadField}
use Rattle.paper.specs.declared.Item.{Item}
use Rattle.paper.specs.declared.Why.{Why}
use Rattle.demands.specs.Marks.{character_of}

-- THE TABLE SPEAKS OF THE CARD: what a setting does to a list is what step 7 stores

-- what is stored by a ruling, as a reader knows it
abbrev pub stored : Result Item Why → List Character
stored (Ok i) = character_of i ∷ []
stored (Err why) = []

-- the bytes that a host is handed for it, and that arrive at the next box
abbrev pub handed_on : Result Item Why → List ℕ
handed_on (Ok i) = image i
handed_on (Err why) = []

-- a box that does nothing else to a good character: strip, flow characters and literal-next are off; and that marks nothing
pub record Plainly (s : Settings) : Type 0 where
  pub strip : s.strip ≡ 0
  pub flow : s.flow ≡ 0
  pub literal : s.literal ≡ 0
  pub unmarked : s.damaged ≢ 4

pub record Step7 (s : Settings) : Type 0 where
  -- of each of a list of good characters, in order, whatever the other settings are
  pub stores : (running : Bool) (l : List ℕ) → each (λ b. stored (step7 s running b).ruling) l ≡ map good (acts s.endings l)
  -- and in such a box all seven steps, with no literal mark set
  pub alone : Plainly s → (f : Flags) → f.literal ≡ false → (l : List ℕ)
      → each (λ b. handed_on (arrival s f 0 b).ruling) l ≡ acts s.endings l

-- A PAIR

-- where no setting does, one list shows it of all eight, and it is the same for every pair: a single NL
abbrev pub shown : List ℕ
shown = NL ∷ []

module _ (first second : ℕ) where
  -- "one setting acts on every list of characters as the first followed by the second"
  abbrev pub Works : (one : ℕ) → Type 0
  Works one = (l : List ℕ) → acts one l ≡ followed first second l

  -- a list that shows that it does not
  abbrev pub Fails : (one : ℕ) → List ℕ → Type 0
  Fails one l = acts one l ≢ followed first second l

  -- what an answer says of a pair: the least setting that does; "or that none does"; or a value is not of the eight
  pub data Says : Result (Option ℕ) Refusal → Type 0 where
    works : {one : ℕ} → first ≤ 7 → second ≤ 7 → one ≤ 7 → Works one → ((less : ℕ) → less < one → (l : List ℕ) × Fails less l) → Says (Ok (Some one))
    none_works : first ≤ 7 → second ≤ 7 → ((one : ℕ) → one ≤ 7 → Fails one shown) → Says (Ok None)
    refused : (first ≤ 7 → second ≤ 7 → ⊥) → Says (Err (BadField 4))

-- "For every ordered pair, prove either ... or"
abbrev pub TwoBoxes : Type 0
TwoBoxes = (first second : ℕ) → Says first second (one_ending first second)

-- USED TWICE

-- "state which of the eight change nothing more when used twice"
abbrev pub settled : List ℕ
settled = 0 ∷ 1 ∷ 2 ∷ 4 ∷ 6 ∷ []

pub record UsedTwice (setting : ℕ) : Type 0 where
  pub nothing_more : Memᴰ setting settled → Works setting setting setting
  -- the others of the eight do: again a single NL shows it
  pub more : setting ≤ 7 → (Memᴰ setting settled → ⊥) → Fails setting setting setting shown
