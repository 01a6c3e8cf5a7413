-- What a turn finds: how much is still to go, whether it is held, and what goes first.
use mathlib.Core.Path.{◌≡◌, refl, ap}
use mathlib.Core.Bool.{Bool, true, false, not, ◌&&◌, ◌||◌}
use mathlib.Core.Logic.{◌⊎◌, inl, inr}
use mathlib.Core.List.{List, [], ◌∷◌, ◌++◌}
use mathlib.Core.Option.{Option, none, some}
use Prim.Native.Nat.{ℕ, ◌+◌, ◌*◌, ◌≤◌}
use native.Mathlib.Omega.{arith}
use lib.Dec.{eqb}
use lib.ListN.{length}
use borrow.Author.Tests.{eqb-true}
use Rattle.std.specs.Prelude.{if◌then◌else◌}
use Rattle.paper.specs.Given.{given}
use Rattle.paper.specs.Arrival.{CR, NL}
use Rattle.paper.specs.Transmitter.{Transmitter, with_bytes, with_owed, sends, send_next, held}
use Rattle.paper.specs.declared.Settings.{Settings}
use Rattle.paper.specs.declared.Flags.{Flags}
use Rattle.paper.specs.declared.Answer.TheVariants.{Sent}
use Rattle.demands.specs.History.{gathered, goes_as}
use Rattle.demands.specs.Demands.{owing, waits}

-- what is still to go: a special, an owed NL, and at most two for each byte
abbrev pub load_of : Transmitter → ℕ
load_of t = length (waits t.special) + length (owing t.owed) + 2 * length t.bytes

-- at most one special, and one owed NL
pub lightest : (t : Transmitter) (k : ℕ) → 2 + 2 * length t.bytes ≤ k → load_of t ≤ k
lightest t k enough = go t.owed t.special
  where
    go : (owed : Bool) (w : Option ℕ) → load_of (record { bytes = t.bytes; owed = owed; special = w; cts = t.cts }) ≤ k
    go true none = omega arith
    go true (some b) = omega arith
    go false none = omega arith
    go false (some b) = omega arith

-- nothing holds the transmitter
abbrev pub Unheld : Settings → Flags → Transmitter → Type 0
Unheld s f t = (f.running ≡ true) × (s.hold ≡ 1 → t.cts ≡ true)

pub free : (s : Settings) (f : Flags) (t : Transmitter) → Unheld s f t → held s f t ≡ false
free s f t (runs, clear) = rw runs (go (eqb s.hold 1) refl)
  where
    go : (u : Bool) → eqb s.hold 1 ≡ u → (u && not t.cts) ≡ false
    go true e = rw (clear (eqb-true _ _ e))
    go false e = refl

pub is_held : (s : Settings) (f : Flags) (t : Transmitter) → (f.running ≡ false) ⊎ ((s.hold ≡ 1) × (t.cts ≡ false)) → held s f t ≡ true
is_held s f t (inl stopped) = rw stopped
is_held s f t (inr (field, low)) = rw (field, low) (go f.running)
  where
    go : (runs : Bool) → (not runs || true) ≡ true
    go true = refl
    go false = refl

-- the first of all that is due
sends_first : (s : Settings) (t : Transmitter) (c : ℕ) (left : List ℕ) (b : ℕ) (rest more : List ℕ) → goes_as s c ++ more ≡ b ∷ rest
    → (sends s t c left).answer ≡ Sent b
sends_first s t c left b rest more e = go (eqb s.expand 1 && eqb c NL) e
  where
    go : (u : Bool) → (if u then CR ∷ NL ∷ [] else c ∷ []) ++ more ≡ b ∷ rest
        → (if u then given (Sent CR) (with_owed true (with_bytes left t)) [] else given (Sent c) (with_owed false (with_bytes left t)) []).answer ≡ Sent b
    go true e = ap Sent cc
    go false e = ap Sent cc

pub next_first : (s : Settings) (t : Transmitter) (owed : Bool) (queue : List ℕ) (b : ℕ) (rest : List ℕ)
    → owing owed ++ gathered (goes_as s) queue ≡ b ∷ rest → (send_next s t owed queue).answer ≡ Sent b
next_first s t true queue b rest e = ap Sent cc
next_first s t false (c ∷ left) b rest e = sends_first s t c left b rest (gathered (goes_as s) left) e
next_first s t false [] b rest e = absurd (let different : ◌≡◌ {A = ℕ} 0 1 = cc in omega arith)
