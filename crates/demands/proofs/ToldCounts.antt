-- A read tells of what it hands over, and a state of what there is.
use mathlib.Core.Path.{◌≡◌, refl}
use mathlib.Core.Bool.{false, true≢false}
use mathlib.Core.List.{List, []}
use Prim.Native.Nat.{ℕ}
use lib.Dec.{ltb}
use Rattle.paper.specs.Given.{Given, given}
use Rattle.paper.specs.Settings.{Size}
use Rattle.paper.specs.Channel.{read, state, no_room, handed_over, shown, channel_step}
use Rattle.paper.specs.Card.{Card, on, step, at}
use Rattle.demands.specs.History.{is_refused}
use Rattle.demands.specs.Demands.{ToldCounts}
use Rattle.demands.proofs.Choices.{chosen}
use Rattle.demands.proofs.Cases.{by_number}

-- g, if it is no refusal, answers what w answers and leaves what w leaves of the lent bytes
abbrev Tells : {S T : Type 0} (w : Given S) (g : Given T) → Type 0
Tells w g = is_refused g.answer ≡ false → (g.answer ≡ w.answer) × (g.lent ≡ w.lent)

module _ {A : Type 0} (z : Size) (a : A) (K : Card A) (n : ℕ) where
  read_tells : (count place : ℕ) (buffer : List ℕ) → Tells (handed_over (at K n) count place buffer) (step z a K (on n (read count place buffer)))
  unfolding channel_step
  read_tells count place buffer =
      let w = handed_over (at K n) count place buffer in
      by_number z a K (Tells w) n (read count place buffer) (λ above e. absurd (true≢false e)) λ small.
      chosen (Tells w) (ltb z.most count) (λ many e. absurd (true≢false e)) λ few.
      chosen (Tells w) (no_room count place buffer) (λ short e. absurd (true≢false e)) λ room e. (refl, refl)

  state_tells : Tells (given (shown z.most (at K n)) K []) (step z a K (on n state))
  unfolding channel_step
  state_tells = by_number z a K (Tells (given (shown z.most (at K n)) K [])) n state (λ above e. absurd (true≢false e)) (λ small e. (refl, refl))

pub told_counts : ToldCounts
told_counts = record { read = λ A z a K n. read_tells z a K n; state = λ A z a K n e. (state_tells z a K n e).0 }
