-- A RECEIVE QUEUE'S OWN HISTORY. What holds of every such history is proved over it once, and said of a port by `Port.port-queue`.
use mathlib.Core.Path.{◌≡◌}
use mathlib.Core.Bool.{true, false}
use mathlib.Core.List.{List, [], ◌∷◌}
use mathlib.Core.Option.{Option, none, some}
use Prim.Native.Nat.{ℕ}
use Rattle.std.specs.Prelude.{Result}
use Rattle.paper.specs.Queue.{Queue, place, oldest, removed, items_of}
use Rattle.paper.specs.Stream.{images}
use Rattle.paper.specs.declared.Item.{Item}
use Rattle.paper.specs.declared.Why.{Why}
use Rattle.demands.specs.History.{QueueEntry}

abbrev pub empty_queue : {A : Type 0} → Queue A
empty_queue = record { slots = []; losses = 0 }

-- what is allowed of a read: of the queue, the number that is asked for, the number that is told and the bytes that are found
abbrev pub ReadRule : Type 0 → Type 1
ReadRule A = Queue A → (asked told : ℕ) → (bytes : List ℕ) → Type 0

-- what one call does to a queue: an arrival's ruling is placed; so many are taken off, as the rule allows; it is made fresh; it is left alone
pub data QueueStep {A : Type 0} (depth : ℕ) (Rule : ReadRule A) (q : Queue A) : QueueEntry A → Queue A → Type 0 where
  placed : (a : A) (r : Result Item Why)
      → QueueStep depth Rule q
      (record { name = a; ruling = some r; fate = some (place depth a r q).fate; asked = 0; handed = []; bytes = []; reset = false })
      (place depth a r q).queue
  taken : (a : A) (asked told : ℕ) (bytes : List ℕ) → Rule q asked told bytes
      → QueueStep depth Rule q
      (record { name = a; ruling = none; fate = none; asked = asked; handed = oldest told q; bytes = bytes; reset = false })
      (removed told q)
  renewed : (a : A)
      → QueueStep depth Rule q (record { name = a; ruling = none; fate = none; asked = 0; handed = []; bytes = []; reset = true }) empty_queue
  left : (a : A) (r : Option (Result Item Why))
      → QueueStep depth Rule q (record { name = a; ruling = r; fate = none; asked = 0; handed = []; bytes = []; reset = false }) q

-- a history, from one queue to another
pub data QueueRun {A : Type 0} (depth : ℕ) (Rule : ReadRule A) : Queue A → List (QueueEntry A) → Queue A → Type 0 where
  ended : {q : Queue A} → QueueRun depth Rule q [] q
  met : {q q₁ q' : Queue A} {e : QueueEntry A} {es : List (QueueEntry A)}
      → QueueStep depth Rule q e q₁ → QueueRun depth Rule q₁ es q' → QueueRun depth Rule q (e ∷ es) q'

-- a read that hands over all that is asked for and waits, "min(n, waiting)", and leaves their images
pub record Full {A : Type 0} (q : Queue A) (asked told : ℕ) (bytes : List ℕ) : Type 0 where
  pub out : oldest told q ≡ oldest asked q
  pub rest : removed told q ≡ removed asked q
  pub images : bytes ≡ images (items_of (oldest told q))
