-- An arrival's ruling and a read keep the queue within its depth, and the loss count within 65,535.
use mathlib.Core.Path.{◌≡◌, refl, ap}
use mathlib.Core.Bool.{Bool, true, false}
use mathlib.Core.List.{List, [], ◌∷◌}
use Prim.Native.Nat.{ℕ, suc, ◌≤◌}
use native.Mathlib.Omega.{arith}
use lib.Dec.{ltb}
use lib.ListN.{length, length-append, length-drop}
use borrow.Author.Tests.{ltb-true}
use Rattle.std.specs.Prelude.{Result, Ok, Err}
use Rattle.paper.specs.Queue.{Slot, Queue, flag_newest, place_item, place, removed}
use Rattle.paper.specs.declared.Item.{Item}
use Rattle.paper.specs.declared.Why.{Why}

module _ {A : Type 0} where
  pub length-flag_newest : (l : List (Slot A)) → length (flag_newest l) ≡ length l
  length-flag_newest [] = refl
  length-flag_newest (x ∷ []) = refl
  length-flag_newest (x ∷ y ∷ l) = ap suc (length-flag_newest (y ∷ l))

  pub record Fits (depth : ℕ) (q : Queue A) : Type 0 where
    pub waiting : length q.slots ≤ depth
    pub losses : q.losses ≤ 65535

  pub placed_fits : (depth : ℕ) (a : A) (r : Result Item Why) (q : Queue A) → Fits depth q → Fits depth (place depth a r q).queue
  placed_fits depth a (Err w) q b = b
  placed_fits depth a (Ok i) q b = go (ltb (length q.slots) depth) refl
    where
      go : (room : Bool) → ltb (length q.slots) depth ≡ room → Fits depth (place_item room i a q).queue
      go true e = record { waiting = simp length-append (omega (arith, ltb-true)); losses = b.losses }
      go false e = record { waiting = rw length-flag_newest b.waiting; losses = omega arith }

  pub removed_fits : (depth n : ℕ) (q : Queue A) → Fits depth q → Fits depth (removed n q)
  removed_fits depth n q b = record { waiting = simp length-drop (omega (arith, b.waiting)); losses = b.losses }
