-- A call on one channel alters no other channel, nor the pick's place, and its answer depends on that channel only.
use mathlib.Core.Path.{◌≡◌, refl}
use mathlib.Core.Bool.{Bool, true, false}
use mathlib.Core.List.{List, [], ◌∷◌}
use Prim.Native.Nat.{ℕ, zero, suc}
use native.Mathlib.Omega.{arith}
use lib.Dec.{ltb}
use lib.ListN.{length, set, get_or, length-set}
use lib.Seq.{get_or-set_other}
use Rattle.std.specs.Prelude.{if◌then◌else◌}
use Rattle.paper.specs.Given.{Given, refused}
use Rattle.paper.specs.Settings.{Size}
use Rattle.paper.specs.Channel.{Channel, fresh, ChannelCall, lent, channel_step}
use Rattle.paper.specs.Card.{Card, Call, on, pick, step, at, put}
use Rattle.paper.specs.declared.Refusal.TheVariants.{BadChannel}
use Rattle.demands.specs.Demands.{Isolation}
use Rattle.demands.proofs.Cases.{by_number, by_pick}

-- what is stored at one place of two lists of one length is found in both or in neither
found_alike : {X : Type 0} (k l : List X) (n : ℕ) (x d : X) → length k ≡ length l → get_or (set k n x) n d ≡ get_or (set l n x) n d
found_alike [] [] n x d e = refl
found_alike [] (b ∷ l) n x d e = absurd (omega arith)
found_alike (a ∷ k) [] n x d e = absurd (omega arith)
found_alike (a ∷ k) (b ∷ l) zero x d e = refl
found_alike (a ∷ k) (b ∷ l) (suc n) x d e = found_alike k l n x d (omega arith)

module _ {A : Type 0} (K L : Card A) (n : ℕ) (c : ChannelCall) (g : Given (Channel A)) where
  alone : (above : Bool)
      → let x = if above then refused BadChannel K (lent c) else put K n g in
      let y = if above then refused BadChannel L (lent c) else put L n g in
      (x.answer ≡ y.answer) × (x.lent ≡ y.lent)
  alone true = (refl, refl)
  alone false = (refl, refl)

  next : length K.channels ≡ length L.channels → at K n ≡ at L n → (above : Bool)
      → at (if above then refused BadChannel K (lent c) else put K n g).next n ≡ at (if above then refused BadChannel L (lent c) else put L n g).next n
  next long e true = e
  next long e false = found_alike K.channels L.channels n g.next fresh long

-- there are as many channels as before
pub step_length : {A : Type 0} (z : Size) (a : A) (K : Card A) (c : Call) → length (step z a K c).next.channels ≡ length K.channels
step_length z a K (on n c) =
    by_number z a K (λ g. length g.next.channels ≡ length K.channels) n c (λ _. refl) (λ _. length-set K.channels n _)
step_length z a K pick = by_pick z a K (λ g. length g.next.channels ≡ length K.channels) refl (λ _ _. refl)

pub isolation : Isolation
unfolding step
isolation =
    record {
      others = λ A z a K n c m ne.
          by_number z a K (λ g. at g.next m ≡ at K m) n c (λ above. refl) (λ small. get_or-set_other K.channels n m _ fresh ne);
      place = λ A z a K n c. by_number z a K (λ g. g.next.place ≡ K.place) n c (λ above. refl) (λ small. refl);
      alone = λ A z a K L n c e. rw e (alone K L n c (channel_step z a (at L n) c) (ltb 3 n));
      next = λ A z a K L n c long e. rw e (next K L n c (channel_step z a (at L n) c) long e (ltb 3 n));
    }
