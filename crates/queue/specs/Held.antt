-- The record that holds the paper's queue, and the queue that a record holds.
use Rattle.std.specs.Prelude.{List, [], ◌∷◌, map, ◌≡◌, ℕ, ◌≤◌, eqb, ◌==◌, count_by, length, take, if◌then◌else◌, Result}
use Rattle.paper.specs.Settings.{card_size}
use Rattle.paper.specs.Queue as model
use Rattle.paper.specs.Stream.{images}
use Rattle.paper.specs.declared.Item.{Item}
use Rattle.paper.specs.declared.Why.{Why}
use Rattle.arrays.specs.Padded.{padded}
use Rattle.images.specs.Code.{kind_of, byte_of, item_in}
use Rattle.queue.specs.declared.Queue.{Queue}
use Rattle.queue.specs.declared.Placed.{Placed}
use Rattle.queue.specs.declared.Handed.{Handed}

-- The arrays have as many places as the card's queues hold items; the laws are for any depth within them.
abbrev pub places : ℕ
places = card_size.depth

-- The card's own slots name nothing
abbrev pub Slot : Type 0
Slot = model.Slot Unit

-- "queues empty, ... loss count 0"
abbrev pub empty : model.Queue Unit
empty = record { slots = []; losses = 0 }

-- A slot in three arrays
abbrev pub kind : Slot → ℕ
kind x = kind_of x.item

abbrev pub byte : Slot → ℕ
byte x = byte_of x.item

abbrev pub flag : Slot → ℕ
flag x = if x.over then 1 else 0

unfoldable pub queue_of : (places : ℕ) → model.Queue Unit → Queue
queue_of places q =
    record {
      kinds = padded places (map kind q.slots);
      bytes = padded places (map byte q.slots);
      flags = padded places (map flag q.slots);
      count = length q.slots;
      losses = q.losses;
    }

abbrev pub slots_in : (kinds bytes flags : List ℕ) → List Slot
slots_in [] bs fs = []
slots_in (k ∷ ks) [] fs = []
slots_in (k ∷ ks) (b ∷ bs) [] = []
slots_in (k ∷ ks) (b ∷ bs) (f ∷ fs) = record { item = item_in k b; over = eqb f 1; name = tt } ∷ slots_in ks bs fs

unfoldable pub queue_in : Queue → model.Queue Unit
queue_in q =
    record {
      slots = slots_in (take q.count q.kinds) (take q.count q.bytes) (take q.count q.flags);
      losses = q.losses;
    }

-- A record is sound if it is the one that holds its queue, within the bounds.
pub record SoundIn (places d : ℕ) (q : Queue) : Type 0 where
  pub is : q ≡ queue_of places (queue_in q)
  pub waiting : length (queue_in q).slots ≤ d
  pub losses : (queue_in q).losses ≤ 65535

-- a sound record, whatever depth within its places
abbrev pub Sound : Queue → Type 0
Sound q = SoundIn places places q

-- what an arrival's ruling does
unfoldable pub placing : (places d : ℕ) → Queue → Result Item Why → Placed
placing places d q r =
    let p = model.place d tt r (queue_in q) in
    record { fate = p.fate; queue = queue_of places p.queue }

-- how many flags are set
abbrev pub ones : List ℕ → ℕ
ones = count_by (λ f. f == 1)

-- what a read of n gives
unfoldable pub handing : (places : ℕ) → Queue → (n : ℕ) → Handed
handing places q n =
    let out = model.oldest n (queue_in q) in
    record {
      characters = length out;
      flagged = model.overruns out;
      bytes = length (images (model.items_of out));
      queue = queue_of places (model.removed n (queue_in q));
    }
