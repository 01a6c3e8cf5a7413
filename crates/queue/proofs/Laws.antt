-- What the calls do to the record is what the paper does to the queue that it holds, at any depth d and any number of places.
use mathlib.Core.Bool.{Bool, true, false}
use mathlib.Core.List.{List, [], ◌∷◌, ◌++◌, map, map-append}
use mathlib.Core.Path.{◌≡◌, refl, ap, ap₂, sym, ◌∙◌}
use Prim.Native.Nat.{ℕ, zero, suc, ◌+◌, ◌-◌, ◌≤◌, ◌<◌, min}
use native.Mathlib.Omega.{arith}
use lib.Dec.{eqb}
use lib.ListN.{length, take, drop, set, replicate, length-append, length-map, length-drop, length-take}
use lib.Seq.{take_at, take-append-le}
use Rattle.std.specs.Prelude.{cond, if◌then◌else◌}
use Rattle.std.proofs.lemmas.List.Sums.{sum_by-cons}
use Rattle.paper.specs.Queue as model
use Rattle.paper.specs.Queue.{flagged, flag_newest, stored, overrun, removed, oldest, items_of, overruns}
use Rattle.paper.specs.declared.Item.{Item}
use Rattle.demands.proofs.Placing.{length-flag_newest}
use Rattle.arrays.specs.Padded.{padded}
use Rattle.arrays.proofs.Laws.{padded_put, padded_set, padded_drop, take_min, drop_min}
use Rattle.images.specs.Code.{kind_of, byte_of, item_in, items_in}
use Rattle.images.proofs.Laws.{item_in_lem}
use Rattle.queue.specs.declared.Queue.{Queue}
use Rattle.queue.specs.Held.{Slot, kind, byte, flag, queue_of, slots_in, queue_in, SoundIn, ones}

-- THE RECORD OF A QUEUE HOLDS IT

slot_in : (x : Slot) → record { item = item_in (kind x) (byte x); over = eqb (flag x) 1; name = tt } ≡ x
slot_in x = rw item_in_lem (go x.item x.over)
  where
    go : (i : Item) (o : Bool) → ◌≡◌ {A = Slot} (record { item = i; over = eqb (if o then 1 else 0) 1; name = tt })
        (record { item = i; over = o; name = tt })
    go i true = refl
    go i false = refl

slots_in_lem : (l : List Slot) → slots_in (map kind l) (map byte l) (map flag l) ≡ l
slots_in_lem [] = refl
slots_in_lem (x ∷ l) = ap₂ (λ (y : Slot) (m : List Slot). y ∷ m) (slot_in x) (slots_in_lem l)

take_part : (f : Slot → ℕ) (places : ℕ) (l : List Slot) → take (length l) (padded places (map f l)) ≡ map f l
take_part f places l = take_at (map f l) _ (length l) (length-map l f)

pub queue_in_lem : (places : ℕ) (q : model.Queue Unit) → queue_in (queue_of places q) ≡ q
unfolding queue_in queue_of
queue_in_lem places q =
    rw (take_part kind places q.slots, take_part byte places q.slots, take_part flag places q.slots, slots_in_lem q.slots)

pub count_is : (places d : ℕ) (q : Queue) → SoundIn places d q → q.count ≡ length (queue_in q).slots
unfolding queue_of
count_is places d q s = ap (λ (x : Queue). x.count) s.is

-- a record that is sound at a depth within its places is sound at all of them
pub deeper : (places d : ℕ) (q : Queue) → SoundIn places d q → d ≤ places → SoundIn places places q
deeper places d q s fits = record { is = s.is; waiting = omega (arith, s.waiting); losses = s.losses }

-- STORING

part_put : (f : Slot → ℕ) (places : ℕ) (l : List Slot) (x : Slot) → length l < places
    → set (padded places (map f l)) (length l) (f x) ≡ padded places (map f (l ++ x ∷ []))
part_put f places l x h =
    let h' : length (map f l) < places = rw length-map h in
    rw (map-append, ← padded_put places (map f l) (f x) h', length-map)

-- the record with one more item, place by place
abbrev pub put : Queue → Item → Queue
put q i =
    record {
      kinds = set q.kinds q.count (kind_of i);
      bytes = set q.bytes q.count (byte_of i);
      flags = set q.flags q.count 0;
      count = q.count + 1;
      losses = q.losses;
    }

put_law : (places : ℕ) (q : model.Queue Unit) (i : Item) → length q.slots < places → put (queue_of places q) i ≡ queue_of places (stored i tt q)
unfolding queue_of
put_law places q i h =
    let l = q.slots in
    let x : Slot = record { item = i; over = false; name = tt } in
    let e : length (l ++ x ∷ []) ≡ length l + 1 = length-append l (x ∷ []) in
    rw (part_put kind places l x h, part_put byte places l x h, part_put flag places l x h, e)

pub put_sound : (places d : ℕ) (q : Queue) → SoundIn places d q → (i : Item) → q.count < places → put q i ≡ queue_of places (stored i tt (queue_in q))
put_sound places d q s i h =
    ap (λ (x : Queue). put x i) s.is ∙ put_law places (queue_in q) i (omega (arith, count_is places d q s))

-- LOSING

-- what the overrun flag does not touch
map-flag_newest : (f : Slot → ℕ) → ((x : Slot) → f (flagged x) ≡ f x) → (l : List Slot) → map f (flag_newest l) ≡ map f l
map-flag_newest f h [] = refl
map-flag_newest f h (x ∷ []) = ap (λ (n : ℕ). n ∷ []) (h x)
map-flag_newest f h (x ∷ y ∷ l) = ap (λ (m : List ℕ). f x ∷ m) (map-flag_newest f h (y ∷ l))

flag_newest_lem : (x : Slot) (l : List Slot) → map flag (flag_newest (x ∷ l)) ≡ set (map flag (x ∷ l)) (length l) 1
flag_newest_lem x [] = refl
flag_newest_lem x (y ∷ l) = ap (λ (m : List ℕ). flag x ∷ m) (flag_newest_lem y l)

-- the record with a flag more, and a loss count
abbrev pub lose : Queue → (losses : ℕ) → Queue
lose q n = record { kinds = q.kinds; bytes = q.bytes; flags = set q.flags (q.count - 1) 1; count = q.count; losses = n }

lose_law : (places : ℕ) (l : List Slot) (losses n : ℕ) → 0 < length l
    → lose (queue_of places (record { slots = l; losses = losses })) n ≡ queue_of places (record { slots = flag_newest l; losses = n })
unfolding queue_of
lose_law places [] losses n h = absurd (omega arith)
lose_law places (x ∷ l) losses n h =
    let e : suc (length l) - 1 ≡ length l = omega arith in
    let m : length l < length (map flag (x ∷ l)) = omega (arith, length-map l flag) in
    rw (
      e,
      padded_set places (map flag (x ∷ l)) (length l) 1 m,
      flag_newest_lem x l,
      map-flag_newest kind (λ y. refl) (x ∷ l),
      map-flag_newest byte (λ y. refl) (x ∷ l),
      length-flag_newest (x ∷ l),
    )

pub lose_sound : (places d : ℕ) (q : Queue) → SoundIn places d q → (n : ℕ) → n ≡ min (suc q.losses) 65535 → 0 < q.count
    → lose q n ≡ queue_of places (overrun (queue_in q))
unfolding queue_in
lose_sound places d q s n e h =
    ap (λ (x : Queue). lose x n) s.is ∙ lose_law places (queue_in q).slots q.losses n (omega (arith, count_is places d q s))
    ∙ ap (λ (m : ℕ). queue_of places (record { slots = flag_newest (queue_in q).slots; losses = m })) e

-- REMOVING

map-drop : (f : Slot → ℕ) (n : ℕ) (l : List Slot) → map f (drop n l) ≡ drop n (map f l)
map-drop f zero l = refl
map-drop f (suc n) [] = refl
map-drop f (suc n) (x ∷ l) = map-drop f n l

part_drop : (f : Slot → ℕ) (places n : ℕ) (l : List Slot) → n ≤ length l → length l ≤ places
    → drop n (padded places (map f l)) ++ replicate n 0 ≡ padded places (map f (drop n l))
part_drop f places n l h k =
    let h' : n ≤ length (map f l) = rw length-map h in
    let k' : length (map f l) ≤ places = rw length-map k in
    rw (map-drop, padded_drop)

-- the record with its first n places gone
abbrev pub close : ℕ → Queue → Queue
close n q =
    record {
      kinds = drop n q.kinds ++ replicate n 0;
      bytes = drop n q.bytes ++ replicate n 0;
      flags = drop n q.flags ++ replicate n 0;
      count = q.count - n;
      losses = q.losses;
    }

close_law : (places n : ℕ) (q : model.Queue Unit) → n ≤ length q.slots → length q.slots ≤ places
    → close n (queue_of places q) ≡ queue_of places (removed n q)
unfolding queue_of
close_law places n q h k =
    let l = q.slots in
    rw (part_drop kind places n l h k, part_drop byte places n l h k, part_drop flag places n l h k, length-drop)

pub close_sound : (places d n : ℕ) (q : Queue) → SoundIn places d q → n ≤ q.count → d ≤ places → close n q ≡ queue_of places (removed n (queue_in q))
close_sound places d n q s h m =
    ap (close n) s.is ∙ close_law places n (queue_in q) (omega (arith, count_is places d q s)) (omega (arith, s.waiting))

-- HANDING OVER

items_in_lem : (l : List Slot) → items_in (map kind l) (map byte l) ≡ items_of l
items_in_lem [] = refl
items_in_lem (x ∷ l) = ap₂ (λ (i : Item) (m : List Item). i ∷ m) (item_in_lem x.item) (items_in_lem l)

ones_flags : (l : List Slot) → ones (map flag l) ≡ overruns l
ones_flags [] = refl
ones_flags (x ∷ l) = sum_by-cons _ (flag x) (map flag l) ∙ go x.over (ones_flags l)
  where
    go : (o : Bool) {n m : ℕ} → n ≡ m → cond (eqb (if o then 1 else 0) 1) 1 0 + n ≡ (if o then suc m else m)
    go true e = omega (arith, e)
    go false e = omega (arith, e)

map-take : (f : Slot → ℕ) (n : ℕ) (l : List Slot) → take n (map f l) ≡ map f (take n l)
map-take f zero l = refl
map-take f (suc n) [] = refl
map-take f (suc n) (x ∷ l) = ap (λ (t : List ℕ). f x ∷ t) (map-take f n l)

-- the front of an array that holds a part of each item
front : (f : Slot → ℕ) (places n : ℕ) (l : List Slot) → take (min n (length l)) (padded places (map f l)) ≡ map f (take n l)
front f places n l =
    let h : min n (length l) ≤ length (map f l) = rw length-map (omega arith) in
    rw (take-append-le (min n (length l)) (map f l) (replicate (places - length (map f l)) 0) h, map-take, take_min)

-- k of n leave a sound record
module _ (places d n : ℕ) (q : Queue) (s : SoundIn places d q) (k : ℕ) (e : k ≡ min n q.count) where
  count_min : k ≡ min n (length (queue_in q).slots)
  count_min = e ∙ ap (min n) (count_is places d q s)

  pub characters : k ≡ length (oldest n (queue_in q))
  characters = count_min ∙ sym (length-take n (queue_in q).slots)

  pub flagged_count : ones (take k q.flags) ≡ overruns (oldest n (queue_in q))
  unfolding queue_of
  flagged_count =
      ap (λ (x : Queue). ones (take k x.flags)) s.is
      ∙ rw count_min (ap ones (front flag places n (queue_in q).slots) ∙ ones_flags (take n (queue_in q).slots))

  pub items_out : items_in (take k q.kinds) (take k q.bytes) ≡ items_of (oldest n (queue_in q))
  unfolding queue_of
  items_out =
      ap (λ (x : Queue). items_in (take k x.kinds) (take k x.bytes)) s.is
      ∙ rw (count_min, front kind places n (queue_in q).slots, front byte places n (queue_in q).slots) (items_in_lem (take n (queue_in q).slots))

  pub left : removed k (queue_in q) ≡ removed n (queue_in q)
  left = rw count_min (ap (λ (l : List Slot). record { slots = l; losses = (queue_in q).losses }) (drop_min n (queue_in q).slots))
