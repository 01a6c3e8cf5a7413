-- No rule looks at a name: with other names the calls give the same answers and the same lent bytes, and what waits is renamed.
use mathlib.Core.Path.{◌≡◌, refl, sym, ap, ap₂}
use mathlib.Core.Bool.{Bool, true, false}
use mathlib.Core.List.{List, [], ◌∷◌, map, map-append}
use mathlib.Core.Option.{Option, none, some}
use Prim.Native.Nat.{ℕ, zero, suc, min}
use lib.Dec.{ltb}
use lib.ListN.{length, take, drop, get_or, set, length-map}
use Rattle.std.specs.Prelude.{if◌then◌else◌, Result, Ok, Err}
use Rattle.paper.specs.Given.{Given, given, refused}
use Rattle.paper.specs.Settings.{Size, bad_field}
use Rattle.paper.specs.Arrival
use Rattle.paper.specs.Queue.{Slot, Queue, Placed, flag_newest, place_item, place, items_of, overruns}
use Rattle.paper.specs.Channel.{Channel, fresh, ChannelCall, arrive, read, take_settings, reset, state, transmit, lent, no_room, arrived, handed_over, settings_taken, channel_step}
use Rattle.paper.specs.Card.{Card, fresh_card, Call, on, pick, at, ready, round, first_ready, picked_as, picked, put, step}
use Rattle.paper.specs.Run.{Named, run, Seen, seen, nameless}
use Rattle.paper.specs.declared.Item.{Item}
use Rattle.paper.specs.declared.Outcome.{Outcome}
use Rattle.paper.specs.declared.Fate.TheVariants.{Stored, Lost}
use Rattle.paper.specs.declared.Refusal.TheVariants.{BadChannel, BadKind, TooMany, NoRoom}
use Rattle.paper.specs.declared.Answer.TheVariants.{Fated}
use Rattle.paper.specs.declared.Why.{Why}
use Rattle.demands.specs.Demands.{NamesUnseen}

-- LISTS

module _ {A B : Type 0} (f : A → B) where
  map-take : (n : ℕ) (l : List A) → map f (take n l) ≡ take n (map f l)
  map-take zero l = refl
  map-take (suc n) [] = refl
  map-take (suc n) (x ∷ l) = ap (λ (r : List B). f x ∷ r) (map-take n l)

  map-drop : (n : ℕ) (l : List A) → map f (drop n l) ≡ drop n (map f l)
  map-drop zero l = refl
  map-drop (suc n) [] = refl
  map-drop (suc n) (x ∷ l) = map-drop n l

  map-get_or : (l : List A) (n : ℕ) (d : A) → get_or (map f l) n (f d) ≡ f (get_or l n d)
  map-get_or [] n d = refl
  map-get_or (x ∷ l) zero d = refl
  map-get_or (x ∷ l) (suc n) d = map-get_or l n d

  map-set : (l : List A) (n : ℕ) (a : A) → set (map f l) n (f a) ≡ map f (set l n a)
  map-set [] n a = refl
  map-set (x ∷ l) zero a = refl
  map-set (x ∷ l) (suc n) a = ap (λ (r : List B). f x ∷ r) (map-set l n a)

-- RENAMING

module _ {A B : Type 0} (f : A → B) where
  abbrev re_slot : Slot A → Slot B
  re_slot x = record { item = x.item; over = x.over; name = f x.name }

  abbrev re_queue : Queue A → Queue B
  re_queue q = record { slots = map re_slot q.slots; losses = q.losses }

  abbrev re_placed : Placed A → Placed B
  re_placed p = record { fate = p.fate; queue = re_queue p.queue }

  abbrev re_channel : Channel A → Channel B
  re_channel h = record { settings = h.settings; flags = h.flags; queue = re_queue h.queue; transmitter = h.transmitter }

  abbrev re_card : Card A → Card B
  re_card K = record { channels = map re_channel K.channels; place = K.place }

  abbrev re_given : Given (Channel A) → Given (Channel B)
  re_given g = given g.answer (re_channel g.next) g.lent

  abbrev re_given_card : Given (Card A) → Given (Card B)
  re_given_card g = given g.answer (re_card g.next) g.lent

  -- THE QUEUE

  re_flag : (l : List (Slot A)) → flag_newest (map re_slot l) ≡ map re_slot (flag_newest l)
  re_flag [] = refl
  re_flag (x ∷ []) = refl
  re_flag (x ∷ y ∷ l) = ap (λ (r : List (Slot B)). re_slot x ∷ r) (re_flag (y ∷ l))

  re_place : (d : ℕ) (a : A) (r : Result Item Why) (q : Queue A) → place d (f a) r (re_queue q) ≡ re_placed (place d a r q)
  re_place d a (Err w) q = refl
  re_place d a (Ok i) q = rw length-map (go (ltb (length q.slots) d))
    where
      go : (room : Bool) → place_item room i (f a) (re_queue q) ≡ re_placed (place_item room i a q)
      go true = ap (λ (l : List (Slot B)). record { fate = Stored; queue = record { slots = l; losses = q.losses } }) (sym (map-append re_slot q.slots _))
      go false = ap (λ (l : List (Slot B)). record { fate = Lost; queue = record { slots = l; losses = min (suc q.losses) 65535 } }) (re_flag q.slots)

  re_items : (l : List (Slot A)) → items_of (map re_slot l) ≡ items_of l
  re_items [] = refl
  re_items (x ∷ l) = ap (λ (r : List Item). x.item ∷ r) (re_items l)

  re_overruns : (l : List (Slot A)) → overruns (map re_slot l) ≡ overruns l
  re_overruns [] = refl
  re_overruns (x ∷ l) = ap (λ (n : ℕ). if x.over then suc n else n) (re_overruns l)

  -- ONE CALL

  module _ (z : Size) (a : A) where
    re_arrived : (h : Channel A) (o : Outcome) → arrived z (f a) (re_channel h) o ≡ re_given (arrived z a h o)
    re_arrived h o =
        ap (λ (p : Placed B). given (Fated p.fate) (record { settings = h.settings; flags = o.flags; queue = p.queue; transmitter = h.transmitter }) [])
        (re_place z.depth a o.ruling h.queue)

    re_handed : (h : Channel A) (n at : ℕ) (buffer : List ℕ) → handed_over (re_channel h) n at buffer ≡ re_given (handed_over h n at buffer)
    re_handed h n at buffer =
        let waits = h.queue.slots in
        let e = sym (map-take re_slot n waits) in
        rw (e, length-map, re_overruns, re_items, ← map-drop re_slot n waits)

    re_settings : (h : Channel A) (l : List ℕ) (o : Option ℕ) → settings_taken (re_channel h) l o ≡ re_given (settings_taken h l o)
    re_settings h l none = refl
    re_settings h l (some field) = refl

    re_channel_step : (h : Channel A) (c : ChannelCall) → channel_step z (f a) (re_channel h) c ≡ re_given (channel_step z a h c)
    unfolding channel_step
    re_channel_step h (arrive kind b) = go (ltb 3 kind)
      where
        o : Outcome
        o = Arrival.arrival h.settings h.flags kind b

        go : (t : Bool) → (if t then refused BadKind (re_channel h) [] else arrived z (f a) (re_channel h) o)
            ≡ re_given (if t then refused BadKind h [] else arrived z a h o)
        go true = refl
        go false = re_arrived h o
    re_channel_step h (read n at buffer) = go (ltb z.most n) (no_room n at buffer)
      where
        go : (t u : Bool)
            → (if t then refused TooMany (re_channel h) buffer else if u then refused NoRoom (re_channel h) buffer else handed_over (re_channel h) n at buffer)
            ≡ re_given (if t then refused TooMany h buffer else if u then refused NoRoom h buffer else handed_over h n at buffer)
        go true u = refl
        go false true = refl
        go false false = re_handed h n at buffer
    re_channel_step h (take_settings l) = re_settings h l (bad_field z.most l)
    re_channel_step h reset = refl
    re_channel_step h state = rw length-map
    re_channel_step h (transmit c) = refl

    re_at : (K : Card A) (n : ℕ) → at (re_card K) n ≡ re_channel (at K n)
    re_at K n = map-get_or re_channel K.channels n fresh

    re_ready : (K : Card A) (n : ℕ) → ready (re_card K) n ≡ ready K n
    re_ready K n = rw (re_at K n, length-map)

    re_first_ready : (K : Card A) (ns : List ℕ) → first_ready (re_card K) ns ≡ first_ready K ns
    re_first_ready K [] = refl
    re_first_ready K (n ∷ ns) = ap₂ (λ (t : Bool) (o : Option ℕ). if t then some n else o) (re_ready K n) (re_first_ready K ns)

    re_picked : (K : Card A) (o : Option ℕ) → picked_as (re_card K) o ≡ re_given_card (picked_as K o)
    re_picked K none = refl
    re_picked K (some n) = refl

    re_put : (K : Card A) (n : ℕ) (g : Given (Channel A)) → put (re_card K) n (re_given g) ≡ re_given_card (put K n g)
    re_put K n g = ap (λ (l : List (Channel B)). given g.answer (record { channels = l; place = K.place }) g.lent) (map-set re_channel K.channels n g.next)

    re_step : (K : Card A) (c : Call) → step z (f a) (re_card K) c ≡ re_given_card (step z a K c)
    unfolding step picked
    re_step K (on n c) = go (ltb 3 n)
      where
        go : (t : Bool)
            → (if t then refused BadChannel (re_card K) (lent c) else put (re_card K) n (channel_step z (f a) (at (re_card K) n) c))
            ≡ re_given_card (if t then refused BadChannel K (lent c) else put K n (channel_step z a (at K n) c))
        go true = refl
        go false = rw (re_at K n, re_channel_step (at K n) c) (re_put K n (channel_step z a (at K n) c))
    re_step K pick = rw (re_first_ready K (round K.place)) (re_picked K (first_ready K (round K.place)))

-- THE RUN with no names

abbrev forget : {A : Type 0} → A → Unit {0}
forget a = tt

module _ {A : Type 0} (z : Size) where
  nameless_run : (cs : List (Named A Call)) (K : Card A)
      → map seen (run z K cs) ≡ map seen (run z (re_card forget K) (nameless (map (λ (c : Named A Call). c.call) cs)))
  nameless_run [] K = refl
  nameless_run (c ∷ cs) K = go _ (re_step forget z c.name K c.call) (nameless_run cs)
    where
      g : Given (Card A)
      g = step z c.name K c.call

      rest : List (Named Unit Call)
      rest = nameless (map (λ (c : Named A Call). c.call) cs)

      go : (g' : Given (Card Unit)) → g' ≡ re_given_card forget g
          → ((K : Card A) → map seen (run z K cs) ≡ map seen (run z (re_card forget K) rest))
          → record { answer = g.answer; lent = g.lent } ∷ map seen (run z g.next cs)
          ≡ record { answer = g'.answer; lent = g'.lent } ∷ map seen (run z g'.next rest)
      go g' e ih = rw e (ap (λ (l : List Seen). record { answer = g.answer; lent = g.lent } ∷ l) (ih g.next))

pub names_unseen : NamesUnseen
names_unseen A z cs = nameless_run z cs fresh_card
