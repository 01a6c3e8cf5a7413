-- The record of a card holds it; a sound card's channels are sound; and a call that gives the paper's step keeps its whole promise.
use mathlib.Core.Bool.{Bool, true, false}
use mathlib.Core.List.{List, [], ◌∷◌, map}
use mathlib.Core.Option.{Option, none, some}
use mathlib.Core.Path.{◌≡◌, refl, ap, ap₂, sym, ◌∙◌}
use Prim.Native.Nat.{ℕ, zero, suc, ◌+◌, ◌%◌, ◌≤◌, ◌<◌}
use native.Mathlib.Omega.{arith}
use lib.Dec.{leb, lit≤}
use lib.ListN
use lib.ListN.{length, get_or, set, length-map}
use borrow.Author.Tests.{lt-ltb, le-ltb}
use Rattle.std.specs.Prelude as code
use Rattle.std.specs.Prelude.{Some, None, if◌then◌else◌}
use Rattle.paper.specs.Settings.{Size}
use Rattle.paper.specs.Given.{Given, refused}
use Rattle.paper.specs.Channel.{ChannelCall, lent, fresh}
use Rattle.paper.specs.Asked.{call_with}
use Rattle.paper.specs.declared.Asked.{Asked}
use Rattle.paper.specs.Card as model
use Rattle.paper.specs.Card.{Call, on, pick, at, put, round, ready, first_ready, picked_as, picked, step, fresh_card}
use Rattle.paper.specs.Bounds as bounds
use Rattle.paper.specs.declared.Refusal.TheVariants.{BadChannel}
use Rattle.paper.specs.declared.Answer.TheVariants.{Refused, Picked, NoneReady}
use Rattle.demands.proofs.Cases.{ahead}
use Rattle.demands.proofs.Bounds.{kept, fresh_card_lem}
use Rattle.channel.specs.declared.Channel.{Channel}
use Rattle.channel.specs.Held.{channel_of, channel_in}
use Rattle.channel.specs.Held as channel
use Rattle.channel.specs.Promise as channel-promise
use Rattle.channel.proofs.Laws.{channel_in_lem, lent_and_unlent}
use Rattle.picking.specs.Look.{found}
use Rattle.card.specs.declared.Card.{Card}
use Rattle.paper.specs.declared.Answered.{Answered}
use Rattle.card.specs.Held.{size_of, card_of, card_in, Sound}
use Rattle.card.specs.Promise.{given, answered, Promise, AskedPromise, as_option, next_ready}

channels_in : (z : Size) (l : List _) → map channel_in (map (channel_of z) l) ≡ l
channels_in z [] = refl
channels_in z (h ∷ l) = ap₂ (λ (x : _) (m : List _). x ∷ m) (channel_in_lem z h) (channels_in z l)

pub card_in_lem : (z : Size) (K : model.Card Unit) → card_in (card_of z K) ≡ K
unfolding card_in card_of
card_in_lem z K = rw channels_in

-- the record of what a call leaves has the size of the record that it was called on
size_kept : (C : Card) (K : model.Card Unit) → size_of (card_of (size_of C) K) ≡ size_of C
size_kept C K = refl

pub sound_of : (z : Size) (K : model.Card Unit) → size_of (card_of z K) ≡ z → bounds.Sound z K → Sound (card_of z K)
sound_of z K e s = record { is = rw (e, card_in_lem); bounds = rw (e, card_in_lem) s }

pub fresh_sound : (z : Size) → size_of (card_of z fresh_card) ≡ z → 1 ≤ z.most → Sound (card_of z fresh_card)
fresh_sound z e most = sound_of z fresh_card e (fresh_card_lem z most)

-- an element, whatever would stand past the list's end
get_or-inside : {A : Type 0} (l : List A) (i : ℕ) (d e : A) → i < length l → get_or l i d ≡ get_or l i e
get_or-inside [] i d e h = absurd (omega arith)
get_or-inside (x ∷ l) zero d e h = refl
get_or-inside (x ∷ l) (suc i) d e h = get_or-inside l i d e (omega arith)

get_or_map : {A B : Type 0} (f : A → B) (l : List A) (i : ℕ) (d : A) (e : B) → i < length l → get_or (map f l) i e ≡ f (get_or l i d)
get_or_map f l i d e h = get_or-inside (map f l) i e (f d) (rw length-map h) ∙ ListN.get_or-map f l i d

map-set : {A B : Type 0} (f : A → B) (l : List A) (i : ℕ) (a : A) → map f (set l i a) ≡ set (map f l) i (f a)
map-set f [] i a = refl
map-set f (x ∷ l) zero a = refl
map-set f (x ∷ l) (suc i) a = ap (λ (m : List _). f x ∷ m) (map-set f l i a)

-- whether the channel n of a card's record is ready; d is what would stand past the list's end
abbrev mark : Channel → Card → ℕ → Bool
mark d C n = channel-promise.at_threshold (get_or C.channels n d)

abbrev marks : Channel → Card → List Bool
marks d C = mark d C 0 ∷ mark d C 1 ∷ mark d C 2 ∷ mark d C 3 ∷ []

-- a search of marks finds the channel that the paper does
searched : (K : model.Card Unit) (marks : List Bool) → ((n : ℕ) → n < 4 → get_or marks n false ≡ ready K n)
    → (p k count : ℕ) → found marks (ahead p k count) ≡ as_option (first_ready K (ahead p k count))
unfolding found
searched K marks same p k zero = refl
searched K marks same p k (suc m) =
    let n = (p + suc k) % 4 in
    rw (same n (omega arith)) (go (ready K n) n (first_ready K (ahead p (suc k) m)) (searched K marks same p (suc k) m))
  where
    go : (t : Bool) (n : ℕ) {l : code.Option ℕ} (o : Option ℕ) → l ≡ as_option o → (if t then Some n else l) ≡ as_option (if t then some n else o)
    go true n o e = refl
    go false n o e = e

is_named : (o : Option ℕ) (n : ℕ) → as_option o ≡ Some n → o ≡ some n
is_named (some m) n e = let same : m ≡ n = cc in ap some same
is_named none n e = absurd (let different : ◌≡◌ {A = ℕ} 0 1 = cc in omega arith)

is_nobody : (o : Option ℕ) → as_option o ≡ None → o ≡ none
is_nobody none e = refl
is_nobody (some m) e = absurd (let different : ◌≡◌ {A = ℕ} 0 1 = cc in omega arith)

module _ (C : Card) (s : Sound C) where
  pub four : length C.channels ≡ 4
  unfolding card_in
  four = sym (length-map C.channels channel_in) ∙ s.bounds.four

  pub place_small : C.place < 4
  unfolding card_in
  place_small = s.bounds.place

  channels_of : C.channels ≡ map (channel_of (size_of C)) (map channel_in C.channels)
  unfolding card_in card_of
  channels_of = ap (λ (x : Card). x.channels) s.is

  module _ (n : ℕ) (d : Channel) (small : n < 4) where
    inside : n < length C.channels
    inside = rw four small

    pub at_channel : at (card_in C) n ≡ channel_in (get_or C.channels n d)
    unfolding card_in
    at_channel = get_or_map channel_in C.channels n d fresh inside

    pub channel_sound : channel.Sound (get_or C.channels n d)
    unfolding card_in
    channel_sound =
        record {
          is = ap (λ (l : List Channel). get_or l n d) channels_of ∙ get_or_map (channel_of (size_of C)) (map channel_in C.channels) n fresh d
              (rw length-map inside)
              ∙ ap (channel_of (size_of C)) at_channel;
          bounds = rw (← at_channel) (s.bounds.each n small);
        }

  -- THE SEARCH OF A PICK, over the marks of the record's four channels

  -- whether the channel's record says that it is ready
  ready_is : (n : ℕ) (d : Channel) → n < 4 → channel-promise.at_threshold (get_or C.channels n d) ≡ ready (card_in C) n
  unfolding channel-promise.at_threshold
  ready_is n d small = sym (ap (λ h. leb h.settings.threshold (length h.queue.slots)) (at_channel n d small))

  mark_is : (d : Channel) (n : ℕ) → n < 4 → get_or (marks d C) n false ≡ ready (card_in C) n
  mark_is d zero small = ready_is zero d small
  mark_is d (suc zero) small = ready_is 1 d small
  mark_is d (suc (suc zero)) small = ready_is 2 d small
  mark_is d (suc (suc (suc zero))) small = ready_is 3 d small
  mark_is d (suc (suc (suc (suc n)))) small = absurd (omega arith)

  -- marks that were asked one by one
  pub looked : (d : Channel) {r₀ r₁ r₂ r₃ : Bool} {n : code.Option ℕ} → r₀ ≡ mark d C 0 → r₁ ≡ mark d C 1 → r₂ ≡ mark d C 2 → r₃ ≡ mark d C 3
      → n ≡ found (r₀ ∷ r₁ ∷ r₂ ∷ r₃ ∷ []) (round C.place) → n ≡ next_ready C
  unfolding next_ready
  looked d e₀ e₁ e₂ e₃ e = (rw (e₀, e₁, e₂, e₃) at e) ∙ searched (card_in C) (marks d C) (mark_is d) C.place 0 4

  most_at_least_one : 1 ≤ (size_of C).most
  most_at_least_one = lit≤ tt

  -- what the step gives is its answer, its record and its bytes; that the record is sound follows
  pub promised : (call : Call) (g : Given (model.Card Unit)) → given C call ≡ g → (r : Answered Card) → r ≡ answered C g
      → Promise C call r g.lent
  unfolding answered given
  promised call g e r k =
      record {
        gives = rw e k;
        leaves = rw e;
        says = rw (k, e);
        sound = rw (k, ← e) (sound_of (size_of C) (given C call).next (size_kept C (given C call).next) (kept (size_of C) most_at_least_one tt (card_in C) call s.bounds));
      }

  -- "1: channel above 3", and "a refusal changes nothing"
  pub refuses : (n : ℕ) (call : ChannelCall) → 3 < n → Promise C (on n call) (record { answer = Refused BadChannel; next = C }) (lent call)
  unfolding answered given step
  refuses n call above =
      promised (on n call) (refused BadChannel (card_in C) (lent call)) (rw (lt-ltb 3 n above)) _
      (ap (λ (x : Card). record { answer = Refused BadChannel; next = x }) s.is)

  -- a channel's call on a card
  pub serves : (n : ℕ) (d : Channel) (call : ChannelCall) (r : Answered Channel) (l : List ℕ) → n ≤ 3
      → channel-promise.Promise (get_or C.channels n d) call r l
      → Promise C (on n call) (record {
        answer = r.answer;
        next = record {
          channels = set C.channels n r.next;
          place = C.place;
        };
      }) l
  unfolding answered given step card_of card_in channel-promise.answered channel-promise.given
  serves n d call r l small p =
      let x = get_or C.channels n d in
      let g = channel-promise.given x call in
      let e : given C (on n call) ≡ put (card_in C) n g = rw (le-ltb 3 n small, at_channel n d (omega arith)) in
      let k : set C.channels n (channel_of (size_of C) g.next) ≡ map (channel_of (size_of C)) (set (map channel_in C.channels) n g.next) =
      ap (λ (m : List Channel). set m n (channel_of (size_of C) g.next)) channels_of ∙ sym
      (map-set (channel_of (size_of C)) (map channel_in C.channels) n g.next) in
      rw p.leaves (promised (on n call) (put (card_in C) n g) e _
      (rw p.gives (ap (λ (m : List Channel). record { answer = g.answer; next = record { channels = m; place = C.place } }) k)))

  -- by what is asked of it
  pub calls : (n : ℕ) (d : Channel) (asked : Asked) (bytes : List ℕ) (place : ℕ) (r : Answered Channel) (after : List ℕ) → n ≤ 3
      → channel-promise.AskedPromise (get_or C.channels n d) asked bytes place r after
      → AskedPromise C n asked bytes place (record { answer = r.answer; next = record { channels = set C.channels n r.next; place = C.place } }) after
  calls n d asked bytes place r after small p =
      record { lent = p.lent; kept = serves n d (call_with asked bytes place) r p.lent small p.kept; at_hand = p.at_hand }

  pub refuses_asked : (n : ℕ) (asked : Asked) (bytes : List ℕ) (place : ℕ) → 3 < n
      → AskedPromise C n asked bytes place (record { answer = Refused BadChannel; next = C }) bytes
  refuses_asked n asked bytes place above =
      let call = call_with asked bytes place in
      record { lent = lent call; kept = refuses n call above; at_hand = sym (lent_and_unlent asked bytes place) }

  -- THE PICK

  pub picks : (n : ℕ) → next_ready C ≡ Some n
      → Promise C pick (record { answer = Picked n; next = record { channels = C.channels; place = n } }) []
  unfolding answered given step picked card_of card_in next_ready
  picks n e =
      promised pick (picked_as (card_in C) (some n)) (ap (picked_as (card_in C)) (is_named _ n e)) _
      (ap (λ (l : List Channel). record { answer = Picked n; next = record { channels = l; place = n } }) channels_of)

  pub picks_none : next_ready C ≡ None → Promise C pick (record { answer = NoneReady; next = C }) []
  unfolding answered given step picked card_in next_ready
  picks_none e =
      promised pick (picked_as (card_in C) none) (ap (picked_as (card_in C)) (is_nobody _ e)) _
      (ap (λ (x : Card). record { answer = NoneReady; next = x }) s.is)
