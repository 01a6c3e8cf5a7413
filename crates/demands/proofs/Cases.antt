-- What a call can come to, said once: a law about calls is shown of each of these.
use mathlib.Core.Path.{◌≡◌, refl}
use mathlib.Core.Bool.{Bool, true, false, ◌&&◌, ◌||◌}
use mathlib.Core.List.{List, [], ◌∷◌}
use mathlib.Core.Option.{Option, none, some}
use Prim.Native.Nat.{ℕ, zero, suc, ◌+◌, ◌*◌, ◌%◌, ◌≤◌, ◌<◌}
use native.Mathlib.Omega.{arith}
use native.Mathlib.Nat.{le_refl}
use lib.Dec.{eqb, ltb}
use lib.ListN.{length}
use borrow.Author.Tests.{ltb-true, ltb-false}
use Rattle.paper.specs.Given.{Given, given, refused}
use Rattle.paper.specs.Settings.{Size, bad_field}
use Rattle.paper.specs.Arrival
use Rattle.paper.specs.Arrival.{CR, NL}
use Rattle.paper.specs.Transmitter.{Transmitter, TransmitCall, load, turn, set_cts, ask_special, transmit_lent, loaded, send_next, held, turned, special_taken, transmit_step}
use Rattle.paper.specs.Channel.{Channel, fresh, with_transmitter, ChannelCall, arrive, read, take_settings, reset, state, transmit, lent, no_room, arrived, handed_over, settings_taken, shown, channel_step}
use Rattle.paper.specs.Card.{Card, on, pick, step, at, ready, first_ready, put, picked_as, picked}
use Rattle.paper.specs.declared.Settings.{Settings}
use Rattle.paper.specs.declared.Flags.{Flags}
use Rattle.paper.specs.declared.Refusal.{Refusal}
use Rattle.paper.specs.declared.Refusal.TheVariants.{BadChannel, BadKind, TooMany, NoRoom, BadField, BadSpecial, SpecialWaits, BadCts}
use Rattle.paper.specs.declared.Answer.{Answer}
use Rattle.paper.specs.declared.Answer.TheVariants.{Silent, Sent, Done, Picked, NoneReady}
use Rattle.demands.specs.History.{nothing_said, report, request, arrivals}
use Rattle.demands.proofs.Choices.{chosen, chosen_or, either}

-- CALLS ON THE TRANSMITTER

-- one that is served and queues no byte
pub record Other (t : Transmitter) (c : TransmitCall) (g : Given Transmitter) : Type 0 where
  pub calm : report g.answer ≡ nothing_said
  pub short : length g.next.bytes ≤ length t.bytes
  pub same : g.lent ≡ transmit_lent c

-- a call on the transmitter is refused, or a load, or one of those
pub data TransmitDeed (t : Transmitter) : TransmitCall → Given Transmitter → Type 0 where
  declined : {c : TransmitCall} (r : Refusal) → TransmitDeed t c (refused r t (transmit_lent c))
  loading : (l : List ℕ) → TransmitDeed t (load l) (loaded t l)
  other : {c : TransmitCall} {g : Given Transmitter} → Other t c g → TransmitDeed t c g

module _ (s : Settings) (f : Flags) (t : Transmitter) where
  gives : {c : TransmitCall} (a : Answer) (next : Transmitter) → report a ≡ nothing_said → length next.bytes ≤ length t.bytes
      → Other t c (given a next (transmit_lent c))
  gives a next e l = record { calm = e; short = l; same = refl }

  sent : (b : ℕ) (next : Transmitter) → length next.bytes ≤ length t.bytes → Other t turn (given (Sent b) next [])
  sent b next l = gives (Sent b) next refl l

  silent : Other t turn (given Silent t [])
  silent = gives Silent t refl (omega arith)

  next_other : (owed : Bool) (queue : List ℕ) → length queue ≤ length t.bytes → Other t turn (send_next s t owed queue)
  next_other true queue h = sent NL _ (le_refl (length t.bytes))
  next_other false [] h = silent
  next_other false (b ∷ rest) h =
      let l : length rest ≤ length t.bytes = omega arith in
      either (Other t turn) (eqb s.expand 1 && eqb b NL) (sent CR _ l) (sent b _ l)

  pub turn_other : (waiting : Option ℕ) → Other t turn (turned s f t waiting)
  turn_other (some b) = sent b _ (le_refl (length t.bytes))
  turn_other none = either (Other t turn) (held s f t) silent (next_other t.owed t.bytes (le_refl (length t.bytes)))

  settled : {c : TransmitCall} (next : Transmitter) → next.bytes ≡ t.bytes → TransmitDeed t c (given Done next (transmit_lent c))
  settled next e = other (gives Done next refl (rw e (le_refl (length t.bytes))))

  special_deed : (n : ℕ) (waiting : Option ℕ) → TransmitDeed t (ask_special n) (special_taken s t n waiting)
  special_deed n (some b) = declined SpecialWaits
  special_deed n none = settled _ refl

  pub transmit_deed : (c : TransmitCall) → TransmitDeed t c (transmit_step s f t c)
  unfolding transmit_step
  transmit_deed (load l) = loading l
  transmit_deed turn = other (turn_other t.special)
  transmit_deed (set_cts v) = either (TransmitDeed t (set_cts v)) (ltb 1 v) (declined BadCts) (settled _ refl)
  transmit_deed (ask_special n) = either (TransmitDeed t (ask_special n)) (ltb n 1 || ltb 4 n) (declined BadSpecial) (special_deed n t.special)

-- CALLS ON A CHANNEL

pub data Deed {A : Type 0} (z : Size) (a : A) (h : Channel A) : ChannelCall → Given (Channel A) → Type 0 where
  refusal : {c : ChannelCall} (r : Refusal) → arrivals c ≡ 0 → (request h c).reset ≡ false → Deed z a h c (refused r h (lent c))
  arrival : (kind b : ℕ) → ltb 3 kind ≡ false → Deed z a h (arrive kind b) (arrived z a h (Arrival.arrival h.settings h.flags kind b))
  reading : (n place : ℕ) (buffer : List ℕ) → place ≤ length buffer → Deed z a h (read n place buffer) (handed_over h n place buffer)
  change : (l : List ℕ) → bad_field z.most l ≡ none → Deed z a h (take_settings l) (settings_taken h l none)
  renewal : Deed z a h reset (given Done fresh [])
  showing : Deed z a h state (given (shown z.most h) h [])
  sending : {c : TransmitCall} {g : Given Transmitter} → TransmitDeed h.transmitter c g
      → Deed z a h (transmit c) (given g.answer (with_transmitter g.next h) g.lent)

module _ {A : Type 0} (z : Size) (a : A) (h : Channel A) where
  deed_read : (n place : ℕ) (buffer : List ℕ) → Deed z a h (read n place buffer) (channel_step z a h (read n place buffer))
  unfolding channel_step no_room
  deed_read n place buffer =
      let P = Deed z a h (read n place buffer) in
      either P (ltb z.most n) (refusal TooMany refl refl)
      (chosen_or P (ltb (length buffer) place) (ltb (length buffer) (place + 3 * n)) (λ _. refusal NoRoom refl refl) (λ _. refusal NoRoom refl refl)
      (λ e _. reading n place buffer (ltb-false _ _ e)))

  deed_settings : (l : List ℕ) (o : Option ℕ) → bad_field z.most l ≡ o → Deed z a h (take_settings l) (settings_taken h l o)
  deed_settings l (some field) e = refusal (BadField field) refl refl
  deed_settings l none e = change l e

  pub deed : (c : ChannelCall) → Deed z a h c (channel_step z a h c)
  unfolding channel_step
  deed (arrive kind b) = chosen (Deed z a h (arrive kind b)) (ltb 3 kind) (λ e. refusal BadKind (rw e) refl) (arrival kind b)
  deed (read n place buffer) = deed_read n place buffer
  deed (take_settings l) = deed_settings l (bad_field z.most l) refl
  deed reset = renewal
  deed state = showing
  deed (transmit c) = sending (transmit_deed h.settings h.flags h.transmitter c)

-- CALLS ON A CARD

module _ {ℓ} {A : Type 0} (z : Size) (a : A) (K : Card A) (P : Given (Card A) → Type ℓ) where
  pub by_number : (n : ℕ) (c : ChannelCall) → (3 < n → P (refused BadChannel K (lent c)))
      → (n ≤ 3 → P (put K n (channel_step z a (at K n) c))) → P (step z a K (on n c))
  unfolding step
  by_number n c above served = chosen P (ltb 3 n) (λ e. above (ltb-true 3 n e)) (λ e. served (ltb-false 3 n e))

-- the next places a pick looks at, where it has looked at k of them: `round p` is `ahead p 0 4`
abbrev pub ahead : (p k count : ℕ) → List ℕ
ahead p k zero = []
ahead p k (suc m) = (p + suc k) % 4 ∷ ahead p (suc k) m

by_ahead {ℓ} : {A : Type 0} (K : Card A) (P : Option ℕ → Type ℓ) → P none → ((n : ℕ) → n < 4 → P (some n))
    → (p k count : ℕ) → P (first_ready K (ahead p k count))
by_ahead K P nobody named p k zero = nobody
by_ahead K P nobody named p k (suc m) =
    let n = (p + suc k) % 4 in
    chosen P (ready K n) (λ e. named n (omega arith)) (λ e. by_ahead K P nobody named p (suc k) m)

module _ {ℓ} {A : Type 0} (z : Size) (a : A) (K : Card A) (P : Given (Card A) → Type ℓ) where
  pub by_pick : P (given NoneReady K []) → ((n : ℕ) → n < 4 → P (given (Picked n) (record { channels = K.channels; place = n }) []))
      → P (step z a K pick)
  unfolding step picked
  by_pick nobody named = by_ahead K (λ o. P (picked_as K o)) nobody named K.place 0 4
