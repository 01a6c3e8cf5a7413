-- The bounds that a promise may ask hold of a fresh card, and every call keeps them.
use mathlib.Core.Path.{◌≡◌, refl}
use mathlib.Core.Bool.{Bool, true, false}
use mathlib.Core.List.{List, [], ◌∷◌}
use mathlib.Core.Option.{Option, none, some-ne-none}
use Prim.Native.Nat.{ℕ, ◌≤◌, ◌<◌}
use native.Mathlib.Omega.{arith}
use lib.Dec.{eqb}
use lib.ListN.{length, length-append, length-take, length-drop, length-set, get_or-replicate}
use lib.Seq.{get_or-set_same, get_or-set_other}
use borrow.Author.Tests.{le-ltb, eqb-true, eqb-false}
use Rattle.paper.specs.Settings.{Size, settings_of, fresh_settings, tests, first_bad, bad_field}
use Rattle.paper.specs.Transmitter.{Transmitter, TransmitCall, transmit_depth, loaded}
use Rattle.paper.specs.Given.{Given}
use Rattle.paper.specs.Arrival
use Rattle.paper.specs.Channel.{Channel, fresh, ChannelCall, channel_step}
use Rattle.paper.specs.Card.{Card, fresh_card, Call, on, pick, step, at, with}
use Rattle.paper.specs.Run.{Named, end}
use Rattle.paper.specs.Bounds.{SoundChannel, Sound}
use Rattle.demands.specs.Demands.{Bounds}
use Rattle.demands.proofs.Choices.{chosen}
use Rattle.demands.proofs.Cases.{TransmitDeed, declined, loading, other, Deed, refusal, arrival, reading, change, renewal, showing, sending, deed, by_number, by_pick}
use Rattle.demands.proofs.Placing.{placed_fits}

-- "a transmit queue of 12 bytes": load takes what there is room for, and nothing else queues a byte
transmit_kept : {t : Transmitter} {c : TransmitCall} {g : Given Transmitter} → TransmitDeed t c g
    → length t.bytes ≤ transmit_depth → length g.next.bytes ≤ transmit_depth
unfolding loaded
transmit_kept (declined r) h = h
transmit_kept (loading l) h = simp (length-append, length-take) (omega arith)
transmit_kept (other o) h = omega (arith, o.short)

fresh_settings_lem : (most : ℕ) → 1 ≤ most → first_bad (tests most fresh_settings) ≡ none
fresh_settings_lem most h = rw (le-ltb most 1 h)

taken_settings : (most : ℕ) (l : List ℕ) → bad_field most l ≡ none → first_bad (tests most (settings_of l)) ≡ none
unfolding bad_field
taken_settings most l =
    chosen (λ (o : Option ℕ). o ≡ none → first_bad (tests most (settings_of l)) ≡ none) (eqb (length l) 15)
    (λ long e. e) (λ short e. absurd (some-ne-none 0 e))

module _ {A : Type 0} (z : Size) (one : 1 ≤ z.most) where
  pub fresh_channel : SoundChannel {A = A} z fresh
  fresh_channel = record { settings = fresh_settings_lem z.most one; waiting = omega arith; losses = omega arith; sending = omega arith }

  deed_kept : (a : A) (h : Channel A) → SoundChannel z h → {c : ChannelCall} {g : Given (Channel A)} → Deed z a h c g → SoundChannel z g.next
  deed_kept a h s (refusal r _ _) = s
  deed_kept a h s (arrival kind b fine) =
      let ruling = (Arrival.arrival h.settings h.flags kind b).ruling in
      let p = placed_fits z.depth a ruling h.queue (record { waiting = s.waiting; losses = s.losses }) in
      record { settings = s.settings; waiting = p.waiting; losses = p.losses; sending = s.sending }
  deed_kept a h s (reading n place buffer room) =
      record { settings = s.settings; waiting = simp length-drop (omega (arith, s.waiting)); losses = s.losses; sending = s.sending }
  deed_kept a h s (change l fine) =
      record { settings = taken_settings z.most l fine; waiting = s.waiting; losses = s.losses; sending = s.sending }
  deed_kept a h s renewal = fresh_channel
  deed_kept a h s showing = s
  deed_kept a h s (sending d) =
      record { settings = s.settings; waiting = s.waiting; losses = s.losses; sending = transmit_kept d s.sending }

  pub channel_kept : (a : A) (h : Channel A) (c : ChannelCall) → SoundChannel z h → SoundChannel z (channel_step z a h c).next
  channel_kept a h c s = deed_kept a h s (deed z a h c)

  -- a card with a sound channel in place of one of its own
  with_sound : (K : Card A) → Sound z K → (n : ℕ) → n ≤ 3 → (h : Channel A) → SoundChannel z h → Sound z (with K n h)
  with_sound K s n small h sound = record { four = rw length-set s.four; each = λ m l. each m l (eqb m n) refl; place = s.place }
    where
      each : (m : ℕ) → m < 4 → (t : Bool) → eqb m n ≡ t → SoundChannel z (at (with K n h) m)
      each m l true e = rw (eqb-true m n e, get_or-set_same K.channels n h fresh (omega arith)) sound
      each m l false e = rw (get_or-set_other K.channels n m h fresh (eqb-false m n e)) (s.each m l)

  pub kept : (a : A) (K : Card A) (c : Call) → Sound z K → Sound z (step z a K c).next
  kept a K (on n c) s =
      by_number z a K (λ g. Sound z g.next) n c (λ above. s) λ small.
      with_sound K s n small _ (channel_kept a (at K n) c (s.each n (omega arith)))
  kept a K pick s =
      by_pick z a K (λ g. Sound z g.next) s (λ n small. record { four = s.four; each = s.each; place = small })

  pub fresh_card_lem : Sound {A = A} z fresh_card
  fresh_card_lem =
      record { four = refl; each = λ n l. rw (get_or-replicate 4 n (fresh {A = A}) fresh l) fresh_channel; place = omega arith }

  reached : (K : Card A) (cs : List (Named A Call)) → Sound z K → Sound z (end z K cs)
  reached K [] s = s
  reached K (c ∷ cs) s = reached (step z c.name K c.call).next cs (kept c.name K c.call s)

pub bounds : Bounds
bounds =
    record {
      fresh = λ A z one. fresh_card_lem z one;
      kept = λ A z a K c one. kept z one a K c;
      reached = λ A z cs one. reached z one fresh_card cs (fresh_card_lem z one);
    }
