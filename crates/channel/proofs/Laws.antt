-- The record of a channel holds it; a sound record's parts are sound; and a call that gives the paper's step keeps its whole promise.
use mathlib.Core.Bool.{not}
use mathlib.Core.List.{List, [], ◌∷◌, ◌++◌, append-nil}
use mathlib.Core.Option.{Option, none, some}
use mathlib.Core.Path.{◌≡◌, refl, ap, ap₂, sym, ◌∙◌}
use Rattle.std.specs.Prelude.{Ok, Err}
use Prim.Native.Nat.{ℕ, ◌+◌, ◌-◌, ◌*◌, ◌≤◌, ◌<◌, min}
use native.Mathlib.Omega.{arith}
use borrow.Author.Tests.{lt-ltb, le-ltb}
use lib.Dec.{lit≤}
use lib.ListN.{length, drop}
use Rattle.paper.specs.Settings.{Size, settings_of, bad_field}
use Rattle.paper.specs.Given.{Given, refused}
use Rattle.paper.specs.Arrival.{arrival}
use Rattle.paper.specs.Transmitter as lines
use Rattle.paper.specs.Transmitter.{TransmitCall, transmit_lent, loaded, transmit_step}
use Rattle.paper.specs.Queue.{oldest, items_of}
use Rattle.paper.specs.Stream.{images}
use Rattle.paper.specs.Asked.{call_with, unlent}
use Rattle.paper.specs.declared.Asked.{Asked}
use Rattle.paper.specs.declared.Asked.TheVariants as asked
use Rattle.paper.specs.Channel as model
use Rattle.paper.specs.Channel.{ChannelCall, arrive, read, take_settings, state, transmit, lent, written, no_room, arrived, handed_over, settings_taken, channel_step}
use Rattle.paper.specs.Bounds.{SoundChannel}
use Rattle.paper.specs.declared.Outcome.{Outcome}
use Rattle.paper.specs.declared.Refusal.{Refusal}
use Rattle.paper.specs.declared.Refusal.TheVariants.{BadKind, TooMany, NoRoom, BadField}
use Rattle.paper.specs.declared.Settings.{Settings}
use Rattle.paper.specs.declared.Answer.{Answer}
use Rattle.paper.specs.declared.Answered.{Answered}
use Rattle.paper.specs.declared.Answer.TheVariants.{Refused, Fated, Handed, Done, Shown}
use Rattle.demands.proofs.Cases.{TransmitDeed, declined, loading, other, transmit_deed}
use Rattle.demands.proofs.Bounds.{fresh_channel, channel_kept}
use Rattle.queue.specs.Held as queue
use Rattle.queue.specs.Held.{placing, handing}
use Rattle.queue.specs.declared.Placed.{Placed}
use Rattle.queue.specs.declared.Handed as reads
use Rattle.queue.proofs.Laws.{queue_in_lem, count_is}
use Rattle.judging.specs.Judged.{judged_as}
use Rattle.transmitter.specs.Held as transmitter
use Rattle.transmitter.specs.Held.{answered_as}
use Rattle.transmitter.specs.declared.Transmitter.{Transmitter}
use Rattle.transmitter.proofs.Laws.{transmitter_in_of, parts}
use Rattle.channel.specs.declared.Channel.{Channel}
use Rattle.channel.specs.Held.{size_of, channel_of, channel_in, Sound}
use Rattle.channel.specs.Promise.{given, answered, Promise, OneAnswer}

pub channel_in_lem : (z : Size) (h : model.Channel Unit) → channel_in (channel_of z h) ≡ h
unfolding channel_in channel_of
channel_in_lem z h = rw (queue_in_lem, transmitter_in_of)

-- the record of what a call leaves has the size of the record that it was called on
size_kept : (c : Channel) (h : model.Channel Unit) → size_of (channel_of (size_of c) h) ≡ size_of c
size_kept c h = refl

-- a size leaves room for the threshold of fresh settings
pub most_at_least_one : (c : Channel) → 1 ≤ (size_of c).most
most_at_least_one c = lit≤ tt

pub sound_of : (z : Size) (h : model.Channel Unit) → size_of (channel_of z h) ≡ z → SoundChannel z h → Sound (channel_of z h)
sound_of z h e s =
    record { is = rw (e, channel_in_lem); bounds = rw (e, channel_in_lem) s }

pub fresh_sound : (z : Size) → size_of (channel_of z model.fresh) ≡ z → 1 ≤ z.most → Sound (channel_of z model.fresh)
fresh_sound z e one = sound_of z model.fresh e (fresh_channel z one)

module _ (c : Channel) (s : Sound c) where
  pub queue_sound : queue.SoundIn (size_of c).depth (size_of c).depth c.queue
  unfolding channel_in channel_of
  queue_sound = record { is = ap (λ (x : Channel). x.queue) s.is; waiting = s.bounds.waiting; losses = s.bounds.losses }

  pub transmitter_sound : transmitter.Sound c.transmitter
  unfolding channel_in channel_of
  transmitter_sound = record { is = ap (λ (x : Channel). x.transmitter) s.is; sending = s.bounds.sending }

  module _ (call : ChannelCall) where
    -- what the step gives is its answer, its record and its bytes; that the record is sound follows
    pub promised : (r : Answered Channel) (l : List ℕ) → r ≡ answered c (given c call) → l ≡ (given c call).lent → Promise c call r l
    unfolding answered given
    promised r l e k =
        record {
          gives = e;
          leaves = k;
          says = rw (e, k);
          sound =
              rw e (sound_of (size_of c) (given c call).next (size_kept c (given c call).next)
              (channel_kept (size_of c) (most_at_least_one c) tt (channel_in c) call s.bounds));
        }

    pub keeps : (g : Given (model.Channel Unit)) → given c call ≡ g → (r : Answered Channel) → r ≡ answered c g → Promise c call r g.lent
    keeps g e r k = promised r g.lent (rw e k) (rw e)

    -- "A refusal changes nothing"
    pub refuses : (n : Refusal) → given c call ≡ refused n (channel_in c) (lent call)
        → Promise c call (record { answer = Refused n; next = c }) (lent call)
    unfolding answered
    refuses n e = keeps (refused n (channel_in c) (lent call)) e _ (ap (λ (x : Channel). record { answer = Refused n; next = x }) s.is)

-- A CALL BY WHAT IS ASKED

drop_all : (l : List ℕ) → drop (length l) l ≡ []
drop_all [] = refl
drop_all (b ∷ l) = drop_all l

-- the bytes at hand are those that the call is lent, and the others
pub lent_and_unlent : (a : Asked) (l : List ℕ) (place : ℕ) → lent (call_with a l place) ++ unlent a l ≡ l
lent_and_unlent (asked.Arrive kind b) l place = refl
lent_and_unlent (asked.Read n) l place = rw drop_all (append-nil l)
lent_and_unlent asked.TakeSettings l place = rw drop_all (append-nil l)
lent_and_unlent asked.Reset l place = refl
lent_and_unlent asked.State l place = refl
lent_and_unlent asked.Load l place = rw drop_all (append-nil l)
lent_and_unlent asked.Turn l place = refl
lent_and_unlent (asked.SetCts v) l place = refl
lent_and_unlent (asked.AskSpecial n) l place = refl

-- nothing stands behind bytes that are all lent
pub behind : (after before : List ℕ) → after ≡ after ++ drop (length before) before
behind after before = rw drop_all (sym (append-nil after))

pub one_answer : OneAnswer
one_answer =
    record {
      by_name = λ c call r r' l l' p q. (p.gives ∙ sym q.gives, p.leaves ∙ sym q.leaves);
      by_asking = λ c a before place r r' after after' p q.
          let same : p.lent ≡ q.lent = p.kept.leaves ∙ sym q.kept.leaves in
          (p.kept.gives ∙ sym q.kept.gives, p.at_hand ∙ ap (λ (l : List ℕ). l ++ unlent a before) same ∙ sym q.at_hand);
    }

-- WHAT THE STEP IS, CASE BY CASE

module _ (c : Channel) where
  pub bad_kind : (kind b : ℕ) → 3 < kind → given c (arrive kind b) ≡ refused BadKind (channel_in c) []
  unfolding given channel_step
  bad_kind kind b h = rw (lt-ltb 3 kind h)

  pub good_kind : (kind b : ℕ) → kind ≤ 3 → given c (arrive kind b) ≡ arrived (size_of c) tt (channel_in c) (arrival c.settings c.flags kind b)
  unfolding given channel_step channel_in
  good_kind kind b h = rw (le-ltb 3 kind h)

  module _ (n place : ℕ) (buffer : List ℕ) where
    pub too_many : (size_of c).most < n → given c (read n place buffer) ≡ refused TooMany (channel_in c) buffer
    unfolding given channel_step
    too_many h = rw (lt-ltb (size_of c).most n h)

    module _ (few : n ≤ (size_of c).most) where
      pub place_beyond : length buffer < place → given c (read n place buffer) ≡ refused NoRoom (channel_in c) buffer
      unfolding given channel_step no_room
      place_beyond h = rw (le-ltb (size_of c).most n few, lt-ltb (length buffer) place h)

      module _ (inside : place ≤ length buffer) where
        pub no_room_lem : length buffer - place < 3 * n → given c (read n place buffer) ≡ refused NoRoom (channel_in c) buffer
        unfolding given channel_step no_room
        no_room_lem h =
            let k : length buffer < place + 3 * n = omega arith in
            rw (le-ltb (size_of c).most n few, le-ltb (length buffer) place inside, lt-ltb (length buffer) (place + 3 * n) k)

        pub room : 3 * n ≤ length buffer - place → given c (read n place buffer) ≡ handed_over (channel_in c) n place buffer
        unfolding given channel_step no_room
        room h =
            let k : place + 3 * n ≤ length buffer = omega arith in
            rw (le-ltb (size_of c).most n few, le-ltb (length buffer) place inside, le-ltb (length buffer) (place + 3 * n) k)

-- no call on the transmitter alters the bytes that it is lent
transmit_lent_lem : {t : lines.Transmitter} {l : TransmitCall} {g : Given lines.Transmitter} → TransmitDeed t l g → g.lent ≡ transmit_lent l
unfolding loaded
transmit_lent_lem (declined r) = refl
transmit_lent_lem (loading l) = refl
transmit_lent_lem (other o) = o.same

-- THE SERVED CALLS

module _ (c : Channel) (s : Sound c) where
  pub arrives : (kind b : ℕ) → kind ≤ 3 → (o : Outcome) → o ≡ arrival c.settings c.flags kind b
      → (p : Placed) → p ≡ placing (size_of c).depth (size_of c).depth c.queue o.ruling
      → Promise c (arrive kind b)
      (record { answer = Fated p.fate; next = record { settings = c.settings; flags = o.flags; queue = p.queue; transmitter = c.transmitter } }) []
  unfolding answered channel_of channel_in placing
  arrives kind b small o oe p pe =
      keeps c s (arrive kind b) _ (good_kind c kind b small) _ (rw (pe, oe, ← (transmitter_sound c s).is))

  pub hands : (n place : ℕ) (buffer : List ℕ) → given c (read n place buffer) ≡ handed_over (channel_in c) n place buffer
      → (h : reads.Handed) → h ≡ handing (size_of c).depth c.queue n
      → (last : List ℕ) → last ≡ written buffer place (images (items_of (oldest n (queue.queue_in c.queue))))
      → Promise c (read n place buffer)
      (record {
        answer = Handed h.characters h.flagged h.bytes;
        next = record { settings = c.settings; flags = c.flags; queue = h.queue; transmitter = c.transmitter };
      })
      last
  unfolding answered channel_of channel_in handing
  hands n place buffer e h he last le =
      rw le (keeps c s (read n place buffer) _ e _ (rw (he, ← (transmitter_sound c s).is)))

  pub sends : (l : TransmitCall) (r : Answered Transmitter)
      → r ≡ answered_as (transmit_step c.settings c.flags (transmitter.transmitter_in c.transmitter) l)
      → Promise c (transmit l)
      (record {
        answer = r.answer;
        next = record { settings = c.settings; flags = c.flags; queue = c.queue; transmitter = r.next };
      })
      (transmit_lent l)
  unfolding answered answered_as channel_of channel_in given channel_step
  sends l r e =
      rw (← transmit_lent_lem (transmit_deed c.settings c.flags (transmitter.transmitter_in c.transmitter) l))
      (keeps c s (transmit l) _ refl _ (rw (e, ← (queue_sound c s).is)))

  pub refuses_settings : (l : List ℕ) (n : Refusal) → judged_as l (bad_field (size_of c).most l) ≡ Err n
      → Promise c (take_settings l) (record { answer = Refused n; next = c }) l
  unfolding given channel_step
  refuses_settings l n e = go (bad_field (size_of c).most l) refl e
    where
      go : (o : Option ℕ) → bad_field (size_of c).most l ≡ o → judged_as l o ≡ Err n
          → Promise c (take_settings l) (record { answer = Refused n; next = c }) l
      go (some m) k j =
          let same : BadField m ≡ n = cc in
          rw (← same) (refuses c s (take_settings l) (BadField m) (rw k))
      go none k j = absurd (let different : ◌≡◌ {A = ℕ} 0 1 = cc in omega arith)

  pub takes : (l : List ℕ) (fields : Settings) → judged_as l (bad_field (size_of c).most l) ≡ Ok fields
      → Promise c (take_settings l)
      (record { answer = Done; next = record { settings = fields; flags = model.fresh_flags; queue = c.queue; transmitter = c.transmitter } }) l
  unfolding given answered channel_step channel_of channel_in
  takes l fields e = go (bad_field (size_of c).most l) refl e
    where
      go : (o : Option ℕ) → bad_field (size_of c).most l ≡ o → judged_as l o ≡ Ok fields
          → Promise c (take_settings l)
          (record { answer = Done; next = record { settings = fields; flags = model.fresh_flags; queue = c.queue; transmitter = c.transmitter } }) l
      go (some m) k j = absurd (let different : ◌≡◌ {A = ℕ} 0 1 = cc in omega arith)
      go none k j =
          let same : settings_of l ≡ fields = cc in
          keeps c s (take_settings l) (settings_taken (channel_in c) l none) (rw k) _
          (rw (same, ← (queue_sound c s).is, ← (transmitter_sound c s).is))

  pub shows : (waiting : ℕ) → waiting ≡ min c.queue.count (size_of c).most → Promise c state
      (record { answer = Shown waiting c.transmitter.count (not c.flags.running) c.queue.losses; next = c }) []
  unfolding given answered channel_step channel_in queue.queue_in
  shows waiting e =
      let counts = ap₂ (λ (w t : ℕ). Shown w t (not c.flags.running) c.queue.losses)
      (e ∙ ap (λ (w : ℕ). min w (size_of c).most) (count_is (size_of c).depth (size_of c).depth c.queue (queue_sound c s)))
      (parts c.transmitter (transmitter_sound c s)).count in
      keeps c s state (given c state) refl _ (ap₂ (λ (a : Answer) (x : Channel). record { answer = a; next = x }) counts s.is)
