-- That every answer of the paper's step fits a line.
use mathlib.Core.Bool.{Bool, true, false, ◌&&◌, ◌||◌}
use mathlib.Core.List.{List, [], ◌∷◌}
use mathlib.Core.Option.{Option, none, some}
use Prim.Native.Nat.{ℕ, ◌*◌, ◌≤◌}
use native.Mathlib.Omega.{arith}
use lib.Dec.{eqb, ltb}
use lib.ListN.{length, length-append, length-take, length-map}
use borrow.Author.Tests.{ltb-false}
use Rattle.paper.specs.Given.{Given}
use Rattle.paper.specs.Settings.{Size, card_size, bad_field}
use Rattle.paper.specs.Arrival.{NL}
use Rattle.paper.specs.Queue.{Slot, oldest, items_of, overruns}
use Rattle.paper.specs.Stream.{images}
use Rattle.paper.specs.Transmitter.{Transmitter, transmit_depth, TransmitCall, load, turn, set_cts, ask_special}
use Rattle.paper.specs.Transmitter.{loaded, send_next, held, turned, special_taken, transmit_step}
use Rattle.paper.specs.Channel.{Channel, ChannelCall, arrive, read, take_settings, reset, state, transmit, no_room, handed_over, settings_taken, channel_step}
use Rattle.paper.specs.Bounds.{SoundChannel}
use Rattle.paper.specs.Frames.{lent_bytes}
use Rattle.paper.specs.declared.Settings.{Settings}
use Rattle.paper.specs.declared.Flags.{Flags}
use Rattle.paper.specs.declared.Item.{Item}
use Rattle.paper.specs.declared.Item.TheVariants.{Plain, Doubled, Damaged}
use Rattle.demands.proofs.Choices.{chosen, either}
use Rattle.answers.specs.AnswerLine.{Small}

-- EVERY ANSWER OF THE PAPER'S STEP ON A SOUND CHANNEL FITS A LINE

abbrev Fits : {S : Type 0} → Given S → Type 0
Fits g = Small g.answer g.lent

-- three bytes an item, and no more flags than items
images_short : (is : List Item) → length (images is) ≤ 3 * length is
images_short [] = omega arith
images_short (Plain b ∷ is) = omega (arith, images_short is)
images_short (Doubled ∷ is) = omega (arith, images_short is)
images_short (Damaged b ∷ is) = omega (arith, images_short is)

overruns_few : (l : List (Slot Unit)) → overruns l ≤ length l
overruns_few [] = omega arith
overruns_few (x ∷ l) =
    either (λ (n : ℕ). n ≤ length (x ∷ l)) x.over (omega (arith, overruns_few l)) (omega (arith, overruns_few l))

module _ (s : Settings) (f : Flags) (t : Transmitter) where
  next_fits : (owed : Bool) (queue : List ℕ) → Fits (send_next s t owed queue)
  next_fits true queue = tt
  next_fits false [] = tt
  next_fits false (b ∷ rest) = either Fits (eqb s.expand 1 && eqb b NL) tt tt

  turn_fits : (waiting : Option ℕ) → Fits (turned s f t waiting)
  turn_fits (some b) = tt
  turn_fits none = either Fits (held s f t) tt (next_fits t.owed t.bytes)

  special_fits : (n : ℕ) (waiting : Option ℕ) → Fits (special_taken s t n waiting)
  special_fits n (some b) = tt
  special_fits n none = tt

  transmit_fits : (c : TransmitCall) → Fits (transmit_step s f t c)
  unfolding transmit_step loaded transmit_depth
  transmit_fits (load l) = omega arith
  transmit_fits turn = turn_fits t.special
  transmit_fits (set_cts v) = either Fits (ltb 1 v) tt tt
  transmit_fits (ask_special n) = either Fits (ltb n 1 || ltb 4 n) tt (special_fits n t.special)

settings_fit : (h : Channel Unit) (l : List ℕ) (bad : Option ℕ) → Fits (settings_taken h l bad)
settings_fit h l (some field) = tt
settings_fit h l none = tt

handed_fits : (h : Channel Unit) (n place : ℕ) (buffer : List ℕ) → n ≤ card_size.most → Fits (handed_over h n place buffer)
handed_fits h n place buffer few =
    let out = oldest n h.queue in
    let bytes = images (items_of out) in
    let taken : length out ≤ card_size.most = simp length-take (omega arith) in
    let short : length bytes ≤ lent_bytes card_size = omega (arith, images_short (items_of out), length-map out (λ (x : Slot Unit). x.item)) in
    record {
      removed = omega arith;
      overrun = omega (arith, overruns_few out);
      short = short;
      inside = simp length-append (omega arith);
    }

-- the answers of a channel of any size that the longest line is long enough for
module _ (z : Size) (short : z.most ≤ card_size.most) where
  pub small : (h : Channel Unit) → SoundChannel z h → (call : ChannelCall) → Small (channel_step z tt h call).answer (channel_step z tt h call).lent
  unfolding channel_step transmit_depth
  small h s (arrive kind b) = either Fits (ltb 3 kind) tt tt
  small h s (read n place buffer) =
      chosen Fits (ltb z.most n) (λ many. tt) (λ few.
      let most = ltb-false z.most n few in
      either Fits (no_room n place buffer) tt (handed_fits h n place buffer (omega arith)))
  small h s (take_settings l) = settings_fit h l (bad_field z.most l)
  small h s reset = tt
  small h s state = (omega arith, omega (arith, s.sending))
  small h s (transmit c) = transmit_fits h.settings h.flags h.transmitter c
