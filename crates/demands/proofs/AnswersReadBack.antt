-- Which answers a call can have; and that an answer can be read back from its line, where the frame is known.
use mathlib.Core.Path.{◌≡◌, refl, sym, ap, subst, ◌∙◌}
use mathlib.Core.Bool.{Bool, true, false, ◌&&◌, ◌||◌}
use mathlib.Core.List.{List, [], ◌∷◌}
use mathlib.Core.Option.{Option, none, some, some-ne-none}
use Prim.Native.Nat.{ℕ, suc, ◌+◌, ◌-◌, ◌*◌, ◌/◌, ◌%◌, ◌≤◌, ◌<◌}
use native.Mathlib.Omega.{arith}
use lib.Dec.{eqb, leb, ltb}
use lib.ListN.{length, get_or, take, drop}
use borrow.Author.Tests.{eqb-true, ltb-true, ltb-false, ne_eqb}
use Rattle.std.specs.Prelude.{if◌then◌else◌}
use Rattle.paper.specs.Given.{Given}
use Rattle.paper.specs.Settings.{Size, bad_field}
use Rattle.paper.specs.Arrival.{NL}
use Rattle.paper.specs.Queue.{oldest, items_of, place}
use Rattle.paper.specs.Stream.{images}
use Rattle.paper.specs.Numbers.{refusal_numbers, fate_number, numbers}
use Rattle.paper.specs.Frames.{call_of, capital, hexadecimal}
use Rattle.paper.specs.Transmitter.{TransmitCall, load, turn, set_cts, ask_special, loaded, send_next, held, turned, special_taken, transmit_step}
use Rattle.paper.specs.Channel.{Channel, ChannelCall, arrive, read, take_settings, reset, state, transmit, place_of, no_room, handed_over, settings_taken, channel_step}
use Rattle.paper.specs.Card.{Card, Call, on, pick, place_on, step, at}
use Rattle.paper.specs.declared.Why.TheVariants.{FlowSwallowed, DamagedDiscarded, BreakIgnored, EndingDiscarded}
use Rattle.paper.specs.declared.Fate.{Fate}
use Rattle.paper.specs.declared.Fate.TheVariants.{Stored, Nothing, Lost}
use Rattle.paper.specs.declared.Refusal.{Refusal}
use Rattle.paper.specs.declared.Refusal.TheVariants.{BadChannel, BadKind, TooMany, NoRoom, BadField, BadSpecial, SpecialWaits, BrokenStream, ShortOutput, BadCts, BadLine, OutsideRange, TooFar, TooManyEntries}
use Rattle.paper.specs.declared.Answer.{Answer}
use Rattle.paper.specs.declared.Answer.TheVariants.{Refused, Fated, Handed, Took, Silent, Sent, Done, Shown, Picked, NoneReady}
use Rattle.demands.specs.Spelling as spelling
use Rattle.demands.specs.Spelling.{Digit, figure, Spells, empty, byte, frame_of}
use Rattle.demands.specs.Demands.{AnswersReadBack}
use Rattle.demands.proofs.Choices.{chosen, chosen_or, chosen_and, either}
use Rattle.demands.proofs.Cases.{by_number, by_pick}
use Rattle.demands.proofs.Port.{written_found}

-- READING AN ANSWER, by the frame's first byte, the first number, and those behind it; how many bytes there are and the loss count are read apart

abbrev pub refusal_in : (number value : ℕ) → Refusal
refusal_in n v =
    if eqb n 1 then BadChannel else
    if eqb n 2 then BadKind else
    if eqb n 3 then TooMany else
    if eqb n 4 then NoRoom else
    if eqb n 5 then BadField v else
    if eqb n 6 then BadSpecial else
    if eqb n 7 then SpecialWaits else
    if eqb n 8 then BrokenStream v else
    if eqb n 9 then ShortOutput else
    if eqb n 10 then BadCts else
    if eqb n 11 then BadLine else
    if eqb n 12 then OutsideRange else
    if eqb n 13 then TooFar else
    TooManyEntries

abbrev fate_in : ℕ → Fate
fate_in n =
    if eqb n 0 then Stored else
    if eqb n 1 then Nothing FlowSwallowed else
    if eqb n 2 then Lost else
    if eqb n 3 then Nothing DamagedDiscarded else
    if eqb n 4 then Nothing BreakIgnored else
    Nothing EndingDiscarded

pub fate_read : (f : Fate) → fate_in (fate_number f) ≡ f
fate_read Stored = refl
fate_read (Nothing FlowSwallowed) = refl
fate_read (Nothing DamagedDiscarded) = refl
fate_read (Nothing BreakIgnored) = refl
fate_read (Nothing EndingDiscarded) = refl
fate_read Lost = refl

abbrev pub answer_in : (frame number : ℕ) → List ℕ → (bytes losses : ℕ) → Answer
answer_in frame number l bytes losses =
    let value : ℕ → ℕ = λ i. get_or l i 0 in
    if eqb number 0 then
    (if eqb frame 0x01 then Fated (fate_in (value 0)) else
    if eqb frame 0x02 then Handed (value 0) (value 1) bytes else
    if eqb frame 0x03 then Took (value 0) else
    if eqb frame 0x04 then (if eqb (value 0) 0 then Silent else Sent (value 1)) else
    if eqb frame 0x08 then (if eqb (value 0) 0xFF then NoneReady else Picked (value 0)) else
    if eqb frame 0x0A then Shown (value 0) (value 1) (eqb (value 2) 1) losses else
    Done) else
    Refused (refusal_in number (value 0))

-- WHICH ANSWERS A CALL CAN HAVE, by its frame's first byte; of a read, the bytes found from the place on are as many as it says
pub data AnswersTo : (frame : ℕ) → Answer → (found : List ℕ) → Type 0 where
  refusal : {frame : ℕ} {found : List ℕ} (r : Refusal) → AnswersTo frame (Refused r) found
  fate : {found : List ℕ} (f : Fate) → AnswersTo 0x01 (Fated f) found
  reading : {found : List ℕ} (characters flagged bytes : ℕ) → length (take bytes found) ≡ bytes → AnswersTo 0x02 (Handed characters flagged bytes) found
  loading : {found : List ℕ} (n : ℕ) → AnswersTo 0x03 (Took n) found
  silence : {found : List ℕ} → AnswersTo 0x04 Silent found
  sent : {found : List ℕ} (b : ℕ) → AnswersTo 0x04 (Sent b) found
  plain : {frame : ℕ} {found : List ℕ} → ((l : List ℕ) (bytes losses : ℕ) → answer_in frame 0 l bytes losses ≡ Done) → AnswersTo frame Done found
  named : {found : List ℕ} (n : ℕ) → n < 4 → AnswersTo 0x08 (Picked n) found
  nobody : {found : List ℕ} → AnswersTo 0x08 NoneReady found
  showing : {found : List ℕ} (waiting sending : ℕ) (stopped : Bool) (losses : ℕ) → AnswersTo 0x0A (Shown waiting sending stopped losses) found

-- what a call gives is such an answer
pub record Answers (frame place : ℕ) {S : Type 0} (g : Given S) : Type 0 where
  pub is : AnswersTo frame g.answer (drop place g.lent)

answers : {frame place : ℕ} {S : Type 0} {g : Given S} → AnswersTo frame g.answer (drop place g.lent) → Answers frame place g
answers p = record { is = p }

module _ {A : Type 0} (z : Size) (a : A) (h : Channel A) (n : ℕ) where
  read_answers : (count place : ℕ) (buffer : List ℕ) → place ≤ length buffer → Answers 0x02 place (handed_over h count place buffer)
  read_answers count place buffer inside =
      answers (reading _ _ _ (ap length (written_found buffer (images (items_of (oldest count h.queue))) place inside)))

  settings_answers : (l : List ℕ) (o : Option ℕ) → Answers 0x07 0 (settings_taken h l o)
  settings_answers l (some field) = answers (refusal _)
  settings_answers l none = answers (plain (λ _ _ _. refl))

  transmit_answers : (c : TransmitCall)
      → Answers (frame_of (on n (transmit c))) 0 (transmit_step h.settings h.flags h.transmitter c)
  unfolding transmit_step loaded
  transmit_answers (load l) = answers (loading _)
  transmit_answers turn = turn_answers h.transmitter.special
    where
      next_answers : (owed : Bool) (queue : List ℕ) → Answers 0x04 0 (send_next h.settings h.transmitter owed queue)
      next_answers true queue = answers (sent _)
      next_answers false [] = answers silence
      next_answers false (b ∷ rest) =
          either (Answers 0x04 0) (eqb h.settings.expand 1 && eqb b NL) (answers (sent _)) (answers (sent _))

      turn_answers : (w : Option ℕ) → Answers 0x04 0 (turned h.settings h.flags h.transmitter w)
      turn_answers (some b) = answers (sent _)
      turn_answers none =
          either (Answers 0x04 0) (held h.settings h.flags h.transmitter) (answers silence)
          (next_answers h.transmitter.owed h.transmitter.bytes)
  transmit_answers (set_cts v) = either (Answers 0x05 0) (ltb 1 v) (answers (refusal _)) (answers (plain (λ _ _ _. refl)))
  transmit_answers (ask_special s) =
      either (Answers 0x06 0) (ltb s 1 || ltb 4 s) (answers (refusal _)) (special_answers h.transmitter.special)
    where
      special_answers : (w : Option ℕ) → Answers 0x06 0 (special_taken h.settings h.transmitter s w)
      special_answers (some b) = answers (refusal _)
      special_answers none = answers (plain (λ _ _ _. refl))

  pub channel_answers : (c : ChannelCall) → Answers (frame_of (on n c)) (place_of c) (channel_step z a h c)
  unfolding channel_step no_room
  channel_answers (arrive kind b) = either (Answers 0x01 0) (ltb 3 kind) (answers (refusal _)) (answers (fate _))
  channel_answers (read count place buffer) =
      either (Answers 0x02 place) (ltb z.most count) (answers (refusal _))
      (chosen_or (Answers 0x02 place) (ltb (length buffer) place) (ltb (length buffer) (place + 3 * count))
      (λ _. answers (refusal _)) (λ _. answers (refusal _)) (λ e _. read_answers count place buffer (ltb-false _ _ e)))
  channel_answers (take_settings l) = settings_answers l (bad_field z.most l)
  channel_answers reset = answers (plain (λ _ _ _. refl))
  channel_answers state = answers (showing _ _ _ _)
  channel_answers (transmit c) = answers (transmit_answers c).is

card_answers : {A : Type 0} (z : Size) (a : A) (K : Card A) (c : Call) → Answers (frame_of c) (place_on c) (step z a K c)
card_answers z a K (on n c) =
    by_number z a K (Answers (frame_of (on n c)) (place_of c)) n c (λ _. answers (refusal _))
    (λ _. answers (channel_answers z a (at K n) n c).is)
card_answers z a K pick = by_pick z a K (Answers 0x08 0) (answers nobody) (λ n small. answers (named n small))

-- a channel's number is not that of none
pub named_not_none : (n : ℕ) → n < 4 → eqb n 0xFF ≡ false
named_not_none n small = ne_eqb n 0xFF (λ e. absurd (omega (arith, small, e)))

-- a refusal's numbers: its own, and what may follow it
pub data Numbered (r : Refusal) : List ℕ → Type 0 where
  alone : (n : ℕ) → eqb n 0 ≡ false → refusal_in n 0 ≡ r → Numbered r (n ∷ [])
  followed : (n value : ℕ) → eqb n 0 ≡ false → refusal_in n value ≡ r → Numbered r (n ∷ value ∷ [])

pub numbered : (r : Refusal) → Numbered r (refusal_numbers r)
numbered BadChannel = alone 1 refl refl
numbered BadKind = alone 2 refl refl
numbered TooMany = alone 3 refl refl
numbered NoRoom = alone 4 refl refl
numbered (BadField field) = followed 5 field refl refl
numbered BadSpecial = alone 6 refl refl
numbered SpecialWaits = alone 7 refl refl
numbered (BrokenStream place) = followed 8 place refl refl
numbered ShortOutput = alone 9 refl refl
numbered BadCts = alone 10 refl refl
numbered BadLine = alone 11 refl refl
numbered OutsideRange = alone 12 refl refl
numbered TooFar = alone 13 refl refl
numbered TooManyEntries = alone 16 refl refl

-- from a line
abbrev line_in : (frame : ℕ) → List ℕ → Answer
line_in frame l = answer_in frame (get_or l 0 0) (drop 1 l) (length (drop 3 l)) (get_or l 4 0 * 256 + get_or l 5 0)

line_refused : (frame : ℕ) {r : Refusal} {l : List ℕ} → Numbered r l → line_in frame l ≡ Refused r
line_refused frame (alone n nonzero e) = rw nonzero (ap Refused e)
line_refused frame (followed n value nonzero e) = rw nonzero (ap Refused e)

line_read : {frame : ℕ} {a : Answer} {found : List ℕ} → AnswersTo frame a found → line_in frame (numbers a found) ≡ a
line_read {frame} (refusal r) = line_refused frame (numbered r)
line_read (fate f) = ap Fated (fate_read f)
line_read (reading characters flagged bytes e) = ap (Handed characters flagged) e
line_read (loading n) = refl
line_read silence = refl
line_read (sent b) = refl
line_read (plain e) = e [] 0 0
line_read (named n small) = rw (named_not_none n small)
line_read nobody = refl
line_read (showing waiting sending true losses) = ap (Shown waiting sending true) (omega arith)
line_read (showing waiting sending false losses) = ap (Shown waiting sending false) (omega arith)

-- THE FRAME OF A CALL

-- a call, if there is one, has this frame's first byte
record Begins (f : List ℕ) (o : Option Call) : Type 0 where
  is : (c : Call) → o ≡ some c → frame_of c ≡ get_or f 0 0

module _ (z : Size) (f : List ℕ) where
  row : (first : ℕ) (c : Call) → frame_of c ≡ first → eqb (get_or f 0 0) first ≡ true → Begins f (some c)
  row first c e t = record { is = λ d same. let it : c ≡ d = cc in ap frame_of (sym it) ∙ e ∙ sym (eqb-true _ _ t) }

  begins : Begins f (call_of z f)
  unfolding call_of
  begins =
      let long = length f in
      chosen_and (Begins f) (eqb (get_or f 0 0) 0x01) (eqb long 4) (λ t _. row 0x01 _ refl t)
      (chosen_and (Begins f) (eqb (get_or f 0 0) 0x02) (eqb long 3) (λ t _. row 0x02 _ refl t)
      (chosen_and (Begins f) (eqb (get_or f 0 0) 0x03) (leb 2 long) (λ t _. row 0x03 _ refl t)
      (chosen_and (Begins f) (eqb (get_or f 0 0) 0x04) (eqb long 2) (λ t _. row 0x04 _ refl t)
      (chosen_and (Begins f) (eqb (get_or f 0 0) 0x05) (eqb long 3) (λ t _. row 0x05 _ refl t)
      (chosen_and (Begins f) (eqb (get_or f 0 0) 0x06) (eqb long 3) (λ t _. row 0x06 _ refl t)
      (chosen_and (Begins f) (eqb (get_or f 0 0) 0x07) (leb 2 long) (λ t _. row 0x07 _ refl t)
      (chosen_and (Begins f) (eqb (get_or f 0 0) 0x08) (eqb long 1) (λ t _. row 0x08 _ refl t)
      (chosen_and (Begins f) (eqb (get_or f 0 0) 0x09) (eqb long 2) (λ t _. row 0x09 _ refl t)
      (chosen_and (Begins f) (eqb (get_or f 0 0) 0x0A) (eqb long 2) (λ t _. row 0x0A _ refl t)
      (record { is = λ c e. absurd (some-ne-none c (sym e)) }))))))))))

-- WHAT IS PRINTED

digit_of : (d : ℕ) → d < 16 → Digit (capital d) d
digit_of d small =
    chosen (λ (c : ℕ). Digit c d) (ltb d 10)
    (λ e. let same : 48 + d ≡ d + 48 = omega arith in subst (λ (c : ℕ). Digit c d) same (figure d (ltb-true d 10 e)))
    (λ e.
    let more : 10 ≤ d = ltb-false d 10 e in
    let same : 65 + (d - 10) ≡ d + 55 = omega arith in
    let value : 10 + (d - 10) ≡ d = omega arith in
    subst (λ (v : ℕ). Digit (d + 55) v) value (subst (λ (c : ℕ). Digit c (10 + (d - 10))) same (spelling.capital (d - 10) (omega arith))))

spelled : (l : List ℕ) → ((i : ℕ) → get_or l i 0 < 256) → Spells (hexadecimal l) l
spelled [] small = empty
spelled (b ∷ l) small =
    let low : b < 256 = small 0 in
    let whole : b / 16 * 16 + b % 16 ≡ b = omega arith in
    subst (λ (x : ℕ). Spells (hexadecimal (b ∷ l)) (x ∷ l)) whole
    (byte (digit_of (b / 16) (omega arith)) (digit_of (b % 16) (omega arith)) (spelled l (λ i. small (suc i))))

pub answers_read_back : AnswersReadBack
answers_read_back =
    record {
      printed = spelled;
      frame = λ z f. (begins z f).is;
      answer = λ A z a b K L c d frame line.
          sym (line_read (card_answers z a K c).is) ∙ rw (frame, line) (line_read (card_answers z b L d).is);
    }
