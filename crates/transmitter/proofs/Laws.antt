-- The record's calls do what the paper's definitions say.
use mathlib.Core.Path.{◌≡◌, refl, ap, sym, ◌∙◌}
use mathlib.Core.Bool.{Bool, true, false, ◌&&◌, ◌||◌}
use mathlib.Core.List.{List, [], ◌∷◌, ◌++◌, append-nil}
use mathlib.Core.Option.{Option, none, some}
use Prim.Native.Nat.{ℕ, ◌+◌, ◌-◌, ◌<◌, ◌≤◌, min}
use native.Mathlib.Omega.{arith}
use native.Mathlib.Nat.{min_comm}
use lib.Dec.{eqb, ltb}
use lib.ListN.{length, take, drop, get_or, replicate, length-append, length-take, length-drop, set}
use lib.Seq.{take-append_seam}
use Rattle.arrays.specs.Padded.{padded}
use Rattle.arrays.proofs.Laws.{padded_length, padded_head, padded_drop, padded_more, take_min}
use Rattle.std.specs.Prelude.{if◌then◌else◌}
use Rattle.paper.specs.Given.{Given, given}
use Rattle.paper.specs.Arrival.{CR, NL}
use Rattle.paper.specs.Transmitter as model
use Rattle.paper.specs.Transmitter.{transmit_depth}
use Rattle.paper.specs.declared.Settings.{Settings}
use Rattle.paper.specs.declared.Flags.{Flags}
use Rattle.paper.specs.declared.Answer.{Answer}
use Rattle.paper.specs.declared.Answer.TheVariants.{Took, Sent}
use Rattle.transmitter.specs.declared.Transmitter.{Transmitter}
use Rattle.paper.specs.declared.Answered.{Answered}
use Rattle.transmitter.specs.Held.{waits, character, special_in, transmitter_of, transmitter_in, Sound}
use Rattle.transmitter.specs.Held.{answered_as, loads, sends_next, turns, asks_special}

-- The same record, but for the parts that are named

abbrev pub with_queue : (count : ℕ) → (bytes : List ℕ) → (owed : Bool) → Transmitter → Transmitter
with_queue count bytes owed t =
    record { count = count; bytes = bytes; owed = owed; waits = t.waits; special = t.special; cts = t.cts }

abbrev pub with_owed : Bool → Transmitter → Transmitter
with_owed owed t = with_queue t.count t.bytes owed t

abbrev pub with_special : (waits : Bool) → (special : ℕ) → Transmitter → Transmitter
with_special waits special t =
    record { count = t.count; bytes = t.bytes; owed = t.owed; waits = waits; special = special; cts = t.cts }

abbrev pub with_cts : Bool → Transmitter → Transmitter
with_cts cts t = record { count = t.count; bytes = t.bytes; owed = t.owed; waits = t.waits; special = t.special; cts = cts }

special_in_of : (o : Option ℕ) → special_in (waits o) (character o) ≡ o
special_in_of none = refl
special_in_of (some b) = refl

-- what the record that holds a transmitter holds is that transmitter
pub transmitter_in_of : (t : model.Transmitter) → transmitter_in (transmitter_of t) ≡ t
unfolding transmitter_in transmitter_of
transmitter_in_of t = rw (take-append_seam, special_in_of)

-- The parts of a sound record that proofs look at
pub record Parts (t : Transmitter) : Type 0 where
  pub bytes : t.bytes ≡ padded transmit_depth (transmitter_in t).bytes
  pub count : t.count ≡ length (transmitter_in t).bytes

pub parts : (t : Transmitter) → Sound t → Parts t
unfolding transmitter_of
parts t sound = record { bytes = ap (λ (x : Transmitter). x.bytes) sound.is; count = ap (λ (x : Transmitter). x.count) sound.is }

-- A record with some parts changed holds the paper's transmitter with the same parts changed
module _ {t : Transmitter} (sound : Sound t) where
  pub queue_with : {count : ℕ} {bytes : List ℕ} (l : List ℕ) (owed : Bool) → count ≡ length l → bytes ≡ padded transmit_depth l
      → with_queue count bytes owed t ≡ transmitter_of (model.with_owed owed (model.with_bytes l (transmitter_in t)))
  unfolding transmitter_of
  queue_with l owed counted filled = rw (counted, filled) (ap (with_queue (length l) (padded transmit_depth l) owed) sound.is)

  pub owed_with : (owed : Bool) → with_owed owed t ≡ transmitter_of (model.with_owed owed (transmitter_in t))
  unfolding transmitter_of
  owed_with owed = ap (with_owed owed) sound.is

  pub special_with : (o : Option ℕ) → with_special (waits o) (character o) t ≡ transmitter_of (model.with_special o (transmitter_in t))
  unfolding transmitter_of
  special_with o = ap (with_special (waits o) (character o)) sound.is

  pub cts_with : (cts : Bool) → with_cts cts t ≡ transmitter_of (model.with_cts cts (transmitter_in t))
  unfolding transmitter_of
  cts_with cts = ap (with_cts cts) sound.is

-- an answer, with a record that holds what the paper leaves
pub answers : (a : Answer) {t : Transmitter} (m : model.Transmitter) (l : List ℕ) → t ≡ transmitter_of m
    → ◌≡◌ {A = Answered Transmitter} (record { answer = a; next = t }) (answered_as (given a m l))
unfolding answered_as
answers a m l e = ap (λ (x : Transmitter). record { answer = a; next = x }) e

pub length-bytes : (t : Transmitter) → Sound t → length t.bytes ≡ transmit_depth
length-bytes t sound =
    ap length (parts t sound).bytes ∙ padded_length transmit_depth (transmitter_in t).bytes (omega (arith, sound.sending))

-- whether a special character waits
module _ (t : Transmitter) where
  pub special_waits : t.waits ≡ true → (transmitter_in t).special ≡ some t.special
  unfolding transmitter_in
  special_waits e = rw e

  pub no_special : t.waits ≡ false → (transmitter_in t).special ≡ none
  unfolding transmitter_in
  no_special e = rw e

-- What is promised, once it is known whether a special character waits, and which bytes do
module _ (s : Settings) (t : Transmitter) where
  pub turns_by : (f : Flags) (o : Option ℕ) → (transmitter_in t).special ≡ o
      → turns s f t ≡ answered_as (model.turned s f (transmitter_in t) o)
  unfolding turns
  turns_by f o e = ap (λ (x : Option ℕ). answered_as (model.turned s f (transmitter_in t) x)) e

  pub asks_by : (n : ℕ) (o : Option ℕ) → (ltb n 1 || ltb 4 n) ≡ false → (transmitter_in t).special ≡ o
      → asks_special s t n ≡ answered_as (model.special_taken s (transmitter_in t) n o)
  unfolding asks_special
  asks_by n o inside e =
      rw inside (ap (λ (x : Option ℕ). answered_as (model.special_taken s (transmitter_in t) n x)) e)

  pub sends_by : (l : List ℕ) → (transmitter_in t).bytes ≡ l
      → sends_next s t false ≡ answered_as (model.send_next s (transmitter_in t) false l)
  unfolding sends_next
  sends_by l e = ap (λ (x : List ℕ). answered_as (model.send_next s (transmitter_in t) false x)) e

nothing : (l : List ℕ) → length l ≡ 0 → l ≡ []
nothing [] e = refl
nothing (b ∷ l) e = absurd (omega arith)

pub queue_empty : (t : Transmitter) → Sound t → t.count ≡ 0 → (transmitter_in t).bytes ≡ []
queue_empty t sound e = nothing (transmitter_in t).bytes (sym (parts t sound).count ∙ e)

-- the two ways of the paper's `sends`, as one
either : (owes : Bool) (m : model.Transmitter) (b : ℕ)
    → ◌≡◌ {A = Given model.Transmitter}
    (if owes then given (Sent CR) (model.with_owed true m) [] else given (Sent b) (model.with_owed false m) [])
    (given (Sent (if owes then CR else b)) (model.with_owed owes m) [])
either true m b = refl
either false m b = refl

-- The head of the queue stands at place 0, and leaves it when the array closes up
module _ (s : Settings) (t : Transmitter) (sound : Sound t) (waiting : 0 < t.count) where
  queue_head : (transmitter_in t).bytes ≡ get_or t.bytes 0 0 ∷ drop 1 (transmitter_in t).bytes
  queue_head =
      let p = parts t sound in
      let l = (transmitter_in t).bytes in
      padded_head transmit_depth l (omega arith) ∙ ap (λ (x : List ℕ). get_or x 0 0 ∷ drop 1 l) (sym p.bytes)

  queue_rest : drop 1 t.bytes ++ replicate 1 0 ≡ padded transmit_depth (drop 1 (transmitter_in t).bytes)
  queue_rest =
      let p = parts t sound in
      ap (λ (x : List ℕ). drop 1 x ++ replicate 1 0) p.bytes
      ∙ padded_drop transmit_depth 1 (transmitter_in t).bytes (omega arith) (omega (arith, sound.sending))

  pub head_sent : {bytes : List ℕ} (owes : Bool) → bytes ≡ drop 1 t.bytes ++ replicate 1 0
      → owes ≡ (eqb s.expand 1 && eqb (get_or t.bytes 0 0) NL)
      → ◌≡◌ {A = Answered Transmitter}
      (record { answer = Sent (if owes then CR else get_or t.bytes 0 0); next = with_queue (t.count - 1) bytes owes t })
      (sends_next s t false)
  head_sent owes closed e =
      let head = get_or t.bytes 0 0 in
      let m = transmitter_in t in
      let l = drop 1 m.bytes in
      let p = parts t sound in
      rw (sends_by s t (head ∷ l) queue_head, ← e, either owes (model.with_bytes l m) head)
      (answers _ _ _ (queue_with sound l owes (omega (arith, length-drop 1 m.bytes)) (closed ∙ queue_rest)))

-- A load writes new bytes behind those that wait

pub load_room : (t : Transmitter) → Sound t → t.count ≤ transmit_depth
load_room t sound = omega (arith, (parts t sound).count, sound.sending)

-- the array with so many of the new bytes written behind those that wait
abbrev pub written_to : Transmitter → (new : List ℕ) → (i : ℕ) → List ℕ
written_to t new i = padded transmit_depth ((transmitter_in t).bytes ++ take i new)

module _ (t : Transmitter) (sound : Sound t) (new : List ℕ) where
  pub load_start : t.bytes ≡ written_to t new 0
  load_start = (parts t sound).bytes ∙ ap (padded transmit_depth) (sym (append-nil (transmitter_in t).bytes))

  pub load_step : (i : ℕ) → t.count + i < transmit_depth → i < length new
      → set (written_to t new i) (t.count + i) (get_or new i 0) ≡ written_to t new (i + 1)
  load_step i h k =
      let p = parts t sound in
      ap (λ (n : ℕ). set (written_to t new i) (n + i) (get_or new i 0)) p.count
      ∙ padded_more transmit_depth (transmitter_in t).bytes new i (omega arith) k

  pub load_end : {bytes : List ℕ} (taken : ℕ) → taken ≡ min (length new) (transmit_depth - t.count) → bytes ≡ written_to t new taken
      → ◌≡◌ {A = Answered Transmitter} (record { answer = Took taken; next = with_queue (t.count + taken) bytes t.owed t }) (loads t new)
  unfolding loads model.loaded transmitter_in
  load_end taken e written =
      let p = parts t sound in
      let l = (transmitter_in t).bytes in
      let room = transmit_depth - length l in
      let f : taken ≡ min (length new) room = e ∙ ap (λ (n : ℕ). min (length new) (transmit_depth - n)) p.count in
      let g : take taken new ≡ take room new = ap (λ (n : ℕ). take n new) (f ∙ min_comm (length new) room) ∙ take_min room new in
      let counted : t.count + taken ≡ length (l ++ take room new) = omega (arith, length-append l (take room new), length-take room new) in
      let filled = written ∙ ap (λ (x : List ℕ). padded transmit_depth (l ++ x)) g in
      rw (← f) (answers _ _ _ (queue_with sound (l ++ take room new) t.owed counted filled))
