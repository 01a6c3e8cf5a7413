-- A refusal changes nothing, and is given exactly under the first of the paper's conditions that is due.
use mathlib.Core.Path.{◌≡◌, refl, sym, ap, ◌∙◌}
use mathlib.Core.Bool.{true, true≢false, false≢true}
use mathlib.Core.Logic.{◌≢◌, inl, inr, ⊎_elim}
use mathlib.Core.List.{List, [], ◌∷◌, map}
use mathlib.Core.Option.{Option, none, some, some-ne-none}
use Prim.Native.Nat.{ℕ, ◌+◌, ◌*◌}
use native.Mathlib.Omega.{arith}
use lib.Dec.{eqb, ltb}
use lib.ListN.{length}
use lib.Seq.{set-get_or}
use borrow.Author.Tests.{ltb-true, ltb-false, eqb-true, eqb-false}
use Rattle.paper.specs.Given.{Given}
use Rattle.paper.specs.Settings.{Size, settings_of, Test, tests, first_bad, bad_field}
use Rattle.paper.specs.Transmitter.{Transmitter, TransmitCall, load, turn, set_cts, ask_special, transmit_lent, loaded, special_taken, transmit_step}
use Rattle.paper.specs.Channel.{Channel, with_transmitter, ChannelCall, arrive, read, take_settings, reset, state, transmit, lent, no_room, settings_taken, channel_step}
use Rattle.paper.specs.Card.{Card, Call, on, pick, step, at, with}
use Rattle.paper.specs.declared.Settings.{Settings}
use Rattle.paper.specs.declared.Flags.{Flags}
use Rattle.paper.specs.declared.Refusal.TheVariants.{SpecialWaits}
use Rattle.demands.specs.History.{Report, is_refused}
use Rattle.demands.specs.Conditions.{Condition, due, field_condition, transmit_conditions, channel_conditions, conditions, FirstDue, served, here, later}
use Rattle.demands.specs.Demands.{lent_by, Refusals}
use Rattle.demands.proofs.Choices.{chosen, chosen_or}
use Rattle.demands.proofs.Cases.{TransmitDeed, declined, loading, other, turn_other, Deed, refusal, arrival, reading, change, renewal, showing, sending, deed, by_number, by_pick}

-- NOTHING CHANGES

-- g, if it is a refusal, leaves s and the lent bytes l as they were
abbrev Unchanged : {S : Type 0} (s : S) (l : List ℕ) (g : Given S) → Type 0
Unchanged s l g = is_refused g.answer ≡ true → (g.next ≡ s) × (g.lent ≡ l)

transmit_unchanged : {t : Transmitter} {c : TransmitCall} {g : Given Transmitter} → TransmitDeed t c g → Unchanged t (transmit_lent c) g
unfolding loaded
transmit_unchanged (declined r) e = (refl, refl)
transmit_unchanged (loading l) e = absurd (false≢true e)
transmit_unchanged (other o) e = absurd (false≢true (sym (ap (λ (r : Report). r.refused) o.calm) ∙ e))

module _ {A : Type 0} (z : Size) (a : A) where
  channel_unchanged : {h : Channel A} {c : ChannelCall} {g : Given (Channel A)} → Deed z a h c g → Unchanged h (lent c) g
  channel_unchanged (refusal r _ _) e = (refl, refl)
  channel_unchanged (arrival kind b fine) e = absurd (false≢true e)
  channel_unchanged (reading n place buffer room) e = absurd (false≢true e)
  channel_unchanged (change l fine) e = absurd (false≢true e)
  channel_unchanged renewal e = absurd (false≢true e)
  channel_unchanged showing e = absurd (false≢true e)
  channel_unchanged {h} (sending d) e =
      let u = transmit_unchanged d e in
      (ap (λ (t : Transmitter). with_transmitter t h) u.0, u.1)

  unchanged : (K : Card A) (c : Call) → Unchanged K (lent_by c) (step z a K c)
  unchanged K (on n c) =
      by_number z a K (Unchanged K (lent c)) n c (λ above e. (refl, refl)) λ small e.
      let u = channel_unchanged (deed z a (at K n) c) e in
      (ap (with K n) u.0 ∙ ap (λ (l : List (Channel A)). record { channels = l; place = K.place }) (set-get_or K.channels n _), u.1)
  unchanged K pick = by_pick z a K (Unchanged K []) (λ e. absurd (false≢true e)) (λ n small e. absurd (false≢true e))

-- EXACTLY WHEN DUE

-- g answers as the first condition that is due has it
abbrev Exact : {S : Type 0} (cs : List Condition) (g : Given S) → Type 1
Exact cs g = FirstDue cs g.answer

module _ (s : Settings) (f : Flags) (t : Transmitter) where
  special_exact : (n : ℕ) (waiting : Option ℕ) → Exact (due SpecialWaits (waiting ≢ none) ∷ []) (special_taken s t n waiting)
  special_exact n none = later (λ (waits : ◌≢◌ {A = Option ℕ} none none). waits refl) (served refl)
  special_exact n (some b) = here (some-ne-none b)

  transmit_exact : (c : TransmitCall) → Exact (transmit_conditions t c) (transmit_step s f t c)
  unfolding transmit_step loaded
  transmit_exact (load l) = served refl
  transmit_exact turn = served (ap (λ (r : Report). r.refused) (turn_other s f t t.special).calm)
  transmit_exact (set_cts v) =
      chosen (Exact (transmit_conditions t (set_cts v))) (ltb 1 v) (λ e. here (ltb-true 1 v e)) (λ e. later (omega (arith, ltb-false)) (served refl))
  transmit_exact (ask_special n) =
      chosen_or (Exact (transmit_conditions t (ask_special n))) (ltb n 1) (ltb 4 n) (λ e. here (inl (ltb-true n 1 e))) (λ e. here (inr (ltb-true 4 n e)))
      λ low high. later (⊎_elim (omega (arith, ltb-false)) (omega (arith, ltb-false))) (special_exact n t.special)

first_bad_exact : {A : Type 0} (h : Channel A) (l : List ℕ) (ts : List Test) → Exact (map field_condition ts) (settings_taken h l (first_bad ts))
first_bad_exact h l [] = served refl
first_bad_exact h l (t ∷ ts) =
    chosen (λ o. Exact (map field_condition (t ∷ ts)) (settings_taken h l o)) t.bad here λ e.
    later (λ bad. true≢false (sym bad ∙ e)) (first_bad_exact h l ts)

module _ {A : Type 0} (z : Size) (a : A) where
  channel_exact : (h : Channel A) (c : ChannelCall) → Exact (channel_conditions z h c) (channel_step z a h c)
  unfolding channel_step bad_field no_room
  channel_exact h (arrive kind b) =
      chosen (Exact (channel_conditions z h (arrive kind b))) (ltb 3 kind) (λ e. here (ltb-true 3 kind e))
      λ e. later (omega (arith, ltb-false)) (served refl)
  channel_exact h (read n place buffer) =
      let rows = channel_conditions z h (read n place buffer) in
      chosen (Exact rows) (ltb z.most n) (λ e. here (ltb-true _ _ e)) λ few.
      later (omega (arith, ltb-false))
      (chosen_or (Exact _) (ltb (length buffer) place) (ltb (length buffer) (place + 3 * n))
      (λ e. here (inr (ltb-true _ _ e))) (λ e. here (inl (ltb-true _ _ e)))
      λ inside room. later (⊎_elim (omega (arith, ltb-false)) (omega (arith, ltb-false))) (served refl))
  channel_exact h (take_settings l) =
      chosen (λ o. Exact (channel_conditions z h (take_settings l)) (settings_taken h l o)) (eqb (length l) 15)
      (λ e. later (λ (other : length l ≢ 15). other (eqb-true _ _ e)) (first_bad_exact h l (tests z.most (settings_of l))))
      (λ e. here (eqb-false _ _ e))
  channel_exact h reset = served refl
  channel_exact h state = served refl
  channel_exact h (transmit c) = transmit_exact h.settings h.flags h.transmitter c

  exact : (K : Card A) (c : Call) → Exact (conditions z K c) (step z a K c)
  exact K (on n c) =
      by_number z a K (Exact (conditions z K (on n c))) n c here λ small. later (omega arith) (channel_exact (at K n) c)
  exact K pick = by_pick z a K (Exact []) (served refl) (λ n small. served refl)

pub refusals : Refusals
refusals = record { unchanged = λ A z a. unchanged z a; exact = λ A z a. exact z a }
