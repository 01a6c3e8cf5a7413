-- What one arrival comes to: its fate, and what it stores where marking is on.
use mathlib.Core.Path.{◌≡◌, refl, subst}
use mathlib.Core.Bool.{Bool, true, false, ◌&&◌}
use mathlib.Core.Logic.{◌≢◌}
use Prim.Native.Nat.{ℕ, zero, suc, ◌≤◌}
use native.Mathlib.Omega.{arith}
use lib.Dec.{eqb, ltb}
use lib.ListN.{length}
use borrow.Author.Tests.{eqb-true, eqb-false, ltb-true, ltb-false, le-ltb}
use Rattle.std.specs.Prelude.{Result, Ok, Err}
use Rattle.paper.specs.Given.{Given}
use Rattle.paper.specs.Arrival
use Rattle.std.specs.Prelude.{Option, None, Some}
use Rattle.paper.specs.Arrival.{marking, good_item, step1, step2, step4, step5, flow_ruling, step6, ending, ending_ruling, step7}
use Rattle.paper.specs.Queue.{Queue, place_item, place}
use Rattle.paper.specs.Channel.{arrive, channel_step}
use Rattle.paper.specs.Card.{Card, at}
use Rattle.paper.specs.declared.Settings.{Settings}
use Rattle.paper.specs.declared.Flags.{Flags}
use Rattle.paper.specs.declared.Item.{Item}
use Rattle.paper.specs.declared.Item.TheVariants.{Damaged}
use Rattle.paper.specs.declared.Why.{Why}
use Rattle.paper.specs.declared.Fate.{Fate}
use Rattle.paper.specs.declared.Answer.TheVariants.{Fated}
use Rattle.paper.specs.declared.Outcome.{Outcome}
use Rattle.demands.specs.Marks.{character_of}
use Rattle.demands.specs.Demands.{FateOf, nothing, room, full, Fates, StandsFor, good_one, parity, framing, break, Marked}
use Rattle.demands.proofs.Choices.{chosen, either}
use Rattle.demands.proofs.Cases.{by_number}

-- FATES

fate_of : {A : Type 0} (d : ℕ) (a : A) (r : Result Item Why) (q : Queue A) → FateOf d (length q.slots) r (place d a r q).fate
fate_of d a (Err why) q = nothing why
fate_of d a (Ok i) q = go (ltb (length q.slots) d) refl
  where
    go : (t : Bool) → ltb (length q.slots) d ≡ t → FateOf d (length q.slots) (Ok i) (place_item t i a q).fate
    go true e = room i (ltb-true _ _ e)
    go false e = full i (ltb-false _ _ e)

pub fates : Fates
unfolding channel_step
fates A z a K n kind b small known =
    let h = at K n in
    let r = (Arrival.arrival h.settings h.flags kind b).ruling in
    by_number z a K (λ (g : Given (Card A)). (f : Fate) × (g.answer ≡ Fated f) × FateOf z.depth (length h.queue.slots) r f)
    n (arrive kind b) (λ above. absurd (omega arith)) λ _.
    rw (le-ltb 3 kind known) (_, refl, fate_of z.depth a r h.queue)

-- WHAT IS STORED

-- an item that a ruling stores, if it does, is so
module _ (P : Item → Type 0) where
  pub data Fit : Result Item Why → Type 0 where
    stores : {i : Item} → P i → Fit (Ok i)
    leaves : {w : Why} → Fit (Err w)

  pub record FitOutcome (o : Outcome) : Type 0 where
    pub rules : Fit o.ruling

fit : {P : Item → Type 0} {o : Outcome} → Fit P o.ruling → FitOutcome P o
fit p = record { rules = p }

-- steps 3 to 7 store good items
module _ (P : Item → Type 0) (s : Settings) (good : (c : ℕ) → P (good_item s c)) where
  flow_fit : (b : ℕ) → Fit P (flow_ruling s b)
  unfolding flow_ruling
  flow_fit b = either (Fit P) (eqb s.flow 1) (stores (good b)) leaves

  ending_fit : (o : Option ℕ) → Fit P (ending_ruling s o)
  ending_fit None = leaves
  ending_fit (Some b) = stores (good b)

  step4_fit : (f : Flags) (r : Bool) (b : ℕ) {o : Outcome} → FitOutcome P o → FitOutcome P (step4 s f r b o)
  unfolding step4
  step4_fit f r b p = either (FitOutcome P) f.literal (fit (stores (good b))) p

  step5_fit : (r : Bool) (b : ℕ) {o : Outcome} → FitOutcome P o → FitOutcome P (step5 s r b o)
  unfolding step5
  step5_fit r b p = either (FitOutcome P) (eqb s.literal 1 && eqb b s.quote) (fit (stores (good b))) p

  step6_fit : (b : ℕ) {o : Outcome} → FitOutcome P o → FitOutcome P (step6 s b o)
  unfolding step6
  step6_fit b p =
      either (FitOutcome P) (eqb s.flow 0) p
      (either (FitOutcome P) (eqb b s.xon) (fit (flow_fit b)) (either (FitOutcome P) (eqb b s.xoff) (fit (flow_fit b)) p))

  step7_fit : (r : Bool) (b : ℕ) → FitOutcome P (step7 s r b)
  unfolding step7
  step7_fit r b = fit (ending_fit (ending s.endings b))

  steps_fit : (f : Flags) (b : ℕ) → FitOutcome P (Arrival.good s f b)
  unfolding Arrival.good
  steps_fit f b = step4_fit f _ _ (step5_fit _ _ (step6_fit _ (step7_fit _ _)))

-- where marking is on, a break stores a damaged 0 and an error the damaged byte, if anything
module _ (P : Item → Type 0) (s : Settings) (m : marking s ≡ true) (f : Flags) where
  step1_fit : P (Damaged 0x00) → FitOutcome P (step1 s f)
  unfolding step1
  step1_fit p = either (FitOutcome P) (eqb s.breaks 0) (fit leaves) (rw m (fit (stores p)))

  step2_fit : (b : ℕ) (o : Outcome) → P (Damaged b) → FitOutcome P (step2 s f b o)
  unfolding step2
  step2_fit b o p = rw (eqb-true s.damaged 4 m) (fit (stores p))

  pub arrival_fit : (kind b : ℕ) → (kind ≡ 0 → (c : ℕ) → P (good_item s c)) → (kind ≢ 0 → kind ≢ 3 → P (Damaged b)) → (kind ≡ 3 → P (Damaged 0x00))
      → FitOutcome P (Arrival.arrival s f kind b)
  unfolding Arrival.arrival
  arrival_fit kind b good spoiled broken =
      chosen (FitOutcome P) (eqb kind 3) (λ e. step1_fit (broken (eqb-true kind 3 e))) λ whole.
      chosen (FitOutcome P) (eqb kind 0) (λ e. steps_fit P s (good (eqb-true kind 0 e)) f b) λ bad.
      step2_fit b _ (spoiled (eqb-false kind 0 bad) (eqb-false kind 3 whole))

-- WHAT IT STANDS FOR

good_stands : (s : Settings) (b c : ℕ) → StandsFor 0 b (character_of (good_item s c))
unfolding good_item
good_stands s b c = either (λ (i : Item). StandsFor 0 b (character_of i)) (marking s && eqb c 0xFF) (good_one b _) (good_one b _)

spoiled_stands : (kind b : ℕ) → kind ≤ 3 → kind ≢ 0 → kind ≢ 3 → StandsFor kind b (character_of (Damaged b))
spoiled_stands zero b known bad whole = absurd (bad refl)
spoiled_stands (suc zero) b known bad whole = parity b
spoiled_stands (suc (suc zero)) b known bad whole = framing b
spoiled_stands (suc (suc (suc zero))) b known bad whole = absurd (whole refl)
spoiled_stands (suc (suc (suc (suc n)))) b known bad whole = absurd (omega arith)

had : {P : Item → Type 0} {i : Item} → Fit P (Ok i) → P i
had (stores p) = p

pub marked : Marked
marked s f kind b i known m stored =
    let P : Item → Type 0 = λ j. StandsFor kind b (character_of j) in
    had (subst (Fit P) stored (arrival_fit P s m f kind b
    (λ e c. rw e (good_stands s b c)) (spoiled_stands kind b known) (λ e. rw e (break b))).rules)
