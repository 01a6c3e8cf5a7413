-- A channel at its threshold at each of four picks in a row is named by one of them: every pick that names another comes nearer to it.
use mathlib.Core.Path.{◌≡◌, refl, ◌∙◌}
use mathlib.Core.Bool.{true, false, true≢false}
use mathlib.Core.Logic.{◌⊎◌, inl, inr, ⊎_elim}
use mathlib.Core.List.{List, [], ◌∷◌}
use Prim.Native.Nat.{ℕ, zero, suc, ◌+◌, ◌-◌, ◌%◌, ◌≤◌, ◌<◌}
use native.Mathlib.Omega.{arith}
use Rattle.paper.specs.Given.{Given}
use Rattle.paper.specs.Settings.{Size}
use Rattle.paper.specs.Card.{Card, Call, on, pick, step, ready, first_ready, picked_as, picked}
use Rattle.paper.specs.Run.{Named, end}
use Rattle.paper.specs.declared.Answer.TheVariants.{Picked}
use Rattle.demands.specs.History.{is_pick, NoPick}
use Rattle.demands.specs.Demands.{FourPicks}
use Rattle.demands.proofs.Choices.{chosen}
use Rattle.demands.proofs.Cases.{ahead}
use Rattle.demands.proofs.Isolation.{isolation}

-- a pick at place p looks at fewer than d channels before it looks at n
record Near (p n d : ℕ) : Type 0 where
  before : ℕ
  fewer : before < d
  there : n ≡ (p + suc before) % 4

-- a pick names n, or comes near to it
abbrev Nears : {A : Type 0} (n d : ℕ) → Given (Card A) → Type 0
Nears n d g = (g.answer ≡ Picked n) ⊎ Near g.next.place n d

-- of a pick that has looked at k channels in vain, and looks at j others before n
walk : {A : Type 0} (K : Card A) (p n d : ℕ) → ready K n ≡ true → (k m j : ℕ) → j ≤ m → j ≤ d → n ≡ (p + suc (k + j)) % 4
    → Nears n d (picked_as K (first_ready K (ahead p k (suc m))))
walk K p n d due k m zero l s e = let here : (p + suc k) % 4 ≡ n = omega arith in rw (here, due) (inl refl)
walk K p n d due k zero (suc j) l s e = absurd (omega arith)
walk K p n d due k (suc m) (suc j) l s e =
    chosen (λ o. Nears n d (picked_as K o)) (ready K ((p + suc k) % 4))
    (λ named. inr (record { before = j; fewer = omega arith; there = omega arith }))
    (λ passed. walk K p n d due (suc k) m j (omega arith) (omega arith) (omega arith))

module _ {A : Type 0} (z : Size) where
  -- calls that are no pick do not move the place
  stays : (K : Card A) (cs : List (Named A Call)) → NoPick cs → (end z K cs).place ≡ K.place
  stays K [] h = refl
  stays K (c ∷ cs) h = stays (step z c.name K c.call).next cs h.1 ∙ still c.call h.0
    where
      still : (d : Call) → is_pick d ≡ false → (step z c.name K d).next.place ≡ K.place
      still (on n d) e = isolation.place A z c.name K n d
      still pick e = absurd (true≢false e)

  -- a pick of a card where n is ready, and calls that are none behind it
  nears : (a : A) (K : Card A) (n d : ℕ) → d < 4 → Near K.place n (suc d) → ready K n ≡ true → (cs : List (Named A Call)) → NoPick cs
      → ((step z a K pick).answer ≡ Picked n) ⊎ Near (end z (step z a K pick).next cs).place n d
  unfolding step picked
  nears a K n d l near due cs h =
      rw (stays (step z a K pick).next cs h) (walk K K.place n d due 0 3 near.before (omega arith) (omega arith) (omega arith))

or_then : {X Y Z : Type 0} → X ⊎ Y → (Y → Z) → X ⊎ Z
or_then (inl x) f = inl x
or_then (inr y) f = inr (f y)

pub four_picks : FourPicks
four_picks A z a K n l cs₁ cs₂ cs₃ h₁ h₂ h₃ r r₁ r₂ r₃ =
    let far : Near K.place n 4 = record { before = (n + 3 - K.place % 4) % 4; fewer = omega arith; there = omega arith } in
    or_then (nears z a K n 3 (omega arith) far r cs₁ h₁) λ near₁.
    or_then (nears z a _ n 2 (omega arith) near₁ r₁ cs₂ h₂) λ near₂.
    or_then (nears z a _ n 1 (omega arith) near₂ r₂ cs₃ h₃) λ near₃.
    ⊎_elim (λ named. named) (λ near. absurd (omega arith)) (nears z a _ n 0 (omega arith) near₃ r₃ [] tt)
