-- What is listed, and what is accepted.
use mathlib.Core.Path.{◌≡◌, refl, sym, ap, ap₂, subst, ◌∙◌}
use mathlib.Core.Bool.{Bool, true, false, true≢false, or-true}
use mathlib.Core.Logic.{⊎_elim, ◌≢◌}
use mathlib.Core.List.Memᴰ
use mathlib.Core.List.{List, [], ◌∷◌, map, Memᴰ, map-map}
use Prim.Native.Nat.{ℕ, ◌+◌, ◌≤◌}
use native.Mathlib.Omega.{arith}
use lib.Dec.{eqb}
use borrow.Author.Tests.{eqb-false}
use Rattle.std.specs.Prelude.{if◌then◌else◌, Option, Some, None}
use Rattle.std.proofs.lemmas.Option.{none-some}
use Rattle.paper.specs.Stream.{Character, good, damaged, byte}
use Rattle.paper.specs.Confirmations.{confirmation_of, ahead, Run, runs, any_damaged, Finding, finding, found, findings, next, judgement_on, judgement, counted, last_after, judge, judged, entries, accepted, said}
use Rattle.paper.specs.declared.Confirmation.{Confirmation}
use Rattle.paper.specs.declared.Judgement.{Judgement}
use Rattle.paper.specs.declared.Judgement.TheVariants.{Accepted, Gap, Repeated, Aside}
use Rattle.demands.specs.Confirmations.{StandsIn, Ascending, place_of, finding_in, ListedOnce, AcceptedSound, NoRepeat, NeverTwice}
use Rattle.demands.proofs.ConfirmationRuns.{in_ahead, stands, all_runs}
use Rattle.demands.proofs.ConfirmationForms.{right_form}

-- the one last accepted, behind one that was found
abbrev behind : Option ℕ → Finding → Option ℕ
behind last f = last_after last (counted (judge last f).judgement)

-- LISTED

said_by : (c : Confirmation) (same follows : Bool) → said (if same then Repeated c else if follows then Accepted c else Gap c) ≡ Some c
said_by c true follows = refl
said_by c false true = refl
said_by c false false = refl

-- a judgement keeps what was found
keeps : (last : Option ℕ) (o : Option Confirmation) → said (judgement last o) ≡ o
unfolding judgement_on
keeps last None = refl
keeps None (Some c) = refl
keeps (Some n) (Some c) = said_by c (eqb c.number n) (eqb c.number (next n))

keeps_finding : (last : Option ℕ) (f : Finding) → finding_in (judge last f) ≡ f
keeps_finding last f = ap (λ (o : Option Confirmation). record { place = f.place; content = o }) (keeps last f.content)

judged_keeps : (last : Option ℕ) (fs : List Finding) → map finding_in (judged last fs) ≡ fs
judged_keeps last [] = refl
judged_keeps last (f ∷ fs) = ap₂ (λ (g : Finding) (gs : List Finding). g ∷ gs) (keeps_finding last f) (judged_keeps (behind last f) fs)

listed : (cs : List Character) → map finding_in (entries cs) ≡ findings (runs cs)
listed cs = judged_keeps None (findings (runs cs))

-- LISTED ONCE

in_findings : {r : Run} {rs : List Run} {g : Finding} → found r ≡ Some g → Memᴰ r rs → Memᴰ g (findings rs)
in_findings e (Memᴰ.head is) = rw (ap found (sym is) ∙ e) (Memᴰ.head refl)
in_findings e (Memᴰ.tail {x} m) = in_ahead (found x) (in_findings e m)

in_entries : (cs : List Character) (r : Run) (g : Finding) → StandsIn cs r → found r ≡ Some g → Memᴰ g (map finding_in (entries cs))
in_entries cs r g s e = rw (listed cs) (in_findings e ((all_runs cs).every r s))

sooner : (least p : ℕ) (ps : List ℕ) → least ≤ p → Ascending p ps → Ascending least ps
sooner least p [] h a = tt
sooner least p (q ∷ ps) h a = (omega (arith, a.0), a.1)

abbrev finding_place : Finding → ℕ
finding_place f = f.place

fewer : (least : ℕ) (rs : List Run) → Ascending least (map place_of rs) → Ascending least (map finding_place (findings rs))
fewer least [] a = tt
fewer least (r ∷ rs) a = by (any_damaged r.body) (confirmation_of (map byte r.body)) (fewer (r.place + 1) rs a.1)
  where
    by : (t : Bool) (o : Option Confirmation) → Ascending (r.place + 1) (map finding_place (findings rs))
        → Ascending least (map finding_place (ahead (finding r.place t o) (findings rs)))
    by true o b = (a.0, b)
    by false None b = sooner least (r.place + 1) (map finding_place (findings rs)) (omega (arith, a.0)) b
    by false (Some c) b = (a.0, b)

-- good characters are undamaged, and have the bytes they are made of
all_undamaged : (bs : List ℕ) → any_damaged (map good bs) ≡ false
all_undamaged [] = refl
all_undamaged (b ∷ bs) = all_undamaged bs

bytes_back : (bs : List ℕ) → map byte (map good bs) ≡ bs
bytes_back [] = refl
bytes_back (b ∷ bs) = ap (λ (l : List ℕ). b ∷ l) (bytes_back bs)

-- and undamaged ones are good
all_good : (cs : List Character) → any_damaged cs ≡ false → cs ≡ map good (map byte cs)
all_good [] e = refl
all_good (good b ∷ cs) e = ap (λ (l : List Character). good b ∷ l) (all_good cs e)
all_good (damaged b ∷ cs) e = absurd (true≢false e)

holds_damaged : {b : ℕ} {cs : List Character} → Memᴰ (damaged b) cs → any_damaged cs ≡ true
holds_damaged (Memᴰ.head e) = rw (← e)
holds_damaged (Memᴰ.tail m) = rw (holds_damaged m, or-true)

pub listed_once : (cs : List Character) → ListedOnce cs
listed_once cs =
    record {
      listed = listed cs;
      undamaged = λ place bs c s f.
          in_entries cs (record { place = place; body = map good bs }) _ s (rw (all_undamaged bs, bytes_back bs, (right_form bs c).every f));
      aside = λ r b s m. in_entries cs r _ s (rw (holds_damaged m));
      in_order = rw (← map-map finding_place finding_in (entries cs), listed cs) (fewer 0 (runs cs) (all_runs cs).in_order);
    }

-- NEVER TWICE

another_by : (n : ℕ) (c d : Confirmation) (same follows : Bool) → eqb c.number n ≡ same
    → counted (if same then Repeated c else if follows then Accepted c else Gap c) ≡ Some d → Some n ≢ Some d.number
another_by n c d true follows e h = absurd (none-some d h)
another_by n c d false true e h = λ s. eqb-false c.number n e (let i : c ≡ d = cc in let j : n ≡ d.number = cc in rw (i, j))
another_by n c d false false e h = λ s. eqb-false c.number n e (let i : c ≡ d = cc in let j : n ≡ d.number = cc in rw (i, j))

another : (last : Option ℕ) (o : Option Confirmation) (d : Confirmation) → counted (judgement last o) ≡ Some d → last ≢ Some d.number
unfolding judgement_on
another last None d h = absurd (none-some d h)
another None (Some c) d h = λ s. let z : ◌≡◌ {A = ℕ} 0 1 = cc in absurd (omega arith)
another (Some n) (Some c) d h = another_by n c d (eqb c.number n) (eqb c.number (next n)) refl h

no_repeat_ahead : (last : Option ℕ) (o : Option Confirmation) (cs : List Confirmation)
    → ((d : Confirmation) → o ≡ Some d → last ≢ Some d.number) → NoRepeat (last_after last o) cs → NoRepeat last (ahead o cs)
no_repeat_ahead last None cs h r = r
no_repeat_ahead last (Some c) cs h r = (h c refl, r)

no_repeat : (last : Option ℕ) (fs : List Finding) → NoRepeat last (accepted (judged last fs))
no_repeat last [] = tt
no_repeat last (f ∷ fs) =
    let o = counted (judgement last f.content) in
    no_repeat_ahead last o (accepted (judged (last_after last o) fs)) (another last f.content) (no_repeat (last_after last o) fs)

pub never_twice : (cs : List Character) → NeverTwice cs
never_twice cs = no_repeat None (findings (runs cs))

-- ACCEPTED

counted_said : (v : Judgement) (c : Confirmation) → counted v ≡ Some c → said v ≡ Some c
counted_said (Accepted d) c h = h
counted_said (Gap d) c h = h
counted_said (Repeated d) c h = cc
counted_said Aside c h = h

-- what was found is of a run
abbrev OfRun : List Run → Finding → Type 0
OfRun rs g = (r : Run) × Memᴰ r rs × (found r ≡ Some g)

of_run : (rs : List Run) (g : Finding) → Memᴰ g (findings rs) → OfRun rs g
of_run [] g m = absurd (Memᴰ.not-nil m)
of_run (r ∷ rs) g m = by (λ m'. of_run rs g m') (found r) refl m
  where
    more : OfRun rs g → OfRun (r ∷ rs) g
    more o = (o.0, Memᴰ.tail o.1, o.2)

    by : (Memᴰ g (findings rs) → OfRun rs g) → (o : Option Finding) → found r ≡ o → Memᴰ g (ahead o (findings rs)) → OfRun (r ∷ rs) g
    by below None e m' = more (below m')
    by below (Some f) e m' =
        ⊎_elim (λ (is : g ≡ f). (r, Memᴰ.head refl, e ∙ ap Some (sym is))) (λ n. more (below n)) (Memᴰ.cases_cons m')

-- what was found there, and not set aside
abbrev found_as : ℕ → Option Confirmation → Finding
found_as place content = record { place = place; content = content }

found_whole : (place q : ℕ) (c : Confirmation) (t : Bool) (o : Option Confirmation)
    → finding place t o ≡ Some (found_as q (Some c)) → (place ≡ q) × (t ≡ false) × (o ≡ Some c)
found_whole place q c true o h =
    let same : found_as place None ≡ found_as q (Some c) = cc in
    absurd (none-some c (ap (λ (f : Finding). f.content) same))
found_whole place q c false None h = absurd (none-some _ h)
found_whole place q c false (Some d) h =
    let same : found_as place (Some d) ≡ found_as q (Some c) = cc in
    (ap (λ (f : Finding). f.place) same, refl, ap (λ (f : Finding). f.content) same)

pub accepted_sound : (cs : List Character) → AcceptedSound cs
accepted_sound cs e c m h =
    let o = of_run (runs cs) (finding_in e) (rw (listed cs) at (Memᴰ.map finding_in m)) in
    let r = o.0 in
    let says = ap (λ (s : Option Confirmation). Some (found_as e.place s)) (counted_said e.judgement c h) in
    let w = found_whole r.place e.place c (any_damaged r.body) (confirmation_of (map byte r.body)) (o.2 ∙ says) in
    let same = ap₂ {C = Run} (λ (p : ℕ) (l : List Character). record { place = p; body = l }) w.0 (all_good r.body w.1) in
    record {
      bytes = map byte r.body;
      stands = subst (StandsIn cs) same (stands cs r o.1);
      form = (right_form (map byte r.body) c).only w.2;
    }
