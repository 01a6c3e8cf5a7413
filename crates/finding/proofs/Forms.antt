-- The form that the finder follows byte by byte is that of all the bytes.
use Rattle.std.specs.Prelude.{if◌then◌else◌, Option, Some, None}
use mathlib.Core.Path.{◌≡◌, refl, sym, ◌∙◌}
use mathlib.Core.Bool.{Bool, true, false, ◌&&◌, ◌||◌, or_assoc, or-false}
use mathlib.Core.List.{List, [], ◌∷◌, map}
use Prim.Native.Nat.{ℕ, suc, ◌+◌, ◌*◌, ◌-◌, ◌≤◌, ◌<◌}
use native.Mathlib.Omega.{arith}
use lib.Dec.{leb, ltb}
use lib.ListN.{length, take, drop}
use lib.Seq.{take-nil, drop-nil}
use borrow.Author.Tests.{ltb-true, ltb-false, lt-leb}
use Rattle.paper.specs.Stream.{Character, byte}
use Rattle.paper.specs.Decimal.{spelled}
use Rattle.paper.specs.Confirmations.{fits, all_fit, right_length, confirmation_of, any_damaged, found}
use Rattle.finding.specs.Finder.{formed, form_step, form_on, content_in, fresh, grown, closing}
use Rattle.finding.specs.Stretches.{form_over}
use Rattle.paper.specs.declared.Confirmation.{Confirmation}
use Rattle.finding.specs.declared.Form.{Form}
use Rattle.finding.specs.declared.Begun.{Begun}

-- what bytes say behind others: k of them, whose number and litres are n and m
abbrev content : (k n m : ℕ) → List ℕ → Option Confirmation
content k n m bs =
    if all_fit k bs && right_length (k + length bs)
    then Some (record { number = spelled n (take (4 - k) bs); litres = spelled m (drop (5 - k) bs) })
    else None

-- no byte more, and one
pub form_none : (o : Option Form) → form_over o [] ≡ o
form_none None = refl
form_none (Some f) = refl

pub form_first : (o : Option Form) (b : ℕ) (bs : List ℕ) → form_over (form_on o b) bs ≡ form_over o (b ∷ bs)
form_first None b bs = refl
form_first (Some f) b bs = refl

-- another form stays another form
stays_other : (bs : List ℕ) → content_in (form_over None bs) ≡ None
unfolding content_in
stays_other bs = refl

number_on : (k n b : ℕ) (bs : List ℕ) → spelled (if ltb k 4 then 10 * n + (b - 0x30) else n) (take (4 - (k + 1)) bs) ≡ spelled n (take (4 - k) (b ∷ bs))
number_on k n b bs = go (ltb k 4) refl
  where
    go : (t : Bool) → ltb k 4 ≡ t → spelled (if t then 10 * n + (b - 0x30) else n) (take (4 - (k + 1)) bs) ≡ spelled n (take (4 - k) (b ∷ bs))
    go true e = let i : 4 - k ≡ suc (4 - (k + 1)) = omega (arith, ltb-true k 4 e) in rw i
    go false e = let i : 4 - k ≡ 0 = omega (arith, ltb-false k 4 e) in let j : 4 - (k + 1) ≡ 0 = omega (arith, ltb-false k 4 e) in rw (i, j)

litres_on : (k m b : ℕ) (bs : List ℕ) → spelled (if ltb 4 k then 10 * m + (b - 0x30) else m) (drop (5 - (k + 1)) bs) ≡ spelled m (drop (5 - k) (b ∷ bs))
litres_on k m b bs = go (ltb 4 k) refl
  where
    go : (t : Bool) → ltb 4 k ≡ t → spelled (if t then 10 * m + (b - 0x30) else m) (drop (5 - (k + 1)) bs) ≡ spelled m (drop (5 - k) (b ∷ bs))
    go true e = let i : 5 - k ≡ 0 = omega (arith, ltb-true 4 k e) in let j : 5 - (k + 1) ≡ 0 = omega (arith, ltb-true 4 k e) in rw (i, j)
    go false e = let i : 5 - k ≡ suc (5 - (k + 1)) = omega (arith, ltb-false 4 k e) in rw i

-- where the tests say so
abbrev chosen_content : Bool → Bool → (number litres : ℕ) → Option Confirmation
chosen_content fit long number litres = if fit && long then Some (record { number = number; litres = litres }) else None

too_long : (fit : Bool) (long number litres : ℕ) → 11 < long → chosen_content fit (right_length long) number litres ≡ None
too_long fit long number litres h = rw (lt-leb long 11 h) (go fit (leb 6 long))
  where
    go : (t u : Bool) → chosen_content t (u && false) number litres ≡ None
    go true true = refl
    go true false = refl
    go false u = refl

module _ (k n m b : ℕ) (bs : List ℕ) (below : (n' m' : ℕ) → k + 1 ≤ 11 → content_in (form_over (Some (formed (k + 1) n' m')) bs) ≡ content (k + 1) n' m' bs) where
  on_by : (short fit : Bool) → ltb k 11 ≡ short
      → content_in (form_over (if short && fit then Some (formed (k + 1) (if ltb k 4 then 10 * n + (b - 0x30) else n) (if ltb 4 k then 10 * m + (b - 0x30) else m)) else None) bs)
      ≡ chosen_content (fit && all_fit (k + 1) bs) (right_length (k + length (b ∷ bs))) (spelled n (take (4 - k) (b ∷ bs))) (spelled m (drop (5 - k) (b ∷ bs)))
  on_by true true e =
      let long : k + 1 + length bs ≡ k + length (b ∷ bs) = omega arith in
      below _ _ (omega (arith, ltb-true k 11 e)) ∙ rw (← long, ← number_on k n b bs, ← litres_on k m b bs)
  on_by true false e = stays_other bs
  on_by false fit e = stays_other bs ∙ sym (too_long (fit && all_fit (k + 1) bs) (k + length (b ∷ bs)) _ _ (omega (arith, ltb-false k 11 e)))

pub form_content : (bs : List ℕ) (k n m : ℕ) → k ≤ 11 → content_in (form_over (Some (formed k n m)) bs) ≡ content k n m bs
unfolding content_in form_step
form_content [] k n m h = let long : k + 0 ≡ k = omega arith in rw (long, take-nil (4 - k), drop-nil (5 - k))
form_content (b ∷ bs) k n m h = on_by k n m b bs (λ n' m' h'. form_content bs (k + 1) n' m' h') (ltb k 11) (fits k b) refl

pub content_whole : (bs : List ℕ) → content_in (form_over (Some (formed 0 0 0)) bs) ≡ confirmation_of bs
unfolding confirmation_of
content_whole bs = let long : 0 + length bs ≡ length bs = omega arith in form_content bs 0 0 0 (omega arith) ∙ rw long

-- A RUN

abbrev pub grown_all : Begun → List Character → Begun
grown_all g [] = g
grown_all g (c ∷ cs) = grown_all (grown g c) cs

grown_whole : (g : Begun) (l : List Character)
    → grown_all g l ≡ record { place = g.place; damaged = g.damaged || any_damaged l; form = form_over g.form (map byte l) }
grown_whole g [] = rw (or-false, form_none g.form)
grown_whole g (c ∷ cs) = grown_whole (grown g c) cs ∙ rw (or_assoc, form_first g.form (byte c) (map byte cs))

-- what the finder lists of a run that it followed is what is found there
pub closing_found : (place : ℕ) (l : List Character) → closing (Some (grown_all (fresh place) l)) ≡ found (record { place = place; body = l })
closing_found place l = rw (grown_whole (fresh place) l, content_whole (map byte l))
