-- The runs are all that stand in the characters, each once, in order.
use mathlib.Core.Path.{◌≡◌, refl, sym, ap, ◌∙◌}
use mathlib.Core.Bool.{Bool, true, false}
use mathlib.Core.Logic.{⊎_elim}
use mathlib.Core.List.Memᴰ
use mathlib.Core.List.{List, [], ◌∷◌, ◌++◌, map, Memᴰ}
use Prim.Native.Nat.{ℕ, ◌+◌, ◌≤◌}
use native.Mathlib.Omega.{arith}
use lib.Dec.{eqb}
use lib.ListN.{length}
use borrow.Author.Tests.{eqb-true}
use Rattle.std.specs.Prelude.{if◌then◌else◌, Option, Some, None}
use Rattle.std.proofs.lemmas.Option.{none-some}
use Rattle.paper.specs.Stream.{Character, good, damaged}
use Rattle.paper.specs.Confirmations.{Mark, start, finish, inner, mark, ahead, body_at, body, Run, run_at, runs_from, runs}
use Rattle.demands.specs.Confirmations.{Unmarked, nil, cons, StandsIn, Ascending, place_of, Runs}

-- MARKS

is_start : (t u : Bool) → (if t then start else if u then finish else inner) ≡ start → t ≡ true
is_start true u e = refl
is_start false true e = cc
is_start false false e = cc

is_finish : (t u : Bool) → (if t then start else if u then finish else inner) ≡ finish → u ≡ true
is_finish true u e = cc
is_finish false true e = refl
is_finish false false e = cc

pub good_start : (c : Character) → mark c ≡ start → c ≡ good 0x02
unfolding mark
good_start (good b) e = ap good (eqb-true b 0x02 (is_start (eqb b 0x02) (eqb b 0x03) e))
good_start (damaged b) e = cc

pub good_finish : (c : Character) → mark c ≡ finish → c ≡ good 0x03
unfolding mark
good_finish (good b) e = ap good (eqb-true b 0x03 (is_finish (eqb b 0x02) (eqb b 0x03) e))
good_finish (damaged b) e = cc

-- BODIES

-- the characters go on with a body and its ETX
pub record Ends (cs l : List Character) : Type 0 where
  pub behind : List Character
  pub whole : cs ≡ l ++ (good 0x03 ∷ behind)
  pub inside : Unmarked l

ends_by : (c : Character) (cs l : List Character) → ((l' : List Character) → body cs ≡ Some l' → Ends cs l')
    → (m : Mark) → mark c ≡ m → (o : Option (List Character)) → body cs ≡ o → body_at m c o ≡ Some l → Ends (c ∷ cs) l
ends_by c cs l below start e o f h = absurd (none-some l h)
ends_by c cs l below finish e o f h =
    let empty : [] ≡ l = cc in
    rw (← empty) (record { behind = cs; whole = ap (λ (d : Character). d ∷ cs) (good_finish c e); inside = nil })
ends_by c cs l below inner e None f h = absurd (none-some l h)
ends_by c cs l below inner e (Some l') f h =
    let more : c ∷ l' ≡ l = cc in
    let r = below l' f in
    rw (← more) (record { behind = r.behind; whole = ap (λ (ds : List Character). c ∷ ds) r.whole; inside = cons e r.inside })

pub body_ends : (cs l : List Character) → body cs ≡ Some l → Ends cs l
body_ends [] l h = absurd (none-some l h)
body_ends (c ∷ cs) l h = ends_by c cs l (λ l' h'. body_ends cs l' h') (mark c) refl (body cs) refl h

body_back : {l : List Character} → Unmarked l → (behind : List Character) → body (l ++ (good 0x03 ∷ behind)) ≡ Some l
unfolding mark
body_back nil behind = refl
body_back (cons {c} {cs} e u) behind =
    ap (body_at (mark c) c) (body_back u behind) ∙ ap (λ (m : Mark). body_at m c (Some cs)) e

-- RUNS

-- as `StandsIn`, where the first character is at a place
record From (p : ℕ) (cs : List Character) (r : Run) : Type 0 where
  before : List Character
  behind : List Character
  whole : cs ≡ before ++ (good 0x02 ∷ (r.body ++ (good 0x03 ∷ behind)))
  place : p + length before ≡ r.place
  inside : Unmarked r.body

later : (p : ℕ) (c : Character) (cs : List Character) (r : Run) → From (p + 1) cs r → From p (c ∷ cs) r
later p c cs r f =
    record {
      before = c ∷ f.before;
      behind = f.behind;
      whole = ap (λ (ds : List Character). c ∷ ds) f.whole;
      place = omega (arith, f.place);
      inside = f.inside;
    }

here : (p : ℕ) (c : Character) (cs l : List Character) → mark c ≡ start → Ends cs l → From p (c ∷ cs) (record { place = p; body = l })
here p c cs l e ends =
    record {
      before = [];
      behind = ends.behind;
      whole = rw (good_start c e) (ap (λ (ds : List Character). good 0x02 ∷ ds) ends.whole);
      place = omega arith;
      inside = ends.inside;
    }

module _ (p : ℕ) (c : Character) (cs : List Character) (r : Run) (below : Memᴰ r (runs_from (p + 1) cs) → From (p + 1) cs r) where
  only_by : (k : Mark) → mark c ≡ k → (o : Option (List Character)) → body cs ≡ o
      → Memᴰ r (ahead (run_at k p o) (runs_from (p + 1) cs)) → From p (c ∷ cs) r
  only_by start e None f m = later p c cs r (below m)
  only_by start e (Some l) f m =
      ⊎_elim (λ (is : r ≡ record { place = p; body = l }). rw is (here p c cs l e (body_ends cs l f))) (λ m'. later p c cs r (below m'))
      (Memᴰ.cases_cons m)
  only_by finish e o f m = later p c cs r (below m)
  only_by inner e o f m = later p c cs r (below m)

only : (p : ℕ) (cs : List Character) (r : Run) → Memᴰ r (runs_from p cs) → From p cs r
only p [] r m = absurd (Memᴰ.not-nil m)
only p (c ∷ cs) r m = only_by p c cs r (λ m'. only (p + 1) cs r m') (mark c) refl (body cs) refl m

pub in_ahead : {A : Type 0} (o : Option A) {a : A} {as' : List A} → Memᴰ a as' → Memᴰ a (ahead o as')
in_ahead None m = m
in_ahead (Some x) m = Memᴰ.tail m

every : (p : ℕ) (before behind : List Character) (r : Run) → Unmarked r.body → p + length before ≡ r.place
    → Memᴰ r (runs_from p (before ++ (good 0x02 ∷ (r.body ++ (good 0x03 ∷ behind)))))
unfolding mark
every p [] behind r u e =
    let is : p ≡ r.place = omega arith in
    rw (body_back u behind) (Memᴰ.head (ap (λ (q : ℕ). record { place = q; body = r.body }) (sym is)))
every p (c ∷ before) behind r u e = in_ahead (run_at (mark c) p _) (every (p + 1) before behind r u (omega arith))

ascending_by : (least p : ℕ) (cs : List Character) → least ≤ p
    → ((l : ℕ) → l ≤ p + 1 → Ascending l (map place_of (runs_from (p + 1) cs)))
    → (m : Mark) (o : Option (List Character)) → Ascending least (map place_of (ahead (run_at m p o) (runs_from (p + 1) cs)))
ascending_by least p cs h below start None = below least (omega arith)
ascending_by least p cs h below start (Some l) = (h, below (p + 1) (omega arith))
ascending_by least p cs h below finish o = below least (omega arith)
ascending_by least p cs h below inner o = below least (omega arith)

ascending : (least p : ℕ) (cs : List Character) → least ≤ p → Ascending least (map place_of (runs_from p cs))
ascending least p [] h = tt
ascending least p (c ∷ cs) h = ascending_by least p cs h (λ l h'. ascending l (p + 1) cs h') (mark c) (body cs)

pub stands : (cs : List Character) (r : Run) → Memᴰ r (runs cs) → StandsIn cs r
stands cs r m =
    let f = only 0 cs r m in
    record { before = f.before; behind = f.behind; whole = f.whole; place = omega (arith, f.place); inside = f.inside }

pub all_runs : (cs : List Character) → Runs cs
all_runs cs =
    record {
      every = λ r s. rw s.whole (every 0 s.before s.behind r s.inside (omega (arith, s.place)));
      only = stands cs;
      in_order = ascending 0 0 cs (omega arith);
    }
