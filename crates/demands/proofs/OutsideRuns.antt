-- What stands outside every run changes no entry but its place.
use mathlib.Core.Path.{◌≡◌, refl, sym, ap, ◌∙◌}
use mathlib.Core.List.{List, [], ◌∷◌, ◌++◌, map, append_assoc}
use mathlib.Core.Bool.{Bool, true, false}
use Rattle.std.specs.Prelude.{Option, Some, None}
use Prim.Native.Nat.{ℕ, ◌+◌}
use Rattle.paper.specs.Stream.{Character, byte}
use Rattle.paper.specs.Confirmations.{confirmation_of, Mark, start, finish, inner, mark, ahead, body_at, body, Run, run_at, runs_from, runs, any_damaged, Finding, finding, findings, judgement, counted, last_after, judged, entries, accepted, litres, sum}
use Rattle.paper.specs.declared.Confirmation.{Confirmation}
use Rattle.paper.specs.declared.Judgement.{Judgement}
use Rattle.paper.specs.declared.Entry.{Entry}
use Rattle.demands.specs.Confirmations.{Unmarked, nil, cons, OutsideRuns, judgement_of, PlacesAlone}
use Rattle.demands.proofs.ConfirmationRuns.{good_start, body_ends}

-- WITHOUT PLACES

-- the bodies of the runs
abbrev body_from : Mark → Option (List Character) → Option (List Character)
body_from start o = o
body_from finish o = None
body_from inner o = None

abbrev bodies : List Character → List (List Character)
bodies [] = []
bodies (c ∷ cs) = ahead (body_from (mark c) (body cs)) (bodies cs)

-- what each says
abbrev content_from : (damaged : Bool) → Option Confirmation → Option (Option Confirmation)
content_from true o = Some None
content_from false None = None
content_from false (Some c) = Some (Some c)

abbrev contents : List (List Character) → List (Option Confirmation)
contents [] = []
contents (l ∷ ls) = ahead (content_from (any_damaged l) (confirmation_of (map byte l))) (contents ls)

abbrev judgements : Option ℕ → List (Option Confirmation) → List Judgement
judgements last [] = []
judgements last (o ∷ os) = judgement last o ∷ judgements (last_after last (counted (judgement last o))) os

abbrev body_in : Run → List Character
body_in r = r.body

abbrev content_in : Finding → Option Confirmation
content_in f = f.content

map-ahead : (m : Mark) (p : ℕ) (o : Option (List Character)) (rs : List Run)
    → map body_in (ahead (run_at m p o) rs) ≡ ahead (body_from m o) (map body_in rs)
map-ahead start p None rs = refl
map-ahead start p (Some l) rs = refl
map-ahead finish p o rs = refl
map-ahead inner p o rs = refl

runs_bodies : (p : ℕ) (cs : List Character) → map body_in (runs_from p cs) ≡ bodies cs
runs_bodies p [] = refl
runs_bodies p (c ∷ cs) = map-ahead (mark c) p (body cs) (runs_from (p + 1) cs) ∙ ap (ahead (body_from (mark c) (body cs))) (runs_bodies (p + 1) cs)

found_content : (p : ℕ) (t : Bool) (o : Option Confirmation) (fs : List Finding)
    → map content_in (ahead (finding p t o) fs) ≡ ahead (content_from t o) (map content_in fs)
found_content p true o fs = refl
found_content p false None fs = refl
found_content p false (Some c) fs = refl

findings_contents : (rs : List Run) → map content_in (findings rs) ≡ contents (map body_in rs)
findings_contents [] = refl
findings_contents (r ∷ rs) =
    found_content r.place (any_damaged r.body) (confirmation_of (map byte r.body)) (findings rs)
    ∙ ap (ahead (content_from (any_damaged r.body) (confirmation_of (map byte r.body)))) (findings_contents rs)

judged_judgements : (last : Option ℕ) (fs : List Finding) → map judgement_of (judged last fs) ≡ judgements last (map content_in fs)
judged_judgements last [] = refl
judged_judgements last (f ∷ fs) =
    ap (λ (vs : List Judgement). judgement last f.content ∷ vs) (judged_judgements (last_after last (counted (judgement last f.content))) fs)

-- the entries but for their places depend on nothing but the bodies of the runs
by_bodies : (cs : List Character) → map judgement_of (entries cs) ≡ judgements None (contents (bodies cs))
by_bodies cs =
    judged_judgements None (findings (runs cs))
    ∙ ap (judgements None) (findings_contents (runs cs) ∙ ap contents (runs_bodies 0 cs))

-- OUTSIDE RUNS

unmarked_bodies : {x : List Character} → Unmarked x → (b : List Character) → bodies (x ++ b) ≡ bodies b
unmarked_bodies nil b = refl
unmarked_bodies (cons {c} {cs} e u) b =
    ap (λ (m : Mark). ahead (body_from m (body (cs ++ b))) (bodies (cs ++ b))) e ∙ unmarked_bodies u b

unmarked_none : {x : List Character} → Unmarked x → (b : List Character) → body b ≡ None → body (x ++ b) ≡ None
unmarked_none nil b h = h
unmarked_none (cons {c} {cs} e u) b h = ap (body_at (mark c) c) (unmarked_none u b h) ∙ ap (λ (m : Mark). body_at m c None) e

module _ (x b : List Character) (u : Unmarked x) where
  -- a body that does not reach into b does not change
  same_body_by : (c : Character) (a : List Character) → (Unmarked (c ∷ a) → body b ≡ None)
      → ((Unmarked a → body b ≡ None) → body (a ++ (x ++ b)) ≡ body (a ++ b))
      → (m : Mark) → mark c ≡ m → body_at m c (body (a ++ (x ++ b))) ≡ body_at m c (body (a ++ b))
  same_body_by c a h below start e = refl
  same_body_by c a h below finish e = refl
  same_body_by c a h below inner e = ap (body_at inner c) (below (λ v. h (cons e v)))

  same_body : (a : List Character) → (Unmarked a → body b ≡ None) → body (a ++ (x ++ b)) ≡ body (a ++ b)
  same_body [] h = unmarked_none u b (h nil) ∙ sym (h nil)
  same_body (c ∷ a) h = same_body_by c a h (λ h'. same_body a h') (mark c) refl

  -- a run that is open at the end of a has no ETX in b
  unended : (c : Character) (a : List Character) → OutsideRuns (c ∷ a) b → mark c ≡ start → Unmarked a
      → (o : Option (List Character)) → body b ≡ o → o ≡ None
  unended c a out e v None h = refl
  unended c a out e v (Some y) h =
      let ends = body_ends b y h in
      absurd (out [] a y ends.behind (ap (λ (d : Character). d ∷ a) (good_start c e)) ends.whole v ends.inside)

  same_by : (c : Character) (a : List Character) → OutsideRuns (c ∷ a) b → bodies (a ++ (x ++ b)) ≡ bodies (a ++ b)
      → (m : Mark) → mark c ≡ m
      → ahead (body_from m (body (a ++ (x ++ b)))) (bodies (a ++ (x ++ b))) ≡ ahead (body_from m (body (a ++ b))) (bodies (a ++ b))
  same_by c a out below start e =
      ap (λ (o : Option (List Character)). ahead o (bodies (a ++ (x ++ b)))) (same_body a (λ v. unended c a out e v (body b) refl))
      ∙ ap (ahead (body (a ++ b))) below
  same_by c a out below finish e = below
  same_by c a out below inner e = below

  same_bodies : (a : List Character) → OutsideRuns a b → bodies (a ++ (x ++ b)) ≡ bodies (a ++ b)
  same_bodies [] out = unmarked_bodies u b
  same_bodies (c ∷ a) out =
      let later : OutsideRuns a b = λ before v w behind e. out (c ∷ before) v w behind (ap (λ (ds : List Character). c ∷ ds) e) in
      same_by c a out (same_bodies a later) (mark c) refl

-- THE SUM depends on nothing but the judgements

abbrev accepted_of : List Judgement → List Confirmation
accepted_of [] = []
accepted_of (j ∷ js) = ahead (counted j) (accepted_of js)

accepted_by : (es : List Entry) → accepted es ≡ accepted_of (map judgement_of es)
accepted_by [] = refl
accepted_by (e ∷ es) = ap (ahead (counted e.judgement)) (accepted_by es)

same_sum : (cs ds : List Character) → map judgement_of (entries cs) ≡ map judgement_of (entries ds) → sum cs ≡ sum ds
same_sum cs ds e = ap litres (accepted_by (entries cs) ∙ ap accepted_of e ∙ sym (accepted_by (entries ds)))

without : (a x b : List Character) → OutsideRuns a b → Unmarked x
    → map judgement_of (entries (a ++ x ++ b)) ≡ judgements None (contents (bodies (a ++ b)))
without a x b out u =
    rw append_assoc (by_bodies (a ++ (x ++ b)))
    ∙ ap (λ (ls : List (List Character)). judgements None (contents ls)) (same_bodies x b u a out)

pub places_alone : (a x y b : List Character) → OutsideRuns a b → Unmarked x → Unmarked y → PlacesAlone a x y b
places_alone a x y b out u v =
    let same = without a x b out u ∙ sym (without a y b out v) in
    record { judgements = same; sum = same_sum (a ++ x ++ b) (a ++ y ++ b) same }
