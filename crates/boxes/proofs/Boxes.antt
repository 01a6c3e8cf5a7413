-- Two boxes in a row: one law, that a setting which does as both on CR alone and on NL alone does so on every list, and one computed test of all pairs.
use mathlib.Core.Bool.{Bool, true, false, true≢false, not, ◌&&◌, ◌||◌}
use mathlib.Core.List.{List, [], ◌∷◌, ◌++◌, map, append-nil, map-append, Memᴰ}
use mathlib.Core.Path.{◌≡◌, refl, sym, ap, ◌∙◌}
use Prim.Native.Nat.{ℕ, ◌≤◌}
use native.Mathlib.Omega.{arith}
use lib.Dec.{eqb, ltb}
use borrow.Author.Tests.{eqb-true, ne_eqb, not-true, ltb-false, le-ltb}
use Rattle.std.specs.Prelude.{is_some, if◌then◌else◌, Option, None, Some, Ok, Err}
use Rattle.paper.specs.Choice.{outside}
use Rattle.paper.specs.Rate.{every}
use Rattle.paper.specs.Text.{each}
use Rattle.paper.specs.Arrival as steps
use Rattle.paper.specs.Arrival.{CR, NL, ending, good_item, marking, ending_ruling, woken, stripped, step4, step5, step6, step7, arrival}
use Rattle.paper.specs.Stream.{good}
use Rattle.paper.specs.TwoBoxes.{comes, acts, followed, works_on, works, eight, single, one_ending}
use Rattle.paper.specs.declared.Settings.{Settings}
use Rattle.paper.specs.declared.Flags.{Flags}
use Rattle.paper.specs.declared.Item.TheVariants.{Plain, Doubled}
use Rattle.paper.specs.declared.Refusal.TheVariants.{BadField}
use Rattle.demands.specs.Marks.{character_of}
use Rattle.boxes.specs.Boxes.{stored, handed_on, Plainly, Step7, Works, Fails, shown, Says, TwoBoxes, settled, UsedTwice}
use Rattle.demands.proofs.Choices.{both}
use Rattle.boxes.proofs.Lists.{same_is, not_same, among, among_is, every_member, every_from, first_from}

-- THE LAW

-- a character of its own
other : (setting b : ℕ) → eqb b CR ≡ false → eqb b NL ≡ false → ending setting b ≡ Some b
unfolding ending
other setting b c n = rw (c, n)

-- what comes out of one box, and more behind it
behind : (setting : ℕ) (o : Option ℕ) (l : List ℕ) → acts setting (comes o ++ l) ≡ acts setting (comes o) ++ acts setting l
behind setting None l = refl
behind setting (Some c) l = ap (◌++ acts setting l) (sym (append-nil (comes (ending setting c))))

module _ (first second one : ℕ) where
  -- character by character
  by_characters : ((b : ℕ) → acts one (b ∷ []) ≡ followed first second (b ∷ [])) → Works first second one
  by_characters h [] = refl
  by_characters h (b ∷ l) =
      let here : comes (ending one b) ≡ acts second (comes (ending first b)) = rw (append-nil, append-nil) at (h b) in
      rw (here, by_characters h l) (sym (behind second (ending first b) (acts first l)))

  -- CR and NL are the only ones that a setting alters
  pub from_two : works first second one ≡ true → Works first second one
  unfolding works
  from_two h = by_characters (λ b. go b (eqb b CR) (eqb b NL) refl refl)
    where
      two : (works_on first second one (CR ∷ []) ≡ true) × (works_on first second one (NL ∷ []) ≡ true)
      two = both (works_on first second one (CR ∷ [])) (works_on first second one (NL ∷ [])) h

      go : (b : ℕ) (c n : Bool) → eqb b CR ≡ c → eqb b NL ≡ n → acts one (b ∷ []) ≡ followed first second (b ∷ [])
      go b true n e f = rw (eqb-true b CR e) (same_is (acts one (CR ∷ [])) (followed first second (CR ∷ [])) two.0)
      go b false true e f = rw (eqb-true b NL f) (same_is (acts one (NL ∷ [])) (followed first second (NL ∷ [])) two.1)
      go b false false e f = rw (other one b e f, other first b e f, other second b e f)

  -- a setting that fails the test fails on CR or on NL
  pub fails_on : works first second one ≡ false → (l : List ℕ) × Fails first second one l
  unfolding works
  fails_on h = go (works_on first second one (CR ∷ [])) refl h
    where
      go : (t : Bool) → works_on first second one (CR ∷ []) ≡ t → (t && works_on first second one (NL ∷ [])) ≡ false → (l : List ℕ) × Fails first second one l
      go true e f = (NL ∷ [], not_same (acts one (NL ∷ [])) (followed first second (NL ∷ [])) f)
      go false e f = (CR ∷ [], not_same (acts one (CR ∷ [])) (followed first second (CR ∷ [])) e)

-- THE COMPUTED TEST

-- a pair has a single setting, or a lone NL shows that none of the eight does
abbrev settles : (first second : ℕ) → Bool
settles first second = is_some (single first second) || every (λ one. not (works_on first second one shown)) eight

all_settle : every (λ first. every (settles first) eight) eight ≡ true
unfolding every works single ending
all_settle = refl

-- THE TABLE

module _ (first second : ℕ) (f : first ≤ 7) (s : second ≤ 7) where
  none_works : single first second ≡ None → (one : ℕ) → one ≤ 7 → Fails first second one shown
  none_works e one o =
      let row = every_from (λ n. every (settles n) eight) 0 8 all_settle first (omega arith) (omega arith) in
      let here : settles first second ≡ true = every_from (settles first) 0 8 row second (omega arith) (omega arith) in
      let none-of-eight : every (λ n. not (works_on first second n shown)) eight ≡ true = rw e at here in
      let this = every_from (λ n. not (works_on first second n shown)) 0 8 none-of-eight one (omega arith) (omega arith) in
      not_same (acts one shown) (followed first second shown) (not-true (works_on first second one shown) this)

  works_least : (one : ℕ) → single first second ≡ Some one → Says first second (Ok (Some one))
  unfolding single
  works_least one e =
      let found = first_from (works first second) 0 8 one e in
      Says.works {one = one} f s (omega (arith, found.most)) (from_two first second one found.passes)
      (λ less l. fails_on first second less (found.before less (omega arith) l))

  says_single : (o : Option ℕ) → single first second ≡ o → Says first second (Ok o)
  says_single None e = Says.none_works f s (none_works e)
  says_single (Some one) e = works_least one e

-- of the eight, or not
inside : (n : ℕ) → outside 0 7 n ≡ false → n ≤ 7
inside n h = ltb-false 7 n (either (ltb n 0) (ltb 7 n) h)
  where
    either : (t u : Bool) → (t || u) ≡ false → u ≡ false
    either false u e = e
    either true u e = absurd (true≢false e)

not_inside : (n : ℕ) → outside 0 7 n ≡ true → n ≤ 7 → ⊥
not_inside n h l = true≢false (sym h ∙ rw (le-ltb n 0 (omega arith), le-ltb 7 n l))

pub two_boxes : TwoBoxes
unfolding one_ending
two_boxes first second = go (outside 0 7 first) (outside 0 7 second) refl refl
  where
    go : (t u : Bool) → outside 0 7 first ≡ t → outside 0 7 second ≡ u
        → Says first second (if t || u then Err (BadField 4) else Ok (single first second))
    go true u e f = Says.refused (λ l m. not_inside first e l)
    go false true e f = Says.refused (λ l m. not_inside second f m)
    go false false e f = says_single first second (inside first e) (inside second f) (single first second) refl

-- USED TWICE

all_settled : every (λ setting. works setting setting setting) settled ≡ true
unfolding every works ending
all_settled = refl

-- of the eight each is settled, or a lone NL shows that it is not
each_tested : every (λ setting. among settled setting || not (works_on setting setting setting shown)) eight ≡ true
unfolding every ending
each_tested = refl

pub used_twice : (setting : ℕ) → UsedTwice setting
used_twice setting =
    record {
      nothing_more = λ m. from_two setting setting setting (every_member (λ n. works n n n) settled all_settled m);
      more = λ l out.
          not_same (acts setting shown) (followed setting setting shown)
          (either (among settled setting) refl out (every_from (λ n. among settled n || not (works_on n n n shown)) 0 8 each_tested setting (omega arith) (omega arith)));
    }
  where
    either : (t : Bool) → among settled setting ≡ t → (Memᴰ setting settled → ⊥) → (t || not (works_on setting setting setting shown)) ≡ true
        → works_on setting setting setting shown ≡ false
    either true e out h = absurd (out (among_is settled e))
    either false e out h = not-true (works_on setting setting setting shown) h

-- STEP 7

-- "any other good byte makes a plain item", and FF in mark mode a doubled one: either stands for the good character
stored_good : (s : Settings) (b : ℕ) → character_of (good_item s b) ≡ good b
unfolding good_item
stored_good s b = go (marking s) (eqb b 0xFF) refl
  where
    go : (m t : Bool) → eqb b 0xFF ≡ t → character_of (if m && t then Doubled else Plain b) ≡ good b
    go true true e = ap good (sym (eqb-true b 0xFF e))
    go true false e = refl
    go false t e = refl

stored_out : (s : Settings) (o : Option ℕ) → stored (ending_ruling s o) ≡ map good (comes o)
stored_out s None = refl
stored_out s (Some b) = rw (stored_good s b)

step7_stores : (s : Settings) (running : Bool) (l : List ℕ) → each (λ b. stored (step7 s running b).ruling) l ≡ map good (acts s.endings l)
unfolding step7 ending
step7_stores s running [] = refl
step7_stores s running (b ∷ l) =
    let out = comes (ending s.endings b) in
    rw (stored_out s (ending s.endings b), step7_stores s running l) (sym (map-append good out (acts s.endings l)))

module _ (s : Settings) (p : Plainly s) (f : Flags) (unmarked : f.literal ≡ false) where
  -- a good character takes step 7 alone
  takes_step7 : (b : ℕ) → arrival s f 0 b ≡ step7 s (woken s f) b
  unfolding arrival steps.good stripped step4 step5 step6
  takes_step7 b = rw (p.strip, p.flow, p.literal, unmarked)

  handed_out : (o : Option ℕ) → handed_on (ending_ruling s o) ≡ comes o
  unfolding good_item
  handed_out None = refl
  handed_out (Some b) = rw (ne_eqb s.damaged 4 p.unmarked)

  hands_on : (l : List ℕ) → each (λ b. handed_on (arrival s f 0 b).ruling) l ≡ acts s.endings l
  unfolding step7 ending
  hands_on [] = refl
  hands_on (b ∷ l) = rw (takes_step7 b, handed_out (ending s.endings b), hands_on l)

pub step7_acts : (s : Settings) → Step7 s
step7_acts s = record { stores = step7_stores s; alone = hands_on s }
