-- Over any test `near` that orders: the one kept by single looks is the first than which none is nearer. Assumes nothing.
use borrow.Author.Tests.{not-true}
use mathlib.Core.Bool.{Bool, true, false, not, ◌&&◌, and-true}
use mathlib.Core.List.{List, [], ◌∷◌, ◌++◌}
use mathlib.Core.Option.{some}
use mathlib.Core.Path.{◌≡◌, refl, ap, sym, ◌∙◌}
use Rattle.paper.specs.Rate.{every, first_of}
use Rattle.rates.specs.Looks.{pick, best}

drop_left : (x y z : Bool) → (y ≡ true → x ≡ true) → (x && (y && z)) ≡ (y && z)
drop_left x true z h = rw (h refl)
drop_left true false z h = refl
drop_left false false z h = refl

drop_right : (x y z : Bool) → (x ≡ true → y ≡ true) → (x && (y && z)) ≡ (x && z)
drop_right true y z h = rw (h refl)
drop_right false y z h = refl

left : (x y : Bool) → (x && y) ≡ true → x ≡ true
left true y h = refl
left false y h = h

pub record Ordered {A : Type 0} (near : A → A → Bool) : Type 0 where
  pub asym : (p q : A) → near p q ≡ true → near q p ≡ false
  pub keeps : (p q r : A) → near p q ≡ false → near q r ≡ false → near p r ≡ false

module _ {A : Type 0} {near : A → A → Bool} (o : Ordered near) where
  -- what beats q beats all that does not beat q
  beyond : (p q r : A) → near p q ≡ true → near r q ≡ false → near p r ≡ true
  beyond p q r h g = go (near p r) refl
    where
      go : (t : Bool) → near p r ≡ t → near p r ≡ true
      go true e = e
      go false e = cc (o.keeps p r q e g)

  -- what q beats, all beat that q does not beat
  ahead : (p q r : A) → near q r ≡ true → near q p ≡ false → near p r ≡ true
  ahead p q r h g = go (near p r) refl
    where
      go : (t : Bool) → near p r ≡ t → near p r ≡ true
      go true e = e
      go false e = cc (o.keeps q p r g e)

  trans : (p q r : A) → near p q ≡ true → near q r ≡ true → near p r ≡ true
  trans p q r h g = beyond p q r h (o.asym q r g)

  pub irrefl : (p : A) → near p p ≡ false
  irrefl p = go (near p p) refl
    where
      go : (t : Bool) → near p p ≡ t → near p p ≡ false
      go true e = o.asym p p e
      go false e = e

  pub takes : (b p : A) → near p b ≡ true → pick near b p ≡ p
  unfolding pick
  takes b p e = rw e

  pub stays : (b p : A) → near p b ≡ false → pick near b p ≡ b
  unfolding pick
  stays b p e = rw e

  -- one that the next look beats need not be looked at
  pub skip : (b p q : A) → near q p ≡ true → pick near (pick near b p) q ≡ pick near b q
  skip b p q h = go (near p b) refl
    where
      go : (t : Bool) → near p b ≡ t → pick near (pick near b p) q ≡ pick near b q
      go true e = ap (λ x. pick near x q) (takes b p e) ∙ takes p q h ∙ sym (takes b q (trans q p b h e))
      go false e = ap (λ x. pick near x q) (stays b p e)

  -- and one that the look before is not beaten by
  pub spare : (b p q : A) → near q p ≡ false → pick near (pick near b p) q ≡ pick near b p
  spare b p q h = go (near p b) refl
    where
      go : (t : Bool) → near p b ≡ t → pick near (pick near b p) q ≡ pick near b p
      go true e = ap (λ x. pick near x q) (takes b p e) ∙ stays p q h ∙ sym (takes b p e)
      go false e = ap (λ x. pick near x q) (stays b p e) ∙ stays b q (o.keeps q p b h e) ∙ sym (stays b p e)

  pub best-append : (b : A) (l m : List A) → best near b (l ++ m) ≡ best near (best near b l) m
  unfolding best
  best-append b [] m = refl
  best-append b (p ∷ l) m = best-append (pick near b p) l m

  -- a test that holds of all that do not beat one of which it holds, holds of all if it holds of what is kept
  pub every_best : (far : A → Bool)
      → ((p q : A) → far p ≡ true → near q p ≡ false → far q ≡ true)
      → (b : A) (l : List A) → every far (b ∷ l) ≡ far (best near b l)
  unfolding best every
  every_best far on b [] = and-true (far b)
  every_best far on b (p ∷ l) = go (near p b) refl ∙ every_best far on (pick near b p) l
    where
      go : (t : Bool) → near p b ≡ t → (far b && (far p && every far l)) ≡ (far (pick near b p) && every far l)
      go true e = rw (takes b p e) (drop_left (far b) (far p) (every far l) (λ h. on p b h (o.asym p b e)))
      go false e = rw (stays b p e) (drop_right (far b) (far p) (every far l) (λ h. on b p h e))

  -- one is beaten by none if what is kept does not beat it
  unbeaten_best : (b : A) (l : List A) (p : A) → every (λ q. not (near q p)) (b ∷ l) ≡ not (near (best near b l) p)
  unbeaten_best b l p =
      every_best (λ q. not (near q p)) (λ q r h e. ap not (o.keeps r q p e (not-true (near q p) h))) b l

  not_worse : (b : A) (l : List A) → near b (best near b l) ≡ false
  unfolding every
  not_worse b l =
      not-true (near b (best near b l))
      (left (not (near b (best near b l))) (every (λ q. not (near q (best near b l))) l)
      (unbeaten_best b l (best near b l) ∙ ap not (irrefl (best near b l))))

  found : (good : A → Bool) (b : A) (l : List A)
      → ((p : A) → good p ≡ not (near (best near b l) p))
      → first_of good (b ∷ l) ≡ some (best near b l)
  unfolding best first_of
  found good b [] same = rw (same b, irrefl b)
  found good b (p ∷ l) same = go (near p b) refl (near m b) refl ∙ found good (pick near b p) l same
    where
      m : A
      m = best near (pick near b p) l

      go : (t : Bool) → near p b ≡ t → (u : Bool) → near m b ≡ u → first_of good (b ∷ p ∷ l) ≡ first_of good (pick near b p ∷ l)
      go true e u g =
          let worse : near p m ≡ false = ap (λ x. near x m) (sym (takes b p e)) ∙ not_worse (pick near b p) l in
          rw (takes b p e, same b, ahead m p b e worse)
      go false e true g = rw (stays b p e, same b, g, same p, beyond m b p g e)
      go false e false g = rw (stays b p e, same b, g)

  pub first_best : (b : A) (l : List A) → first_of (λ p. every (λ q. not (near q p)) (b ∷ l)) (b ∷ l) ≡ some (best near b l)
  first_best b l = found (λ p. every (λ q. not (near q p)) (b ∷ l)) b l (unbeaten_best b l)
