-- Lists that are the same, and tests of members and of numbers in a row. Assumes nothing.
use mathlib.Core.Bool.{Bool, true, false, true≢false, ◌||◌}
use mathlib.Core.List.Memᴰ
use mathlib.Core.List.{List, [], ◌∷◌, Memᴰ}
use mathlib.Core.Logic.{◌≢◌, ⊎_elim}
use mathlib.Core.Path.{◌≡◌, refl, sym, ap, ◌∙◌}
use Prim.Native.Nat.{ℕ, zero, suc, ◌+◌, ◌≤◌, ◌<◌}
use native.Mathlib.Nat.{eq-or-lt_of_le}
use native.Mathlib.Omega.{arith}
use lib.Dec.{eqb}
use borrow.Author.Tests.{eqb-true, eq-eqb}
use Rattle.std.specs.Prelude.{cond, Some}
use Rattle.std.specs.List.{find}
use Rattle.std.proofs.lemmas.Option.{none-some, same_Some}
use Rattle.paper.specs.Rate.{every}
use Rattle.paper.specs.TwoBoxes.{same}
use Rattle.demands.proofs.Choices.{both}

-- THE SAME

pub same_is : (l m : List ℕ) → same l m ≡ true → l ≡ m
same_is [] [] h = refl
same_is [] (c ∷ m) h = absurd (true≢false (sym h))
same_is (b ∷ l) [] h = absurd (true≢false (sym h))
same_is (b ∷ l) (c ∷ m) h = (let parts = both (eqb b c) (same l m) h in rw (eqb-true b c parts.0, same_is l m parts.1))

same_self : (l : List ℕ) → same l l ≡ true
same_self [] = refl
same_self (b ∷ l) = rw (eq-eqb b b refl, same_self l)

pub not_same : (l m : List ℕ) → same l m ≡ false → l ≢ m
not_same l m h e = true≢false (sym (same_self l) ∙ ap (same l) e ∙ h)

-- MEMBERS

abbrev pub among : List ℕ → ℕ → Bool
among [] n = false
among (m ∷ l) n = eqb n m || among l n

pub among_is : (l : List ℕ) {n : ℕ} → among l n ≡ true → Memᴰ n l
among_is [] h = absurd (true≢false (sym h))
among_is (m ∷ l) {n} h = go (eqb n m) refl h (among_is l)
  where
    go : (t : Bool) → eqb n m ≡ t → (t || among l n) ≡ true → (among l n ≡ true → Memᴰ n l) → Memᴰ n (m ∷ l)
    go true e h on = Memᴰ.head (eqb-true n m e)
    go false e h on = Memᴰ.tail (on h)

pub every_member : (test : ℕ → Bool) (l : List ℕ) → every test l ≡ true → {n : ℕ} → Memᴰ n l → test n ≡ true
unfolding every
every_member test [] h m = absurd (Memᴰ.not-nil m)
every_member test (m ∷ l) h (Memᴰ.head e) = ap test e ∙ (both (test m) (every test l) h).0
every_member test (m ∷ l) h (Memᴰ.tail t) = every_member test l (both (test m) (every test l) h).1 t

-- NUMBERS IN A ROW

-- so many numbers, from one on
abbrev pub from : (start many : ℕ) → List ℕ
from start zero = []
from start (suc many) = start ∷ from (suc start) many

module _ (test : ℕ → Bool) where
  pub every_from : (start many : ℕ) → every test (from start many) ≡ true → (n : ℕ) → start ≤ n → n < start + many → test n ≡ true
  unfolding every
  every_from start zero h n l r = absurd (omega arith)
  every_from start (suc many) h n l r =
      let parts = both (test start) (every test (from (suc start) many)) h in
      ⊎_elim
      (λ (e : start ≡ n). ap test (sym e) ∙ parts.0)
      (λ (m : start < n). every_from (suc start) many parts.1 n (omega arith) (omega arith))
      (eq-or-lt_of_le l)

  -- the first that passes
  pub record FirstFrom (start many one : ℕ) : Type 0 where
    pub least : start ≤ one
    pub most : one < start + many
    pub passes : test one ≡ true
    pub before : (less : ℕ) → start ≤ less → less < one → test less ≡ false

  later : (start many one : ℕ) → test start ≡ false → FirstFrom (suc start) many one → FirstFrom start (suc many) one
  later start many one fails f =
      record {
        least = omega (arith, f.least);
        most = omega (arith, f.most);
        passes = f.passes;
        before = λ less l r. ⊎_elim (λ (e : start ≡ less). ap test (sym e) ∙ fails) (λ (m : start < less). f.before less (omega arith) r) (eq-or-lt_of_le l);
      }

  pub first_from : (start many one : ℕ) → find test (from start many) ≡ Some one → FirstFrom start many one
  first_from start zero one h = absurd (none-some one h)
  first_from start (suc many) one h = go (test start) refl h (first_from (suc start) many one)
    where
      go : (t : Bool) → test start ≡ t → cond t (Some start) (find test (from (suc start) many)) ≡ Some one
          → (find test (from (suc start) many) ≡ Some one → FirstFrom (suc start) many one) → FirstFrom start (suc many) one
      go true e h on =
          let is : start ≡ one = same_Some start one h in
          record { least = omega arith; most = omega arith; passes = ap test (sym is) ∙ e; before = λ less l r. absurd (omega arith) }
      go false e h on = later start many one e (on h)
