-- One text behind another.
use mathlib.Core.List.{List, [], ◌∷◌, ◌++◌, append_assoc, append-nil}
use mathlib.Core.Path.{◌≡◌, refl, sym, ap, ◌∙◌}
use Prim.Native.Nat.{ℕ, suc, ◌+◌, ◌-◌, ◌*◌, ◌≤◌, ◌<◌}
use native.Mathlib.Nat.{mul-le-mul_right, suc-mul, sub-zero}
use native.Mathlib.Omega.{arith}
use native.Mathlib.Numerals.{add-one}
use lib.ListN.{length, get_or, take, length-append}
use lib.Seq.{take_all, take-suc}
use Rattle.paper.specs.Text.{each}
use Rattle.page.specs.Page.{Page, with_text}

pub with_text_then : (t u : List ℕ) (p : Page) → with_text u (with_text t p) ≡ with_text (t ++ u) p
with_text_then t u p =
    let left : p.room - length t - length u ≡ p.room - (length t + length u) = omega arith in
    rw (append_assoc p.text t u, length-append t u, left)

-- TEXTS ONE BEHIND THE OTHER

each_behind : {A : Type 0} (f : A → List ℕ) (l : List A) (a : A) → each f (l ++ a ∷ []) ≡ each f l ++ f a
each_behind f [] a = append-nil (f a)
each_behind f (b ∷ l) a = ap (f b ++◌) (each_behind f l a) ∙ sym (append_assoc (f b) (each f l) (f a))

-- of a list's members so many are on the page, each no longer than that
pub record EachPut {A : Type 0} (f : A → List ℕ) (longest : ℕ) (l : List A) (before : Page) (i : ℕ) (after : Page) : Type 0 where
  pub put : after ≡ with_text (each f (take i l)) before
  pub short : length (each f (take i l)) ≤ i * longest

module _ {A : Type 0} (f : A → List ℕ) (longest : ℕ) (l : List A) {before after : Page} {i : ℕ} (u : EachPut f longest l before i after) where
  -- room for one more
  pub each_room : i < length l → length l * longest ≤ before.room → longest ≤ after.room
  each_room h room =
      let next : suc i * longest ≤ length l * longest = mul-le-mul_right longest (omega arith) in
      rw u.put (omega (arith, u.short, next, suc-mul i longest))

  pub one_more : (a : A) → {next : Page} → i < length l → length (f (get_or l i a)) ≤ longest → next ≡ with_text (f (get_or l i a)) after
      → EachPut f longest l before (i + 1) next
  one_more a h few w =
      let more : each f (take (i + 1) l) ≡ each f (take i l) ++ f (get_or l i a) = rw (add-one, take-suc l i a h) (each_behind f (take i l) (get_or l i a)) in
      record {
        put = w ∙ ap (with_text (f (get_or l i a))) u.put ∙ with_text_then _ _ before ∙ ap (λ (t : List ℕ). with_text t before) (sym more);
        short = rw (more, length-append) (omega (arith, u.short));
      }

  pub all_put : length l ≤ i → after ≡ with_text (each f l) before
  all_put h = rw (take_all i l h) at u.put

pub none_put : {A : Type 0} (f : A → List ℕ) (longest : ℕ) (l : List A) (p : Page) → EachPut f longest l p 0 p
none_put f longest l p = record { put = rw (append-nil, sub-zero) refl; short = omega arith }
