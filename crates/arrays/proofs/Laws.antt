-- Arrays whose unused places hold zeros, at any number of places.
use mathlib.Core.Path.{◌≡◌, refl, ap}
use mathlib.Core.List.{List, [], ◌∷◌, ◌++◌, append_assoc}
use Prim.Native.Nat.{ℕ, zero, suc, ◌+◌, ◌-◌, ◌≤◌, ◌<◌, min}
use native.Mathlib.Omega.{arith}
use native.Mathlib.Nat.{zero-min, min-zero, suc-min-suc}
use native.Mathlib.Numerals.{add-one}
use lib.ListN.{length, take, drop, set, get_or, replicate, length-append, length-drop, length-set, length-replicate, replicate-append-replicate}
use lib.Seq.{set-append_seam, set-append_left, drop-append-le, take-suc, length-take-le}
use Rattle.arrays.specs.Padded.{padded}

-- all the places
pub padded_length : (places : ℕ) (l : List ℕ) → length l ≤ places → length (padded places l) ≡ places
padded_length places l h = simp (length-append, length-replicate) (omega arith)

-- one more element, in the first unused place
pub padded_put : (places : ℕ) (l : List ℕ) (a : ℕ) → length l < places → set (padded places l) (length l) a ≡ padded places (l ++ a ∷ [])
padded_put places l a h =
    let e : places - length l ≡ suc (places - suc (length l)) = omega arith in
    let f : places - length (l ++ a ∷ []) ≡ places - suc (length l) = omega (arith, length-append l (a ∷ [])) in
    rw (e, f, set-append_seam, append_assoc)

-- the elements of another list behind l, one after the other
pub padded_more : (places : ℕ) (l new : List ℕ) (i : ℕ) → length l + i < places → i < length new
    → set (padded places (l ++ take i new)) (length l + i) (get_or new i 0) ≡ padded places (l ++ take (i + 1) new)
padded_more places l new i h k =
    let e : length (l ++ take i new) ≡ length l + i = omega (arith, length-append l (take i new), length-take-le i new (omega arith)) in
    rw (add-one, take-suc new i 0, ← append_assoc, ← e) (padded_put places (l ++ take i new) (get_or new i 0) (omega arith))

-- another element in a used place
pub padded_set : (places : ℕ) (l : List ℕ) (i a : ℕ) → i < length l → set (padded places l) i a ≡ padded places (set l i a)
padded_set places l i a h = rw (set-append_left, length-set)

-- the first element stands at place 0
pub padded_head : (places : ℕ) (l : List ℕ) → 0 < length l → l ≡ get_or (padded places l) 0 0 ∷ drop 1 l
padded_head places [] h = absurd (omega arith)
padded_head places (a ∷ l) h = refl

-- the first n elements gone
pub padded_drop : (places n : ℕ) (l : List ℕ) → n ≤ length l → length l ≤ places
    → drop n (padded places l) ++ replicate n 0 ≡ padded places (drop n l)
padded_drop places n l h k =
    let e : places - length l + n ≡ places - length (drop n l) = omega (arith, length-drop n l) in
    rw (drop-append-le, append_assoc, replicate-append-replicate, e)

-- no more are taken, or left out, than there are
pub take_min : {A : Type 0} (n : ℕ) (l : List A) → take (min n (length l)) l ≡ take n l
take_min zero l = rw zero-min
take_min (suc n) [] = rw min-zero
take_min (suc n) (x ∷ l) = rw suc-min-suc (ap (λ (t : List _). x ∷ t) (take_min n l))

pub drop_min : {A : Type 0} (n : ℕ) (l : List A) → drop (min n (length l)) l ≡ drop n l
drop_min zero l = rw zero-min
drop_min (suc n) [] = rw min-zero
drop_min (suc n) (x ∷ l) = rw suc-min-suc (drop_min n l)
