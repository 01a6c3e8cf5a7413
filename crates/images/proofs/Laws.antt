-- Stores at the front of a part, and a run of images that grows in a buffer.
use Prim.Native.Nat.{ℕ, zero, suc, ◌+◌, ◌-◌, ◌≤◌, ◌<◌}
use mathlib.Core.Path.{◌≡◌, refl, ap, sym}
use mathlib.Core.List.{List, [], ◌∷◌, ◌++◌, append_assoc, append-nil}
use native.Mathlib.Omega.{arith}
use native.Mathlib.Numerals.{add-one}
use native.Mathlib.Nat.{add_assoc, add-zero}
use lib.ListN.{length, take, drop, set, get_or, length-append, length-drop, take-append-drop, drop_of_length-le}
use lib.Seq.{take_at, drop_at, drop-drop, length-take-le, take_all}
use Rattle.paper.specs.Stream.{image, images, front}
use Rattle.paper.specs.Channel.{written}
use Rattle.paper.specs.declared.Item.{Item}
use Rattle.paper.specs.declared.Item.TheVariants.{Plain, Doubled, Damaged}
use Rattle.images.specs.Code.{kind_of, byte_of, item_in, items_in}

-- one to three stores at the front
pub front1 : (l : List ℕ) (a : ℕ) → 3 ≤ length l → set l 0 a ≡ front (a ∷ []) l
front1 [] a h = absurd (omega arith)
front1 (x ∷ l) a h = refl

pub front2 : (l : List ℕ) (a b : ℕ) → 3 ≤ length l → set (set l 0 a) 1 b ≡ front (a ∷ b ∷ []) l
front2 [] a b h = absurd (omega arith)
front2 (x ∷ []) a b h = absurd (omega arith)
front2 (x ∷ y ∷ l) a b h = refl

pub front3 : (l : List ℕ) (a b c : ℕ) → 3 ≤ length l → set (set (set l 0 a) 1 b) 2 c ≡ front (a ∷ b ∷ c ∷ []) l
front3 [] a b c h = absurd (omega arith)
front3 (x ∷ []) a b c h = absurd (omega arith)
front3 (x ∷ y ∷ []) a b c h = absurd (omega arith)
front3 (x ∷ y ∷ z ∷ l) a b c h = refl

pub image_short : (i : Item) → length (image i) ≤ 3
image_short (Plain b) = omega arith
image_short Doubled = omega arith
image_short (Damaged b) = omega arith

-- the item that stands in the arrays is the one that was put there
pub item_in_lem : (i : Item) → item_in (kind_of i) (byte_of i) ≡ i
unfolding item_in
item_in_lem (Plain b) = refl
item_in_lem Doubled = refl
item_in_lem (Damaged b) = refl

pub written_none : (old : List ℕ) (place : ℕ) → written old place [] ≡ old
written_none old place = rw (add-zero, take-append-drop)

pub length-written : (old : List ℕ) (place : ℕ) (xs : List ℕ) → place + length xs ≤ length old → length (written old place xs) ≡ length old
length-written old place xs h = rw (length-append, length-append, length-take-le place old (omega arith), length-drop) (omega arith)

-- a part that starts behind the run is given ys in front: the run grows by ys
written_more : (old : List ℕ) (place : ℕ) (xs ys : List ℕ) → place + length xs ≤ length old
    → take (place + length xs) (written old place xs) ++ front ys (drop (place + length xs) (written old place xs)) ≡ written old place (xs ++ ys)
written_more old place xs ys h =
    let p = take place old ++ xs in
    let n = place + length xs in
    let l : length p ≡ n = rw (length-append, length-take-le place old (omega arith)) in
    let e : written old place xs ≡ p ++ drop n old = sym (append_assoc (take place old) xs (drop n old)) in
    rw (e, take_at p (drop n old) n l, drop_at p (drop n old) n l, drop-drop, length-append, append_assoc, append_assoc, add_assoc)

-- a mutable part that starts at p and goes to the end: what it is lent, and what the whole is when it is back
pub part_rest : (l : List ℕ) (p : ℕ) → take (length l - p) (drop p l) ≡ drop p l
part_rest l p = take_all (length l - p) (drop p l) (omega (arith, length-drop p l))

back_rest : (l ys : List ℕ) (p : ℕ) → take p l ++ (ys ++ drop (length l - p) (drop p l)) ≡ take p l ++ ys
back_rest l ys p =
    let e : drop (length l - p) (drop p l) ≡ [] = drop_of_length-le (drop p l) {i = length l - p} (omega (arith, length-drop p l)) in
    rw (e, append-nil)

pub part_written : (old : List ℕ) (place : ℕ) (xs ys buffer last : List ℕ) (p : ℕ)
    → buffer ≡ written old place xs → p ≡ place + length xs → p ≤ length old
    → last ≡ front ys (take (length buffer - p) (drop p buffer))
    → take p buffer ++ (last ++ drop (length buffer - p) (drop p buffer)) ≡ written old place (xs ++ ys)
part_written old place xs ys buffer last p be pe h le = rw (back_rest, le, part_rest, be, pe) (written_more old place xs ys (omega arith))

-- one more item
pub images_more : (ks bs : List ℕ) (i : ℕ) → i < length ks → i < length bs
    → images (items_in (take (i + 1) ks) (take (i + 1) bs)) ≡ images (items_in (take i ks) (take i bs)) ++ image (item_in (get_or ks i 0) (get_or bs i 0))
images_more ks bs i h k = rw add-one (go ks bs i h k)
  where
    go : (ks bs : List ℕ) (i : ℕ) → i < length ks → i < length bs
        → images (items_in (take (suc i) ks) (take (suc i) bs)) ≡ images (items_in (take i ks) (take i bs)) ++ image (item_in (get_or ks i 0) (get_or bs i 0))
    go [] bs i h k = absurd (omega arith)
    go (x ∷ ks) [] i h k = absurd (omega arith)
    go (x ∷ ks) (y ∷ bs) zero h k = append-nil (image (item_in x y))
    go (x ∷ ks) (y ∷ bs) (suc i) h k = rw append_assoc (ap (λ (l : List ℕ). image (item_in x y) ++ l) (go ks bs i (omega arith) (omega arith)))
