-- The code's table of frames is the paper's.
use mathlib.Core.Bool.{Bool, true, false, and-false}
use mathlib.Core.List.{List, [], ◌∷◌}
use mathlib.Core.Option.{some, none}
use mathlib.Core.Path.{◌≡◌, refl}
use Prim.Native.Nat.{ℕ, suc, ◌-◌, ◌≤◌, ◌<◌}
use native.Mathlib.Omega.{arith}
use lib.Dec.{ltb}
use lib.ListN.{length, get_or, take, drop}
use lib.Seq.{take_all}
use borrow.Author.Tests.{ltb-true, ltb-false, ne_eqb, le-leb, lt-leb}
use Rattle.std.specs.Prelude.{Result}
use Rattle.paper.specs.Settings.{Size}
use Rattle.paper.specs.Card.{on, pick}
use Rattle.paper.specs.Frames.{call_of}
use Rattle.paper.specs.declared.Asked.{Asked}
use Rattle.paper.specs.declared.Asked.TheVariants as asked
use Rattle.paper.specs.declared.Refusal.{Refusal}
use Rattle.asking.specs.declared.Call.{Call}
use Rattle.asking.specs.Frame.{call_in, bad_channel, on_channel, Means}

-- what stands behind a frame's first byte
abbrev rest : List ℕ → List ℕ
rest f = take (length f - 1) (drop 1 f)

behind : (f : List ℕ) (k : ℕ) → get_or (rest f) k 0 ≡ get_or f (suc k) 0
behind [] k = refl
behind (b ∷ t) k = let e : suc (length t) - 1 ≡ length t = omega arith in rw (e, take_all (length t) t (omega arith))

module _ (z : Size) (f : List ℕ) where
  -- a row: what it asks for, if there is the channel
  row : (a : Asked) (r : Result Call Refusal) → call_of z f ≡ some (on (get_or f 1 0) (call_in z f a)) → 2 ≤ length f
      → r ≡ on_channel (get_or f 1 0) a → Means z f r (call_of z f)
  unfolding on_channel
  row a r is long e = go (ltb 3 (get_or f 1 0)) refl
    where
      go : (t : Bool) → ltb 3 (get_or f 1 0) ≡ t → Means z f r (call_of z f)
      go true h = rw (e, h) (bad_channel (record { number = get_or f 1 0; asked = call_in z f a; call = is; above = ltb-true 3 (get_or f 1 0) h }))
      go false h = rw (e, h) (record { call = is; channel = ltb-false 3 (get_or f 1 0) h; long = long })

  -- THE ROWS

  pub row_01 : (r : Result Call Refusal) → length f ≡ 4 → get_or f 0 0 ≡ 0x01 → r ≡ on_channel (get_or (rest f) 0 0) (asked.Arrive (get_or (rest f) 1 0) (get_or (rest f) 2 0)) → Means z f r (call_of z f)
  unfolding call_of
  row_01 r l e is = row (asked.Arrive (get_or f 2 0) (get_or f 3 0)) r (rw (l, e)) (omega arith) (rw (behind f 0, behind f 1, behind f 2) at is)

  pub row_02 : (r : Result Call Refusal) → length f ≡ 3 → get_or f 0 0 ≡ 0x02 → r ≡ on_channel (get_or (rest f) 0 0) (asked.Read (get_or (rest f) 1 0)) → Means z f r (call_of z f)
  unfolding call_of
  row_02 r l e is = row (asked.Read (get_or f 2 0)) r (rw (l, e)) (omega arith) (rw (behind f 0, behind f 1) at is)

  pub row_04 : (r : Result Call Refusal) → length f ≡ 2 → get_or f 0 0 ≡ 0x04 → r ≡ on_channel (get_or (rest f) 0 0) (asked.Turn) → Means z f r (call_of z f)
  unfolding call_of
  row_04 r l e is = row (asked.Turn) r (rw (l, e)) (omega arith) (rw (behind f 0) at is)

  pub row_05 : (r : Result Call Refusal) → length f ≡ 3 → get_or f 0 0 ≡ 0x05 → r ≡ on_channel (get_or (rest f) 0 0) (asked.SetCts (get_or (rest f) 1 0)) → Means z f r (call_of z f)
  unfolding call_of
  row_05 r l e is = row (asked.SetCts (get_or f 2 0)) r (rw (l, e)) (omega arith) (rw (behind f 0, behind f 1) at is)

  pub row_06 : (r : Result Call Refusal) → length f ≡ 3 → get_or f 0 0 ≡ 0x06 → r ≡ on_channel (get_or (rest f) 0 0) (asked.AskSpecial (get_or (rest f) 1 0)) → Means z f r (call_of z f)
  unfolding call_of
  row_06 r l e is = row (asked.AskSpecial (get_or f 2 0)) r (rw (l, e)) (omega arith) (rw (behind f 0, behind f 1) at is)

  pub row_09 : (r : Result Call Refusal) → length f ≡ 2 → get_or f 0 0 ≡ 0x09 → r ≡ on_channel (get_or (rest f) 0 0) (asked.Reset) → Means z f r (call_of z f)
  unfolding call_of
  row_09 r l e is = row (asked.Reset) r (rw (l, e)) (omega arith) (rw (behind f 0) at is)

  pub row_0_a : (r : Result Call Refusal) → length f ≡ 2 → get_or f 0 0 ≡ 0x0A → r ≡ on_channel (get_or (rest f) 0 0) (asked.State) → Means z f r (call_of z f)
  unfolding call_of
  row_0_a r l e is = row (asked.State) r (rw (l, e)) (omega arith) (rw (behind f 0) at is)

  pub row_03 : (r : Result Call Refusal) → 2 ≤ length f → get_or f 0 0 ≡ 0x03 → r ≡ on_channel (get_or (rest f) 0 0) asked.Load → Means z f r (call_of z f)
  unfolding call_of
  row_03 r l e is = row asked.Load r (rw (e, le-leb 2 (length f) l)) l (rw (behind f 0) at is)

  pub row_07 : (r : Result Call Refusal) → 2 ≤ length f → get_or f 0 0 ≡ 0x07 → r ≡ on_channel (get_or (rest f) 0 0) asked.TakeSettings → Means z f r (call_of z f)
  unfolding call_of
  row_07 r l e is = row asked.TakeSettings r (rw (e, le-leb 2 (length f) l)) l (rw (behind f 0) at is)

  pub row_08 : length f ≡ 1 → get_or f 0 0 ≡ 0x08 → call_of z f ≡ some pick
  unfolding call_of
  row_08 l e = rw (l, e)

  -- NO ROW
  pub not_01 : get_or f 0 0 ≡ 0x01 → (length f ≡ 4 → ⊥) → call_of z f ≡ none
  unfolding call_of
  not_01 e l = rw (e, ne_eqb _ _ l)

  pub not_02 : get_or f 0 0 ≡ 0x02 → (length f ≡ 3 → ⊥) → call_of z f ≡ none
  unfolding call_of
  not_02 e l = rw (e, ne_eqb _ _ l)

  pub not_04 : get_or f 0 0 ≡ 0x04 → (length f ≡ 2 → ⊥) → call_of z f ≡ none
  unfolding call_of
  not_04 e l = rw (e, ne_eqb _ _ l)

  pub not_05 : get_or f 0 0 ≡ 0x05 → (length f ≡ 3 → ⊥) → call_of z f ≡ none
  unfolding call_of
  not_05 e l = rw (e, ne_eqb _ _ l)

  pub not_06 : get_or f 0 0 ≡ 0x06 → (length f ≡ 3 → ⊥) → call_of z f ≡ none
  unfolding call_of
  not_06 e l = rw (e, ne_eqb _ _ l)

  pub not_08 : get_or f 0 0 ≡ 0x08 → (length f ≡ 1 → ⊥) → call_of z f ≡ none
  unfolding call_of
  not_08 e l = rw (e, ne_eqb _ _ l)

  pub not_09 : get_or f 0 0 ≡ 0x09 → (length f ≡ 2 → ⊥) → call_of z f ≡ none
  unfolding call_of
  not_09 e l = rw (e, ne_eqb _ _ l)

  pub not_0_a : get_or f 0 0 ≡ 0x0A → (length f ≡ 2 → ⊥) → call_of z f ≡ none
  unfolding call_of
  not_0_a e l = rw (e, ne_eqb _ _ l)

  pub not_03 : get_or f 0 0 ≡ 0x03 → length f < 2 → call_of z f ≡ none
  unfolding call_of
  not_03 e l = rw (e, lt-leb 2 (length f) l)

  pub not_07 : get_or f 0 0 ≡ 0x07 → length f < 2 → call_of z f ≡ none
  unfolding call_of
  not_07 e l = rw (e, lt-leb 2 (length f) l)

  pub unknown : length f < 1 → call_of z f ≡ none
  unfolding call_of
  unknown l = let e : length f ≡ 0 = omega arith in simp (e, and-false)

  -- "an unknown first byte"
  pub unlisted : (get_or f 0 0 ≡ 1 → ⊥) → (get_or f 0 0 ≡ 2 → ⊥) → (get_or f 0 0 ≡ 3 → ⊥) → (get_or f 0 0 ≡ 4 → ⊥) → (get_or f 0 0 ≡ 5 → ⊥)
      → (get_or f 0 0 ≡ 6 → ⊥) → (get_or f 0 0 ≡ 7 → ⊥) → (get_or f 0 0 ≡ 8 → ⊥) → (get_or f 0 0 ≡ 9 → ⊥) → (get_or f 0 0 ≡ 10 → ⊥) → call_of z f ≡ none
  unfolding call_of
  unlisted n1 n2 n3 n4 n5 n6 n7 n8 n9 n10 =
      simp (ne_eqb _ _ n1, ne_eqb _ _ n2, ne_eqb _ _ n3, ne_eqb _ _ n4, ne_eqb _ _ n5, ne_eqb _ _ n6, ne_eqb _ _ n7, ne_eqb _ _ n8, ne_eqb _ _ n9, ne_eqb _ _ n10)
