-- A row of periods in two looks, all pairs row by row, and the answer.
use mathlib.Core.Bool.{Bool, true, false}
use mathlib.Core.List.{List, [], ◌∷◌, ◌++◌, append_assoc, append-nil}
use mathlib.Core.Path.{◌≡◌, refl, ap, sym, ◌∙◌}
use Prim.Native.Nat.{ℕ, zero, suc, ◌+◌, ◌-◌, ◌*◌, ◌≤◌, ◌<◌}
use native.Mathlib.Nat.{mul-le-mul_left}
use native.Mathlib.Numerals.{add-one}
use native.Mathlib.Omega.{arith}
use lib.Dec.{ltb}
use lib.ListN.{get_or, take}
use lib.Seq.{take_all, take-suc}
use Rattle.paper.specs.declared.Pair.{Pair}
use Rattle.paper.specs.declared.Refusal.TheVariants.{OutsideRange}
use Rattle.std.specs.Prelude.{Err}
use Rattle.paper.specs.Rate.{pair, row, divisors, rows, pairs, gap, nearer, out_of_range, choose}
use Rattle.rates.specs.Looks.{pick, best}
use Rattle.rates.specs.Rates.{InRange}
use Rattle.choosing.specs.Search.{Beside, told_of}
use Rattle.choosing.specs.Kept.{Kept}
use Rattle.choosing.specs.declared.Seen.{Seen}
use Rattle.choosing.specs.declared.Wanted.{Wanted}
use Rattle.rates.proofs.FirstBest.{skip, spare, best-append}
use Rattle.rates.proofs.Distances.{ordered, rises, falls}
use Rattle.rates.proofs.Rates.{start, by_looks, not_out_of_range}

row_starts : (d k n : ℕ) → row d k (suc n) ≡ pair d k ∷ row d (suc k) n
unfolding row
row_starts d k n = refl

module _ (clock wanted : ℕ) (running : 1 ≤ clock) where
  abbrev near : Pair → Pair → Bool
  near = nearer clock wanted

  looked_out : (b : Pair) (d k : ℕ) → best near b (row d k 0) ≡ b
  unfolding row best
  looked_out b d k = refl

  look_on : (b : Pair) (d k n : ℕ) → best near b (row d k (suc n)) ≡ best near (pick near b (pair d k)) (row d (suc k) n)
  unfolding row best
  look_on b d k n = refl

  module _ (d : ℕ) (some : 1 ≤ d) where
    -- up to the exact period only the last counts
    climbs : (b : Pair) (k n many : ℕ) → n < many → (1 ≤ n → wanted * d * (k + n) ≤ clock)
        → best near b (row d k many) ≡ best near b (row d (k + n) (many - n))
    unfolding row best
    climbs b k zero many less below =
        let start : k + 0 ≡ k = omega arith in
        let all : many - 0 ≡ many = omega arith in
        rw (start, all)
    climbs b k (suc n) zero less below = absurd (omega arith)
    climbs b k (suc n) (suc zero) less below = absurd (omega arith)
    climbs b k (suc n) (suc (suc many)) less below =
        let here : wanted * d * suc k ≤ clock = omega (arith, mul-le-mul_left {m = suc k} {n = k + suc n} (wanted * d) (omega arith), below (omega arith)) in
        let start : k + suc n ≡ suc k + n = omega arith in
        let left : suc (suc many) - suc n ≡ suc many - n = omega arith in
        rw (start, left)
        (ap (λ x. best near x (row d (suc (suc k)) many)) (skip (ordered clock wanted running) b (pair d k) (pair d (suc k)) (rises clock wanted running d k some here))
        ∙ climbs b (suc k) n (suc many) (omega arith) (λ _. rw start at (below (omega arith))))

    -- beyond it only the first counts
    descends : (b : Pair) (k n : ℕ) → clock ≤ wanted * d * k → best near (pick near b (pair d k)) (row d (suc k) n) ≡ pick near b (pair d k)
    unfolding row best
    descends b k zero above = refl
    descends b k (suc n) above =
        descends (pick near b (pair d k)) (suc k) n (omega arith)
        ∙ spare (ordered clock wanted running) b (pair d k) (pair d (suc k)) (falls clock wanted running d k above)

    module _ (b : Pair) (k : ℕ) where
      -- the look at a period that the exact one is not below, and the rest
      to_there : (n : ℕ) → 1 ≤ k → (1 < k → wanted * d * k ≤ clock)
          → best near b (row d 1 (k + n)) ≡ best near (pick near b (pair d k)) (row d (suc k) n)
      unfolding best
      to_there n least below =
          let start : 1 + (k - 1) ≡ k = omega arith in
          let left : k + n - (k - 1) ≡ suc n = omega arith in
          climbs b 1 (k - 1) (k + n) (omega arith) (λ h. rw start (below (omega arith)))
          ∙ rw (start, left, row_starts)

      pub one_look : k ≡ 255 → Beside clock (wanted * d) k → best near b (pair d k ∷ []) ≡ best near b (row d 1 255)
      unfolding best
      one_look e s =
          let whole : 255 ≡ k + 0 = omega arith in
          sym (ap (λ n. best near b (row d 1 n)) whole ∙ to_there 0 s.least s.below ∙ looked_out (pick near b (pair d k)) d (suc k))

      pub two_looks : k < 255 → Beside clock (wanted * d) k → best near b (pair d k ∷ pair d (k + 1) ∷ []) ≡ best near b (row d 1 255)
      unfolding best
      two_looks less s =
          let whole : 255 ≡ k + suc (254 - k) = omega arith in
          let beyond : clock ≤ wanted * d * suc k = rw add-one at (s.above less) in
          sym (
          ap (λ n. best near b (row d 1 n)) whole ∙ to_there (suc (254 - k)) s.least s.below
          ∙ look_on (pick near b (pair d k)) d (suc k) (254 - k)
          ∙ rw add-one (descends (pick near b (pair d k)) (suc k) (254 - k) beyond)
          )

-- ONE LOOK

module _ (kept seen : Seen) (p : Pair) (same : seen.wanted ≡ kept.wanted) (is : seen.pair ≡ p) where
  abbrev test : Bool
  test = ltb (seen.gap * kept.divider) (kept.gap * seen.divider)

  distance : seen.gap ≡ gap kept.wanted.clock kept.wanted.rate seen.divider
  distance = rw same at seen.measured.gap

  compared : nearer kept.wanted.clock kept.wanted.rate p kept.pair ≡ test
  unfolding nearer
  compared = rw (← is, kept.measured.gap, distance, kept.measured.divider, seen.measured.divider)

  pub nearer_seen : test ≡ true → Kept kept (p ∷ []) seen
  unfolding pick best
  nearer_seen e = record { same = same; is = rw (compared, e, is) }

  pub no_nearer : test ≡ false → Kept kept (p ∷ []) kept
  unfolding pick best
  no_nearer e = record { same = refl; is = rw (compared, e) }

-- LOOK BEHIND LOOK

pub kept_then : {before between after : Seen} {l m : List Pair} → Kept before l between → Kept between m after → Kept before (l ++ m) after
kept_then {before} {between} {after} {l} {m} k n =
    let w = before.wanted in
    record {
      same = n.same ∙ k.same;
      is = (rw (k.same, k.is) at n.is) ∙ sym (best-append (ordered w.clock w.rate (omega (arith, w.in_range.slow))) before.pair l m);
    }

pub along : {before after : Seen} {l m : List Pair} → Kept before l after
    → best (nearer before.wanted.clock before.wanted.rate) before.pair l ≡ best (nearer before.wanted.clock before.wanted.rate) before.pair m
    → Kept before m after
along k e = record { same = k.same; is = k.is ∙ e }

-- ALL PAIRS, row by row

rows_behind : (l : List ℕ) (d : ℕ) → rows (l ++ d ∷ []) ≡ rows l ++ row d 1 255
unfolding rows
rows_behind [] d = append-nil (row d 1 255)
rows_behind (a ∷ l) d = ap (row a 1 255 ++◌) (rows_behind l d) ∙ sym (append_assoc (row a 1 255) (rows l) (row d 1 255))

pub no_rows : (s : Seen) → Kept s (rows (take 0 divisors)) s
unfolding rows best
no_rows s = record { same = refl; is = refl }

pub row_more : {before between after : Seen} {i : ℕ} → i < 5 → Kept before (rows (take i divisors)) between
    → Kept between (row (get_or divisors i 0) 1 255) after → Kept before (rows (take (i + 1) divisors)) after
row_more {i = i} h k n = rw (add-one, take-suc divisors i 0 h, rows_behind) (kept_then k n)

pub all_rows : {before after : Seen} {i : ℕ} → 5 ≤ i → Kept before (rows (take i divisors)) after → Kept before pairs after
unfolding pairs
all_rows {i = i} h k = rw (take_all i divisors h) at k

pub from_the_first : {w : Wanted} {first last : Seen} → first.wanted ≡ w → first.pair ≡ start → Kept first pairs last
    → (last.wanted ≡ w) × (last.pair ≡ best (nearer w.clock w.rate) start pairs)
from_the_first same is k = (k.same ∙ same, rw (same, is) at k.is)

-- THE ANSWER

pub refused_outside : (clock wanted : ℕ) → out_of_range clock wanted ≡ true → Err OutsideRange ≡ choose clock wanted
unfolding choose
refused_outside clock wanted e = rw e

pub chosen_is_kept : (clock wanted : ℕ) (p : Pair) → InRange clock wanted → p ≡ best (nearer clock wanted) start pairs
    → told_of clock wanted p ≡ choose clock wanted
unfolding told_of
chosen_is_kept clock wanted p r e = rw e (sym (by_looks clock wanted (omega (arith, r.slow)) (not_out_of_range clock wanted r)))
