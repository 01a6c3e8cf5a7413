-- Request c: what is chosen is the first of the nearest pairs.
use mathlib.Core.Bool.{Bool, true, false, not, true≢false, cond, ◌&&◌, ◌||◌}
use mathlib.Core.List.Memᴰ
use mathlib.Core.List.{List, [], ◌∷◌, ◌++◌, Memᴰ}
use mathlib.Core.Logic.{◌⊎◌, inl, inr, ⊎_elim}
use mathlib.Core.Option.{Option, none, some, some-injective, none-ne-some}
use mathlib.Core.Path.{◌≡◌, refl, ap, sym, ◌∙◌, subst}
use Prim.Native.Nat.{ℕ, zero, suc, ◌+◌, ◌-◌, ◌*◌, ◌/◌, ◌≤◌, ◌<◌}
use native.Mathlib.Nat.{mul-le-mul, div-mul-le_self, lt-div-mul-add, zero-div}
use native.Mathlib.Omega.{arith}
use borrow.Author.Tests.{ltb-true, ltb-false, lt-ltb, le-ltb, not-true}
use lib.Dec.{ltb}
use lib.IntN.{ℤ, pos, negsuc, neg_ℤ, nat_abs, ◌-ℤ◌, ◌*ℤ◌}
use lib.Signed.{quot_z}
use Rattle.std.specs.Prelude.{if◌then◌else◌, Result, Ok, Err}
use Rattle.paper.specs.Numbers.{negative}
use Rattle.paper.specs.Rate.{pair, row, divisors, rows, pairs, divider, every, first_of, gap, nearer, unbeaten, choice, deviation, out_of_range, too_far, deviating, told, choose}
use Rattle.paper.specs.declared.Refusal.TheVariants.{OutsideRange, TooFar}
use Rattle.paper.specs.declared.Pair.{Pair}
use Rattle.paper.specs.declared.Refusal.{Refusal}
use Rattle.paper.specs.declared.Chosen.{Chosen}
use Rattle.demands.specs.Confirmations.{Ascending}
use Rattle.rates.specs.Looks.{best}
use Rattle.rates.specs.Rates.{InRange, Allowed, Before, AtMost, Far, EveryFar, Deviates, Right, Says, outside as out, far, chosen, Rates, Exactly}
use Rattle.demands.proofs.Choices as choices
use Rattle.demands.proofs.Choices.{both}
use Rattle.rates.proofs.FirstBest.{irrefl, stays, every_best, first_best}
use Rattle.rates.proofs.Distances.{ordered, far_on}

-- RANGES

neither : (t u : Bool) → (t || u) ≡ false → (t ≡ false) × (u ≡ false)
neither true u e = absurd (true≢false e)
neither false u e = (refl, e)

pub in_range : (clock wanted : ℕ) → out_of_range clock wanted ≡ false → InRange clock wanted
unfolding out_of_range
in_range clock wanted e =
    let ranges = neither _ _ e in
    let clocks = neither _ _ ranges.0 in
    let rates = neither _ _ ranges.1 in
    record {
      slow = ltb-false _ _ clocks.0;
      fast = ltb-false _ _ clocks.1;
      some = ltb-false _ _ rates.0;
      most = ltb-false _ _ rates.1;
    }

pub not_out_of_range : (clock wanted : ℕ) → InRange clock wanted → out_of_range clock wanted ≡ false
unfolding out_of_range
not_out_of_range clock wanted r =
    rw (le-ltb clock 1000000 r.slow, le-ltb 60000000 clock r.fast, le-ltb wanted 1 r.some, le-ltb 230400 wanted r.most)

-- WHAT IS KEPT BY SINGLE LOOKS

row_starts : (d k n : ℕ) → row d k (suc n) ≡ pair d k ∷ row d (suc k) n
unfolding row
row_starts d k n = refl

abbrev pub start : Pair
start = pair 8 1

abbrev rest : List Pair
rest = row 8 2 254 ++ rows (32 ∷ 128 ∷ 512 ∷ 2048 ∷ [])

pairs_start : pairs ≡ start ∷ rest
unfolding pairs rows
pairs_start = rw (row_starts 8 1 254)

module _ (clock wanted : ℕ) (running : 1 ≤ clock) where
  abbrev near : Pair → Pair → Bool
  near = nearer clock wanted

  from_start : best near start pairs ≡ best near start rest
  unfolding best
  from_start =
      ap (best near start) pairs_start
      ∙ ap (λ b. best near b rest)
      (stays (ordered clock wanted running) start start (irrefl (ordered clock wanted running) start))

  pub choice_is_kept : choice clock wanted pairs ≡ some (best near start pairs)
  choice_is_kept = rw (from_start, pairs_start) (first_best (ordered clock wanted running) start rest)

  pub far_is_kept : every (too_far clock wanted) pairs ≡ too_far clock wanted (best near start pairs)
  far_is_kept =
      rw (from_start, pairs_start) (every_best (ordered clock wanted running) (too_far clock wanted) (far_on clock wanted running) start rest)

  -- so the choice is what single looks keep, unless even that is too far
  pub by_looks : out_of_range clock wanted ≡ false
      → choose clock wanted
      ≡ (if too_far clock wanted (best near start pairs) then Err TooFar else Ok (deviating (best near start pairs) (deviation clock wanted (best near start pairs))))
  unfolding choose
  by_looks e = rw (e, far_is_kept, choice_is_kept)

-- ROWS: a test of every pair, and the first that passes one

-- the pairs of some divisors, with a period from 1 to 255
record Within (ds : List ℕ) (q : Pair) : Type 0 where
  pub divisor : Memᴰ q.divisor ds
  pub least : 1 ≤ q.period
  pub most : q.period ≤ 255

further : {d : ℕ} {ds : List ℕ} {q : Pair} → Within (d ∷ ds) q → Memᴰ q.divisor ds → Within ds q
further w later = record { divisor = later; least = w.least; most = w.most }

-- the divisors rise
above : (least : ℕ) (ds : List ℕ) → Ascending least ds → (d : ℕ) → Memᴰ d ds → least ≤ d
above least [] up d m = absurd (Memᴰ.not-nil m)
above least (e ∷ ds) up d m =
    ⊎_elim
    (λ is. omega (arith, up.0))
    (λ later. omega (arith, up.0, above (e + 1) ds up.1 d later))
    (Memᴰ.cases_cons m)

-- a pair at its place in the row of its divisor
at_place : (d : ℕ) (q : Pair) → q.divisor ≡ d → 1 ≤ q.period → q ≡ pair d (1 + (q.period - 1))
at_place d q is least =
    let back : 1 + (q.period - 1) ≡ q.period = omega arith in
    rw (back, ← is)

module _ (test : Pair → Bool) where
  every_append : (l m : List Pair) → every test (l ++ m) ≡ true → (every test l ≡ true) × (every test m ≡ true)
  unfolding every
  every_append [] m h = (refl, h)
  every_append (p ∷ l) m h =
      let front = both (test p) (every test (l ++ m)) h in
      let back = every_append l m front.1 in
      (rw (front.0, back.0), back.1)

  every_row : (d k n i : ℕ) → every test (row d k n) ≡ true → i < n → test (pair d (k + i)) ≡ true
  unfolding every row
  every_row d k zero i h less = absurd (omega arith)
  every_row d k (suc n) zero h less =
      let here : k + 0 ≡ k = omega arith in
      rw here (both (test (pair d k)) (every test (row d (suc k) n)) h).0
  every_row d k (suc n) (suc i) h less =
      let on : k + suc i ≡ suc k + i = omega arith in
      rw on (every_row d (suc k) n i (both (test (pair d k)) (every test (row d (suc k) n)) h).1 (omega arith))

  -- one divisor's
  every_period : (d : ℕ) → every test (row d 1 255) ≡ true → (q : Pair) → q.divisor ≡ d → 1 ≤ q.period → q.period ≤ 255 → test q ≡ true
  every_period d h q is least most = rw (at_place d q is least) (every_row d 1 255 (q.period - 1) h (omega arith))

  every_rows : (ds : List ℕ) → every test (rows ds) ≡ true → (q : Pair) → Within ds q → test q ≡ true
  unfolding rows
  every_rows [] h q w = absurd (Memᴰ.not-nil w.divisor)
  every_rows (d ∷ ds) h q w =
      let parts = every_append (row d 1 255) (rows ds) h in
      ⊎_elim
      (λ is. every_period d parts.0 q is w.least w.most)
      (λ later. every_rows ds parts.1 q (further w later))
      (Memᴰ.cases_cons w.divisor)

every_weaker : (test other : Pair → Bool) → ((q : Pair) → test q ≡ true → other q ≡ true) → (l : List Pair) → every test l ≡ true → every other l ≡ true
unfolding every
every_weaker test other on [] h = refl
every_weaker test other on (q ∷ l) h =
    let here = both (test q) (every test l) h in
    rw (on q here.0, every_weaker test other on l here.1)

module _ (test : Pair → Bool) where
  -- the first of a row that passes
  record FirstOfRow (d k n : ℕ) (p : Pair) : Type 0 where
    pub divisor : p.divisor ≡ d
    pub least : k ≤ p.period
    pub most : p.period < k + n
    pub passes : test p ≡ true
    pub first : (i : ℕ) → i < n → test (pair d (k + i)) ≡ true → p.period ≤ k + i

  row_found_lem : (d k n : ℕ) (p : Pair) → test (pair d k) ≡ true → pair d k ≡ p → FirstOfRow d k (suc n) p
  row_found_lem d k n p t is =
      subst (FirstOfRow d k (suc n)) is (record {
        divisor = refl;
        least = omega arith;
        most = omega arith;
        passes = t;
        first = λ i less h. omega arith;
      })

  row_on : (d k n : ℕ) (p : Pair) → test (pair d k) ≡ false → FirstOfRow d (suc k) n p → FirstOfRow d k (suc n) p
  row_on d k n p t f =
      record {
        divisor = f.divisor;
        least = omega (arith, f.least);
        most = omega (arith, f.most);
        passes = f.passes;
        first = later;
      }
    where
      later : (i : ℕ) → i < suc n → test (pair d (k + i)) ≡ true → p.period ≤ k + i
      later zero less h =
          let here : k + 0 ≡ k = omega arith in
          absurd (true≢false (sym (rw here at h) ∙ t))
      later (suc i) less h =
          let on : k + suc i ≡ suc k + i = omega arith in
          rw on (f.first i (omega arith) (rw on at h))

  first_row : (d k n : ℕ) (p : Pair) → first_of test (row d k n) ≡ some p → FirstOfRow d k n p
  unfolding row first_of
  first_row d k zero p e = absurd (none-ne-some p e)
  first_row d k (suc n) p e = go (test (pair d k)) refl e (first_row d (suc k) n p)
    where
      go : (b : Bool) → test (pair d k) ≡ b → (if b then some (pair d k) else first_of test (row d (suc k) n)) ≡ some p
          → (first_of test (row d (suc k) n) ≡ some p → FirstOfRow d (suc k) n p) → FirstOfRow d k (suc n) p
      go true t is on = row_found_lem d k n p t (some-injective (pair d k) p is)
      go false t is on = row_on d k n p t (on is)

  abbrev fails : Pair → Bool
  fails q = not (test q)

  -- the first of two lists is the first of the one, or none of it passes and it is the first of the other
  first-append : (l m : List Pair) (p : Pair) → first_of test (l ++ m) ≡ some p
      → (first_of test l ≡ some p) ⊎ ((every fails l ≡ true) × (first_of test m ≡ some p))
  unfolding first_of every
  first-append [] m p e = inr (refl, e)
  first-append (a ∷ l) m p e = go (test a) refl e (first-append l m p)
    where
      go : (b : Bool) → test a ≡ b → (if b then some a else first_of test (l ++ m)) ≡ some p
          → (first_of test (l ++ m) ≡ some p → (first_of test l ≡ some p) ⊎ ((every fails l ≡ true) × (first_of test m ≡ some p)))
          → ((if test a then some a else first_of test l) ≡ some p) ⊎ (((not (test a) && every fails l) ≡ true) × (first_of test m ≡ some p))
      go true t is on = inl (rw t is)
      go false t is on = ⊎_elim (λ h. inl (rw t h)) (λ h. inr (rw t h.0, h.1)) (on is)

  -- the first of all that passes: no pair that passes comes before it
  record First (ds : List ℕ) (p : Pair) : Type 0 where
    pub within : Within ds p
    pub passes : test p ≡ true
    pub first : (q : Pair) → Within ds q → test q ≡ true → Before p q

  in_first_row : (d : ℕ) (ds : List ℕ) (p : Pair) → Ascending (d + 1) ds → FirstOfRow d 1 255 p → First (d ∷ ds) p
  in_first_row d ds p up f =
      record {
        within = record { divisor = Memᴰ.head f.divisor; least = f.least; most = omega (arith, f.most) };
        passes = f.passes;
        first = λ q w h. ⊎_elim (same q w h) (λ later. inl (omega (arith, f.divisor, above (d + 1) ds up q.divisor later))) (Memᴰ.cases_cons w.divisor);
      }
    where
      same : (q : Pair) → Within (d ∷ ds) q → test q ≡ true → q.divisor ≡ d → Before p q
      same q w h is =
          let back : 1 + (q.period - 1) ≡ q.period = omega (arith, w.least) in
          let place = at_place d q is w.least in
          inr (f.divisor ∙ sym is, rw back at (f.first (q.period - 1) (omega (arith, w.least, w.most)) (rw place at h)))

  in_later_row : (d : ℕ) (ds : List ℕ) (p : Pair) → every fails (row d 1 255) ≡ true → First ds p → First (d ∷ ds) p
  in_later_row d ds p none_here f =
      record {
        within = record { divisor = Memᴰ.tail f.within.divisor; least = f.within.least; most = f.within.most };
        passes = f.passes;
        first = λ q w h. ⊎_elim (λ is. absurd (fails_not q w h is)) (λ later. f.first q (further w later) h) (Memᴰ.cases_cons w.divisor);
      }
    where
      fails_not : (q : Pair) → Within (d ∷ ds) q → test q ≡ true → q.divisor ≡ d → ⊥
      fails_not q w h is = true≢false (sym h ∙ not-true (test q) (every_period fails d none_here q is w.least w.most))

  first_rows : (least : ℕ) (ds : List ℕ) (p : Pair) → Ascending least ds → first_of test (rows ds) ≡ some p → First ds p
  unfolding rows first_of
  first_rows least [] p up e = absurd (none-ne-some p e)
  first_rows least (d ∷ ds) p up e =
      ⊎_elim
      (λ h. in_first_row d ds p up.1 (first_row d 1 255 p h))
      (λ h. in_later_row d ds p h.0 (first_rows (d + 1) ds p up.1 h.1))
      (first-append (row d 1 255) (rows ds) p e)

-- THE DEVIATION

record Cut (c n : ℕ) (z : ℤ) : Type 0 where
  pub size : nat_abs z * n ≤ 1000000 * ((c - n) + (n - c))
  pub cut : 1000000 * ((c - n) + (n - c)) < suc (nat_abs z) * n
  pub above : n ≤ c → negative z ≡ 0
  pub below : c ≤ n → (z ≡ pos 0) ⊎ (negative z ≡ 1)

negative_size : (k : ℕ) → nat_abs (neg_ℤ (pos k)) ≡ k
negative_size zero = refl
negative_size (suc k) = refl

negative_side : (k : ℕ) → (neg_ℤ (pos k) ≡ pos 0) ⊎ (negative (neg_ℤ (pos k)) ≡ 1)
negative_side zero = inl refl
negative_side (suc k) = inr refl

negative_quotient : (m n : ℕ) → quot_z (neg_ℤ (pos m)) (pos n) ≡ neg_ℤ (pos (m / n))
negative_quotient zero n = rw (zero-div n)
negative_quotient (suc m) n = refl

cut_toward_zero : (c n : ℕ) → 1 ≤ n → Cut c n (quot_z ((pos c -ℤ pos n) *ℤ pos 1000000) (pos n))
cut_toward_zero c zero least = absurd (omega arith)
cut_toward_zero c (suc t) least = go (ltb c (suc t)) refl
  where
    over : ℕ
    over = (c - suc t) * 1000000

    short : ℕ
    short = suc (suc t - suc c) * 1000000

    same : c - suc t ≡ 0 → Path ℤ (pos (over / suc t)) (pos 0)
    same e = rw (e, zero-div (suc t))

    go : (b : Bool) → ltb c (suc t) ≡ b → Cut c (suc t) (quot_z (cond b (negsuc (suc t - suc c)) (pos (c - suc t)) *ℤ pos 1000000) (pos (suc t)))
    go true e =
        let less : c < suc t = ltb-true c (suc t) e in
        rw (negative_quotient short (suc t)) (record {
          size = rw (negative_size (short / suc t)) (omega (arith, div-mul-le_self short (suc t)));
          cut = rw (negative_size (short / suc t)) (omega (arith, lt-div-mul-add {a = short} {b = suc t} least));
          above = λ h. absurd (omega arith);
          below = λ h. negative_side (short / suc t);
        })
    go false e =
        let reached : suc t ≤ c = ltb-false c (suc t) e in
        record {
          size = omega (arith, div-mul-le_self over (suc t));
          cut = omega (arith, lt-div-mul-add {a = over} {b = suc t} least);
          above = λ h. refl;
          below = λ h. inl (same (omega arith));
        }

-- ALL OF IT

module _ (clock wanted : ℕ) (r : InRange clock wanted) where
  near_enough : (p : Pair) → too_far clock wanted p ≡ false → Far clock wanted p → ⊥
  unfolding too_far
  near_enough p e f = true≢false (sym (lt-ltb _ _ f) ∙ e)

  not_nearer : (p q : Pair) → nearer clock wanted q p ≡ false → AtMost clock wanted p q
  unfolding nearer
  not_nearer p q e = ltb-false _ _ e

  as_near : (p q : Pair) → AtMost clock wanted p q → nearer clock wanted q p ≡ false
  unfolding nearer
  as_near p q h = le-ltb _ _ h

  running : 1 ≤ clock
  running = omega (arith, r.slow)

  rising : Ascending 8 divisors
  rising = (omega arith, (omega arith, (omega arith, (omega arith, (omega arith, tt)))))

  within : {q : Pair} → Allowed q → Within divisors q
  within a = record { divisor = a.divisor; least = a.least; most = a.most }

  some_times : (p : Pair) → Within divisors p → 1 ≤ wanted * divider p
  some_times p w =
      let divides = mul-le-mul (above 8 divisors rising p.divisor w.divisor) w.least in
      omega (arith, mul-le-mul r.some divides)

  deviates : (p : Pair) → Within divisors p → Deviates clock wanted p (deviation clock wanted p)
  unfolding deviation gap
  deviates p w =
      let z = cut_toward_zero clock (wanted * divider p) (some_times p w) in
      record { size = z.size; cut = z.cut; above = z.above; below = z.below }

  module _ (p : Pair) (e : choice clock wanted pairs ≡ some p) (far : every (too_far clock wanted) pairs ≡ false) where
    is_first : First (unbeaten clock wanted pairs) divisors p
    unfolding pairs
    is_first = first_rows (unbeaten clock wanted pairs) 8 divisors p rising e

    not_beaten : (q : Pair) → Within divisors q → nearer clock wanted q p ≡ false
    unfolding pairs
    not_beaten q w = not-true _ (every_rows (λ x. not (nearer clock wanted x p)) divisors is_first.passes q w)

    -- what is as near is beaten by none either
    ties : (q : Pair) → Within divisors q → AtMost clock wanted q p → Before p q
    ties q w h = is_first.first q w (every_weaker (λ x. not (nearer clock wanted x p)) (λ x. not (nearer clock wanted x q)) on pairs is_first.passes)
      where
        on : (x : Pair) → not (nearer clock wanted x p) ≡ true → not (nearer clock wanted x q) ≡ true
        on x g = ap not ((ordered clock wanted running).keeps x p q (not-true _ g) (as_near q p h))

    near_one : too_far clock wanted p ≡ false
    near_one =
        let kept = some-injective p _ (sym e ∙ choice_is_kept clock wanted running) in
        rw kept (sym (far_is_kept clock wanted running) ∙ far)

    right : Right clock wanted p (deviation clock wanted p)
    right =
        record {
          allowed = record { divisor = is_first.within.divisor; least = is_first.within.least; most = is_first.within.most };
          nearest = λ q a. not_nearer p q (not_beaten q (within a));
          ties = λ q a h. ties q (within a) h;
          near = near_enough p near_one;
          deviates = deviates p is_first.within;
        }

  every_far : every (too_far clock wanted) pairs ≡ true → EveryFar clock wanted
  unfolding pairs too_far
  every_far h q a = ltb-true _ _ (every_rows (too_far clock wanted) divisors h q (within a))

  served : (t : Bool) → every (too_far clock wanted) pairs ≡ t → (o : Option Pair) → choice clock wanted pairs ≡ o
      → Says clock wanted (if t then Err TooFar else told clock wanted o)
  served true h o e = far r (every_far h)
  served false h none e = absurd (none-ne-some _ (sym e ∙ choice_is_kept clock wanted running))
  served false h (some p) e = chosen r (right p e h)

pub rates : Rates
unfolding choose
rates clock wanted =
    choices.chosen (Says clock wanted) (out_of_range clock wanted)
    (λ e. out (λ r. true≢false (sym e ∙ not_out_of_range clock wanted r)))
    (λ e. served clock wanted (in_range clock wanted e) (every (too_far clock wanted) pairs) refl (choice clock wanted pairs) refl)

module _ (clock wanted : ℕ) where
  refused_outside : (InRange clock wanted → ⊥) → (a : Result Chosen Refusal) → Says clock wanted a → a ≡ Err OutsideRange
  refused_outside beyond a (out h) = refl
  refused_outside beyond a (far r h) = absurd (beyond r)
  refused_outside beyond a (chosen r h) = absurd (beyond r)

  refused_far : InRange clock wanted → EveryFar clock wanted → (a : Result Chosen Refusal) → Says clock wanted a → a ≡ Err TooFar
  refused_far r every a (out h) = absurd (h r)
  refused_far r every a (far s h) = refl
  refused_far r every a (chosen {c = c} s h) = absurd (h.near (every c.pair h.allowed))

pub exactly : (clock wanted : ℕ) → Exactly clock wanted
exactly clock wanted =
    record {
      twelve = λ beyond. refused_outside clock wanted beyond (choose clock wanted) (rates clock wanted);
      thirteen = λ r every. refused_far clock wanted r every (choose clock wanted) (rates clock wanted);
    }
