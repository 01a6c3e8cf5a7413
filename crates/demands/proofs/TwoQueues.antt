-- DEMAND 3 over two queues' own histories, at any two depths: given the same rulings, the one that is read more and holds no less is always ahead.
use mathlib.Core.Path.{◌≡◌, refl, sym, ap, ◌∙◌}
use mathlib.Core.Bool.{Bool, true, false, true≢false}
use mathlib.Core.Logic.{◌⊎◌, inl, inr}
use mathlib.Core.List.{List, [], ◌∷◌, ◌++◌, append_assoc, append-nil, map-append}
use mathlib.Core.Option.{Option, none, some}
use Prim.Native.Nat.{ℕ, suc, ◌+◌, ◌≤◌}
use native.Mathlib.Omega.{arith}
use native.Mathlib.Nat.{le_refl, add-zero}
use lib.Dec.{ltb}
use lib.ListN.{length, take, drop, length-append, length-drop, length-map, take-append-drop}
use lib.Seq.{take-add, drop-drop, take-nil, drop-nil}
use borrow.Author.Tests.{ltb-true, ltb-false}
use Rattle.std.specs.Prelude.{Result, Ok, Err}
use Rattle.paper.specs.Queue.{Slot, Queue, Placed, flag_newest, place_item, place, oldest, removed, names_of}
use Rattle.paper.specs.declared.Fate.{Fate}
use Rattle.paper.specs.declared.Fate.TheVariants.{Stored}
use Rattle.paper.specs.declared.Item.{Item}
use Rattle.paper.specs.declared.Why.{Why}
use Rattle.demands.specs.History.{QueueEntry, NoReset, counts, tail, between, Before, befores, Within, empty, skip, keep, Each, nil, cons}
use Rattle.demands.proofs.Placing.{length-flag_newest}
use Rattle.demands.proofs.QueueRuns.{empty_queue, placed, taken, renewed, left, QueueRun, ended, met, Full}

-- LISTS WITHIN LISTS

module _ {A : Type 0} where
  within_refl : (l : List A) → Within l l
  within_refl [] = empty
  within_refl (x ∷ l) = keep x (within_refl l)

  within_nil : (l : List A) → Within [] l
  within_nil [] = empty
  within_nil (x ∷ l) = skip x (within_nil l)

  within_length : {xs ys : List A} → Within xs ys → length xs ≤ length ys
  within_length empty = omega arith
  within_length (skip y w) = let h = within_length w in omega arith
  within_length (keep x w) = let h = within_length w in omega arith

  within-append : {xs ys : List A} (zs : List A) → Within xs ys → Within (xs ++ zs) (ys ++ zs)
  within-append zs empty = within_refl zs
  within-append zs (skip y w) = skip y (within-append zs w)
  within-append zs (keep x w) = keep x (within-append zs w)

  within_more : {xs ys : List A} (zs : List A) → Within xs ys → Within xs (ys ++ zs)
  within_more zs empty = within_nil zs
  within_more zs (skip y w) = skip y (within_more zs w)
  within_more zs (keep x w) = keep x (within_more zs w)

  within_cases : {x y : A} {xs ys : List A} → Within (x ∷ xs) (y ∷ ys) → Within (x ∷ xs) ys ⊎ ((x ≡ y) × Within xs ys)
  within_cases (skip y w) = inl w
  within_cases (keep x w) = inr (refl, w)

  -- the fronts, where the second leaves no more behind its front than the first
  within_front : (g p h q : List A) → Within (g ++ p) (h ++ q) → length q ≤ length p → Within g h
  within_front [] p h q w l = within_nil h
  within_front (x ∷ g) p [] q w l = absurd (omega (arith, within_length w, length-append g p))
  within_front (x ∷ g) p (y ∷ h) q w l =
      go (within_cases w) (λ (v : Within (x ∷ g ++ p) (h ++ q)). within_front (x ∷ g) p h q v l) (λ (v : Within (g ++ p) (h ++ q)). within_front g p h q v l)
    where
      go : Within (x ∷ g ++ p) (h ++ q) ⊎ ((x ≡ y) × Within (g ++ p) (h ++ q))
          → (Within (x ∷ g ++ p) (h ++ q) → Within (x ∷ g) h) → (Within (g ++ p) (h ++ q) → Within g h) → Within (x ∷ g) (y ∷ h)
      go (inl v) f k = skip y (f v)
      go (inr (e, v)) f k = rw (← e) (keep x (k v))

-- RULINGS AND COUNTS: a history that takes all that is asked for goes by them alone

-- a ruling, and the name of what it may store
pub record Ruled (A : Type 0) : Type 0 where
  pub name : A
  pub ruling : Result Item Why

module _ {A : Type 0} where
  abbrev pub ruled_at : A → Option Fate → Option (Result Item Why) → List (Ruled A)
  ruled_at a none r = []
  ruled_at a (some f) none = []
  ruled_at a (some f) (some r) = record { name = a; ruling = r } ∷ []

  -- what the arrivals were ruled to store
  abbrev pub ruled : List (QueueEntry A) → List (Ruled A)
  ruled [] = []
  ruled (e ∷ es) = ruled_at e.name e.fate e.ruling ++ ruled es

  -- has was handed over and q waits; a count is asked for before each ruling
  abbrev queue_befores : ℕ → (has : List A) → Queue A → List (Ruled A) → List ℕ → List (Before A)
  queue_befores d has q [] ns = []
  queue_befores d has q (r ∷ rs) [] = []
  queue_befores d has q (r ∷ rs) (n ∷ ns) =
      let has' = has ++ names_of (oldest n q) in
      let p = place d r.name r.ruling (removed n q) in
      record { has = has'; fate = p.fate } ∷ queue_befores d has' p.queue rs ns

  names_more : (has : List A) (l : List (Slot A)) (m n : ℕ)
      → (has ++ names_of (take m l)) ++ names_of (take n (drop m l)) ≡ has ++ names_of (take (m + n) l)
  names_more has l m n = simp (append_assoc, ← map-append, take-add)

  module _ {d : ℕ} where
    -- has was handed over and p waited, and m of p have been asked for since
    follow : {q q' : Queue A} {es : List (QueueEntry A)} → QueueRun d Full q es q' → NoReset es
        → (has : List A) (p : Queue A) (m : ℕ) → q ≡ removed m p
        → befores (has ++ names_of (oldest m p)) es ≡ queue_befores d has p (ruled es) (counts m es)
    follow ended s has p m e = refl
    follow {q} (met {es = es} (placed a r) run) s has p m e =
        let has' = has ++ names_of (oldest m p) in
        let now : Queue A → Before A = λ q. record { has = has'; fate = (place d a r q).fate } in
        ap (λ (later : List (Before A)). now q ∷ later) (follow run s.1 has' (place d a r q).queue 0 refl)
        ∙ ap (λ (q : Queue A). now q ∷ queue_befores d has' (place d a r q).queue (ruled es) (counts 0 es)) e
    follow {q} (met {es = es} (taken a n told bytes t) run) s has p m e =
        ap (λ (out : List (Slot A)). befores ((has ++ names_of (oldest m p)) ++ names_of out) es) (t.out ∙ ap (oldest n) e)
        ∙ ap (λ (has : List A). befores has es) (names_more has p.slots m n)
        ∙ follow run s.1 has p (m + n) (t.rest ∙ ap (removed n) e ∙ rw drop-drop)
    follow (met (renewed a) run) s has p m e = absurd (true≢false s.0)
    follow (met {es = es} (left a r) run) s has p m e =
        ap (λ (has : List A). befores has es) (append-nil (has ++ names_of (oldest m p)))
        ∙ follow run s.1 has p m e
        ∙ ap (λ (i : ℕ). queue_befores d has p (ruled es) (counts i es)) (sym (add-zero m))

    -- a count is asked for before each arrival
    counted : {q q' : Queue A} {es : List (QueueEntry A)} → QueueRun d Full q es q' → (m : ℕ) → length (counts m es) ≡ length (ruled es)
    counted ended m = refl
    counted (met (placed a r) run) m = ap suc (counted run 0)
    counted (met (taken a n told bytes t) run) m = counted run _
    counted (met (renewed a) run) m = counted run _
    counted (met (left a r) run) m = counted run _

-- TWO QUEUES

module _ {A : Type 0} where
  names_flag : (l : List (Slot A)) → names_of (flag_newest l) ≡ names_of l
  names_flag [] = refl
  names_flag (x ∷ []) = refl
  names_flag (x ∷ y ∷ l) = ap (λ (r : List A). x.name ∷ r) (names_flag (y ∷ l))

  -- a queue of depth d, and one of depth e that has had all that the first has had and has no less room
  record Ahead (d e : ℕ) (g : List A) (p : Queue A) (h : List A) (q : Queue A) : Type 0 where
    within : Within (g ++ names_of p.slots) (h ++ names_of q.slots)
    room : length q.slots + d ≤ length p.slots + e

  -- the second accepts what the first does; at one depth it has been handed all that the first has been
  pub record Keeps (d e : ℕ) (first second : Before A) : Type 0 where
    pub has : e ≤ d → Within first.has second.has
    pub accepts : first.fate ≡ Stored → second.fate ≡ Stored

  -- what one ruling does to both
  record BothPlaced (d e : ℕ) (g h : List A) (x y : Placed A) : Type 0 where
    ahead : Ahead d e g x.queue h y.queue
    accepts : x.fate ≡ Stored → y.fate ≡ Stored

  module _ (d e : ℕ) (deeper : d ≤ e) where
    ahead_read : (g h : List A) (p q : Queue A) (m n : ℕ) → m ≤ n → Ahead d e g p h q
        → Ahead d e (g ++ names_of (oldest m p)) (removed m p) (h ++ names_of (oldest n q)) (removed n q)
    ahead_read g h p q m n l a =
        record { within = simp (append_assoc, ← map-append, take-append-drop) a.within; room = simp length-drop (omega (arith, a.room)) }

    ahead_place : (g h : List A) (p q : Queue A) (x : A) (r : Result Item Why) → Ahead d e g p h q → BothPlaced d e g h (place d x r p) (place e x r q)
    ahead_place g h p q x (Err w) a = record { ahead = a; accepts = λ f. f }
    ahead_place g h p q x (Ok i) a = go (ltb (length p.slots) d) (ltb (length q.slots) e) refl refl
      where
        go : (t u : Bool) → ltb (length p.slots) d ≡ t → ltb (length q.slots) e ≡ u → BothPlaced d e g h (place_item t i x p) (place_item u i x q)
        go true true b c =
            record {
              ahead =
                  record {
                    within = simp (map-append, ← append_assoc) (within-append (x ∷ []) a.within);
                    room = simp length-append (omega (arith, a.room));
                  };
              accepts = λ _. refl;
            }
        go true false b c = absurd (omega (arith, a.room, ltb-true, ltb-false))
        go false true b c =
            record {
              ahead =
                  record {
                    within = simp (names_flag, map-append, ← append_assoc) (within_more (x ∷ []) a.within);
                    room = simp (length-flag_newest, length-append) (omega (arith, ltb-true, ltb-false));
                  };
              accepts = λ _. refl;
            }
        go false false b c =
            record { ahead = record { within = simp names_flag a.within; room = simp length-flag_newest a.room }; accepts = λ f. f }

    stays_ahead : (g h : List A) (p q : Queue A) (rs : List (Ruled A)) (ms ns : List ℕ) → Each ◌≤◌ ms ns → Ahead d e g p h q
        → Each (Keeps d e) (queue_befores d g p rs ms) (queue_befores e h q rs ns)
    stays_ahead g h p q [] ms ns l a = nil
    stays_ahead g h p q (r ∷ rs) ms ns nil a = nil
    stays_ahead g h p q (r ∷ rs) ms ns (cons {a = m} {b = n} {l = ms'} {m = ns'} le l) a =
        let b = ahead_read g h p q m n le a in
        let c = ahead_place _ _ (removed m p) (removed n q) r.name r.ruling b in
        cons
        (record {
          has = λ s. within_front _ (names_of (drop m p.slots)) _ (names_of (drop n q.slots)) b.within (simp length-map (omega (arith, b.room)));
          accepts = c.accepts;
        })
        (stays_ahead (g ++ names_of (oldest m p)) (h ++ names_of (oldest n q)) (place d r.name r.ruling (removed m p)).queue
        (place e r.name r.ruling (removed n q)).queue rs ms' ns' l c.ahead)

    -- from empty queues on, what is asked for before the first arrival does not matter
    from_empty : (rs : List (Ruled A)) (ms ns : List ℕ) → length ms ≡ length rs → length ns ≡ length rs → Each ◌≤◌ (tail ms) (tail ns)
        → Each (Keeps d e) (queue_befores d [] empty_queue rs ms) (queue_befores e [] empty_queue rs ns)
    from_empty [] ms ns s t l = nil
    from_empty (r ∷ rs) [] ns s t l = absurd (omega arith)
    from_empty (r ∷ rs) (m ∷ ms) [] s t l = absurd (omega arith)
    from_empty (r ∷ rs) (m ∷ ms) (n ∷ ns) s t l =
        simp (take-nil, drop-nil)
        (stays_ahead [] [] empty_queue empty_queue (r ∷ rs) (0 ∷ ms) (0 ∷ ns) (cons (le_refl 0) l) (record { within = empty; room = omega arith }))

    pub reads_more : {p q : Queue A} {es fs : List (QueueEntry A)} → QueueRun d Full empty_queue es p → QueueRun e Full empty_queue fs q
        → NoReset es → NoReset fs → ruled es ≡ ruled fs → Each ◌≤◌ (between es) (between fs) → Each (Keeps d e) (befores [] es) (befores [] fs)
    reads_more {es = es} {fs = fs} first second s t same l =
        rw (follow first s [] empty_queue 0 refl, follow second t [] empty_queue 0 refl, same)
        (from_empty (ruled fs) _ _ (counted first 0 ∙ ap length same) (counted second 0) l)
