-- First in, first out, with the overrun flags; and the loss count: over a queue's own history, however many characters each read takes off.
use mathlib.Core.Path.{◌≡◌, refl, sym, ap, ◌∙◌}
use mathlib.Core.Bool.{Bool, true, false, true≢false}
use mathlib.Core.List.{List, [], ◌∷◌, ◌++◌, append_assoc, append-nil}
use mathlib.Core.Option.{some}
use Prim.Native.Nat.{ℕ, ◌+◌, ◌<◌, min}
use native.Mathlib.Omega.{arith}
use lib.Dec.{ltb}
use lib.ListN.{length, take, drop, take-append-drop}
use lib.Seq.{take-nil, drop-nil}
use borrow.Author.Tests.{lt-ltb}
use Rattle.std.specs.Prelude.{if◌then◌else◌, Result, Ok, Err}
use Rattle.paper.specs.Queue.{Slot, Queue, flag_newest, place_item, place}
use Rattle.paper.specs.declared.Item.{Item}
use Rattle.paper.specs.declared.Why.{Why}
use Rattle.demands.specs.History.{QueueEntry, queue_history, NoReset, handed, loss_now, lost_one, loss_next, stored_as, stored, lost, after}
use Rattle.demands.specs.Demands.{FirstInFirstOut, LossCount}
use Rattle.demands.proofs.Placing.{Fits, placed_fits, removed_fits}
use Rattle.demands.proofs.QueueRuns.{empty_queue, ReadRule, placed, taken, renewed, left, QueueRun, ended, met}
use Rattle.demands.proofs.Port.{channel_run, since_reset_lem, queue_run}

module _ {A : Type 0} where
  -- THE FLAG ON THE NEWEST

  -- the flag, if a loss comes while the newest is the newest
  abbrev flagged_if : Bool → List (Slot A) → List (Slot A)
  flagged_if t l = if t then flag_newest l else l

  flag_none : (t : Bool) → flagged_if t [] ≡ []
  flag_none true = refl
  flag_none false = refl

  flag_behind : (l : List (Slot A)) (x : Slot A) (m : List (Slot A)) → flag_newest (l ++ x ∷ m) ≡ l ++ flag_newest (x ∷ m)
  flag_behind [] x m = refl
  flag_behind (y ∷ []) x m = refl
  flag_behind (y ∷ w ∷ l) x m = ap (λ (r : List (Slot A)). y ∷ r) (flag_behind (w ∷ l) x m)

  flag_twice : (l : List (Slot A)) → flag_newest (flag_newest l) ≡ flag_newest l
  flag_twice [] = refl
  flag_twice (x ∷ []) = refl
  flag_twice (x ∷ y ∷ []) = refl
  flag_twice (x ∷ y ∷ w ∷ l) = ap (λ (r : List (Slot A)). x ∷ r) (flag_twice (y ∷ w ∷ l))

  -- an arrival's ruling: what waits afterwards is what waited and what was stored; rest is stored later, t: a loss comes next
  placing : (d : ℕ) (a : A) (r : Result Item Why) (q : Queue A) (t : Bool) (rest : List (Slot A))
      → let p = place d a r q in
      flagged_if t p.queue.slots ++ rest
      ≡ flagged_if (loss_now (some p.fate) t) q.slots ++ (stored_as a (some p.fate) (some r) t ++ rest)
  placing d a (Err w) q t rest = refl
  placing d a (Ok i) q t rest = go (ltb (length q.slots) d) t
    where
      slot : Bool → Slot A
      slot over = record { item = i; over = over; name = a }

      go : (room t : Bool)
          → let p = place_item room i a q in
          flagged_if t p.queue.slots ++ rest
          ≡ flagged_if (loss_now (some p.fate) t) q.slots ++ (stored_as a (some p.fate) (some (Ok i)) t ++ rest)
      go true true = rw flag_behind (append_assoc q.slots (slot true ∷ []) rest)
      go true false = append_assoc q.slots (slot false ∷ []) rest
      go false true = rw flag_twice
      go false false = refl

  -- HANDING OVER

  -- a read: what it takes and what it leaves, where an emptied queue loses nothing next
  taking : (n : ℕ) (l : List (Slot A)) (t : Bool) → (drop n l ≡ [] → 0 < length l → t ≡ false) → take n l ++ flagged_if t (drop n l) ≡ flagged_if t l
  taking n l false f = take-append-drop n l
  taking n l true f = go l (drop n l) refl f
    where
      go : (l r : List (Slot A)) → drop n l ≡ r → (drop n l ≡ [] → 0 < length l → true ≡ false) → take n l ++ flag_newest (drop n l) ≡ flag_newest l
      go [] r e f = rw (take-nil, drop-nil)
      go (x ∷ l) [] e f = absurd (true≢false (f e (omega arith)))
      go (x ∷ l) (y ∷ r) e f = rw e (sym (flag_behind (take n (x ∷ l)) y r) ∙ ap flag_newest (rw e at (take-append-drop n (x ∷ l))))

  rejoin : (x u v k w y : List (Slot A)) → u ++ v ≡ k ++ w → x ++ k ≡ y → (x ++ u) ++ v ≡ y ++ w
  rejoin x u v k w y p q = rw (append_assoc, p, ← append_assoc x k w, q)

  -- nothing is lost next from an empty queue with room
  no_loss_placing : (d : ℕ) (a : A) (r : Result Item Why) (q : Queue A) (t : Bool) → q.slots ≡ [] → 0 < d → ((place d a r q).queue.slots ≡ [] → t ≡ false)
      → loss_now (some (place d a r q).fate) t ≡ false
  no_loss_placing d a (Err w) q t e l ih = ih e
  no_loss_placing d a (Ok i) q t e l ih = let r : ltb (length q.slots) d ≡ true = rw e (lt-ltb 0 d l) in rw r

  -- the loss count behind an arrival, where k more are lost later
  count_placing : (d : ℕ) (a : A) (r : Result Item Why) (q : Queue A) (k : ℕ)
      → let p = place d a r q in
      min (p.queue.losses + k) 65535 ≡ min (q.losses + (lost_one (some p.fate) + k)) 65535
  count_placing d a (Err w) q k = omega arith
  count_placing d a (Ok i) q k = go (ltb (length q.slots) d)
    where
      go : (room : Bool)
          → let p = place_item room i a q in
          min (p.queue.losses + k) 65535 ≡ min (q.losses + (lost_one (some p.fate) + k)) 65535
      go true = omega arith
      go false = omega arith

  module _ {d : ℕ} {Rule : ReadRule A} where
    no_loss : {q q' : Queue A} {es : List (QueueEntry A)} → QueueRun d Rule q es q' → q.slots ≡ [] → 0 < d → loss_next es ≡ false
    no_loss ended e l = refl
    no_loss {q} (met (placed a r) run) e l = no_loss_placing d a r q _ e l (λ p. no_loss run p l)
    no_loss (met (taken a n told bytes t) run) e l = no_loss run (rw e (drop-nil told)) l
    no_loss (met (renewed a) run) e l = no_loss run refl l
    no_loss (met (left a r) run) e l = no_loss run e l

    fifo : {q q' : Queue A} {es : List (QueueEntry A)} → QueueRun d Rule q es q' → NoReset es → Fits d q
        → handed es ++ q'.slots ≡ flagged_if (loss_next es) q.slots ++ stored es
    fifo {q} ended s l = sym (append-nil q.slots)
    fifo {q} (met (placed a r) run) s l = fifo run s.1 (placed_fits d a r q l) ∙ placing d a r q _ _
    fifo {q} {q'} (met {es = es} (taken a n told bytes t) run) s l =
        let waits = q.slots in
        rejoin (take told waits) (handed es) q'.slots (flagged_if (loss_next es) (drop told waits)) (stored es) (flagged_if (loss_next es) waits)
        (fifo run s.1 (removed_fits d told q l))
        (taking told waits (loss_next es) (λ emptied some. no_loss run emptied (omega (arith, l.waiting))))
    fifo (met (renewed a) run) s l = absurd (true≢false s.0)
    fifo (met (left a r) run) s l = fifo run s.1 l

    count : {q q' : Queue A} {es : List (QueueEntry A)} → QueueRun d Rule q es q' → NoReset es → Fits d q
        → q'.losses ≡ min (q.losses + lost es) 65535
    count ended s l = omega (arith, l.losses)
    count {q} (met (placed a r) run) s l = count run s.1 (placed_fits d a r q l) ∙ count_placing d a r q _
    count {q} (met (taken a n told bytes t) run) s l = count run s.1 (removed_fits d told q l) ∙ omega arith
    count (met (renewed a) run) s l = absurd (true≢false s.0)
    count (met (left a r) run) s l = count run s.1 l ∙ omega arith

fits_empty : {A : Type 0} (d : ℕ) → Fits {A = A} d empty_queue
fits_empty d = record { waiting = omega arith; losses = omega arith }

pub first_in_first_out : FirstInFirstOut
first_in_first_out A z n small cs =
    since_reset_lem (λ es. handed (queue_history es) ++ (after z n cs).queue.slots ≡ stored (queue_history es))
    (λ es run steady. fifo (queue_run run) steady (fits_empty z.depth) ∙ rw flag_none)
    (channel_run z n small cs)

pub loss_count : LossCount
loss_count A z n small cs =
    since_reset_lem (λ es. (after z n cs).queue.losses ≡ min (lost (queue_history es)) 65535)
    (λ es run steady. count (queue_run run) steady (fits_empty z.depth) ∙ omega arith)
    (channel_run z n small cs)
