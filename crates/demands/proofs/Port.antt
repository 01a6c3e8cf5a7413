-- A port of the card answers as its channel alone does, call by call; and each call is one thing to the channel's receive queue.
use mathlib.Core.Path.{◌≡◌, refl, sym, ap, ◌∙◌}
use mathlib.Core.Bool.{Bool, true, false}
use mathlib.Core.List.{List, [], ◌∷◌}
use Prim.Native.Nat.{ℕ, zero, suc, ◌≤◌, ◌<◌}
use native.Mathlib.Omega.{arith}
use lib.Dec.{eqb}
use lib.ListN.{length, take, drop, length-set, get_or-replicate}
use lib.Seq.{get_or-set_same, take-append_seam, drop_at, length-take-le}
use borrow.Author.Tests.{eqb-true, eqb-false, eq-eqb}
use Rattle.paper.specs.Given.{Given}
use Rattle.paper.specs.Settings.{Size}
use Rattle.paper.specs.Queue.{Slot, oldest, removed, items_of}
use Rattle.paper.specs.Stream.{images}
use Rattle.paper.specs.Transmitter.{loaded}
use Rattle.paper.specs.Channel.{Channel, fresh, ChannelCall, written, channel_step}
use Rattle.paper.specs.Card.{Card, fresh_card, Call, on, pick, at, with, step}
use Rattle.paper.specs.Run.{Named, run, end}
use Rattle.demands.specs.History.{Entry, entry_of, port, behind_reset, since_reset, queue_entry, queue_history, NoReset, history, after}
use Rattle.demands.proofs.Cases.{declined, loading, other, Deed, refusal, arrival, reading, change, renewal, showing, sending, deed, by_number, by_pick}
use Rattle.demands.proofs.Isolation.{step_length, isolation}
use Rattle.demands.proofs.QueueRuns.{empty_queue, QueueStep, placed, taken, renewed, left, QueueRun, ended, met, Full}

-- A CHANNEL'S OWN HISTORY, from one channel to another

pub data ChannelRun {A : Type 0} (z : Size) : Channel A → List (Entry A) → Channel A → Type 0 where
  finished : {h : Channel A} → ChannelRun z h [] h
  call : {h h' : Channel A} {a : A} {c : ChannelCall} {g : Given (Channel A)} {es : List (Entry A)}
      → g ≡ channel_step z a h c → Deed z a h c g → ChannelRun z g.next es h' → ChannelRun z h (entry_of h g (record { name = a; call = c }) ∷ es) h'

module _ {A : Type 0} where
  module _ (z : Size) (a : A) (K : Card A) where
    -- a pick alters no channel
    pick_at : (n : ℕ) → at (step z a K pick).next n ≡ at K n
    pick_at n = by_pick z a K (λ g. at g.next n ≡ at K n) refl (λ _ _. refl)

  module _ (z : Size) (n : ℕ) (small : n < 4) where
    abbrev PortRun : Card A → List (Named A Call) → Type 0
    PortRun K cs = ChannelRun z (at K n) (port n (run z K cs)) (at (end z K cs) n)

    -- behind one call, where law has it of the calls that follow
    module _ (cs : List (Named A Call)) (law : (K : Card A) → length K.channels ≡ 4 → PortRun K cs)
        (a : A) (K : Card A) (four : length K.channels ≡ 4) where
      here : (c : ChannelCall) → PortRun K (record { name = a; call = on n c } ∷ cs)
      here c =
          rw (eq-eqb n n refl)
          (by_number z a K
          (λ (g : Given (Card A)). ChannelRun z (at K n) (entry_of (at K n) g (record { name = a; call = c }) ∷ port n (run z g.next cs)) (at (end z g.next cs) n))
          n c (λ above. absurd (omega arith))
          λ _.
          let h = (channel_step z a (at K n) c).next in
          call refl (deed z a (at K n) c)
          (rw (get_or-set_same K.channels n h fresh (omega arith)) at (law (with K n h) (length-set K.channels n h ∙ four))))

      behind : (c : Call) → PortRun K (record { name = a; call = c } ∷ cs)
      behind pick = rw (pick_at z a K n) at (law (step z a K pick).next (step_length z a K pick ∙ four))
      behind (on m c) = go (eqb m n) refl
        where
          go : (t : Bool) → eqb m n ≡ t → PortRun K (record { name = a; call = on m c } ∷ cs)
          go true t = rw (eqb-true m n t) (here c)
          go false t =
              let e = isolation.others A z a K m c n (λ (e : n ≡ m). eqb-false m n t (sym e)) in
              rw t (rw e at (law (step z a K (on m c)).next (step_length z a K (on m c) ∙ four)))

    port_run : (cs : List (Named A Call)) (K : Card A) → length K.channels ≡ 4 → PortRun K cs
    port_run [] K four = finished
    port_run (c ∷ cs) K four = behind cs (port_run cs) c.name K four c.call

    pub channel_run : (cs : List (Named A Call)) → ChannelRun z fresh (history z n cs) (after z n cs)
    channel_run cs = rw (get_or-replicate 4 n (fresh {A = A}) fresh small) at (port_run cs fresh_card refl)

-- what holds of a history from a fresh channel on, without a reset, holds of any since the last reset
module _ {A : Type 0} {z : Size} {h' : Channel A} (P : List (Entry A) → Type 0)
    (law : (es : List (Entry A)) → ChannelRun z fresh es h' → NoReset (queue_history es) → P es) where
  pub since_reset_lem : {es : List (Entry A)} → ChannelRun z fresh es h' → P (since_reset es)
  since_reset_lem {es} run = go es run (law es run)
    where
      go : {h : Channel A} {es : List (Entry A)} (kept : List (Entry A)) → ChannelRun z h es h' → (NoReset (queue_history es) → P kept)
          → P (behind_reset kept es)
      go kept finished p = p tt
      go kept (call _ (refusal _ _ e) run) p = rw e (go kept run (λ s. p (e, s)))
      go kept (call _ (arrival _ _ _) run) p = go kept run (λ s. p (refl, s))
      go kept (call _ (reading _ _ _ _) run) p = go kept run (λ s. p (refl, s))
      go kept (call _ (change _ _) run) p = go kept run (λ s. p (refl, s))
      go kept (call {es = es} _ renewal run) p = go es run (law es run)
      go kept (call _ showing run) p = go kept run (λ s. p (refl, s))
      go kept (call _ (sending _) run) p = go kept run (λ s. p (refl, s))

-- WHAT A CALL IS TO THE QUEUE

-- what a read writes is found again from its place on
pub written_found : (buffer xs : List ℕ) (place : ℕ) → place ≤ length buffer → take (length xs) (drop place (written buffer place xs)) ≡ xs
written_found buffer xs place l = rw (drop_at (take place buffer) _ place (length-take-le place buffer l)) (take-append_seam xs _)

module _ {X : Type 0} where
  -- as many as were handed over are as good as what was asked for
  take_told : (n : ℕ) (l : List X) → take (length (take n l)) l ≡ take n l
  take_told zero l = refl
  take_told (suc n) [] = refl
  take_told (suc n) (x ∷ l) = ap (λ (r : List X). x ∷ r) (take_told n l)

  drop_told : (n : ℕ) (l : List X) → drop (length (take n l)) l ≡ drop n l
  drop_told zero l = refl
  drop_told (suc n) [] = refl
  drop_told (suc n) (x ∷ l) = drop_told n l

module _ {A : Type 0} {z : Size} where
  meets : {a : A} {h : Channel A} {c : ChannelCall} {g : Given (Channel A)}
      → Deed z a h c g → QueueStep z.depth Full h.queue (queue_entry (entry_of h g (record { name = a; call = c }))) g.next.queue
  unfolding loaded
  meets {a} (refusal _ _ e) = rw e (left a _)
  meets {a} (arrival kind b _) = placed a _
  meets {a} {h} (reading n place buffer inside) =
      let q = h.queue in
      let out = take_told n q.slots in
      let rest : removed (length (oldest n q)) q ≡ removed n q = rw drop_told in
      let images = written_found buffer (images (items_of (oldest n q))) place inside ∙ ap (λ (l : List (Slot A)). images (items_of l)) (sym out) in
      rw (← rest) (taken a n (length (oldest n q)) _ (record { out = out; rest = rest; images = images }))
  meets {a} (change l _) = left a _
  meets {a} renewal = renewed a
  meets {a} showing = left a _
  meets {a} (sending (declined _)) = left a _
  meets {a} (sending (loading l)) = left a _
  meets {a} (sending (other o)) = rw o.calm (left a _)

  pub queue_run : {h h' : Channel A} {es : List (Entry A)} → ChannelRun z h es h' → QueueRun z.depth Full h.queue (queue_history es) h'.queue
  queue_run finished = ended
  queue_run (call e d r) = met (meets d) (queue_run r)

pub port_queue : {A : Type 0} (z : Size) (n : ℕ) → n < 4 → (cs : List (Named A Call))
    → QueueRun z.depth Full empty_queue (queue_history (history z n cs)) (after z n cs).queue
port_queue z n small cs = queue_run (channel_run z n small cs)
