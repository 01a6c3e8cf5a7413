-- What goes out of a transmitter is what came in.
use mathlib.Core.Path.{◌≡◌, refl, sym, ap, ◌∙◌}
use mathlib.Core.Bool.{Bool, true, false, ◌&&◌, ◌||◌, true≢false}
use mathlib.Core.List.{List, [], ◌∷◌, ◌++◌, append_assoc, append-nil}
use mathlib.Core.Option.{Option, none, some}
use Prim.Native.Nat.{ℕ, zero, suc, ◌-◌, ◌≤◌, ◌<◌, min}
use native.Mathlib.Omega.{arith}
use lib.Dec.{eqb, ltb}
use lib.ListN.{length, take, replicate, length-set}
use lib.Seq.{get_or-set_same, take-nil}
use Rattle.paper.specs.Given.{Given, given}
use Rattle.paper.specs.Settings.{Size, bad_field}
use Rattle.paper.specs.Arrival.{NL}
use Rattle.paper.specs.Numbers.{numbers}
use Rattle.paper.specs.Transmitter.{Transmitter, TransmitCall, transmit_depth, load, turn, set_cts, ask_special, with_cts, loaded, sends, send_next, held, turned, special_taken, transmit_step}
use Rattle.paper.specs.Channel.{Channel, fresh, with_transmitter, ChannelCall, arrive, read, take_settings, reset, state, transmit, no_room, settings_taken, channel_step}
use Rattle.paper.specs.Card.{Card, Call, on, step, at, with}
use Rattle.paper.specs.Run.{Named, end}
use Rattle.paper.specs.declared.Settings.{Settings}
use Rattle.paper.specs.declared.Flags.{Flags}
use Rattle.paper.specs.declared.Answer.TheVariants.{Silent, Sent, Took}
use Rattle.demands.specs.History.{request, Entry, gathered, TransmitEntry, nothing_moved, transmitted, called_entry, transmit_history, queue_history, NoReset, after}
use Rattle.demands.specs.Demands.{AllKept, owing, waits, Gone, GoesOut}
use Rattle.demands.proofs.Choices.{either}
use Rattle.demands.proofs.Cases.{by_number}
use Rattle.demands.proofs.Turns.{load_of, lightest, Unheld, free, is_held, next_first}
use Rattle.demands.proofs.Port.{ChannelRun, finished, call, channel_run, since_reset_lem}

-- ONE CALL

-- what a call sends and leaves is what was there and what came
record Balanced (t : Transmitter) (e : TransmitEntry) (next : Transmitter) : Type 0 where
  queued : e.left ++ next.bytes ≡ t.bytes ++ e.took
  sent : e.sent ++ owing next.owed ≡ owing t.owed ++ e.due
  specials : e.special ++ waits next.special ≡ waits t.special ++ e.asked

-- nothing moved, whatever CTS is
still : (t : Transmitter) (v : Bool) → Balanced t nothing_moved (with_cts v t)
still t v = record { queued = sym (append-nil t.bytes); sent = sym (append-nil (owing t.owed)); specials = sym (append-nil (waits t.special)) }

take_min : {X : Type 0} (room : ℕ) (l : List X) → take room l ≡ take (min (length l) room) l
take_min room [] = simp take-nil
take_min zero (x ∷ l) = let e : min (length (x ∷ l)) 0 ≡ 0 = omega arith in rw e
take_min {X} (suc room) (x ∷ l) =
    let e : min (length (x ∷ l)) (suc room) ≡ suc (min (length l) room) = omega arith in
    rw e (ap (λ (r : List X). x ∷ r) (take_min room l))

module _ (s : Settings) (f : Flags) where
  -- a transmitter by its parts, so that a case may be made of each
  module _ (cts : Bool) where
    abbrev parts : List ℕ → Bool → Option ℕ → Transmitter
    parts bytes owed special = record { bytes = bytes; owed = owed; special = special; cts = cts }

    abbrev Turns : Transmitter → Given Transmitter → Type 0
    Turns t g = Balanced t (transmitted s t (numbers g.answer []) turn) g.next

    quiet_turn : (bytes : List ℕ) (owed : Bool) → Turns (parts bytes owed none) (given Silent (parts bytes owed none) [])
    quiet_turn bytes true = still (parts bytes true none) cts
    quiet_turn bytes false = still (parts bytes false none) cts

    -- the head goes, as itself or as CR
    head_goes : (b : ℕ) (rest : List ℕ) → Turns (parts (b ∷ rest) false none) (sends s (parts (b ∷ rest) false none) b rest)
    head_goes b rest = go (eqb s.expand 1 && eqb b NL) refl
      where
        go : (u : Bool) → (eqb s.expand 1 && eqb b NL) ≡ u → Turns (parts (b ∷ rest) false none) (sends s (parts (b ∷ rest) false none) b rest)
        go true e = rw e (record { queued = sym (append-nil (b ∷ rest)); sent = rw e; specials = refl })
        go false e = rw e (record { queued = sym (append-nil (b ∷ rest)); sent = rw e; specials = refl })

    next_goes : (bytes : List ℕ) (owed : Bool) → Turns (parts bytes owed none) (send_next s (parts bytes owed none) owed bytes)
    next_goes bytes true = record { queued = sym (append-nil bytes); sent = refl; specials = refl }
    next_goes [] false = quiet_turn [] false
    next_goes (b ∷ rest) false = head_goes b rest

    turn_balanced : (bytes : List ℕ) (owed : Bool) (w : Option ℕ) → Turns (parts bytes owed w) (turned s f (parts bytes owed w) w)
    turn_balanced bytes owed (some b) = record { queued = sym (append-nil bytes); sent = sym (append-nil (owing owed)); specials = refl }
    turn_balanced bytes owed none = either (Turns (parts bytes owed none)) (held s f (parts bytes owed none)) (quiet_turn bytes owed) (next_goes bytes owed)

  transmit_balanced : (t : Transmitter) (c : TransmitCall)
      → Balanced t (transmitted s t (numbers (transmit_step s f t c).answer []) c) (transmit_step s f t c).next
  unfolding transmit_step loaded
  transmit_balanced t (load l) =
      record {
        queued = ap (λ (r : List ℕ). t.bytes ++ r) (take_min (transmit_depth - length t.bytes) l);
        sent = sym (append-nil (owing t.owed));
        specials = sym (append-nil (waits t.special));
      }
  transmit_balanced t turn = turn_balanced t.cts t.bytes t.owed t.special
  transmit_balanced t (set_cts v) =
      either (λ (g : Given Transmitter). Balanced t nothing_moved g.next) (ltb 1 v) (still t t.cts) (still t (eqb v 1))
  transmit_balanced t (ask_special n) =
      either (λ (g : Given Transmitter). Balanced t (transmitted s t (numbers g.answer []) (ask_special n)) g.next)
      (ltb n 1 || ltb 4 n) (still t t.cts) (taken t.special)
    where
      taken : (w : Option ℕ)
          → let u = parts t.cts t.bytes t.owed w in
          let g = special_taken s u n w in
          Balanced u (transmitted s u (numbers g.answer []) (ask_special n)) g.next
      taken (some b) = still (parts t.cts t.bytes t.owed (some b)) t.cts
      taken none = record { queued = sym (append-nil t.bytes); sent = sym (append-nil (owing t.owed)); specials = refl }

-- any call but a reset
module _ {A : Type 0} (z : Size) (a : A) (h : Channel A) where
  abbrev Calls : ChannelCall → Given (Channel A) → Type 0
  Calls c g = Balanced h.transmitter (called_entry h (numbers g.answer []) c) g.next.transmitter

  stays : Balanced h.transmitter nothing_moved h.transmitter
  stays = still h.transmitter h.transmitter.cts

  settings_balanced : (l : List ℕ) (o : Option ℕ) → Calls (take_settings l) (settings_taken h l o)
  settings_balanced l (some field) = stays
  settings_balanced l none = stays

  balanced : (c : ChannelCall) → (request h c).reset ≡ false → Calls c (channel_step z a h c)
  unfolding channel_step
  balanced (arrive kind b) s = either (Calls (arrive kind b)) (ltb 3 kind) stays stays
  balanced (read n place buffer) s =
      let P = Calls (read n place buffer) in
      either P (ltb z.most n) stays (either P (no_room n place buffer) stays stays)
  balanced (take_settings l) s = settings_balanced l (bad_field z.most l)
  balanced reset s = absurd (true≢false s)
  balanced state s = stays
  balanced (transmit c) s = transmit_balanced h.settings h.flags h.transmitter c

-- A PORT'S CALLS

-- where each call keeps the balance between what goes out, what is held and what comes, so do all of them
rejoin : (x u v k w y j : List ℕ) → u ++ v ≡ k ++ w → x ++ k ≡ y ++ j → (x ++ u) ++ v ≡ y ++ (j ++ w)
rejoin x u v k w y j p q = rw (append_assoc, p, ← append_assoc x k w, q, append_assoc)

module _ (out : TransmitEntry → List ℕ) (kept : Transmitter → List ℕ) (came : TransmitEntry → List ℕ)
    (fair : (t : Transmitter) (e : TransmitEntry) (next : Transmitter) → Balanced t e next → out e ++ kept next ≡ kept t ++ came e) where
  all_balanced : {A : Type 0} {z : Size} {h h' : Channel A} {es : List (Entry A)} → ChannelRun z h es h' → NoReset (queue_history es)
      → gathered out (transmit_history es) ++ kept h'.transmitter ≡ kept h.transmitter ++ gathered came (transmit_history es)
  all_balanced {h = h} finished s = sym (append-nil (kept h.transmitter))
  all_balanced {z = z} {h = h} {h' = h'} (call {a = a} {c = c} {g = g} {es = es} e d run) s =
      let entry = called_entry h (numbers g.answer []) c in
      rejoin (out entry) (gathered out (transmit_history es)) (kept h'.transmitter) (kept g.next.transmitter) (gathered came (transmit_history es))
      (kept h.transmitter) (came entry)
      (all_balanced run s.1)
      (fair _ _ _ (rw e (balanced z a h c s.0)))

  all_kept : kept (fresh {A = Unit {0}}).transmitter ≡ [] → AllKept out kept came
  all_kept empty A z n small cs =
      since_reset_lem (λ es. gathered out (transmit_history es) ++ kept (after z n cs).transmitter ≡ gathered came (transmit_history es))
      (λ es run steady. rw empty at (all_balanced run steady))
      (channel_run z n small cs)

-- TURNS

record Lighter (t : Transmitter) (next : Transmitter) : Type 0 where
  cts : next.cts ≡ t.cts
  less : load_of next ≤ load_of t - 1

module _ (s : Settings) (f : Flags) (cts : Bool) where
  sends_lighter : (b : ℕ) (rest : List ℕ)
      → let t = parts s f cts (b ∷ rest) false none in
      Lighter t (sends s t b rest).next
  sends_lighter b rest =
      let t = parts s f cts (b ∷ rest) false none in
      either (λ (g : Given Transmitter). Lighter t g.next) (eqb s.expand 1 && eqb b NL)
      (record { cts = refl; less = omega arith }) (record { cts = refl; less = omega arith })

  next_lighter : (bytes : List ℕ) (owed : Bool)
      → let t = parts s f cts bytes owed none in
      Lighter t (send_next s t owed bytes).next
  next_lighter bytes true = record { cts = refl; less = omega arith }
  next_lighter [] false = record { cts = refl; less = omega arith }
  next_lighter (b ∷ rest) false = sends_lighter b rest

  turn_lighter : (bytes : List ℕ) (owed : Bool) (w : Option ℕ)
      → let t = parts s f cts bytes owed w in
      held s f t ≡ false → Lighter t (turned s f t w).next
  turn_lighter bytes owed (some b) free = record { cts = refl; less = omega arith }
  turn_lighter bytes owed none free = rw free (next_lighter bytes owed)

gone : (t : Transmitter) → load_of t ≤ 0 → Gone t
gone t light = go t.bytes t.owed t.special light
  where
    go : (bytes : List ℕ) (owed : Bool) (w : Option ℕ)
        → let u : Transmitter = record { bytes = bytes; owed = owed; special = w; cts = t.cts } in
        load_of u ≤ 0 → Gone u
    go [] false none light = record { bytes = refl; owed = refl; special = refl }
    go [] false (some b) light = absurd (omega arith)
    go [] true none light = absurd (omega arith)
    go [] true (some b) light = absurd (omega arith)
    go (b ∷ rest) owed w light = absurd (omega arith)

-- a turn on a port, and a law of what it gives
module _ {A : Type 0} (z : Size) (a : A) (K : Card A) (n : ℕ) (small : n < 4) (P : Given (Card A) → Type 0) where
  by_turn : (c : TransmitCall)
      → let h = at K n in
      let g = transmit_step h.settings h.flags h.transmitter c in
      P (given g.answer (with K n (with_transmitter g.next h)) g.lent) → P (step z a K (on n (transmit c)))
  unfolding channel_step
  by_turn c p = by_number z a K P n (transmit c) (λ above. absurd (omega arith)) (λ _. p)

module _ {A : Type 0} (z : Size) (a : A) (n : ℕ) (small : n < 4) where
  abbrev turns : ℕ → List (Named A Call)
  turns k = replicate k (record { name = a; call = on n (transmit turn) })

  all_goes : (k : ℕ) (K : Card A) → length K.channels ≡ 4
      → let h = at K n in
      Unheld h.settings h.flags h.transmitter → load_of h.transmitter ≤ k
      → Gone (at (end z K (turns k)) n).transmitter
  unfolding transmit_step
  all_goes zero K four unheld enough = gone (at K n).transmitter enough
  all_goes (suc k) K four unheld enough =
      let h = at K n in
      let t = h.transmitter in
      let lighter = turn_lighter h.settings h.flags t.cts t.bytes t.owed t.special (free h.settings h.flags t unheld) in
      let next = with_transmitter (turned h.settings h.flags t t.special).next h in
      let same : at (with K n next) n ≡ next = get_or-set_same K.channels n next fresh (omega arith) in
      by_turn z a K n small (λ (g : Given (Card A)). Gone (at (end z g.next (turns k)) n).transmitter) turn
      (all_goes k (with K n next) (length-set K.channels n next ∙ four)
      (rw same (unheld.0, λ on. lighter.cts ∙ unheld.1 on)) (rw same (omega (arith, lighter.less))))

pub goes_out : GoesOut
unfolding transmit_step loaded
goes_out =
    record {
      loads = λ A z a K n l small.
          let taken = Took (min (length l) (transmit_depth - length (at K n).transmitter.bytes)) in
          by_turn z a K n small (λ (g : Given (Card A)). g.answer ≡ taken) (load l) refl;
      queued = all_kept (λ e. e.left) (λ t. t.bytes) (λ e. e.took) (λ t e next b. b.queued) refl;
      sent = all_kept (λ e. e.sent) (λ t. owing t.owed) (λ e. e.due) (λ t e next b. b.sent) refl;
      specials = all_kept (λ e. e.special) (λ t. waits t.special) (λ e. e.asked) (λ t e next b. b.specials) refl;
      special_first = λ A z a K n b small e. by_turn z a K n small (λ (g : Given (Card A)). g.answer ≡ Sent b) turn (rw e);
      held = λ A z a K n small e holds.
          by_turn z a K n small (λ (g : Given (Card A)). g.answer ≡ Silent) turn (rw (e, is_held (at K n).settings (at K n).flags (at K n).transmitter holds));
      goes = λ A z a K n b rest small e runs clear due.
          let h = at K n in
          by_turn z a K n small (λ (g : Given (Card A)). g.answer ≡ Sent b) turn
          (rw (e, free h.settings h.flags h.transmitter (runs, clear))
          (next_first h.settings h.transmitter h.transmitter.owed h.transmitter.bytes b rest due));
      all_goes = λ A z a K n k small sound runs clear enough. all_goes z a n small k K sound.four (runs, clear) (lightest (at K n).transmitter k enough);
    }
