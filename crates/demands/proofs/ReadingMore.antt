-- DEMAND 3: on a port the same events give the same rulings, the arrivals numbered; and so reading more never loses more.
use mathlib.Core.Path.{◌≡◌, refl, sym, ap, ap₂, ◌∙◌, subst⁻¹}
use mathlib.Core.Bool.{Bool, true, false, true≢false}
use mathlib.Core.List.{List, [], ◌∷◌, ◌++◌, map}
use mathlib.Core.Option.{none}
use Prim.Native.Nat.{ℕ, suc, ◌+◌, ◌<◌}
use native.Mathlib.Omega.{arith}
use native.Mathlib.Nat.{le_refl, add-zero}
use lib.Dec.{eqb}
use Rattle.std.specs.Prelude.{if◌then◌else◌}
use Rattle.paper.specs.Settings.{Size, settings_of, fresh_settings}
use Rattle.paper.specs.Arrival
use Rattle.paper.specs.Transmitter.{loaded}
use Rattle.paper.specs.Channel.{Channel, fresh_flags}
use Rattle.paper.specs.Card.{Card, fresh_card, Call, on, pick, at, step}
use Rattle.paper.specs.Run.{run}
use Rattle.paper.specs.Given.{Given}
use Rattle.paper.specs.declared.Settings.{Settings}
use Rattle.paper.specs.declared.Flags.{Flags}
use Rattle.paper.specs.declared.Outcome.{Outcome}
use Rattle.demands.specs.History.{Report, arrivals, Event, arrived, changed, Entry, entry_of, port, events, queue_history, NoReset, Before, numbered, Each, nil, cons, history}
use Rattle.demands.specs.Demands.{ReadingMore}
use Rattle.demands.proofs.Choices.{chosen}
use Rattle.demands.proofs.Cases.{declined, loading, other, refusal, arrival, reading, change, renewal, showing, sending}
use Rattle.demands.proofs.Port.{ChannelRun, finished, call, channel_run, port_queue}
use Rattle.demands.proofs.TwoQueues.{Ruled, ruled_at, ruled, Keeps, reads_more}

-- NUMBERS: each entry has the number of arrivals before it; k: so far
abbrev Numbered : (k : ℕ) → List (Entry ℕ) → Type 0
Numbered k [] = Unit {0}
Numbered k (e ∷ es) = (e.by.name ≡ k) × Numbered (k + arrivals e.by.call) es

numbers : (z : Size) (n k : ℕ) (cs : List Call) (K : Card ℕ) → Numbered k (port n (run z K (numbered n k cs)))
numbers z n k [] K = tt
numbers z n k (pick ∷ cs) K = rw (add-zero k) (numbers z n k cs (step z k K pick).next)
numbers z n k (on m c ∷ cs) K = go (eqb m n) (λ (j : ℕ). numbers z n j cs g.next)
  where
    g : Given (Card ℕ)
    g = step z k K (on m c)

    go : (t : Bool) → ((j : ℕ) → Numbered j (port n (run z g.next (numbered n j cs))))
        → Numbered k
        (map (entry_of (at K n) g) (if t then record { name = k; call = c } ∷ [] else [])
        ++ port n (run z g.next (numbered n (k + (if t then arrivals c else 0)) cs)))
    go true ih = (refl, ih (k + arrivals c))
    go false ih = rw (add-zero k) (ih k)

-- WHAT THE EVENTS RULE, the first arrival numbered k

break_byte : (s : Settings) (f : Flags) (kind b : ℕ) → Arrival.arrival s f kind (if eqb kind 3 then 0 else b) ≡ Arrival.arrival s f kind b
unfolding Arrival.arrival
break_byte s f kind b = chosen (λ (c : ℕ). Arrival.arrival s f kind c ≡ Arrival.arrival s f kind b) (eqb kind 3) (λ e. rw e) (λ e. refl)

abbrev rulings : (k : ℕ) → Settings → Flags → List Event → List (Ruled ℕ)
rulings k s f [] = []
rulings k s f (arrived kind b ∷ es) =
    record { name = k; ruling = (Arrival.arrival s f kind b).ruling } ∷ rulings (suc k) s (Arrival.arrival s f kind b).flags es
rulings k s f (changed l ∷ es) = rulings k (settings_of l) fresh_flags es

-- j: the number that the entries go on with
ruled_by : {z : Size} {h h' : Channel ℕ} {es : List (Entry ℕ)} → ChannelRun z h es h' → NoReset (queue_history es)
    → (k j : ℕ) → j ≡ k → Numbered j es → ruled (queue_history es) ≡ rulings k h.settings h.flags (events es)
unfolding loaded
ruled_by finished s k j p n = refl
ruled_by (call _ (refusal r x y) run) s k j p n = ruled_by run s.1 k _ (omega arith) n.1
ruled_by {h = h} (call {es = es} _ (arrival kind b x) run) s k j p n =
    let o = Arrival.arrival h.settings h.flags kind b in
    ap₂ (λ (name : ℕ) (later : List (Ruled ℕ)). record { name = name; ruling = o.ruling } ∷ later) (n.0 ∙ p)
    (ruled_by run s.1 (suc k) _ (rw x (omega arith)) n.1)
    ∙ ap (λ (o : Outcome). record { name = k; ruling = o.ruling } ∷ rulings (suc k) h.settings o.flags (events es))
    (sym (break_byte h.settings h.flags kind b))
ruled_by (call _ (reading count place buffer x) run) s k j p n = ruled_by run s.1 k _ (omega arith) n.1
ruled_by (call _ (change l x) run) s k j p n = ruled_by run s.1 k _ (omega arith) n.1
ruled_by (call _ renewal run) s k j p n = absurd (true≢false s.0)
ruled_by (call _ showing run) s k j p n = ruled_by run s.1 k _ (omega arith) n.1
ruled_by (call _ (sending (declined r)) run) s k j p n = ruled_by run s.1 k _ (omega arith) n.1
ruled_by (call _ (sending (loading l)) run) s k j p n = ruled_by run s.1 k _ (omega arith) n.1
ruled_by {h = h} (call {a = a} {es = es} _ (sending (other o)) run) s k j p n =
    subst⁻¹
    (λ (says : Report).
    ruled_at a says.fate none ++ ruled (queue_history es)
    ≡ rulings k h.settings h.flags ((if says.refused then [] else []) ++ events es))
    o.calm
    (ruled_by run s.1 k _ (omega arith) n.1)

rules : (z : Size) (n : ℕ) → n < 4 → (cs : List Call)
    → let es = history z n (numbered n 0 cs) in
    NoReset (queue_history es) → ruled (queue_history es) ≡ rulings 0 fresh_settings fresh_flags (events es)
rules z n small cs s = ruled_by (channel_run z n small (numbered n 0 cs)) s 0 0 refl (numbers z n 0 cs fresh_card)

each_map : {A B : Type 0} {R S : A → B → Type 0} {l : List A} {m : List B} → ((a : A) (b : B) → R a b → S a b) → Each R l m → Each S l m
each_map f nil = nil
each_map f (cons {a = a} {b = b} r e) = cons (f a b r) (each_map f e)

pub reading_more : ReadingMore
reading_more z n small cs ds s t e l =
    each_map
    (λ (a b : Before ℕ) (k : Keeps z.depth z.depth a b). record { has = k.has (le_refl z.depth); accepts = k.accepts })
    (reads_more z.depth z.depth (le_refl z.depth) (port_queue z n small (numbered n 0 cs)) (port_queue z n small (numbered n 0 ds)) s t
    (rules z n small cs s ∙ ap (rulings 0 fresh_settings fresh_flags) e ∙ sym (rules z n small ds t)) l)
