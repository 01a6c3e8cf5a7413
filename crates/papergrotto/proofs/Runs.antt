-- Calls that keep their promises run as the paper's port does.
use mathlib.Core.List.{List, [], ◌∷◌, map}
use mathlib.Core.Path.{◌≡◌, refl, ap, ap₂, ◌∙◌, subst}
use Prim.Native.Nat.{ℕ, ◌<◌}
use lib.Dec.{lit≤}
use borrow.Author.Tests.{eq-eqb}
use Rattle.paper.specs.Settings.{card_size}
use Rattle.paper.specs.Given.{Given}
use Rattle.paper.specs.Channel as model
use Rattle.paper.specs.Channel.{ChannelCall, fresh, channel_step}
use Rattle.paper.specs.Card.{Card, fresh_card, step, on}
use Rattle.paper.specs.Run.{run}
use Rattle.demands.specs.History.{Entry, port, history, after}
use Rattle.demands.proofs.Port as ports
use Rattle.channel.specs.declared.Channel.{Channel}
use Rattle.channel.specs.Held.{size_of, channel_of, channel_in, Sound}
use Rattle.channel.specs.Promise.{given, answered}
use Rattle.channel.proofs.Laws.{channel_in_lem, fresh_sound, promised}
use Rattle.telling.specs.declared.Told.{Told}
use Rattle.telling.specs.Told.{told}
use Rattle.papergrotto.specs.Promise.{Promise}
use Rattle.papergrotto.specs.Runs.{Heard, Called, done, then_called, on_port, heard, RecordAsThePaper}
use Rattle.papergrotto.proofs.Laws.{kept}

-- A CHANNEL ALONE

-- what is heard of a list of calls on a channel, and the channel after them
abbrev all_heard : model.Channel Unit → List ChannelCall → List Heard
all_heard h [] = []
all_heard h (c ∷ cs) =
    let g = channel_step card_size tt h c in
    record { told = told g.answer; lent = g.lent } ∷ all_heard g.next cs

abbrev last : model.Channel Unit → List ChannelCall → model.Channel Unit
last h [] = h
last h (c ∷ cs) = last (channel_step card_size tt h c).next cs

-- the record that a call leaves holds the paper's next channel
next_in : (c d : Channel) (call : ChannelCall) (r : Told) (l : List ℕ) → Promise c call r d l → channel_in d ≡ (given c call).next
unfolding answered
next_in c d call r l p = ap channel_in p.alters ∙ channel_in_lem (size_of c) (given c call).next

shows : {c d : Channel} {calls : List ChannelCall} {hs : List Heard} → Called c calls hs d → hs ≡ all_heard (channel_in c) calls
unfolding given
shows done = refl
shows (then_called {c} {d} {e} {call} {calls} {r} {l} {hs} p rest) =
    ap₂ (λ (t : Heard) (us : List Heard). t ∷ us)
    (ap₂ (λ (x : Told) (k : List ℕ). record { told = x; lent = k }) p.tells p.leaves)
    (shows rest ∙ ap (λ (h : model.Channel Unit). all_heard h calls) (next_in c d call r l p))

leaves : {c d : Channel} {calls : List ChannelCall} {hs : List Heard} → Sound c → Called c calls hs d → d ≡ channel_of card_size (last (channel_in c) calls)
unfolding given
leaves s done = s.is
leaves s (then_called {c} {d} {e} {call} {calls} {r} {l} {hs} p rest) =
    leaves p.sound rest ∙ ap (λ (h : model.Channel Unit). channel_of card_size (last h calls)) (next_in c d call r l p)

every_list : (c : Channel) → Sound c → (calls : List ChannelCall)
    → Called c calls (all_heard (channel_in c) calls) (channel_of card_size (last (channel_in c) calls))
unfolding given answered
every_list c s [] = subst (λ (d : Channel). Called c [] [] d) s.is done
every_list c s (call ∷ calls) =
    let r = answered c (given c call) in
    let p = kept {a = told r.answer} (promised c s call r (given c call).lent refl refl) refl refl in
    then_called p (rw (channel_in_lem card_size (given c call).next) at (every_list r.next p.sound calls))

-- A PORT OF A CARD

-- what a port's history tells, and the channel after it, are those of its calls on the channel alone
abbrev call_of_lem : Entry Unit → ChannelCall
call_of_lem e = e.by.call

run_heard : {h h' : model.Channel Unit} {es : List (Entry Unit)} → ports.ChannelRun card_size h es h' → map heard es ≡ all_heard h (map call_of_lem es)
run_heard ports.finished = refl
run_heard (ports.call {g = g} {es = es} e d run) =
    ap (λ (hs : List Heard). record { told = told g.answer; lent = g.lent } ∷ hs) (run_heard run)
    ∙ ap (λ (x : Given (model.Channel Unit)). record { told = told x.answer; lent = x.lent } ∷ all_heard x.next (map call_of_lem es)) e

run_last : {h h' : model.Channel Unit} {es : List (Entry Unit)} → ports.ChannelRun card_size h es h' → h' ≡ last h (map call_of_lem es)
run_last ports.finished = refl
run_last (ports.call {g = g} {es = es} e d run) =
    run_last run ∙ ap (λ (x : Given (model.Channel Unit)). last x.next (map call_of_lem es)) e

-- where all calls are on the port, its history has all of them
port_calls : (n : ℕ) (calls : List ChannelCall) (K : Card Unit) → map call_of_lem (port n (run card_size K (on_port n calls))) ≡ calls
port_calls n [] K = refl
port_calls n (c ∷ cs) K = rw (eq-eqb n n refl) (ap (λ (l : List ChannelCall). c ∷ l) (port_calls n cs (step card_size tt K (on n c)).next))

module _ (n : ℕ) (small : n < 4) (calls : List ChannelCall) where
  port_heard : map heard (history card_size n (on_port n calls)) ≡ all_heard fresh calls
  port_heard = run_heard (ports.channel_run card_size n small (on_port n calls)) ∙ ap (all_heard fresh) (port_calls n calls fresh_card)

  port_last : after card_size n (on_port n calls) ≡ last fresh calls
  port_last = run_last (ports.channel_run card_size n small (on_port n calls)) ∙ ap (last fresh) (port_calls n calls fresh_card)

pub record_as_the_paper : RecordAsThePaper
unfolding given answered channel_step
record_as_the_paper =
    let empty = channel_in_lem card_size fresh in
    let sound = fresh_sound card_size refl (lit≤ tt) in
    record {
      shows = λ n small calls hs d called. rw (port_heard n small calls, ← empty) (shows called);
      leaves = λ n small calls hs d called. rw (port_last n small calls, ← empty) (leaves sound called);
      every_list = λ n small calls. rw (port_heard n small calls, port_last n small calls) (rw empty at (every_list (channel_of card_size fresh) sound calls));
      resets = λ c. record { tells = refl; alters = refl; leaves = refl; sound = sound };
    }
