-- DEMAND 2 over whole call sequences: where marking was on at every arrival, the bytes that a host finds read back as the characters handed over.
use mathlib.Core.Path.{◌≡◌, refl, sym}
use mathlib.Core.Bool.{Bool, true, false}
use mathlib.Core.Logic.{◌≢◌}
use mathlib.Core.List.{List, [], ◌∷◌, ◌++◌, append_assoc, map-append}
use mathlib.Core.Option.{Option, none, some, some-ne-none}
use Prim.Native.Nat.{ℕ, zero, suc}
use lib.Dec.{eqb, ltb}
use lib.ListN.{length, take, drop}
use Rattle.std.specs.Prelude.{Result}
use Rattle.paper.specs.Arrival.{marking, good_item}
use Rattle.paper.specs.Queue.{Slot, Queue, place_item, place, flag_newest, items_of}
use Rattle.paper.specs.Stream.{images}
use Rattle.paper.specs.Channel.{Channel, ChannelCall, arrive, read, take_settings, reset, state, transmit}
use Rattle.paper.specs.Run.{nameless}
use Rattle.paper.specs.declared.Settings.{Settings}
use Rattle.paper.specs.declared.Item.{Item}
use Rattle.paper.specs.declared.Item.TheVariants.{Plain}
use Rattle.paper.specs.declared.Why.{Why}
use Rattle.demands.specs.History.{request, Entry, Marking, QueueEntry, queue_history, handed, bytes_found, history}
use Rattle.demands.specs.Demands.{ReadBack}
use Rattle.demands.proofs.Choices.{chosen}
use Rattle.demands.proofs.Arrivals.{Fit, stores, leaves, arrival_fit}
use Rattle.demands.proofs.Reader.{Markable, AllMarkable, nil, cons, items_back}
use Rattle.demands.proofs.QueueRuns.{ReadRule, placed, taken, renewed, left, QueueRun, ended, met, Full}
use Rattle.demands.proofs.Port.{port_queue}

-- WHAT ONE ARRIVAL STORES where marking is on

plain_markable : (b : ℕ) → eqb b 0xFF ≡ false → Markable (Plain b)
plain_markable b e = rw e

good_markable : (s : Settings) → marking s ≡ true → (b : ℕ) → Markable (good_item s b)
unfolding good_item
good_markable s m b = rw m (chosen Markable (eqb b 0xFF) (λ _. refl) (plain_markable b))

abbrev IfRuled : Option (Result Item Why) → Type 0
IfRuled none = Unit {0}
IfRuled (some r) = Fit Markable r

-- THE QUEUE HOLDS ONLY WHAT READS BACK

all_append : {l m : List Item} → AllMarkable l → AllMarkable m → AllMarkable (l ++ m)
all_append nil q = q
all_append (cons x p) q = cons x (all_append p q)

images-append : (l m : List Item) → images (l ++ m) ≡ images l ++ images m
images-append [] m = refl
images-append (i ∷ l) m = rw (images-append l m, append_assoc)

module _ {A : Type 0} where
  abbrev Fair : List (Slot A) → Type 0
  Fair l = AllMarkable (items_of l)

  fair-append : (l m : List (Slot A)) → Fair l → Fair m → Fair (l ++ m)
  fair-append l m p q = rw map-append (all_append p q)

  fair_parts : (n : ℕ) (l : List (Slot A)) → Fair l → Fair (take n l) × Fair (drop n l)
  fair_parts zero l p = (nil, p)
  fair_parts (suc n) [] p = (nil, nil)
  fair_parts (suc n) (x ∷ l) (cons m p) = let parts = fair_parts n l p in (cons m parts.0, parts.1)

  fair_flag : (l : List (Slot A)) → Fair l → Fair (flag_newest l)
  fair_flag [] p = nil
  fair_flag (x ∷ []) (cons m p) = cons m p
  fair_flag (x ∷ y ∷ l) (cons m p) = cons m (fair_flag (y ∷ l) p)

  fair_place : (d : ℕ) (a : A) {r : Result Item Why} (q : Queue A) → Fit Markable r → Fair q.slots → Fair (place d a r q).queue.slots
  fair_place d a q leaves p = p
  fair_place d a q (stores {i = i} m) p = go (ltb (length q.slots) d)
    where
      go : (room : Bool) → Fair (place_item room i a q).queue.slots
      go true = fair-append q.slots _ p (cons m nil)
      go false = fair_flag q.slots p

  handed_images : (l m : List (Slot A)) → images (items_of (l ++ m)) ≡ images (items_of l) ++ images (items_of m)
  handed_images l m = rw map-append (images-append (items_of l) (items_of m))

  -- OVER A QUEUE'S OWN HISTORY

  abbrev FitEntries : List (QueueEntry A) → Type 0
  FitEntries [] = Unit {0}
  FitEntries (e ∷ es) = (e.fate ≢ none → IfRuled e.ruling) × FitEntries es

  module _ {d : ℕ} {Rule : ReadRule A} where
    -- what is handed over reads back
    hands : {q q' : Queue A} {es : List (QueueEntry A)} → QueueRun d Rule q es q' → Fair q.slots → FitEntries es → Fair (handed es)
    hands ended p f = nil
    hands {q} (met (placed a r) run) p f = hands run (fair_place d a q (f.0 (some-ne-none _)) p) f.1
    hands {q} (met (taken a n told bytes t) run) p f =
        let parts = fair_parts told q.slots p in
        fair-append (take told q.slots) _ parts.0 (hands run parts.1 f.1)
    hands (met (renewed a) run) p f = hands run nil f.1
    hands (met (left a r) run) p f = hands run p f.1

  -- the bytes found are the images of what was handed over
  found : {d : ℕ} {q q' : Queue A} {es : List (QueueEntry A)} → QueueRun d Full q es q' → bytes_found es ≡ images (items_of (handed es))
  found ended = refl
  found (met (placed a r) run) = found run
  found {q = q} (met (taken a n told bytes t) run) = rw (t.images, found run) (sym (handed_images (take told q.slots) _))
  found (met (renewed a) run) = found run
  found (met (left a r) run) = found run

  -- OF A PORT

  fit_request : (h : Channel A) → marking h.settings ≡ true → (c : ChannelCall) → IfRuled (request h c).ruling
  fit_request h m (arrive kind b) =
      (arrival_fit Markable h.settings m h.flags kind b (λ _. good_markable h.settings m) (λ _ _. refl) (λ _. refl)).rules
  fit_request h m (read n place buffer) = tt
  fit_request h m (take_settings l) = tt
  fit_request h m reset = tt
  fit_request h m state = tt
  fit_request h m (transmit c) = tt

  fit_entries : (es : List (Entry A)) → Marking es → FitEntries (queue_history es)
  fit_entries [] m = tt
  fit_entries (e ∷ es) m = (λ told. fit_request e.before (m.0 told) e.by.call, fit_entries es m.1)

pub read_back : ReadBack
read_back z n small cs m =
    let run = port_queue z n small (nameless cs) in
    rw (found run) (items_back (hands run nil (fit_entries (history z n (nameless cs)) m)))
