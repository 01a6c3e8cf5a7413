-- Request n: the whole way through the card, the call over a stream and a lent list, and all of it.
use mathlib.Core.Path.{◌≡◌, refl}
use mathlib.Core.Bool.{not}
use mathlib.Core.Logic.{inl, inr}
use mathlib.Core.List.{List, [], ◌∷◌, append-nil}
use Prim.Native.Nat.{ℕ, ◌-◌, ◌<◌}
use lib.Dec.{ltb}
use lib.ListN.{length}
use borrow.Author.Tests.{le-ltb, ltb-true, ltb-false, not-true, not-false}
use Rattle.paper.specs.Settings.{Size}
use Rattle.paper.specs.Stream.{Character, readout}
use Rattle.paper.specs.Card.{Call}
use Rattle.paper.specs.Run.{nameless}
use Rattle.paper.specs.Confirmations.{entries, countable, LentList, places_of, confirmed_as, confirm}
use Rattle.demands.specs.Marks.{Accepts}
use Rattle.demands.specs.History.{Entry, behind_reset, Marking, history, queue_history, NoReset}
use Rattle.demands.specs.Confirmations.{NeverCountedTwice, Lists, WholeWay, ListGives, broken, too_many, served, Confirmations}
use Rattle.demands.proofs.Choices.{chosen_or}
use Rattle.demands.proofs.Reader.{first_broken_lem}
use Rattle.demands.proofs.Fifo.{first_in_first_out}
use Rattle.demands.proofs.ReadBack.{read_back}
use Rattle.demands.proofs.ConfirmationRuns.{all_runs}
use Rattle.demands.proofs.ConfirmationForms.{right_form}
use Rattle.demands.proofs.ConfirmationEntries.{listed_once, accepted_sound, never_twice}
use Rattle.demands.proofs.OutsideRuns.{places_alone}

-- THE WHOLE WAY

-- without resets, a history is its own part since the last one
since_none : {A : Type 0} (kept es : List (Entry A)) → NoReset (queue_history es) → behind_reset kept es ≡ kept
since_none kept [] s = refl
since_none kept (e ∷ es) s = rw s.0 (since_none kept es s.1)

lists : (s : List ℕ) (cs : List Character) → Accepts s cs → Lists s cs
unfolding confirm
lists s cs accepts l h e = rw (accepts, le-ltb (places_of l) (length (entries cs)) h, e)

whole_way : (z : Size) (n : ℕ) → n < 4 → (cs : List Call) → Marking (history z n (nameless cs)) → WholeWay z n cs
whole_way z n small cs m =
    let es = history z n (nameless cs) in
    let back = read_back z n small cs m in
    record {
      handed = lists _ _ back;
      stored = λ steady empty.
          let all = rw (empty, since_none es es steady, append-nil) at (first_in_first_out Unit z n small (nameless cs)) in
          lists _ _ (rw all at back);
    }

-- THE CALL

list_gives : (s : List ℕ) (l : LentList) (cs : List Character) (rest : List ℕ)
    → readout s ≡ record { characters = cs; rest = rest } → ListGives s l (confirmed_as s l cs rest)
list_gives s l cs (b ∷ rest) h = broken (length s - length (b ∷ rest)) (first_broken_lem s cs b rest h)
list_gives s l cs [] h =
    chosen_or
    (ListGives s l)
    (ltb (places_of l) (length (entries cs)))
    (not (countable cs))
    (λ e. too_many cs h (inl (ltb-true _ _ e)))
    (λ e. too_many cs h (inr (not-true _ e)))
    (λ e f. served cs h (ltb-false _ _ e) (not-false _ f))

call : (s : List ℕ) (l : LentList) → ListGives s l (confirm s l)
unfolding confirm
call s l = list_gives s l (readout s).characters (readout s).rest refl

-- ALL OF IT

never_counted_twice : (cs : List Character) → NeverCountedTwice cs
never_counted_twice cs = record { runs = all_runs cs; once = listed_once cs; sound = accepted_sound cs; never_twice = never_twice cs }

pub confirmations : Confirmations
confirmations =
    record {
      form = right_form;
      never_counted_twice = never_counted_twice;
      places_alone = places_alone;
      whole_way = whole_way;
      call = call;
    }
