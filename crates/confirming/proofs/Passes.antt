-- What is left of a stream in either pass, and what the first pass answers.
use mathlib.Core.Path.{◌≡◌, refl, sym, ap, ◌∙◌}
use mathlib.Core.Bool.{true, false, true≢false, or-true}
use mathlib.Core.List.{List, [], map, append-nil}
use Prim.Native.Nat.{ℕ, ◌+◌, ◌≤◌, ◌<◌}
use native.Mathlib.Omega.{arith}
use native.Mathlib.Numerals.{add-one}
use native.Mathlib.Nat.{zero-add}
use lib.ListN.{length, drop, set, length-set, length-map, drop_of_length-le}
use lib.Seq.{sets, sets-eq}
use borrow.Author.Tests.{lt-ltb, le-ltb}
use Rattle.paper.specs.Stream.{Character, readout, front}
use Rattle.paper.specs.Confirmations.{entries, sum, countable, LentList, listed_in, place_in, number_in, litres_in, judgement_in}
use Rattle.paper.specs.declared.Entry.{Entry}
use Rattle.finding.specs.Search.{beginning, ended, full, Outcome, stopped, end_at, told, outcome, Whole, counted, uncounted}
use Rattle.finding.specs.Walk.{Goes}
use Rattle.finding.specs.declared.PartRead.{PartRead}
use Rattle.finding.specs.declared.PartRead.TheVariants as parts
use Rattle.finding.specs.declared.Search.{Search}
use Rattle.finding.specs.declared.Stop.{Stop}
use Rattle.finding.specs.declared.Stop.TheVariants.{Broken, Full}
use Rattle.finding.proofs.Searching.{bounds}
use Rattle.finding.proofs.WholeStreams.{whole_streams}
use Rattle.confirming.specs.Counted.{counted_in, entries_in, HasPlaces, HasPlace, with_entry}
use Rattle.confirming.specs.Promise.{columns}
use Rattle.confirming.specs.Entries.{Begins, Ready, refused, Refuses, Nexts}
use Rattle.confirming.specs.declared.Entries.{Entries}
use Rattle.std.specs.Prelude.{Option, Some, None, Result, Ok, Err}
use Rattle.paper.specs.declared.Refusal.{Refusal}
use Rattle.paper.specs.declared.Refusal.TheVariants.{TooManyEntries}

-- what is left of the stream
abbrev left : Entries → Outcome
left e = outcome e.search (drop e.at e.stream.now)

-- where a pass stands: what is left comes to the same end, and so many entries are behind it
pub record Passing (stream : List ℕ) (e : Entries) (count : ℕ) : Type 0 where
  pub of : e.stream.now ≡ stream
  pub stands : Ready e
  pub behind : count + length (left e).entries ≡ length (outcome beginning stream).entries
  pub ending : (left e).ending ≡ (outcome beginning stream).ending

-- A column that fills: stored from `count` on, the entries still to come make of it what all of them make of the column as it was lent
pub record Filling (field : Entry → ℕ) (stream lent column : List ℕ) (e : Entries) (count : ℕ) : Type 0 where
  pub long : length column ≡ length lent
  pub stored : sets column count (map field (left e).entries) ≡ sets lent 0 (map field (outcome beginning stream).entries)

module _ {stream : List ℕ} {e : Entries} (b : Begins stream e) where
  pub passing_start : Passing stream e 0
  passing_start =
      record {
        of = b.of;
        stands = record { sound = rw b.search bounds.beginning; within = rw b.at (omega arith) };
        behind = rw (b.of, b.at, b.search) (omega arith);
        ending = rw (b.of, b.at, b.search);
      }

  pub filling_start : {field : Entry → ℕ} {lent : List ℕ} → Filling field stream lent lent e 0
  filling_start = record { long = refl; stored = rw (b.of, b.at, b.search) }

pub ready : {stream : List ℕ} {e : Entries} {count : ℕ} → Passing stream e count → Ready e
ready p = p.stands

module _ {stream : List ℕ} {e f : Entries} {count : ℕ} (p : Passing stream e count) {r : Result (Option Entry) Refusal} (n : Nexts e f r) where
  refuses : (a : Refusal) → r ≡ Err a → Refuses e a
  refuses a h = rw h at n.walks

  ends : {a : Refusal} (q : Refuses e a) → (outcome beginning stream).ending ≡ stopped q.stopped.stop
  ends q =
      sym p.ending
      ∙ ap (λ (bs : List ℕ). (outcome e.search bs).ending) (sym (append-nil (drop e.at e.stream.now)))
      ∙ ap (λ (o : Outcome). o.ending) (q.stops.comes [])

  goes : (o : Option Entry) → r ≡ Ok o → Goes e.stream.now e.at e.search (record { at = f.at; search = f.search; entry = o })
  goes o h = rw h at n.walks

  stands_on : (o : Option Entry) → r ≡ Ok o → Ready f
  stands_on o h = record { sound = (goes o h).follows.sound; within = rw n.of (goes o h).follows.within }

  -- what is left, from what going on tells
  leaves : (o : Option Entry) → r ≡ Ok o → left e ≡ told o (left f)
  leaves o h =
      ap (outcome e.search) (sym (append-nil (drop e.at e.stream.now)))
      ∙ (goes o h).follows.comes []
      ∙ rw (append-nil (drop f.at e.stream.now), n.of)

  module _ (none : r ≡ Ok None) where
    pub passes_on : Passing stream f count
    passes_on =
        record {
          of = n.of ∙ p.of;
          stands = stands_on None none;
          behind = rw (leaves None none) at p.behind;
          ending = rw (leaves None none) at p.ending;
        }

    pub fills_on : {field : Entry → ℕ} {lent column : List ℕ} → Filling field stream lent column e count → Filling field stream lent column f count
    fills_on g = record { long = g.long; stored = rw (leaves None none) at g.stored }

    pub all_read : length f.stream.now ≤ f.at
    all_read = omega (arith, ap length n.of, (goes None none).to_the_end refl)

  module _ (x : Entry) (one : r ≡ Ok (Some x)) where
    pub passes_one : Passing stream f (count + 1)
    passes_one =
        record {
          of = n.of ∙ p.of;
          stands = stands_on (Some x) one;
          behind = omega (arith, ap (λ (o : Outcome). length o.entries) (leaves (Some x) one), p.behind);
          ending = rw (leaves (Some x) one) at p.ending;
        }

    pub one_more : count < length (outcome beginning stream).entries
    one_more = omega (arith, passes_one.behind)

    pub fills_one : {field : Entry → ℕ} {lent column : List ℕ} → Filling field stream lent column e count
        → Filling field stream lent (set column count (field x)) f (count + 1)
    fills_one {field} {lent} {column} g =
        record { long = length-set column count (field x) ∙ g.long; stored = rw add-one (rw (leaves (Some x) one) at g.stored) }

-- AT THE END

module _ {stream : List ℕ} {e : Entries} {count : ℕ} (p : Passing stream e count) (h : length e.stream.now ≤ e.at) where
  over : drop e.at e.stream.now ≡ []
  over = drop_of_length-le e.stream.now h

  pub all_behind : count ≡ length (outcome beginning stream).entries
  all_behind = omega (arith, rw over at p.behind)

  pub ends_here : end_at e.search.part e.search ≡ (outcome beginning stream).ending
  ends_here = rw over at p.ending

  pub filled : {field : Entry → ℕ} {lent column : List ℕ} → Filling field stream lent column e count
      → length (outcome beginning stream).entries ≤ length lent → column ≡ front (map field (outcome beginning stream).entries) lent
  filled {field} {lent} {column} f fits =
      rw over at f.stored
      ∙ sets-eq (map field (outcome beginning stream).entries) lent 0 (rw (zero-add, length-map) fits)
      ∙ rw zero-add

ended_by_lem : (part : PartRead) (s : Search) (n : ℕ) → end_at part s ≡ ended n → s.finder.sum ≡ n
ended_by_lem parts.Nothing s n h = cc
ended_by_lem parts.Mark s n h = cc
ended_by_lem parts.MarkZero s n h = cc

not_full : (part : PartRead) (s : Search) (place : ℕ) → end_at part s ≡ full place → ⊥
not_full parts.Nothing s place h = cc
not_full parts.Mark s place h = cc
not_full parts.MarkZero s place h = cc

-- WHAT THE FIRST PASS ANSWERS, of a stream of which nothing is broken

module _ (cs : List Character) (most : ℕ) where
  uncounted_refused : countable cs ≡ false → Err TooManyEntries ≡ counted_in cs most
  unfolding counted_in
  uncounted_refused e = rw (e, or-true)

  pub too_many : {o : Outcome} → Whole cs o → most < length o.entries → Err TooManyEntries ≡ counted_in cs most
  unfolding counted_in
  too_many (counted e) h = rw (lt-ltb most (length (entries cs)) h)
  too_many (uncounted e es place) h = uncounted_refused e

  -- it stops only where it cannot be counted
  pub stops_far : {o : Outcome} → Whole cs o → (e : Stop) → o.ending ≡ stopped e → Err (refused e) ≡ counted_in cs most
  stops_far (counted e) (Broken place) h = cc
  stops_far (counted e) (Full place) h = cc
  stops_far (uncounted e es q) (Broken place) h = cc
  stops_far (uncounted e es q) (Full place) h = uncounted_refused e

  pub all_counted : {o : Outcome} → Whole cs o → (s : Search) (count : ℕ) → end_at s.part s ≡ o.ending → count ≡ length o.entries → count ≤ most
      → Ok (record { entries = count; litres = s.finder.sum }) ≡ counted_in cs most
  unfolding counted_in
  all_counted (counted e) s count h l few = rw (l, ended_by_lem s.part s (sum cs) h, e, le-ltb most (length (entries cs)) (omega arith))
  all_counted (uncounted e es place) s count h l few = absurd (not_full s.part s place h)

-- THE SECOND PASS

-- of a stream that has a place for each, all is put in
pub all_there : {s : List ℕ} {l : LentList} → HasPlaces s l
    → outcome beginning s ≡ record { entries = entries_in s; ending = ended (sum (readout s).characters) }
all_there {s} h = by (whole_streams s h.whole) h.counts
  where
    by : {o : Outcome} → Whole (readout s).characters o → countable (readout s).characters ≡ true
        → o ≡ record { entries = entries_in s; ending = ended (sum (readout s).characters) }
    by (counted e) f = refl
    by (uncounted e es place) f = absurd (true≢false (sym f ∙ e))

never_by : (e : Stop) {sum : ℕ} → ended sum ≡ stopped e → ⊥
never_by (Broken place) h = cc
never_by (Full place) h = cc

-- THE FIRST PASS counts

module _ {stream : List ℕ} {e f : Entries} {count : ℕ} (p : Passing stream e count) {r : Result (Option Entry) Refusal} (n : Nexts e f r) where
  module _ (whole : (readout stream).rest ≡ []) (most : ℕ) where
    pub counts_too_many : (x : Entry) → r ≡ Ok (Some x) → most ≤ count → Err TooManyEntries ≡ counted_in (readout stream).characters most
    counts_too_many x h few = too_many (readout stream).characters most (whole_streams stream whole) (omega (arith, one_more p n x h))

    pub counts_all : r ≡ Ok None → count ≤ most
        → Ok (record { entries = count; litres = f.search.finder.sum }) ≡ counted_in (readout stream).characters most
    counts_all h few =
        let on : Passing stream f count = passes_on p n h in
        let end = all_read p n h in
        all_counted
        (readout stream).characters
        most
        (whole_streams stream whole)
        f.search
        count
        (ends_here on end)
        (all_behind on end)
        few

    pub counts_no_further : (a : Refusal) → r ≡ Err a → Err a ≡ counted_in (readout stream).characters most
    counts_no_further a h =
        let q = refuses p n a h in
        rw q.is (stops_far (readout stream).characters most (whole_streams stream whole) q.stopped.stop (ends p n q))

-- THE SECOND PASS: all four columns fill
pub record Putting (stream : List ℕ) (lent list : LentList) (e : Entries) (count : ℕ) : Type 0 where
  pub passing : Passing stream e count
  pub places : Filling place_in stream lent.places list.places e count
  pub numbers : Filling number_in stream lent.numbers list.numbers e count
  pub litres : Filling litres_in stream lent.litres list.litres e count
  pub judgements : Filling judgement_in stream lent.judgements list.judgements e count

pub putting_start : {stream : List ℕ} {l : LentList} {e : Entries} → Begins stream e → Putting stream l l e 0
putting_start b =
    record {
      passing = passing_start b;
      places = filling_start b;
      numbers = filling_start b;
      litres = filling_start b;
      judgements = filling_start b;
    }

pub put_ready : {stream : List ℕ} {lent list : LentList} {e : Entries} {count : ℕ} → Putting stream lent list e count → Ready e
put_ready i = i.passing.stands

same_lists : {p n l j p' n' l' j' : List ℕ} → p ≡ p' → n ≡ n' → l ≡ l' → j ≡ j' → columns p n l j ≡ columns p' n' l' j'
same_lists a b c d = cc

module _ {stream : List ℕ} {lent list : LentList} {e f : Entries} {count : ℕ} (i : Putting stream lent list e count) where
  module _ {r : Result (Option Entry) Refusal} (n : Nexts e f r) (h : HasPlaces stream lent) where
    module _ (x : Entry) (one : r ≡ Ok (Some x)) where
      there : count < length (entries_in stream)
      there = rw (all_there h) at (one_more i.passing n x one)

      pub has_place : HasPlace count list
      has_place =
          record {
            in_places = omega (arith, there, h.in_places, i.places.long);
            in_numbers = omega (arith, there, h.in_numbers, i.numbers.long);
            in_litres = omega (arith, there, h.in_litres, i.litres.long);
            in_judgements = omega (arith, there, h.in_judgements, i.judgements.long);
          }

      pub puts_one : Putting stream lent (with_entry list count x) f (count + 1)
      puts_one =
          record {
            passing = passes_one i.passing n x one;
            places = fills_one i.passing n x one i.places;
            numbers = fills_one i.passing n x one i.numbers;
            litres = fills_one i.passing n x one i.litres;
            judgements = fills_one i.passing n x one i.judgements;
          }

    -- behind the last entry all are put
    module _ (none : r ≡ Ok None) where
      column_put : {field : Entry → ℕ} {lent' column : List ℕ} → Filling field stream lent' column e count
          → length (entries_in stream) ≤ length lent' → column ≡ front (map field (entries_in stream)) lent'
      column_put g fits =
          let same : (outcome beginning stream).entries ≡ entries_in stream = ap (λ (o : Outcome). o.entries) (all_there h) in
          filled (passes_on i.passing n none) (all_read i.passing n none) (fills_on i.passing n none g) (rw same fits) ∙ rw same

      pub puts_all : list ≡ listed_in (entries_in stream) lent
      puts_all =
          same_lists
          (column_put i.places h.in_places)
          (column_put i.numbers h.in_numbers)
          (column_put i.litres h.in_litres)
          (column_put i.judgements h.in_judgements)

    -- nothing is refused
    pub never_refused : (a : Refusal) → r ≡ Err a → ⊥
    never_refused a refused =
        let q = refuses i.passing n a refused in
        never_by q.stopped.stop (sym (ap (λ (o : Outcome). o.ending) (all_there h)) ∙ ends i.passing n q)
