-- What a search comes to is what the definitions give.
use mathlib.Core.Path.{◌≡◌, refl, sym, ap, ap₂, subst, ◌∙◌}
use mathlib.Core.Bool.{Bool, true, false}
use mathlib.Core.List.{List, [], ◌∷◌, ◌++◌, append_assoc, append-nil}
use Prim.Native.Nat.{ℕ, ◌+◌}
use native.Mathlib.Omega.{arith}
use lib.Dec.{eqb}
use lib.ListN.{length, length-append}
use borrow.Author.Tests.{eq-eqb, ne_eqb}
use Rattle.std.specs.Prelude.{if◌then◌else◌, Option, Some, None, Result, Ok, Err}
use Rattle.paper.specs.Stream.{Character, good, damaged, Readout, Open, nothing, mark, mark_zero, first, stop, read_on, readout}
use Rattle.paper.specs.Confirmations.{ahead, entries, sum, countable, accepted, litres}
use Rattle.paper.specs.Yield.{counted_front}
use Rattle.paper.specs.declared.Entry.{Entry}
use Rattle.finding.specs.Finder.{step, counts, advance, tells, after}
use Rattle.finding.specs.Finder as finder
use Rattle.finding.specs.Search as search
use Rattle.finding.specs.Search.{beginning, waits, passed, pass, taken_at, take, Ending, ended, broken, full, Outcome, ends, told, goes_on, outcome, ended_by, ending_of, Searches}
use Rattle.finding.specs.declared.Finder.{Finder}
use Rattle.finding.specs.declared.PartRead.{PartRead}
use Rattle.finding.specs.declared.PartRead.TheVariants as parts
use Rattle.finding.specs.declared.Search.{Search}
use Rattle.finding.specs.declared.Stop.{Stop}
use Rattle.finding.specs.declared.Stop.TheVariants.{Broken, Full}
use Rattle.finding.specs.declared.Taken.{Taken}
use Rattle.finding.proofs.Searching.{counts_one}
use Rattle.finding.proofs.Finds.{tells_due, tells_pieces, after_pieces, sum_after}

-- THE FINDER'S COUNTS are those of the characters that it passed

passed_after : (f : Finder) (cs : List Character) → (after f cs).passed ≡ f.passed + length cs
passed_after f [] = omega arith
passed_after f (c ∷ cs) = passed_after (step f c).finder cs ∙ omega (arith, counts_one f c)

pub sum_of : (cs : List Character) → (after finder.beginning cs).sum ≡ sum cs
sum_of cs =
    sum_after finder.beginning cs ∙ ap (λ (es : List Entry). 0 + litres (accepted es)) (tells_due finder.beginning cs) ∙ omega arith

counts_after : (cs : List Character) → counts (after finder.beginning cs) ≡ countable cs
unfolding counts countable
counts_after cs =
    let places : (after finder.beginning cs).passed ≡ length cs = passed_after finder.beginning cs ∙ omega arith in
    rw (places, sum_of cs)

after_one : (cs : List Character) (c : Character) → after finder.beginning (cs ++ c ∷ []) ≡ (step (after finder.beginning cs) c).finder
after_one cs c = after_pieces finder.beginning cs (c ∷ [])

-- FROM A FRONT ON: what is still to come of a stream, of `whole` bytes, whose characters are those of the front p and cs, and rest behind them
record Comes (p cs : List Character) (rest : List ℕ) (whole : ℕ) (o : Outcome) : Type 0 where
  entries : tells finder.beginning p ++ o.entries ≡ entries (counted_front p cs)
  ending : o.ending ≡ ending_of whole (length p + length cs) (counted_front p cs) rest

all_there : (p : List Character) (whole : ℕ) (rest : List ℕ) → ended_by whole p rest ≡ ending_of whole (length p + length {A = Character} []) p rest
all_there p whole rest = let same : length p + 0 ≡ length p = omega arith in rw (same, eq-eqb (length p) (length p) refl)

comes_to_end : (p : List Character) (rest : List ℕ) (whole : ℕ) (e : Ending) → e ≡ ended_by whole p rest → Comes p [] rest whole (ends e)
comes_to_end p rest whole e is =
    record { entries = append-nil (tells finder.beginning p) ∙ tells_due finder.beginning p; ending = is ∙ all_there p whole rest }

-- ONE CHARACTER MORE

chosen_front : (p : List Character) (c : Character) (cs : List Character) (t : Bool) → countable (p ++ c ∷ []) ≡ t
    → counted_front p (c ∷ cs) ≡ (if t then counted_front (p ++ c ∷ []) cs else p)
chosen_front p c cs t e = ap (λ (u : Bool). if u then counted_front (p ++ c ∷ []) cs else p) e

longer : (p : List Character) (c : Character) (cs : List Character) → length (p ++ c ∷ []) + length cs ≡ length p + length (c ∷ cs)
longer p c cs = rw length-append (omega arith)

ahead_front : (o : Option Entry) (es : List Entry) → ahead o es ≡ ahead o [] ++ es
ahead_front None es = refl
ahead_front (Some e) es = refl

comes_more : (p : List Character) (c : Character) (cs : List Character) (rest : List ℕ) (whole : ℕ) (x y : Outcome)
    → countable (p ++ c ∷ []) ≡ true → Comes (p ++ c ∷ []) cs rest whole x
    → ahead (step (after finder.beginning p) c).entry x.entries ≡ y.entries → x.ending ≡ y.ending → Comes p (c ∷ cs) rest whole y
comes_more p c cs rest whole x y e w more same =
    let o = (step (after finder.beginning p) c).entry in
    record {
      entries =
          ap (λ (es : List Entry). tells finder.beginning p ++ es) (sym more ∙ ahead_front o x.entries)
          ∙ sym (append_assoc (tells finder.beginning p) (ahead o []) x.entries)
          ∙ ap (λ (es : List Entry). es ++ x.entries) (sym (tells_pieces finder.beginning p (c ∷ [])))
          ∙ w.entries ∙ ap entries (sym (chosen_front p c cs true e));
      ending =
          sym same ∙ w.ending
          ∙ ap₂ (λ (all : ℕ) (counted : List Character). ending_of whole all counted rest) (longer p c cs) (sym (chosen_front p c cs true e));
    }

comes_full : (p : List Character) (c : Character) (cs : List Character) (rest : List ℕ) (whole : ℕ) → countable (p ++ c ∷ []) ≡ false
    → Comes p (c ∷ cs) rest whole (ends (full (length p)))
comes_full p c cs rest whole e =
    record {
      entries = append-nil (tells finder.beginning p) ∙ tells_due finder.beginning p ∙ ap entries (sym (chosen_front p c cs false e));
      ending =
          rw (ne_eqb (length p) (length p + length (c ∷ cs)) (λ h. omega arith)) refl
          ∙ ap (λ (counted : List Character). ending_of whole (length p + length (c ∷ cs)) counted rest) (sym (chosen_front p c cs false e));
    }

-- what the finder does with it, by whether it can be counted
advance_by : (p : List Character) (f : Finder) (c : Character) → f ≡ after finder.beginning p → (t : Bool) → countable (p ++ c ∷ []) ≡ t
    → advance f c ≡ (if t then Ok (step (after finder.beginning p) c) else Err (Full (length p)))
unfolding advance
advance_by p f c is t e =
    let places : (after finder.beginning p).passed ≡ length p = passed_after finder.beginning p ∙ omega arith in
    rw (is, ← after_one p c, counts_after (p ++ c ∷ []), e, places)

module _ (p : List Character) (c : Character) (cs : List Character) (rest : List ℕ) (whole : ℕ) (s : Search) (width : ℕ) (bs : List ℕ)
    (below : (t : Search) → t.part ≡ parts.Nothing → t.place ≡ s.place + width → t.finder ≡ after finder.beginning (p ++ c ∷ [])
    → Comes (p ++ c ∷ []) cs rest whole (outcome t bs)) where
  pass_by : (t : Bool) → countable (p ++ c ∷ []) ≡ t
      → Comes
      p
      (c ∷ cs)
      rest
      whole
      (goes_on (passed s width (if t then Ok (step (after finder.beginning p) c) else Err (Full (length p)))) (λ u. outcome u bs))
  pass_by true e =
      let u = (search.behind s width (step (after finder.beginning p) c)).search in
      comes_more
      p
      c
      cs
      rest
      whole
      (outcome u bs)
      (told (step (after finder.beginning p) c).entry (outcome u bs))
      e
      (below u refl refl (sym (after_one p c)))
      refl
      refl
  pass_by false e = comes_full p c cs rest whole e

  pass_comes : s.finder ≡ after finder.beginning p → Comes p (c ∷ cs) rest whole (goes_on (pass s width c) (λ u. outcome u bs))
  unfolding pass
  pass_comes is = rw (advance_by p s.finder c is (countable (p ++ c ∷ [])) refl) (pass_by (countable (p ++ c ∷ [])) refl)

-- ALL BYTES

abbrev open_of : PartRead → Open
open_of parts.Nothing = nothing
open_of parts.Mark = mark
open_of parts.MarkZero = mark_zero

abbrev begun : PartRead → ℕ
begun parts.Nothing = 0
begun parts.Mark = 1
begun parts.MarkZero = 2

abbrev StillComes : List ℕ → Type 0
StillComes bs =
    (p : List Character) (s : Search) (part : PartRead) (whole : ℕ) → s.part ≡ part → s.finder ≡ after finder.beginning p
    → whole ≡ s.place + begun part + length bs
    → Comes p (read_on (open_of part) bs).characters (read_on (open_of part) bs).rest whole (outcome s bs)

comes_nil : StillComes []
comes_nil p s parts.Nothing whole e is w =
    rw e (comes_to_end p [] whole (ended s.finder.sum) (ap ended (ap (λ (f : Finder). f.sum) is ∙ sum_of p)))
comes_nil p s parts.Mark whole e is w = rw e (comes_to_end p (0xFF ∷ []) whole (broken s.place) (ap broken (omega arith)))
comes_nil p s parts.MarkZero whole e is w = rw e (comes_to_end p (0xFF ∷ 0x00 ∷ []) whole (broken s.place) (ap broken (omega arith)))

module _ (b : ℕ) (bs : List ℕ) (below : StillComes bs) (p : List Character) (s : Search) (whole : ℕ) (is : s.finder ≡ after finder.beginning p) where
  -- a whole character of so many bytes, the last of them b
  one_more : (c : Character) (width : ℕ) → whole ≡ s.place + width + length bs
      → Comes p (c ∷ (read_on nothing bs).characters) (read_on nothing bs).rest whole (goes_on (pass s width c) (λ u. outcome u bs))
  one_more c width w =
      pass_comes
      p
      c
      (read_on nothing bs).characters
      (read_on nothing bs).rest
      whole
      s
      width
      bs
      (λ t e l f. below (p ++ c ∷ []) t parts.Nothing whole e f (omega arith))
      is

  abbrev Then : Readout → Result Taken Stop → Type 0
  Then r k = Comes p r.characters r.rest whole (goes_on k (λ u. outcome u bs))

  at_nothing : (t : Bool) → whole ≡ s.place + 0 + length (b ∷ bs)
      → Then (if t then read_on mark bs else first (good b) (read_on nothing bs)) (if t then Ok (waits s parts.Mark) else pass s 1 (good b))
  at_nothing true w = below p (waits s parts.Mark).search parts.Mark whole refl is (omega arith)
  at_nothing false w = one_more (good b) 1 (omega arith)

  at_mark : (t u : Bool) → whole ≡ s.place + 1 + length (b ∷ bs)
      → Then (if t then first (good 0xFF) (read_on nothing bs) else if u then read_on mark_zero bs else stop (0xFF ∷ b ∷ bs))
      (if t then pass s 2 (good 0xFF) else if u then Ok (waits s parts.MarkZero) else Err (Broken s.place))
  at_mark true u w = one_more (good 0xFF) 2 (omega arith)
  at_mark false true w = below p (waits s parts.MarkZero).search parts.MarkZero whole refl is (omega arith)
  at_mark false false w = comes_to_end p (0xFF ∷ b ∷ bs) whole (broken s.place) (ap broken (omega arith))

  at_part : (part : PartRead) → whole ≡ s.place + begun part + length (b ∷ bs) → Then (read_on (open_of part) (b ∷ bs)) (taken_at part s b)
  unfolding taken_at
  at_part parts.Nothing w = at_nothing (eqb b 0xFF) w
  at_part parts.Mark w = at_mark (eqb b 0xFF) (eqb b 0x00) w
  at_part parts.MarkZero w = one_more (damaged b) 3 (omega arith)

comes : (bs : List ℕ) → StillComes bs
unfolding take
comes [] p s part whole e is w = comes_nil p s part whole e is w
comes (b ∷ bs) p s part whole e is w = subst (λ (q : PartRead). Comes p (read_on (open_of part) (b ∷ bs)).characters (read_on (open_of part) (b ∷ bs)).rest whole (goes_on (taken_at q s b) (λ u. outcome u bs))) (sym e) (at_part b bs (λ p' s' part' whole' e' is' w'. comes bs p' s' part' whole' e' is' w') p s whole is part w)

pub searches : (s : List ℕ) → Searches s
searches s =
    let w = comes s [] beginning parts.Nothing (length s) refl refl (omega arith) in
    let all : 0 + length (readout s).characters ≡ length (readout s).characters = omega arith in
    ap₂
    (λ (es : List Entry) (e : Ending). record { entries = es; ending = e })
    w.entries
    (w.ending ∙ ap (λ (n : ℕ). ending_of (length s) n (counted_front [] (readout s).characters) (readout s).rest) all)
