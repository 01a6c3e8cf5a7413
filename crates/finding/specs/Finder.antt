-- THE FINDER: one character a step, in constant memory. `step` is over numbers of any size; `advance`, which the code promises, ends where they no
-- longer can be counted. What `step` tells of characters are their entries (Finds).
use Rattle.std.specs.Prelude.{Bool, false, ◌&&◌, ◌||◌, ◌≡◌, List, [], ◌∷◌, ◌++◌, ℕ, ◌+◌, ◌*◌, ◌-◌, leb, ltb, if◌then◌else◌, Option, Some, None, Result, Ok, Err}
use Rattle.paper.specs.Stream.{Character, byte}
use Rattle.paper.specs.Confirmations.{Mark, start, finish, inner, mark, fits, right_length, ahead, is_damaged, Finding, finding, counted, litres_of, last_after, judge, furthest, entries, sum}
use Rattle.paper.specs.declared.Confirmation.{Confirmation}
use Rattle.paper.specs.declared.Entry.{Entry}
use Rattle.finding.specs.declared.Form.{Form}
use Rattle.finding.specs.declared.Begun.{Begun}
use Rattle.finding.specs.declared.Finder.{Finder}
use Rattle.finding.specs.declared.Step.{Step}
use Rattle.finding.specs.declared.Stop.{Stop}
use Rattle.finding.specs.declared.Stop.TheVariants.{Full}

abbrev pub formed : (seen number litres : ℕ) → Form
formed seen number litres = record { seen = seen; number = number; litres = litres }

-- with one byte more; none, where that is of another form
unfoldable pub form_step : Form → ℕ → Option Form
form_step f b =
    if ltb f.seen 11 && fits f.seen b
    then Some
    (formed (f.seen + 1)
    (if ltb f.seen 4 then 10 * f.number + (b - 0x30) else f.number)
    (if ltb 4 f.seen then 10 * f.litres + (b - 0x30) else f.litres))
    else None

-- what is of another form stays so, whatever follows
abbrev pub form_on : Option Form → ℕ → Option Form
form_on None b = None
form_on (Some f) b = form_step f b

unfoldable pub content_in : Option Form → Option Confirmation
content_in None = None
content_in (Some f) = if right_length f.seen then Some (record { number = f.number; litres = f.litres }) else None

-- a run, just begun by the STX at a place
abbrev pub fresh : ℕ → Begun
fresh place = record { place = place; damaged = false; form = Some (formed 0 0 0) }

abbrev pub grown : Begun → Character → Begun
grown g c = record { place = g.place; damaged = g.damaged || is_damaged c; form = form_on g.form (byte c) }

abbrev pub grow : Option Begun → Character → Option Begun
grow None c = None
grow (Some g) c = Some (grown g c)

-- what is listed of it at an ETX
abbrev pub closing : Option Begun → Option Finding
closing None = None
closing (Some g) = finding g.place g.damaged (content_in g.form)

abbrev pub quiet : Finder → Option Begun → Step
quiet f o = record { finder = record { passed = f.passed + 1; run = o; last = f.last; sum = f.sum }; entry = None }

abbrev pub tell : Finder → Entry → Step
tell f e =
    record {
      finder =
          record {
            passed = f.passed + 1;
            run = None;
            last = last_after f.last (counted e.judgement);
            sum = f.sum + litres_of (counted e.judgement);
          };
      entry = Some e;
    }

abbrev pub close : Finder → Option Finding → Step
close f None = quiet f None
close f (Some g) = tell f (judge f.last g)

abbrev pub step_at : Mark → Finder → Character → Step
step_at start f c = quiet f (Some (fresh f.passed))
step_at finish f c = close f (closing f.run)
step_at inner f c = quiet f (grow f.run c)

unfoldable pub step : Finder → Character → Step
step f c = step_at (mark c) f c

-- the place of a next character, and the litres, can be counted
unfoldable pub counts : Finder → Bool
counts f = leb f.passed furthest && leb f.sum furthest

-- the next step, where the finder still counts after it; where not it says so, by the place of the character, which it does not take
unfoldable pub advance : Finder → Character → Result Step Stop
advance f c = if counts (step f c).finder then Ok (step f c) else Err (Full f.passed)

abbrev pub beginning : Finder
beginning = record { passed = 0; run = None; last = None; sum = 0 }

-- what it tells of characters, and where it is after them
abbrev pub tells : Finder → List Character → List Entry
tells f [] = []
tells f (c ∷ cs) = ahead (step f c).entry (tells (step f c).finder cs)

abbrev pub after : Finder → List Character → Finder
after f [] = f
after f (c ∷ cs) = after (step f c).finder cs

-- WHAT IT FINDS: what it tells of characters, and goes on to tell of others, are their entries, and its sum is "the sum over the accepted ones", wherever
-- they are cut
pub record Finds (cs ds : List Character) : Type 0 where
  pub entries : tells beginning cs ++ tells (after beginning cs) ds ≡ entries (cs ++ ds)
  pub sum : (after (after beginning cs) ds).sum ≡ sum (cs ++ ds)
