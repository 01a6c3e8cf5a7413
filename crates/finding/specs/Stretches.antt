-- A stretch of good characters that neither begin nor end a run, as the code goes through it.
use Rattle.std.specs.Prelude.{Bool, not, ◌||◌, List, [], ◌∷◌, ℕ, ◌+◌, eqb, length, Option, Some, None}
use Rattle.finding.specs.Finder.{form_step}
use Rattle.finding.specs.declared.Form.{Form}
use Rattle.finding.specs.declared.Begun.{Begun}
use Rattle.finding.specs.declared.Search.{Search}

-- neither an FF, nor an STX, nor an ETX
abbrev pub is_plain : ℕ → Bool
is_plain b = not (eqb b 0xFF || eqb b 0x02 || eqb b 0x03)

abbrev pub form_over : Option Form → List ℕ → Option Form
form_over None bs = None
form_over (Some f) [] = Some f
form_over (Some f) (b ∷ bs) = form_over (form_step f b) bs

abbrev pub grown_over : Begun → List ℕ → Begun
grown_over g bs = record { place = g.place; damaged = g.damaged; form = form_over g.form bs }

abbrev pub run_over : Option Begun → List ℕ → Option Begun
run_over None bs = None
run_over (Some g) bs = Some (grown_over g bs)

-- a search behind so many good characters
unfoldable pub behind : Search → List ℕ → Search
behind s bs =
    record {
      part = s.part;
      place = s.place + length bs;
      finder =
          record { passed = s.finder.passed + length bs; run = run_over s.finder.run bs; last = s.finder.last; sum = s.finder.sum };
    }
