-- The finder tells the entries, and keeps their sum.
use mathlib.Core.Path.{◌≡◌, refl, sym, ap, ◌∙◌}
use mathlib.Core.List.{List, [], ◌∷◌, ◌++◌}
use Prim.Native.Nat.{ℕ, ◌+◌}
use native.Mathlib.Omega.{arith}
use Rattle.std.specs.Prelude.{Option, Some, None}
use Rattle.paper.specs.Stream.{Character}
use Rattle.paper.specs.Confirmations.{Mark, start, finish, inner, mark, ahead, body_at, body, Run, run_at, runs_from, Finding, findings, judge, judged, accepted, litres, litres_of}
use Rattle.finding.specs.Finder.{fresh, grow, closing, quiet, tell, close, step_at, step, beginning, tells, after, Finds}
use Rattle.paper.specs.declared.Confirmation.{Confirmation}
use Rattle.paper.specs.declared.Entry.{Entry}
use Rattle.finding.specs.declared.Begun.{Begun}
use Rattle.finding.specs.declared.Finder.{Finder}
use Rattle.finding.specs.declared.Step.{Step}
use Rattle.finding.proofs.Forms.{grown_all, closing_found}

-- what the run that is open gives, with the characters up to its ETX
abbrev pending : Option Begun → Option (List Character) → Option Finding
pending None rest = None
pending (Some g) None = None
pending (Some g) (Some l) = closing (Some (grown_all g l))

-- the entries of what follows, for a finder in any state
abbrev pub due : Finder → List Character → List Entry
due f cs = judged f.last (ahead (pending f.run (body cs)) (findings (runs_from f.passed cs)))

-- an STX abandons the run that is open; its own is that of the definition
started : (o : Option Begun) (place : ℕ) (rest : Option (List Character)) (rs : List Run)
    → ahead (pending (Some (fresh place)) rest) (findings rs) ≡ ahead (pending o None) (findings (ahead (run_at start place rest) rs))
started None place None rs = refl
started (Some g) place None rs = refl
started None place (Some l) rs = ap (λ (o : Option Finding). ahead o (findings rs)) (closing_found place l)
started (Some g) place (Some l) rs = ap (λ (o : Option Finding). ahead o (findings rs)) (closing_found place l)

-- an ETX ends it
pending_end : (o : Option Begun) → closing o ≡ pending o (Some [])
pending_end None = refl
pending_end (Some g) = refl

-- any other character is one more of it
pending_on : (o : Option Begun) (c : Character) (rest : Option (List Character)) → pending (grow o c) rest ≡ pending o (body_at inner c rest)
pending_on None c rest = refl
pending_on (Some g) c None = refl
pending_on (Some g) c (Some l) = refl

module _ (f : Finder) (c : Character) (cs : List Character) (below : (g : Finder) → tells g cs ≡ due g cs) where
  closed : (o : Option Finding)
      → ahead (close f o).entry (tells (close f o).finder cs) ≡ judged f.last (ahead o (findings (runs_from (f.passed + 1) cs)))
  closed None = below (quiet f None).finder
  closed (Some g) = ap (λ (es : List Entry). judge f.last g ∷ es) (below (tell f (judge f.last g)).finder)

  tells_by : (m : Mark)
      → ahead (step_at m f c).entry (tells (step_at m f c).finder cs)
      ≡ judged f.last (ahead (pending f.run (body_at m c (body cs))) (findings (ahead (run_at m f.passed (body cs)) (runs_from (f.passed + 1) cs))))
  tells_by start =
      below (quiet f (Some (fresh f.passed))).finder ∙ ap (judged f.last) (started f.run f.passed (body cs) (runs_from (f.passed + 1) cs))
  tells_by finish =
      closed (closing f.run) ∙ ap (λ (o : Option Finding). judged f.last (ahead o (findings (runs_from (f.passed + 1) cs)))) (pending_end f.run)
  tells_by inner =
      below (quiet f (grow f.run c)).finder
      ∙ ap (λ (o : Option Finding). judged f.last (ahead o (findings (runs_from (f.passed + 1) cs)))) (pending_on f.run c (body cs))

pending_none : (o : Option Begun) → pending o None ≡ None
pending_none None = refl
pending_none (Some g) = refl

pub tells_due : (f : Finder) (cs : List Character) → tells f cs ≡ due f cs
unfolding step
tells_due f [] = rw (pending_none f.run)
tells_due f (c ∷ cs) = tells_by f c cs (λ g. tells_due g cs) (mark c)

-- PIECES

told_more : (o : Option Entry) (es fs : List Entry) → ahead o (es ++ fs) ≡ ahead o es ++ fs
told_more None es fs = refl
told_more (Some e) es fs = refl

pub tells_pieces : (f : Finder) (cs ds : List Character) → tells f (cs ++ ds) ≡ tells f cs ++ tells (after f cs) ds
tells_pieces f [] ds = refl
tells_pieces f (c ∷ cs) ds = ap (ahead (step f c).entry) (tells_pieces (step f c).finder cs ds) ∙ told_more (step f c).entry _ _

pub after_pieces : (f : Finder) (cs ds : List Character) → after f (cs ++ ds) ≡ after (after f cs) ds
after_pieces f [] ds = refl
after_pieces f (c ∷ cs) ds = after_pieces (step f c).finder cs ds

-- THE SUM

told_litres : (o : Option Confirmation) (cs : List Confirmation) → litres (ahead o cs) ≡ litres_of o + litres cs
told_litres None cs = omega arith
told_litres (Some c) cs = refl

-- what one step adds to the sum is the litres of what it tells
Adds : Finder → Step → Type 0
Adds f s = (es : List Entry) → s.finder.sum + litres (accepted es) ≡ f.sum + litres (accepted (ahead s.entry es))

closed_adds : (f : Finder) (o : Option Finding) → Adds f (close f o)
unfolding Adds
closed_adds f None es = refl
closed_adds f (Some g) es = rw told_litres (omega arith)

step_adds : (m : Mark) (f : Finder) (c : Character) → Adds f (step_at m f c)
unfolding Adds
step_adds start f c es = refl
step_adds finish f c es = closed_adds f (closing f.run) es
step_adds inner f c es = refl

pub sum_after : (f : Finder) (cs : List Character) → (after f cs).sum ≡ f.sum + litres (accepted (tells f cs))
unfolding step Adds
sum_after f [] = omega arith
sum_after f (c ∷ cs) = sum_after (step f c).finder cs ∙ step_adds (mark c) f c (tells (step f c).finder cs)

pub finds : (cs ds : List Character) → Finds cs ds
finds cs ds =
    record {
      entries = sym (tells_pieces beginning cs ds) ∙ tells_due beginning (cs ++ ds);
      sum =
          ap (λ (f : Finder). f.sum) (sym (after_pieces beginning cs ds))
          ∙ sum_after beginning (cs ++ ds)
          ∙ ap (λ (es : List Entry). 0 + litres (accepted es)) (tells_due beginning (cs ++ ds)) ∙ omega arith;
    }
