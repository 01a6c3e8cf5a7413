-- Reading on to a line's end.
use mathlib.Core.Bool.{Bool, true, false}
use mathlib.Core.List.{List, ◌∷◌, ◌++◌}
use mathlib.Core.Option.{none}
use mathlib.Core.Path.{◌≡◌, refl, ◌∙◌}
use Prim.Native.Nat.{ℕ, ◌/◌, ◌%◌, ◌≤◌}
use native.Mathlib.Omega.{arith}
use lib.Dec.{eqb}
use lib.ListN.{take, drop}
use Rattle.std.specs.Prelude.{Some, None, Result, if◌then◌else◌}
use Rattle.paper.specs.Settings.{Size}
use Rattle.paper.specs.Card.{Card}
use Rattle.paper.specs.Frames.{call_of, line_call, lines, replied}
use Rattle.paper.specs.Frames as paper
use Rattle.hexadecimal.specs.declared.LineSoFar.{LineSoFar}
use Rattle.hexadecimal.specs.declared.Cut.{Cut}
use Rattle.hexadecimal.specs.LineSoFar.{held, Fits, left, Gathers}
use Rattle.hexadecimal.proofs.Laws.{left_start, ended_call}
use Rattle.paper.specs.declared.Refusal.{Refusal}
use Rattle.asking.specs.declared.Call.{Call}
use Rattle.asking.specs.Frame.{Means, bytes_in}
use Rattle.asking.specs.Leads.{goes_on, ends, Leads}

abbrev empty : LineSoFar
empty = record { digits = 0; last = 0 }

module _ (l : LineSoFar) (frame : List ℕ) (fits : Fits l frame) where
  pub bytes_small : bytes_in l ≤ 34
  unfolding bytes_in
  bytes_small = go (eqb (l.digits % 2) 1)
    where
      go : (t : Bool) → (if t then 0 else l.digits / 2) ≤ 34
      go true = omega arith
      go false = omega (arith, fits.digits)

  -- the call of a line is that of its frame
  calls : (z : Size) → line_call z (held l frame) ≡ call_of z (take (bytes_in l) frame)
  unfolding bytes_in call_of
  calls z = ended_call z l frame fits ∙ go (eqb (l.digits % 2) 1)
    where
      go : (t : Bool) → (if t then none else call_of z (take (l.digits / 2) frame)) ≡ call_of z (take (if t then 0 else l.digits / 2) frame)
      go true = refl
      go false = refl

  empty_fits : Fits empty frame
  empty_fits = record { digits = omega arith; last = omega arith; room = fits.room; bytes = fits.bytes }

  answered : (z : Size) (K : Card Unit) (rest : List ℕ)
      → let reply = replied z K (call_of z (take (bytes_in l) frame)) in
      paper.replies z K (held l frame ∷ lines rest) ≡ reply.text ++ left z reply.next empty frame rest
  answered z K rest = rw (left_start z (replied z K (call_of z (take (bytes_in l) frame))).next empty frame rest refl, ← calls z)

module _ (piece : List ℕ) (from : ℕ) (begun : LineSoFar) (before : List ℕ) (r : Cut) (after : List ℕ) (g : Gathers piece from begun before r after) where
  pub leads_behind : r.ended ≡ true → (long : ℕ) (found : Result Call Refusal) → long ≡ bytes_in r.line
      → ((z : Size) → Means z (take long after) found (call_of z (take long after)))
      → Leads piece from begun before (record { at = r.at; line = empty; long = long; found = Some found }) after
  leads_behind e long found is means =
      record {
        finds = ends found refl means (λ z K rest. (rw e at (g.same z K rest)) ∙ rw is (answered r.line after g.fits z K (drop r.at piece ++ rest)));
        fits = empty_fits r.line after g.fits;
        long = rw is (bytes_small r.line after g.fits);
        onward = g.onward;
        within = g.within;
      }

  pub leads_on : r.ended ≡ false → Leads piece from begun before (record { at = r.at; line = r.line; long = 0; found = None }) after
  leads_on e =
      record {
        finds = goes_on refl (λ z K rest. rw e at (g.same z K rest));
        fits = g.fits;
        long = omega arith;
        onward = g.onward;
        within = g.within;
      }
