-- A piece served call by call.
use mathlib.Core.List.{List, [], ◌∷◌, ◌++◌, append_assoc}
use mathlib.Core.Path.{◌≡◌, refl, sym, subst}
use Prim.Native.Nat.{ℕ, zero, suc, ◌≤◌, ◌<◌}
use native.Mathlib.Omega.{arith}
use lib.ListN.{length, take, get_or, set, replicate}
use Rattle.card.specs.Held.{Sound}
use Rattle.hexadecimal.specs.LineSoFar.{Fits}
use Rattle.page.specs.Page.{Page}
use Rattle.serving.specs.declared.Served.{Served}
use Rattle.serving.specs.Served.{Serves}
use Rattle.serving.specs.Program.{Carried, ServedFrom, over, then_served, PieceServed}

-- served so far: however the rest is served, the whole is
pub record Begun (piece : List ℕ) (s : Carried) (at : ℕ) (t : Carried) : Type 0 where
  pub wrote : List ℕ
  pub then : (output : List ℕ) (u : Carried) → ServedFrom piece at t output u → ServedFrom piece 0 s (wrote ++ output) u
  pub sound : Sound t.card
  pub fits : Fits t.line t.frame
  pub within : at ≤ length piece

pub begins : (piece : List ℕ) (s : Carried) → Sound s.card → Fits s.line s.frame → Begun piece s 0 s
begins piece s sound fits = record { wrote = []; then = λ output u more. more; sound = sound; fits = fits; within = omega arith }

module _ (piece : List ℕ) (s : Carried) (at : ℕ) (t : Carried) (b : Begun piece s at t) where
  pub goes_on_lem : (blank page : Page) (frame : List ℕ) (r : Served) → blank.text ≡ []
      → Serves t.card piece (record { at = at; line = t.line }) t.frame blank r frame page
      → Begun piece s r.spot.at (record { card = r.card; line = r.spot.line; frame = frame })
  goes_on_lem blank page frame r nothing serves =
      let first = page.text in
      record {
        wrote = b.wrote ++ first;
        then = λ output u more. subst (λ (w : List ℕ). ServedFrom piece 0 s w u) (sym (append_assoc b.wrote first output))
            (b.then (first ++ output) u (then_served blank page frame output r nothing serves more));
        sound = serves.sound;
        fits = serves.fits;
        within = serves.within;
      }

  pub ends : length piece ≤ at → PieceServed piece s t
  ends h =
      let e : at ≡ length piece = omega (arith, b.within) in
      record { wrote = b.wrote ++ []; served = b.then [] t (rw e over) }

-- a buffer of zeros fits a line of which nothing was read
zeros : (n i : ℕ) → get_or {A = ℕ} (replicate n 0) i 0 ≡ 0
zeros zero i = refl
zeros (suc n) zero = refl
zeros (suc n) (suc i) = zeros n i

pub fresh_fits : Fits (record { digits = 0; last = 0 }) (replicate 34 0)
fresh_fits = record { digits = omega arith; last = omega arith; room = refl; bytes = λ i. rw (zeros 34 i) (omega arith) }

-- the front of a buffer whose first byte was stored
pub first_set : (l : List ℕ) (b : ℕ) → 0 < length l → take 1 (set l 0 b) ≡ b ∷ []
first_set [] b h = absurd (omega arith)
first_set (x ∷ l) b h = refl
