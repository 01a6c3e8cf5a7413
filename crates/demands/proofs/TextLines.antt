-- The lines of a text.
use mathlib.Core.Path.{◌≡◌, refl, sym, ap}
use mathlib.Core.Bool.{false}
use mathlib.Core.Logic.{◌≢◌}
use mathlib.Core.List.{List, [], ◌∷◌, ◌++◌, nil≢cons}
use Prim.Native.Nat.{ℕ, suc}
use native.Mathlib.Omega.{arith}
use lib.Dec.{eqb}
use borrow.Author.Tests.{ne_eqb}
use Rattle.paper.specs.Frames.{newline, grown, lines}
use Rattle.demands.specs.Demands.{Without, TextLines}

-- the first is not the newline, nor is any behind it
first : (b : ℕ) (l : List ℕ) → Without newline (b ∷ l) → eqb b newline ≡ false
first b l w = ne_eqb b newline (w 0 (omega arith))

behind : (b : ℕ) (l : List ℕ) → Without newline (b ∷ l) → Without newline l
behind b l w i inside = w (suc i) (omega (arith, inside))

ended : (line rest : List ℕ) → Without newline line → lines (line ++ newline ∷ rest) ≡ line ∷ lines rest
ended [] rest w = refl
ended (b ∷ line) rest w = rw (first b line w) (ap (grown b) (ended line rest (behind b line w)))

pub text_lines : TextLines
text_lines = record { empty = refl; ended = ended; unended = unended }
  where
    unended : (line : List ℕ) → Without newline line → line ≢ [] → lines line ≡ line ∷ []
    unended [] w some = absurd (some refl)
    unended (b ∷ []) w some = rw (first b [] w)
    unended (b ∷ c ∷ line) w some = rw (first b (c ∷ line) w) (ap (grown b) (unended (c ∷ line) (behind b (c ∷ line) w) (λ e. absurd (nil≢cons (sym e)))))
