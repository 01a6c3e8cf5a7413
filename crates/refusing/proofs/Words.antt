-- The words of a refusal.
use mathlib.Core.List.{[], ◌∷◌, ◌++◌, append-nil}
use mathlib.Core.Path.{◌≡◌}
use Prim.Native.Nat.{ℕ, ◌≤◌}
use native.Mathlib.Omega.{arith}
use lib.ListN.{length, length-append}
use Rattle.paper.specs.Text.{text}
use Rattle.paper.specs.Decimal.{decimal}
use Rattle.paper.specs.Numbers.{refusal_numbers}
use Rattle.paper.specs.RateLines.{refused_words}
use Rattle.paper.specs.declared.Refusal.{Refusal}
use Rattle.refusing.specs.Words.{longest_refusal}

-- one number
pub alone : (r : Refusal) (n : ℕ) → refusal_numbers r ≡ n ∷ [] → refused_words r ≡ text "refused " ++ decimal n
unfolding refused_words
alone r n e = rw (e, append-nil (decimal n))

-- and what follows it
pub short_with : (r : Refusal) (n value : ℕ) → refusal_numbers r ≡ n ∷ value ∷ [] → length (decimal n) ≤ 3 → length (decimal value) ≤ 20
    → length (refused_words r) ≤ longest_refusal
unfolding refused_words
short_with r n value e few long =
    rw (e, append-nil (decimal value), length-append (decimal n) (text " " ++ decimal value)) (omega (arith, few, long))
