-- What the reader's call promises.
use Rattle.std.specs.Prelude.{List, ◌≡◌, ℕ}
use Rattle.paper.specs.Numbers.{reading_numbers}
use Rattle.paper.specs.Stream.{Decoded, decode}

-- The answer and both buffers afterwards are those of the paper's reader. So the answer's numbers are the paper's.
pub record Promise (s sorts bytes : List ℕ) (d : Decoded) : Type 0 where
  pub gives : d ≡ decode s sorts bytes
  pub says : reading_numbers d.answer ≡ reading_numbers (decode s sorts bytes).answer

-- "show that the promise admits one answer only"
abbrev pub OneAnswer : Type 0
OneAnswer = (s sorts bytes : List ℕ) (d d' : Decoded) → Promise s sorts bytes d → Promise s sorts bytes d' → d ≡ d'
