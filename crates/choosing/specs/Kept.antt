-- What is kept after a look at each pair of a list.
use Rattle.std.specs.Prelude.{List, ◌≡◌}
use Rattle.paper.specs.Rate.{nearer}
use Rattle.paper.specs.declared.Pair.{Pair}
use Rattle.rates.specs.Looks.{best}
use Rattle.choosing.specs.declared.Seen.{Seen}

pub record Kept (before : Seen) (l : List Pair) (r : Seen) : Type 0 where
  pub same : r.wanted ≡ before.wanted
  pub is : r.pair ≡ best (nearer before.wanted.clock before.wanted.rate) before.pair l
