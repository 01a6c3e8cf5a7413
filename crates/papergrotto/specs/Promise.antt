-- What every call on a record where it stands promises.
use Rattle.std.specs.Prelude.{List, ◌≡◌, ℕ}
use Rattle.paper.specs.Channel.{ChannelCall}
use Rattle.channel.specs.declared.Channel.{Channel}
use Rattle.channel.specs.Held.{Sound}
use Rattle.channel.specs.Promise.{given, answered}
use Rattle.telling.specs.declared.Told.{Told}
use Rattle.telling.specs.Told.{told}

-- What is told, the record afterwards and the lent bytes afterwards are those of the paper's step on the record as it stood; and the record is sound.
pub record Promise (before : Channel) (call : ChannelCall) (r : Told) (after : Channel) (lent : List ℕ) : Type 0 where
  pub tells : r ≡ told (given before call).answer
  pub alters : after ≡ (answered before (given before call)).next
  pub leaves : lent ≡ (given before call).lent
  pub sound : Sound after

-- "show that the promise admits one answer only"
abbrev pub OneAnswer : Type 0
OneAnswer =
    (before : Channel) (call : ChannelCall) (r r' : Told) (after after' : Channel) (l l' : List ℕ)
    → Promise before call r after l → Promise before call r' after' l' → (r ≡ r') × ((after ≡ after') × (l ≡ l'))
