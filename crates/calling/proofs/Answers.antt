-- From a channel's promise to an answer line.
use mathlib.Core.List.{List}
use Prim.Native.Nat.{ℕ}
use native.Mathlib.Omega.{arith}
use Rattle.paper.specs.Channel.{ChannelCall}
use Rattle.channel.specs.declared.Channel.{Channel}
use Rattle.paper.specs.declared.Answered.{Answered}
use Rattle.channel.specs.Held.{size_of, Sound, channel_in}
use Rattle.channel.specs.Promise.{Promise, given, answered}
use Rattle.answers.specs.AnswerLine.{Small}
use Rattle.answers.proofs.Laws.{small}

-- the answer fits a line
pub fits : (c : Channel) (call : ChannelCall) (a : Answered Channel) (lent : List ℕ) → Promise c call a lent → Sound c
    → Small a.answer lent
unfolding given answered
fits c call a lent p s = rw (p.gives, p.leaves) (small (size_of c) (omega arith) (channel_in c) s.bounds call)
