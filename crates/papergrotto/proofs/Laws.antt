-- What is told follows from what a channel's call promises; and a promise admits one answer only.
use mathlib.Core.Path.{◌≡◌, ◌∙◌, sym, ap}
use mathlib.Core.List.{List}
use Prim.Native.Nat.{ℕ}
use Rattle.paper.specs.Channel.{ChannelCall}
use Rattle.channel.specs.declared.Channel.{Channel}
use Rattle.paper.specs.declared.Answered.{Answered}
use Rattle.channel.specs.Promise as channel
use Rattle.channel.specs.Promise.{answered}
use Rattle.telling.specs.declared.Told.{Told}
use Rattle.telling.specs.Told.{told}
use Rattle.papergrotto.specs.Promise.{Promise, OneAnswer}

-- a call's promise, where its answer is told and its record is stored
pub kept : {before : Channel} {call : ChannelCall} {r : Answered Channel} {lent : List ℕ} {a : Told} {after : Channel}
    → channel.Promise before call r lent → a ≡ told r.answer → after ≡ r.next → Promise before call a after lent
unfolding answered
kept p said left =
    record {
      tells = said ∙ ap (λ (x : Answered Channel). told x.answer) p.gives;
      alters = left ∙ ap (λ (x : Answered Channel). x.next) p.gives;
      leaves = p.leaves;
      sound = rw left p.sound;
    }

pub one_answer : OneAnswer
one_answer before call r r' after after' l l' p q =
    (p.tells ∙ sym q.tells, (p.alters ∙ sym q.alters, p.leaves ∙ sym q.leaves))
