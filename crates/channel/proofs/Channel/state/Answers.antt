use Rattle.std.proofs.Common.{ap, ◌∙◌, min}
use Rattle.channel.proofs.Laws.{shows}
use Rattle.channel.proofs.Channel.state.Goals as goal

pub returns : goal.returns
returns c =
    let x = c.args.self in shows x c.requires c.min.result (c.min.ensures ∙ ap (min x.queue.count) c.from.ensures)
