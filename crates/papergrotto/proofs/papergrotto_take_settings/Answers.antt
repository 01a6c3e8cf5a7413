use Rattle.std.proofs.Common.{rules}
use Rattle.paper.specs.Channel.{take_settings}
use Rattle.channel.specs.Promise.{Promise}
use Rattle.papergrotto.proofs.Laws.{kept}
use Rattle.papergrotto.proofs.papergrotto_take_settings.Goals as goal

pub returns : goal.returns
returns c =
    let s = c.served.ensures in
    let promise : Promise c.args.channel.now (take_settings c.args.bytes.now) s.0 c.args.bytes.now = search rules in
    kept promise s.2 s.3
