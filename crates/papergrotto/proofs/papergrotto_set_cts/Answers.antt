use Rattle.std.proofs.Common.{rules, []}
use Rattle.paper.specs.Channel.{transmit}
use Rattle.paper.specs.Transmitter.{set_cts}
use Rattle.channel.specs.Promise.{Promise}
use Rattle.papergrotto.proofs.Laws.{kept}
use Rattle.papergrotto.proofs.papergrotto_set_cts.Goals as goal

pub returns : goal.returns
returns c =
    let s = c.served.ensures in
    let promise : Promise c.args.channel.now (transmit (set_cts c.args.value)) s.0 [] = search rules in
    kept promise s.2 s.3
