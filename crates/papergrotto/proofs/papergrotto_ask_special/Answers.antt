use Rattle.std.proofs.Common.{rules, []}
use Rattle.paper.specs.Channel.{transmit}
use Rattle.paper.specs.Transmitter.{ask_special}
use Rattle.channel.specs.Promise.{Promise}
use Rattle.papergrotto.proofs.Laws.{kept}
use Rattle.papergrotto.proofs.papergrotto_ask_special.Goals as goal

pub returns : goal.returns
returns c =
    let s = c.served.ensures in
    let promise : Promise c.args.channel.now (transmit (ask_special c.args.number)) s.0 [] = search rules in
    kept promise s.2 s.3
