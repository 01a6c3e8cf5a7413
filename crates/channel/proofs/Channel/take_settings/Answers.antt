use mathlib.Core.Path.{sym}
use Rattle.channel.proofs.Laws.{takes, refuses_settings}
use Rattle.channel.proofs.Channel.take_settings.Goals as goal

pub returns-in-Err : goal.returns-in-Err
returns-in-Err c = rw c.refuse.ensures (refuses_settings c.args.self c.requires c.args.bytes.now _ (sym c.in-Err.ensures))

pub returns-in-Ok : goal.returns-in-Ok
returns-in-Ok c = takes c.args.self c.requires c.args.bytes.now _ (sym c.in-Ok.ensures)
