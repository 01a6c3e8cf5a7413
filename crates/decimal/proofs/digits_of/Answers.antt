use Rattle.std.proofs.Common.{sym}
use Rattle.decimal.proofs.Digits.{digits_are}
use Rattle.decimal.proofs.digits_of.Goals as goal

pub returns : goal.returns
returns c = sym (digits_are c.ilog10.result c.args.number c.max.result c.max.ensures c.ilog10.ensures.power_le c.ilog10.ensures.next_power_gt)
