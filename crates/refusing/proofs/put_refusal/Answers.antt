use Rattle.std.proofs.Common.{rules, arith, ap, ◌≡◌, [], ◌∷◌}
use Rattle.paper.specs.Numbers.{refusal_numbers}
use Rattle.decimal.proofs.Digits.{decimal_of_8, decimal_of_64}
use Rattle.refusing.proofs.Words.{alone, short_with}
use Rattle.refusing.proofs.put_refusal.Goals as goal

pub returns-in-BadField-clause-short : goal.returns-in-BadField-clause-short
returns-in-BadField-clause-short c =
    let field = decimal_of_8 c.in-BadField.field (omega arith) in
    short_with c.args.refusal 5 c.in-BadField.field (ap refusal_numbers c.in-BadField.is) (decimal_of_8 5 (omega arith)) (omega (arith, field))

pub returns-in-BrokenStream-clause-short : goal.returns-in-BrokenStream-clause-short
returns-in-BrokenStream-clause-short c =
    short_with c.args.refusal 8 c.in-BrokenStream.place (ap refusal_numbers c.in-BrokenStream.is) (decimal_of_8 8 (omega arith))
    (decimal_of_64 c.in-BrokenStream.place (omega arith))

pub returns-in_default : goal.returns-in_default
returns-in_default c =
    let number = c.refusal_number-number in
    let one : refusal_numbers c.args.refusal ≡ number.result ∷ [] = search rules in
    record {
      text = rw (alone c.args.refusal number.result one) c.put_behind.ensures;
      short = rw (alone c.args.refusal number.result one) (omega (arith, decimal_of_8 number.result (omega arith)));
    }
