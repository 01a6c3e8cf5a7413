use Rattle.std.proofs.Common.{rules, arith}
use Rattle.hexadecimal.proofs.Laws.{keeps_value, keeps_no_value, keeps_too_many}
use Rattle.hexadecimal.proofs.keep.Goals as goal

pub returns-then-value-gt15 : goal.returns-then-value-gt15
returns-then-value-gt15 c = search (rules, keeps_no_value)

pub returns-then-count-ge-MOST_DIGITS : goal.returns-then-count-ge-MOST_DIGITS
returns-then-count-ge-MOST_DIGITS c = keeps_too_many c.requires.fits.0 c.args.character c.requires.fits.1 (omega arith)

pub returns : goal.returns
returns c = search (rules, keeps_value)
