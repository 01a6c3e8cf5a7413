use Rattle.std.proofs.Common.{rules, arith, sym, ◌∙◌}
use Rattle.decimal.proofs.Words.{no_word, no_digit, ascii_digit, read_other, read_more}
use Rattle.decimal.proofs.parse.Goals as goal

pub returns-then-is_empty : goal.returns-then-is_empty
returns-then-is_empty c = no_word _ (search rules)

pub returns-then-not-is_ascii_digit : goal.returns-then-not-is_ascii_digit
returns-then-not-is_ascii_digit c =
    read_other c.loop-character.invariant c.loop-character-test.true
    (no_digit _ (sym c.is_ascii_digit.ensures.value ∙ c.if-not-is_ascii_digit.true))

pub loop-character-preserved : goal.loop-character-preserved
loop-character-preserved c =
    read_more c.loop-character.invariant c.loop-character-test.true
    (ascii_digit _ (sym c.is_ascii_digit.ensures.value ∙ c.if-not-is_ascii_digit.false))
    (omega (arith, c.in_ok-checked_mul.ensures.1, c.in_ok-value.ensures.1))
    (omega (arith, c.in_ok-value.ensures.0, c.in_ok-value.ensures.1))
