-- The digits so far spell the value, and the rest of the word decides as behind them.
use Rattle.decimal.proofs.Words.{Read}
use Rattle.decimal.proofs.parse.Given as goal

abbrev pub invariant-loop-character : goal.invariant-loop-character
invariant-loop-character l = Read l.word l.value l.character-index
