-- The line of an answer, and the answers that fit one.
use Rattle.std.specs.Prelude.{List, ℕ, ◌<◌}
use Rattle.paper.specs.Numbers.{fate_number, numbers}
use Rattle.paper.specs.declared.Answer.{Answer}
use Rattle.paper.specs.declared.Answer.TheVariants as answers
use Rattle.printing.specs.Printed.{line_of, SmallRefusal, SmallRead}

-- "prints one line of hexadecimal in capitals for each"
abbrev pub answer_line : Answer → (lent : List ℕ) → List ℕ
answer_line answer lent = line_of (numbers answer lent)

-- "fate; .. or taken; or 00, ..; or the channel picked, FF for none": what follows 00, of an answer with one number there
abbrev pub second_number : Answer → ℕ
second_number (answers.Refused r) = 0
second_number (answers.Fated f) = fate_number f
second_number (answers.Handed characters flagged bytes) = 0
second_number (answers.Took n) = n
second_number answers.Silent = 0
second_number (answers.Sent b) = 0
second_number answers.Done = 0
second_number (answers.Shown waiting sending stopped losses) = 0
second_number (answers.Picked n) = n
second_number answers.NoneReady = 0xFF

-- WHAT FITS A LINE. Each number of the answer is a byte: those that its type does not bound are named here.
abbrev pub Small : Answer → (lent : List ℕ) → Type 0
Small (answers.Refused r) lent = SmallRefusal r
Small (answers.Fated f) lent = Unit
Small (answers.Handed characters flagged bytes) lent = SmallRead characters flagged bytes lent
Small (answers.Took n) lent = n < 256
Small answers.Silent lent = Unit
Small (answers.Sent b) lent = Unit
Small answers.Done lent = Unit
Small (answers.Shown waiting sending stopped losses) lent = (waiting < 256) × (sending < 256)
Small (answers.Picked n) lent = Unit
Small answers.NoneReady lent = Unit
