-- How long the lines for the fitters get.
use Rattle.std.specs.Prelude.{ℕ, ◌+◌}

-- a sign and nineteen digits, since its size is at most 2 ^ 63
abbrev pub longest_signed : ℕ
longest_signed = 1 + 19

-- divisor and period of at most ten digits, since they are below 2 ^ 32, with a space behind each, and the deviation; a refusal is shorter
abbrev pub longest_choice : ℕ
longest_choice = 10 + 1 + 10 + 1 + longest_signed

-- what stands behind a rate's word: a space, the choice and a newline
abbrev pub longest : ℕ
longest = 1 + longest_choice + 1

-- a line whose word is a number below 2 ^ 32
abbrev pub longest_line : ℕ
longest_line = 10 + longest
