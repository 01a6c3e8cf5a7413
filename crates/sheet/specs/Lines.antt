-- How long lines of the yield sheet get.
use Rattle.std.specs.Prelude.{ℕ, ◌+◌}

-- a number of four digits, a space, litres of ten digits, since they are below 2 ^ 32, and a newline
abbrev pub longest_said : ℕ
longest_said = 4 + 1 + 10 + 1

-- behind "accepted " or "repeated "
abbrev pub longest_judgement : ℕ
longest_judgement = 9 + longest_said

-- The longest line: a place of 20 digits, since it is below 2 ^ 64, a space, and how the entry is judged
abbrev pub longest : ℕ
longest = 20 + 1 + longest_judgement
