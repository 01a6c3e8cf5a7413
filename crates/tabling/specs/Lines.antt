-- How long the lines for the fitters get.
use Rattle.std.specs.Prelude.{ℕ, ◌+◌, ◌*◌}
use Rattle.refusing.specs.Words.{longest_refusal}

-- a pair's answer and a newline; a refusal is the longest
abbrev pub longest_pair : ℕ
longest_pair = longest_refusal + 1

-- a space and at most three digits, since a setting is a byte
abbrev pub longest_column : ℕ
longest_column = 1 + 3

-- the first box's digit, eight columns and a newline
abbrev pub longest_line : ℕ
longest_line = 1 + 8 * longest_column + 1

-- the head line has eighteen characters
abbrev pub longest_table : ℕ
longest_table = 18 + 8 * longest_line
