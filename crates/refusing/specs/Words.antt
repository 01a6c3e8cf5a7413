-- How long a refusal's words get.
use Rattle.std.specs.Prelude.{ℕ, ◌+◌}

-- `refused `, a number of at most three digits, a space and a place of at most twenty, since it is below 2 ^ 64
abbrev pub longest_refusal : ℕ
longest_refusal = 8 + 3 + 1 + 20
