-- What the test of settings answers.
use Rattle.std.specs.Prelude.{List, ℕ, Option, Some, None, Result, Ok, Err, eqb, length, take, if◌then◌else◌}
use Rattle.std.proofs.Math.Option as maybe
use Rattle.std.proofs.Math.Option.{none, some}
use Rattle.paper.specs.declared.Refusal.{Refusal}
use Rattle.paper.specs.declared.Refusal.TheVariants.{BadField}
use Rattle.paper.specs.declared.Settings.{Settings}
use Rattle.paper.specs.Settings.{Test, tests, settings_of}

-- the settings that the bytes are, unless a field of theirs is bad
abbrev pub judged_as : List ℕ → maybe.Option ℕ → Result Settings Refusal
judged_as l none = Ok (settings_of l)
judged_as l (some n) = Err (BadField n)

-- tests are passed, unless a field is bad
abbrev pub passed : maybe.Option ℕ → Result Unit Refusal
passed none = Ok tt
passed (some n) = Err (BadField n)

-- fifteen bytes as settings
abbrev pub fifteen : List ℕ → Option Settings
fifteen l = if eqb (length l) 15 then Some (settings_of l) else None

abbrev pub own_ranges : (most : ℕ) → Settings → List Test
own_ranges most s = take 10 (tests most s)
