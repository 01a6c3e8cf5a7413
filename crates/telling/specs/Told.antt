-- An answer as C has it: the paper's number and values.
use Rattle.std.specs.Prelude.{List, [], ◌∷◌, ◌++◌, ℕ, take, if◌then◌else◌, Option, Result}
use Rattle.paper.specs.Numbers.{refusal_numbers, fate_number, reading_numbers, listing_numbers, choosing_numbers, ending_numbers}
use Rattle.paper.specs.declared.Answer.{Answer}
use Rattle.paper.specs.declared.Answer.TheVariants as answers
use Rattle.paper.specs.declared.Refusal.{Refusal}
use Rattle.paper.specs.declared.Listed.{Listed}
use Rattle.paper.specs.declared.Chosen.{Chosen}
use Rattle.telling.specs.declared.Told.{Told}

-- "Answers begin with 00 or the refusal number (5 is followed by its field), then: ...": the frame program's numbers, but of a read how many bytes
-- were written in the place of the bytes themselves, and a loss count as one number
abbrev pub words : Answer → List ℕ
words (answers.Refused r) = refusal_numbers r
words (answers.Fated f) = 0 ∷ fate_number f ∷ []
words (answers.Handed characters flagged bytes) = 0 ∷ characters ∷ flagged ∷ bytes ∷ []
words (answers.Took n) = 0 ∷ n ∷ []
words answers.Silent = 0 ∷ 0 ∷ []
words (answers.Sent b) = 0 ∷ 1 ∷ b ∷ []
words answers.Done = 0 ∷ []
words (answers.Shown waiting sending stopped losses) = 0 ∷ waiting ∷ sending ∷ (if stopped then 1 else 0) ∷ losses ∷ []
words (answers.Picked n) = 0 ∷ n ∷ []
words answers.NoneReady = 0 ∷ 0xFF ∷ []

-- the number, and four values: zeros where there are fewer
abbrev pub laid : List ℕ → Told
laid [] = record { refusal = 0; values = 0 ∷ 0 ∷ 0 ∷ 0 ∷ [] }
laid (number ∷ values) = record { refusal = number; values = take 4 (values ++ 0 ∷ 0 ∷ 0 ∷ 0 ∷ []) }

unfoldable pub told : Answer → Told
told a = laid (words a)

unfoldable pub reading_told : Result ℕ Refusal → Told
reading_told r = laid (reading_numbers r)

unfoldable pub listing_told : Result Listed Refusal → Told
listing_told l = laid (listing_numbers l)

unfoldable pub choosing_told : Result Chosen Refusal → Told
choosing_told c = laid (choosing_numbers c)

unfoldable pub ending_told : Result (Option ℕ) Refusal → Told
ending_told e = laid (ending_numbers e)
