-- 02 n as a text for the keeper of the yield sheet: a line for each entry, and a last line with the sum.
use Rattle.std.specs.Prelude.{List, [], ◌∷◌, ◌++◌, ℕ, ◌-◌, eqb, length, if◌then◌else◌}
use Rattle.paper.specs.Text.{text}
use Rattle.paper.specs.Decimal.{last_digits, decimal}
use Rattle.paper.specs.Stream.{Character, readout}
use Rattle.paper.specs.Confirmations.{entries, sum, countable}
use Rattle.paper.specs.declared.Confirmation.{Confirmation}
use Rattle.paper.specs.declared.Judgement.{Judgement}
use Rattle.paper.specs.declared.Judgement.TheVariants.{Accepted, Gap, Repeated, Aside}
use Rattle.paper.specs.declared.Entry.{Entry}

-- LINES

-- the number with its four digits, litres without leading zeros
unfoldable pub words : Confirmation → List ℕ
words c = last_digits 4 c.number ++ text " " ++ decimal c.litres

-- `accepted NUMBER LITRES`, `gap NUMBER LITRES`, `repeated NUMBER LITRES`, `aside`
unfoldable pub judgement_words : Judgement → List ℕ
judgement_words (Accepted c) = text "accepted " ++ words c
judgement_words (Gap c) = text "gap " ++ words c
judgement_words (Repeated c) = text "repeated " ++ words c
judgement_words Aside = text "aside"

unfoldable pub line_of : Entry → List ℕ
line_of e = decimal e.place ++ text " " ++ judgement_words e.judgement ++ text "\n"

abbrev pub lines_of : List Entry → List ℕ
lines_of [] = []
lines_of (e ∷ es) = line_of e ++ lines_of es

-- THE TEXT

-- `litres SUM`; or `refused 8 PLACE`, the place in bytes; or `full PLACE`, the place among the characters
unfoldable pub litres_line : ℕ → List ℕ
litres_line n = text "litres " ++ decimal n ++ text "\n"

unfoldable pub broken_line : ℕ → List ℕ
broken_line place = text "refused 8 " ++ decimal place ++ text "\n"

unfoldable pub full_line : ℕ → List ℕ
full_line place = text "full " ++ decimal place ++ text "\n"

-- the characters that can be counted: the longest front of them behind those of another front
abbrev pub counted_front : (front rest : List Character) → List Character
counted_front front [] = front
counted_front front (c ∷ cs) = if countable (front ++ c ∷ []) then counted_front (front ++ c ∷ []) cs else front

-- of a broken stream what stands before the broken FF is listed, and the refusal with its place stands in place of the sum
abbrev pub last_line : List ℕ → (counted : List Character) → (rest : List ℕ) → List ℕ
last_line s counted [] = litres_line (sum counted)
last_line s counted (b ∷ rest) = broken_line (length s - length (b ∷ rest))

abbrev pub yield_of : List ℕ → List Character → (counted : List Character) → (rest : List ℕ) → List ℕ
yield_of s cs counted rest =
    lines_of (entries counted) ++ (if eqb (length counted) (length cs) then last_line s counted rest else full_line (length counted))

unfoldable pub yield_sheet : List ℕ → List ℕ
yield_sheet s = yield_of s (readout s).characters (counted_front [] (readout s).characters) (readout s).rest
