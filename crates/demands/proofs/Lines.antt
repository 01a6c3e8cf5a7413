-- DEMAND 1, the program's lines: those that spell a frame make its call, and every other line answers 0B alone.
use mathlib.Core.Path.{◌≡◌, refl, ap}
use mathlib.Core.Bool.{true, false, and-false}
use mathlib.Core.List.{List, [], ◌∷◌}
use mathlib.Core.Option.{Option, none, some}
use Prim.Native.Nat.{ℕ, ◌+◌, ◌-◌, ◌*◌, ◌≤◌, ◌<◌}
use native.Mathlib.Omega.{arith}
use lib.Dec.{leb, ltb}
use lib.ListN.{length}
use borrow.Author.Tests.{leb-true, ltb-false, le-ltb, le-leb, lt-leb}
use Rattle.paper.specs.Settings.{Size}
use Rattle.paper.specs.Card.{Card, Call}
use Rattle.paper.specs.Frames.{between, call_of, digit, joined, bytes_of, frame_call, line_call, replied}
use Rattle.paper.specs.Text.{text}
use Rattle.demands.specs.Spelling.{Digit, figure, capital, small, Spells, empty, byte, Calls}
use Rattle.demands.specs.Demands.{Lines}
use Rattle.demands.proofs.Choices.{chosen, chosen_and}

-- what an option has, if it has something, is so
data IfSome {A : Type 0} (P : A → Type 0) : Option A → Type 0 where
  nothing : IfSome P none
  this : {a : A} → P a → IfSome P (some a)

had : {A : Type 0} {P : A → Type 0} {a : A} → IfSome P (some a) → P a
had (this p) = p

-- HEXADECIMAL

inside : (low high c : ℕ) → low ≤ c → c ≤ high → between low high c ≡ true
inside low high c l h = rw (le-leb low c l, le-leb c high h)

above : (low high c : ℕ) → high < c → between low high c ≡ false
above low high c h = rw (lt-leb c high h) (and-false (leb low c))

-- `digit` gives a digit's value, and gives nothing else
digit_is : {c v : ℕ} → Digit c v → digit c ≡ some v
unfolding digit
digit_is (figure v l) =
    let e : 48 + v - 48 ≡ v = omega arith in
    rw (inside 48 57 (48 + v) (omega arith) (omega arith), e)
digit_is (capital v l) =
    let e : 65 + v - 55 ≡ 10 + v = omega arith in
    rw (above 48 57 (65 + v) (omega arith), inside 65 70 (65 + v) (omega arith) (omega arith), e)
digit_is (small v l) =
    let e : 97 + v - 87 ≡ 10 + v = omega arith in
    rw (above 48 57 (97 + v) (omega arith), above 65 70 (97 + v) (omega arith), inside 97 102 (97 + v) (omega arith) (omega arith), e)

moved : {c c' v v' : ℕ} → c ≡ c' → v ≡ v' → Digit c v → Digit c' v'
moved p q d = rw (← p, ← q) d

digit_had : (c : ℕ) → IfSome (Digit c) (digit c)
unfolding digit
digit_had c =
    let P = IfSome (Digit c) in
    chosen_and P (leb 48 c) (leb c 57)
    (λ t u. let l = leb-true 48 c t in let h = leb-true c 57 u in this (moved (omega arith) (omega arith) (figure (c - 48) (omega arith))))
    (chosen_and P (leb 65 c) (leb c 70)
    (λ t u. let l = leb-true 65 c t in let h = leb-true c 70 u in this (moved (omega arith) (omega arith) (capital (c - 65) (omega arith))))
    (chosen_and P (leb 97 c) (leb c 102)
    (λ t u. let l = leb-true 97 c t in let h = leb-true c 102 u in this (moved (omega arith) (omega arith) (small (c - 97) (omega arith))))
    nothing))

spelled_bytes : {text bytes : List ℕ} → Spells text bytes → bytes_of text ≡ some bytes
spelled_bytes empty = refl
spelled_bytes (byte d e s) = rw (digit_is d, digit_is e, spelled_bytes s)

spelled_length : {text bytes : List ℕ} → Spells text bytes → length text ≡ 2 * length bytes
spelled_length empty = refl
spelled_length (byte d e s) = let n = spelled_length s in omega arith

spells_more : {a b : ℕ} {text : List ℕ} {high low : Option ℕ} {rest : Option (List ℕ)} → IfSome (Digit a) high → IfSome (Digit b) low
    → IfSome (Spells text) rest → IfSome (Spells (a ∷ b ∷ text)) (joined high low rest)
spells_more (this d) (this e) (this s) = this (byte d e s)
spells_more (this d) (this e) nothing = nothing
spells_more (this d) nothing s = nothing
spells_more nothing e s = nothing

spells : (text : List ℕ) → IfSome (Spells text) (bytes_of text)
spells [] = this empty
spells (a ∷ []) = nothing
spells (a ∷ b ∷ text) = spells_more (digit_had a) (digit_had b) (spells text)

-- LINES

calls : (z : Size) (line : List ℕ) (c : Call) → Calls z line c → line_call z line ≡ some c
unfolding line_call
calls z line c h =
    let n = spelled_length h.spells in
    rw (le-ltb 68 (length line) (omega arith), spelled_bytes h.spells) h.frame

short_calls : (z : Size) (line : List ℕ) → length line ≤ 68 → {bytes : Option (List ℕ)} → IfSome (Spells line) bytes
    → IfSome (Calls z line) (frame_call z bytes)
short_calls z line m nothing = nothing
short_calls z line m (this {a = f} s) = go (call_of z f) refl
  where
    go : (o : Option Call) → call_of z f ≡ o → IfSome (Calls z line) o
    go none e = nothing
    go (some c) e = let n = spelled_length s in this (record { bytes = f; spells = s; short = omega arith; frame = e })

line_calls : (z : Size) (line : List ℕ) → IfSome (Calls z line) (line_call z line)
unfolding line_call
line_calls z line =
    chosen (IfSome (Calls z line)) (ltb 68 (length line)) (λ _. nothing) (λ e. short_calls z line (ltb-false _ _ e) (spells line))

pub lines : Lines
lines =
    record {
      called = λ z K line c h. ap (replied z K) (calls z line c h);
      refused = λ z K line none-spelt. go z K line none-spelt (line_calls z line);
    }
  where
    go : (z : Size) (K : Card Unit) (line : List ℕ) → ((c : Call) → ¬ Calls z line c) → {o : Option Call} → IfSome (Calls z line) o
        → replied z K o ≡ record { text = text "0B\n"; next = K }
    go z K line none-spelt nothing = refl
    go z K line none-spelt (this {a = c} h) = absurd (none-spelt c h)
