-- The number of a word, character by character.
use mathlib.Core.Path.{◌≡◌, refl, sym, ◌∙◌}
use mathlib.Core.Bool.{Bool, true, false}
use mathlib.Core.List.{List, [], ◌∷◌}
use Prim.Native.Nat.{ℕ, suc, ◌+◌, ◌-◌, ◌*◌, ◌≤◌, ◌<◌, min}
use native.Mathlib.Omega.{arith}
use native.Mathlib.Nat.{min-eq_left, min-eq_right}
use native.Mathlib.Numerals.{add-one}
use lib.ListN.{length, get_or, drop}
use lib.Seq.{drop-cons, drop-length}
use borrow.Author.Tests.{le-leb}
use Rattle.std.specs.Char.{is_ascii_digit}
use Rattle.std.specs.Prelude.{if◌then◌else◌}
use Rattle.paper.specs.Decimal.{digit, spelled, all_digits, most32, number_of}

-- the number of a word whose first digits spell v
abbrev behind : (v : ℕ) → List ℕ → ℕ
behind v l = if all_digits l then min (spelled v l) most32 else most32

-- ONE CHARACTER

pub is_digit : (b : ℕ) → 0x30 ≤ b → b ≤ 0x39 → digit b ≡ true
unfolding digit
is_digit b low high = rw (le-leb 0x30 b low, le-leb b 0x39 high)

pub no_digit : (b : ℕ) → is_ascii_digit b ≡ false → digit b ≡ false
unfolding digit
no_digit b e = e

pub ascii_digit : (b : ℕ) → is_ascii_digit b ≡ true → digit b ≡ true
unfolding digit
ascii_digit b e = e

-- ONE THAT IS TOO LARGE

-- digits only add
spelled_least : (v : ℕ) (l : List ℕ) → v ≤ spelled v l
spelled_least v [] = omega arith
spelled_least v (b ∷ l) = omega (arith, spelled_least (10 * v + (b - 0x30)) l)

too_large : (v : ℕ) (l : List ℕ) → most32 < v → behind v l ≡ most32
too_large v l h = go (all_digits l)
  where
    go : (t : Bool) → (if t then min (spelled v l) most32 else most32) ≡ most32
    go true = min-eq_right (omega (arith, spelled_least v l))
    go false = refl

-- WHOLE WORDS

pub word_number : (word : List ℕ) → 0 < length word → all_digits word ≡ true → spelled 0 word ≤ most32 → number_of word ≡ spelled 0 word
unfolding number_of
word_number [] some all small = absurd (omega arith)
word_number (b ∷ l) some all small = rw (all, min-eq_left small)

-- A WORD SO FAR

pub record Read (word : List ℕ) (value i : ℕ) : Type 0 where
  pub few : i ≤ length word
  pub small : value ≤ most32
  pub same : behind value (drop i word) ≡ number_of word

pub no_word : (word : List ℕ) → length word ≡ 0 → most32 ≡ number_of word
unfolding number_of
no_word [] h = refl
no_word (b ∷ l) h = absurd (omega arith)

pub read_none : (word : List ℕ) → (length word ≡ 0 → ⊥) → Read word 0 0
unfolding number_of
read_none [] h = absurd (h refl)
read_none (b ∷ l) h = record { few = omega arith; small = omega arith; same = refl }

module _ {word : List ℕ} {value i : ℕ} (r : Read word value i) where
  abbrev character : ℕ
  character = get_or word i 0

  abbrev more : ℕ
  more = 10 * value + (character - 0x30)

  module _ (h : i < length word) where
    front : behind value (character ∷ drop (suc i) word) ≡ number_of word
    front = rw (drop-cons word i 0 h) at r.same

    pub read_other : digit character ≡ false → most32 ≡ number_of word
    read_other e = rw e at front

    pub read_too_large : digit character ≡ true → most32 < more → most32 ≡ number_of word
    read_too_large e large = sym (too_large more (drop (suc i) word) large) ∙ rw e at front

    pub read_more : {next : ℕ} → digit character ≡ true → next ≡ more → next ≤ most32 → Read word next (i + 1)
    read_more e is small = record { few = omega arith; small = small; same = rw (add-one, is) (rw e at front) }

  pub read_all : length word ≤ i → value ≡ number_of word
  read_all h =
      let e : i ≡ length word = omega (arith, r.few) in
      sym (min-eq_left r.small) ∙ rw (e, drop-length) at r.same
