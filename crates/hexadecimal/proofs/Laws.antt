-- Lines that are still being read: what may stand for their text, and what another character makes of it. Texts that are written.
use mathlib.Core.Path.{◌≡◌, refl, sym, ap, ◌∙◌}
use mathlib.Core.Bool.{Bool, true, false}
use mathlib.Core.Logic.{◌≢◌, ⊎_elim}
use mathlib.Core.List.{List, [], ◌∷◌, ◌++◌, append_assoc, append-nil}
use mathlib.Core.Option.{Option, none}
use Prim.Native.Nat.{ℕ, suc, ◌+◌, ◌*◌, ◌/◌, ◌%◌, ◌≤◌, ◌<◌}
use native.Mathlib.Omega.{arith}
use native.Mathlib.Nat.{eq-or-lt_of_le, eq-zero-or-pos}
use native.Mathlib.Numerals.{add-one}
use lib.Dec.{eqb, leb, ltb}
use lib.ListN.{length, get_or, take, set, length-append, length-take, length-set}
use lib.Seq.{take-suc, append_snoc, take-suc-set, take-set-le}
use borrow.Author.Tests.{ne_eqb, lt-ltb, le-ltb, le-leb, lt-leb}
use Rattle.std.specs.Prelude.{if◌then◌else◌}
use Rattle.paper.specs.Settings.{Size}
use Rattle.paper.specs.Card.{Card, Call}
use Rattle.paper.specs.Frames.{digit, bytes_of, capital, hexadecimal, call_of, line_call, newline, replied, grown, lines, replies}
use Rattle.hexadecimal.specs.LineSoFar.{value_or_16, held, Fits, left}
use Rattle.hexadecimal.specs.Steps.{counted, Keeps}
use Rattle.page.specs.Page.{Page, with_text}
use Rattle.page.proofs.Laws.{with_text_then}
use Rattle.hexadecimal.specs.declared.LineSoFar.{LineSoFar}
use Rattle.hexadecimal.proofs.Bytes.{digit_capital, capital_newline, digit_newline, value_digit, value_none}
use Rattle.hexadecimal.proofs.Bytes.{below_set, same_digit, no_digit, odd_count, read_back}

-- HEXADECIMAL

pub length_hexadecimal : (bytes : List ℕ) → length (hexadecimal bytes) ≡ 2 * length bytes
length_hexadecimal [] = refl
length_hexadecimal (b ∷ bytes) = let n = length_hexadecimal bytes in omega arith

pub hexadecimal-append : (s t : List ℕ) → hexadecimal (s ++ t) ≡ hexadecimal s ++ hexadecimal t
hexadecimal-append [] t = refl
hexadecimal-append (b ∷ s) t = rw (hexadecimal-append s t)

-- LINES

-- no character of a text is a newline
abbrev Plain : List ℕ → Type 0
Plain [] = Unit
Plain (c ∷ t) = (c ≢ newline) × Plain t

plain-append : (t u : List ℕ) → Plain t → Plain u → Plain (t ++ u)
plain-append [] u p q = q
plain-append (c ∷ t) u p q = (p.0, plain-append t u p.1 q)

plain_hexadecimal : (bytes : List ℕ) → Plain (hexadecimal bytes)
plain_hexadecimal [] = tt
plain_hexadecimal (b ∷ bytes) = (capital_newline (b / 16), (capital_newline (b % 16), plain_hexadecimal bytes))

abbrev first_of : List (List ℕ) → List ℕ
first_of [] = []
first_of (l ∷ ls) = l

abbrev others : List (List ℕ) → List (List ℕ)
others [] = []
others (l ∷ ls) = ls

grown_is : (c : ℕ) (ls : List (List ℕ)) → grown c ls ≡ (c ∷ first_of ls) ∷ others ls
grown_is c [] = refl
grown_is c (l ∷ ls) = refl

-- a text without a newline begins the line that follows it
begins : (t : List ℕ) (x : ℕ) (s : List ℕ) → Plain t → x ≢ newline → lines (t ++ x ∷ s) ≡ (t ++ x ∷ first_of (lines s)) ∷ others (lines s)
begins [] x s p e = rw (ne_eqb x newline e) (grown_is x (lines s))
begins (a ∷ t) x s p e = rw (ne_eqb a newline p.0, begins t x s p.1 e)

ends : (t s : List ℕ) → Plain t → lines (t ++ newline ∷ s) ≡ t ∷ lines s
ends [] s p = refl
ends (a ∷ t) s p = rw (ne_eqb a newline p.0, ends t s p.1)

-- "A last line without its newline counts"
last_line_lem : (t : List ℕ) → Plain t → 0 < length t → lines t ≡ t ∷ []
last_line_lem [] p h = absurd (omega arith)
last_line_lem (a ∷ []) p h = rw (ne_eqb a newline p.0)
last_line_lem (a ∷ b ∷ t) p h = rw (ne_eqb a newline p.0, last_line_lem (b ∷ t) p.1 (omega arith))

-- beginnings that make the same call, whatever follows them, have the same replies
module _ (z : Size) (K : Card Unit) (t : List ℕ) {x : ℕ} (u : List ℕ) {y : ℕ} where
  exchange : Plain t → x ≢ newline → Plain u → y ≢ newline → ((r : List ℕ) → line_call z (t ++ x ∷ r) ≡ line_call z (u ++ y ∷ r))
      → (s : List ℕ) → replies z K (lines (t ++ x ∷ s)) ≡ replies z K (lines (u ++ y ∷ s))
  exchange p e q f same s =
      rw (begins t x s p e, begins u y s q f)
      (ap (λ (c : Option Call). (replied z K c).text ++ replies z (replied z K c).next (others (lines s))) (same (first_of (lines s))))

same_call : (z : Size) (t : List ℕ) (x y : ℕ) (r : List ℕ) → digit x ≡ digit y → line_call z (t ++ x ∷ r) ≡ line_call z (t ++ y ∷ r)
unfolding line_call
same_call z t x y r e = rw (length-append t (x ∷ r), length-append t (y ∷ r), same_digit t x y r e)

no_call : (z : Size) (t : List ℕ) → bytes_of t ≡ none → line_call z t ≡ none
unfolding line_call
no_call z t e = rw e (go (ltb 68 (length t)))
  where
    go : (long : Bool) → ◌≡◌ {A = Option Call} (if long then none else none) none
    go true = refl
    go false = refl

-- "more than 34 bytes"
long_call : (z : Size) (t : List ℕ) → 68 < length t → line_call z t ≡ none
unfolding line_call
long_call z t h = rw (lt-ltb 68 (length t) h)

-- A LINE THAT IS BEING READ

-- an even count of digits, or an odd one
data Halved : ℕ → Type 0 where
  even : (k : ℕ) → Halved (2 * k)
  odd : (k : ℕ) → Halved (2 * k + 1)

halved : (d : ℕ) → Halved d
halved d =
    ⊎_elim
    (λ e. let is : 2 * (d / 2) ≡ d = omega arith in rw is at (even (d / 2)))
    (λ e. let is : 2 * (d / 2) + 1 ≡ d = omega arith in rw is at (odd (d / 2)))
    (eq-zero-or-pos (d % 2))

-- whole bytes, and one digit more
module _ (k last : ℕ) (frame : List ℕ) where
  pub even_held : k ≤ 34 → held (counted (2 * k) last) frame ≡ hexadecimal (take k frame)
  unfolding held
  even_held h =
      let half : 2 * k / 2 ≡ k = omega arith in
      let over : 2 * k % 2 ≡ 0 = omega arith in
      rw (le-leb (2 * k) 68 (omega arith), half, over, append-nil)

  odd_held : k < 34 → held (counted (2 * k + 1) last) frame ≡ hexadecimal (take k frame) ++ capital last ∷ []
  unfolding held
  odd_held h =
      let half : (2 * k + 1) / 2 ≡ k = omega arith in
      let over : (2 * k + 1) % 2 ≡ 1 = omega arith in
      rw (le-leb (2 * k + 1) 68 (omega arith), half, over)

-- no frame
over_held : (line : LineSoFar) (frame : List ℕ) → 68 < line.digits → held line frame ≡ 0 ∷ []
unfolding held
over_held line frame h = rw (lt-leb line.digits 68 h)

plain_choice : (t : Bool) (a b : List ℕ) → Plain a → Plain b → Plain (if t then a else b)
plain_choice true a b p q = p
plain_choice false a b p q = q

plain_held : (line : LineSoFar) (frame : List ℕ) → Plain (held line frame)
unfolding held
plain_held line frame =
    let bytes = take (line.digits / 2) frame in
    plain_choice (leb line.digits 68) _ _
    (plain-append (hexadecimal bytes) _ (plain_hexadecimal bytes)
    (plain_choice (eqb (line.digits % 2) 1) _ _ (capital_newline line.last, tt) tt))
    ((λ e. omega arith), tt)

length-held : (d last : ℕ) (frame : List ℕ) → d ≤ 68 → length frame ≡ 34 → length (held (counted d last) frame) ≡ d
length-held d last frame h room = go (halved d) h
  where
    go : {d : ℕ} → Halved d → d ≤ 68 → length (held (counted d last) frame) ≡ d
    go (even k) h = rw (even_held k last frame (omega arith), length_hexadecimal, length-take) (omega arith)
    go (odd k) h = rw (odd_held k last frame (omega arith), length-append, length_hexadecimal, length-take) (omega arith)

-- a digit more, in capitals
held_digit : (d last v : ℕ) (frame : List ℕ) → d < 68 → last < 16 → v < 16 → length frame ≡ 34
    → held (counted (d + 1) v) (set frame (d / 2) (last * 16 + v)) ≡ held (counted d last) frame ++ capital v ∷ []
held_digit d last v frame h l w room = go (halved d) h
  where
    go : {d : ℕ} → Halved d → d < 68
        → held (counted (d + 1) v) (set frame (d / 2) (last * 16 + v)) ≡ held (counted d last) frame ++ capital v ∷ []
    go (even k) h =
        let byte = last * 16 + v in
        let half : 2 * k / 2 ≡ k = omega arith in
        let same = take-set-le k frame k byte (omega arith) in
        rw (half, odd_held k v (set frame k byte) (omega arith), even_held k last frame (omega arith), same)
    go (odd k) h =
        let byte = last * 16 + v in
        let half : (2 * k + 1) / 2 ≡ k = omega arith in
        let next : 2 * k + 1 + 1 ≡ 2 * suc k = omega arith in
        let more = take-suc-set frame k byte (omega arith) in
        let high : byte / 16 ≡ last = omega arith in
        let low : byte % 16 ≡ v = omega arith in
        rw (half, next, even_held (suc k) v (set frame k byte) (omega arith), odd_held k last frame (omega arith))
        (rw (more, hexadecimal-append, high, low, append_assoc))

module _ {line : LineSoFar} {frame : List ℕ} (fits : Fits line frame) where
  -- one digit more
  fits_digit : (v : ℕ) → line.digits < 68 → v ≤ 15 → Fits (counted (line.digits + 1) v) (set frame (line.digits / 2) (line.last * 16 + v))
  fits_digit v h w =
      let place = line.digits / 2 in
      let byte = line.last * 16 + v in
      record {
        digits = omega arith;
        last = omega arith;
        room = length-set frame place byte ∙ fits.room;
        bytes = λ i. below_set frame place byte i (let l = fits.last in omega arith) fits.bytes;
      }

  pub keeps_value : (c v : ℕ) → v ≡ value_or_16 (digit c) → line.digits < 68 → v ≤ 15
      → Keeps c line frame (counted (line.digits + 1) v) (set frame (line.digits / 2) (line.last * 16 + v))
  unfolding left
  keeps_value c v e h w = record { same = same; fits = fits_digit v h w }
    where
      same : (z : Size) (K : Card Unit) (rest : List ℕ)
          → left z K line frame (c ∷ rest) ≡ left z K (counted (line.digits + 1) v) (set frame (line.digits / 2) (line.last * 16 + v)) rest
      same z K rest =
          let text = held line frame in
          let plain = plain_held line frame in
          let is = value_digit c e w in
          exchange z K text text plain (digit_newline is) plain (capital_newline v)
          (λ r. same_call z text c (capital v) r (is ∙ sym (digit_capital v (omega arith)))) rest
          ∙ rw (held_digit line.digits line.last v frame h fits.last (omega arith) fits.room, append_snoc)

  -- a character that leaves no frame
  keeps_none : (c : ℕ) → c ≢ newline → ((z : Size) (r : List ℕ) → line_call z (held line frame ++ c ∷ r) ≡ none)
      → Keeps c line frame (counted 69 line.last) frame
  unfolding left held digit
  keeps_none c e refused =
      record { same = same; fits = record { digits = omega arith; last = fits.last; room = fits.room; bytes = fits.bytes } }
    where
      same : (z : Size) (K : Card Unit) (rest : List ℕ) → left z K line frame (c ∷ rest) ≡ left z K (counted 69 line.last) frame rest
      same z K rest =
          exchange z K (held line frame) [] (plain_held line frame) e tt (λ e. omega arith)
          (λ r. refused z r ∙ sym (no_call z (0 ∷ r) (no_digit [] 0 r refl))) rest

  pub keeps_no_value : (c v : ℕ) → c ≢ newline → v ≡ value_or_16 (digit c) → 15 < v → Keeps c line frame (counted 69 line.last) frame
  keeps_no_value c v e n h = keeps_none c e (λ z r. no_call z (held line frame ++ c ∷ r) (no_digit (held line frame) c r (value_none c n h)))

  pub keeps_too_many : (c : ℕ) → c ≢ newline → 68 ≤ line.digits → Keeps c line frame (counted 69 line.last) frame
  unfolding digit
  keeps_too_many c e h = keeps_none c e (λ z r. ⊎_elim (full z r) (over z r) (eq-or-lt_of_le h))
    where
      full : (z : Size) (r : List ℕ) → 68 ≡ line.digits → line_call z (held line frame ++ c ∷ r) ≡ none
      full z r f =
          let n = length-held line.digits line.last frame (omega arith) fits.room in
          long_call z (held line frame ++ c ∷ r) (rw length-append (omega arith))

      over : (z : Size) (r : List ℕ) → 68 < line.digits → line_call z (held line frame ++ c ∷ r) ≡ none
      over z r o = rw (over_held line frame o) (no_call z (0 ∷ c ∷ r) (no_digit [] 0 (c ∷ r) refl))

-- WHAT IS LEFT TO WRITE AT A LINE'S START AND END

pub held_empty : (line : LineSoFar) (frame : List ℕ) → line.digits ≡ 0 → held line frame ≡ []
unfolding held
held_empty line frame e = rw e

pub left_start : (z : Size) (K : Card Unit) (line : LineSoFar) (frame rest : List ℕ) → line.digits ≡ 0
    → left z K line frame rest ≡ replies z K (lines rest)
unfolding left
left_start z K line frame rest e = rw (held_empty line frame e)

pub left_newline : (z : Size) (K : Card Unit) (line : LineSoFar) (frame rest : List ℕ)
    → left z K line frame (newline ∷ rest) ≡ replies z K (held line frame ∷ lines rest)
unfolding left
left_newline z K line frame rest = ap (replies z K) (ends (held line frame) rest (plain_held line frame))

held_some : (line : LineSoFar) (frame : List ℕ) → Fits line frame → line.digits ≢ 0 → 0 < length (held line frame)
held_some line frame fits e = ⊎_elim (λ z. absurd (e z)) go (eq-zero-or-pos line.digits)
  where
    go : 0 < line.digits → 0 < length (held line frame)
    go h =
        ⊎_elim
        (λ e. rw (over_held line frame (omega arith)) (omega arith))
        (λ l. let n = length-held line.digits line.last frame (omega arith) fits.room in omega arith)
        (eq-or-lt_of_le fits.digits)

-- "A last line without its newline counts"
pub left_last : (z : Size) (K : Card Unit) (line : LineSoFar) (frame : List ℕ) → Fits line frame → line.digits ≢ 0
    → left z K line frame (newline ∷ []) ≡ left z K line frame []
unfolding left
left_last z K line frame fits e =
    left_newline z K line frame []
    ∙ rw (append-nil (held line frame), last_line_lem (held line frame) (plain_held line frame) (held_some line frame fits e))

-- the call of a line that has ended
pub ended_call : (z : Size) (line : LineSoFar) (frame : List ℕ) → Fits line frame
    → line_call z (held line frame) ≡ (if eqb (line.digits % 2) 1 then none else call_of z (take (line.digits / 2) frame))
unfolding line_call
ended_call z line frame fits = ⊎_elim none_left (go line.last (halved line.digits)) (eq-or-lt_of_le fits.digits)
  where
    CallIs : LineSoFar → Type 0
    CallIs line =
        line_call z (held line frame) ≡ (if eqb (line.digits % 2) 1 then none else call_of z (take (line.digits / 2) frame))

    none_left : line.digits ≡ 69 → CallIs line
    none_left e = rw (over_held line frame (omega arith), e)

    go : (last : ℕ) {d : ℕ} → Halved d → d < 69 → CallIs (counted d last)
    go last (even k) h =
        let bytes = take k frame in
        let half : 2 * k / 2 ≡ k = omega arith in
        let over : 2 * k % 2 ≡ 0 = omega arith in
        let short : length (hexadecimal bytes) ≤ 68 = rw (length_hexadecimal, length-take) (omega arith) in
        rw (even_held k last frame (omega arith), le-ltb 68 (length (hexadecimal bytes)) short, read_back k frame fits.bytes, half, over)
    go last (odd k) h =
        let bytes = take k frame in
        let over : (2 * k + 1) % 2 ≡ 1 = omega arith in
        rw (odd_held k last frame (omega arith), over) (no_call z (hexadecimal bytes ++ capital last ∷ []) (odd_count bytes (capital last)))

-- BYTES THAT ARE PUT ON A PAGE

-- so many bytes are on the page
module _ (bytes : List ℕ) (i : ℕ) (before mid : Page) (put : mid ≡ with_text (hexadecimal (take i bytes)) before) where
  pub room_for_more : i < length bytes → 2 * length bytes ≤ before.room → 2 ≤ mid.room
  room_for_more h all = rw (put, length_hexadecimal, length-take) (omega arith)

  pub put_more : (after : Page) → i < length bytes → after ≡ with_text (hexadecimal (get_or bytes i 0 ∷ [])) mid
      → after ≡ with_text (hexadecimal (take (i + 1) bytes)) before
  put_more after h next =
      rw (add-one, take-suc bytes i 0, hexadecimal-append) (next ∙ ap (with_text _) put ∙ with_text_then (hexadecimal (take i bytes)) _ before)
