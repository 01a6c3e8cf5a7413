-- A line that is read on in a piece of the input: by pairs of digits, character by character, up to its newline or the piece's end.
use mathlib.Core.Path.{◌≡◌, refl, sym, ap, ◌∙◌}
use mathlib.Core.Bool.{true, false}
use mathlib.Core.Logic.{⊎_elim}
use mathlib.Core.List.{List, ◌∷◌, ◌++◌}
use Prim.Native.Nat.{ℕ, ◌+◌, ◌*◌, ◌/◌, ◌≤◌, ◌<◌}
use native.Mathlib.Omega.{arith}
use native.Mathlib.Nat.{eq-or-lt_of_le}
use native.Mathlib.Numerals.{add-one}
use lib.Bits.{bit_or}
use lib.ListN.{length, get_or, drop, set, length-set}
use lib.Seq.{set-set, drop-cons}
use Rattle.paper.specs.Frames.{digit, newline}
use Rattle.hexadecimal.specs.LineSoFar.{value_or_16, Fits, left, Gathers}
use Rattle.hexadecimal.specs.Steps.{counted, Keeps, Reached, Paired, Follows}
use Rattle.hexadecimal.specs.declared.LineSoFar.{LineSoFar}
use Rattle.hexadecimal.specs.declared.Cut.{Cut}
use Rattle.hexadecimal.proofs.Bytes.{or_above}
use Rattle.hexadecimal.proofs.Laws.{even_held, keeps_value, left_newline}

one : (s : List ℕ) (i : ℕ) → i < length s → drop i s ≡ get_or s i 0 ∷ drop (i + 1) s
one s i h = rw (add-one, drop-cons s i 0)

pub reached_start : {piece : List ℕ} {from : ℕ} {line : LineSoFar} {frame : List ℕ} → from ≤ length piece → Fits line frame
    → Reached piece from line frame from line frame
reached_start h fits = record { same = λ z K rest. refl; fits = fits; start = omega arith; within = h }

module _ {piece : List ℕ} {from : ℕ} {line : LineSoFar} {before : List ℕ} {at : ℕ} {now : LineSoFar} {frame : List ℕ}
    (reached : Reached piece from line before at now frame) where
  pub reached_more : at < length piece → {r : LineSoFar} {after : List ℕ} → Keeps (get_or piece at 0) now frame r after
      → Reached piece from line before (at + 1) r after
  reached_more h keeps =
      record {
        same = λ z K rest. reached.same z K rest ∙ rw (one piece at h) (keeps.same z K (drop (at + 1) piece ++ rest));
        fits = keeps.fits;
        start = omega arith;
        within = omega arith;
      }

  pub reached_newline : at < length piece → get_or piece at 0 ≡ newline
      → Follows piece from line before (record { at = at + 1; line = now; ended = true }) frame
  reached_newline h e =
      record {
        same = λ z K rest. reached.same z K rest ∙ rw (one piece at h, e) (left_newline z K now frame (drop (at + 1) piece ++ rest));
        fits = reached.fits;
        start = omega arith;
        onward = λ _. omega arith;
        within = omega arith;
      }

  pub reached_end : length piece ≤ at → Follows piece from line before (record { at = at; line = now; ended = false }) frame
  reached_end h =
      record {
        same = reached.same;
        fits = reached.fits;
        start = reached.start;
        onward = λ l. omega arith;
        within = reached.within;
      }

  pub reached_follows : from < length piece → {r : Cut} {after : List ℕ} → Follows piece at now frame r after
      → Gathers piece from line before r after
  reached_follows h {r} follows =
      record {
        same = λ z K rest. reached.same z K rest ∙ follows.same z K rest;
        fits = follows.fits;
        onward = ⊎_elim (λ e. rw e (follows.onward (omega arith))) (λ l. omega arith) (eq-or-lt_of_le reached.start);
        within = follows.within;
      }

-- after whole bytes it does not matter which digit was the last
fits_last : {d l : ℕ} {frame : List ℕ} (m : ℕ) → m < 16 → Fits (counted d l) frame → Fits (counted d m) frame
fits_last m w fits = record { digits = fits.digits; last = w; room = fits.room; bytes = fits.bytes }

reached_last : {piece : List ℕ} {from : ℕ} {line : LineSoFar} {before : List ℕ} {at : ℕ} (k l m : ℕ) {frame : List ℕ} → k ≤ 34 → m < 16
    → Reached piece from line before at (counted (2 * k) l) frame → Reached piece from line before at (counted (2 * k) m) frame
unfolding left
reached_last k l m {frame} h w reached =
    record {
      same = λ z K rest. reached.same z K rest ∙ rw (even_held k l frame h, even_held k m frame h);
      fits = fits_last m w reached.fits;
      start = reached.start;
      within = reached.within;
    }

pub paired_start : {piece : List ℕ} {from : ℕ} {frame : List ℕ} → from ≤ length piece → Fits (counted 0 0) frame → Paired piece from frame 0 frame
paired_start {piece} {from} {frame} h fits =
    record {
      reached = λ last w. let e : from + 2 * 0 ≡ from = omega arith in rw e (reached_start h (fits_last last w fits));
      room = fits.room;
      few = omega arith;
    }

pub paired_more : {piece : List ℕ} {from at : ℕ} {before : List ℕ} {k : ℕ} {frame : List ℕ} (high low : ℕ)
    → Paired piece from before k frame → k < 34 → at ≡ from + 2 * k → at + 1 < length piece
    → high ≡ value_or_16 (digit (get_or piece at 0)) → low ≡ value_or_16 (digit (get_or piece (at + 1) 0)) → bit_or high low ≤ 15
    → Paired piece from before (k + 1) (set frame k (high * 16 + low))
paired_more {piece} {from} {at} {before} {k} {frame} high low paired few e within is-high is-low h =
    record {
      reached = λ last w. go last w (rw (← e) at (paired.reached last w));
      room = length-set frame k (high * 16 + low) ∙ paired.room;
      few = omega arith;
    }
  where
    go : (last : ℕ) → last < 16 → Reached piece from (counted 0 last) before at (counted (2 * k) last) frame
        → Reached piece from (counted 0 last) before (from + 2 * (k + 1)) (counted (2 * (k + 1)) last) (set frame k (high * 16 + low))
    go last w reached =
        let half : 2 * k / 2 ≡ k = omega arith in
        let half-odd : (2 * k + 1) / 2 ≡ k = omega arith in
        let next : 2 * k + 1 + 1 ≡ 2 * (k + 1) = omega arith in
        let on : at + 1 + 1 ≡ from + 2 * (k + 1) = omega arith in
        let least = or_above high low in
        let first = keeps_value reached.fits (get_or piece at 0) high is-high (omega arith) (omega arith) in
        let second = keeps_value first.fits (get_or piece (at + 1) 0) low is-low (omega arith) (omega arith) in
        let both = reached_more (reached_more reached (omega arith) first) within second in
        reached_last (k + 1) low last (omega arith) w (rw (half-odd, half, set-set, next, on) at both)

-- a piece is read by pairs first where the line is at its start
pub gathers_pairs : {piece : List ℕ} {from : ℕ} {line : LineSoFar} {before : List ℕ} {count : ℕ} {mid after : List ℕ} {r : Cut}
    → line.digits ≡ 0 → Fits line before → from < length piece → Paired piece from before count mid
    → Follows piece (from + 2 * count) (counted (2 * count) line.last) mid r after → Gathers piece from line before r after
gathers_pairs {line = line} e fits h paired follows =
    let start : counted 0 line.last ≡ line = ap (λ (d : ℕ). counted d line.last) (sym e) in
    reached_follows (rw start at (paired.reached line.last fits.last)) h follows

pub gathers_follow : {piece : List ℕ} {from : ℕ} {line : LineSoFar} {before after : List ℕ} {r : Cut} → Fits line before → from < length piece
    → Follows piece from line before r after → Gathers piece from line before r after
gathers_follow fits h follows = reached_follows (reached_start (omega arith) fits) h follows
