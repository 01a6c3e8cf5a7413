-- The way of a search through a piece, byte by byte.
use mathlib.Core.Path.{◌≡◌, refl, ◌∙◌}
use mathlib.Core.List.{List, ◌∷◌}
use Prim.Native.Nat.{ℕ, ◌+◌, ◌-◌, ◌≤◌, ◌<◌}
use native.Mathlib.Omega.{arith}
use native.Mathlib.Numerals.{add-one}
use lib.ListN.{length, take, drop, get_or}
use Rattle.std.specs.Prelude.{true, false, Option, Some, None, Ok, Err, is_some}
use Rattle.std.proofs.Common.{length-drop, drop-drop, take_all}
use Rattle.paper.specs.declared.Entry.{Entry}
use lib.Seq.{drop-cons}
use Rattle.finding.specs.Search.{outcome}
use Rattle.finding.specs.Search as search
use Rattle.finding.specs.Bounds.{SoundSearch}
use Rattle.finding.specs.Walk.{Follows, Goes, Stops}
use Rattle.finding.specs.declared.Search.{Search}
use Rattle.finding.specs.declared.Stop.{Stop}
use Rattle.finding.specs.declared.Taken.{Taken}
use Rattle.finding.proofs.Searching.{bounds}

pub follows_start : (piece : List ℕ) (from : ℕ) (s : Search) → SoundSearch s → from ≤ length piece → Follows piece from s None from s
follows_start piece from s sound h = record { comes = λ rest. refl; sound = sound; onward = omega arith; within = h }

module _ (piece : List ℕ) (from : ℕ) (s : Search) (at : ℕ) (t : Search) (w : Follows piece from s None at t) where
  -- a stretch of what is left of the piece
  pub follows_slice : (n : ℕ) (u : Search) → Follows (take (length piece - at) (drop at piece)) 0 t None n u → Follows piece from s None (at + n) u
  follows_slice n u v' =
      let left : length (drop at piece) ≤ length piece - at = omega (arith, length-drop at piece) in
      let v = rw (take_all (length piece - at) (drop at piece) left) at v' in
      record {
        comes = λ rest. w.comes rest ∙ v.comes rest ∙ rw drop-drop;
        sound = v.sound;
        onward = omega (arith, w.onward);
        within = omega (arith, v.within, w.within, length-drop at piece);
      }

  next_byte : at < length piece → drop at piece ≡ get_or piece at 0 ∷ drop (at + 1) piece
  next_byte h = rw (add-one, drop-cons piece at 0)

  module _ (h : at < length piece) where
    pub follows_on : (k : Taken) → search.take t (get_or piece at 0) ≡ Ok k → Follows piece from s k.entry (at + 1) k.search
    follows_on k is =
        record {
          comes = λ rest. w.comes rest ∙ rw (next_byte h, is);
          sound = rw is at (bounds.searched t (get_or piece at 0) w.sound);
          onward = omega (arith, w.onward);
          within = omega arith;
        }

    pub walks_to_stop : (e : Stop) → search.take t (get_or piece at 0) ≡ Err e → Stops piece from s (record { at = at + 1; search = t; stop = e })
    walks_to_stop e is =
        record {
          comes = λ rest. w.comes rest ∙ rw (next_byte h, is);
          sound = w.sound;
          further = omega (arith, w.onward);
          within = omega arith;
        }

  pub walks_to_end : length piece ≤ at → Goes piece from s (record { at = at; search = t; entry = None })
  walks_to_end h = record { follows = w; further = λ k. omega (arith, w.within); to_the_end = λ e. omega (arith, w.within) }

module _ (piece : List ℕ) (from : ℕ) (s : Search) where
  pub follows_quiet : (e : Option Entry) (at : ℕ) (t : Search) → Follows piece from s e at t → is_some e ≡ false → Follows piece from s None at t
  follows_quiet None at t w h = w
  follows_quiet (Some x) at t w h = cc

  pub walks_to_one : (e : Option Entry) (at : ℕ) (t : Search) → Follows piece from s e at t → is_some e ≡ true → from < at
      → Goes piece from s (record { at = at; search = t; entry = e })
  walks_to_one e at t w h k = record { follows = w; further = λ _. k; to_the_end = λ n. cc }
