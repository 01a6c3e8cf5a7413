-- The loop of `report`: what stands after each line.
use mathlib.Core.Bool.{Bool, true, false}
use mathlib.Core.List.{List, ◌++◌, append_assoc, append-nil}
use mathlib.Core.Path.{◌≡◌, refl, sym, ap, ◌∙◌}
use Prim.Native.Nat.{ℕ, ◌≤◌, ◌<◌}
use native.Mathlib.Omega.{arith}
use lib.Dec.{eqb}
use lib.ListN.{length, drop}
use borrow.Author.Tests.{eqb-true, eqb-false}
use Rattle.paper.specs.Yield.{line_of, lines_of}
use Rattle.finding.specs.Search.{Outcome, told, outcome}
use Rattle.finding.specs.Bounds.{SoundSearch}
use Rattle.finding.specs.Walk.{Goes, Stops}
use Rattle.finding.specs.declared.Search.{Search}
use Rattle.finding.specs.declared.Next.{Next}
use Rattle.finding.specs.declared.StoppedAt.{StoppedAt}
use Rattle.std.specs.Prelude.{Option, Some, None}
use Rattle.paper.specs.declared.Entry.{Entry}
use Rattle.page.specs.Page.{Page, with_text}
use Rattle.sheet.specs.Lines.{longest}
use Rattle.reporting.specs.Reports.{ending_line, sheet_of, left_of, told_line, stop_line, Reports}

-- WHAT IS TOLD: its line, and then what is still to be written, is what was to be written

tells : (entry : Option Entry) (o : Outcome) → told_line entry ++ sheet_of o ≡ sheet_of (told entry o)
unfolding told_line
tells None o = refl
tells (Some entry) o = sym (append_assoc (line_of entry) (lines_of o.entries) (ending_line o.ending))

-- AT EACH TURN

-- what holds of a piece that is reported from a place on
pub record Standing (piece : List ℕ) (from : ℕ) (s₀ : Search) (page₀ : Page) (at : ℕ) (s : Search) (page : Page) : Type 0 where
  pub so_far : (rest : List ℕ) → page.text ++ left_of s (drop at piece ++ rest) ≡ page₀.text ++ left_of s₀ (drop from piece ++ rest)
  pub sound : SoundSearch s
  pub onward : (at ≡ from → page.room ≡ page₀.room) × (from ≤ at)
  pub within : at ≤ length piece
  pub same : page.capacity ≡ page₀.capacity
  pub lent : page.lent ≡ page₀.lent

pub starts : {piece : List ℕ} {from : ℕ} {s : Search} {page : Page} → SoundSearch s → from ≤ length piece → Standing piece from s page from s page
starts sound within = record { so_far = λ rest. refl; sound = sound; onward = ((λ e. refl), omega arith); within = within; same = refl; lent = refl }

module _ {piece : List ℕ} {from : ℕ} {s₀ : Search} {page₀ : Page} {at : ℕ} {s : Search} {page : Page}
    (here : Standing piece from s₀ page₀ at s page) where
  -- the loop stops at the piece's end, or where there is no room for one line more; so it moved, where there was some
  stops : (from < length piece → longest ≤ page₀.room → from < at)
      → Reports s₀ piece from page₀ (record { search = s; at = at; over = false }) page
  stops onward = record { whole = here.so_far; sound = here.sound; onward = onward; within = here.within; same = here.same; lent = here.lent }

  pub stops_at_end : length piece ≤ at → Reports s₀ piece from page₀ (record { search = s; at = at; over = false }) page
  stops_at_end end = stops (λ more room. omega arith)

  pub stops_full : page.room < longest → Reports s₀ piece from page₀ (record { search = s; at = at; over = false }) page
  stops_full full = stops (λ more room. moved room (eqb at from) refl)
    where
      moved : longest ≤ page₀.room → (b : Bool) → eqb at from ≡ b → from < at
      moved room true e = (let put = here.onward.0 (eqb-true at from e) in absurd (omega arith))
      moved room false e = (let other = eqb-false at from e in omega (arith, here.onward.1))

  -- what was told is written, and the loop goes on
  pub goes_on_lem : {r : Next} → Goes piece at s r → at < length piece → {page' : Page} → page' ≡ with_text (told_line r.entry) page
      → Standing piece from s₀ page₀ r.at r.search page'
  goes_on_lem {r} goes more wrote =
      record {
        so_far = λ rest.
            let left = drop r.at piece ++ rest in
            rw (wrote, append_assoc page.text (told_line r.entry))
            (ap (page.text ++◌) (tells r.entry (outcome r.search left) ∙ ap sheet_of (sym (goes.follows.comes rest)))
            ∙ here.so_far rest);
        sound = goes.follows.sound;
        onward = ((λ e. omega (arith, goes.further more, here.onward.1, e)), omega (arith, goes.further more, here.onward.1));
        within = goes.follows.within;
        same = rw wrote here.same;
        lent = rw wrote here.lent;
      }

  -- or it was the last line
  pub ends : {e : StoppedAt} → Stops piece at s e → {page' : Page} → page' ≡ with_text (stop_line e.stop) page
      → Reports s₀ piece from page₀ (record { search = e.search; at = e.at; over = true }) page'
  unfolding stop_line
  ends {e} stops {page'} wrote =
      record {
        whole = λ rest.
            append-nil page'.text ∙ rw wrote (ap (page.text ++◌) (ap sheet_of (sym (stops.comes rest))) ∙ here.so_far rest);
        sound = stops.sound;
        onward = λ some room. omega (arith, stops.further, here.onward.1);
        within = stops.within;
        same = rw wrote here.same;
        lent = rw wrote here.lent;
      }
