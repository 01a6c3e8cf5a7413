-- A piece reported call by call.
use mathlib.Core.Bool.{Bool, true, false}
use mathlib.Core.List.{List, [], ◌++◌, append_assoc}
use mathlib.Core.Path.{◌≡◌, sym, subst}
use Prim.Native.Nat.{ℕ, ◌≤◌}
use native.Mathlib.Omega.{arith}
use lib.ListN.{length}
use Rattle.finding.specs.Bounds.{SoundSearch}
use Rattle.finding.specs.declared.Search.{Search}
use Rattle.page.specs.Page.{Page}
use Rattle.reporting.specs.declared.Reported.{Reported}
use Rattle.reporting.specs.Reports.{Reports}
use Rattle.reporting.specs.Program.{ReportedFrom, at_end, last_put, then_reported, PieceReported}
use Rattle.confirmations.specs.declared.Carried.{Carried}
use Rattle.confirmations.specs.declared.Carried.TheVariants.{Open, Over, Closed}
use Rattle.confirmations.specs.Carried.{search_of, GoesOn}

pub goes_on_sound : (c : Carried) → GoesOn c → SoundSearch (search_of c)
goes_on_sound (Open s) sound = sound
goes_on_sound (Over s) none = absurd none
goes_on_sound (Closed s) none = absurd none

-- reported so far: however the rest is reported, the whole is
pub record Begun (piece : List ℕ) (s : Search) (at : ℕ) (t : Search) : Type 0 where
  pub wrote : List ℕ
  pub then : (output : List ℕ) (over : Bool) (u : Search) → ReportedFrom piece at t output over u → ReportedFrom piece 0 s (wrote ++ output) over u
  pub sound : SoundSearch t
  pub within : at ≤ length piece

pub begins : {piece : List ℕ} {s : Search} → SoundSearch s → Begun piece s 0 s
begins sound = record { wrote = []; then = λ output over u more. more; sound = sound; within = omega arith }

module _ {piece : List ℕ} {s : Search} {at : ℕ} {t : Search} (b : Begun piece s at t) where
  pub goes_on_lem : {blank page : Page} {r : Reported} → blank.text ≡ [] → Reports t piece at blank r page → r.over ≡ false
      → Begun piece s r.at r.search
  goes_on_lem {blank} {page} {r} nothing reports e =
      record {
        wrote = b.wrote ++ page.text;
        then = λ output over u more.
            subst
            (λ (w : List ℕ). ReportedFrom piece 0 s w over u)
            (sym (append_assoc b.wrote page.text output))
            (b.then (page.text ++ output) over u (then_reported blank page output r nothing reports e more));
        sound = reports.sound;
        within = reports.within;
      }

  pub last_line_lem : {blank page : Page} {r : Reported} → blank.text ≡ [] → Reports t piece at blank r page → r.over ≡ true
      → PieceReported piece s true r.search
  last_line_lem {blank} {page} {r} nothing reports e =
      record { wrote = b.wrote ++ page.text; reported = b.then page.text true r.search (last_put blank page r nothing reports e) }

  pub ends : length piece ≤ at → PieceReported piece s false t
  ends h =
      let e : at ≡ length piece = omega (arith, b.within) in
      record { wrote = b.wrote ++ []; reported = b.then [] false t (rw e at_end) }
