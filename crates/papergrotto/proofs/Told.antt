-- An answer can be read back from what C is told.
use mathlib.Core.Bool.{true, false}
use mathlib.Core.List.{List, [], ◌∷◌}
use mathlib.Core.Path.{◌≡◌, refl, ap, sym, ◌∙◌}
use Prim.Native.Nat.{ℕ}
use lib.ListN.{get_or}
use Rattle.paper.specs.declared.Answer.{Answer}
use Rattle.paper.specs.declared.Answer.TheVariants.{Refused, Fated}
use Rattle.paper.specs.declared.Refusal.{Refusal}
use Rattle.demands.proofs.AnswersReadBack.{answer_in, fate_read, AnswersTo, refusal, fate, reading, loading, silence, sent, plain, named, nobody, showing, channel_answers, named_not_none, Numbered, alone, followed, numbered}
use Rattle.channel.specs.Held.{size_of, channel_in}
use Rattle.channel.specs.Promise.{given}
use Rattle.telling.specs.declared.Told.{Told}
use Rattle.telling.specs.Told.{laid, told}
use Rattle.papergrotto.specs.Runs.{ToldReadBack}

abbrev told_in : (frame : ℕ) → Told → Answer
told_in frame t = answer_in frame t.refusal t.values (get_or t.values 2 0) (get_or t.values 3 0)

told_refused : (frame : ℕ) {r : Refusal} {l : List ℕ} → Numbered r l → told_in frame (laid l) ≡ Refused r
told_refused frame (alone n nonzero e) = rw nonzero (ap Refused e)
told_refused frame (followed n value nonzero e) = rw nonzero (ap Refused e)

told_read : {frame : ℕ} {a : Answer} {found : List ℕ} → AnswersTo frame a found → told_in frame (told a) ≡ a
unfolding told
told_read {frame} (refusal r) = told_refused frame (numbered r)
told_read (fate f) = ap Fated (fate_read f)
told_read (reading characters flagged bytes e) = refl
told_read (loading n) = refl
told_read silence = refl
told_read (sent b) = refl
told_read (plain e) = e (0 ∷ 0 ∷ 0 ∷ 0 ∷ []) 0 0
told_read (named n small) = rw (named_not_none n small)
told_read nobody = refl
told_read (showing waiting sending true losses) = refl
told_read (showing waiting sending false losses) = refl

pub told_read_back : ToldReadBack
unfolding given
told_read_back c d call other frame same =
    sym (told_read (channel_answers (size_of c) tt (channel_in c) 0 call).is)
    ∙ rw (frame, same) (told_read (channel_answers (size_of d) tt (channel_in d) 0 other).is)
