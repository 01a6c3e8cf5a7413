-- Calls that keep their promises run as the paper does.
use mathlib.Core.List.{List, [], ◌∷◌, ◌++◌, map}
use mathlib.Core.Path.{◌≡◌, refl, ap, ap₂, sym, ◌∙◌, subst}
use Prim.Native.Nat.{ℕ}
use lib.Dec.{lit≤}
use Rattle.paper.specs.Settings.{card_size}
use Rattle.paper.specs.Asked.{unlent}
use Rattle.paper.specs.Card as model
use Rattle.paper.specs.Card.{Call, fresh_card}
use Rattle.paper.specs.Run.{Seen, seen, run, end, nameless}
use Rattle.card.specs.declared.Card.{Card}
use Rattle.paper.specs.declared.Answered.{Answered}
use Rattle.card.specs.Held.{size_of, card_of, card_in, Sound}
use Rattle.card.specs.Promise.{given, answered, Promise}
use Rattle.card.specs.Runs.{Called, done, then_called, CardAsThePaper, OneAnswer}
use Rattle.card.proofs.Laws.{card_in_lem, fresh_sound, promised}

-- the record that a call leaves holds the paper's next card
next_in : (C : Card) (c : Call) (r : Answered Card) (l : List ℕ) → Promise C c r l → card_in r.next ≡ (given C c).next
unfolding answered
next_in C c r l p = ap (λ (x : Answered Card). card_in x.next) p.gives ∙ card_in_lem (size_of C) (given C c).next

-- what is shown of the calls on a card that a record holds, and the card after them
abbrev shown : model.Card Unit → List Call → List Seen
shown K cs = map seen (run card_size K (nameless cs))

abbrev last : model.Card Unit → List Call → model.Card Unit
last K cs = end card_size K (nameless cs)

shows : {C D : Card} {cs : List Call} {ts : List Seen} → Called C cs ts D → ts ≡ shown (card_in C) cs
unfolding given answered
shows done = refl
shows (then_called {C} {D} {c} {cs} {r} {l} {ts} p rest) =
    ap₂ (λ (t : Seen) (us : List Seen). t ∷ us)
    (ap₂ (λ (x : Answered Card) (k : List ℕ). record { answer = x.answer; lent = k }) p.gives p.leaves)
    (shows rest ∙ ap (λ (K : model.Card Unit). shown K cs) (next_in C c r l p))

leaves : {C D : Card} {cs : List Call} {ts : List Seen} → Sound C → Called C cs ts D → D ≡ card_of card_size (last (card_in C) cs)
unfolding given
leaves s done = s.is
leaves s (then_called {C} {D} {c} {cs} {r} {l} {ts} p rest) =
    leaves p.sound rest ∙ ap (λ (K : model.Card Unit). card_of card_size (last K cs)) (next_in C c r l p)

every_list : (C : Card) → Sound C → (cs : List Call) → Called C cs (shown (card_in C) cs) (card_of card_size (last (card_in C) cs))
unfolding given answered
every_list C s [] = subst (λ (D : Card). Called C [] [] D) s.is done
every_list C s (c ∷ cs) =
    let p = promised C s c (given C c) refl (answered C (given C c)) refl in
    then_called p (rw (card_in_lem card_size (given C c).next) at (every_list (answered C (given C c)).next p.sound cs))

pub card_as_the_paper : CardAsThePaper
card_as_the_paper =
    let fresh = card_in_lem card_size fresh_card in
    let sound = fresh_sound card_size refl (lit≤ tt) in
    record {
      shows = λ cs ts D called. shows called ∙ ap (λ (K : model.Card Unit). shown K cs) fresh;
      leaves = λ cs ts D called. leaves sound called ∙ ap (λ (K : model.Card Unit). card_of card_size (last K cs)) fresh;
      every_list = λ cs. rw fresh at (every_list (card_of card_size fresh_card) sound cs);
    }

pub one_answer : OneAnswer
one_answer =
    record {
      by_name = λ C c r r' l l' p q. (p.gives ∙ sym q.gives, p.leaves ∙ sym q.leaves);
      by_asking = λ C n a before place r r' after after' p q.
          let same : p.lent ≡ q.lent = p.kept.leaves ∙ sym q.kept.leaves in
          (p.kept.gives ∙ sym q.kept.gives, p.at_hand ∙ ap (λ (l : List ℕ). l ++ unlent a before) same ∙ sym q.at_hand);
    }
