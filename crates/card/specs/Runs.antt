-- Calls on a card's record, one after the other, as their promises tell them; and what they have in common with the paper's run.
use Rattle.std.specs.Prelude.{List, [], ◌∷◌, map, ◌≡◌, ℕ}
use Rattle.paper.specs.Settings.{card_size}
use Rattle.paper.specs.Card.{Call, fresh_card}
use Rattle.paper.specs.Run.{Seen, seen, run, end, nameless}
use Rattle.paper.specs.declared.Asked.{Asked}
use Rattle.card.specs.declared.Card.{Card}
use Rattle.paper.specs.declared.Answered.{Answered}
use Rattle.card.specs.Held.{card_of}
use Rattle.card.specs.Promise.{Promise, AskedPromise}

-- A record that was called, what the caller saw of each call, each promise kept, and the record that was left
pub data Called : Card → List Call → List Seen → Card → Type 0 where
  done : {C : Card} → Called C [] [] C
  then_called : {C D : Card} {c : Call} {cs : List Call} {r : Answered Card} {l : List ℕ} {ts : List Seen}
      → Promise C c r l → Called r.next cs ts D → Called C (c ∷ cs) (record { answer = r.answer; lent = l } ∷ ts) D

-- THE CODE IS THE PAPER'S CARD: of every list of calls on a fresh record the caller sees what the paper's run shows, and it leaves the record of the
-- run's end; and every list of calls can be so made, each on a record that the call before it left sound. So whatever `demands` proves of
-- `run z fresh_card`, demands 1, 2 and 3 among it, holds of what is seen of the calls.
pub record CardAsThePaper : Type 0 where
  pub shows : (cs : List Call) (ts : List Seen) (D : Card) → Called (card_of card_size fresh_card) cs ts D
      → ts ≡ map seen (run card_size fresh_card (nameless cs))
  pub leaves : (cs : List Call) (ts : List Seen) (D : Card) → Called (card_of card_size fresh_card) cs ts D
      → D ≡ card_of card_size (end card_size fresh_card (nameless cs))
  pub every_list : (cs : List Call)
      → Called (card_of card_size fresh_card) cs (map seen (run card_size fresh_card (nameless cs))) (card_of card_size (end card_size fresh_card (nameless cs)))

-- "show that the promise admits one answer only"
pub record OneAnswer : Type 0 where
  pub by_name : (C : Card) (c : Call) (r r' : Answered Card) (l l' : List ℕ) → Promise C c r l → Promise C c r' l' → (r ≡ r') × (l ≡ l')
  pub by_asking : (C : Card) (n : ℕ) (asked : Asked) (before : List ℕ) (place : ℕ) (r r' : Answered Card) (after after' : List ℕ)
      → AskedPromise C n asked before place r after → AskedPromise C n asked before place r' after' → (r ≡ r') × (after ≡ after')
