-- Calls that name different channels may change places; so any two merges of the same ports' calls come to the same.
use mathlib.Core.Path.{◌≡◌, refl, sym, ap, ap₂, ◌∙◌}
use mathlib.Core.Bool.{Bool, true, false, true≢false}
use mathlib.Core.Logic.{◌≢◌, ◌⊎◌, inl, inr, ⊎_elim}
use mathlib.Core.List.{List, [], ◌∷◌, ◌++◌, map, nil≢cons, head-eq_of_cons-eq, tail-eq_of_cons-eq}
use Prim.Native.Nat.{ℕ}
use lib.Dec.{eqb}
use lib.ListN.{length}
use lib.Seq.{ext_get_or}
use borrow.Author.Tests.{eqb-true, eqb-false, eq-eqb, ne_eqb}
use Rattle.paper.specs.Given.{Given}
use Rattle.paper.specs.Settings.{Size}
use Rattle.paper.specs.Channel.{Channel, fresh, ChannelCall}
use Rattle.paper.specs.Card.{Card, Call, on, pick, at, step}
use Rattle.paper.specs.Run.{Named, run, end}
use Rattle.demands.specs.History.{Entry, entry_of, call_on, calls_on, port, is_pick, NoPick}
use Rattle.demands.specs.Demands.{EitherOrder, Neighbours, Alike, Merges}
use Rattle.demands.proofs.Isolation.{step_length, isolation}

-- TWO CALLS, by isolation alone

module _ {A : Type 0} (z : Size) where
  abbrev made : Card A → ℕ → Named A ChannelCall → Given (Card A)
  made K m c = step z c.name K (on m c.call)

  -- the card behind both
  abbrev both : Card A → (m n : ℕ) → (c d : Named A ChannelCall) → Card A
  both K m n c d = (made (made K m c).next n d).next

  others : (K : Card A) (m n : ℕ) (d : Named A ChannelCall) → m ≢ n → at (made K n d).next m ≡ at K m
  others K m n d apart = isolation.others A z d.name K n d.call m apart

  module _ (K : Card A) where
    place : (m n : ℕ) (c d : Named A ChannelCall) → (both K m n c d).place ≡ K.place
    place m n c d = isolation.place A z d.name (made K m c).next n d.call ∙ isolation.place A z c.name K m c.call

    long : (m n : ℕ) (c d : Named A ChannelCall) → length (both K m n c d).channels ≡ length K.channels
    long m n c d = step_length z d.name (made K m c).next (on n d.call) ∙ step_length z c.name K (on m c.call)

    -- on its own channel a call comes to the same, whether the other one stands behind it or before it
    own : (m n : ℕ) (c d : Named A ChannelCall) → m ≢ n → at (both K m n c d) m ≡ at (both K n m d c) m
    own m n c d apart =
        others (made K m c).next m n d apart
        ∙ sym (isolation.next A z c.name (made K n d).next K m c.call (step_length z d.name K (on n d.call)) (others K m n d apart))

    elsewhere : (m n : ℕ) (c d : Named A ChannelCall) (i : ℕ) → i ≢ m → i ≢ n → at (both K m n c d) i ≡ at K i
    elsewhere m n c d i not-m not-n = others (made K m c).next i n d not-n ∙ others K i m c not-m

    everywhere : (m n : ℕ) (c d : Named A ChannelCall) → m ≢ n → (i : ℕ) → at (both K m n c d) i ≡ at (both K n m d c) i
    everywhere m n c d apart i = go (eqb i m) (eqb i n) refl refl
      where
        go : (s t : Bool) → eqb i m ≡ s → eqb i n ≡ t → at (both K m n c d) i ≡ at (both K n m d c) i
        go true t e f = rw (eqb-true i m e) (own m n c d apart)
        go false true e f = rw (eqb-true i n f) (sym (own n m d c (λ same. apart (sym same))))
        go false false e f =
            let not-m = eqb-false i m e in
            let not-n = eqb-false i n f in
            elsewhere m n c d i not-m not-n ∙ sym (elsewhere n m d c i not-n not-m)

    alone : (m n : ℕ) (c d : Named A ChannelCall) → m ≢ n
        → let g = made K m c in
        let h = made (made K n d).next m c in
        (g.answer ≡ h.answer) × (g.lent ≡ h.lent)
    alone m n c d apart = isolation.alone A z c.name K (made K n d).next m c.call (sym (others K m n d apart))

    same_card : (m n : ℕ) (c d : Named A ChannelCall) → m ≢ n → both K m n c d ≡ both K n m d c
    same_card m n c d apart =
        ap₂ (λ (l : List (Channel A)) (p : ℕ). record { channels = l; place = p })
        (ext_get_or fresh _ _ (long m n c d ∙ sym (long n m d c)) (λ i _. everywhere m n c d apart i)) (place m n c d ∙ sym (place n m d c))

    either_order : (m n : ℕ) (c d : Named A ChannelCall) → m ≢ n → EitherOrder z K c.name d.name (on m c.call) (on n d.call)
    either_order m n c d apart =
        let one = alone m n c d apart in
        let other = alone n m d c (λ same. apart (sym same)) in
        record { card = same_card m n c d apart; answer = one.0; lent = one.1; other_answer = sym other.0; other_lent = sym other.1 }

pub neighbours : Neighbours
neighbours A z K a b m n c d apart = either_order z K m n (record { name = a; call = c }) (record { name = b; call = d }) apart

-- LISTS

module _ {X : Type 0} where
  exchange : (x y l : List X) → (x ≡ []) ⊎ (y ≡ []) → x ++ (y ++ l) ≡ y ++ (x ++ l)
  exchange x y l (inl e) = rw e
  exchange x y l (inr e) = rw e

  cancel : (x l k : List X) → x ++ l ≡ x ++ k → l ≡ k
  cancel [] l k e = e
  cancel (a ∷ x) l k e = cancel x l k (tail-eq_of_cons-eq e)

module _ {A : Type 0} where
  abbrev named : ℕ → Named A ChannelCall → Named A Call
  named m c = record { name = c.name; call = on m c.call }

  abbrev call_at : (n m : ℕ) → Named A ChannelCall → List (Named A ChannelCall)
  call_at n m c = call_on n c.name (on m c.call)

  -- two calls that name different channels are not both on port n
  one_of_two : (m k n : ℕ) (c d : Named A ChannelCall) → m ≢ k → (call_at n m c ≡ []) ⊎ (call_at n k d ≡ [])
  one_of_two m k n c d apart = go (eqb m n) refl
    where
      go : (t : Bool) → eqb m n ≡ t → (call_at n m c ≡ []) ⊎ (call_at n k d ≡ [])
      go true e = inr (rw (ne_eqb k n (λ (f : k ≡ n). apart (eqb-true m n e ∙ sym f))))
      go false e = inl (rw e)

-- NEIGHBOURS IN A LIST

module _ {A : Type 0} (z : Size) where
  itself : (K : Card A) (cs : List (Named A Call)) → Alike z K cs cs
  itself K cs = record { card = refl; ports = λ n. refl }

  through : {K : Card A} {cs ds es : List (Named A Call)} → Alike z K cs ds → Alike z K ds es → Alike z K cs es
  through one more = record { card = one.card ∙ more.card; ports = λ n. one.ports n ∙ more.ports n }

  keep : (c : Named A Call) {cs ds : List (Named A Call)} → ((K : Card A) → Alike z K cs ds) → (K : Card A) → Alike z K (c ∷ cs) (c ∷ ds)
  keep c law K =
      let g = step z c.name K c.call in
      let r = law g.next in
      record {
        card = r.card;
        ports = λ n. ap (λ (l : List (Entry A)). map (entry_of (at K n) g) (call_on n c.name c.call) ++ l) (r.ports n);
      }

  -- what a call was to port n
  abbrev went_on : ℕ → Card A → ℕ → Named A ChannelCall → List (Entry A)
  went_on n K m c = map (entry_of (at K n) (made z K m c)) (call_at n m c)

  went_alike : (n : ℕ) (K : Card A) (m k : ℕ) (c d : Named A ChannelCall) → m ≢ k → went_on n K m c ≡ went_on n (made z K k d).next m c
  went_alike n K m k c d apart = go (eqb m n) refl
    where
      go : (t : Bool) → eqb m n ≡ t → went_on n K m c ≡ went_on n (made z K k d).next m c
      go true e =
          let same = either_order z K m k c d apart in
          rw (← eqb-true m n e, sym (others z K m k d apart), same.answer, same.lent)
      go false e = rw e

  module _ (m k : ℕ) (c d : Named A ChannelCall) (apart : m ≢ k) (cs : List (Named A Call)) (K : Card A) where
    swap_port : (n : ℕ) → port n (run z K (named m c ∷ named k d ∷ cs)) ≡ port n (run z K (named k d ∷ named m c ∷ cs))
    swap_port n =
        let x = went_on n (made z K k d).next m c in
        let y = went_on n K k d in
        ap₂ (λ (x y : List (Entry A)). x ++ (y ++ port n (run z (both z K m k c d) cs))) (went_alike n K m k c d apart)
        (sym (went_alike n K k m d c (λ same. apart (sym same))))
        ∙ exchange x y _ (⊎_elim (λ e. inl (rw e)) (λ e. inr (rw e)) (one_of_two m k n c d apart))
        ∙ ap (λ (L : Card A). y ++ (x ++ port n (run z L cs))) (either_order z K m k c d apart).card

    swap : Alike z K (named m c ∷ named k d ∷ cs) (named k d ∷ named m c ∷ cs)
    swap = record { card = ap (λ (L : Card A). end z L cs) (either_order z K m k c d apart).card; ports = swap_port }

  -- MERGES

  -- ds comes to the same as a call on port m, and the rest behind it
  record Pulled (m : ℕ) (c : Named A ChannelCall) (ds : List (Named A Call)) : Type 0 where
    rest : List (Named A Call)
    no_pick : NoPick rest
    same : (n : ℕ) → calls_on n (named m c ∷ rest) ≡ calls_on n ds
    alike : (K : Card A) → Alike z K (named m c ∷ rest) ds

  at_once : (m : ℕ) (c : Named A ChannelCall) (ds : List (Named A Call)) → NoPick ds → Pulled m c (named m c ∷ ds)
  at_once m c ds h = record { rest = ds; no_pick = h; same = λ n. refl; alike = λ K. itself K (named m c ∷ ds) }

  past : (m k : ℕ) (c d : Named A ChannelCall) (ds : List (Named A Call)) → m ≢ k → Pulled m c ds → Pulled m c (named k d ∷ ds)
  past m k c d ds apart r =
      record {
        rest = named k d ∷ r.rest;
        no_pick = (refl, r.no_pick);
        same = λ n.
            exchange (call_at n m c) (call_at n k d) (calls_on n r.rest) (one_of_two m k n c d apart)
            ∙ ap (λ (l : List (Named A ChannelCall)). call_at n k d ++ l) (r.same n);
        alike = λ K. through (swap m k c d apart r.rest K) (keep (named k d) r.alike K);
      }

  -- the first call on port m goes before those on other ports, one after the other
  module _ (m : ℕ) (c : Named A ChannelCall) (later : List (Named A ChannelCall)) where
    abbrev Pulls : List (Named A Call) → Type 0
    Pulls ds = calls_on m ds ≡ c ∷ later → Pulled m c ds

    behind : (b : A) (d : Call) (ds : List (Named A Call)) → is_pick d ≡ false → NoPick ds → Pulls ds → Pulls (record { name = b; call = d } ∷ ds)
    behind b pick ds p h law e = absurd (true≢false p)
    behind b (on k d) ds p h law e = go (eqb k m) refl
      where
        it : Named A ChannelCall
        it = record { name = b; call = d }

        go : (t : Bool) → eqb k m ≡ t → Pulled m c (named k it ∷ ds)
        go true f =
            let there : it ∷ calls_on m ds ≡ c ∷ later = rw f at e in
            rw (← eqb-true k m f, ← head-eq_of_cons-eq there) (at_once k it ds h)
        go false f = past m k c it ds (λ same. eqb-false k m f (sym same)) (law (rw f at e))

    pull : (ds : List (Named A Call)) → NoPick ds → Pulls ds
    pull [] h e = absurd (nil≢cons e)
    pull (d ∷ ds) h e = behind d.name d.call ds h.0 h.1 (pull ds h.1) e

  abbrev Merged : List (Named A Call) → Type 0
  Merged cs = (ds : List (Named A Call)) → NoPick ds → ((n : ℕ) → calls_on n cs ≡ calls_on n ds) → (K : Card A) → Alike z K cs ds

  no_calls : Merged []
  no_calls [] h same K = itself K []
  no_calls (d ∷ ds) h same K = go d.name d.call h.0 same
    where
      go : (b : A) (d : Call) → is_pick d ≡ false → ((n : ℕ) → [] ≡ call_on n b d ++ calls_on n ds) → Alike z K [] (record { name = b; call = d } ∷ ds)
      go b pick p same = absurd (true≢false p)
      go b (on k d) p same = absurd (nil≢cons (rw (eq-eqb k k refl) at (same k)))

  first_call : (a : A) (c : Call) (cs : List (Named A Call)) → is_pick c ≡ false → Merged cs → Merged (record { name = a; call = c } ∷ cs)
  first_call a pick cs p law ds h same K = absurd (true≢false p)
  first_call a (on m c) cs p law ds h same K =
      let it : Named A ChannelCall = record { name = a; call = c } in
      let r = pull m it (calls_on m cs) ds h (sym (rw (eq-eqb m m refl) at (same m))) in
      let rest-same : (n : ℕ) → calls_on n cs ≡ calls_on n r.rest = λ n. cancel (call_at n m it) (calls_on n cs) (calls_on n r.rest) (same n ∙ sym (r.same n)) in
      through (keep (named m it) (law r.rest r.no_pick rest-same) K) (r.alike K)

  merged : (cs : List (Named A Call)) → NoPick cs → Merged cs
  merged [] h = no_calls
  merged (c ∷ cs) h = first_call c.name c.call cs h.0 (merged cs h.1)

pub merges : Merges
merges A z K cs ds h i same = merged z cs h ds i same K
