-- DEMAND 2, the reader: it reads a marked stream back and accepts nothing else, its call's three answers, and the clean front.
use mathlib.Core.Path.{◌≡◌, refl, sym, ap, ◌∙◌}
use mathlib.Core.Logic.{◌⊎◌, inl, inr, ◌≢◌}
use mathlib.Core.List.{List, [], ◌∷◌, ◌++◌, map, append-nil}
use Prim.Native.Nat.{ℕ, zero, suc, ◌+◌, ◌-◌, ◌≤◌, ◌<◌}
use native.Mathlib.Omega.{arith}
use lib.Dec.{eqb, ltb}
use lib.ListN.{length, get_or, take, drop, length-append, take-append-drop}
use lib.Seq.{take_at, get_or_at, length-take-le}
use borrow.Author.Tests.{eqb-true, eqb-false, ltb-true, ltb-false}
use Rattle.paper.specs.Stream.{images, Character, good, damaged, Readout, Open, nothing, mark, mark_zero, first, read_on, readout}
use Rattle.paper.specs.Stream.{decoded_as, decode, clean_front}
use Rattle.paper.specs.declared.Item.{Item}
use Rattle.demands.specs.Marks.{character_of, marked_item, stream, Accepts, FirstBroken}
use Rattle.demands.specs.Demands.{Reader, ReaderGives, short, broken, served, ReaderCall, CleanFront}
use Rattle.demands.proofs.Choices.{chosen, chosen_or}

-- characters in front of a readout
abbrev pub before : List Character → Readout → Readout
before cs r = record { characters = cs ++ r.characters; rest = r.rest }

-- reading goes on behind the image of a list of characters
pub read_past : (cs : List Character) (t : List ℕ) → readout (stream cs ++ t) ≡ before cs (readout t)
read_past [] t = refl
read_past (damaged b ∷ cs) t = ap (first (damaged b)) (read_past cs t)
read_past (good b ∷ cs) t =
    chosen
    (λ (i : Item). readout (images (i ∷ map marked_item cs) ++ t) ≡ before (good b ∷ cs) (readout t))
    (eqb b 0xFF)
    (λ e. rw (eqb-true b 0xFF e, read_past cs t))
    (λ e. rw (e, read_past cs t))

-- DEMAND 2: THE READER

-- the stream is the image of the characters read, and the rest
abbrev Whole : List ℕ → Readout → Type 0
Whole s r = s ≡ stream r.characters ++ r.rest

abbrev open_bytes : Open → List ℕ
open_bytes nothing = []
open_bytes mark = 0xFF ∷ []
open_bytes mark_zero = 0xFF ∷ 0x00 ∷ []

whole : (o : Open) (s : List ℕ) → Whole (open_bytes o ++ s) (read_on o s)
whole nothing [] = refl
whole mark [] = refl
whole mark_zero [] = refl
whole nothing (b ∷ s) =
    chosen
    (Whole (b ∷ s))
    (eqb b 0xFF)
    (λ e. rw (eqb-true b 0xFF e) (whole mark s))
    (λ e. rw e (ap (λ (l : List ℕ). b ∷ l) (whole nothing s)))
whole mark (b ∷ s) =
    chosen
    (Whole (0xFF ∷ b ∷ s))
    (eqb b 0xFF)
    (λ e. rw (eqb-true b 0xFF e) (ap (λ (l : List ℕ). 0xFF ∷ 0xFF ∷ l) (whole nothing s)))
    (λ _. chosen (Whole (0xFF ∷ b ∷ s)) (eqb b 0x00) (λ e. rw (eqb-true b 0x00 e) (whole mark_zero s)) (λ _. refl))
whole mark_zero (b ∷ s) = ap (λ (l : List ℕ). 0xFF ∷ 0x00 ∷ b ∷ l) (whole nothing s)

reads_back : (cs : List Character) → Accepts (stream cs) cs
reads_back cs = rw append-nil at (read_past cs [] ∙ ap (λ (l : List Character). record { characters = l; rest = [] }) (append-nil cs))

only_images : (s : List ℕ) (cs : List Character) → Accepts s cs → s ≡ stream cs
only_images s cs h = whole nothing s ∙ rw (h, append-nil)

-- a broken FF stands no further on than any other
no_later : (s : List ℕ) (p q : ℕ) → FirstBroken s p → FirstBroken s q → p ≤ q
no_later s p q b c =
    let front = only_images (take p s) b.before.0 b.before.1 in
    let split : s ≡ stream b.before.0 ++ drop p s = sym (take-append-drop p s) ∙ ap (λ (l : List ℕ). l ++ drop p s) front in
    let long : length (take p s) ≡ p = length-take-le p s (omega (arith, b.inside)) in
    omega (arith, c.no_further b.before.0 (drop p s) split, ap length front)

unread : (s : List ℕ) (p : ℕ) (cs : List Character) → FirstBroken s p → ¬ Accepts s cs
unread s p cs b h =
    let image = only_images s cs h in
    omega (arith, b.inside, b.no_further cs [] (image ∙ sym (append-nil (stream cs))), ap length image)

pub reader : Reader
reader =
    record {
      reads_back = reads_back;
      only_images = only_images;
      once = λ cs ds h. ap (λ (r : Readout). r.characters) (sym (reads_back cs) ∙ ap readout h ∙ reads_back ds);
      broken_once = λ s p q b c. let l = no_later s p q b c in let g = no_later s q p c b in omega arith;
      broken_unread = unread;
    }

-- an item that mark mode can store, and a list of them
abbrev pub Markable : Item → Type 0
Markable i = i ≡ marked_item (character_of i)

pub data AllMarkable : List Item → Type 0 where
  nil : AllMarkable []
  cons : {i : Item} {is : List Item} → Markable i → AllMarkable is → AllMarkable (i ∷ is)

items_stream : {is : List Item} → AllMarkable is → images is ≡ stream (map character_of is)
items_stream nil = refl
items_stream (cons m ms) = rw (← m, items_stream ms)

-- the images of such items are read back as their characters
pub items_back : {is : List Item} → AllMarkable is → Accepts (images is) (map character_of is)
items_back {is} ms = rw (items_stream ms) (reads_back (map character_of is))

-- THE READER'S CALL

-- the rest begins with FF, where there is one
abbrev Marked : Readout → Type 0
Marked r = get_or r.rest 0 0xFF ≡ 0xFF

rest_marked : (o : Open) (s : List ℕ) → Marked (read_on o s)
rest_marked nothing [] = refl
rest_marked mark [] = refl
rest_marked mark_zero [] = refl
rest_marked nothing (b ∷ s) = chosen Marked (eqb b 0xFF) (λ _. rest_marked mark s) (λ _. rest_marked nothing s)
rest_marked mark (b ∷ s) =
    chosen Marked (eqb b 0xFF) (λ _. rest_marked nothing s) (λ _. chosen Marked (eqb b 0x00) (λ _. rest_marked mark_zero s) (λ _. refl))
rest_marked mark_zero (b ∷ s) = rest_marked nothing s

-- no reading passes the rest
no_further : (s : List ℕ) (cs : List Character) (t : List ℕ) → s ≡ stream cs ++ t → length (stream cs) + length (readout s).rest ≤ length s
no_further s cs t e = rw (e, read_past cs t, length-append) (omega (arith, simp length-append at (ap length (whole nothing t))))

pub first_broken_lem : (s : List ℕ) (cs : List Character) (b : ℕ) (rest : List ℕ)
    → readout s ≡ record { characters = cs; rest = b ∷ rest } → FirstBroken s (length s - length (b ∷ rest))
first_broken_lem s cs b rest h =
    let place : ℕ = length s - length (b ∷ rest) in
    let w : s ≡ stream cs ++ b ∷ rest = rw h at (whole nothing s) in
    let n : length (stream cs) ≡ place = omega (arith, simp length-append at (ap length w)) in
    record {
      mark = ap (λ (l : List ℕ). get_or l place 0) w ∙ get_or_at (stream cs) b rest 0 place n ∙ rw h at (rest_marked nothing s);
      inside = omega (arith, simp length-append at (ap length w));
      before = (cs, ap (λ (l : List ℕ). readout (take place l)) w ∙ ap readout (take_at (stream cs) (b ∷ rest) place n) ∙ reads_back cs);
      no_further = λ ds t e. omega (arith, rw h at (no_further s ds t e));
    }

-- the answer where both outputs are long enough
answered : (s sorts bytes : List ℕ) → length s ≤ length sorts → length s ≤ length bytes → (cs : List Character) (rest : List ℕ)
    → readout s ≡ record { characters = cs; rest = rest } → ReaderGives s sorts bytes (decoded_as s sorts bytes cs rest)
answered s sorts bytes f g cs [] h = served f g cs h
answered s sorts bytes f g cs (b ∷ rest) h = broken f g (length s - length (b ∷ rest)) (first_broken_lem s cs b rest h)

pub reader_call : ReaderCall
unfolding decode
reader_call s sorts bytes =
    chosen_or
    (ReaderGives s sorts bytes)
    (ltb (length sorts) (length s))
    (ltb (length bytes) (length s))
    (λ e. short (inl (ltb-true _ _ e)))
    (λ e. short (inr (ltb-true _ _ e)))
    (λ e f. answered s sorts bytes (ltb-false _ _ e) (ltb-false _ _ f) (readout s).characters (readout s).rest refl)

-- THE CLEAN FRONT

front_whole : (s : List ℕ) → s ≡ clean_front s ++ drop (length (clean_front s)) s
unfolding clean_front
front_whole [] = refl
front_whole (b ∷ s) =
    chosen (λ (f : List ℕ). b ∷ s ≡ f ++ drop (length f) (b ∷ s)) (eqb b 0xFF) (λ _. refl) (λ _. ap (λ (l : List ℕ). b ∷ l) (front_whole s))

abbrev Clean : List ℕ → Type 0
Clean l = (i : ℕ) → i < length l → get_or l i 0 ≢ 0xFF

clean_more : (b : ℕ) (l : List ℕ) → b ≢ 0xFF → Clean l → Clean (b ∷ l)
clean_more b l ok rest zero h = ok
clean_more b l ok rest (suc i) h = rest i (omega arith)

front_clean : (s : List ℕ) → Clean (clean_front s)
unfolding clean_front
front_clean [] = λ i h. omega arith
front_clean (b ∷ s) =
    chosen Clean (eqb b 0xFF) (λ _ i h. omega arith) (λ e. clean_more b (clean_front s) (eqb-false b 0xFF e) (front_clean s))

front_ends : (s : List ℕ) → get_or (drop (length (clean_front s)) s) 0 0xFF ≡ 0xFF
unfolding clean_front
front_ends [] = refl
front_ends (b ∷ s) =
    chosen (λ (f : List ℕ). get_or (drop (length f) (b ∷ s)) 0 0xFF ≡ 0xFF) (eqb b 0xFF) (eqb-true b 0xFF) (λ _. front_ends s)

empty_or_marked : (l : List ℕ) → get_or l 0 0xFF ≡ 0xFF → (l ≡ []) ⊎ (get_or l 0 0 ≡ 0xFF)
empty_or_marked [] e = inl refl
empty_or_marked (b ∷ l) e = inr e

pub clean_front_lem : (s : List ℕ) → CleanFront s
clean_front_lem s =
    let rest : List ℕ = drop (length (clean_front s)) s in
    record { rest = rest; whole = front_whole s; clean = front_clean s; ends = empty_or_marked rest (front_ends s) }
