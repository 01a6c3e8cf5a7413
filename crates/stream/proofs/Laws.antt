-- What both passes find by steps of one item, and the clean front.
use mathlib.Core.Path.{◌≡◌, refl, sym, ap, ◌∙◌}
use mathlib.Core.Bool.{Bool, true, false, not, or-true, cond}
use mathlib.Core.Logic.{◌⊎◌, inl, inr}
use mathlib.Core.List.{List, [], ◌∷◌, map}
use Prim.Native.Nat.{ℕ, suc, ◌+◌, ◌-◌, ◌≤◌, ◌<◌}
use native.Mathlib.Omega.{arith}
use native.Mathlib.Numerals.{add-one}
use native.Mathlib.Nat.{zero-add}
use lib.Dec.{eqb, ltb}
use lib.ListN.{length, take, set, length-set, length-map}
use lib.Seq.{sets, sets-eq}
use borrow.Author.Tests.{lt-ltb, le-ltb, ltb-false}
use Rattle.std.specs.Prelude.{Option, Some, None, Ok, Err, unwrap_or, if◌then◌else◌}
use Rattle.std.proofs.lemmas.List.Sums.{prefix_len-le-length}
use Rattle.std.specs.List.{position_or_len}
use Rattle.paper.specs.Stream.{Character, Readout, readout, sort, byte, front, Decoded, decoded_as, decode, clean_front}
use Rattle.paper.specs.declared.Refusal.TheVariants.{BrokenStream, ShortOutput}
use Rattle.stream.specs.Promise.{Promise, OneAnswer}
use Rattle.stream.specs.Scan.{scanned, character, SplitsInto, Stops}
use Rattle.stream.specs.declared.Item.{Item}

-- nothing before the rest is broken
pub record ScannedTo (s rest : List ℕ) : Type 0 where
  pub same : (readout s).rest ≡ (readout rest).rest
  pub within : length rest ≤ length s

-- the scan goes on behind an item
pub passes : {s rest behind : List ℕ} {item : Item} → ScannedTo s rest → SplitsInto rest item behind → ScannedTo s behind
passes before step =
    record { same = before.same ∙ ap (λ (r : Readout). r.rest) step.goes_on; within = omega (arith, before.within, step.shorter) }

-- it ends at an FF that is broken, or at the end
left : {s rest : List ℕ} → ScannedTo s rest → Stops rest → (readout s).rest ≡ rest
left before stops = before.same ∙ ap (λ (r : Readout). r.rest) stops

pub names : {s : List ℕ} (rest : List ℕ) → ScannedTo s rest → Stops rest → 0 < length rest → Some (length s - length rest) ≡ scanned s (readout s).rest
names [] before stops h = absurd (omega (arith, h))
names (b ∷ rest) before stops h = rw (left before stops)

pub none_broken : {s : List ℕ} (rest : List ℕ) → ScannedTo s rest → Stops rest → length rest ≡ 0 → None ≡ scanned s (readout s).rest
none_broken [] before stops h = rw (left before stops)
none_broken (b ∷ rest) before stops h = absurd (omega (arith, h))

-- a scan that finds nothing broken leaves nothing
pub nothing_left : (s rest : List ℕ) → None ≡ scanned s rest → rest ≡ []
nothing_left s [] e = refl
nothing_left s (b ∷ rest) e = absurd (let z : ◌≡◌ {A = ℕ} 0 1 = cc in omega arith)

-- "either output shorter than the input"
pub short : (s sorts bytes : List ℕ) → (length sorts < length s) ⊎ (length bytes < length s)
    → decode s sorts bytes ≡ record { answer = Err ShortOutput; sorts = sorts; bytes = bytes }
unfolding decode
short s sorts bytes (inl h) = rw (lt-ltb _ _ h)
short s sorts bytes (inr h) = rw (lt-ltb _ _ h, or-true)

-- A buffer that fills: stored from `count` on, the items still to come make of it what all of them make of the buffer as it was lent
pub record Filling (field : Character → ℕ) (s lent buffer rest : List ℕ) (count : ℕ) : Type 0 where
  pub long : length buffer ≡ length lent
  pub left : sets buffer count (map field (readout rest).characters) ≡ sets lent 0 (map field (readout s).characters)

module _ {field : Character → ℕ} {s lent buffer rest : List ℕ} {count : ℕ} (filling : Filling field s lent buffer rest count) where
  -- the next item is stored
  pub fills : {item : Item} {behind : List ℕ} {x : ℕ} → SplitsInto rest item behind → x ≡ field (character item)
      → Filling field s lent (set buffer count x) behind (count + 1)
  fills {x = x} step e =
      record { long = length-set buffer count x ∙ filling.long; left = rw (add-one, e) (rw step.goes_on at filling.left) }

  -- none is left
  pub filled : Stops rest → length (readout s).characters ≤ length lent → buffer ≡ front (map field (readout s).characters) lent
  filled stops fits =
      rw stops at filling.left
      ∙ sets-eq (map field (readout s).characters) lent 0 (rw (zero-add, length-map) fits)
      ∙ rw zero-add

-- both buffers, as they are lent and as they stand when `count` items are read
pub record Writing (s sorts bytes sorts_now bytes_now rest : List ℕ) (count : ℕ) : Type 0 where
  pub few : count + length rest ≤ length s
  pub counted : count + length (readout rest).characters ≡ length (readout s).characters
  pub sorts_fill : Filling sort s sorts sorts_now rest count
  pub bytes_fill : Filling byte s bytes bytes_now rest count

-- both buffers hold all items
module _ {s sorts bytes sorts_now bytes_now rest : List ℕ} {count : ℕ} (w : Writing s sorts bytes sorts_now bytes_now rest count) (stops : Stops rest) where
  pub all_counted : count ≡ length (readout s).characters
  all_counted = let none : length (readout rest).characters ≡ 0 = rw stops in omega (arith, w.counted)

  pub sorts_written : length s ≤ length sorts → sorts_now ≡ front (map sort (readout s).characters) sorts
  sorts_written h = filled w.sorts_fill stops (omega (arith, all_counted, w.few))

  pub bytes_written : length s ≤ length bytes → bytes_now ≡ front (map byte (readout s).characters) bytes
  bytes_written h = filled w.bytes_fill stops (omega (arith, all_counted, w.few))

-- the call where both outputs are long enough goes by what the scan says
module _ (s sorts bytes : List ℕ) (h : length s ≤ length sorts) (k : length s ≤ length bytes) where
  enough : decode s sorts bytes ≡ decoded_as s sorts bytes (readout s).characters (readout s).rest
  unfolding decode
  enough = rw (le-ltb _ _ h, le-ltb _ _ k)

  pub refuses : (place : ℕ) → Some place ≡ scanned s (readout s).rest
      → decode s sorts bytes ≡ record { answer = Err (BrokenStream place); sorts = sorts; bytes = bytes }
  refuses place e = enough ∙ go (readout s).rest e
    where
      go : (rest : List ℕ) → Some place ≡ scanned s rest
          → decoded_as s sorts bytes (readout s).characters rest ≡ record { answer = Err (BrokenStream place); sorts = sorts; bytes = bytes }
      go [] e = absurd (let z : ◌≡◌ {A = ℕ} 0 1 = cc in omega arith)
      go (b ∷ rest) e = cc

  pub serves : None ≡ scanned s (readout s).rest
      → decode s sorts bytes
      ≡ record {
        answer = Ok (length (readout s).characters);
        sorts = front (map sort (readout s).characters) sorts;
        bytes = front (map byte (readout s).characters) bytes;
      }
  serves e = enough ∙ rw (nothing_left s (readout s).rest e)

-- what is read is the answer and both buffers; its numbers follow
pub promised : {s sorts bytes : List ℕ} {d : Decoded} → decode s sorts bytes ≡ d → Promise s sorts bytes d
promised e = record { gives = sym e; says = rw e }

module _ (s sorts bytes : List ℕ) where
  pub promised_short : (length sorts < length s) ⊎ (length bytes < length s)
      → Promise s sorts bytes (record { answer = Err ShortOutput; sorts = sorts; bytes = bytes })
  promised_short h = promised (short s sorts bytes h)

  module _ (h : length s ≤ length sorts) (k : length s ≤ length bytes) where
    pub promised_broken : (place : ℕ) → Some place ≡ scanned s (readout s).rest
        → Promise s sorts bytes (record { answer = Err (BrokenStream place); sorts = sorts; bytes = bytes })
    promised_broken place e = promised (refuses s sorts bytes h k place e)

    pub promised_items : (count : ℕ) (sorts_new bytes_new : List ℕ) → None ≡ scanned s (readout s).rest
        → count ≡ length (readout s).characters
        → sorts_new ≡ front (map sort (readout s).characters) sorts
        → bytes_new ≡ front (map byte (readout s).characters) bytes
        → Promise s sorts bytes (record { answer = Ok count; sorts = sorts_new; bytes = bytes_new })
    promised_items count sorts_new bytes_new e n f g = promised (serves s sorts bytes h k e ∙ cc)

pub one_answer : OneAnswer
one_answer s sorts bytes d d' p q = p.gives ∙ sym q.gives

-- THE CLEAN FRONT

-- what stands before the first FF
abbrev pub before_ff : List ℕ → ℕ
before_ff s = position_or_len (λ b. eqb b 0xFF) s

before_is_clean : (s : List ℕ) → take (before_ff s) s ≡ clean_front s
unfolding clean_front
before_is_clean [] = refl
before_is_clean (b ∷ s) = by (eqb b 0xFF) (before_is_clean s)
  where
    by : (t : Bool) → take (before_ff s) s ≡ clean_front s → take (cond (not t) (1 + before_ff s) 0) (b ∷ s) ≡ (if t then [] else b ∷ clean_front s)
    by true e = refl
    by false e = let more : 1 + before_ff s ≡ suc (before_ff s) = omega arith in rw more (ap (λ (bs : List ℕ). b ∷ bs) e)

all_clean : (s : List ℕ) (t : Bool) → ltb (before_ff s) (length s) ≡ t → unwrap_or (cond t (Some (before_ff s)) None) (length s) ≡ before_ff s
all_clean s true e = refl
all_clean s false e =
    let most : before_ff s ≤ length s = prefix_len-le-length (λ b. not (eqb b 0xFF)) s in
    omega (arith, ltb-false (before_ff s) (length s) e)

-- the place of the first FF, or the end where there is none, is where it ends
pub clean_to : (s : List ℕ) (found : Option ℕ) (n : ℕ)
    → found ≡ cond (ltb (before_ff s) (length s)) (Some (before_ff s)) None
    → n ≡ unwrap_or found (length s) → take n s ≡ clean_front s
clean_to s found n e h = rw (h, e, all_clean s _ refl) (before_is_clean s)
