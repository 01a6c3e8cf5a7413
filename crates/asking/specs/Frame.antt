-- What a line's frame asks for, as the code tells it.
use Rattle.std.specs.Prelude.{List, Result, Ok, Err, ◌≡◌, ℕ, ◌/◌, ◌%◌, ◌≤◌, ◌<◌, eqb, ltb, length, drop, replicate, if◌then◌else◌}
use Rattle.std.proofs.Math.Option.{Option, none, some}
use Rattle.paper.specs.Settings.{Size}
use Rattle.paper.specs.Channel.{ChannelCall}
use Rattle.paper.specs.Asked.{call_with}
use Rattle.paper.specs.Card.{Call, on, pick}
use Rattle.paper.specs.Frames.{lent_bytes}
use Rattle.paper.specs.declared.Asked.{Asked}
use Rattle.paper.specs.declared.Asked.TheVariants as asked
use Rattle.hexadecimal.specs.declared.LineSoFar.{LineSoFar}
use Rattle.paper.specs.declared.Refusal.{Refusal}
use Rattle.paper.specs.declared.Refusal.TheVariants.{BadChannel, BadLine}
use Rattle.asking.specs.declared.Call as declared
use Rattle.asking.specs.declared.Call.TheVariants.{OnChannel, Pick}

-- the bytes that a frame lends: a read's own, and for any other call what stands behind the channel
abbrev pub lent_to : Size → (frame : List ℕ) → Asked → List ℕ
lent_to z f (asked.Arrive kind b) = drop 2 f
lent_to z f (asked.Read n) = replicate (lent_bytes z) 0
lent_to z f asked.TakeSettings = drop 2 f
lent_to z f asked.Reset = drop 2 f
lent_to z f asked.State = drop 2 f
lent_to z f asked.Load = drop 2 f
lent_to z f asked.Turn = drop 2 f
lent_to z f (asked.SetCts v) = drop 2 f
lent_to z f (asked.AskSpecial n) = drop 2 f

-- "place 0"
abbrev pub call_in : Size → (frame : List ℕ) → Asked → ChannelCall
call_in z f a = call_with a (lent_to z f a) 0

-- a frame that asks a channel
pub record Asks (z : Size) (f : List ℕ) (n : ℕ) (a : Asked) (c : Option Call) : Type 0 where
  pub call : c ≡ some (on n (call_in z f a))
  pub channel : n ≤ 3
  pub long : 2 ≤ length f

-- a frame for a channel above 3
pub record Above (c : Option Call) : Type 0 where
  pub number : ℕ
  pub asked : ChannelCall
  pub call : c ≡ some (on number asked)
  pub above : 3 < number

-- a line that is refused: it names a channel above 3, or its frame asks for no call at all
pub data Refuses : Refusal → Option Call → Type 0 where
  bad_channel : {c : Option Call} → Above c → Refuses BadChannel c
  bad_line : {c : Option Call} → c ≡ none → Refuses BadLine c

-- what was found in a frame means the call c, or none
abbrev pub Means : Size → (frame : List ℕ) → Result declared.Call Refusal → Option Call → Type 0
Means z f (Ok (OnChannel n a)) c = Asks z f n a c
Means z f (Ok Pick) c = c ≡ some pick
Means z f (Err r) c = Refuses r c

-- a call on a channel, if there is that channel
unfoldable pub on_channel : (n : ℕ) → Asked → Result declared.Call Refusal
on_channel n a = if ltb 3 n then Err BadChannel else Ok (OnChannel n a)

-- how many bytes the frame of a line has; an odd count of digits makes none, and a line that is no frame counts 69
unfoldable pub bytes_in : LineSoFar → ℕ
bytes_in l = if eqb (l.digits % 2) 1 then 0 else l.digits / 2
