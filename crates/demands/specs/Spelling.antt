-- 01, "Frame program": the lines that spell a frame, in hexadecimal, and so make its call. Every other line is refusal 11.
use Rattle.std.specs.Prelude.{◌≡◌, List, [], ◌∷◌, ℕ, ◌+◌, ◌*◌, ◌≤◌, ◌<◌, length}
use Rattle.std.proofs.Math.Option.{some}
use Rattle.paper.specs.Settings.{Size}
use Rattle.paper.specs.Transmitter.{load, turn, set_cts, ask_special}
use Rattle.paper.specs.Channel.{arrive, read, take_settings, reset, state, transmit}
use Rattle.paper.specs.Card.{Call, on, pick}
use Rattle.paper.specs.Frames.{call_of}

-- a hexadecimal digit, "either letter case", and its value: 0 is the character 48, A 65 and a 97
pub data Digit : (character value : ℕ) → Type 0 where
  figure : (v : ℕ) → v < 10 → Digit (48 + v) v
  capital : (v : ℕ) → v < 6 → Digit (65 + v) (10 + v)
  small : (v : ℕ) → v < 6 → Digit (97 + v) (10 + v)

-- a text that spells bytes, two digits each
pub data Spells : (text bytes : List ℕ) → Type 0 where
  empty : Spells [] []
  byte : {a b high low : ℕ} {text bytes : List ℕ}
      → Digit a high → Digit b low → Spells text bytes → Spells (a ∷ b ∷ text) ((high * 16 + low) ∷ bytes)

-- a line that makes a call: it spells a frame of "at most 34 bytes"
pub record Calls (z : Size) (text : List ℕ) (c : Call) : Type 0 where
  pub bytes : List ℕ
  pub spells : Spells text bytes
  pub short : length bytes ≤ 34
  pub frame : call_of z bytes ≡ some c

-- the first byte of a call's frame
abbrev pub frame_of : Call → ℕ
frame_of (on n (arrive kind b)) = 0x01
frame_of (on n (read count place buffer)) = 0x02
frame_of (on n (transmit (load l))) = 0x03
frame_of (on n (transmit turn)) = 0x04
frame_of (on n (transmit (set_cts v))) = 0x05
frame_of (on n (transmit (ask_special s))) = 0x06
frame_of (on n (take_settings l)) = 0x07
frame_of pick = 0x08
frame_of (on n reset) = 0x09
frame_of (on n state) = 0x0A
