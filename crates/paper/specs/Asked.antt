-- What is asked of a channel, the bytes at hand and a read's place in them, together: the paper's call.
use Rattle.std.specs.Prelude.{List, ℕ, length, drop}
use Rattle.paper.specs.Transmitter.{load, turn, set_cts, ask_special}
use Rattle.paper.specs.Channel.{ChannelCall, arrive, read, take_settings, reset, state, transmit, lent}
use Rattle.paper.specs.declared.Asked.{Asked}
use Rattle.paper.specs.declared.Asked.TheVariants as asked

abbrev pub call_with : Asked → (bytes : List ℕ) → (place : ℕ) → ChannelCall
call_with (asked.Arrive kind b) l place = arrive kind b
call_with (asked.Read n) l place = read n place l
call_with asked.TakeSettings l place = take_settings l
call_with asked.Reset l place = reset
call_with asked.State l place = state
call_with asked.Load l place = transmit (load l)
call_with asked.Turn l place = transmit turn
call_with (asked.SetCts v) l place = transmit (set_cts v)
call_with (asked.AskSpecial n) l place = transmit (ask_special n)

-- of the bytes at hand, those that the call is not lent: none or all of them
abbrev pub unlent : Asked → (bytes : List ℕ) → List ℕ
unlent a l = drop (length (lent (call_with a l 0))) l
