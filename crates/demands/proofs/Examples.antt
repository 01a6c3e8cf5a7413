-- The examples, by computation over the definitions.
use mathlib.Core.Path.{refl, ap}
use mathlib.Core.Bool.{true≢false}
use mathlib.Core.List.{List, [], map}
use Prim.Native.Nat.{ℕ}
use lib.Dec.{eqb}
use lib.ListN.{length, get_or}
use Rattle.paper.specs.Settings.{bad_field}
use Rattle.paper.specs.Arrival.{good_item, step1, step2, stripped, woken, step4, step5, flow_ruling, step6, ending, step7, good, arrival}
use Rattle.paper.specs.Stream.{decode, clean_front}
use Rattle.paper.specs.Transmitter.{transmit_depth, loaded, transmit_step}
use Rattle.paper.specs.Channel.{Channel, no_room, channel_step}
use Rattle.paper.specs.Card.{Card, at, picked, step}
use Rattle.paper.specs.Numbers.{numbers}
use Rattle.paper.specs.Frames.{call_of, digit, line_call}
use Rattle.paper.specs.declared.Answer.{Answer}
use Rattle.demands.specs.Examples.{Ranges, Crossed, Table, DamagedTable, Endings, LossStays, ReadCases, ReaderCases, EndCases, NumberCases, WholeCase, TransmitCase, QueueCase, HeldCase, NothingStoredCase, ImpliedXonCase, LiteralMarkCase, LineCase, RefusalCase, OrderCases, MergeCase}
use Rattle.demands.specs.History.{Entry}
use Rattle.demands.specs.Demands.{TwoHosts, Excepted}

-- what the examples compute with: to unfold one of these two names is to unfold all that its own line names. Settings and arrivals on a channel:
unfoldable pub called : Unit {0}
unfolding bad_field good_item step1 step2 stripped woken step4 step5 flow_ruling step6 ending step7 good arrival channel_step
called = tt

-- any line of a trace
traced : Unit {0}
unfolding called transmit_depth loaded transmit_step no_room picked step call_of digit line_call
traced = tt

pub ranges : Ranges
unfolding bad_field
ranges = record { lowest = refl; highest = refl; above = refl; below = refl }

pub crossed : Crossed
unfolding bad_field
crossed = refl

pub table : Table
unfolding called
table = refl

pub damaged_table : DamagedTable
unfolding called
damaged_table = refl

pub endings : Endings
unfolding called
endings = (refl, refl)

pub loss_stays : LossStays
loss_stays = (refl, refl, refl)

pub read_cases : ReadCases
unfolding called no_room
read_cases = record { whole = refl; too_short = refl; at_the_end = refl; beyond_it = refl; too_many = refl; inside = refl }

pub reader_cases : ReaderCases
unfolding decode clean_front
reader_cases = record { nothing = refl; whole = refl; broken = refl; cut = refl; cut_later = refl; short = refl; front = refl }

pub end_cases : EndCases
unfolding traced
end_cases = record { nothing = refl; newline_alone = refl; unended = refl; half_a_byte = refl }

pub number_cases : NumberCases
number_cases = record { refusals = refl; handed = refl; handed_inside = refl; shown = refl; all_lost = refl }

pub whole_case : WholeCase
unfolding traced
whole_case = refl

pub transmit_case : TransmitCase
unfolding traced
transmit_case = refl

pub queue_case : QueueCase
unfolding traced
queue_case = refl

pub held_case : HeldCase
unfolding traced
held_case = refl

pub nothing_stored_case : NothingStoredCase
unfolding traced
nothing_stored_case = refl

pub implied_xon_case : ImpliedXonCase
unfolding traced
implied_xon_case = refl

pub literal_mark_case : LiteralMarkCase
unfolding traced
literal_mark_case = refl

pub line_case : LineCase
unfolding traced
line_case = refl

pub refusal_case : RefusalCase
unfolding traced
refusal_case = refl

pub order_cases : OrderCases
unfolding traced
order_cases = record { pick_first = refl; arrival_first = refl; read_0_first = refl; read_1_first = refl }

pub merge_case : MergeCase
merge_case = (refl, refl, refl)

pub two_hosts : TwoHosts
unfolding called no_room picked step
two_hosts = (refl, refl)

-- how many wait on a channel
abbrev waiting : {A : Type 0} → Channel A → ℕ
waiting h = length h.queue.slots

-- by the pick's number; by what waits in the end; by what the state shows; by the byte that was read; by the pick's place; by what waits at the second call
pub excepted : Excepted
unfolding called no_room picked step
excepted =
    record {
      picks = λ e. true≢false (ap (λ (a : Answer). eqb (get_or (numbers a []) 1 0) 0xFF) e.answer);
      resets = λ e. true≢false (ap (λ (K : Card Unit). eqb (waiting (at K 0)) 1) e.card);
      states = λ e. true≢false (ap (λ (a : Answer). eqb (get_or (numbers a []) 1 0) 0) e.answer);
      reads = λ e. true≢false (ap (λ (bytes : List ℕ). eqb (get_or bytes 0 0) 65) e.lent);
      merged_picks = λ e. true≢false (ap (λ (K : Card Unit). eqb K.place 3) e.card);
      order_lost = λ e.
          true≢false (ap (λ (es : List (Entry Unit)). eqb (get_or (map (λ (x : Entry Unit). waiting x.before) es) 1 0) 0) (e.ports 0));
    }
