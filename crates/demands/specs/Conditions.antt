-- 01, "Refusal numbers": the conditions that concern a call, in the paper's order ("Lower numbers first").
use Rattle.std.specs.Prelude.{◌≡◌, true, false, ◌⊎◌, ◌≢◌, List, [], ◌∷◌, map, ◌+◌, ◌*◌, ◌<◌, length}
use Rattle.std.proofs.Math.Option.{none}
use Rattle.paper.specs.Settings.{Size, settings_of, Test, tests}
use Rattle.paper.specs.Transmitter.{Transmitter, TransmitCall, load, turn, set_cts, ask_special}
use Rattle.paper.specs.Channel.{Channel, ChannelCall, arrive, read, take_settings, reset, state, transmit}
use Rattle.paper.specs.Card.{Card, Call, on, pick, at}
use Rattle.paper.specs.declared.Refusal.{Refusal}
use Rattle.paper.specs.declared.Refusal.TheVariants.{BadChannel, BadKind, TooMany, NoRoom, BadField, BadSpecial, SpecialWaits, BadCts}
use Rattle.paper.specs.declared.Answer.{Answer}
use Rattle.paper.specs.declared.Answer.TheVariants.{Refused}
use Rattle.demands.specs.History.{is_refused}

-- A row of the table: a refusal, and when it is due
pub record Condition : Type 1 where
  pub refusal : Refusal
  pub when : Type 0

abbrev pub due : Refusal → Type 0 → Condition
due r p = record { refusal = r; when = p }

abbrev pub field_condition : Test → Condition
field_condition t = due (BadField t.field) (t.bad ≡ true)

abbrev pub transmit_conditions : Transmitter → TransmitCall → List Condition
transmit_conditions t (load l) = []
transmit_conditions t turn = []
transmit_conditions t (set_cts v) = due BadCts (1 < v) ∷ []
transmit_conditions t (ask_special s) = due BadSpecial ((s < 1) ⊎ (4 < s)) ∷ due SpecialWaits (t.special ≢ none) ∷ []

abbrev pub channel_conditions : {A : Type 0} → Size → Channel A → ChannelCall → List Condition
channel_conditions z h (arrive kind b) = due BadKind (3 < kind) ∷ []
channel_conditions z h (read n place buffer) =
    due TooMany (z.most < n) ∷ due NoRoom ((length buffer < place + 3 * n) ⊎ (length buffer < place)) ∷ []
channel_conditions z h (take_settings l) = due (BadField 0) (length l ≢ 15) ∷ map field_condition (tests z.most (settings_of l))
channel_conditions z h reset = []
channel_conditions z h state = []
channel_conditions z h (transmit c) = transmit_conditions h.transmitter c

abbrev pub conditions : {A : Type 0} → Size → Card A → Call → List Condition
conditions z K (on n c) = due BadChannel (3 < n) ∷ channel_conditions z (at K n) c
conditions z K pick = []

-- the answer is the refusal of the first row that is due; and no refusal, where none is
pub data FirstDue : List Condition → Answer → Type 1 where
  served : {a : Answer} → is_refused a ≡ false → FirstDue [] a
  here : {c : Condition} {cs : List Condition} → c.when → FirstDue (c ∷ cs) (Refused c.refusal)
  later : {c : Condition} {cs : List Condition} {a : Answer} → ¬ c.when → FirstDue cs a → FirstDue (c ∷ cs) a
