-- The events by what they are about, and the parts of their texts.
use Rattle.std.specs.Prelude.{◌≡◌, ℕ, List, ◌++◌, codes, Bool, true, false}
use Rattle.std.specs.Fmt.{decimal}
use Rattle.arj_journal.specs.declared.event.Event.{Event}
use Rattle.arj_journal.specs.declared.event.Event.TheVariants as event
use Rattle.arj_text.specs.declared.label.Label.{Label}
use Rattle.arj_class.specs.declared.op.Op.{Op}
use Rattle.arj_journal.specs.declared.event.StopKind.{StopKind}
use Rattle.arj_journal.specs.declared.limits.TheConstants.{STOP_CALLS}
use Rattle.arj_journal.specs.ScriptForm.{EventInForm, StopKindInForm}
use Rattle.arj_journal.specs.ScriptText.{event_text}
use Rattle.arj_text.specs.Fields.{AreBytes, IsWithin, ShortInForm, OpTextInForm, WordInForm}
use Rattle.arj_text.specs.Label.{LabelInForm, name}

-- actions begin
abbrev pub is_beginning : Event → Bool
is_beginning (event.Begin l n) = true
is_beginning (event.BeginIn l p) = true
is_beginning (event.Top l p) = true
is_beginning (event.Serial l n) = true
is_beginning _ = false

-- actions work and end
abbrev pub is_working : Event → Bool
is_working (event.Call l x op) = true
is_working (event.Include l x n) = true
is_working (event.Commit l) = true
is_working (event.Abort l) = true
is_working (event.GiveUp l) = true
is_working _ = false

-- frames and time go on
abbrev pub is_passing : Event → Bool
is_passing (event.Deliver k) = true
is_passing (event.Lose k) = true
is_passing (event.Tick n) = true
is_passing event.Settle = true
is_passing event.Quiesce = true
is_passing _ = false

-- nodes stop and start, and what is asked of them from outside
abbrev pub is_outside : Event → Bool
is_outside (event.Crash n) = true
is_outside (event.Restart n) = true
is_outside (event.Stop n calls kind) = true
is_outside (event.Junk n bytes) = true
is_outside (event.Show x) = true
is_outside _ = false

-- such an event, in form
abbrev pub IsBeginning : Event → Type 0
IsBeginning e = EventInForm e × (is_beginning e ≡ true)

-- such an event, in form
abbrev pub IsWorking : Event → Type 0
IsWorking e = EventInForm e × (is_working e ≡ true)

-- such an event, in form
abbrev pub IsPassing : Event → Type 0
IsPassing e = EventInForm e × (is_passing e ≡ true)

-- such an event, in form
abbrev pub IsOutside : Event → Type 0
IsOutside e = EventInForm e × (is_outside e ≡ true)

-- a label and a node in form
abbrev pub LabelAtInForm : Label × ℕ → Type 0
LabelAtInForm p = LabelInForm p.0 × WordInForm p.1

-- a label, ` at ` and a node
abbrev pub label_at_text : List ℕ → Label × ℕ → List ℕ
label_at_text front p = front ++ (name p.0 ++ (codes " at " ++ decimal p.1))

-- two labels in form
abbrev pub LabelInLabel : Label × Label → Type 0
LabelInLabel p = LabelInForm p.0 × LabelInForm p.1

-- a label, ` in ` and another
abbrev pub label_in_text : List ℕ → Label × Label → List ℕ
label_in_text front p = front ++ (name p.0 ++ (codes " in " ++ name p.1))

-- what a call says is in form
abbrev pub CallInForm : Label × ℕ × Op → Type 0
CallInForm p = LabelInForm p.0 × ShortInForm p.1 × OpTextInForm p.2

-- the text of a call
abbrev pub call_text : Label × ℕ × Op → List ℕ
call_text p = event_text (event.Call p.0 p.1 p.2)

-- what an include says is in form
abbrev pub IncludeInForm : Label × ℕ × ℕ → Type 0
IncludeInForm p = LabelInForm p.0 × ShortInForm p.1 × WordInForm p.2

-- the text of an include
abbrev pub include_text : Label × ℕ × ℕ → List ℕ
include_text p = event_text (event.Include p.0 p.1 p.2)

-- what a stop says is in form
abbrev pub StopInForm : ℕ × ℕ × StopKind → Type 0
StopInForm p = WordInForm p.0 × IsWithin 1 STOP_CALLS p.1 × StopKindInForm p.2

-- the text of a stop
abbrev pub stop_text : ℕ × ℕ × StopKind → List ℕ
stop_text p = event_text (event.Stop p.0 p.1 p.2)

-- what a junk frame says is in form
abbrev pub JunkInForm : ℕ × List ℕ → Type 0
JunkInForm p = WordInForm p.0 × AreBytes p.1

-- the text of a junk frame
abbrev pub junk_text : ℕ × List ℕ → List ℕ
junk_text p = event_text (event.Junk p.0 p.1)
