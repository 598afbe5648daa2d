-- The words that stand in journal lines.
use Rattle.std.specs.Prelude.{ℕ, List, codes, Bool, true, false}
use Rattle.arj_journal.specs.declared.body.FrameKind.{FrameKind}
use Rattle.arj_journal.specs.declared.body.FrameKind.TheVariants as frame
use Rattle.arj_journal.specs.declared.body.Kind.{Kind}
use Rattle.arj_journal.specs.declared.body.Kind.TheVariants as kind
use Rattle.arj_journal.specs.declared.body.Part.{Part}
use Rattle.arj_journal.specs.declared.body.Part.TheVariants as part
use Rattle.arj_journal.specs.declared.body.Role.{Role}
use Rattle.arj_journal.specs.declared.body.Role.TheVariants as role
use Rattle.arj_journal.specs.declared.body.Which.{Which}
use Rattle.arj_journal.specs.declared.body.Which.TheVariants as which
use Rattle.arj_journal.specs.declared.line_kind.CauseKind.{CauseKind}
use Rattle.arj_journal.specs.declared.line_kind.CauseKind.TheVariants as cause
use Rattle.arj_journal.specs.declared.line_kind.DifferenceKind.{DifferenceKind}
use Rattle.arj_journal.specs.declared.line_kind.DifferenceKind.TheVariants as difference
use Rattle.arj_journal.specs.declared.line_kind.LineKind.{LineKind}
use Rattle.arj_journal.specs.declared.line_kind.LineKind.TheVariants as line

-- the first word of a line
abbrev pub line_word : LineKind → List ℕ
line_word line.Began = codes "began"
line_word line.Ok = codes "ok"
line_word line.Includes = codes "includes"
line_word line.Conflict = codes "conflict"
line_word line.Lost = codes "lost"
line_word line.Changed = codes "changed"
line_word line.Committing = codes "committing"
line_word line.Committed = codes "committed"
line_word line.Ended = codes "ended"
line_word line.Aborted = codes "aborted"
line_word line.GaveUp = codes "gaveup"
line_word line.Excluded = codes "excluded"
line_word line.Granted = codes "granted"
line_word line.Lowered = codes "lowered"
line_word line.Bound = codes "bound"
line_word line.Active = codes "active"
line_word line.Told = codes "told"
line_word line.Prepared = codes "prepared"
line_word line.Done = codes "done"
line_word line.Sent = codes "sent"
line_word line.Got = codes "got"
line_word line.Void = codes "void"
line_word line.Dropped = codes "dropped"
line_word line.Halted = codes "halted"
line_word line.Up = codes "up"
line_word line.Armed = codes "armed"
line_word line.Recovered = codes "recovered"
line_word line.Refused = codes "refused"
line_word line.Entry = codes "entry"
line_word line.Copy = codes "copy"
line_word line.Quiet = codes "quiet"
line_word line.Bad = codes "bad"
line_word line.Limit = codes "limit"

-- the first word of why an action aborted
abbrev pub cause_word : CauseKind → List ℕ
cause_word cause.Asked = codes "asked"
cause_word cause.Doomed = codes "doomed"
cause_word cause.Lost = codes "lost"
cause_word cause.Conflict = codes "conflict"
cause_word cause.Changed = codes "changed"
cause_word cause.Old = codes "old"
cause_word cause.NoStores = codes "nostores"
cause_word cause.Listed = codes "listed"

-- the first word of a difference
abbrev pub difference_word : DifferenceKind → List ℕ
difference_word difference.Inc = codes "inc"
difference_word difference.Bind = codes "bind"

-- the kinds of action
abbrev pub kind_text : Kind → List ℕ
kind_text kind.Top = codes "top"
kind_text kind.Nested = codes "nested"
kind_text kind.Independent = codes "independent"
kind_text kind.Serial = codes "serial"
kind_text kind.Constituent = codes "constituent"

-- the parts of a node that apply ends
abbrev pub part_text : Part → List ℕ
part_text part.Naming = codes "naming"
part_text part.Server = codes "server"

-- the roles of a store
abbrev pub role_text : Role → List ℕ
role_text role.Store = codes "store"
role_text role.Names = codes "names"

-- the limits that end a run
abbrev pub which_text : Which → List ℕ
which_text which.Lines = codes "lines"
which_text which.Labels = codes "labels"
which_text which.Frames = codes "frames"

-- what a frame carries
abbrev pub frame_text : FrameKind → List ℕ
frame_text frame.Bind = codes "bind"
frame_text frame.Bound = codes "bound"
frame_text frame.Load = codes "load"
frame_text frame.Loaded = codes "loaded"
frame_text frame.Activate = codes "activate"
frame_text frame.Activated = codes "activated"
frame_text frame.Record = codes "record"
frame_text frame.Recorded = codes "recorded"
frame_text frame.Invoke = codes "invoke"
frame_text frame.Invoked = codes "invoked"
frame_text frame.Vote = codes "vote"
frame_text frame.Voted = codes "voted"
frame_text frame.Prepare = codes "prepare"
frame_text frame.Prepared = codes "prepared"
frame_text frame.Confirm = codes "confirm"
frame_text frame.Confirmed = codes "confirmed"
frame_text frame.Told = codes "told"
frame_text frame.Acked = codes "acked"
frame_text frame.Query = codes "query"
frame_text frame.Hello = codes "hello"
frame_text frame.Junk = codes "junk"

-- how a quiesce ended
abbrev pub yes_text : Bool → List ℕ
yes_text true = codes "yes"
yes_text false = codes "no"
