-- The kinds of line: what stands behind the first word of each, and the line that is made of it.
use Rattle.std.specs.Prelude.{◌≡◌, ◌==◌, ◌++◌, codes, ⊤, Bool, true, false}
use Rattle.std.specs.Fmt.{decimal}
use Rattle.arj_base.specs.declared.binding.Binding.{Binding}
use Rattle.arj_base.specs.declared.mode.Mode.{Mode}
use Rattle.arj_base.specs.declared.mode.End.{End}
use Rattle.arj_base.specs.declared.uid.Uid.{Uid}
use Rattle.arj_base.specs.Uid.{UidFits, binding_text, uid_text}
use Rattle.arj_journal.specs.declared.body.Body.{Body}
use Rattle.arj_journal.specs.declared.body.Body.TheVariants as body
use Rattle.arj_journal.specs.declared.body.Cause.{Cause}
use Rattle.arj_journal.specs.declared.body.Cause.TheVariants as cause
use Rattle.arj_journal.specs.declared.body.Difference.{Difference}
use Rattle.arj_journal.specs.declared.body.Difference.TheVariants as difference
use Rattle.arj_journal.specs.declared.body.FrameKind.{FrameKind}
use Rattle.arj_journal.specs.declared.body.Kind.{Kind}
use Rattle.arj_journal.specs.declared.body.Part.{Part}
use Rattle.arj_journal.specs.declared.body.Role.{Role}
use Rattle.arj_journal.specs.declared.body.Which.{Which}
use Rattle.arj_journal.specs.declared.line_kind.CauseKind.{CauseKind}
use Rattle.arj_journal.specs.declared.line_kind.CauseKind.TheVariants as cause_kind
use Rattle.arj_journal.specs.declared.line_kind.DifferenceKind.{DifferenceKind}
use Rattle.arj_journal.specs.declared.line_kind.DifferenceKind.TheVariants as difference_kind
use Rattle.arj_text.specs.declared.label.Label.{Label}
use Rattle.arj_journal.specs.declared.line_kind.LineKind.{LineKind}
use Rattle.arj_journal.specs.declared.line_kind.LineKind.TheVariants as line
use Rattle.arj_journal_reader.specs.declared.call.Call.{Call}
use Rattle.arj_journal_reader.specs.declared.pieces.Hex.{Hex}
use Rattle.arj_journal_reader.specs.declared.pieces.Node.{Node}
use Rattle.arj_journal_reader.specs.declared.pieces.Nodes.{Nodes}
use Rattle.arj_journal_reader.specs.declared.pieces.Object.{Object}
use Rattle.arj_journal_reader.specs.declared.pieces.Parent.{Parent}
use Rattle.arj_journal_reader.specs.declared.pieces.Refusal.{Refusal}
use Rattle.arj_journal_reader.specs.declared.pieces.Sender.{Sender}
use Rattle.arj_journal_reader.specs.declared.pieces.Version.{Version}
use Rattle.arj_journal_reader.specs.declared.pieces.Word.{Word}
use Rattle.arj_text.specs.Fields.{AreBytes, BindingInForm, IsAnswer, IsWithin, NodesInForm, NumberInForm, OpTextInForm, WordInForm}
use Rattle.arj_journal_reader.specs.Form.{Form, ◌▸◌, kept, Kinds}
use Rattle.arj_text.specs.Label.{LabelInForm, name}
use Rattle.arj_journal.specs.declared.limits.TheConstants.{NODES, REFUSALS, STORES}
use Rattle.arj_journal.specs.LineForm.{CauseInForm, DifferenceInForm, NodeInForm, ObjectInForm, ParentInForm, is_junk}
use Rattle.arj_journal.specs.LineText.{cause_text, difference_text, parent_text}
use Rattle.arj_journal.specs.LineWords.{cause_word, difference_word, frame_text, kind_text, line_word, part_text, role_text, which_text}
use Rattle.arj_journal.specs.LineWords.{yes_text}
use Rattle.arj_text.specs.Words.{end_text, hex, list_text, mode_text, op_text}

-- the pieces that are one word
abbrev pub node : Form
node = record { Value = Node; InForm = λ n. NodeInForm n.number; text = λ n. decimal n.number }

-- a node, or nobody
abbrev pub sender : Form
sender = record { Value = Sender; InForm = λ n. IsWithin 0 NODES n.number; text = λ n. decimal n.number }

-- the number of a refusal
abbrev pub refusal : Form
refusal = record { Value = Refusal; InForm = λ n. IsWithin 1 REFUSALS n.number; text = λ n. decimal n.number }

-- the number of an object
abbrev pub object : Form
object = record { Value = Object; InForm = λ n. ObjectInForm n.number; text = λ n. decimal n.number }

-- a count or number in a word
abbrev pub word : Form
word = record { Value = Word; InForm = λ n. WordInForm n.number; text = λ n. decimal n.number }

-- a version
abbrev pub version : Form
version = record { Value = Version; InForm = λ n. NumberInForm n.number; text = λ n. decimal n.number }

-- a label
abbrev pub label : Form
label = record { Value = Label; InForm = LabelInForm; text = name }

-- a label, or none
abbrev pub parent : Form
parent = record { Value = Parent; InForm = λ p. ParentInForm p.label; text = λ p. parent_text p.label }

-- a Uid
abbrev pub uid : Form
uid = record { Value = Uid; InForm = UidFits; text = uid_text }

-- a binding
abbrev pub binding : Form
binding = record { Value = Binding; InForm = BindingInForm; text = binding_text }

-- bytes as digits
abbrev pub hex_bytes : Form
hex_bytes = record { Value = Hex; InForm = λ h. AreBytes h.bytes; text = λ h. hex h.bytes }

-- a list of nodes
abbrev pub nodes : Form
nodes = record { Value = Nodes; InForm = λ ns. NodesInForm NODES STORES ns.list; text = λ ns. list_text ns.list }

-- the kind of an action
abbrev pub kind : Form
kind = record { Value = Kind; InForm = λ _. ⊤; text = kind_text }

-- a part of a node
abbrev pub part : Form
part = record { Value = Part; InForm = λ _. ⊤; text = part_text }

-- the role of a store
abbrev pub role : Form
role = record { Value = Role; InForm = λ _. ⊤; text = role_text }

-- the kind of a frame
abbrev pub frame : Form
frame = record { Value = FrameKind; InForm = λ _. ⊤; text = frame_text }

-- the limit that was met
abbrev pub which : Form
which = record { Value = Which; InForm = λ _. ⊤; text = which_text }

-- the mode of a lock
abbrev pub mode : Form
mode = record { Value = Mode; InForm = λ _. ⊤; text = mode_text }

-- how an action ended
abbrev pub ending : Form
ending = record { Value = End; InForm = λ _. ⊤; text = end_text }

-- yes or no
abbrev pub yes_no : Form
yes_no = record { Value = Bool; InForm = λ _. ⊤; text = yes_text }

-- What was had and what is there now.
abbrev pub difference_form : DifferenceKind → Form
difference_form difference_kind.Inc = word ▸ word
difference_form difference_kind.Bind = binding ▸ binding

-- the difference that is made of them
abbrev pub make_difference : (k : DifferenceKind) → (difference_form k).Value → Difference
make_difference difference_kind.Inc v = difference.Inc v.0.number v.1.number
make_difference difference_kind.Bind v = difference.Bind v.0 v.1

-- differences, by their kinds
abbrev pub differences : Kinds
differences = record { Kind = DifferenceKind; word = difference_word; form = difference_form; Whole = Difference; make = make_difference }

-- a difference, as a piece
abbrev pub difference_piece : Form
difference_piece = record { Value = Difference; InForm = DifferenceInForm; text = difference_text }

-- Why an action aborted. Two causes are one word, and say nothing more.
abbrev pub is_one_word : Cause → Bool
is_one_word cause.Asked = true
is_one_word cause.Doomed = true
is_one_word _ = false

-- a cause of one word
abbrev pub OneWordCause : Cause → Type 0
OneWordCause c = is_one_word c ≡ true

-- a cause in form of more words
abbrev pub WordedCause : Cause → Type 0
WordedCause c = CauseInForm c × (is_one_word c ≡ false)

-- nothing stands behind two of the words
abbrev pub nothing : Form
nothing = record { Value = ⊥; InForm = λ _. ⊤; text = λ v. absurd v }

-- what stands behind the first word of a cause
abbrev pub cause_form : CauseKind → Form
cause_form cause_kind.Asked = nothing
cause_form cause_kind.Doomed = nothing
cause_form cause_kind.Lost = node
cause_form cause_kind.Conflict = uid ▸ mode ▸ node
cause_form cause_kind.Changed = node ▸ difference_piece
cause_form cause_kind.Old = node ▸ object ▸ version
cause_form cause_kind.NoStores = object
cause_form cause_kind.Listed = object ▸ node

-- the cause that is made of it
abbrev pub make_cause : (k : CauseKind) → (cause_form k).Value → Cause
make_cause cause_kind.Asked v = cause.Asked
make_cause cause_kind.Doomed v = cause.Doomed
make_cause cause_kind.Lost v = cause.Lost v.number
make_cause cause_kind.Conflict v = cause.Conflict v.0 v.1.0 v.1.1.number
make_cause cause_kind.Changed v = cause.Changed v.0.number v.1
make_cause cause_kind.Old v = cause.Old v.0.number v.1.0.number v.1.1.number
make_cause cause_kind.NoStores v = cause.NoStores v.number
make_cause cause_kind.Listed v = cause.Listed v.0.number v.1.number

-- causes, by their kinds
abbrev pub causes : Kinds
causes = record { Kind = CauseKind; word = cause_word; form = cause_form; Whole = Cause; make = make_cause }

-- a cause, as a piece
abbrev pub cause_piece : Form
cause_piece = record { Value = Cause; InForm = CauseInForm; text = cause_text }

-- an operation, ` = `, and the text of its answer
abbrev pub call : Form
call = record {
  Value = Call;
  InForm = λ c. OpTextInForm c.op × IsAnswer c.op c.answer;
  text =
      λ c. op_text c.op ++ (codes " = " ++ c.answer);
}

-- The lines.
abbrev pub line_form : LineKind → Form
line_form line.Began = label ▸ kind ▸ uid ▸ parent
line_form line.Ok = label ▸ object ▸ call
line_form line.Includes = label ▸ object ▸ node
line_form line.Conflict = label ▸ uid ▸ mode ▸ node
line_form line.Lost = label ▸ node
line_form line.Changed = label ▸ node ▸ difference_piece
line_form line.Committing = label
line_form line.Committed = label
line_form line.Ended = label
line_form line.Aborted = label ▸ cause_piece
line_form line.GaveUp = label ▸ node
line_form line.Excluded = label ▸ object ▸ node
line_form line.Granted = node ▸ uid ▸ uid ▸ mode
line_form line.Lowered = node ▸ uid ▸ uid
line_form line.Bound = object ▸ binding ▸ node
line_form line.Active = node ▸ object ▸ binding
line_form line.Told = node ▸ uid ▸ ending ▸ part
line_form line.Prepared = node ▸ uid ▸ role
line_form line.Done = node ▸ uid ▸ role ▸ ending
line_form line.Sent = kept (word ▸ sender ▸ node ▸ frame) (λ v. (v.1.0.number == 0) ≡ is_junk v.1.1.1)
line_form line.Got = word
line_form line.Void = word
line_form line.Dropped = word
line_form line.Halted = node
line_form line.Up = node ▸ word
line_form line.Armed = node
line_form line.Recovered = node ▸ uid
line_form line.Refused = refusal
line_form line.Entry = object ▸ version ▸ nodes ▸ nodes
line_form line.Copy = node ▸ object ▸ version ▸ uid ▸ hex_bytes
line_form line.Quiet = yes_no
line_form line.Bad = word
line_form line.Limit = which

-- the line that is made of it
abbrev pub make_body : (k : LineKind) → (line_form k).Value → Body
make_body line.Began v = body.Began v.0 v.1.0 v.1.1.0 v.1.1.1.label
make_body line.Ok v = body.Ok v.0 v.1.0.number v.1.1.op v.1.1.answer
make_body line.Includes v = body.Includes v.0 v.1.0.number v.1.1.number
make_body line.Conflict v = body.Conflict v.0 v.1.0 v.1.1.0 v.1.1.1.number
make_body line.Lost v = body.Lost v.0 v.1.number
make_body line.Changed v = body.Changed v.0 v.1.0.number v.1.1
make_body line.Committing v = body.Committing v
make_body line.Committed v = body.Committed v
make_body line.Ended v = body.Ended v
make_body line.Aborted v = body.Aborted v.0 v.1
make_body line.GaveUp v = body.GaveUp v.0 v.1.number
make_body line.Excluded v = body.Excluded v.0 v.1.0.number v.1.1.number
make_body line.Granted v = body.Granted v.0.number v.1.0 v.1.1.0 v.1.1.1
make_body line.Lowered v = body.Lowered v.0.number v.1.0 v.1.1
make_body line.Bound v = body.Bound v.0.number v.1.0 v.1.1.number
make_body line.Active v = body.Active v.0.number v.1.0.number v.1.1
make_body line.Told v = body.Told v.0.number v.1.0 v.1.1.0 v.1.1.1
make_body line.Prepared v = body.Prepared v.0.number v.1.0 v.1.1
make_body line.Done v = body.Done v.0.number v.1.0 v.1.1.0 v.1.1.1
make_body line.Sent v = body.Sent v.0.number v.1.0.number v.1.1.0.number v.1.1.1
make_body line.Got v = body.Got v.number
make_body line.Void v = body.Void v.number
make_body line.Dropped v = body.Dropped v.number
make_body line.Halted v = body.Halted v.number
make_body line.Up v = body.Up v.0.number v.1.number
make_body line.Armed v = body.Armed v.number
make_body line.Recovered v = body.Recovered v.0.number v.1
make_body line.Refused v = body.Refused v.number
make_body line.Entry v = body.Entry v.0.number v.1.0.number v.1.1.0.list v.1.1.1.list
make_body line.Copy v = body.Copy v.0.number v.1.0.number v.1.1.0.number v.1.1.1.0 v.1.1.1.1.bytes
make_body line.Quiet v = body.Quiet v
make_body line.Bad v = body.Bad v.number
make_body line.Limit v = body.Limit v

-- lines, by their kinds
abbrev pub lines : Kinds
lines = record { Kind = LineKind; word = line_word; form = line_form; Whole = Body; make = make_body }
