-- The words of which a piece of a line may be one: all of each kind, and that each has a word of its own.
use Rattle.std.specs.Prelude.{◌≡◌, ℕ, List, [], ◌∷◌, find, Some, refl}
use Rattle.std.specs.Str.{bytes_eq}
use Rattle.arj_base.specs.declared.mode.Mode.{Mode}
use Rattle.arj_base.specs.declared.mode.Mode.TheVariants as mode
use Rattle.arj_base.specs.declared.mode.End.{End}
use Rattle.arj_base.specs.declared.mode.End.TheVariants as ending
use Rattle.arj_journal.specs.declared.body.Kind.{Kind}
use Rattle.arj_journal.specs.declared.body.Kind.TheVariants as kind
use Rattle.arj_journal.specs.declared.body.Part.{Part}
use Rattle.arj_journal.specs.declared.body.Part.TheVariants as part
use Rattle.arj_journal.specs.declared.body.Role.{Role}
use Rattle.arj_journal.specs.declared.body.Role.TheVariants as role
use Rattle.arj_journal.specs.declared.body.FrameKind.{FrameKind}
use Rattle.arj_journal.specs.declared.body.FrameKind.TheVariants as frame
use Rattle.arj_journal.specs.declared.body.Which.{Which}
use Rattle.arj_journal.specs.declared.body.Which.TheVariants as which
use Rattle.arj_journal.specs.declared.line_kind.LineKind.{LineKind}
use Rattle.arj_journal.specs.declared.line_kind.LineKind.TheVariants as line
use Rattle.arj_journal.specs.declared.line_kind.CauseKind.{CauseKind}
use Rattle.arj_journal.specs.declared.line_kind.CauseKind.TheVariants as cause
use Rattle.arj_journal.specs.declared.line_kind.DifferenceKind.{DifferenceKind}
use Rattle.arj_journal.specs.declared.line_kind.DifferenceKind.TheVariants as difference
use Rattle.arj_journal.specs.LineWords.{cause_word, difference_word, frame_text, kind_text, line_word, part_text, role_text, which_text}
use Rattle.arj_text.specs.Words.{mode_text, end_text}

-- Each of them is found by its word.
abbrev pub IsKnown : {K : Type 0} → (K → List ℕ) → List K → Type 0
IsKnown {K} word every = (k : K) → find (λ j. bytes_eq (word j) (word k)) every ≡ Some k

-- the kinds of actions
abbrev pub kinds : List Kind
kinds = kind.Top ∷ kind.Nested ∷ kind.Independent ∷ kind.Serial ∷ kind.Constituent ∷ []

-- each kind of action has a word of its own
pub known_kinds : IsKnown kind_text kinds
known_kinds kind.Top = refl
known_kinds kind.Nested = refl
known_kinds kind.Independent = refl
known_kinds kind.Serial = refl
known_kinds kind.Constituent = refl

-- the parts of a node
abbrev pub parts : List Part
parts = part.Naming ∷ part.Server ∷ []

-- each part of a node has a word of its own
pub known_parts : IsKnown part_text parts
known_parts part.Naming = refl
known_parts part.Server = refl

-- the roles of stores
abbrev pub roles : List Role
roles = role.Store ∷ role.Names ∷ []

-- each role has a word of its own
pub known_roles : IsKnown role_text roles
known_roles role.Store = refl
known_roles role.Names = refl

-- the kinds of frames
abbrev pub frame_kinds : List FrameKind
frame_kinds =
    frame.Bind ∷ frame.Bound ∷ frame.Load ∷ frame.Loaded ∷ frame.Activate ∷ frame.Activated ∷ frame.Record ∷ frame.Recorded ∷ frame.Invoke ∷ frame.Invoked ∷ frame.Vote ∷ frame.Voted ∷ frame.Prepare ∷ frame.Prepared ∷ frame.Confirm ∷ frame.Confirmed ∷ frame.Told ∷ frame.Acked ∷ frame.Query ∷ frame.Hello ∷ frame.Junk ∷ []

-- each kind of frame has a word of its own
pub known_frame_kinds : IsKnown frame_text frame_kinds
known_frame_kinds frame.Bind = refl
known_frame_kinds frame.Bound = refl
known_frame_kinds frame.Load = refl
known_frame_kinds frame.Loaded = refl
known_frame_kinds frame.Activate = refl
known_frame_kinds frame.Activated = refl
known_frame_kinds frame.Record = refl
known_frame_kinds frame.Recorded = refl
known_frame_kinds frame.Invoke = refl
known_frame_kinds frame.Invoked = refl
known_frame_kinds frame.Vote = refl
known_frame_kinds frame.Voted = refl
known_frame_kinds frame.Prepare = refl
known_frame_kinds frame.Prepared = refl
known_frame_kinds frame.Confirm = refl
known_frame_kinds frame.Confirmed = refl
known_frame_kinds frame.Told = refl
known_frame_kinds frame.Acked = refl
known_frame_kinds frame.Query = refl
known_frame_kinds frame.Hello = refl
known_frame_kinds frame.Junk = refl

-- the limits of a run
abbrev pub limits : List Which
limits = which.Lines ∷ which.Labels ∷ which.Frames ∷ []

-- each limit has a word of its own
pub known_limits : IsKnown which_text limits
known_limits which.Lines = refl
known_limits which.Labels = refl
known_limits which.Frames = refl

-- the causes of an abort
abbrev pub cause_kinds : List CauseKind
cause_kinds = cause.Asked ∷ cause.Doomed ∷ cause.Lost ∷ cause.Conflict ∷ cause.Changed ∷ cause.Old ∷ cause.NoStores ∷ cause.Listed ∷ []

-- each cause has a word of its own
pub known_cause_kinds : IsKnown cause_word cause_kinds
known_cause_kinds cause.Asked = refl
known_cause_kinds cause.Doomed = refl
known_cause_kinds cause.Lost = refl
known_cause_kinds cause.Conflict = refl
known_cause_kinds cause.Changed = refl
known_cause_kinds cause.Old = refl
known_cause_kinds cause.NoStores = refl
known_cause_kinds cause.Listed = refl

-- what may differ
abbrev pub difference_kinds : List DifferenceKind
difference_kinds = difference.Inc ∷ difference.Bind ∷ []

-- each difference has a word of its own
pub known_difference_kinds : IsKnown difference_word difference_kinds
known_difference_kinds difference.Inc = refl
known_difference_kinds difference.Bind = refl

-- the modes of locks
abbrev pub modes : List Mode
modes = mode.Read ∷ mode.Exclude ∷ mode.Write ∷ []

-- each mode has a word of its own
pub known_modes : IsKnown mode_text modes
known_modes mode.Read = refl
known_modes mode.Exclude = refl
known_modes mode.Write = refl

-- how actions end
abbrev pub ends : List End
ends = ending.Abort ∷ ending.Commit ∷ []

-- each end has a word of its own
pub known_ends : IsKnown end_text ends
known_ends ending.Abort = refl
known_ends ending.Commit = refl

-- the kinds of lines
abbrev pub line_kinds : List LineKind
line_kinds = line.Began ∷ line.Ok ∷ line.Includes ∷ line.Conflict ∷ line.Lost ∷ line.Changed ∷ line.Committing ∷ line.Committed ∷ line.Ended ∷ line.Aborted ∷ line.GaveUp ∷ line.Excluded ∷ line.Granted ∷ line.Lowered ∷ line.Bound ∷ line.Active ∷ line.Told ∷ line.Prepared ∷ line.Done ∷ line.Sent ∷ line.Got ∷ line.Void ∷ line.Dropped ∷ line.Halted ∷ line.Up ∷ line.Armed ∷ line.Recovered ∷ line.Refused ∷ line.Entry ∷ line.Copy ∷ line.Quiet ∷ line.Bad ∷ line.Limit ∷ []

-- each kind of line has a word of its own
pub known_line_kinds : IsKnown line_word line_kinds
known_line_kinds line.Began = refl
known_line_kinds line.Ok = refl
known_line_kinds line.Includes = refl
known_line_kinds line.Conflict = refl
known_line_kinds line.Lost = refl
known_line_kinds line.Changed = refl
known_line_kinds line.Committing = refl
known_line_kinds line.Committed = refl
known_line_kinds line.Ended = refl
known_line_kinds line.Aborted = refl
known_line_kinds line.GaveUp = refl
known_line_kinds line.Excluded = refl
known_line_kinds line.Granted = refl
known_line_kinds line.Lowered = refl
known_line_kinds line.Bound = refl
known_line_kinds line.Active = refl
known_line_kinds line.Told = refl
known_line_kinds line.Prepared = refl
known_line_kinds line.Done = refl
known_line_kinds line.Sent = refl
known_line_kinds line.Got = refl
known_line_kinds line.Void = refl
known_line_kinds line.Dropped = refl
known_line_kinds line.Halted = refl
known_line_kinds line.Up = refl
known_line_kinds line.Armed = refl
known_line_kinds line.Recovered = refl
known_line_kinds line.Refused = refl
known_line_kinds line.Entry = refl
known_line_kinds line.Copy = refl
known_line_kinds line.Quiet = refl
known_line_kinds line.Bad = refl
known_line_kinds line.Limit = refl
