-- Journals that leave what a run can begin with.
use Rattle.std.specs.Prelude.{◌≡◌, ◌≤◌, ◌<◌, ◌+◌, ℕ, false, List, length, Some}
use Rattle.std.specs.List.{AllByRecursion}
use Rattle.arj_base.specs.declared.uid.Uid.{Uid}
use Rattle.arj_journal.specs.LineForm.{LineInForm}
use Rattle.arj_journal.specs.ScriptForm.{HeaderInForm}
use Rattle.arj_journal.specs.declared.body.Line.{Line}
use Rattle.arj_journal.specs.declared.header.Header.{Header}
use Rattle.arj_journal.specs.declared.header.ObjectLine.{ObjectLine}
use Rattle.arj_journal.specs.declared.limits.TheConstants.{STORES}
use Rattle.arj_law.specs.Joined.{marks_after}
use Rattle.arj_model.specs.Actions.{Begun, begun_of}
use Rattle.arj_model.specs.Disks.{Disks}
use Rattle.arj_model.specs.Last.{listed}
use Rattle.arj_past.specs.Past.{HoldPast}
use Rattle.arj_promise.specs.Runs.{HeaderFits}
use Rattle.arj_promise.specs.Starts.{IsFormed}
use Rattle.arj_reading.specs.Readable.{Readable}
use Rattle.arj_start.specs.Start.{Start}
use Rattle.arj_text.specs.Fields.{NodesInForm}
use Rattle.arj_text.specs.declared.label.Label.{Label}
use Rattle.arj_law_calm.specs.Next.{next_header}

-- an action is of a node, and of an incarnation to which it has come, where it had so many before
abbrev pub HasBegun : (ℕ → ℕ) → Uid → Type 0
HasBegun incs u = (1 ≤ u.node) × (u.inc ≤ incs u.node + 1)

-- The journal of a header in form can be read as a run, in lines in form, of which there are few; each action that it says began is of a
-- node in an incarnation to which that has come; and nodes hold states of objects of the header that these had.
pub record Leaves (header : Header) (lines : List Line) (disks : Disks) (incs : ℕ → ℕ) : Type 0 where
  pub header_form : HeaderInForm header
  pub readable : Readable header lines
  pub form : AllByRecursion LineInForm lines
  pub few : length lines < 4294967296
  pub known : AllByRecursion (λ (l : Line). (b : Begun) → begun_of l.body ≡ Some b → HasBegun incs b.uid) lines
  pub low : (n : ℕ) → incs n < 4000000000
  pub past : HoldPast header lines disks

-- A start is one that the journal left: formed, with its marks, after these incarnations, with all nodes down, these labels given, and
-- these counts of events and of frames.
pub record IsLeft (header : Header) (lines : List Line) (incs : ℕ → ℕ) (given : List Label) (counts : ℕ × ℕ) (st : Start) : Type 0 where
  pub formed : IsFormed (next_header header lines) st
  pub marks : st.marks ≡ marks_after header lines
  pub before : (n : ℕ) → st.incs n ≡ incs n
  pub down : (n : ℕ) → st.up n ≡ false
  pub labels : st.given ≡ given
  pub events : st.events ≡ counts.0
  pub frames : st.frames ≡ counts.1

-- each leaves one, whichever labels were given, and whatever was counted
abbrev pub JournalsLeaveStarts : Type 0
JournalsLeaveStarts = (header : Header) (lines : List Line) (disks : Disks) (incs : ℕ → ℕ) (given : List Label) (counts : ℕ × ℕ) →
    Leaves header lines disks incs → (st : Start) × IsLeft header lines incs given counts st

-- and the header that goes on fits, where the stores that are listed for each object are nodes
abbrev pub HeadersFit : Type 0
HeadersFit = (header : Header) (lines : List Line) (disks : Disks) (incs : ℕ → ℕ) → Leaves header lines disks incs →
    AllByRecursion (λ (o : ObjectLine). NodesInForm header.nodes STORES (listed header lines o.x)) header.objects
    → HeaderFits (next_header header lines)
