-- The steps of calls as they start, go on and end.
use Rattle.std.specs.Prelude.{◌≡◌, ℕ, ◌<◌, Bool, true, false, ⊤}
use Rattle.arj_asking.specs.declared.calls.Caller.{Caller}
use Rattle.arj_bind.specs.Heard.{Came, Onward, Ended, Foreign}
use Rattle.arj_bind.specs.Shown.{goal_of}
use Rattle.arj_commit.specs.Fits.{IsNode}
use Rattle.arj_coord.specs.Fits.{IncludesNode}
use Rattle.arj_protocol.specs.Ask.{Reply}
use Rattle.arj_protocol.specs.Asking.{renewed, store_of}
use Rattle.arj_protocol.specs.Call.{Steps, CallEnd, Answered, Included}
use Rattle.arj_protocol.specs.Coord.{Coord, Keeping, Root, keeping_of, root_at, with_said, with_join}
use Rattle.arj_protocol.specs.Tree.{root_of, doomed_at}
use Rattle.arj_protocol.specs.Words.{Uid, Path, uids_of}
use Rattle.arj_protocol.specs.Words.loaded

-- what a root keeps of an object where a call starts
abbrev pub renewed_at : Bool → Path → ℕ → Coord → Keeping
renewed_at free p x c = let old = keeping_of x (root_at (root_of p) c) in renewed free old old.kept

-- the caller is that of the steps
pub record IsCaller (w : Caller) (s : Steps) : Type 0 where
  pub path : w.path ≡ s.path
  pub object : w.x ≡ s.x
  pub goal : goal_of w.goal ≡ s.goal

-- a request number is left
abbrev pub HasNext : Steps → Type 0
HasNext s = s.req < 4294967295

-- an include ends with a state of its object, at a store that is a node
abbrev pub EndFits : ℕ → ℕ → CallEnd → Type 0
EndFits x store (Included st) = IsNode store × (st.uid.num ≡ x)
EndFits x store _ = ⊤

-- a call or an include that goes on or ends so
abbrev pub StepFits : Caller → Came → Type 0
StepFits w (Onward s) = IncludesNode s.goal
StepFits w (Ended e) = EndFits w.x (store_of (goal_of w.goal)) e
StepFits w (Foreign s) = ⊤

-- what a root takes note of where a call or an include ends
abbrev pub noted_end : Path → ℕ → ℕ → CallEnd → Root → Root
noted_end p x store (Answered a) r = with_said (record { path = uids_of p; x = x }) r
noted_end p x store (Included st) r = with_join (record { path = uids_of p; x = x; store = store; loaded = st }) r
noted_end p x store _ r = r

-- an action that may have been served can only abort
abbrev pub doomed_if : Bool → Uid → Coord → Coord
doomed_if true u c = record c { tree = doomed_at u c.tree }
doomed_if false u c = c

-- a state that was loaded is of the object
abbrev pub MeantFor : ℕ → Reply → Type 0
MeantFor x (Reply.Loaded (loaded.State st)) = st.uid.num ≡ x
MeantFor x _ = ⊤
