-- What a root has of includes, and of what its constituents wrote, as the disk machine's naming half has it.
use Rattle.std.specs.Prelude.{◌≡◌, ℕ, true, ◌∷◌, Some, option_map, Contains}
use Rattle.arj_protocol.specs.Words.{Uid, ObjectState, is_on, last_uid, object}
use Rattle.arj_protocol.specs.Commit as commit
use Rattle.arj_protocol.specs.Commit.{changed_of}
use Rattle.arj_protocol.specs.Coord.{Coord, Joined, Root, joined_with, loaded_for}
use Rattle.arj_protocol.specs.Ending.{states_after}
use Rattle.arj_protocol.specs.Order.{at_number, uid_number}
use Rattle.arj_law_disk.specs.machine.Effects.{done_of}
use Rattle.arj_law_disk.specs.machine.Names as machine
use Rattle.arj_law_disk.specs.machine.Names.{Names, load_of, written_in}
use Rattle.arj_law_disk.specs.machine.State.{State, Packed}
use Rattle.arj_law_disk.specs.machine.Words.{In}
use Rattle.arj_law_disk_view.specs.view.Pairs.{Among, packed}
use Rattle.arj_law_disk_view.specs.view.Sees.{Kinds}
use Rattle.arj_law_disk_view.specs.names.Lists.{IsTopOf}

-- a store answered the load of this state, for a grant that the top took
pub record HasLoad (N : Names) (t : ℕ) (g : Packed) : Type 0 where
  pub inc : ℕ
  pub answered : In (machine.Loaded t inc g) N.answers
  pub had : N.had t inc ≡ true

-- the state that a root keeps is the last one that its decided constituents wrote
abbrev pub KeepsState : ℕ → Uid → Root → State → Type 0
KeepsState x root r S = option_map packed (at_number x r.states) ≡ written_in S.root (uid_number root) S.tops

-- each include that was answered brought a state that was loaded for its top
abbrev pub HaveLoads : ℕ → Kinds → Uid → Root → Names → Type 0
HaveLoads x tops root r N = (j : Joined) (t : Uid) → Contains r.joined j → j.x ≡ x → is_on j.path t ≡ true → IsTopOf tops root t →
    HasLoad N (uid_number t) (packed j.loaded)

-- an include is answered
abbrev pub LoadsAreHeard : Type 0
LoadsAreHeard = (x : ℕ) (tops : Kinds) (root : Uid) (r q : Root) (j : Joined) (N : Names) → HaveLoads x tops root r N →
    q.joined ≡ joined_with j r.joined → ((i : Joined) → Contains r.joined i → last_uid i.path ≡ last_uid j.path → i.path ≡ j.path)
    → (j.x ≡ x → (t : Uid) → is_on j.path t ≡ true → IsTopOf tops root t → HasLoad N (uid_number t) (packed j.loaded)) →
    HaveLoads x tops root q N

-- What a commit of a top sends to the stores that it includes was loaded for it, or is what its root has newer.
pub record HasLoaded (S : State) (N : Names) (t : ℕ) (st : ObjectState) : Type 0 where
  pub state : Packed
  pub load : HasLoad N t state
  pub newest : packed st ≡ load_of S t state

-- so the state that included stores are sent was loaded for the top
abbrev pub CommitsHaveLoads : Type 0
CommitsHaveLoads = (x : ℕ) (tops : Kinds) (root t : Uid) (c : Coord) (r : Root) (S : State) (N : Names) (st : ObjectState) →
    HaveLoads x tops root r N → KeepsState x root r S → S.root (uid_number t) ≡ uid_number root → IsTopOf tops root t
    → loaded_for x t r c ≡ Some st → HasLoaded S N (uid_number t) st

-- A decision of a top changes of an object one state, as its plan says.
pub record ChangesOne (x : ℕ) (t : Uid) (p : commit.Plan) (S : State) : Type 0 where
  pub writes : (let q = S.plan (uid_number t) in q.writes) ≡ option_map packed (changed_of x p)
  pub objects : (s : ObjectState) → Among s p.changed → s.uid ≡ object (let u = s.uid in u.num)
  pub once : (s : ObjectState) → Among s p.changed → s.uid ≡ object x → changed_of x p ≡ Some s

-- and the root keeps it as the newest one
abbrev pub DecisionsKeepStates : Type 0
DecisionsKeepStates = (x : ℕ) (root t : Uid) (p : commit.Plan) (r q : Root) (S V : State) → KeepsState x root r S →
    q.states ≡ states_after p.changed r.states → V.root ≡ S.root → V.tops ≡ done_of S (uid_number t) ∷ S.tops
    → S.root (uid_number t) ≡ uid_number root → ChangesOne x t p S → KeepsState x root q V
