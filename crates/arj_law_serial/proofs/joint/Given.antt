-- What a store gives to a call that waits for it, where both machines of the object stand in one run: by the disk machine it is the last
-- state, and so it is the last committed one by the lock machine.
use Rattle.arj_law_parts.proofs.Words.{◌≡◌, ℕ, true, List, Some, is_some, Header, ObjectState, object, held_at, Node, Seen}
use Rattle.arj_law_serial.proofs.Terms
use Terms.{HeaderFits, first_values, object_line, Action, Office, last, undecided, packed, Kinds, SeesBoth, AreGoodCounted, KnowsScript}
use Terms.{AreNotLate, IsKept, state_code, IsSeenIn, Fixed, case_of, AreVotedAt, KnowsWhole, BeginsSo, AgreesApart, AreSo, kind_of}
use Terms.{AreApart, OpsFit, ArePlannedSo, SeesRecorded, AreTurnsOf}
use Terms.state as lock
use Rattle.arj_law_lock.specs.machine.Steps.{LoadsTheLast}
use Rattle.arj_law_serial.specs.joint.Housed.{AreHoused}

-- The object in one state of a run, by both machines: the disk machine, which began as the header says, whose decisions are said, none of
-- them late, recorded, and ordered as commits were called; this state of the lock machine, with all that goes with it; what is known of the
-- protocol alone, with the nodes of all labels there; and values are told apart, and operations in form.
pub record AreBeside (hd : Header) (f : Fixed) (x : ℕ) (begun : List Action) (S : lock.State) (M : Seen) : Type 0 where
  pub tops : Kinds
  pub office : Office
  pub both : SeesBoth x tops office M
  pub carried : SeesRecorded x tops office M
  pub early : AreNotLate (let A = office in A.world) M
  pub begins : BeginsSo hd M.start.marks x (let W = office.world in W.disk)
  pub turns : AreTurnsOf M.lines (let W = office.world in let D = W.disk in D.tops)
  pub seen : IsSeenIn (case_of f x begun S) M
  pub agrees : AgreesApart (first_values hd) M.start.marks f x begun M.sent
  pub voted : AreVotedAt f x S M
  pub planned : ArePlannedSo f x S (let A = office in A.world) M
  pub whole : KnowsWhole x begun M
  pub known : (AreGoodCounted M × IsKept M) × KnowsScript M
  pub forms : AreSo (kind_of hd x) M
  pub apart : AreApart (let g = f in g.code)
  pub fit : OpsFit x M.lines
  pub housed : AreHoused M

-- What a store has is the last state by the disk machine, and there nobody who is confirmed is undecided; and a node is naming's.
pub record IsLastThere (x : ℕ) (A : Office) (M : Seen) (st : ObjectState) : Type 0 where
  pub store : ℕ
  pub node : Node
  pub there : M.nodes store ≡ Some node
  pub held : held_at (object x) (let n = node in let d = n.disk in d.store) ≡ Some st
  pub last_one : packed st ≡ last (let W = A.world in W.disk)
  pub settled : (z : ℕ) → (let W = A.world in let D = W.disk in D.conf z) ≡ true → undecided (let W = A.world in W.disk) z ≡ true → ⊥
  pub first : Node
  pub first_there : M.nodes 1 ≡ Some first

-- So a state of an object of the header is the last committed one by the lock machine, and nothing is in doubt.
abbrev pub LastThereIsLast : Type 0
LastThereIsLast = (hd : Header) (f : Fixed) (x : ℕ) (begun : List Action) (S : lock.State) (M : Seen) → HeaderFits hd →
    is_some (object_line hd x) ≡ true → (b : AreBeside hd f x begun S M) (st : ObjectState) → IsLastThere x (let k = b in k.office) M st
    → LoadsTheLast S (state_code f.act f.code st)
