-- What of a coordinator stays as it is where a call or a commit goes on, and of which nodes and action a commit's step is.
use Rattle.arj_law_parts.proofs.Words
use Words.{◌≡◌, ◌≤◌, ◌+◌, ℕ, true, false, List, [], ◌∷◌, refl, arith, ⊤, Option, Some, None, Ask, Path, Uid, actor, Coord, Plan}
use Words.{CommitStep, Stays, Asks, Decides, Aborts, CallEnd, Known, asks_all, asks_node, doomed_by, left_of, marks_store, marks_stores}
use Words.calls
use Rattle.arj_law_parts.proofs.parts.Numbered.{AreUp}
use Rattle.arj_law_cause.proofs.leading.Loads.{steps_left}

pub same_doings : (u : Uid) (e : CallEnd) (c : Coord) → (doomed_by u e c).doings ≡ c.doings
same_doings u (calls.Lost i true) c = refl
same_doings u (calls.Lost i false) c = refl
same_doings u (calls.Answered a) c = refl
same_doings u (calls.Included st) c = refl
same_doings u (calls.Conflict h m i) c = refl
same_doings u (calls.Changed i w) c = refl

-- what a step asks, or tells, is of nodes in order
abbrev pub UpStep : CommitStep → Type 0
UpStep (Stays m) = ⊤
UpStep (Asks m) = AreUp (left_of m)
UpStep (Decides p) = AreUp p.sent
UpStep (Aborts why p) = ⊤

-- and is of this action
abbrev pub OwnStep : Uid → CommitStep → Type 0
OwnStep u (Decides p) = actor p.path ≡ u
OwnStep u s = ⊤

pub asked_doings : (p : Path) (req : ℕ) (all : List (ℕ × Ask)) (c : Coord) → (asks_all p req all c).part.doings ≡ c.doings
asked_doings p req [] c = refl
asked_doings p req (a ∷ rest) c = asked_doings p req rest (asks_node p req a c).part

pub marked_sent : (ns : List ℕ) (p : Plan) → (marks_stores ns p).sent ≡ p.sent
marked_sent [] p = refl
marked_sent (i ∷ ns) p = marked_sent ns (marks_store i p)

pub marked_path : (ns : List ℕ) (p : Plan) → (marks_stores ns p).path ≡ p.path
marked_path [] p = refl
marked_path (i ∷ ns) p = marked_path ns (marks_store i p)

pub start_left : (o : Option Known) (avoid : Words.Binding) → 2 + steps_left (Words.start_at o avoid) ≤ 10
start_left None avoid = omega arith
start_left (Some known) avoid = omega arith
