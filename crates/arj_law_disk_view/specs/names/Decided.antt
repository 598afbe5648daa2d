-- The root of a top that is decided, as its coordinator has it afterwards.
use Rattle.std.specs.Prelude.{◌≡◌, ◌⊎◌, ◌==◌, ℕ, true, false, List, ◌∷◌, None, Some, Contains}
use Rattle.arj_protocol.specs.Words.{Uid, ObjectState, is_on, object}
use Rattle.arj_protocol.specs.Commit as commit
use Rattle.arj_protocol.specs.Call.{Known}
use Rattle.arj_protocol.specs.Coord.{Coord, Doing, Said, doing_of, kept_of, root_at, top_uses}
use Rattle.arj_protocol.specs.Ending.{decided}
use Rattle.arj_protocol.specs.Order.{uid_number}
use Rattle.arj_protocol.specs.Tree.{Branch, behind, branch_of, root_of}
use Rattle.arj_law_disk.specs.machine.Named.{Named}
use Rattle.arj_law_disk.specs.machine.Names.{Office}
use Rattle.arj_law_disk.specs.machine.State as disk
use Rattle.arj_law_disk_view.specs.view.Asking.{SeesConfirming}
use Rattle.arj_law_disk_view.specs.view.Pairs.{Among}
use Rattle.arj_law_disk_view.specs.view.Plans.{plan_at}
use Rattle.arj_law_disk_view.specs.view.Sees.{AreOneChange, IsFixed, Kinds}
use Rattle.arj_law_disk_view.specs.names.Both.{OnlyDecided, SeesRootOf, has_part}
use Rattle.arj_law_disk_view.specs.names.Handlers.{root_retains}
use Rattle.arj_law_disk_view.specs.names.Lists.{HasList, HasRetained, IsLasting, IsTopOf}
use Rattle.arj_start.specs.Kinds.{is_constituent}

-- the path begins with the root, and the top stands on it once at most
pub record GoesOnce (root t : Uid) (path : List Uid) : Type 0 where
  pub rest : List Uid
  pub headed : path ≡ root ∷ rest
  pub once : is_on (behind t path) t ≡ false

-- A top that its coordinator is to decide, by this plan: it is open, of this root, and a constituent exactly where that is a
-- serializing action; the plan changes of each object one state; and it has a part in the object only where a call or an include on
-- it survives in the top.
pub record DecidesTop (x : ℕ) (tops : Kinds) (root t : Uid) (p : commit.Plan) (c : Coord) : Type 0 where
  pub branch : Branch
  pub found : branch_of t c.tree ≡ Some branch
  pub unended : branch.ended ≡ None
  pub doing : Doing
  pub at_work : doing_of t c ≡ Some doing
  pub of_root : root_of p.path ≡ root
  pub top : IsTopOf tops root t
  pub own_root : tops.root (uid_number root) ≡ uid_number root
  pub kind : is_constituent branch.kind ≡ tops.is_serial (uid_number root)
  pub changes : AreOneChange p
  pub objects : (s : ObjectState) → Among s p.changed → s.uid ≡ object (let u = s.uid in u.num)
  pub own_part : has_part (plan_at x p) ≡ true → top_uses t x (root_at root c) c ≡ true
  pub paths : (s : Said) → Contains (let r = root_at root c in r.said) s → GoesOnce root t s.path

-- the machine has decided the top, or ended its commit without a record
abbrev pub IsSettled : Office → ℕ → Type 0
IsSettled B t = (disk.decided B.world.disk t ≡ true) ⊎ (B.world.disk.bare t ≡ true)

-- What a coordinator has of the root of a top that it decides it has afterwards too, with what the root retains, keeps and wrote from
-- then on.
abbrev pub DecidedRootsAreSeen : Type 0
DecidedRootsAreSeen = (x : ℕ) (tops : Kinds) (root t : Uid) (p : commit.Plan) (c : Coord) (A B : Office) → Named A → Named B →
    IsFixed tops A.world.disk → IsFixed tops B.world.disk → DecidesTop x tops root t p c → SeesConfirming x A.world.disk (uid_number t) p
    → SeesRootOf x tops root c (root_at root c) A → OnlyDecided (λ z. z == uid_number t) (λ z. root_retains x t p c) A B →
    IsSettled B (uid_number t)
    → (let d = decided t p c in IsLasting x d (root_at root d) → SeesRootOf x tops root d (root_at root d) B)

-- And a call under way in this root, by a top of it, has a list of what the root keeps afterwards, if it had one before.
abbrev pub DecidedCallsHaveLists : Type 0
DecidedCallsHaveLists = (x : ℕ) (tops : Kinds) (root t : Uid) (p : commit.Plan) (c : Coord) (A B : Office) → Named A → Named B →
    IsFixed tops A.world.disk → IsFixed tops B.world.disk → DecidesTop x tops root t p c → SeesConfirming x A.world.disk (uid_number t) p
    → SeesRootOf x tops root c (root_at root c) A → OnlyDecided (λ z. z == uid_number t) (λ z. root_retains x t p c) A B →
    IsSettled B (uid_number t) → (let d = decided t p c in IsLasting x d (root_at root d))
    → (w : Uid) (k : Known) → IsTopOf tops root w → kept_of x (root_at root c) ≡ Some k →
    HasList A.names (uid_number w) k ⊎ HasRetained A.names (uid_number root) k
    → (let d = decided t p c in
    (l : Known) × (kept_of x (root_at root d) ≡ Some l) × (HasList B.names (uid_number w) l ⊎ HasRetained B.names (uid_number root) l))
