-- What a coordinator has of an object from naming's answers, as the disk machine's naming half has it: grants.
use Rattle.std.specs.Prelude.{⊤, ◌≡◌, ◌≤◌, ℕ, Bool, true, false, ◌&&◌, List, Option, Some, None, Contains}
use Rattle.arj_protocol.specs.Words.{Uid}
use Rattle.arj_protocol.specs.Call.{At, AtActivate, AtBind, AtInvoke, AtLoad, AtNote, CallStep, On, Ended}
use Rattle.arj_protocol.specs.Coord.{Coord, Grant, Root, is_kept_top, top_uses}
use Rattle.arj_protocol.specs.Order.{uid_number}
use Rattle.arj_law_disk.specs.machine.Names.{Names, retained}
use Rattle.arj_law_disk.specs.machine.State.{State}

-- the top has a grant of the object whose least incarnation is no later than this one
pub record HasLeast (x : ℕ) (t : Uid) (i : ℕ) (grants : List Grant) : Type 0 where
  pub grant : Grant
  pub there : Contains grants grant
  pub top_is : grant.top ≡ t
  pub of : grant.x ≡ x
  pub low : grant.least ≤ i

-- a committed constituent that used the object: its grants are retained
abbrev pub is_retained : ℕ → Coord → Root → Uid → Bool
is_retained x c r t = is_kept_top t c && top_uses t x r c

-- The grants of a root: each of the machine's is one, of the top itself or of a constituent of which it is retained; and the
-- machine has the least incarnation of each.
pub record SeesGrants (x : ℕ) (root : Uid) (c : Coord) (r : Root) (S : State) (N : Names) : Type 0 where
  pub own : (t : Uid) (i : ℕ) → S.root (uid_number t) ≡ uid_number root → S.serial (uid_number t) ≡ false → N.had (uid_number t) i ≡ true →
      HasLeast x t i r.grants
  pub least : (g : Grant) → Contains r.grants g → g.x ≡ x → N.had (uid_number g.top) g.least ≡ true
  pub kept : (i : ℕ) → S.serial (uid_number root) ≡ true → N.had (uid_number root) i ≡ true →
      (t : Uid) × (is_retained x c r t ≡ true) × HasLeast x t i r.grants

-- ---- a decision

-- who is retained before is so after
abbrev pub StaysRetained : ℕ → Coord → Root → Coord → Root → Type 0
StaysRetained x c r d q = (w : Uid) → is_retained x c r w ≡ true → is_retained x d q w ≡ true

-- Where the grants stay, and who is retained, they are seen still; and where a constituent that is retained from now on was
-- decided, so they are once its root has what it had.
abbrev pub GrantsStay : Type 0
GrantsStay = (x : ℕ) (root : Uid) (c d : Coord) (r q : Root) (S V : State) (N : Names) → SeesGrants x root c r S N → q.grants ≡ r.grants →
    StaysRetained x c r d q → V.root ≡ S.root → V.serial ≡ S.serial → SeesGrants x root d q V N

-- the grants of a constituent are its root's after its decision
abbrev pub GrantsAreRetained : Type 0
GrantsAreRetained = (x : ℕ) (root t : Uid) (c d : Coord) (r q : Root) (S V : State) (N : Names) → SeesGrants x root c r S N →
    q.grants ≡ r.grants → StaysRetained x c r d q → V.root ≡ S.root → V.serial ≡ S.serial
    → S.root (uid_number t) ≡ uid_number root → S.serial (uid_number t) ≡ false → S.serial (uid_number root) ≡ true →
    is_retained x d q t ≡ true → SeesGrants x root d q V (retained S (uid_number t) N)

-- ---- a Record's grant

-- the incarnation of the grant on which a call's step stands, up to its Record
abbrev pub grant_at : At → Option ℕ
grant_at (AtLoad k s rest) = Some k.grant
grant_at (AtActivate k st) = Some k.grant
grant_at (AtNote k i) = Some k.grant
grant_at (AtBind avoid) = None
grant_at (AtInvoke k i) = None

-- the top took that grant
abbrev pub StandsOn : ℕ → Names → At → Type 0
StandsOn t N at = (g : ℕ) → grant_at at ≡ Some g → N.had t g ≡ true

-- so it is of a step that a call goes on to
abbrev pub StepStandsOn : ℕ → Names → CallStep → Type 0
StepStandsOn t N (On at) = StandsOn t N at
StepStandsOn t N (Ended e) = ⊤
