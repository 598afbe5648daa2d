-- Answers that coordinators take and stores give, in the machine, before whatever else a step does.
use Rattle.std.specs.Prelude.{◌≡◌, ◌==◌, ℕ, Bool, true, false, List, Some, None}
use Rattle.arj_protocol.specs.Words.{Uid, ObjectState, object}
use Rattle.arj_protocol.specs.Call.{At, Known}
use Rattle.arj_protocol.specs.Coord.{Coord, Root, granted_with, kept_of}
use Rattle.arj_protocol.specs.Effect.{Disk, held_at, holder_of}
use Rattle.arj_protocol.specs.Node.{Parts}
use Rattle.arj_protocol.specs.Order.{uid_number}
use Rattle.arj_law_disk.specs.machine.Names.{Bound, Loaded, Office}
use Rattle.arj_law_disk.specs.machine.State.{Idle}
use Rattle.arj_law_disk.specs.machine.Words.{In, has, put2}
use Rattle.arj_law_parts.specs.moves.Seen.{up}
use Rattle.arj_promise.specs.Runs.{Seen}
use Rattle.arj_law_disk_view.specs.view.Pairs.{packed}
use Rattle.arj_law_disk_view.specs.view.Sees.{Kinds}
use Rattle.arj_law_disk_view.specs.names.Both.{OnlyAnswers, OnlyAtNode, SeesBoth}
use Rattle.arj_law_disk_view.specs.names.Grants.{SeesGrants, StaysRetained}
use Rattle.arj_law_disk_view.specs.names.Lists.{AfterAnswer, IsLasting, KeepsCalls, IsNamedNow, IsTopOf, SeesLists}

-- answers were taken or given in the machine, to an office of which this holds; both halves are seen there as they were
abbrev pub IsHeard : ℕ → Kinds → (Office → Type 0) → Office → Seen → Type 0
IsHeard x tops Q A M = (D : Office) × OnlyAnswers A D × SeesBoth x tops D M × Q D

-- nothing of roots has changed
abbrev pub LeavesRoots : Office → Office → Type 0
LeavesRoots A D = (D.names.had ≡ A.names.had) × (D.names.kept ≡ A.names.kept)

-- A store may give the state that it holds, where the object isn't in doubt, for an include whose lock was granted with a list that
-- has the store.
abbrev pub LoadsAreGiven : Type 0
LoadsAreGiven = (x k : ℕ) (tops : Kinds) (d : Disk) (t : Parts) (st : ObjectState) (top i : ℕ) (l : List ℕ) (A : Office) (M : Seen) →
    holder_of (object x) d.store ≡ None → held_at (object x) d.store ≡ Some st
    → In (Bound top i true l) A.names.answers → has k l ≡ true → SeesBoth x tops A (up k d t M) →
    IsHeard x tops (λ D. In (Loaded top i (packed st)) D.names.answers × LeavesRoots A D) A (up k d t M)

-- what a coordinator has of a root for its calls: grants and lists, and the grant that the answer brought
abbrev pub HasOfRoot : ℕ → Kinds → Uid → Coord → Root → Office → Type 0
HasOfRoot x tops root c q D = SeesGrants x root c q D.world.disk D.names × SeesLists x tops root c q D.names

-- A coordinator takes naming's answer to a top's call, while the top works: the grant is the one new one; where the root isn't free of what
-- it keeps, calls have lists as before.
abbrev pub CallsAreTaken : Type 0
CallsAreTaken = (x g : ℕ) (tops : Kinds) (root top : Uid) (c : Coord) (r q : Root) (known : Known) (at : At) (free : Bool) (A : Office)
    (M : Seen) → A.world.disk.stage (uid_number top) ≡ Idle → In (Bound (uid_number top) g false known.stores) A.names.answers
    → HasOfRoot x tops root c r A → IsLasting x c r → IsTopOf tops root top → tops.root (uid_number root) ≡ uid_number root →
    IsNamedNow x c r g known free → AfterAnswer x g top known at free r q → StaysRetained x c r c q
    → SeesBoth x tops A M → IsHeard x tops (λ D. HasOfRoot x tops root c q D × (D.names.had ≡ put2 (uid_number top) g true A.names.had)
    × OnlyAtNode (λ n. n == uid_number top) A D × (free ≡ false → KeepsCalls tops root (kept_of x r) (kept_of x q) A.names D.names)) A M

-- The root after an answer to a top's include: its grant is noted, which names no binding.
pub record AfterInclude (x g : ℕ) (t : Uid) (r q : Root) : Type 0 where
  pub grants : q.grants ≡ granted_with (record { top = t; x = x; least = g; named = None }) r.grants
  pub said : q.said ≡ r.said
  pub kept : kept_of x q ≡ kept_of x r

-- And it takes the answer to an include, which leaves kept lists.
abbrev pub IncludesAreTaken : Type 0
IncludesAreTaken = (x g : ℕ) (tops : Kinds) (root top : Uid) (c : Coord) (r q : Root) (l : List ℕ) (A : Office) (M : Seen) →
    A.world.disk.stage (uid_number top) ≡ Idle → In (Bound (uid_number top) g true l) A.names.answers
    → HasOfRoot x tops root c r A → IsTopOf tops root top → AfterInclude x g top r q → StaysRetained x c r c q
    → SeesBoth x tops A M → IsHeard x tops (λ D. HasOfRoot x tops root c q D × (D.names.had ≡ put2 (uid_number top) g true A.names.had)
    × OnlyAtNode (λ n. n == uid_number top) A D × (D.names.kept ≡ A.names.kept)) A M
