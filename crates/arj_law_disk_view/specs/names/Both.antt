-- Both halves of an object's machine in what is seen, of one state: stores, entry and coordinators, and naming's memory.
use Rattle.std.specs.Prelude.{⊤, ◌≡◌, ◌⊎◌, ◌+◌, ◌≤◌, ◌||◌, not, ℕ, Bool, true, false, List, [], ◌∷◌, Option, Some, None, is_some}
use Rattle.arj_protocol.specs.Words.{Uid, Binding, Body, BoundReply, End, Head, Header, Label, is_on}
use Rattle.arj_protocol.specs.Words.ask
use Rattle.arj_protocol.specs.Words.ending
use Rattle.arj_protocol.specs.Ask.{top_of}
use Rattle.arj_protocol.specs.Confirm.{Grants, Marks}
use Rattle.arj_protocol.specs.Effect.{Disk, Effect, Say, Send, Do, Work, PutInc, is_prepared}
use Rattle.arj_protocol.specs.Naming.{Naming, bind}
use Rattle.arj_protocol.specs.Node.{Parts, Took, handle_hello, handle_told, serve}
use Rattle.arj_protocol.specs.Order.{at_number, uid_number}
use Rattle.arj_protocol.specs.Says.{AreAll}
use Rattle.arj_protocol.specs.Coord.{Coord, Root}
use Rattle.arj_start.specs.Start.{Start}
use Rattle.arj_protocol.specs.Step.{Node, disk_by, parts_in, restart_outs}
use Rattle.arj_protocol.specs.World.{Labelled, world_from}
use Rattle.arj_law_disk.specs.machine.Effects.{World, Allowed, Begin}
use Rattle.arj_law_disk.specs.machine.Guards.{HasPart, IsNext, IsPresent, Note, MayBegin, only_acks, only_begins, only_decides}
use Rattle.arj_law_disk.specs.machine.Messages.{ToldSerial}
use Rattle.arj_law_disk.specs.machine.Named.{Named}
use Rattle.arj_law_disk.specs.machine.Names.{Answer, Names, Office, lists_after, retained, written_in}
use Rattle.arj_law_disk.specs.machine.Offices.{chosen}
use Rattle.arj_law_disk.specs.machine.State.{State, Done, Plan, Idle, is_gone, is_sealed, undecided}
use Rattle.arj_law_disk.specs.machine.Words.{In}
use Rattle.arj_law_parts.specs.moves.Seen.{at, down, given, said, up}
use Rattle.arj_promise.specs.Runs.{Seen, see}
use Rattle.arj_promise.specs.Starts.{IsFormed}
use Rattle.arj_law_parts.specs.moves.Walks.{Walks, Up, halted}
use Rattle.arj_law_disk_view.specs.view.Entries.{SeesEntry}
use Rattle.arj_law_disk_view.specs.view.Confirming.{IsNewConfirm}
use Rattle.arj_law_disk_view.specs.view.Sees.{Along, ClaimsAsk, IsLater, IsNested, Kinds, SeesDisks, IsSeenByDisks, followed}
use Rattle.arj_law_disk_view.specs.names.Booked.{CountsOnGrants}
use Rattle.arj_law_disk_view.specs.names.Calls.{ClaimsBound, ClaimsTop, MayNote}
use Rattle.arj_law_disk_view.specs.names.Memory.{IsOfTop, SeesNaming}
use Rattle.arj_law_disk_view.specs.view.Formats.{HasObject}
use Rattle.arj_law_disk_view.specs.names.Grants.{SeesGrants}
use Rattle.arj_law_disk_view.specs.names.Lists.{AreNarrowed, SeesLists}
use Rattle.arj_law_disk_view.specs.names.Loads.{HaveLoads, KeepsState}
use Rattle.arj_law_disk_view.specs.names.Restarts.{AreEntries}
use Rattle.arj_protocol.specs.Order.{is_empty}

-- naming's half: the incarnation on node 1's disk, and naming's memory while that node is up
pub record SeesNames (x : ℕ) (tops : Kinds) (A : Office) (M : Seen) : Type 0 where
  pub inc : (n : Node) → M.nodes 1 ≡ Some n → A.names.inc ≡ n.disk.inc
  pub memory : (n : Node) (t : Parts) (o : Naming) → M.nodes 1 ≡ Some n → n.live ≡ Some t → t.naming ≡ Some o →
      SeesNaming x tops o A.world.disk A.names

-- Both halves of the object are seen in the world.
pub record SeesBoth (x : ℕ) (tops : Kinds) (A : Office) (M : Seen) : Type 0 where
  pub named : Named A
  pub disks : SeesDisks x tops A.world M
  pub names : SeesNames x tops A M

-- The top had ended its prepare step, its outcome was open, and it wasn't confirmed as one that counts; and where it has a part in the
-- object each grant that counts is of the present incarnation.
pub record IsPassedNow (S T : State) (N : Names) (t : ℕ) : Type 0 where
  pub begun : S.begun t ≡ true
  pub sealed : is_sealed (S.stage t) ≡ true
  pub opened : undecided S t ≡ true
  pub unconfirmed : S.conf t ≡ false
  pub present : HasPart (S.plan t) → IsPresent T N t

-- The disk half has gone on: of whom naming has confirmed since, each grant that counts is of the present incarnation, also where it was as
-- one that changes nothing; who was confirmed as one that changes nothing is so still; who is at its end stays there; and a commit begins
-- only while its root isn't at its end.
pub record GoesOnward (A B : Office) : Type 0 where
  pub conf : (t : ℕ) → B.world.disk.conf t ≡ true → (A.world.disk.conf t ≡ true) ⊎ IsPresent B.world.disk B.names t
  pub passed : (t : ℕ) → B.world.disk.light t ≡ true → (A.world.disk.light t ≡ true) ⊎ IsPassedNow A.world.disk B.world.disk B.names t
  pub light : (t : ℕ) → A.world.disk.light t ≡ true → B.world.disk.light t ≡ true
  pub gone : (t : ℕ) → is_gone (A.world.disk.stage t) ≡ true → is_gone (B.world.disk.stage t) ≡ true
  pub begins : (t : ℕ) → B.world.disk.begun t ≡ true →
      (A.world.disk.begun t ≡ true) ⊎ (is_gone (A.world.disk.stage (A.world.disk.root t)) ≡ false)

-- The disk half has gone on; of naming's half nothing but naming's memory has changed, in which whoever was confirmed is so still, and
-- answers were given; and no top was decided, with a record or without one.
pub record OnlyMemory (A B : Office) : Type 0 where
  pub later : IsLater A.world B.world
  pub tops : B.world.disk.tops ≡ A.world.disk.tops
  pub bare : (t : ℕ) → B.world.disk.bare t ≡ true → A.world.disk.bare t ≡ true
  pub had : B.names.had ≡ A.names.had
  pub kept : B.names.kept ≡ A.names.kept
  pub answers : (a : Answer) → In a A.names.answers → In a B.names.answers
  pub inc : B.names.inc ≡ A.names.inc
  pub confd : (t : ℕ) → A.names.confd t ≡ true → B.names.confd t ≡ true
  pub onward : GoesOnward A B

-- so both halves are seen
abbrev pub IsSeenFrom : ℕ → Kinds → Office → Seen → Type 0
IsSeenFrom x tops A M = (B : Office) × OnlyMemory A B × SeesBoth x tops B M

-- ---- walks

-- the disk half is walked from the office's world, where this may be noted
abbrev pub DisksWalk : (Note → Bool) → ℕ → Kinds → Office → ℕ → ℕ → List Effect → Parts → Disk → Seen → Type 0
DisksWalk f x tops A e k outs v d M =
    Walks (IsSeenByDisks x (followed tops A.world f)) e k outs (Up (IsSeenByDisks x (followed tops A.world f)) k v) d M

-- and so are both
abbrev pub BothWalk : ℕ → Kinds → Office → ℕ → ℕ → List Effect → Parts → Disk → Seen → Type 0
BothWalk x tops A e k outs v d M = Walks (IsSeenFrom x tops A) e k outs (Up (IsSeenFrom x tops A) k v) d M

-- and then this holds of the office at the end
abbrev pub BothWalkTo : (Office → Type 0) → ℕ → Kinds → Office → ℕ → ℕ → List Effect → Parts → Disk → Seen → Type 0
BothWalkTo Q x tops A e k outs v d M =
    Walks (IsSeenFrom x tops A) e k outs (λ c N. (B : Office) × OnlyMemory A B × SeesBoth x tops B (up k c v N) × Q B) d M

-- the incarnation stays
abbrev pub leaves_inc : Work → Bool
leaves_inc (PutInc i) = false
leaves_inc _ = true

-- so it is of an effect
abbrev pub leaves_the_inc : Effect → Bool
leaves_the_inc (Do w) = leaves_inc w
leaves_the_inc (Say b) = true
leaves_the_inc (Send to m) = true

-- Where naming's half has no part in what the disk half does, and naming's memory is as it was, both are walked.
abbrev pub QuietWalksKeepBoth : Type 0
QuietWalksKeepBoth = (x : ℕ) (tops : Kinds) (e k : ℕ) (d : Disk) (t v : Parts) (outs : List Effect) (A : Office) (M : Seen) →
    tops.walk ≡ None → AreAll leaves_the_inc outs → v.naming ≡ t.naming
    → SeesBoth x tops A (up k d t M) → DisksWalk (λ n. false) x tops A e k outs v d M → BothWalk x tops A e k outs v d M

-- ---- steps that aren't walks

-- A walk may be followed from here, whatever may be noted.
abbrev pub WalksStart : Type 0
WalksStart = (x : ℕ) (tops : Kinds) (f : Note → Bool) (A : Office) (M : Seen) → SeesBoth x tops A M →
    SeesDisks x (followed tops A.world f) A.world M

-- Lines are said that keep the disk half.
abbrev pub LinesKeepBoth : Type 0
LinesKeepBoth = (x : ℕ) (tops : Kinds) (e : ℕ) (bs : List Body) (A : Office) (M : Seen) → tops.walk ≡ None → SeesBoth x tops A M →
    IsSeenByDisks x (followed tops A.world (λ n. false)) (said e bs M) → IsSeenFrom x tops A (said e bs M)

-- A node stops.
abbrev pub StopsKeepBoth : Type 0
StopsKeepBoth = (x : ℕ) (tops : Kinds) (e k : ℕ) (d : Disk) (live : Option Parts) (A : Office) (M : Seen) → tops.walk ≡ None → SeesBoth x
    tops A (at k d live M) → IsSeenByDisks x (followed tops A.world (λ n. false)) (halted e k d M) → IsSeenFrom x tops A (halted e k d M)

-- A label is given.
abbrev pub LabelsKeepBoth : Type 0
LabelsKeepBoth = (x : ℕ) (tops : Kinds) (l : Label) (g : Labelled) (A : Office) (M : Seen) → SeesBoth x tops A M →
    SeesBoth x tops A (given l g M)

-- ---- requests to naming

-- A Bind is taken, of a top that is its own root or stands behind its root; the office has given the answer that grants a lock.
abbrev pub BindsKeepBoth : Type 0
BindsKeepBoth = (x y : ℕ) (tops : Kinds) (e : ℕ) (d : Disk) (t v : Parts) (n : Naming) (from : ℕ) (h : Head) (include : Bool)
    (avoid : Binding) (r : BoundReply) (outs : List Effect) (A : Office) (M : Seen) → tops.walk ≡ None → t.naming ≡ Some n
    → (let s = bind h.path y include avoid d.names n in s.reply) ≡ Some r → serve 1 d t from h (ask.Bind y include avoid) ≡ Took v outs →
    IsOfTop tops A.world.disk h.path
    → SeesBoth x tops A (up 1 d t M) → DisksWalk (λ n. false) x tops A e 1 outs v d M →
    BothWalkTo (λ B. ClaimsBound x y (uid_number (top_of h.path)) r B.names) x tops A e 1 outs v d M

-- A Record is taken, of a top that took the grant which it names, whatever the disk half has done.
abbrev pub NotesKeepBoth : Type 0
NotesKeepBoth = (x y : ℕ) (tops : Kinds) (e : ℕ) (d : Disk) (t v : Parts) (n : Naming) (from : ℕ) (h : Head) (b : Binding) (i g : ℕ)
    (outs : List Effect) (A : Office) (M : Seen) → tops.walk ≡ None → t.naming ≡ Some n
    → serve 1 d t from h (ask.Record y b i g) ≡ Took v outs → IsOfTop tops A.world.disk h.path →
    ((B : Office) → B.names ≡ A.names → SeesEntry x d.names B.world.disk → MayNote x y h.path b g n B)
    → SeesBoth x tops A (up 1 d t M) → DisksWalk (λ n. false) x tops A e 1 outs v d M → BothWalk x tops A e 1 outs v d M

-- The word is taken that a node is up again.
abbrev pub HellosKeepBoth : Type 0
HellosKeepBoth = (x : ℕ) (tops : Kinds) (e : ℕ) (d : Disk) (t v : Parts) (node inc : ℕ) (outs : List Effect) (A : Office) (M : Seen) →
    tops.walk ≡ None → handle_hello d t node inc ≡ Took v outs
    → SeesBoth x tops A (up 1 d t M) → DisksWalk (λ n. false) x tops A e 1 outs v d M → BothWalk x tops A e 1 outs v d M

-- A Confirm is taken, which names its top's grants where naming checks it anew; who has an entry prepared is known as confirmed.
abbrev pub ConfirmsKeepBoth : Type 0
ConfirmsKeepBoth = (x : ℕ) (tops : Kinds) (e : ℕ) (d : Disk) (t v : Parts) (n : Naming) (from : ℕ) (h : Head) (grants : Grants)
    (excluded included : Marks) (outs : List Effect) (A : Office) (M : Seen) → tops.walk ≡ None → t.naming ≡ Some n
    → serve 1 d t from h (ask.Confirm grants excluded included) ≡ Took v outs →
    (is_prepared (top_of h.path) d.names ≡ true → is_on n.confirmed (top_of h.path) ≡ true) → IsOfTop tops A.world.disk h.path →
    ClaimsAsk x A.world 1 h (ask.Confirm grants excluded included)
    → (IsNewConfirm h.path grants excluded included d.names n →
    CountsOnGrants x A.world.disk A.names (uid_number (top_of h.path)) grants × IsNext A.world.disk (uid_number (top_of h.path)))
    → SeesBoth x tops A (up 1 d t M) → BothWalk x tops A e 1 outs v d M

-- ---- ends

-- A top's end is told to naming.
abbrev pub TopEndsKeepBoth : Type 0
TopEndsKeepBoth = (x : ℕ) (tops : Kinds) (e : ℕ) (d : Disk) (t v : Parts) (n : Naming) (from : ℕ) (ack : Bool) (ends : List (Uid × End))
    (u : Uid) (how : End) (outs : List Effect) (A : Office) (M : Seen) → tops.walk ≡ None → t.naming ≡ Some n
    → handle_told 1 d t from ack ends u how ≡ Took v outs → tops.is_top (uid_number u) ≡ true →
    A.world.disk.serial (uid_number u) ≡ false → ClaimsTop A (uid_number u) how
    → SeesBoth x tops A (up 1 d t M) → DisksWalk (only_acks (uid_number u)) x tops A e 1 outs v d M → BothWalk x tops A e 1 outs v d M

-- The end of a serializing action is told to naming, which has the object, and that of a nested one.
abbrev pub IsOver : ℕ → Kinds → Office → Uid → End → Naming → Type 0
IsOver x tops A u how n = (tops.is_serial (uid_number u) ≡ true) × (A.world.disk.serial (uid_number u) ≡ true) × (how ≡ ending.Abort)
    × In (ToldSerial (uid_number u) 1) A.world.sent × (is_some (at_number x n.objects) ≡ true)

-- other ends that are told keep both halves
abbrev pub OtherEndsKeepBoth : Type 0
OtherEndsKeepBoth = (x : ℕ) (tops : Kinds) (e : ℕ) (d : Disk) (t v : Parts) (n : Naming) (from : ℕ) (ack : Bool) (ends : List (Uid × End))
    (u : Uid) (how : End) (outs : List Effect) (A : Office) (M : Seen) → tops.walk ≡ None → t.naming ≡ Some n
    → handle_told 1 d t from ack ends u how ≡ Took v outs → IsOver x tops A u how n ⊎ IsNested tops (uid_number u)
    → SeesBoth x tops A (up 1 d t M) → DisksWalk (λ z. false) x tops A e 1 outs v d M → BothWalk x tops A e 1 outs v d M

-- ---- coordinators

-- none of these tops is of the root
abbrev pub IsOther : (ℕ → Bool) → State → ℕ → Type 0
IsOther g S r = (t : ℕ) → g t ≡ true → S.root t ≡ r → ⊥

-- what an action has it had, or one of these tops had it whose root it is, and whose outcome was open
abbrev pub IsFrom : (ℕ → Bool) → Office → Office → Type 0
IsFrom g A B = (h i : ℕ) → B.names.had h i ≡ true → (A.names.had h i ≡ true)
    ⊎ ((t : ℕ) × (g t ≡ true) × (undecided A.world.disk t ≡ true) × (A.world.disk.root t ≡ h) × (A.names.had t i ≡ true))

-- Of naming's half nothing has changed but grants and kept lists of the roots of these tops: what was had is had still, and a root has
-- nothing that it and these tops hadn't; of another root none was decided.
pub record OnlyRoots (g : ℕ → Bool) (A B : Office) : Type 0 where
  pub names : B.names ≡ record A.names { had = B.names.had; kept = B.names.kept }
  pub root : B.world.disk.root ≡ A.world.disk.root
  pub grows : (h i : ℕ) → A.names.had h i ≡ true → B.names.had h i ≡ true
  pub from : IsFrom g A B
  pub had : (h : ℕ) → IsOther g A.world.disk (A.world.disk.root h) → B.names.had h ≡ A.names.had h
  pub kept : (h : ℕ) → IsOther g A.world.disk (A.world.disk.root h) → B.names.kept h ≡ A.names.kept h
  pub tops : (r : ℕ) → IsOther g A.world.disk r →
      written_in A.world.disk.root r B.world.disk.tops ≡ written_in A.world.disk.root r A.world.disk.tops

-- a plan has a part in the object
abbrev pub has_part : Plan → Bool
has_part p = is_some p.writes || not (is_empty p.joins)

-- the top's commit has begun, without a part in the object
abbrev pub HasNoPart : State → ℕ → Type 0
HasNoPart S t = (S.begun t ≡ true) × (has_part (S.plan t) ≡ false)

-- naming's half once a top is decided, with its record or without one: its root retains what it has, or doesn't
abbrev pub decided_names : Bool → State → ℕ → Names → Names
decided_names keeps S t N = let L = record N { kept = lists_after S t N.kept } in chosen keeps (retained S t L) L

-- naming's half once a top is decided
abbrev pub ended_names : Bool → State → ℕ → Names → Names
ended_names keeps S t N = chosen keeps (retained S t N) N

-- nothing of naming's half was changed by a decision so far
pub record IsUndecided (t : ℕ) (A B : Office) : Type 0 where
  pub names : B.names ≡ A.names
  pub tops : B.world.disk.tops ≡ A.world.disk.tops
  pub bare : B.world.disk.bare t ≡ true → A.world.disk.bare t ≡ true

-- the top was decided with its record, and is the last one that was
pub record IsRecorded (keeps : Bool) (t : ℕ) (A B : Office) : Type 0 where
  pub names : B.names ≡ decided_names keeps B.world.disk t A.names
  pub done : Done
  pub tops : B.world.disk.tops ≡ done ∷ A.world.disk.tops
  pub top : done.top ≡ t
  pub plan : done.plan ≡ B.world.disk.plan t

-- its commit ended without one, and it wrote nothing
pub record IsEndedBare (keeps : Bool) (t : ℕ) (A B : Office) : Type 0 where
  pub names : B.names ≡ ended_names keeps B.world.disk t A.names
  pub tops : B.world.disk.tops ≡ A.world.disk.tops
  pub bare : B.world.disk.bare t ≡ true
  pub plain : (let p = B.world.disk.plan t in p.writes) ≡ None

-- how a top's outcome was decided, if it was
abbrev pub HowDecided : Bool → ℕ → Office → Office → Type 0
HowDecided keeps t A B = IsUndecided t A B ⊎ (IsRecorded keeps t A B ⊎ IsEndedBare keeps t A B)

-- there is no other top among these
abbrev pub IsOnly : (ℕ → Bool) → ℕ → Type 0
IsOnly g t = (z : ℕ) → g z ≡ true → z ≡ t

-- And the disk half has come here by deciding none but these. Where one top alone may be decided it is said how naming's half is
-- afterwards.
pub record OnlyDecided (g keeps : ℕ → Bool) (A B : Office) : Type 0 where
  pub only : OnlyRoots g A B
  pub along : Along (record { from = A.world; noted = only_decides g }) B.world
  pub how : (t : ℕ) → IsOnly g t → HowDecided (keeps t) t A B

-- some half behind such decisions is seen
abbrev pub IsSeenIn : (ℕ → Bool) → (ℕ → Bool) → ℕ → Kinds → Office → Seen → Type 0
IsSeenIn g keeps x tops A M = (B : Office) × OnlyDecided g keeps A B × SeesBoth x tops B M

-- the disk half is seen, and who is decided there was so before
abbrev pub IsOpenByDisks : ℕ → Kinds → World → Seen → Type 0
IsOpenByDisks x tops V M = (W : World) × (W.disk.tops ≡ V.disk.tops) × SeesDisks x tops W M

-- so it is of both halves, where some may be decided behind that
abbrev pub IsOpenIn : (ℕ → Bool) → (ℕ → Bool) → ℕ → Kinds → Office → Seen → Type 0
IsOpenIn g keeps x tops A M = (B : Office) × OnlyDecided g keeps A B × (B.world.disk.tops ≡ A.world.disk.tops) × SeesBoth x tops B M

-- A node decides some of these tops, or ends their commits without a record, and naming's memory is as it was. The root of each
-- retains what the top has, or doesn't where the top has no part in the object.
abbrev pub DecisionsKeepBoth : Type 0
DecisionsKeepBoth = (x : ℕ) (tops : Kinds) (e k : ℕ) (d : Disk) (was : Option Parts) (v : Parts) (outs : List Effect) (g keeps : ℕ →
    Bool) (A : Office) (M : Seen) → tops.walk ≡ None → AreAll leaves_the_inc outs
    → ((t : ℕ) → g t ≡ true → keeps t ≡ false → HasNoPart A.world.disk t) →
    ((o : Naming) → k ≡ 1 → v.naming ≡ Some o → SeesNaming x tops o A.world.disk A.names) → SeesBoth x tops A (at k d was M)
    → Walks (IsSeenByDisks x (followed tops A.world (only_decides g))) e k outs (Up (IsSeenByDisks x (followed tops A.world
    (only_decides g))) k v) d M → Walks (IsSeenIn g keeps x tops A) e k outs (Up (IsSeenIn g keeps x tops A) k v) d M

-- no work on the disk
abbrev pub is_no_work : Effect → Bool
is_no_work (Do w) = false
is_no_work (Say b) = true
is_no_work (Send to m) = true

-- no outcome was opened
pub record OpensNone (S T : State) : Type 0 where
  pub opened : (z : ℕ) → undecided T z ≡ true → undecided S z ≡ true

-- A commit begins, with this plan: it may, whatever the disk half has done, as long as that opened no outcome.
abbrev pub BeginningsKeepBoth : Type 0
BeginningsKeepBoth = (x : ℕ) (tops : Kinds) (e k : ℕ) (d : Disk) (t v : Parts) (outs : List Effect) (top : ℕ) (p : Plan) (A : Office)
    (M : Seen) → tops.walk ≡ None → AreAll is_no_work outs → v.naming ≡ t.naming → SeesBoth x tops A (up k d t M)
    → ((W : World) (N : Seen) → SeesDisks x tops W (up k d v N) → W.disk.begun top ≡ true → W.disk.plan top ≡ p)
    → ((C : Office) → Named C → C.names ≡ A.names → IsLater A.world C.world → C.world.disk.tops ≡ A.world.disk.tops →
    OpensNone A.world.disk C.world.disk → Allowed C.world (Begin top p) → MayBegin C top p)
    → DisksWalk (only_begins top) x tops A e k outs v d M → BothWalk x tops A e k outs v d M

-- Of naming's half naming's memory may be another one, and grants and kept lists of the roots of these tops have changed; what was had
-- is had still.
pub record OnlyAtNode (g : ℕ → Bool) (A B : Office) : Type 0 where
  pub root : B.world.disk.root ≡ A.world.disk.root
  pub grows : (h i : ℕ) → A.names.had h i ≡ true → B.names.had h i ≡ true
  pub had : (h : ℕ) → IsOther g A.world.disk (A.world.disk.root h) → B.names.had h ≡ A.names.had h
  pub kept : (h : ℕ) → IsOther g A.world.disk (A.world.disk.root h) → B.names.kept h ≡ A.names.kept h
  pub tops : (r : ℕ) → IsOther g A.world.disk r →
      written_in A.world.disk.root r B.world.disk.tops ≡ written_in A.world.disk.root r A.world.disk.tops
  pub answers : (a : Answer) → In a A.names.answers → In a B.names.answers

-- And the disk half has come here by deciding none but these; in one incarnation of naming whoever was confirmed is so still.
pub record OnlyFound (g : ℕ → Bool) (A B : Office) : Type 0 where
  pub only : OnlyAtNode g A B
  pub from : IsFrom g A B
  pub along : Along (record { from = A.world; noted = only_decides g }) B.world
  pub inc : A.names.inc ≤ B.names.inc
  pub confd : A.names.inc ≡ B.names.inc → (t : ℕ) → A.names.confd t ≡ true → B.names.confd t ≡ true

-- some half that only found decisions is seen
abbrev pub IsSeenAgain : (ℕ → Bool) → ℕ → Kinds → Office → Seen → Type 0
IsSeenAgain g x tops A M = (B : Office) × OnlyFound g A B × SeesBoth x tops B M

-- and who is decided was so before
abbrev pub IsOpenAgain : (ℕ → Bool) → ℕ → Kinds → Office → Seen → Type 0
IsOpenAgain g x tops A M = (B : Office) × OnlyFound g A B × (B.world.disk.tops ≡ A.world.disk.tops) × SeesBoth x tops B M

-- A node restarts, which decides some of these tops; at naming what is held is held under the names of entries.
abbrev pub RestartsKeepBoth : Type 0
RestartsKeepBoth = (x : ℕ) (tops : Kinds) (e k : ℕ) (hd : Header) (d : Disk) (g : ℕ → Bool) (A : Office) (M : Seen) → tops.walk ≡ None →
    (k ≡ 1 → AreEntries d.names) → SeesBoth x tops A (down k d M)
    → Walks (IsSeenByDisks x (followed tops A.world (only_decides g))) e k (restart_outs hd k (d.inc + 1) d)
    (Up (IsSeenByDisks x (followed tops A.world (only_decides g))) k (parts_in k (d.inc + 1) d)) d M
    → Walks (IsSeenAgain g x tops A) e k (restart_outs hd k (d.inc + 1) d) (Up (IsSeenAgain g x tops A) k (parts_in k (d.inc + 1) d)) d M

-- The world as a run begins, where roots are as actions have them.
abbrev pub StartsHaveBoth : Type 0
StartsHaveBoth = (hd : Header) (x : ℕ) (tops : Kinds) → tops.walk ≡ None → HasObject hd x → ((r : ℕ) → tops.is_serial r ≡ true → tops.root
    r ≡ r) → ((t : ℕ) → tops.is_serial (tops.root t) ≡ false → tops.root t ≡ t) → ((t : ℕ) → tops.root (tops.root t) ≡ tops.root t)
    → (st : Start) → IsFormed hd st → AreEntries (disk_by hd st 1).names → (A : Office) × SeesBoth x tops A (see [] (world_from hd st))

-- ---- what a coordinator has of naming's answers

-- What a coordinator has of a root, for the object: grants, kept lists, loads, and the state that is kept.
pub record SeesRootOf (x : ℕ) (tops : Kinds) (root : Uid) (c : Coord) (r : Root) (A : Office) : Type 0 where
  pub grants : SeesGrants x root c r A.world.disk A.names
  pub lists : SeesLists x tops root c r A.names
  pub loads : HaveLoads x tops root r A.names
  pub state : KeepsState x root r A.world.disk

-- ---- answers are taken and given

-- Of naming's half only grants, kept lists and answers have changed; answers grow, and so do grants of who works and is no serializing
-- action.
pub record OnlyAnswers (C D : Office) : Type 0 where
  pub world : D.world ≡ C.world
  pub names : D.names ≡ record C.names { had = D.names.had; kept = D.names.kept; answers = D.names.answers }
  pub answers : (a : Answer) → In a C.names.answers → In a D.names.answers
  pub grows : (h i : ℕ) → C.names.had h i ≡ true → D.names.had h i ≡ true
  pub heard : (h i : ℕ) → D.names.had h i ≡ true →
      (C.names.had h i ≡ true) ⊎ ((C.world.disk.stage h ≡ Idle) × (C.world.disk.serial h ≡ false))
  pub narrows : AreNarrowed C.names D.names

-- the disk half has gone on, and naming's half had no part in it
pub record HasGoneOn (A C : Office) : Type 0 where
  pub names : C.names ≡ A.names
  pub later : IsLater A.world C.world
  pub tops : C.world.disk.tops ≡ A.world.disk.tops

-- ---- where stops fall

-- Wherever a stop falls on a restart, who is decided was so before.
abbrev pub RestartsStopOpen : Type 0
RestartsStopOpen = (x : ℕ) (tops : Kinds) (e k : ℕ) (hd : Header) (d : Disk) (g : ℕ → Bool) (A : Office) (M : Seen) → tops.walk ≡ None →
    (k ≡ 1 → AreEntries d.names) → SeesBoth x tops A (down k d M)
    → Walks (IsOpenAgain g x tops A) e k (restart_outs hd k (d.inc + 1) d) (λ c N. ⊤) d M
