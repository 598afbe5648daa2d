-- Whole handlers from where both halves are seen: a message, an input about an action, an action that begins, a tick.
use Rattle.std.specs.Prelude.{⊤, ◌≡◌, ◌==◌, ◌||◌, ℕ, Bool, true, false, List, Option, Some, None, is_some, if◌then◌else◌}
use Rattle.arj_protocol.specs.Words.{Uid, Asked, Binding, BoundReply, Head, Ask, Header, Kind, Label, Message, asks}
use Rattle.arj_protocol.specs.Words.ask
use Rattle.arj_protocol.specs.Ask.{Reply, answers, top_of}
use Rattle.arj_protocol.specs.Asking.{again_all, begin_action}
use Rattle.arj_protocol.specs.Commit as commit
use Rattle.arj_protocol.specs.Commit.{Machine, plan_of}
use Rattle.arj_protocol.specs.Confirm.{Grants, Marks}
use Rattle.arj_protocol.specs.Coord.{Coord, Doing, Now, Committing, doing_of, root_at, top_uses}
use Rattle.arj_protocol.specs.Effect.{Disk, Did, Effect, is_prepared}
use Rattle.arj_protocol.specs.Follow.{tick_outs}
use Rattle.arj_protocol.specs.Naming.{Naming, bind}
use Rattle.arj_protocol.specs.Node.{Parts, Took, handle, holders, with_coord}
use Rattle.arj_protocol.specs.Order.{at_number, uid_number}
use Rattle.arj_protocol.specs.Step.{Input, acts, refusal_up}
use Rattle.arj_protocol.specs.Tree.{Branch, next_uid, path_below, root_of}
use Rattle.arj_protocol.specs.Words.{is_on}
use Rattle.arj_protocol.specs.World.{Labelled}
use Rattle.std.specs.List.{AllByRecursion}
use Rattle.arj_law_disk.specs.machine.Effects.{Allowed, Begin}
use Rattle.arj_law_disk.specs.machine.Guards.{IsNext, MayBegin}
use Rattle.arj_law_disk.specs.machine.Named.{Named}
use Rattle.arj_law_disk.specs.machine.Names.{Office}
use Rattle.arj_law_parts.specs.moves.Keeps.{is_act}
use Rattle.arj_law_parts.specs.moves.Seen.{In, given, up}
use Rattle.arj_promise.specs.Runs.{Seen}
use Rattle.arj_law_parts.specs.moves.Walks.{Walks, Up}
use Rattle.arj_law_disk_view.specs.view.Confirming.{IsNewConfirm}
use Rattle.arj_law_disk_view.specs.view.Coordinating.{KnowsNode}
use Rattle.arj_law_disk_view.specs.view.Entries.{SeesEntry}
use Rattle.arj_law_disk_view.specs.view.Knows.{KnowsCoord, KnowsKinds, IsOfKind}
use Rattle.arj_law_disk_view.specs.view.Plans.{plan_at}
use Rattle.arj_law_disk_view.specs.view.Sees.{IsLater, Kinds, was_begun}
use Rattle.arj_law_disk_view.specs.names.Booked.{CountsOnGrants}
use Rattle.arj_law_disk_view.specs.names.Both.{BothWalk, OnlyDecided, OnlyMemory, OpensNone, SeesBoth, has_part}
use Rattle.arj_law_disk_view.specs.names.Calls.{HasGiven, MayNote}
use Rattle.arj_law_disk_view.specs.names.Memory.{IsOfTop}

-- ---- what a step may change

-- What a step changes of naming's half: naming's memory alone; that, with an answer to a top's Bind of the object; or that a top
-- may be decided, whose root retains what it has or doesn't.
pub data Change : Type 0 where
  Quietly : Change
  Answering : ℕ → BoundReply → Change
  Deciding : ℕ → Bool → Change

-- by naming's answer to a Bind, where it is about this object
abbrev pub answer_change : ℕ → ℕ → Uid → Option BoundReply → Change
answer_change x y u None = Quietly
answer_change x y u (Some r) = if y == x then Answering (uid_number u) r else Quietly

-- what a Bind changes, at node 1
abbrev pub bind_change : ℕ → ℕ → Bool → Binding → Head → Disk → Option Naming → Change
bind_change x y include avoid h d None = Quietly
bind_change x y include avoid h d (Some n) = answer_change x y (top_of h.path) (let s = bind h.path y include avoid d.names n in s.reply)

-- what a request changes: a Bind alone
abbrev pub ask_change : ℕ → Disk → Parts → Head → Ask → Change
ask_change x d t h (ask.Bind y include avoid) = bind_change x y include avoid h d t.naming
ask_change x d t h _ = Quietly

-- the root of a top with this plan retains the object: a call or an include on it survives in the top, or the plan has a part in it
abbrev pub root_retains : ℕ → Uid → commit.Plan → Coord → Bool
root_retains x u p c = top_uses u x (root_at (root_of p.path) c) c || has_part (plan_at x p)

-- a top that is answered may be decided where its commit waits for naming
abbrev pub now_change : ℕ → Uid → Coord → Now → Change
now_change x u c (Committing (commit.Confirming p)) = Deciding (uid_number u) (root_retains x u p c)
now_change x u c _ = Quietly

-- what an answer to an action changes, where the action is known
abbrev pub doing_change : ℕ → Uid → Coord → Option Doing → Change
doing_change x u c None = Quietly
doing_change x u c (Some q) = now_change x u c q.now

-- what an answer changes, where the message is one
abbrev pub reply_change : ℕ → Coord → Option (Asked × Reply) → Change
reply_change x c None = Quietly
reply_change x c (Some a) = let q = a.0 in doing_change x q.act c (doing_of q.act c)

-- by a message: a Bind, or an answer to a commit
abbrev pub asked_change : ℕ → Disk → Parts → Message → Option (Head × Ask) → Change
asked_change x d t m (Some a) = ask_change x d t a.0 a.1
asked_change x d t m None = reply_change x t.coord (answers m)

-- what a message changes
abbrev pub change_by : ℕ → Disk → Parts → Message → Change
change_by x d t m = asked_change x d t m (asks m)

-- so an office comes of another one
abbrev pub Changes : Change → Office → Office → Type 0
Changes Quietly A B = OnlyMemory A B
Changes (Answering t r) A B = OnlyMemory A B × HasGiven t r B.names
Changes (Deciding t keeps) A B = OnlyDecided (λ z. z == t) (λ z. keeps) A B

-- so both halves are seen
abbrev pub IsSeenAfter : Change → ℕ → Kinds → Office → Seen → Type 0
IsSeenAfter o x tops A M = (B : Office) × Changes o A B × SeesBoth x tops B M

-- ---- what is counted on

-- a Record may be noted, whatever the disk half does before
abbrev pub MayRecord : ℕ → Disk → Naming → Message → Office → Type 0
MayRecord x d n m A = (h : Head) (y : ℕ) (b : Binding) (i g : ℕ) → asks m ≡ Some (h, ask.Record y b i g) → (B : Office) →
    B.names ≡ A.names → SeesEntry x d.names B.world.disk → MayNote x y h.path b g n B

-- what a new Confirm counts on of its top's grants, and what the servers' locks give
abbrev pub IsForGrants : ℕ → Disk → Naming → Message → Office → Type 0
IsForGrants x d n m A = (h : Head) (grants : Grants) (excluded included : Marks) → asks m ≡ Some (h, ask.Confirm grants excluded included) →
    IsNewConfirm h.path grants excluded included d.names n
    → CountsOnGrants x A.world.disk A.names (uid_number (top_of h.path)) grants × IsNext A.world.disk (uid_number (top_of h.path))

-- What naming's half counts on at a message to naming: who asks is a top that is its own root or stands behind it; what a Record
-- counts on; a top that has an entry prepared is known as confirmed; what a new Confirm counts on; and naming has the object.
pub record CountsOn (x : ℕ) (tops : Kinds) (d : Disk) (n : Naming) (m : Message) (A : Office) : Type 0 where
  pub path : (h : Head) (a : Ask) → asks m ≡ Some (h, a) → IsOfTop tops A.world.disk h.path
  pub recorded : MayRecord x d n m A
  pub taken : (h : Head) (grants : Grants) (excluded included : Marks) → asks m ≡ Some (h, ask.Confirm grants excluded included) →
      is_prepared (top_of h.path) d.names ≡ true → is_on n.confirmed (top_of h.path) ≡ true
  pub confirmed : IsForGrants x d n m A
  pub there : is_some (at_number x n.objects) ≡ true

-- it waits for votes
abbrev pub is_voting : Machine → Bool
is_voting (commit.Voting p left) = true
is_voting _ = false

-- the commit may begin with this plan, whatever the disk half has done, as long as that opened no outcome
abbrev pub BeginsLater : ℕ → Office → Uid → commit.Plan → Type 0
BeginsLater x A u p = (C : Office) → Named C → C.names ≡ A.names → IsLater A.world C.world → C.world.disk.tops ≡ A.world.disk.tops →
    OpensNone A.world.disk C.world.disk → Allowed C.world (Begin (uid_number u) (plan_at x p)) → MayBegin C (uid_number u) (plan_at x p)

-- each commit that is past its votes may begin, where it hasn't
abbrev pub MayGoOn : ℕ → Office → Coord → Type 0
MayGoOn x A c = (u : Uid) (q : Doing) (m : Machine) → doing_of u c ≡ Some q → q.now ≡ Committing m → is_voting m ≡ false →
    BeginsLater x A u (plan_of m)

-- and who is decided was so before
abbrev pub IsOpenAfter : Change → ℕ → Kinds → Office → Seen → Type 0
IsOpenAfter o x tops A M = (B : Office) × Changes o A B × (B.world.disk.tops ≡ A.world.disk.tops) × SeesBoth x tops B M

-- ---- handlers

-- A message that was sent is taken, whichever it is.
abbrev pub MessagesKeepBoth : Type 0
MessagesKeepBoth = (x : ℕ) (tops : Kinds) (e k : ℕ) (d : Disk) (t v : Parts) (from : ℕ) (m : Message) (outs : List Effect) (A : Office)
    (M : Seen) → tops.walk ≡ None → KnowsNode tops k d t M → In (record { from = from; to = k; message = m }) M.sent
    → ((n : Naming) → t.naming ≡ Some n → CountsOn x tops d n m A) → MayGoOn x A v.coord → handle k d t from m ≡ Took v outs →
    SeesBoth x tops A (up k d t M)
    → Walks (IsSeenAfter (change_by x d t m) x tops A) e k outs (Up (IsSeenAfter (change_by x d t m) x tops A) k v) d M

-- Wherever a stop falls on it, who is decided was so before.
abbrev pub MessagesStopOpen : Type 0
MessagesStopOpen = (x : ℕ) (tops : Kinds) (e k : ℕ) (d : Disk) (t v : Parts) (from : ℕ) (m : Message) (outs : List Effect) (A : Office)
    (M : Seen) → tops.walk ≡ None → KnowsNode tops k d t M → In (record { from = from; to = k; message = m }) M.sent
    → ((n : Naming) → t.naming ≡ Some n → CountsOn x tops d n m A) → MayGoOn x A v.coord → handle k d t from m ≡ Took v outs →
    SeesBoth x tops A (up k d t M)
    → Walks (IsOpenAfter (change_by x d t m) x tops A) e k outs (λ c N. ⊤) d M

-- a coordinator's part of a step
abbrev pub DidKeepsBoth : ℕ → Kinds → Office → ℕ → ℕ → Disk → Parts → Did Coord → Seen → Type 0
DidKeepsBoth x tops A e k d t did M = BothWalk x tops A e k did.outs (with_coord t did.part) d M

-- An input about an action is taken that isn't refused.
abbrev pub InputsKeepBoth : Type 0
InputsKeepBoth = (hd : Header) (x : ℕ) (tops : Kinds) (e k : ℕ) (d : Disk) (t : Parts) (i : Input) (A : Office) (M : Seen) →
    tops.walk ≡ None → KnowsKinds tops → KnowsCoord tops d.intents t.coord → is_act i ≡ true → refusal_up hd i t.coord ≡ None
    → MayGoOn x A (let did = acts i d.intents t.coord in did.part) → SeesBoth x tops A (up k d t M) →
    DidKeepsBoth x tops A e k d t (acts i d.intents t.coord) M

-- An action begins.
abbrev pub ActionsKeepBoth : Type 0
ActionsKeepBoth = (x : ℕ) (tops : Kinds) (e k : ℕ) (d : Disk) (t : Parts) (l : Label) (g : Labelled) (how : Kind) (parent : Option Label)
    (above : Option Branch) (A : Office) (M : Seen) → tops.walk ≡ None → KnowsCoord tops d.intents t.coord
    → IsOfKind tops (next_uid t.coord.tree) how (path_below how above (next_uid t.coord.tree)) → SeesBoth x tops A (up k d t M) →
    DidKeepsBoth x tops A e k d t (begin_action l how parent above t.coord) (given l g M)

-- A node ticks.
abbrev pub TicksKeepBoth : Type 0
TicksKeepBoth = (x : ℕ) (tops : Kinds) (e k : ℕ) (d : Disk) (t : Parts) (A : Office) (M : Seen) → tops.walk ≡ None →
    KnowsCoord tops d.intents t.coord → AllByRecursion (λ u. was_begun u M.lines ≡ true) (holders d t) → SeesBoth x tops A (up k d t M)
    → BothWalk x tops A e k (tick_outs (record { number = k; disk = d; live = Some t }) t)
    (with_coord t (again_all t.coord.doings t.coord).part) d M
