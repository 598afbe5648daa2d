-- Handlers followed from where both halves are seen.
use Rattle.std.specs.Prelude.{◌≡◌, ◌+◌, ◌++◌, ℕ, Bool, true, List, Option, None, Some}
use Rattle.std.specs.List.{AllByRecursion}
use Rattle.arj_protocol.specs.Words.{Kind, Label, Message, Uid, Header, asks}
use Rattle.arj_protocol.specs.Asking.{again_all, begin_action}
use Rattle.arj_protocol.specs.Coord.{Coord}
use Rattle.arj_protocol.specs.Effect.{Disk, Did, Effect, Intent}
use Rattle.arj_protocol.specs.Follow.{tick_outs}
use Rattle.arj_protocol.specs.Node.{Parts, Took, handle, holders, prepared_actions, with_coord}
use Rattle.arj_protocol.specs.Order.{at_uid, uid_number, uid_set}
use Rattle.arj_protocol.specs.Step.{Input, acts, parts_in, refusal_up, restart_outs}
use Rattle.arj_protocol.specs.Tree.{Branch, next_uid, path_below}
use Rattle.arj_protocol.specs.World.{Labelled}
use Rattle.arj_law_disk.specs.machine.Guards.{Note, Decides}
use Rattle.arj_law_disk.specs.machine.Names.{Office}
use Rattle.arj_law_parts.specs.moves.Keeps.{is_act}
use Rattle.arj_law_parts.specs.moves.Seen.{In, down, given, up}
use Rattle.arj_promise.specs.Runs.{Seen}
use Rattle.arj_law_disk_view.specs.view.Coordinating.{ConfirmsAreBooked, KnowsNode, NotesInput, NotesMessage}
use Rattle.arj_law_disk_view.specs.view.Knows.{KnowsCoord, KnowsKinds, IsOfKind}
use Rattle.arj_law_disk_view.specs.view.Sees.{Kinds, was_begun}
use Rattle.arj_law_disk_view.specs.names.Both.{DisksWalk, SeesBoth}

-- a handler's walk is the coordinator's
abbrev pub DidIsFollowed : (Note → Bool) → ℕ → Kinds → Office → ℕ → ℕ → Disk → Parts → Did Coord → Seen → Type 0
DidIsFollowed f x tops A e k d t did M = DisksWalk f x tops A e k did.outs (with_coord t did.part) d M

-- An action begins; an input about an action that isn't refused is taken, and what it notes may be noted; and a tick.
abbrev pub ActionsAreFollowed : Type 0
ActionsAreFollowed = (x : ℕ) (tops : Kinds) (f : Note → Bool) (e k : ℕ) (d : Disk) (t : Parts) (l : Label) (g : Labelled) (how : Kind)
    (parent : Option Label) (above : Option Branch) (A : Office) (M : Seen) → KnowsCoord tops d.intents t.coord
    → IsOfKind tops (next_uid t.coord.tree) how (path_below how above (next_uid t.coord.tree)) → SeesBoth x tops A (up k d t M) →
    DidIsFollowed f x tops A e k d t (begin_action l how parent above t.coord) (given l g M)

-- an input about an action is followed by both halves
abbrev pub InputsAreFollowed : Type 0
InputsAreFollowed = (hd : Header) (x : ℕ) (tops : Kinds) (f : Note → Bool) (e k : ℕ) (d : Disk) (t : Parts) (i : Input) (A : Office)
    (M : Seen) → KnowsKinds tops → KnowsCoord tops d.intents t.coord → is_act i ≡ true → refusal_up hd i t.coord ≡ None
    → NotesInput (Some (record { from = A.world; noted = f })) t.coord i → SeesBoth x tops A (up k d t M) →
    DidIsFollowed f x tops A e k d t (acts i d.intents t.coord) M

-- so is a tick
abbrev pub TicksAreFollowed : Type 0
TicksAreFollowed = (x : ℕ) (tops : Kinds) (f : Note → Bool) (e k : ℕ) (d : Disk) (t : Parts) (A : Office) (M : Seen) →
    KnowsCoord tops d.intents t.coord → AllByRecursion (λ u. was_begun u M.lines ≡ true) (holders d t) → SeesBoth x tops A (up k d t M)
    → DisksWalk f x tops A e k (tick_outs (record { number = k; disk = d; live = Some t }) t)
    (with_coord t (again_all t.coord.doings t.coord).part) d M

-- A message that was sent is taken: what it notes may be noted, and a Confirm which naming checks anew is booked.
abbrev pub MessagesAreFollowed : Type 0
MessagesAreFollowed = (x : ℕ) (tops : Kinds) (f : Note → Bool) (e k : ℕ) (d : Disk) (t v : Parts) (from : ℕ) (m : Message) (outs : List
    Effect) (A : Office) (M : Seen) → KnowsNode tops k d t M → NotesMessage (Some (record { from = A.world; noted = f })) t.coord m
    → In (record { from = from; to = k; message = m }) M.sent → ConfirmsAreBooked d t A.world (asks m) →
    handle k d t from m ≡ Took v outs → SeesBoth x tops A (up k d t M) → DisksWalk f x tops A e k outs v d M

-- A node restarts, where decisions of its records' tops may be noted.
abbrev pub RestartsAreFollowed : Type 0
RestartsAreFollowed = (x : ℕ) (tops : Kinds) (f : Note → Bool) (e k : ℕ) (hd : Header) (d : Disk) (A : Office) (M : Seen) →
    AllByRecursion (λ u. was_begun u M.lines ≡ true) (uid_set (prepared_actions d.store ++ prepared_actions d.names))
    → ((u : Uid) (i : Intent) → at_uid u d.intents ≡ Some i → f (Decides (uid_number u)) ≡ true) → SeesBoth x tops A (down k d M) →
    DisksWalk f x tops A e k (restart_outs hd k (d.inc + 1) d) (parts_in k (d.inc + 1) d) d M
