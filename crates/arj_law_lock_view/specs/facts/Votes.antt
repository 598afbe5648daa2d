-- What commits under way know of the votes on one object, in one state of its lock machine: kept by all that a coordinator does.
use Rattle.std.specs.Prelude.{◌≡◌, ◌≢◌, ℕ, true, List, Option, Some}
use Rattle.arj_protocol.specs.Words.{Asked, Kind, Label, Uid}
use Rattle.arj_protocol.specs.Ask.{Reply}
use Rattle.arj_protocol.specs.Asking.{again_all, begin_action, heard, waits_for_commit}
use Rattle.arj_protocol.specs.Commit.{Machine}
use Rattle.arj_protocol.specs.Coord.{Committing, Coord, Doing, doing_of}
use Rattle.arj_protocol.specs.Effect.{Intent}
use Rattle.arj_protocol.specs.Ending.{acked}
use Rattle.arj_protocol.specs.Step.{Input, acts, parent_of}
use Rattle.arj_protocol.specs.Step as input
use Rattle.arj_law_lock.specs.machine.Machine.{Run}
use Rattle.arj_law_lock.specs.machine.State.{State}
use Rattle.arj_law_lock_view.specs.view.Acts.{Acts}
use Rattle.arj_law_lock_view.specs.view.Copies.{Codes}
use Rattle.arj_law_lock_view.specs.view.Voted.{KnowsVotes, ShowsVotes, Side}

-- the object, as this top sees it
abbrev pub side_at : Acts → Codes → ℕ → Uid → Side
side_at act code x u = record { act = act; code = code; x = x; top = u }

-- each commit under way has of the object what was voted
abbrev pub AreVoted : Acts → Codes → ℕ → Coord → State → Type 0
AreVoted act code x c S = (u : Uid) (d : Doing) (m : Machine) → doing_of u c ≡ Some d → d.now ≡ Committing m →
    KnowsVotes (side_at act code x u) m S

-- An answer is heard: where a commit waits for it, it shows votes.
abbrev pub HeardIsVoted : Type 0
HeardIsVoted = (act : Acts) (code : Codes) (x from : ℕ) (a : Asked) (r : Reply) (intents : List (Uid × Intent)) (c : Coord) (S : State)
    → ((d : Doing) (m : Machine) → doing_of a.act c ≡ Some d → d.now ≡ Committing m → waits_for_commit from a r m ≡ true →
    ShowsVotes (side_at act code x a.act) m from r S)
    → AreVoted act code x c S → AreVoted act code x (let e = heard from a r intents c in e.part) S

-- An input about an action: a plan that a commit sets out with has no state, and uses each object once.
abbrev pub ActsAreVoted : Type 0
ActsAreVoted = (act : Acts) (code : Codes) (x : ℕ) (i : Input) (intents : List (Uid × Intent)) (c : Coord) (S : State) →
    ((l : Label) (k : Kind) (parent : Option Label) → i ≢ input.Begin l k parent)
    → AreVoted act code x c S → AreVoted act code x (let e = acts i intents c in e.part) S

-- beginnings, acknowledgements and what is asked again change no commit
abbrev pub OthersAreVoted : Type 0
OthersAreVoted = (act : Acts) (code : Codes) (x : ℕ) (c : Coord) (S : State) → AreVoted act code x c S
    → ((l : Label) (k : Kind) (parent : Option Label) →
    AreVoted act code x (let e = begin_action l k parent (parent_of parent c) c in e.part) S)
    × ((from : ℕ) (u : Uid) (intents : List (Uid × Intent)) → AreVoted act code x (let e = acked from u intents c in e.part) S)
    × ((ds : List Doing) → AreVoted act code x (let e = again_all ds c in e.part) S)

-- and so it stays as the machine goes on
abbrev pub StaysVoted : Type 0
StaysVoted = (act : Acts) (code : Codes) (x : ℕ) (c : Coord) (S T : State) → Run S T → AreVoted act code x c S → AreVoted act code x c T
