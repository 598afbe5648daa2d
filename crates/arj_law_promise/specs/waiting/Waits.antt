-- So much is known of whoever waits, in every run; and what it gives of requests for which somebody waits.
use Rattle.std.specs.Prelude.{Bool, List, Some, is_some, true, ℕ, ◌||◌, ◌≡◌}
use Rattle.arj_protocol.specs.Words.{Header, Uid, object}
use Rattle.arj_protocol.specs.Call.{AtLoad, Known, Steps}
use Rattle.arj_protocol.specs.Coord.{Calling, Coord, Doing, doing_of}
use Rattle.arj_protocol.specs.Effect.{Disk, held_at, holder_of}
use Rattle.arj_protocol.specs.Node.{Parts}
use Rattle.arj_law_runs.specs.addresses.Addresses.{AreAddressed}
use Rattle.arj_law_runs.specs.addresses.Binds.{BindsAreKnown}
use Rattle.arj_law_disk_view.specs.running.Entries.{HaveEntries}
use Rattle.arj_law_lock_view.specs.facts.Entries.{HasObject}
use Rattle.arj_law_serial.specs.whole.Called.{CallsAreOfHeader}
use Rattle.arj_law_runs.specs.kept.Worlds.{IsGood}
use Rattle.arj_law_lock_view.specs.facts.Requests.{RequestsAreKnown}
use Rattle.arj_law_lock_view.specs.facts.Uppers.{ObjectsAreHeld}
use Rattle.arj_law_parts.specs.moves.Keeps.{KeepsAsked}
use Rattle.arj_law_parts.specs.moves.Seen.{up}
use Rattle.arj_promise.specs.Runs.{HeaderFits, Seen}
use Rattle.arj_law_runs.specs.resting.Rounds.{AnswersWaits, HasCome}
use Rattle.arj_law_runs.specs.resting.Waits.{want_of_call}
use Rattle.arj_law_promise.specs.waiting.Asked.{HaveForms, WereAsked}
use Rattle.arj_law_lock_view.specs.facts.Homes.{RequestsAreHome}
use Rattle.arj_law_promise.specs.waiting.Writers.{WritersArePast}
use Rattle.arj_law_serial.specs.past.Told.{EndsArePast}

-- What calls wait for are objects of the header, and naming has each of these.
abbrev pub ObjectsAreKnown : Header → Seen → Type 0
ObjectsAreKnown hd M = ((IsGood M × BindsAreKnown M) × CallsAreOfHeader hd M) × ((x : ℕ) → HasObject hd x → HaveEntries x M)

-- States are of objects and of their classes, objects at naming are good, requests come from where their actors began, answers and what
-- servers have was asked for, bindings were made as lines say, and states of stores are by writers whose end was told.
abbrev pub AskersAreKnown : Header → Seen → Type 0
AskersAreKnown hd M = (((RequestsAreKnown M × HaveForms hd M) × ObjectsAreHeld M) × WereAsked M) × (RequestsAreHome M × WritersArePast M)

-- What is known in every run: whoever was told to have ended has ended; requests are of what waits; messages go to nodes of the header;
-- calls are on its objects; and what states, requests and answers are of.
abbrev pub WaitsAreKnown : Header → Seen → Type 0
WaitsAreKnown hd M = (((EndsArePast M × RequestsAreKnown M) × AreAddressed hd M) × ObjectsAreKnown hd M) × AskersAreKnown hd M

-- each handler keeps it
abbrev pub HandlersKeepWaits : Type 0
HandlersKeepWaits = (hd : Header) → HeaderFits hd → KeepsAsked hd (WaitsAreKnown hd)

-- ---- where a Load comes

-- the store is asked for a state that it has, or another action has prepared it
abbrev pub HasStored : Disk → ℕ → Type 0
HasStored d x = (is_some (holder_of (object x) d.store) || is_some (held_at (object x) d.store)) ≡ true

-- So it is where a Load that a call waits for has come. `settling/` gives it in every run.
abbrev pub LoadsFind : (Seen → Type 0) → Type 0
LoadsFind R = (j : ℕ) (d : Disk) (t : Parts) (M : Seen) (c : Coord) (u : Uid) (q : Doing) (s : Steps) (k : Known) (n : ℕ) (later : List ℕ) →
    R (up j d t M) → doing_of u c ≡ Some q → q.now ≡ Calling s → s.at ≡ AtLoad k n later → HasCome j (up j d t M) c (want_of_call u s) →
    HasStored d s.x

-- With it no request for which somebody waits is void, but one of a call that is overtaken. No other request needs anything.
abbrev pub KnownGive : Type 0
KnownGive = (hd : Header) → HeaderFits hd → (test : Seen → Bool) → LoadsFind (λ M. WaitsAreKnown hd M × (test M ≡ true)) →
    AnswersWaits hd (λ M. WaitsAreKnown hd M × (test M ≡ true))
