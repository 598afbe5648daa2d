-- Requests of one action that go out, of which its root takes note.
use Rattle.std.specs.Prelude.{ℕ, Bool, false, List, [], ◌∷◌, map}
use Rattle.arj_asking.specs.declared.requests.Question.{Question}
use Rattle.arj_asking.specs.declared.requests.Questions.{Questions}
use Rattle.arj_asking.specs.declared.requests.Questions.TheVariants.{Nothing, One, Each}
use Rattle.arj_commit.specs.Tolds.{sent_to}
use Rattle.arj_protocol.specs.Asking.{again_now}
use Rattle.arj_protocol.specs.Coord.{Coord, Doing, Now, on_doing, on_root, with_went}
use Rattle.arj_protocol.specs.Effect.{Did, Send}
use Rattle.arj_protocol.specs.Tree.{root_of}
use Rattle.arj_protocol.specs.Words.{Uid, Path, Message, uids_of}

-- a request goes to a node
abbrev pub goes_to : Path → Bool → ℕ → Coord → Coord
goes_to p invoke n c = on_root (root_of p) (with_went (record { path = uids_of p; node = n; invoke = invoke })) c

-- each of these, which aren't Invokes, goes to its node
abbrev pub go_to : Path → List (ℕ × Message) → Coord → Coord
go_to p [] c = c
go_to p (r ∷ rs) c = go_to p rs (goes_to p false r.0 c)

-- the request goes to its node
abbrev pub asked : Question → Coord → Did Coord
asked q c = record { part = goes_to q.path q.invoke q.node c; outs = Send q.node q.request ∷ [] }

-- these requests go, each to its node
abbrev pub asked_each : Path → List (ℕ × Message) → Coord → Did Coord
asked_each p rs c = record { part = go_to p rs c; outs = map sent_to rs }

-- what is asked goes
abbrev pub asked_by : Questions → Coord → Did Coord
asked_by Nothing c = record { part = c; outs = [] }
asked_by (One q) c = asked q c
asked_by (Each p rs) c = asked_each p rs c

-- an action waits for this from now on, its last request having this number; and what it waits for is asked
abbrev pub waits_now : Uid → ℕ → Now → Coord → Did Coord
waits_now u req now c = again_now (on_doing u (λ (d : Doing). record d { req = req; now = now }) c) now
