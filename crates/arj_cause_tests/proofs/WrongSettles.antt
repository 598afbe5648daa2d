-- What a tick of a node and settles behind it must not leave: a call, an include or a commit of the node's that waits, as where a tick
-- forgets one kind of request, or a node an answer.
use Rattle.std.specs.Prelude.{◌≡◌, refl, List, [], ◌∷◌, true, false}
use Rattle.std.proofs.Common.{sym}
use Rattle.arj_class.specs.declared.op.Op.TheVariants as op
use Rattle.arj_journal.specs.declared.body.Body.{Body}
use Rattle.arj_journal.specs.declared.body.Body.TheVariants as body
use Rattle.arj_journal.specs.declared.body.FrameKind.TheVariants as frame
use Rattle.arj_journal.specs.declared.event.Event.{Event}
use Rattle.arj_journal.specs.declared.event.Event.TheVariants as event
use Rattle.arj_journal.specs.declared.event.FrameNo.TheVariants.{Number}
use Rattle.arj_model.specs.Past.{Past, nothing_yet}
use Rattle.arj_law_cause.specs.rounds.Rounds.{Did}
use Rattle.arj_law_cause.specs.rounds.Settles.{IsSettled, SettlesSo}
use Rattle.arj_text.specs.Label.{name}
use Rattle.arj_cause_tests.proofs.Words.{Wrote, b, end_from, l}
use Rattle.arj_cause_tests.proofs.WrongEvents.{begins, two_nodes}

abbrev did : Event → List Body → Did
did e bodies = record { event = e; bodies = bodies }

-- a tick that asks nothing again, and a settle
abbrev tick : Did
tick = did (event.Tick 1) []

abbrev settle : Did
settle = did event.Settle []

-- an action that asked, whose request was lost
abbrev asking : Wrote → Past
asking asked = end_from nothing_yet (begins ∷ asked ∷ (event.Lose (Number 1), body.Dropped 1 ∷ []) ∷ [])

abbrev calling : Wrote
calling = (event.Call (l 65) 1 (op.Add 1), body.Sent 1 1 2 frame.Bind ∷ [])

never_on : {A : Type 0} → false ≡ true → A
never_on is = absurd (cc is)

-- a call is left waiting
call_left : SettlesSo two_nodes (asking calling) 1 tick [] settle → ⊥
call_left s = never_on
    (s (record { node = refl; ticks = refl; only = refl; settles = refl; up = refl; whole = refl }) (name (l 65)) refl refl)

-- an include
include_left : SettlesSo two_nodes (asking (event.Include (l 65) 1 2, body.Sent 1 1 2 frame.Bind ∷ [])) 1 tick [] settle → ⊥
include_left s = never_on
    (s (record { node = refl; ticks = refl; only = refl; settles = refl; up = refl; whole = refl }) (name (l 65)) refl refl)

-- or a commit
commit_left : SettlesSo two_nodes (asking (event.Commit (l 65), body.Committing (l 65) ∷ body.Sent 1 1 2 frame.Vote ∷ [])) 1 tick []
    settle → ⊥
commit_left s = never_on
    (s (record { node = refl; ticks = refl; only = refl; settles = refl; up = refl; whole = refl }) (name (l 65)) refl refl)

-- a call of after the tick
later_left : SettlesSo two_nodes (end_from nothing_yet (begins ∷ [])) 1 tick
    (settle ∷ did (event.Call (l 65) 1 (op.Add 1)) (body.Sent 1 1 2 frame.Bind ∷ []) ∷ []) settle → ⊥
later_left s = never_on
    (s (record { node = refl; ticks = refl; only = refl; settles = refl; up = refl; whole = refl }) (name (l 65)) refl refl)

-- where a frame is lost since the tick, a node is down, or one halts, all of this may be left
lose_free : IsSettled two_nodes (end_from nothing_yet (begins ∷ calling ∷ [])) 1 tick
    (did (event.Lose (Number 1)) (body.Dropped 1 ∷ []) ∷ []) settle → ⊥
lose_free w = never_on w.only

down_free : IsSettled two_nodes (end_from nothing_yet (begins ∷ (event.Crash 2, body.Halted 2 ∷ []) ∷ [])) 1 tick [] settle → ⊥
down_free w = never_on w.up

halt_free : IsSettled two_nodes (end_from nothing_yet (begins ∷ [])) 1 tick [] (did event.Settle (body.Halted 2 ∷ [])) → ⊥
halt_free w = never_on (sym w.whole)
