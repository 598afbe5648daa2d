-- A start that no format leaves, and runs from it; and starts that are not formed, each in one place.
use Rattle.std.specs.Prelude.{refl, false, true, ℕ, ◌==◌, ◌≡◌, List, [], ◌∷◌, None, Some, map, replicate}
use Rattle.std.proofs.Common.{arith}
use Rattle.arj_base.specs.declared.state.Class.TheVariants as class
use Rattle.arj_base.specs.declared.state.Format.TheVariants as format
use Rattle.arj_base.specs.declared.state.ObjectState.{ObjectState}
use Rattle.arj_base.specs.declared.uid.Uid.{Uid}
use Rattle.arj_base.specs.Uid.{object}
use Rattle.arj_class.specs.declared.value.Value.TheVariants.{Account, Register}
use Rattle.arj_journal.specs.declared.body.Body.TheVariants as body
use Rattle.arj_journal.specs.declared.body.Kind.TheVariants as kind
use Rattle.arj_journal.specs.declared.event.Event.{Event}
use Rattle.arj_journal.specs.declared.event.Event.TheVariants as event
use Rattle.arj_journal.specs.declared.header.Header.{Header}
use Rattle.arj_journal.specs.declared.header.ObjectLine.{ObjectLine}
use Rattle.arj_start.specs.Start.{Start}
use Rattle.arj_promise.specs.Promise.{KeepsThePromise}
use Rattle.arj_promise.specs.Runs.{IsInForm, Move, Run, from_format, journal_by}
use Rattle.arj_promise.specs.Starts.{IsFormed}
use Rattle.arj_protocol.specs.Effect.{Before}
use Rattle.arj_protocol.specs.Step.{state_by}
use Rattle.arj_protocol.specs.World.{is_up, numbered, world_from}
use Rattle.arj_text.specs.declared.label.Label.{Label}

-- a label of one byte
abbrev pub letter : ℕ → Label
letter c = record { len = 1; text = c ∷ replicate 15 0; whole = refl; short = omega arith; zeros = refl }

-- an account whose server is node 1 and whose stores are nodes 1 and 2
abbrev pub account : ObjectLine
account = record { x = 1; value = Account 5; servers = 1 ∷ []; stores = 1 ∷ 2 ∷ [] }

-- three nodes, and that account
abbrev pub three_nodes : Header
three_nodes = record { nodes = 3; objects = account ∷ []; format = format.Two }

-- an action of the incarnation before the one in which node 1 is up
abbrev pub earlier : Uid
earlier = record { node = 1; inc = 1; num = 4 }

-- an action of the incarnation in which node 2 went down
abbrev pub fallen : Uid
fallen = record { node = 2; inc = 2; num = 1 }

-- what the account was before, in the older format
abbrev pub old_state : ObjectState
old_state = record {
  uid = object 1;
  class = class.Account;
  version = 2;
  writer = record { node = 1; inc = 1; num = 2 };
  payload = replicate 8 0;
  format = format.One;
}

-- The account was written three times and its entry once; node 3, which isn't listed any more, has an older state; each node is in its
-- second incarnation, and nodes 2 and 3 are down; and label A was given.
abbrev pub later : Start
later = record {
  marks = record {
    states = λ x. record { version = 3; writer = earlier };
    entries = λ x. record { version = 1; writer = fallen };
  };
  older = (3, old_state) ∷ [];
  incs = λ n. 1;
  up = λ n. n == 1;
  given = letter 65 ∷ [];
  events = 7;
  frames = 20;
}

-- an event into which no stop falls
abbrev pub plainly : Event → Move
plainly e = record { asked = record { event = e; arm = record { works = 1; how = Before } }; falls = [] }

-- action B begins at node 1
abbrev pub begin_b : Move
begin_b = plainly (event.Begin (letter 66) 1)

-- action A would
abbrev pub begin_a : Move
begin_a = plainly (event.Begin (letter 65) 1)

-- Node 2 comes back, A is refused, B begins and commits, and a quiesce follows.
abbrev pub some_moves : List Move
some_moves = plainly (event.Restart 2) ∷ begin_a ∷ begin_b ∷ plainly (event.Commit (letter 66)) ∷ plainly event.Quiesce ∷ []

-- the run from there with these moves
abbrev pub later_run : IsFormed three_nodes later → List Move → Run three_nodes
later_run formed moves = record { start = later; formed = formed; moves = moves }

-- The start is formed, node 1 alone is up, and a run from it is in form and keeps the promise. Its actions are of the incarnation in which
-- their node is up; and a label that was given before isn't given again.
pub record GoesOn : Type 0 where
  pub formed : IsFormed three_nodes later
  pub up : map (λ n. is_up (Some n)) (let w = world_from three_nodes later in w.nodes) ≡ true ∷ false ∷ false ∷ []
  pub in_form : IsInForm three_nodes (later_run formed some_moves)
  pub keeps : KeepsThePromise three_nodes (later_run formed some_moves)
  pub begins : journal_by three_nodes (later_run formed (begin_b ∷ []))
      ≡ numbered 1 (body.Began (letter 66) kind.Top (record { node = 1; inc = 2; num = 1 }) None ∷ [])
  pub refuses : journal_by three_nodes (later_run formed (begin_a ∷ [])) ≡ numbered 1 (body.Refused 4 ∷ [])

-- its last state at node 3 too, which isn't listed any more
abbrev pub last_there : Start
last_there = record later { older = (3, state_by format.Two (record { version = 3; writer = earlier }) account) ∷ [] }

-- in the older format, a register of more bytes than that holds at first
abbrev pub long_register : Header
long_register = record {
  nodes = 1;
  objects = record { x = 1; value = Register (replicate 65 0); servers = 1 ∷ []; stores = 1 ∷ [] } ∷ [];
  format = format.One;
}

-- The register was written, with nothing else at stores: so a run begins in form; and it doesn't where nothing was written.
pub record HasGrown : Type 0 where
  pub formed : IsFormed long_register (record later { older = [] })
  pub in_form : IsInForm long_register (record { start = record later { older = [] }; formed = formed; moves = [] })
  pub unwritten : (ms : List Move) → IsInForm long_register (from_format long_register ms) → ⊥

-- an older state that is neither below the object's last one nor that
abbrev pub not_below : Start
not_below = record later { older = (3, record old_state { version = 3 }) ∷ [] }

-- one at a store that is listed
abbrev pub at_listed : Start
at_listed = record later { older = (2, old_state) ∷ [] }

-- states by an action that may begin again in the run
abbrev pub begun_again : Start
begun_again = record later {
  marks = record {
    states = λ x. record { version = 3; writer = record { node = 1; inc = 2; num = 1 } };
    entries = λ x. record { version = 1; writer = fallen };
  };
}
