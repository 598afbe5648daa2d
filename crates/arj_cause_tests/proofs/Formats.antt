-- A run that begins with states in format one: the protocol writes this journal, each line has its cause, and the formats of what nodes
-- hold at its end are those of the last states.
use Rattle.std.specs.Prelude.{◌≡◌, refl, ℕ, List, [], ◌∷◌, ◌++◌, map, take, replicate, codes, true, None, option_map}
use Rattle.std.specs.List.{filter_map}
use Rattle.arj_base.specs.declared.mode.Mode.TheVariants.{Write}
use Rattle.arj_base.specs.declared.mode.End.TheVariants.{Commit}
use Rattle.arj_base.specs.declared.state.Class.TheVariants as class
use Rattle.arj_base.specs.declared.state.Format.{Format}
use Rattle.arj_base.specs.declared.state.Format.TheVariants as format
use Rattle.arj_base.specs.declared.state.ObjectState.{ObjectState}
use Rattle.arj_base.specs.declared.uid.Uid.{Uid}
use Rattle.arj_base.specs.Uid.{entry, nobody, object}
use Rattle.arj_class.specs.declared.op.Op.TheVariants as op
use Rattle.arj_class.specs.declared.value.Value.TheVariants as value
use Rattle.arj_journal.specs.declared.body.Body.TheVariants as body
use Rattle.arj_journal.specs.declared.body.FrameKind.TheVariants as frame
use Rattle.arj_journal.specs.declared.body.Kind.TheVariants as kind
use Rattle.arj_journal.specs.declared.body.Part.TheVariants as part
use Rattle.arj_journal.specs.declared.body.Role.TheVariants as role
use Rattle.arj_journal.specs.declared.event.Event.TheVariants as event
use Rattle.arj_protocol.specs.Effect.{Before, held_at}
use Rattle.arj_protocol.specs.World as world
use Rattle.arj_protocol.specs.World.{World, run_all}
use Rattle.arj_model.specs.Last.{entry_state, last_state}
use Rattle.arj_cause_tests.proofs.Words.{Run, b, events, is_followed, journal, l, lacking, object_line, run, u}

-- the payload of a counter below 256
abbrev counter : ℕ → List ℕ
counter n = replicate 7 0 ++ n ∷ []

-- a store is included, and then the object is written
abbrev pub older : Run
older = run
    (record { nodes = 3; objects = object_line 1 (value.Counter 0) (1 ∷ []) (2 ∷ []) ∷ []; format = format.One })
    ((event.Begin (l 73) 1, body.Began (l 73) kind.Top (u 1 1 1) None ∷ [])
    ∷ (event.Include (l 73) 1 3, body.Granted 1 (u 1 1 1) (u 0 1 1) Write ∷ body.Sent 1 1 2 frame.Load ∷ [])
    ∷ (event.Settle, body.Got 1 ∷ body.Sent 2 2 1 frame.Loaded ∷ body.Got 2 ∷ body.Includes (l 73) 1 3 ∷ [])
    ∷ (event.Commit (l 73), body.Committing (l 73) ∷ body.Sent 3 1 3 frame.Prepare ∷ [])
    ∷ (
      event.Settle,
      body.Got 3 ∷ body.Prepared 3 (u 1 1 1) role.Store ∷ body.Sent 4 3 1 frame.Prepared ∷ body.Got 4 ∷ body.Prepared 1 (u 1 1 1) role.Names
          ∷ body.Committed (l 73) ∷ body.Sent 5 1 2 frame.Told ∷ body.Sent 6 1 3 frame.Told ∷ body.Done 1 (u 1 1 1) role.Names Commit
          ∷ body.Told 1 (u 1 1 1) Commit part.Naming ∷ body.Got 5 ∷ body.Got 6 ∷ body.Done 3 (u 1 1 1) role.Store Commit
          ∷ body.Sent 7 3 1 frame.Acked ∷ body.Got 7 ∷ [],
    )
    ∷ (
      event.Show 1,
      body.Entry 1 1 (1 ∷ []) (2 ∷ 3 ∷ []) ∷ body.Copy 2 1 0 nobody (counter 0) ∷ body.Copy 3 1 0 nobody (counter 0) ∷ [],
    )
    ∷ (event.Begin (l 66) 1, body.Began (l 66) kind.Top (u 1 1 2) None ∷ [])
    ∷ (
      event.Call (l 66) 1 (op.Add 1),
      body.Granted 1 (u 1 1 2) (u 0 1 1) Write ∷ body.Bound 1 (b 1 1) 1 ∷ body.Sent 8 1 2 frame.Load ∷ [],
    )
    ∷ (
      event.Settle,
      body.Got 8 ∷ body.Sent 9 2 1 frame.Loaded ∷ body.Got 9 ∷ body.Active 1 1 (b 1 1) ∷ body.Lowered 1 (u 1 1 2) (u 0 1 1)
          ∷ body.Granted 1 (u 1 1 2) (u 0 0 1) Write ∷ body.Ok (l 66) 1 (op.Add 1) (codes "done") ∷ [],
    )
    ∷ (event.Commit (l 66), body.Committing (l 66) ∷ body.Sent 10 1 2 frame.Prepare ∷ body.Sent 11 1 3 frame.Prepare ∷ [])
    ∷ (
      event.Settle,
      body.Got 10 ∷ body.Prepared 2 (u 1 1 2) role.Store ∷ body.Sent 12 2 1 frame.Prepared ∷ body.Got 11
          ∷ body.Prepared 3 (u 1 1 2) role.Store ∷ body.Sent 13 3 1 frame.Prepared ∷ body.Got 12 ∷ body.Got 13 ∷ body.Committed (l 66)
          ∷ body.Sent 14 1 2 frame.Told ∷ body.Sent 15 1 3 frame.Told ∷ body.Told 1 (u 1 1 2) Commit part.Naming
          ∷ body.Told 1 (u 1 1 2) Commit part.Server ∷ body.Got 14 ∷ body.Done 2 (u 1 1 2) role.Store Commit ∷ body.Sent 16 2 1 frame.Acked
          ∷ body.Got 15 ∷ body.Done 3 (u 1 1 2) role.Store Commit ∷ body.Sent 17 3 1 frame.Acked ∷ body.Got 16 ∷ body.Got 17 ∷ [],
    )
    ∷ (
      event.Show 1,
      body.Entry 1 1 (1 ∷ []) (2 ∷ 3 ∷ []) ∷ body.Copy 2 1 1 (u 1 1 2) (counter 1) ∷ body.Copy 3 1 1 (u 1 1 2) (counter 1) ∷ [],
    )
    ∷ [])

older_has_causes : lacking older ≡ []
older_has_causes = refl

older_followed : is_followed older ≡ true
older_followed = refl

-- its first events
abbrev first : ℕ → Run
first n = run older.header (take n older.wrote)

-- what nodes do at them
abbrev does : Run → World
does r = run_all (map (λ e. record { event = e; arm = record { works = 0; how = Before } }) (events r)) (world.format r.header)

older_done : (let w = does older in w.lines) ≡ journal older
older_done = refl

-- the formats of the object's states, by their nodes, and of its entry
abbrev formats : World → List Format × List Format
formats w = (
  filter_map (λ n. option_map (λ s. s.format) (held_at (object 1) n.disk.store)) w.nodes,
  filter_map (λ n. option_map (λ s. s.format) (held_at (entry 1) n.disk.names)) w.nodes,
)

-- The state that is included keeps its format; what is written, an entry too, is in format two.
older_formats :
    map (λ n. formats (does (first n))) (0 ∷ 6 ∷ 12 ∷ [])
    ≡ (format.One ∷ [], format.One ∷ []) ∷ (format.One ∷ format.One ∷ [], format.Two ∷ []) ∷ (format.Two ∷ format.Two ∷ [], format.Two ∷ []) ∷ []
older_formats = refl

-- so are the last states
abbrev state_is : Format → ℕ → Uid → ℕ → ObjectState
state_is f version writer n =
    record { uid = object 1; class = class.Counter; version = version; writer = writer; payload = counter n; format = f }

abbrev entry_is : Format → ℕ → Uid → List ℕ → ObjectState
entry_is f version writer stores =
    record { uid = entry 1; class = class.Entry; version = version; writer = writer; payload = 1 ∷ 1 ∷ stores; format = f }

older_states :
    map (λ n. last_state older.header (journal (first n)) 1) (0 ∷ 6 ∷ 12 ∷ [])
    ≡ state_is format.One 0 nobody 0 ∷ state_is format.One 0 nobody 0 ∷ state_is format.Two 1 (u 1 1 2) 1 ∷ []
older_states = refl

older_entries :
    map (λ n. entry_state older.header (journal (first n)) 1) (0 ∷ 6 ∷ 12 ∷ [])
    ≡ entry_is format.One 0 nobody (1 ∷ 2 ∷ []) ∷ entry_is format.Two 1 (u 1 1 1) (2 ∷ 2 ∷ 3 ∷ []) ∷ entry_is format.Two 1 (u 1 1 1) (2 ∷ 2 ∷ 3 ∷ []) ∷ []
older_entries = refl

-- An included state isn't packed anew, and an entry that changed isn't in the older format.
not_anew : last_state older.header (journal (first 6)) 1 ≡ state_is format.Two 0 nobody 0 → ⊥
not_anew is = let same : format.One ≡ format.Two = λ i. (is i).format in cc same

not_older : entry_state older.header (journal older) 1 ≡ entry_is format.One 1 (u 1 1 1) (2 ∷ 2 ∷ 3 ∷ []) → ⊥
not_older is = let same : format.Two ≡ format.One = λ i. (is i).format in cc same
