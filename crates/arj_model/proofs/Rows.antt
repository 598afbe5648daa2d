-- The definitions tried on the worked runs: each value is known beforehand, and another one would be refused.
use Rattle.std.specs.Prelude.{◌≡◌, refl, ℕ, ◌+◌, List, [], ◌∷◌, ◌++◌, length, map, filter, codes, Bool, true, false, Some, None}
use Rattle.std.specs.Prelude.{MatchOption, ⊤}
use Rattle.std.specs.List.{list_all}
use Rattle.std.proofs.Common.{arith, sym, inl, inr}
use Rattle.std.proofs.lemmas.Fmt.{decimal_digit}
use Rattle.arj_base.specs.declared.uid.Uid.{Uid}
use Rattle.arj_base.specs.declared.mode.Mode.TheVariants.{Read, Write}
use Rattle.arj_base.specs.declared.state.Class.TheVariants as class
use Rattle.arj_base.specs.declared.state.Format.TheVariants as format
use Rattle.arj_base.specs.declared.state.ObjectState.{ObjectState}
use Rattle.arj_base.specs.Uid.{object, entry, nobody}
use Rattle.arj_class.specs.declared.op.Op.TheVariants.{Get, Add, Set}
use Rattle.arj_class.specs.declared.value.Value.TheVariants.{Counter, Register}
use Rattle.arj_journal.specs.declared.body.Body.{Body}
use Rattle.arj_journal.specs.declared.body.Body.TheVariants as body
use Rattle.arj_journal.specs.declared.body.Cause.TheVariants as cause
use Rattle.arj_journal.specs.declared.body.Kind.TheVariants as kind
use Rattle.arj_journal.specs.declared.body.Line.{Line}
use Rattle.arj_journal.specs.declared.event.Event.{Event}
use Rattle.arj_journal.specs.declared.event.Event.TheVariants as event
use Rattle.arj_journal.specs.declared.header.Header.{Header}
use Rattle.arj_model.specs.Actions.{acts, is_over}
use Rattle.arj_model.specs.Calls.{tops, committed_calls}
use Rattle.arj_model.specs.Serial.{Serial, serial_calls}
use Rattle.arj_model.specs.Last.{first_values, last_state, listed, entry_state}
use Rattle.arj_model.specs.Past.{Past, nothing_yet, asked_of, next, block, Along}
use Rattle.arj_start.specs.Start.{fresh}
use Rattle.arj_model.specs.Refusals.{refusal}
use Rattle.arj_model.specs.Follows.{IsRefusedDoomed, is_limited, AnswersFit, Step, Accepted, AreEnding, Follows, Runs}
use Rattle.arj_model.specs.Own.{Begins, Ends, may_stand, halts_fit}
use Rattle.arj_model.proofs.Journals.{A, B, C, N, uid, counter, began, ok, lines_of, one_node, three_nodes, smallest_bodies, smallest}
use Rattle.arj_model.proofs.Journals.{conflict, nested_abort, older_image, independent, serializing, to_inclusion, exclusion, inclusion}
use Rattle.arj_model.proofs.Journals.{stop_at_decision_done, unit_round_a_top, many_includes}

-- What a journal shows: the numbers of the committed tops; of each action, the newest first, whether it is over; the
-- places of the surviving calls of committed tops; their answers in serial order; and of object 1 the last state, the
-- listed stores and the naming entry.
pub record Shown : Type 0 where
  pub committed : List ℕ
  pub over : List Bool
  pub calls : List ℕ
  pub answers : List (List ℕ)
  pub last : ObjectState
  pub stores : List ℕ
  pub naming : ObjectState

abbrev pub shown : Header → List Line → Shown
shown header lines = record {
  committed = map (λ t. t.id) (tops lines);
  over = map (is_over lines) (acts lines);
  calls = map (λ c. c.at) (committed_calls lines);
  answers = map (λ c. c.answer) (serial_calls lines);
  last = last_state header lines 1;
  stores = listed header lines 1;
  naming = entry_state header lines 1;
}

abbrev pub shows : List ℕ → List Bool → List ℕ → List (List ℕ) → ObjectState → List ℕ → ObjectState → Shown
shows committed over calls answers last stores naming =
    record { committed = committed; over = over; calls = calls; answers = answers; last = last; stores = stores; naming = naming }

-- version, writer and value of the counter; version, writer and payload of the entry
abbrev pub last_is : ℕ → Uid → ℕ → ObjectState
last_is version writer value = record { uid = object 1; class = class.Counter; version = version; writer = writer; payload = counter value; format = format.Two }

abbrev entry_is : ℕ → Uid → List ℕ → ObjectState
entry_is version writer payload = record { uid = entry 1; class = class.Entry; version = version; writer = writer; payload = payload; format = format.Two }

abbrev pub first_entry : ObjectState
first_entry = entry_is 0 nobody (1 ∷ 1 ∷ 1 ∷ 1 ∷ [])

abbrev done : List ℕ
done = codes "done"

smallest_shows :
    shown (one_node 0) smallest ≡ shows (0 ∷ 1 ∷ []) (true ∷ true ∷ []) (6 ∷ 16 ∷ []) (done ∷ codes "5" ∷ []) (last_is 1 (uid 1) 5) (1 ∷ []) first_entry
smallest_shows = refl

conflict_shows :
    shown (one_node 0) conflict ≡ shows (0 ∷ 1 ∷ []) (true ∷ true ∷ []) (6 ∷ 17 ∷ []) (done ∷ done ∷ []) (last_is 2 (uid 2) 5) (1 ∷ []) first_entry
conflict_shows = refl

nested_abort_shows :
    shown (one_node 0) nested_abort ≡ shows (0 ∷ []) (true ∷ true ∷ []) (6 ∷ 12 ∷ []) (done ∷ codes "4" ∷ []) (last_is 1 (uid 1) 4) (1 ∷ []) first_entry
nested_abort_shows = refl

older_image_shows : shown (one_node 7) older_image ≡ shows [] (false ∷ true ∷ true ∷ true ∷ []) [] [] (last_is 0 nobody 7) (1 ∷ []) first_entry
older_image_shows = refl

independent_shows : shown (one_node 0) independent ≡ shows [] (true ∷ false ∷ []) [] [] (last_is 0 nobody 0) (1 ∷ []) first_entry
independent_shows = refl

serializing_shows :
    shown (one_node 0) serializing ≡ shows (1 ∷ 3 ∷ []) (true ∷ false ∷ true ∷ true ∷ []) (7 ∷ 19 ∷ []) (done ∷ done ∷ []) (last_is 2 (uid 4) 2) (1 ∷ []) first_entry
serializing_shows = refl

exclusion_shows :
    shown three_nodes exclusion ≡ shows (0 ∷ []) (true ∷ []) (10 ∷ []) (done ∷ []) (last_is 1 (uid 1) 1) (2 ∷ []) (entry_is 1 (uid 1) (1 ∷ 1 ∷ 1 ∷ 2 ∷ []))
exclusion_shows = refl

inclusion_shows :
    shown three_nodes (lines_of to_inclusion)
    ≡ shows (0 ∷ 1 ∷ []) (true ∷ true ∷ []) (10 ∷ []) (done ∷ []) (last_is 1 (uid 1) 1) (2 ∷ 3 ∷ []) (entry_is 2 (uid 2) (1 ∷ 1 ∷ 2 ∷ 2 ∷ 3 ∷ []))
inclusion_shows = refl

second_inclusion_shows :
    shown three_nodes inclusion
    ≡ shows (0 ∷ 1 ∷ []) (true ∷ true ∷ true ∷ []) (10 ∷ []) (done ∷ []) (last_is 1 (uid 1) 1) (2 ∷ 3 ∷ []) (entry_is 2 (uid 2) (1 ∷ 1 ∷ 2 ∷ 2 ∷ 3 ∷ []))
second_inclusion_shows = refl

stop_at_decision_done_shows :
    shown three_nodes stop_at_decision_done
    ≡ shows (0 ∷ []) (true ∷ []) (10 ∷ []) (done ∷ []) (last_is 1 (uid 1) 1) (2 ∷ 3 ∷ []) (entry_is 0 nobody (1 ∷ 1 ∷ 2 ∷ 2 ∷ 3 ∷ []))
stop_at_decision_done_shows = refl

-- The unit of S stands at its last constituent's commit, so B comes first; what an aborted action's child did is gone.
unit_round_a_top_shows :
    shown (one_node 0) unit_round_a_top
    ≡ shows (1 ∷ 2 ∷ 3 ∷ []) (true ∷ true ∷ true ∷ true ∷ true ∷ false ∷ []) (2 ∷ 6 ∷ 15 ∷ []) (codes "0" ∷ done ∷ codes "1" ∷ []) (last_is 1 (uid 2) 1) (1 ∷ []) first_entry
unit_round_a_top_shows = refl

-- Stores go first; those that are left of the surviving includes follow in increasing order, each once.
many_includes_show :
    shown three_nodes many_includes
    ≡ shows (0 ∷ []) (true ∷ true ∷ true ∷ []) [] [] (last_is 0 nobody 0) (3 ∷ 1 ∷ 5 ∷ []) (entry_is 1 (uid 1) (1 ∷ 1 ∷ 3 ∷ 3 ∷ 1 ∷ 5 ∷ []))
many_includes_show = refl

-- Each is serial.

infixr 20 ◌&◌
pub ◌&◌ : {P Q : Type 0} → P → Q → P × Q
p & q = (p, q)

smallest_serial : Serial (first_values (one_node 0)) smallest
smallest_serial = refl & decimal_digit 5 (omega arith) & tt

conflict_serial : Serial (first_values (one_node 0)) conflict
conflict_serial = refl & refl & tt

nested_abort_serial : Serial (first_values (one_node 0)) nested_abort
nested_abort_serial = refl & decimal_digit 4 (omega arith) & tt

none_serial : Serial (first_values (one_node 7)) older_image × Serial (first_values (one_node 0)) independent
none_serial = (tt, tt)

serializing_serial : Serial (first_values (one_node 0)) serializing × Serial (first_values (one_node 0)) unit_round_a_top
serializing_serial = (refl & refl & tt, decimal_digit 0 (omega arith) & refl & decimal_digit 1 (omega arith) & tt)

stores_serial : Serial (first_values three_nodes) exclusion × Serial (first_values three_nodes) inclusion × Serial (first_values three_nodes) stop_at_decision_done
stores_serial = (refl & tt, refl & tt, refl & tt)

-- Runs on one node, with the lines that such a run writes today: events, and the lines of each.

abbrev pub is_built : Body → Bool
is_built (body.Began l k u p) = true
is_built (body.Ok l x op answer) = true
is_built (body.Conflict l holder mode n) = true
is_built (body.Committing l) = true
is_built (body.Committed l) = true
is_built _ = false

-- what holds at each event, of the lines that it wrote
abbrev pub Steps : (Past → Event → List Body → Type 0) → Past → List Event → List (List Body) → Type 0
Steps P past [] [] = ⊤
Steps P past (e ∷ es) (bodies ∷ rest) = P past e bodies × Steps P (next past e bodies) es rest
Steps P past _ _ = ⊥

-- the run after these events
abbrev pub past_from : Past → List Event → List (List Body) → Past
past_from past (e ∷ es) (bodies ∷ rest) = past_from (next past e bodies) es rest
past_from past _ _ = past

along :
    (P : Past → Event → List Body → Type 0) (past : Past) (es : List Event) (blocks : List (List Body))
    → Steps P past es blocks → Along P past es (past_from past es blocks)
along P past [] [] steps = refl
along P past [] (bodies ∷ rest) steps = elim steps [ ]
along P past (e ∷ es) [] steps = elim steps [ ]
along P past (e ∷ es) (bodies ∷ rest) steps = (bodies, steps.0, along P (next past e bodies) es rest steps.1)

pub runs :
    (P : Past → Event → List Body → Type 0) (es : List Event) (blocks : List (List Body)) (ending : List Line)
    → Steps P nothing_yet es blocks → AreEnding (length es) ending → Runs P fresh es ((past_from nothing_yet es blocks).lines ++ ending)
runs P es blocks ending steps last = (past_from nothing_yet es blocks, ending, along P nothing_yet es blocks steps, refl, last)

pub accepted :
    {header : Header} {past : Past} {e : Event} (own others last : List Body)
    → Begins header past e own → Ends e own last → list_all (may_stand e) others ≡ true → halts_fit past.lines e others ≡ true
    → AnswersFit past.start (past.accepted ++ asked_of past e ∷ []) (past.lines ++ block (past.count + 1) own) (past.count + 1) others
    → Accepted header past e (own ++ (others ++ last))
accepted own others last begins ends only halts answers =
    record {
      own = own;
      others = others;
      last = last;
      parts = refl;
      begins = begins;
      ends = ends;
      only = only;
      halts = halts;
      answers =
          answers;
    }

pub went :
    {header : Header} {past : Past} {e : Event} {bodies : List Body}
    → is_limited past.lines ≡ false →
    MatchOption (refusal header past e) (Accepted header past e bodies) (λ c. bodies ≡ body.Refused c ∷ []) → Step header past e bodies
went goes_on lines = record { goes_on = goes_on; lines = inl lines }

pub went_doomed : {header : Header} {past : Past} {e : Event} {bodies : List Body} → is_limited past.lines ≡ false →
    IsRefusedDoomed header past e bodies → Step header past e bodies
went_doomed goes_on lines = record { goes_on = goes_on; lines = inr lines }

abbrev smallest_events : List Event
smallest_events = event.Begin A 1 ∷ event.Call A 1 (Add 5) ∷ event.Commit A ∷ event.Begin B 1 ∷ event.Call B 1 Get ∷ event.Commit B ∷ []

abbrev first_smallest : List (List Body)
first_smallest = map (filter is_built) smallest_bodies

smallest_follows : Follows (one_node 0) fresh smallest_events (lines_of first_smallest)
smallest_follows = runs (Step (one_node 0)) smallest_events first_smallest [] (
    went refl (accepted (began A kind.Top 1 None ∷ []) [] [] refl refl refl refl tt)
    & went refl (accepted [] (ok A (Add 5) done ∷ []) [] refl (inl refl) refl refl (((refl, refl), (Counter 0, refl, refl)), tt))
    & went refl (accepted (body.Committing A ∷ []) (body.Committed A ∷ []) [] (inl refl) (inl refl) refl refl (refl, tt))
    & went refl (accepted (began B kind.Top 2 None ∷ []) [] [] refl refl refl refl tt)
    & went refl (accepted [] (ok B Get (codes "5") ∷ []) [] refl (inl refl) refl refl (((refl, refl), (Counter 5, refl, sym (decimal_digit 5 (omega arith)))), tt))
    & went refl (accepted (body.Committing B ∷ []) (body.Committed B ∷ []) [] (inl refl) (inl refl) refl refl (refl, tt))
    & tt) tt

-- A write is refused while another reads, a raised lock keeps its place, and an end lets the locks go.
abbrev raise_events : List Event
raise_events =
    event.Begin A 1 ∷ event.Begin B 1 ∷ event.Call A 1 Get ∷ event.Call B 1 Get ∷ event.Call A 1 (Set 1) ∷ event.Begin C 1 ∷ event.Abort B ∷ event.Call A 1 (Set 1) ∷ event.Call C 1 Get ∷ []

abbrev raise : List (List Body)
raise =
    (began A kind.Top 1 None ∷ []) ∷ (began B kind.Top 2 None ∷ []) ∷ (ok A Get (codes "0") ∷ []) ∷ (ok B Get (codes "0") ∷ []) ∷ (body.Conflict A (uid 2) Read 1 ∷ [])
    ∷ (began C kind.Top 3 None ∷ []) ∷ (body.Aborted B cause.Asked ∷ []) ∷ (ok A (Set 1) done ∷ []) ∷ (body.Conflict C (uid 1) Write 1 ∷ []) ∷ []

raise_follows : Follows (one_node 0) fresh raise_events (lines_of raise)
raise_follows = runs (Step (one_node 0)) raise_events raise [] (
    went refl (accepted (began A kind.Top 1 None ∷ []) [] [] refl refl refl refl tt)
    & went refl (accepted (began B kind.Top 2 None ∷ []) [] [] refl refl refl refl tt)
    & went refl (accepted [] (ok A Get (codes "0") ∷ []) [] refl (inl refl) refl refl (((refl, refl), (Counter 0, refl, sym (decimal_digit 0 (omega arith)))), tt))
    & went refl (accepted [] (ok B Get (codes "0") ∷ []) [] refl (inl refl) refl refl (((refl, refl), (Counter 0, refl, sym (decimal_digit 0 (omega arith)))), tt))
    & went refl (accepted [] (body.Conflict A (uid 2) Read 1 ∷ []) [] refl (inl refl) refl refl (refl, tt))
    & went refl (accepted (began C kind.Top 3 None ∷ []) [] [] refl refl refl refl tt)
    & went refl (accepted (body.Aborted B cause.Asked ∷ []) [] [] (refl, tt) (inl refl) refl refl tt)
    & went refl (accepted [] (ok A (Set 1) done ∷ []) [] refl (inl refl) refl refl (((refl, refl), (Counter 0, refl, refl)), tt))
    & went refl (accepted [] (body.Conflict C (uid 1) Write 1 ∷ []) [] refl (inl refl) refl refl (refl, tt))
    & tt) tt

-- Refused events, a halt in a commit, and a bad line behind the events.
abbrev refused_events : List Event
refused_events =
    event.Begin A 2 ∷ event.Begin A 1 ∷ event.Begin A 1 ∷ event.Call B 1 Get ∷ event.Call A 9 Get ∷ event.Abort A ∷ event.Commit A ∷ event.Call A 9 Get ∷ event.Begin B 1
    ∷ event.Call B 1 (Set 7) ∷ event.Commit B ∷ event.Begin B 1 ∷ event.Call B 1 Get ∷ event.Commit C ∷ []

abbrev refused : List (List Body)
refused =
    (body.Refused 1 ∷ []) ∷ (began A kind.Top 1 None ∷ []) ∷ (body.Refused 4 ∷ []) ∷ (body.Refused 5 ∷ []) ∷ (body.Refused 13 ∷ []) ∷ (body.Aborted A cause.Asked ∷ [])
    ∷ (body.Refused 6 ∷ []) ∷ (body.Refused 6 ∷ []) ∷ (began B kind.Top 2 None ∷ []) ∷ (ok B (Set 7) done ∷ []) ∷ (body.Committing B ∷ body.Halted 1 ∷ [])
    ∷ (body.Refused 2 ∷ []) ∷ (body.Refused 6 ∷ []) ∷ (body.Refused 5 ∷ []) ∷ []

refused_follows : Follows (one_node 0) fresh refused_events (lines_of refused ++ block 14 (body.Bad 20 ∷ []))
refused_follows = runs (Step (one_node 0)) refused_events refused (block 14 (body.Bad 20 ∷ [])) (
    went refl refl & went refl (accepted (began A kind.Top 1 None ∷ []) [] [] refl refl refl refl tt) & went refl refl & went refl refl & went refl refl
    & went refl (accepted (body.Aborted A cause.Asked ∷ []) [] [] (refl, tt) (inl refl) refl refl tt) & went refl refl & went refl refl
    & went refl (accepted (began B kind.Top 2 None ∷ []) [] [] refl refl refl refl tt)
    & went refl (accepted [] (ok B (Set 7) done ∷ []) [] refl (inl refl) refl refl (((refl, refl), (Counter 0, refl, refl)), tt))
    & went refl (accepted (body.Committing B ∷ []) (body.Halted 1 ∷ []) [] (inl refl) (inl refl) refl refl (refl, tt))
    & went refl refl & went refl refl & went refl refl & tt) (refl & refl)

refused_shows : shown (one_node 0) (lines_of refused) ≡ shows [] (true ∷ true ∷ []) [] [] (last_is 0 nobody 0) (1 ∷ []) first_entry
refused_shows = refl

-- Sixteen objects of a root are enough, also where one of its nested actions asks; a register has no counter's operation.
abbrev sixteen : List ℕ
sixteen = 1 ∷ 2 ∷ 3 ∷ 4 ∷ 5 ∷ 6 ∷ 7 ∷ 8 ∷ 9 ∷ 10 ∷ 11 ∷ 12 ∷ 13 ∷ 14 ∷ 15 ∷ 16 ∷ []

abbrev wide : Header
wide = record {
  nodes = 1;
  objects =
      map (λ x. record { x = x; value = Counter 0; servers = 1 ∷ []; stores = 1 ∷ [] }) (sixteen ++ 17 ∷ [])
      ++ record { x = 18; value = Register []; servers = 1 ∷ []; stores = 1 ∷ [] } ∷ [];
  format = format.Two;
}

abbrev used : Past
used = past_from nothing_yet
    (event.Begin A 1 ∷ event.BeginIn N A ∷ event.Begin B 1 ∷ map (λ x. event.Call A x Get) sixteen)
    ((began A kind.Top 1 None ∷ []) ∷ (began N kind.Nested 2 (Some A) ∷ []) ∷ (began B kind.Top 3 None ∷ []) ∷ map (λ x. body.Conflict A (uid 9) Write 1 ∷ []) sixteen)

too_many :
    map (refusal wide used) (event.Call A 17 Get ∷ event.Call N 17 Get ∷ event.Call A 16 Get ∷ event.Call B 17 Get ∷ event.Call B 18 Get ∷ event.Call B 18 (Add 1) ∷ event.Call A 18 (Add 1) ∷ [])
    ≡ Some 16 ∷ Some 16 ∷ None ∷ None ∷ None ∷ Some 14 ∷ Some 14 ∷ []
too_many = refl
