-- What stands at the end of a journal: the last state of each object, the stores that are listed for it, and its
-- naming entry.
use Rattle.std.specs.Prelude.{ℕ, ◌+◌, List, [], ◌∷◌, ◌++◌, length, map, filter, find, Bool, true, false, ◌==◌, ◌&&◌, not, nat_lt}
use Rattle.std.specs.Prelude.{if◌then◌else◌, Option, Some, None}
use Rattle.std.specs.List.{list_any, list_all, filter_map}
use Rattle.arj_base.specs.declared.uid.Uid.{Uid}
use Rattle.arj_base.specs.declared.state.Class.TheVariants as class
use Rattle.arj_base.specs.declared.state.Format.{Format}
use Rattle.arj_base.specs.declared.state.ObjectState.{ObjectState}
use Rattle.arj_base.specs.Uid.{object, entry, nobody}
use Rattle.arj_class.specs.declared.value.Value.{Value}
use Rattle.arj_class.specs.declared.value.Value.TheVariants.{Counter}
use Rattle.arj_class.specs.Table.{class_of}
use Rattle.arj_class.specs.Forms.{payload_of}
use Rattle.arj_journal.specs.declared.body.Body.{Body}
use Rattle.arj_journal.specs.declared.body.Body.TheVariants as body
use Rattle.arj_journal.specs.declared.body.Line.{Line}
use Rattle.arj_journal.specs.declared.header.Header.{Header}
use Rattle.arj_journal.specs.declared.header.ObjectLine.{ObjectLine}
use Rattle.arj_text.specs.Label.{name}
use Rattle.arj_model.specs.Actions.{Act, Placed, read, path, top_in, chain_in, has_end, committed, acts}
use Rattle.arj_model.specs.Calls.{Call, Top, tops}
use Rattle.arj_model.specs.Serial.{Values, run, serial_calls, writes_on, arrange, serial_key, lex}
use Rattle.arj_start.specs.Start.{Mark, Marks, format_at, none_written}

-- the header's line of object x
abbrev pub object_line : Header → ℕ → Option ObjectLine
object_line header x = find (λ o. o.x == x) header.objects

-- its first value
abbrev pub value_of_line : Option ObjectLine → Value
value_of_line None = Counter 0
value_of_line (Some o) = o.value

-- the header's values
abbrev pub first_values : Header → Values
first_values header = λ x. value_of_line (object_line header x)

-- its stores
abbrev pub stores_of_line : Option ObjectLine → List ℕ
stores_of_line None = []
stores_of_line (Some o) = o.stores

-- its servers
abbrev pub servers_of_line : Option ObjectLine → List ℕ
servers_of_line None = []
servers_of_line (Some o) = o.servers

-- the surviving writes on object x of committed tops, in serial order
abbrev pub writes_of : List Line → ℕ → List Call
writes_of lines x = filter (writes_on x) (serial_calls lines)

-- how many different tops made these calls
abbrev pub count_tops : List Call → ℕ
count_tops [] = 0
count_tops (c ∷ cs) = if list_any (λ d. d.top == c.top) cs then count_tops cs else count_tops cs + 1

-- who made the last of these calls; this one where there is none
abbrev pub writer_from : Uid → List Call → Uid
writer_from u [] = u
writer_from u (c ∷ cs) = writer_from c.writer cs

-- The state of object x with this value, after these writes on what has this mark, where the header has this format. Where the object is
-- gone the state says so, and its payload is the own class.
abbrev pub state_after : Format → Mark → ℕ → Value → List Call → ObjectState
state_after first m x v writes = record {
  uid = object x;
  class = class_of v;
  version = m.version + count_tops writes;
  writer = writer_from m.writer writes;
  payload = payload_of v;
  format = format_at first (m.version + count_tops writes);
}

-- The last state of object x, where a run began with these marks: its value is that of the serial run, its version counts the committed
-- tops that wrote it, from the mark on, and its writer is the last of them.
abbrev pub last_from : Header → Marks → List Line → ℕ → ObjectState
last_from header marks lines x = state_after header.format (marks.states x) x (run (first_values header) (serial_calls lines) x) (writes_of lines x)

-- its last state, where the run began at a format
abbrev pub last_state : Header → List Line → ℕ → ObjectState
last_state header lines x = last_from header none_written lines x

-- An exclusion that a top's commit set out to make.
pub record Exclusion : Type 0 where
  pub top : ℕ
  pub x : ℕ
  pub node : ℕ

-- An include that was answered.
pub record Inclusion : Type 0 where
  pub path : List Act
  pub x : ℕ
  pub node : ℕ

-- an exclusion of this top
abbrev pub exclusion_by : ℕ → ℕ → Option Act → Option Exclusion
exclusion_by x n None = None
exclusion_by x n (Some top) = Some (record { top = top.id; x = x; node = n })

-- what an `excluded` line says
abbrev pub excluded_of : List Act → Body → Option Exclusion
excluded_of acts (body.Excluded l x n) = exclusion_by x n (top_in (path acts (name l)))
excluded_of acts _ = None

-- what an `includes` line says
abbrev pub included_of : List Act → Body → Option Inclusion
included_of acts (body.Includes l x n) = Some (record { path = path acts (name l); x = x; node = n })
included_of acts _ = None

-- the exclusions of a journal, each with its place
abbrev pub excluded : List Line → List (Placed Exclusion)
excluded lines = read excluded_of [] 0 lines

-- its answered includes
abbrev pub included : List Line → List (Placed Inclusion)
included lines = read included_of [] 0 lines

-- the node of an include of this top on object x, where the include survives
abbrev pub joins_by : List (Placed ℕ) → ℕ → ℕ → Placed Inclusion → Option Act → Option ℕ
joins_by ends id x i None = None
joins_by ends id x i (Some top) =
    if (top.id == id) && ((i.it.x == x) && list_all (λ a. has_end ends a.id) (chain_in i.it.path)) then Some i.it.node else None

-- the nodes that a top's surviving includes of object x name
abbrev pub joins_of : List Line → ℕ → ℕ → List ℕ
joins_of lines id x = filter_map (λ i. joins_by (committed lines) id x i (top_in i.it.path)) (included lines)

-- the nodes that a top excluded for object x
abbrev pub leaves_of : List Line → ℕ → ℕ → List ℕ
leaves_of lines id x = map (λ e. e.it.node) (filter (λ e. (e.it.top == id) && (e.it.x == x)) (excluded lines))

-- an increasing list with this number in its place, if it isn't there yet
abbrev pub insert_number : ℕ → List ℕ → List ℕ
insert_number n [] = n ∷ []
insert_number n (m ∷ ms) = if n == m then m ∷ ms else (if nat_lt n m then n ∷ m ∷ ms else m ∷ insert_number n ms)

-- these numbers in increasing order, each once
abbrev pub increasing : List ℕ → List ℕ
increasing [] = []
increasing (n ∷ ns) = insert_number n (increasing ns)

-- the number stands in the list
abbrev pub is_among : List ℕ → ℕ → Bool
is_among ns n = list_any (λ m. m == n) ns

-- A top takes out the stores that it excluded, and appends those that it included and didn't exclude, in increasing
-- order.
abbrev pub listed_after : List Line → ℕ → List ℕ → Top → List ℕ
listed_after lines x stores t =
    filter (λ s. not (is_among (leaves_of lines t.id x) s)) stores ++ increasing (filter (λ s. not (is_among (leaves_of lines t.id x) s)) (joins_of lines t.id x))

-- committed tops in serial order
abbrev pub serial_tops : List Line → List Top
serial_tops lines = arrange (λ t u. lex (serial_key (tops lines) t.id) (serial_key (tops lines) u.id)) (tops lines)

-- the list after these tops
abbrev pub listed_from : List Line → ℕ → List ℕ → List Top → List ℕ
listed_from lines x stores [] = stores
listed_from lines x stores (t ∷ ts) = listed_from lines x (listed_after lines x stores t) ts

-- the stores that are listed for object x
abbrev pub listed : Header → List Line → ℕ → List ℕ
listed header lines x = listed_from lines x (stores_of_line (object_line header x)) (serial_tops lines)

-- two lists are the same
abbrev pub same_list : List ℕ → List ℕ → Bool
same_list [] [] = true
same_list (m ∷ ms) (n ∷ ns) = (m == n) && same_list ms ns
same_list _ _ = false

-- the tops that changed the list of object x
abbrev pub changers : List Line → ℕ → List ℕ → List Top → List Top
changers lines x stores [] = []
changers lines x stores (t ∷ ts) =
    if same_list (listed_after lines x stores t) stores then changers lines x stores ts else t ∷ changers lines x (listed_after lines x stores t) ts

-- the Uid of the action with this number
abbrev pub uid_of_id : List Act → ℕ → Uid
uid_of_id [] id = nobody
uid_of_id (a ∷ older) id = if a.id == id then a.uid else uid_of_id older id

-- the Uid of the last of these tops; this one where there is none
abbrev pub changer_from : List Act → Uid → List Top → Uid
changer_from as_begun u [] = u
changer_from as_begun u (t ∷ ts) = changer_from as_begun (uid_of_id as_begun t.id) ts

-- an entry's payload: its servers and its stores, each list behind its length
abbrev pub entry_payload : List ℕ → List ℕ → List ℕ
entry_payload servers stores = length servers ∷ (servers ++ (length stores ∷ stores))

-- The naming entry of object x, where a run began with these marks: the header's servers and the listed stores. Its version counts the
-- committed tops that changed the list, from the mark on, and its writer is the last of them.
abbrev pub entry_from : Header → Marks → List Line → ℕ → ObjectState
entry_from header marks lines x =
    let mark = marks.entries x in
    let changed = changers lines x (stores_of_line (object_line header x)) (serial_tops lines) in
    record {
      uid = entry x;
      class = class.Entry;
      version = mark.version + length changed;
      writer = changer_from (acts lines) mark.writer changed;
      payload = entry_payload (servers_of_line (object_line header x)) (listed header lines x);
      format = format_at header.format (mark.version + length changed);
    }

-- its entry, where the run began at a format
abbrev pub entry_state : Header → List Line → ℕ → ObjectState
entry_state header lines x = entry_from header none_written lines x
