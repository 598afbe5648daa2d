-- What one more line changes.
use Rattle.std.specs.Prelude.{◌≡◌, ℕ, ◌+◌, List, [], ◌∷◌, ◌++◌, length, filter, Bool, true, false, ◌==◌, Some, ⊤}
use Rattle.std.specs.List.{AllByRecursion}
use Rattle.arj_base.specs.declared.state.Class.TheVariants as class
use Rattle.arj_base.specs.declared.state.ObjectState.{ObjectState}
use Rattle.arj_base.specs.Uid.{uid_eq, entry}
use Rattle.arj_journal.specs.declared.body.Body.{Body}
use Rattle.arj_journal.specs.declared.body.Body.TheVariants as body
use Rattle.arj_journal.specs.declared.body.Line.{Line}
use Rattle.arj_journal.specs.declared.header.Header.{Header}
use Rattle.arj_text.specs.Label.{name}
use Rattle.arj_model.specs.Actions.{acts, id_in, chain_in}
use Rattle.arj_model.specs.Calls.{Top, ids, made}
use Rattle.arj_model.specs.Last.{is_among, object_line, stores_of_line, servers_of_line, included, listed_after, listed_from, serial_tops}
use Rattle.arj_model.specs.Last.{changer_from, changers, entry_payload}
use Rattle.arj_start.specs.Start.{Marks, format_at}

-- the journal with one line more
abbrev pub more : List Line → Line → List Line
more lines line = lines ++ line ∷ []

-- the line is no answer to a call, no commit that is called and none that is made
abbrev pub is_quiet : Body → Bool
is_quiet (body.Ok l x op answer) = false
is_quiet (body.Committing l) = false
is_quiet (body.Committed l) = false
is_quiet (body.Recovered n u) = false
is_quiet _ = true

-- The line commits the top with this number: it is the `committed` line of its label, or a `recovered` line of its Uid,
-- which no other top that was called has.
abbrev pub CommitsTop : List Line → ℕ → Body → Type 0
CommitsTop lines top (body.Committed l) = id_in (acts lines) (name l) ≡ Some top
CommitsTop lines top (body.Recovered n u) = AllByRecursion (λ c. uid_eq u c.writer ≡ (c.top == top)) (made lines)
CommitsTop lines top _ = ⊥

-- Stores that are listed.

-- a top that doesn't count finds, at its place in the serial order, that it changes nothing of the list
abbrev pub IdleInPlace : List Line → ℕ → (Top → Bool) → List ℕ → List Top → Type 0
IdleInPlace lines x counts stores [] = ⊤
IdleInPlace lines x counts stores (t ∷ ts) =
    (counts t ≡ false → listed_after lines x stores t ≡ stores) × IdleInPlace lines x counts (listed_after lines x stores t) ts

-- the header's stores of an object
abbrev pub first_stores : Header → ℕ → List ℕ
first_stores header x = stores_of_line (object_line header x)

-- Of the committed tops some count for object x: these stand in the serial order as they were decided. The others change
-- nothing of its list.
pub record AreDecidedInOrder (header : Header) (lines : List Line) (x : ℕ) (counts : Top → Bool) (decided : List Top) : Type 0 where
  pub order : filter counts (serial_tops lines) ≡ filter counts decided
  pub idle : IdleInPlace lines x counts (first_stores header x) (serial_tops lines)

-- the entry of object x after tops, one after another, where the run began with these marks
abbrev pub entry_by : Header → Marks → List Line → ℕ → List Top → ObjectState
entry_by header marks lines x ts =
    let mark = marks.entries x in
    let changed = changers lines x (first_stores header x) ts in
    record {
      uid = entry x;
      class = class.Entry;
      version = mark.version + length changed;
      writer = changer_from (acts lines) mark.writer changed;
      payload = entry_payload (servers_of_line (object_line header x)) (listed_from lines x (first_stores header x) ts);
      format = format_at header.format (mark.version + length changed);
    }

-- no include was answered in this action as in a nested one
abbrev pub IncludesNoneBelow : List Line → ℕ → Type 0
IncludesNoneBelow lines top = AllByRecursion (λ i. is_among (ids (chain_in i.it.path)) top ≡ false) (included lines)
