-- Tops that change the stores of an object, one after another in serial order.
use Rattle.std.specs.Prelude.{◌≡◌, ℕ, ◌+◌, List, length, map, if◌then◌else◌}
use Rattle.arj_base.specs.Uid.{nobody}
use Rattle.arj_journal.specs.declared.body.Line.{Line}
use Rattle.arj_model.specs.Actions.{acts}
use Rattle.arj_model.specs.Calls.{Top}
use Rattle.arj_model.specs.Last.{changer_from, changers, listed_after, listed_from, same_list, uid_of_id}
use Rattle.arj_changes.specs.Tops.{top_called}
use Rattle.arj_changes.specs.declared.entry.EntryState.{EntryState}
use Rattle.arj_changes.specs.declared.order.Ranked.{Ranked}

-- these, as tops
abbrev pub tops_ranked : List Ranked → List Top
tops_ranked rs = map (λ r. top_called r.top) rs

-- The entry after these tops, from these stores on.
pub record IsFolded (lines : List Line) (x : ℕ) (first : List ℕ) (ts : List Top) (e : EntryState) : Type 0 where
  pub stores : e.stores.items ≡ listed_from lines x first ts
  pub version : e.version ≡ length (changers lines x first ts)
  pub writer : e.writer ≡ changer_from (acts lines) nobody (changers lines x first ts)

-- The entry with one top more.
pub record IsStepped (lines : List Line) (x : ℕ) (t : Top) (old new : EntryState) : Type 0 where
  pub stores : new.stores.items ≡ listed_after lines x old.stores.items t
  pub version : new.version ≡ (if same_list (listed_after lines x old.stores.items t) old.stores.items then old.version else old.version + 1)
  pub writer : new.writer ≡ (if same_list (listed_after lines x old.stores.items t) old.stores.items then old.writer else uid_of_id (acts lines) t.id)
