-- What is kept of a journal's lines: exclusions, includes, and the commits that were called and made.
use Rattle.std.specs.Prelude.{◌≡◌, ℕ, List, length, map, Bool, Option, Some, None, is_some}
use Rattle.std.specs.BTreeMap.{get}
use Rattle.std.specs.List.{filter_map, list_any}
use Rattle.std.specs.Ordering.{nat_cmp}
use Rattle.arj_base.specs.Order.{uid_order}
use Rattle.arj_base.specs.Uid.{uid_eq}
use Rattle.arj_base.specs.declared.uid.Uid.{Uid}
use Rattle.arj_journal.specs.declared.body.Line.{Line}
use Rattle.arj_model.specs.Actions.{Act, Placed, chain_in, committed, has_end, recovered, root_in, top_in}
use Rattle.arj_model.specs.Calls.{committings, ids, root_or}
use Rattle.arj_model.specs.Last.{Exclusion, Inclusion, excluded, included}
use Rattle.arj_changes.specs.Paths.{top_id}
use Rattle.arj_changes.specs.declared.kept.Called.{Called}
use Rattle.arj_changes.specs.declared.kept.Changes.{Changes}
use Rattle.arj_changes.specs.declared.kept.Join.{Join}
use Rattle.arj_changes.specs.declared.kept.Leave.{Leave}

-- an exclusion, as it is kept
abbrev pub leave_of : Exclusion → Leave
leave_of e = record { top = e.top; x = e.x; node = e.node }

-- an include, as it is kept
abbrev pub join_of : Inclusion → Join
join_of i = record { top = top_id i.path; chain = ids (chain_in i.path); x = i.x; node = i.node }

-- a top whose commit was called, as it is kept
abbrev pub called_by : ℕ → List Act → Option Act → Option Called
called_by at path None = None
called_by at path (Some top) = Some (record { id = top.id; uid = top.uid; root = root_or top.id (root_in path); at = at })

-- the same, of the path that a `committing` line names
abbrev pub called_of : Placed (List Act) → Option Called
called_of m = called_by m.at m.it (top_in m.it)

-- the action of a number is committed, by what is kept
abbrev pub is_ended : Changes → ℕ → Bool
is_ended c i = is_some (get nat_cmp c.committed i)

-- the record of a Uid was found, by what is kept
abbrev pub is_found : Changes → Uid → Bool
is_found c u = is_some (get uid_order c.found u)

-- This is kept of these lines.
pub record AreKept (lines : List Line) (c : Changes) : Type 0 where
  pub count : c.count ≡ length lines
  pub leaves : c.leaves.items ≡ map (λ e. leave_of e.it) (excluded lines)
  pub joins : c.joins.items ≡ map (λ i. join_of i.it) (included lines)
  pub called : c.called.items ≡ filter_map called_of (committings lines)
  pub committed : (i : ℕ) → is_ended c i ≡ has_end (committed lines) i
  pub found : (u : Uid) → is_found c u ≡ list_any (λ p. uid_eq p.it u) (recovered lines)
