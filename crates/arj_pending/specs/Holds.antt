-- Which states of objects a node may hold for an action, by what is kept and by the definitions of the model.
use Rattle.std.specs.Prelude.{ℕ, List, [], ◌∷◌, Bool, ◌==◌, ◌&&◌, if◌then◌else◌, Option, Some, None}
use Rattle.std.specs.List.{list_all}
use Rattle.arj_base.specs.declared.uid.Uid.{Uid}
use Rattle.arj_base.specs.Uid.{uid_eq}
use Rattle.arj_changes.specs.declared.kept.Join.{Join}
use Rattle.arj_journal.specs.declared.body.Line.{Line}
use Rattle.arj_journal.specs.declared.header.Header.{Header}
use Rattle.arj_last.specs.declared.kept.Write.{Write}
use Rattle.arj_model.specs.CausePends.{changes, may_store}
use Rattle.arj_model.specs.CauseSpans.{act_by, holds_in}
use Rattle.arj_standing.specs.declared.begun.Begun.{Begun}

-- the number of the action with this Uid, by what is kept of those that have begun
abbrev pub number_by : Uid → List Begun → Option ℕ
number_by u [] = None
number_by u (b ∷ bs) = if uid_eq b.uid u then Some b.id else number_by u bs

-- a write is this top's and survives, by this test of numbers
abbrev pub is_surviving : (ℕ → Bool) → ℕ → Write → Bool
is_surviving ended id w = (w.top == id) && list_all ended w.chain

-- an include names this store for object x
abbrev pub is_join_at : ℕ → ℕ → Join → Bool
is_join_at n x j = (j.x == x) && (j.node == n)

-- the action with this Uid changes object x
abbrev pub changes_by : List Line → Uid → ℕ → Bool
changes_by lines u x = holds_in (λ a. changes lines a.id x) (act_by lines u)

-- The node may store object x, and the action with this Uid changes it.
abbrev pub may_hold : Header → List Line → ℕ → Uid → ℕ → Bool
may_hold header lines n u x = may_store header lines n x && changes_by lines u x
