-- Commits that were called, Prepares that were sent, and the last delivered frame, line by line.
use Rattle.std.specs.Prelude.{ℕ, List, [], ◌∷◌, ◌++◌, map, Bool, true, ◌==◌, ◌&&◌, nat_le, nat_lt, if◌then◌else◌, Option, Some, None}
use Rattle.std.specs.List.{cons_option}
use Rattle.std.specs.Option.{option_map}
use Rattle.std.specs.Str.{bytes_eq}
use Rattle.arj_base.specs.declared.uid.Uid.{Uid}
use Rattle.arj_journal.specs.declared.body.Body.{Body}
use Rattle.arj_journal.specs.declared.body.Body.TheVariants as body
use Rattle.arj_journal.specs.declared.body.FrameKind.{FrameKind}
use Rattle.arj_journal.specs.declared.body.FrameKind.TheVariants as frame
use Rattle.arj_text.specs.declared.label.Label.{Label}
use Rattle.arj_text.specs.Label.{name}
use Rattle.arj_model.specs.Actions.{Act, path, top_in}
use Rattle.arj_pending.specs.declared.kept.Commit.{Commit}
use Rattle.arj_pending.specs.declared.kept.Delivery.{Delivery}
use Rattle.arj_pending.specs.declared.kept.Prepare.{Prepare}

-- it is over at this place, if it wasn't before
abbrev pub over_at : ℕ → Option ℕ → Option ℕ
over_at at None = Some at
over_at at (Some before) = Some before

-- a commit that is over at this place
abbrev pub closed : ℕ → Commit → Commit
closed at c = record { label = c.label; top = c.top; called = c.called; over = over_at at c.over }

-- the same, where it is of this label
abbrev pub closed_named : List ℕ → ℕ → Commit → Commit
closed_named l at c = if bytes_eq (name c.label) l then closed at c else c

-- the same, where its node is this one
abbrev pub closed_at_node : ℕ → ℕ → Commit → Commit
closed_at_node n at c = if (let u = c.top in u.node) == n then closed at c else c

-- the commit of this top, called at this place
abbrev pub called_by : Label → ℕ → Uid → Commit
called_by l at u = record { label = l; top = u; called = at; over = None }

-- The called commits after a line at this place: one is over with its end, or the halt of its node.
abbrev pub commits_after : List Act → ℕ → Body → List Commit → List Commit
commits_after us at (body.Committing l) cs = cs ++ cons_option (option_map (λ a. called_by l at a.uid) (top_in (path us (name l)))) []
commits_after us at (body.Committed l) cs = map (closed_named (name l) at) cs
commits_after us at (body.Aborted l cause) cs = map (closed_named (name l) at) cs
commits_after us at (body.Halted n) cs = map (closed_at_node n at) cs
commits_after us at _ cs = cs

-- the place is before this one, if there is one
abbrev pub is_before : ℕ → Option ℕ → Bool
is_before at None = true
is_before at (Some over) = nat_lt at over

-- the commit is under way at this place
abbrev pub is_under_way : ℕ → Commit → Bool
is_under_way at c = nat_le c.called at && is_before at c.over

-- a frame of this kind, where it is a Prepare
abbrev pub prepare_by : ℕ → ℕ → ℕ → ℕ → FrameKind → List Prepare
prepare_by k from to at frame.Prepare = record { frame = k; from = from; to = to; at = at } ∷ []
prepare_by k from to at _ = []

-- the Prepares that were sent, after a line at this place
abbrev pub prepares_after : ℕ → Body → List Prepare → List Prepare
prepares_after at (body.Sent k from to kind) ps = ps ++ prepare_by k from to at kind
prepares_after at _ ps = ps

-- the last delivered frame after a line of this event
abbrev pub delivered_after : ℕ → Body → Option Delivery → Option Delivery
delivered_after event (body.Got k) d = Some (record { event = event; frame = k })
delivered_after event _ d = d
