-- What a line tells, by what is kept of the actions that have begun before it.
use Rattle.std.specs.Prelude.{ℕ, List, [], ◌∷◌, Option, Some, None}
use Rattle.std.specs.Option.{option_map}
use Rattle.arj_journal.specs.declared.body.Body.{Body}
use Rattle.arj_journal.specs.declared.body.Body.TheVariants as body
use Rattle.arj_standing.specs.Begun.{links_named}
use Rattle.arj_standing.specs.declared.begun.Begun.{Begun}
use Rattle.arj_standing.specs.declared.begun.Link.{Link}
use Rattle.arj_text.specs.Label.{name}
use Rattle.arj_changes.specs.Paths.{chain_links, id_named, link_ids, top_link}
use Rattle.arj_changes.specs.declared.kept.Called.{Called}
use Rattle.arj_changes.specs.declared.kept.Join.{Join}
use Rattle.arj_changes.specs.declared.kept.Leave.{Leave}

-- the number of the top of a path
abbrev pub top_number : List Link → Option ℕ
top_number path = option_map (λ a. a.id) (top_link path)

-- the number of its root, this one where it is empty
abbrev pub root_number : ℕ → List Link → ℕ
root_number n [] = n
root_number n (a ∷ rest) = a.id

-- an exclusion by the top of a path
abbrev pub leave_by : ℕ → ℕ → Option ℕ → Option Leave
leave_by x n None = None
leave_by x n (Some top) = Some (record { top = top; x = x; node = n })

-- the exclusion that a line tells
abbrev pub leave_in : List Begun → Body → Option Leave
leave_in bs (body.Excluded l x n) = leave_by x n (top_number (links_named (name l) bs))
leave_in bs _ = None

-- an include in a path
abbrev pub join_by : ℕ → ℕ → List Link → Join
join_by x n path = record { top = top_number path; chain = link_ids (chain_links path); x = x; node = n }

-- the include that a line tells
abbrev pub join_in : List Begun → Body → Option Join
join_in bs (body.Includes l x n) = Some (join_by x n (links_named (name l) bs))
join_in bs _ = None

-- a top whose commit is called at this place, with the path of the action
abbrev pub called_by : ℕ → List Link → Option Link → Option Called
called_by at path None = None
called_by at path (Some top) = Some (record { id = top.id; uid = top.uid; root = root_number top.id path; at = at })

-- the top whose commit a line calls
abbrev pub called_in : List Begun → ℕ → Body → Option Called
called_in bs at (body.Committing l) = called_by at (links_named (name l) bs) (top_link (links_named (name l) bs))
called_in bs at _ = None

-- the number of the action that a line commits
abbrev pub committed_in : List Begun → Body → Option ℕ
committed_in bs (body.Committed l) = id_named (name l) bs
committed_in bs _ = None
