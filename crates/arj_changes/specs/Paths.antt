-- Paths of actions that have begun, by the numbers of their actions.
use Rattle.std.specs.Prelude.{ℕ, List, [], ◌∷◌, map, ◌==◌, if◌then◌else◌, Option, Some, None}
use Rattle.std.specs.Option.{option_map}
use Rattle.std.specs.Str.{bytes_eq}
use Rattle.arj_model.specs.Actions.{Act, behind_first, top_in}
use Rattle.arj_base.specs.Uid.{nobody}
use Rattle.arj_base.specs.declared.uid.Uid.{Uid}
use Rattle.arj_standing.specs.declared.begun.Begun.{Begun}
use Rattle.arj_standing.specs.declared.begun.Link.{Link}
use Rattle.arj_text.specs.Label.{name}

-- the top of a path, if it has one
abbrev pub top_link : List Link → Option Link
top_link [] = None
top_link (a ∷ []) = if a.serial then None else Some a
top_link (a ∷ b ∷ rest) = if a.serial then Some b else Some a

-- the actions below the top
abbrev pub chain_links : List Link → List Link
chain_links [] = []
chain_links (a ∷ rest) = if a.serial then behind_first rest else rest

-- the numbers of the actions of a path
abbrev pub link_ids : List Link → List ℕ
link_ids path = map (λ a. a.id) path

-- the number of the top of a path
abbrev pub top_id : List Act → Option ℕ
top_id path = option_map (λ a. a.id) (top_in path)

-- the number of the action with this label, by what is kept of those that have begun
abbrev pub id_named : List ℕ → List Begun → Option ℕ
id_named l [] = None
id_named l (b ∷ bs) = if bytes_eq (name b.label) l then Some b.id else id_named l bs

-- the Uid of the action of a number
abbrev pub uid_numbered : ℕ → List Begun → Uid
uid_numbered id [] = nobody
uid_numbered id (b ∷ bs) = if b.id == id then b.uid else uid_numbered id bs
