-- The actions that have begun, as they are kept: the newest first, each with its path.
use Rattle.std.specs.Prelude.{◌≡◌, ℕ, List, [], ◌∷◌, map, Bool, true, false, if◌then◌else◌, Option, Some, None, ⊤}
use Rattle.std.specs.Str.{bytes_eq}
use Rattle.arj_base.specs.declared.uid.Uid.{Uid}
use Rattle.arj_base.specs.Rows.{last_uid}
use Rattle.arj_base.specs.Uid.{uid_eq}
use Rattle.arj_journal.specs.declared.body.Kind.{Kind}
use Rattle.arj_journal.specs.declared.body.Kind.TheVariants as kind
use Rattle.arj_text.specs.declared.label.Label.{Label}
use Rattle.arj_text.specs.Label.{name}
use Rattle.arj_model.specs.Actions.{Act, path_in}
use Rattle.arj_standing.specs.declared.begun.Begun.{Begun}
use Rattle.arj_standing.specs.declared.begun.Link.{Link}
use Rattle.arj_start.specs.Kinds.{is_serial}

-- an action on a path
abbrev pub link : Act → Link
link a = record { id = a.id; uid = a.uid; serial = is_serial a.kind }

-- a path
abbrev pub links : List Act → List Link
links path = map link path

-- the path of the action with this label
abbrev pub links_named : List ℕ → List Begun → List Link
links_named l [] = []
links_named l (b ∷ bs) = if bytes_eq (name b.label) l then b.path else links_named l bs

-- that of the action with this Uid
abbrev pub links_of : Uid → List Begun → List Link
links_of u [] = []
links_of u (b ∷ bs) = if uid_eq b.uid u then b.path else links_of u bs

-- the path above an action of this kind and parent
abbrev pub links_above : Kind → Option Label → List Begun → List Link
links_above k None bs = []
links_above kind.Independent (Some p) bs = []
links_above k (Some p) bs = links_named (name p) bs

-- the actions of a journal are kept so
abbrev pub AreBegun : List Act → List Begun → Type 0
AreBegun [] [] = ⊤
AreBegun (a ∷ older) (b ∷ bs) =
    (name b.label ≡ a.label) × (b.uid ≡ a.uid) × (b.path ≡ links (path_in older a)) × (b.id ≡ a.id) × AreBegun older bs
AreBegun _ _ = ⊥

-- the top of a path, if it has one
abbrev pub top_in_links : List Link → Option Uid
top_in_links [] = None
top_in_links (a ∷ []) = if a.serial then None else Some a.uid
top_in_links (a ∷ b ∷ rest) = if a.serial then Some b.uid else Some a.uid

-- how many leading actions of a path end with its top
abbrev pub tops_of_links : List Link → ℕ
tops_of_links (a ∷ b ∷ rest) = if a.serial then 2 else 1
tops_of_links _ = 1

-- the last Uid of a path, if it has one
abbrev pub last_or : List Uid → Option Uid
last_or [] = None
last_or (u ∷ us) = Some (last_uid (u ∷ us))
