-- States of files, and fronts of the writes on an object.
use Rattle.std.specs.Prelude.{ℕ, ◌-◌, ◌==◌, ◌&&◌, List, [], ◌∷◌, Bool, true, false, not, if◌then◌else◌, Option, Some, None}
use Rattle.std.specs.List.{list_all}
use Rattle.arj_base.specs.declared.state.ObjectState.{ObjectState}
use Rattle.arj_disk.specs.Says.{role_eq}
use Rattle.arj_disk.specs.declared.slot.Role.{Role}
use Rattle.arj_journal.specs.declared.header.ObjectLine.{ObjectLine}
use Rattle.arj_saved.specs.declared.kept.Kept.{Kept}
use Rattle.arj_past.specs.Past.{has_name}

-- these states are of objects of the header
abbrev pub states_fit : List ObjectLine → Role → List ObjectState → Bool
states_fit objects role states = list_all (λ s. has_name objects role s.uid) states

-- those of a file are, where it is this node's and role's
abbrev pub row_fits : List ObjectLine → ℕ → Role → Kept → Bool
row_fits objects n role k = if (k.node == n) && role_eq k.role role then states_fit objects role k.states else true

-- the last top was this one
abbrev pub was : Option ℕ → ℕ → Bool
was None top = false
was (Some last) top = last == top

-- how many tops more may come behind a write of this one, where so many might before it
abbrev pub left_by : Bool → ℕ → ℕ
left_by true left = left
left_by false left = left - 1

-- The front of these items by at most so many tops, behind one of this top, where those of one top stand together.
abbrev pub front_from : {A : Type 0} → (A → ℕ) → Option ℕ → ℕ → List A → List A
front_from top last left [] = []
front_from top last left (x ∷ xs) =
    if not (was last (top x)) && (left == 0) then [] else x ∷ front_from top (Some (top x)) (left_by (was last (top x)) left) xs
