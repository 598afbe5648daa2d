-- Paths, seen as their Uids from the root on.
use Rattle.std.specs.Prelude.{ℕ, ◌-◌, List, [], ◌∷◌, Option, Some, None, take, slice_index_or}
use Rattle.arj_base.specs.declared.uid.Uid.{Uid}
use Rattle.arj_base.specs.declared.path.Path.{Path}
use Rattle.arj_base.specs.Uid.{nobody}

-- the Uids of a path, from the root to the action itself
abbrev pub uids_of : Path → List Uid
uids_of p = take p.len p.uids

-- how many leading Uids end with the top
abbrev pub tops_of : Path → ℕ
tops_of p = p.tops

-- the root
abbrev pub first_uid : List Uid → Uid
first_uid [] = nobody
first_uid (u ∷ us) = u

-- the Uid at place `tops`, counted from 1
abbrev pub top_uid : ℕ → List Uid → Uid
top_uid tops us = slice_index_or us (tops - 1) nobody

-- the Uid before the last
abbrev pub before_last : List Uid → Option Uid
before_last [] = None
before_last (u ∷ []) = None
before_last (u ∷ w ∷ []) = Some u
before_last (u ∷ w ∷ v ∷ us) = before_last (w ∷ v ∷ us)
