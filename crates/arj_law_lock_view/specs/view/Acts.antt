-- Actions as the lock machine names them: which path of the machine an action of the protocol is.
use Rattle.std.specs.Prelude.{◌≡◌, ◌+◌, ℕ, true, List, length}
use Rattle.arj_protocol.specs.Words.{Uid, Path, is_on, last_uid, uids_of, tops_of}
use Rattle.arj_protocol.specs.Ask.{top_path, top_of}
use Rattle.arj_law_lock.specs.machine.Actions.{Act, depth, on, is_top}

-- The machine's path of each action. A run's journal fixes it.
abbrev pub Acts : Type 0
Acts = Uid → Act

-- two actions have two paths
abbrev pub AreOne : Acts → Type 0
AreOne act = (u w : Uid) → act u ≡ act w → u ≡ w

-- the Uids of the list stand on the machine's path of the last one, and no others do
pub record IsAlong (act : Acts) (us : List Uid) : Type 0 where
  pub above : (u : Uid) → is_on us u ≡ true → on (act (last_uid us)) (act u) ≡ true
  pub alone : (u : Uid) → on (act (last_uid us)) (act u) ≡ true → is_on us u ≡ true

-- the path's top is a top of the machine, and the Uids up to it stand on its path
pub record IsTopped (act : Acts) (p : Path) : Type 0 where
  pub along : IsAlong act (top_path p)
  pub top : is_top (act (top_of p)) ≡ true

-- the machine has the last of the Uids as deep below its unit as these are below their top
abbrev pub IsDeep : Acts → List Uid → ℕ → Type 0
IsDeep act us tops = length us + 1 ≡ depth (act (last_uid us)) + tops

-- the path of an action that calls
pub record IsCaller (act : Acts) (p : Path) : Type 0 where
  pub along : IsAlong act (uids_of p)
  pub deep : IsDeep act (uids_of p) (tops_of p)
