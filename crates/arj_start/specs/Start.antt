-- What a run begins with: the marks of what is held, what else stores hold, which incarnations nodes are in and whether they are up, which
-- labels were given, and how many events and frames there were.
use Rattle.std.specs.Prelude.{ℕ, ◌==◌, Bool, true, if◌then◌else◌, List, []}
use Rattle.arj_base.specs.declared.state.Format.{Format}
use Rattle.arj_base.specs.declared.state.Format.TheVariants as format
use Rattle.arj_base.specs.declared.state.ObjectState.{ObjectState}
use Rattle.arj_base.specs.declared.uid.Uid.{Uid}
use Rattle.arj_base.specs.Uid.{nobody}
use Rattle.arj_text.specs.declared.label.Label.{Label}

-- the version and the writer of what is held
pub record Mark : Type 0 where
  pub version : ℕ
  pub writer : Uid

-- what nobody has written: version 0
abbrev pub unwritten : Mark
unwritten = record { version = 0; writer = nobody }

-- the format of a state or entry of this version, where the header has this format: what was written is in format two
abbrev pub format_at : Format → ℕ → Format
format_at first version = if version == 0 then first else format.Two

-- the marks of each object's state and entry
pub record Marks : Type 0 where
  pub states : ℕ → Mark
  pub entries : ℕ → Mark

-- what a format leaves
abbrev pub none_written : Marks
none_written = record { states = λ x. unwritten; entries = λ x. unwritten }

-- The values, the servers and the listed stores are the header's. Beside them: the marks; older states, each at a store, by its number;
-- how many incarnations each node had before the one on its disk; which nodes are up in that one; the labels that were given; and the
-- numbers of the last event and of the last frame.
pub record Start : Type 0 where
  pub marks : Marks
  pub older : List (ℕ × ObjectState)
  pub incs : ℕ → ℕ
  pub up : ℕ → Bool
  pub given : List Label
  pub events : ℕ
  pub frames : ℕ

-- a start at a format: nothing was written, and each node is up in incarnation 1
abbrev pub fresh : Start
fresh = record { marks = none_written; older = []; incs = λ n. 0; up = λ n. true; given = []; events = 0; frames = 0 }
