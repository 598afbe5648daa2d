-- The limits of a run.
use Rattle.std.specs.Prelude.{ℕ}

-- the most objects that the actions of one root use
abbrev pub most_objects : ℕ
most_objects = 16

-- the most actions that one root begins, itself among them
abbrev pub most_actions : ℕ
most_actions = 64

-- the most labels that are given in a run
abbrev pub most_labels : ℕ
most_labels = 4096

-- the most frames that a run sends
abbrev pub most_frames : ℕ
most_frames = 100000

-- the most actions of a path
abbrev pub most_on_path : ℕ
most_on_path = 16

-- the most events of a run: more than the lines of a script and those of a generated bank, which are at most 100,000 and 200,000
abbrev pub most_events : ℕ
most_events = 1000000

-- the greatest incarnation that 32 bits count
abbrev pub last_inc : ℕ
last_inc = 4294967295
