-- The lock table of a node, as it is kept.
use Rattle.std.specs.Prelude.{◌≡◌, ℕ, List, [], ◌∷◌}
use Rattle.arj_journal.specs.declared.body.Line.{Line}
use Rattle.arj_model.specs.Table.{table, up_step}
use Rattle.arj_standing.specs.Held.{rows_of}
use Rattle.arj_standing.specs.declared.node.NodeLocks.{NodeLocks}

-- the event of node n's last `up` line, from this one on
abbrev pub up_from : ℕ → ℕ → List Line → ℕ
up_from n up [] = up
up_from n up (line ∷ lines) = up_from n (up_step n line.event line.body up) lines

-- the locks of node n after these lines
pub record IsTable (n : ℕ) (lines : List Line) (s : NodeLocks) : Type 0 where
  pub node : s.node ≡ n
  pub up : s.up ≡ up_from n 0 lines
  pub rows : rows_of s.locks.items ≡ table n lines
