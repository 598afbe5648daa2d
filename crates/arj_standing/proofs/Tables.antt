-- Lock tables after one line more.
use Rattle.std.specs.Prelude.{◌≡◌, ℕ, List, [], ◌∷◌, ◌++◌}
use Rattle.std.proofs.Common.{refl}
use Rattle.arj_base.specs.Rows.{Row}
use Rattle.arj_journal.specs.declared.body.Line.{Line}
use Rattle.arj_model.specs.Actions.{Act, acts, acts_after, acts_from}
use Rattle.arj_model.specs.Table.{table, table_from, table_step, up_step}
use Rattle.arj_standing.specs.Node.{up_from}

-- the table goes on from what the lines so far have made
goes_on : (n : ℕ) (us : List Act) (up : ℕ) (rows : List Row) (ls : List Line) (m : Line)
    → table_from n us up rows (ls ++ m ∷ []) ≡ table_step n (acts_from us ls) (up_from n up ls) m.event m.body (table_from n us up rows ls)
goes_on n us up rows [] m = refl
goes_on n us up rows (l ∷ ls) m =
    goes_on n (acts_after us l.body) (up_step n l.event l.body up) (table_step n us up l.event l.body rows) ls m

-- the table after one line more
pub table_more : (n : ℕ) (ls : List Line) (m : Line) →
    table n (ls ++ m ∷ []) ≡ table_step n (acts ls) (up_from n 0 ls) m.event m.body (table n ls)
table_more n ls m = goes_on n [] 0 [] ls m

-- the event of the last `up` line, after one line more
pub up_more : (n up : ℕ) (ls : List Line) (m : Line) → up_from n up (ls ++ m ∷ []) ≡ up_step n m.event m.body (up_from n up ls)
up_more n up [] m = refl
up_more n up (l ∷ ls) m = up_more n (up_step n l.event l.body up) ls m

-- the actions after one line more
pub acts_more : (us : List Act) (ls : List Line) (m : Line) → acts_from us (ls ++ m ∷ []) ≡ acts_after (acts_from us ls) m.body
acts_more us [] m = refl
acts_more us (l ∷ ls) m = acts_more (acts_after us l.body) ls m
