-- In every run, wherever disks stop, answers say what is so of the journal where they are made.
use Rattle.std.specs.Prelude.{[]}
use Rattle.arj_protocol.specs.Words.{Header}
use Rattle.arj_law_parts.specs.moves.With.{HoldsWith, past_of}
use Rattle.arj_promise.specs.Runs.{Run, world_by}
use Rattle.arj_law_lock_view.specs.moments.{Made.AnswersAreMade}
use Rattle.arj_law_cause.specs.rows.Says.{says_so}

-- each answer that was sent was made at a place of the journal, and a conflict says which row was met in the table there, as the first one,
-- where no event is taken for a crash
abbrev pub RunsMeetRows : Type 0
RunsMeetRows = (hd : Header) (r : Run hd) → HoldsWith hd (AnswersAreMade (says_so [] hd)) (past_of hd r) (world_by hd r)
