-- The numbers of lines.
use Rattle.std.specs.Prelude.{ℕ}
use Rattle.arj_journal.specs.declared.body.Body.{Body}
use Rattle.arj_journal.specs.declared.body.Body.TheVariants as body

-- the number of the frame that a line tells of, 0 where it tells of none
abbrev pub frame_in : Body → ℕ
frame_in (body.Sent k from to what) = k
frame_in (body.Got k) = k
frame_in (body.Void k) = k
frame_in (body.Dropped k) = k
frame_in _ = 0
