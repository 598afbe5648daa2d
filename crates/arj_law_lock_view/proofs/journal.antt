-- The journal, as the lock machine of one object has it.
--
-- A state of the machine (`arj_law_lock/machine`) is tied to the lines of a journal (`specs/Lines.antt`): the answered calls and
-- includes of the object are the machine's, one by one, with the values that they met and left, and the calls of commits, the commits
-- and the aborts of actions stand in the machine at the places of their lines. It stands on `view/` for what parts do in the machine,
-- and on `arj_law_runs/journal` for what journals say of actions.
pub mod AbortTies
pub mod CallTies
pub mod EndTies
pub mod Ends
pub mod Numbers
pub mod Pages
pub mod Reading
pub mod Saying
pub mod Ties
pub mod StopTies
pub mod GiveTies
