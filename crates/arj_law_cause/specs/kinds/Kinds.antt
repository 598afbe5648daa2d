-- Which lines each row of causes is of.
use Rattle.std.specs.Prelude.{Bool, true, false, not}
use Rattle.arj_journal.specs.declared.body.Body.{Body}
use Rattle.arj_journal.specs.declared.body.Body.TheVariants as body
use Rattle.arj_journal.specs.declared.body.Cause.TheVariants as cause
use Rattle.arj_base.specs.declared.mode.End.TheVariants as ending
use Rattle.arj_model.specs.CauseSpans.{Here}
use Rattle.arj_model.specs.Table.{is_entry}
use Rattle.arj_law_runs.specs.follow.Refusals.{is_plain_cause}

-- a frame was sent
abbrev pub is_sent : Body → Bool
is_sent (body.Sent k from to carried) = true
is_sent _ = false

-- a frame was delivered, and had effect
abbrev pub is_got : Body → Bool
is_got (body.Got k) = true
is_got _ = false

-- it was delivered, and had none
abbrev pub is_void : Body → Bool
is_void (body.Void k) = true
is_void _ = false

-- it was lost
abbrev pub is_dropped : Body → Bool
is_dropped (body.Dropped k) = true
is_dropped _ = false

-- a disk was armed
abbrev pub is_armed : Body → Bool
is_armed (body.Armed n) = true
is_armed _ = false

-- a node halted
abbrev pub is_halted : Body → Bool
is_halted (body.Halted n) = true
is_halted _ = false

-- a node is up
abbrev pub is_up : Body → Bool
is_up (body.Up n i) = true
is_up _ = false

-- a limit was met
abbrev pub is_limit : Body → Bool
is_limit (body.Limit what) = true
is_limit _ = false

-- the event was refused, for one of the causes of nodes, labels, objects and frames
abbrev pub is_plain_refusal : Here → Body → Bool
is_plain_refusal h (body.Refused c) = is_plain_cause h.event c
is_plain_refusal h _ = false

-- the event was refused, or the action that it commits was aborted as doomed
abbrev pub is_denial : Body → Bool
is_denial (body.Refused c) = true
is_denial (body.Aborted l cause.Doomed) = true
is_denial _ = false

-- a commit was done, at a store or at naming
abbrev pub is_commit_done : Body → Bool
is_commit_done (body.Done n u r ending.Commit) = true
is_commit_done _ = false

-- a quiesce said whether all is quiet
abbrev pub is_quiet : Body → Bool
is_quiet (body.Quiet still) = true
is_quiet _ = false

-- a restart found the record of a top
abbrev pub is_found : Body → Bool
is_found (body.Recovered n u) = true
is_found _ = false

-- An event opens with it: an action began, a commit was called, a serializing action ended, or the script aborts an action.
abbrev pub is_opening : Body → Bool
is_opening (body.Began l k u p) = true
is_opening (body.Committing l) = true
is_opening (body.Ended l) = true
is_opening (body.Aborted l cause.Asked) = true
is_opening _ = false

-- an action committed
abbrev pub is_committed : Body → Bool
is_committed (body.Committed l) = true
is_committed _ = false

-- something was prepared, at a store or at naming
abbrev pub is_prepared : Body → Bool
is_prepared (body.Prepared n u r) = true
is_prepared _ = false

-- an abort was done, at a store or at naming
abbrev pub is_abort_done : Body → Bool
is_abort_done (body.Done n u r ending.Abort) = true
is_abort_done _ = false

-- a server or naming was told of an end, where it had locks
abbrev pub is_told : Body → Bool
is_told (body.Told n u e p) = true
is_told _ = false

-- a lock on an object was granted
abbrev pub is_granted_object : Body → Bool
is_granted_object (body.Granted n u o m) = not (is_entry o)
is_granted_object _ = false

-- a lock was lowered
abbrev pub is_lock_lowered : Body → Bool
is_lock_lowered (body.Lowered n u o) = true
is_lock_lowered _ = false

-- a copy became active at a node
abbrev pub is_active : Body → Bool
is_active (body.Active n x b) = true
is_active _ = false

-- naming bound an object to a server
abbrev pub is_bound : Body → Bool
is_bound (body.Bound x b s) = true
is_bound _ = false

-- the line shows an object's entry
abbrev pub is_entry_shown : Body → Bool
is_entry_shown (body.Entry x v servers stores) = true
is_entry_shown _ = false

-- the line shows what a store holds of an object
abbrev pub is_copy_shown : Body → Bool
is_copy_shown (body.Copy n x v u payload) = true
is_copy_shown _ = false

-- a commit was lost: the action was aborted as a node didn't answer
abbrev pub is_lost_commit : Body → Bool
is_lost_commit (body.Aborted l (cause.Lost n)) = true
is_lost_commit _ = false

-- a lock on an entry was granted
abbrev pub is_granted_entry : Body → Bool
is_granted_entry (body.Granted n u o m) = is_entry o
is_granted_entry _ = false

-- naming refused a commit for a store that it includes, and that was listed
abbrev pub is_listed_abort : Body → Bool
is_listed_abort (body.Aborted l (cause.Listed x s)) = true
is_listed_abort _ = false

-- it refused one that would have left no store
abbrev pub is_bare_abort : Body → Bool
is_bare_abort (body.Aborted l (cause.NoStores x)) = true
is_bare_abort _ = false

-- it refused one for a row that the top met
abbrev pub is_met_abort : Body → Bool
is_met_abort (body.Aborted l (cause.Conflict u m n)) = true
is_met_abort _ = false

-- a store refused a commit, since the state that it sent is too late
abbrev pub is_old_abort : Body → Bool
is_old_abort (body.Aborted l (cause.Old n x v)) = true
is_old_abort _ = false

-- a server, or naming, refused the commit since something changed
abbrev pub is_changed_abort : Body → Bool
is_changed_abort (body.Aborted l (cause.Changed n d)) = true
is_changed_abort _ = false

-- a giveup named a node
abbrev pub is_node_given_up : Body → Bool
is_node_given_up (body.GaveUp l n) = true
is_node_given_up _ = false

-- a commit excluded a store
abbrev pub is_excluded : Body → Bool
is_excluded (body.Excluded l x n) = true
is_excluded _ = false
