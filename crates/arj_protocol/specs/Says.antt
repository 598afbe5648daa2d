-- Which effects each part has: the lines that it says, whether it sends, and its work on the disk.
use Rattle.std.specs.Prelude.{◌≡◌, ℕ, Bool, true, false, ◌==◌, ◌&&◌, List}
use Rattle.std.specs.List.{list_all}
use Rattle.arj_protocol.specs.Words.{Uid, Body, Part, Role}
use Rattle.arj_protocol.specs.Words.body
use Rattle.arj_protocol.specs.Words.part
use Rattle.arj_protocol.specs.Words.role
use Rattle.arj_protocol.specs.Effect.{Effect, Say, Send, Do, Work, Look, Prepare, Commit, Abort, PutIntent, RemoveIntent}

-- the Uid is that of an object
abbrev pub is_object : Uid → Bool
is_object u = (u.node == 0) && (u.inc == 0)

-- the Uid is that of an entry
abbrev pub is_entry : Uid → Bool
is_entry u = (u.node == 0) && (u.inc == 1)

-- the server part
abbrev pub is_server : Part → Bool
is_server part.Server = true
is_server part.Naming = false

-- the naming part
abbrev pub is_naming : Part → Bool
is_naming part.Naming = true
is_naming part.Server = false

-- the role of naming's entries
abbrev pub is_names : Role → Bool
is_names role.Names = true
is_names role.Store = false

-- a server grants locks on objects, takes copies and applies ends
abbrev pub is_server_line : ℕ → Body → Bool
is_server_line n (body.Granted m u o how) = (m == n) && is_object o
is_server_line n (body.Active m x b) = m == n
is_server_line n (body.Told m u e p) = (m == n) && is_server p
is_server_line n _ = false

-- an effect of a server
abbrev pub is_server_effect : ℕ → Effect → Bool
is_server_effect n (Say b) = is_server_line n b
is_server_effect n (Send to m) = false
is_server_effect n (Do w) = false

-- naming grants and lowers locks on entries, makes bindings, applies ends, and prepares and ends entries
abbrev pub is_naming_line : Body → Bool
is_naming_line (body.Granted m u o how) = (m == 1) && is_entry o
is_naming_line (body.Lowered m u o) = (m == 1) && is_entry o
is_naming_line (body.Bound x b n) = true
is_naming_line (body.Told m u e p) = (m == 1) && is_naming p
is_naming_line (body.Prepared m u r) = (m == 1) && is_names r
is_naming_line (body.Done m u r e) = (m == 1) && is_names r
is_naming_line _ = false

-- work on entries
abbrev pub is_names_work : Work → Bool
is_names_work Look = true
is_names_work (Prepare r u states) = is_names r
is_names_work (Commit r u) = is_names r
is_names_work (Abort r u) = is_names r
is_names_work _ = false

-- an effect of naming
abbrev pub is_naming_effect : Effect → Bool
is_naming_effect (Say b) = is_naming_line b
is_naming_effect (Send to m) = false
is_naming_effect (Do w) = is_names_work w

-- a coordinator speaks of actions by their labels, sends, and writes and removes records
abbrev pub is_coord_line : Body → Bool
is_coord_line (body.Began l k u p) = true
is_coord_line (body.Ok l x op a) = true
is_coord_line (body.Includes l x s) = true
is_coord_line (body.Conflict l h m n) = true
is_coord_line (body.Lost l n) = true
is_coord_line (body.Changed l n d) = true
is_coord_line (body.Committing l) = true
is_coord_line (body.Committed l) = true
is_coord_line (body.Ended l) = true
is_coord_line (body.Aborted l c) = true
is_coord_line (body.GaveUp l n) = true
is_coord_line (body.Excluded l x s) = true
is_coord_line _ = false

-- work on intentions records
abbrev pub is_intent_work : Work → Bool
is_intent_work (PutIntent u i) = true
is_intent_work (RemoveIntent u) = true
is_intent_work _ = false

-- an effect of a coordinator
abbrev pub is_coord_effect : Effect → Bool
is_coord_effect (Say b) = is_coord_line b
is_coord_effect (Send to m) = true
is_coord_effect (Do w) = is_intent_work w

-- the effects are of this kind alone
abbrev pub AreAll : (Effect → Bool) → List Effect → Type 0
AreAll test outs = list_all test outs ≡ true
