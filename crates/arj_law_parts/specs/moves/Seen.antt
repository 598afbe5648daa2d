-- What a view of the protocol looks at: of each node its disk and its memory, the journal, the labels that were given, and
-- every message that was ever sent.
use Rattle.std.specs.Prelude.{◌≡◌, ◌⊎◌, ℕ, Bool, true, false, ◌==◌, if◌then◌else◌, List, [], ◌∷◌, ◌++◌, Option, Some, None}
use Rattle.std.specs.List.{list_all}
use Rattle.std.specs.BTreeMap.{insert_entry}
use Rattle.arj_protocol.specs.Words.{Label, label_cmp, Body}
use Rattle.arj_protocol.specs.Words.body
use Rattle.arj_protocol.specs.Effect.{Disk}
use Rattle.arj_protocol.specs.Node.{Parts}
use Rattle.arj_protocol.specs.Step.{Node}
use Rattle.arj_protocol.specs.World.{Labelled, numbered}
use Rattle.arj_promise.specs.Runs.{Post, Seen}

-- the post is among these
abbrev pub In : Post → List Post → Type 0
In p [] = ⊥
In p (q ∷ qs) = (q ≡ p) ⊎ In p qs

-- all of these are among those
abbrev pub Within : List Post → List Post → Type 0
Within few many = (p : Post) → In p few → In p many

-- a node in another state
abbrev pub with_node : ℕ → Node → Seen → Seen
with_node k n M = record M { nodes = λ m. if m == k then Some n else M.nodes m }

-- the node with this disk and this memory; up, and down
abbrev pub at : ℕ → Disk → Option Parts → Seen → Seen
at k d live M = with_node k (record { number = k; disk = d; live = live }) M

-- the node is up with this disk and memory
abbrev pub up : ℕ → Disk → Parts → Seen → Seen
up k d t M = at k d (Some t) M

-- the node is down with this disk
abbrev pub down : ℕ → Disk → Seen → Seen
down k d M = at k d None M

-- lines of an event
abbrev pub said : ℕ → List Body → Seen → Seen
said e bs M = record M { lines = M.lines ++ numbered e bs }

-- a message is sent
abbrev pub posted : Post → Seen → Seen
posted p M = record M { sent = p ∷ M.sent }

-- all that was sent, and more
abbrev pub with_sent : List Post → Seen → Seen
with_sent sent M = record M { sent = sent }

-- a label is given
abbrev pub given : Label → Labelled → Seen → Seen
given l g M = record M { labels = insert_entry label_cmp M.labels l g }

-- the lines of frames, of stops to come and of what is shown: no view looks at them
abbrev pub is_quiet_line : Body → Bool
is_quiet_line (body.Sent k from to what) = true
is_quiet_line (body.Got k) = true
is_quiet_line (body.Void k) = true
is_quiet_line (body.Dropped k) = true
is_quiet_line (body.Armed n) = true
is_quiet_line (body.Refused c) = true
is_quiet_line (body.Entry x v servers stores) = true
is_quiet_line (body.Copy n x v w payload) = true
is_quiet_line (body.Quiet b) = true
is_quiet_line (body.Limit l) = true
is_quiet_line _ = false

-- so it is of all lines
abbrev pub AreQuiet : List Body → Type 0
AreQuiet bs = list_all is_quiet_line bs ≡ true
