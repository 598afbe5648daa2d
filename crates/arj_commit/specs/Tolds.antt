-- What a decided commit leads to, as the protocol has it.
use Rattle.std.specs.Prelude.{ℕ, Bool, List, [], ◌∷◌, ◌<◌, length, Option, Some, None, true, false, if◌then◌else◌, map}
use Rattle.std.specs.List.Sorted.{IsStrictlySortedBy}
use Rattle.std.specs.Ordering.{nat_cmp}
use Rattle.arj_base.specs.declared.mode.End.{End}
use Rattle.arj_base.specs.declared.mode.End.TheVariants as ending
use Rattle.arj_intent.specs.declared.intent.Intent.{Intent}
use Rattle.arj_intent.specs.Records.{shown}
use Rattle.arj_msg.specs.declared.message.Message.{Message}
use Rattle.arj_msg.specs.declared.message.Message.TheVariants as message
use Rattle.arj_protocol.specs.Ask.{actor}
use Rattle.arj_protocol.specs.Commit.{Plan}
use Rattle.arj_protocol.specs.Effect.{Effect, Send, Do, PutIntent}
use Rattle.arj_protocol.specs.Order.{has}
use Rattle.arj_protocol.specs.Tree.{root_of}

-- a message to its node
abbrev pub sent_to : ℕ × Message → Effect
sent_to r = Send r.0 r.1

-- the work of a record, if there is one
abbrev pub work_of : Option Intent → List Effect
work_of None = []
work_of (Some i) = Do (PutIntent i.top (shown i)) ∷ []

-- the end of a commit, as it is told
abbrev pub told_to : Plan → End → Bool → Message
told_to p end ack = message.Told (record { root = root_of p.path; ack = ack; ends = (actor p.path, end) ∷ [] })

-- what a node is told that takes part, or one that doesn't
abbrev pub told_by : Plan → Bool → Bool → Message
told_by p takes_part ack = if takes_part then told_to p ending.Commit ack else told_to p ending.Abort false

-- what these nodes are told, of which those take part
abbrev pub tolds : Plan → List ℕ → List ℕ → Bool → List (ℕ × Message)
tolds p sent nodes ack = map {A = ℕ} {B = ℕ × Message} (λ n. (n, told_by p (has nodes n) ack)) sent

-- what these participants are told until they acknowledge
abbrev pub tolds_again : Plan → List ℕ → List (ℕ × Message)
tolds_again p nodes = map {A = ℕ} {B = ℕ × Message} (λ n. (n, told_to p ending.Commit true)) nodes

-- the nodes of a record in form
pub record AreInForm (nodes : List ℕ) : Type 0 where
  pub increasing : IsStrictlySortedBy nat_cmp nodes
  pub few : length nodes < 256
