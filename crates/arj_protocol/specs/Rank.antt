-- Where a message stands in the protocol: what a node answers to it, or does next, stands further on.
use Rattle.std.specs.Prelude.{ℕ, Bool, true, false, nat_lt}
use Rattle.arj_protocol.specs.Words.{Message}
use Rattle.arj_protocol.specs.Words.message
use Rattle.arj_protocol.specs.Effect.{Effect, Say, Send, Do}

-- how far on a told stands: one that wants an acknowledgement goes before it, one that wants none is last
abbrev pub told_rank : Bool → ℕ
told_rank true = 18
told_rank false = 20

-- how far on in the protocol a message stands
abbrev pub rank : Message → ℕ
rank (message.Hello m) = 0
rank (message.Query m) = 1
rank (message.Bind m) = 2
rank (message.Bound m) = 3
rank (message.Load m) = 4
rank (message.Loaded m) = 5
rank (message.Activate m) = 6
rank (message.Activated m) = 7
rank (message.RecordMsg m) = 8
rank (message.Recorded m) = 9
rank (message.Invoke m) = 10
rank (message.Invoked m) = 11
rank (message.Vote m) = 12
rank (message.Voted m) = 13
rank (message.Prepare m) = 14
rank (message.Prepared m) = 15
rank (message.Confirm m) = 16
rank (message.Confirmed m) = 17
rank (message.Told m) = told_rank m.ack
rank (message.Acked m) = 19

-- the ranks are below this
abbrev pub ranks : ℕ
ranks = 21

-- what the effect sends stands further on
abbrev pub is_above : ℕ → Effect → Bool
is_above k (Send to m) = nat_lt k (rank m)
is_above k (Say b) = true
is_above k (Do w) = true
