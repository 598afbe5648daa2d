-- What is sent in a run can be spelled, and what isn't shown of it where events are in no form.
use Rattle.std.specs.Prelude.{⊤}
use Rattle.std.specs.List.{AllByRecursion}
use Rattle.arj_class.specs.Forms.{OpInForm}
use Rattle.arj_msg.specs.Sendable.{IsSendable, InvokedSends, LoadedSends, StateSends}
use Rattle.arj_protocol.specs.Words.{Header, Message, VotedReply}
use Rattle.arj_protocol.specs.Words.message
use Rattle.arj_protocol.specs.Words.voted
use Rattle.arj_law_parts.specs.moves.Keeps.{Holds}
use Rattle.arj_law_parts.specs.moves.Seen.{In}
use Rattle.arj_promise.specs.Runs.{HeaderFits, IsInForm, Post, Run, Seen, world_by}

-- states that are voted restore
abbrev pub VoteRestores : VotedReply → Type 0
VoteRestores (voted.Yes states) = AllByRecursion StateSends states
VoteRestores (voted.Changed w) = ⊤

-- Of a message, what isn't shown: its states restore, and registers have at most 192 bytes.
abbrev pub IsLeft : Message → Type 0
IsLeft (message.Loaded m) = LoadedSends m.reply
IsLeft (message.Activate m) = StateSends m.state
IsLeft (message.Invoke m) = OpInForm m.op
IsLeft (message.Invoked m) = InvokedSends m.reply
IsLeft (message.Voted m) = VoteRestores m.reply
IsLeft (message.Prepare m) = AllByRecursion StateSends m.states
IsLeft m = ⊤

-- each message that was sent can be spelled, where that is so
abbrev pub AreSendable : Seen → Type 0
AreSendable M = (p : Post) → In p M.sent → IsLeft p.message → IsSendable p.message

-- ---- in runs in form

-- each message that was sent can be spelled
abbrev pub AreSpelled : Seen → Type 0
AreSpelled M = (p : Post) → In p M.sent → IsSendable p.message

-- ---- runs

-- in every run in form
abbrev pub RunsInFormSpell : Type 0
RunsInFormSpell = (hd : Header) (r : Run hd) → IsInForm hd r → Holds hd AreSpelled (world_by hd r)

-- in every run
abbrev pub RunsSpell : Type 0
RunsSpell = (hd : Header) → HeaderFits hd → (r : Run hd) → Holds hd AreSendable (world_by hd r)
