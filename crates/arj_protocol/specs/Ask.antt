-- Messages as the protocol looks at them: a request is who asks and what, an answer is who had asked and what is
-- answered; four kinds stand alone.
use Rattle.std.specs.Prelude.{ℕ, List, [], ◌∷◌, Option, Some, None, take}
use Rattle.arj_protocol.specs.Words.{Uid, Path, End, uids_of, tops_of, last_uid, Message, Head, Asked, What, Difference, BoundReply}
use Rattle.arj_protocol.specs.Words.{LoadedReply, RecordedReply, InvokedReply, VotedReply, PreparedReply, ConfirmedReply, FrameKind, Ask}
use Rattle.arj_protocol.specs.Words.ask
use Rattle.arj_protocol.specs.Words.message
use Rattle.arj_protocol.specs.Words.what
use Rattle.arj_protocol.specs.Words.difference
use Rattle.arj_protocol.specs.Words.frame

-- what is answered
pub data Reply : Type 0 where
  Bound : BoundReply → Reply
  Loaded : LoadedReply → Reply
  Activated : ℕ → Reply
  Noted : RecordedReply → Reply
  Invoked : InvokedReply → Reply
  Voted : VotedReply → Reply
  Prepared : PreparedReply → Reply
  Confirmed : ConfirmedReply → Reply

-- the answer of a message
abbrev pub answers : Message → Option (Asked × Reply)
answers (message.Bound m) = Some (m.asked, Bound m.reply)
answers (message.Loaded m) = Some (m.asked, Loaded m.reply)
answers (message.Activated m) = Some (m.asked, Activated m.server_inc)
answers (message.Recorded m) = Some (m.asked, Noted m.reply)
answers (message.Invoked m) = Some (m.asked, Invoked m.reply)
answers (message.Voted m) = Some (m.asked, Voted m.reply)
answers (message.Prepared m) = Some (m.asked, Prepared m.reply)
answers (message.Confirmed m) = Some (m.asked, Confirmed m.reply)
answers _ = None

-- an answer as a message
abbrev pub response : Asked → Reply → Message
response a (Bound r) = message.Bound (record { asked = a; reply = r })
response a (Loaded r) = message.Loaded (record { asked = a; reply = r })
response a (Activated i) = message.Activated (record { asked = a; server_inc = i })
response a (Noted r) = message.Recorded (record { asked = a; reply = r })
response a (Invoked r) = message.Invoked (record { asked = a; reply = r })
response a (Voted r) = message.Voted (record { asked = a; reply = r })
response a (Prepared r) = message.Prepared (record { asked = a; reply = r })
response a (Confirmed r) = message.Confirmed (record { asked = a; reply = r })

-- the action that asks
abbrev pub actor : Path → Uid
actor p = last_uid (uids_of p)

-- what an answer names of the request: the action and its number
abbrev pub asked_by : Head → Asked
asked_by h = record { act = actor h.path; req = h.req }

-- the leading Uids of a path that end with its top
abbrev pub top_path : Path → List Uid
top_path p = take (tops_of p) (uids_of p)

-- the top of a path
abbrev pub top_of : Path → Uid
top_of p = last_uid (top_path p)

-- the kind of answer that a request waits for
abbrev pub ask_kind : Ask → ℕ
ask_kind (ask.Bind x include avoid) = 1
ask_kind (ask.Load x) = 2
ask_kind (ask.Activate b s) = 3
ask_kind (ask.Record x b i g) = 4
ask_kind (ask.Invoke x b i ends op) = 5
ask_kind (ask.Vote i objects ends) = 6
ask_kind (ask.Prepare states) = 7
ask_kind (ask.Confirm objects excluded included) = 8

-- the kind of an answer
abbrev pub reply_kind : Reply → ℕ
reply_kind (Bound r) = 1
reply_kind (Loaded r) = 2
reply_kind (Activated i) = 3
reply_kind (Noted r) = 4
reply_kind (Invoked r) = 5
reply_kind (Voted r) = 6
reply_kind (Prepared r) = 7
reply_kind (Confirmed r) = 8

-- the kind of a message in the line of its frame
abbrev pub frame_kind : Message → FrameKind
frame_kind (message.Bind m) = frame.Bind
frame_kind (message.Bound m) = frame.Bound
frame_kind (message.Load m) = frame.Load
frame_kind (message.Loaded m) = frame.Loaded
frame_kind (message.Activate m) = frame.Activate
frame_kind (message.Activated m) = frame.Activated
frame_kind (message.RecordMsg m) = frame.Record
frame_kind (message.Recorded m) = frame.Recorded
frame_kind (message.Invoke m) = frame.Invoke
frame_kind (message.Invoked m) = frame.Invoked
frame_kind (message.Vote m) = frame.Vote
frame_kind (message.Voted m) = frame.Voted
frame_kind (message.Prepare m) = frame.Prepare
frame_kind (message.Prepared m) = frame.Prepared
frame_kind (message.Confirm m) = frame.Confirm
frame_kind (message.Confirmed m) = frame.Confirmed
frame_kind (message.Told m) = frame.Told
frame_kind (message.Acked m) = frame.Acked
frame_kind (message.Query m) = frame.Query
frame_kind (message.Hello m) = frame.Hello

-- what changed, as a line says it
abbrev pub differs : What → Difference
differs (what.Inc had now) = difference.Inc had now
differs (what.Bind had now) = difference.Bind had now

-- An end that is told: the last one of a list.
abbrev pub last_end : List (Uid × End) → Option (Uid × End)
last_end [] = None
last_end (e ∷ []) = Some e
last_end (e ∷ f ∷ es) = last_end (f ∷ es)
