-- The answers: the kind is one byte before each (`Message`); then who had asked, and the body.
use Rattle.arj_msg.specs.Format.{Format, both, shaped}
use Rattle.arj_msg.specs.Fields.{number4}
use Rattle.arj_msg.specs.Head.{asked}
use Rattle.arj_msg.specs.Replies.{bound_reply, loaded_reply, recorded_reply, invoked_reply, voted_reply, prepared_reply, confirmed_reply}
use Rattle.arj_msg.specs.declared.message.Bound.{Bound}
use Rattle.arj_msg.specs.declared.message.Loaded.{Loaded}
use Rattle.arj_msg.specs.declared.message.Activated.{Activated}
use Rattle.arj_msg.specs.declared.message.Recorded.{Recorded}
use Rattle.arj_msg.specs.declared.message.Invoked.{Invoked}
use Rattle.arj_msg.specs.declared.message.Voted.{Voted}
use Rattle.arj_msg.specs.declared.message.Prepared.{Prepared}
use Rattle.arj_msg.specs.declared.message.Confirmed.{Confirmed}

-- the answer to a Bind: who had asked, and what naming replies
unfoldable pub bound : Format Bound
bound = shaped (λ p. record { asked = p.0; reply = p.1 }) (λ m. (m.asked, m.reply)) (both asked bound_reply)

-- the answer to a Load: who had asked, and what the store replies
unfoldable pub loaded : Format Loaded
loaded = shaped (λ p. record { asked = p.0; reply = p.1 }) (λ m. (m.asked, m.reply)) (both asked loaded_reply)

-- the answer to an Activate: who had asked, and the incarnation of the server that took the copy
unfoldable pub activated : Format Activated
activated = shaped (λ p. record { asked = p.0; server_inc = p.1 }) (λ m. (m.asked, m.server_inc)) (both asked number4)

-- the answer to a RecordMsg: who had asked, and what naming replies
unfoldable pub recorded : Format Recorded
recorded = shaped (λ p. record { asked = p.0; reply = p.1 }) (λ m. (m.asked, m.reply)) (both asked recorded_reply)

-- the answer to an Invoke: who had asked, and what the server replies
unfoldable pub invoked : Format Invoked
invoked = shaped (λ p. record { asked = p.0; reply = p.1 }) (λ m. (m.asked, m.reply)) (both asked invoked_reply)

-- the answer to a Vote: who had asked, and what the server replies
unfoldable pub voted : Format Voted
voted = shaped (λ p. record { asked = p.0; reply = p.1 }) (λ m. (m.asked, m.reply)) (both asked voted_reply)

-- the answer to a Prepare: who had asked, and what the store replies
unfoldable pub prepared : Format Prepared
prepared = shaped (λ p. record { asked = p.0; reply = p.1 }) (λ m. (m.asked, m.reply)) (both asked prepared_reply)

-- the answer to a Confirm: who had asked, and what naming replies
unfoldable pub confirmed : Format Confirmed
confirmed = shaped (λ p. record { asked = p.0; reply = p.1 }) (λ m. (m.asked, m.reply)) (both asked confirmed_reply)
