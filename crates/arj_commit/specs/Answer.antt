-- Answers as the steps of a commit look at them.
use Rattle.std.specs.Prelude.{ℕ, ◌==◌, ◌&&◌, Bool, false, List, Option, Some, None}
use Rattle.arj_base.specs.Uid.{uid_eq}
use Rattle.arj_base.specs.declared.uid.Uid.{Uid}
use Rattle.arj_msg.specs.declared.message.Asked.{Asked}
use Rattle.arj_protocol.specs.Ask.{Reply, reply_kind}
use Rattle.arj_protocol.specs.Order.{has}

-- who had asked, and the kind of the answer
abbrev pub kinded : Asked × Reply → Asked × ℕ
kinded a = (a.0, reply_kind a.1)

-- an answer of this kind to this request, from one of these nodes
abbrev pub is_awaited : ℕ → ℕ → List ℕ → ℕ → Option (Asked × ℕ) → Bool
is_awaited kind req left from None = false
is_awaited kind req left from (Some a) = (req == a.0.req) && ((a.1 == kind) && has left from)

-- This action had asked.
abbrev pub is_asked_by : Uid → Option (Asked × ℕ) → Bool
is_asked_by act None = false
is_asked_by act (Some a) = uid_eq a.0.act act
