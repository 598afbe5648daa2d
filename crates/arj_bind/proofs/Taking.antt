-- Whether an answer is the one that the steps wait for, from the number of its request.
use Rattle.std.proofs.Common.{◌≡◌, ℕ, Bool, true, false, ◌&&◌, ◌==◌, Option, Some, None, cond, refl}
use Rattle.std.specs.Prelude.{[], is_some}
use Rattle.arj_msg.specs.declared.message.Asked.{Asked}
use Rattle.arj_protocol.specs.Ask.{Reply, reply_kind, ask_kind}
use Rattle.arj_protocol.specs.Call.{Steps, next_ask, next_node}
use Rattle.arj_bind.specs.Heard.{awaited, req_of, is_awaited}

is_some_if : (b : Bool) (r : Reply) → is_some (cond b (Some r) None) ≡ b
is_some_if true r = refl
is_some_if false r = refl

pub takes_is : (from : ℕ) (s : Steps) (e : Option (Asked × Reply)) →
    is_some (awaited from s e) ≡ is_awaited (req_of s.x s.goal s.at e) s.req (next_node s) from
takes_is from s None = refl
takes_is from s (Some e) = by (reply_kind e.1 == ask_kind (next_ask [] s))
  where
    none : (b : Bool) → is_some (cond (b && false) (Some e.1) None) ≡ false
    none true = refl
    none false = refl

    by : (b : Bool) →
        is_some (cond ((s.req == e.0.req) && (b && (next_node s == from))) (Some e.1) None) ≡ is_awaited (cond b (Some e.0.req) None) s.req (next_node s) from
    by true = is_some_if ((s.req == e.0.req) && (next_node s == from)) e.1
    by false = none (s.req == e.0.req)
