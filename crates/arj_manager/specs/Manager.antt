-- All active objects of a server, each with its number, in increasing order.
use Rattle.std.specs.Prelude.{ℕ, Bool, List, Option, Some, None, map}
use Rattle.std.specs.List.{list_any, filter_map, flat_map}
use Rattle.arj_base.specs.declared.mode.End.{End}
use Rattle.arj_base.specs.declared.path.Path.{Path}
use Rattle.arj_base.specs.declared.state.ObjectState.{ObjectState}
use Rattle.arj_base.specs.declared.uid.Uid.{Uid}
use Rattle.arj_class.specs.declared.op.Op.{Op}
use Rattle.arj_lock.specs.Held.{top_of}
use Rattle.arj_msg.specs.declared.message.InvokedReply.{InvokedReply}
use Rattle.arj_protocol.specs.Copy.{Copy, invoke_copy, end_copy, changed_state, holds, is_top_in}
use Rattle.arj_protocol.specs.Effect.{Served, void}
use Rattle.arj_protocol.specs.Order.{at_number, put_number, each}

-- copies by their numbers
abbrev pub Copies : Type 0
Copies = List (ℕ × Copy)

-- an operation on one object's copy, which is put back
abbrev pub invoke_at : ℕ → Path → ℕ → Op → Copies → Option Copy → Served Copies InvokedReply
invoke_at n p x op m None = void m
invoke_at n p x op m (Some c) = let r = invoke_copy n p x op c in record { part = put_number x r.part m; outs = r.outs; reply = r.reply }

-- an operation on an object, void where it isn't active
abbrev pub invoke_in : ℕ → Path → ℕ → Op → Copies → Served Copies InvokedReply
invoke_in n p x op m = invoke_at n p x op m (at_number x m)

-- each copy after an end
abbrev pub ended : Uid → End → Copies → Copies
ended u e m = each (λ x. end_copy u e) m

-- the states that a top made, by object
abbrev pub changed_in : Uid → Copies → List ObjectState
changed_in top m = filter_map (λ (e : ℕ × Copy). changed_state top e.0 e.1) m

-- the action or a descendant of it has a lock
abbrev pub holds_any : Uid → Copies → Bool
holds_any u m = list_any (λ (e : ℕ × Copy). holds u e.1.rows) m

-- the action is a top or a serializing action in the path of a lock
abbrev pub is_any_top : Uid → Copies → Bool
is_any_top u m = list_any (λ (e : ℕ × Copy). is_top_in u e.1.rows) m

-- the top of each holder, lock by lock; a serializing action counts as its own top
abbrev pub tops_in : Copies → List Uid
tops_in m = flat_map (λ (e : ℕ × Copy). map top_of e.1.rows) m
