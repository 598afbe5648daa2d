-- What a call is answered: what its operation gives at some value, there or gone, of a class that has it.
use Rattle.std.specs.Prelude.{⊤, ◌≡◌, ℕ, true}
use Rattle.arj_class.specs.Table.{answer_of, has_op, own_class}
use Rattle.arj_class.specs.declared.value.Value.{Value}
use Rattle.arj_law_lock_view.specs.moments.Made.{Saying}
use Rattle.arj_protocol.specs.Ask.{Reply}
use Rattle.arj_protocol.specs.Words.{Answer, Ask, Op}
use Rattle.arj_protocol.specs.Words.ask
use Rattle.arj_protocol.specs.Words.invoked

-- the operation gives this answer
abbrev pub Gives : Op → Answer → Type 0
Gives o a = (v : Value) × (has_op (own_class v) o ≡ true) × (a ≡ answer_of o v)

-- an Invoke on this object that is answered is answered by its own operation
abbrev pub gives_of : ℕ → Ask → Reply → Type 0
gives_of x (ask.Invoke y b i ends o) (Reply.Invoked (invoked.Answered a)) = y ≡ x → Gives o a
gives_of x a r = ⊤

-- so it is of an answer
abbrev pub gives_so : ℕ → Saying
gives_so x a before = gives_of x (let z = a in z.ask) (let z = a in z.reply)
