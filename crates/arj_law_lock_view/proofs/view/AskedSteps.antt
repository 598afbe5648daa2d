-- What requests that come to a server show.
use Rattle.arj_law_parts.proofs.Words
use Words.{◌≡◌, ◌≤◌, ℕ, List, Some, refl, Binding, End, Head, ObjectState, Op, Uid, actor, binding_number, Server}
use Words.ask
use Rattle.arj_law_lock_view.proofs.Terms
use Terms.{In, State, Holds, run_keeps, start_holds, IsReached, IsServedBy, IsNamedSo, wanted_by, IsShown, View, state_code}
use Terms.machine

-- An Activate of the object: its binding is of this node, and a state was sent for it.
pub record IsGiven (v : View) (b : Binding) (st : ObjectState) (S : State) : Type 0 where
  pub bound : 1 ≤ binding_number b
  pub served : IsServedBy S b v.node
  pub sent : In (machine.Activate (binding_number b) (state_code v.family.act v.code st)) S.net

-- An Invoke on the object: one of this number was sent, to the node of its binding, the incarnation that it says was heard for that,
-- and it is what the action wants by this number.
pub record IsAsked (v : View) (h : Head) (b : Binding) (i : ℕ) (o : Op) (S : State) : Type 0 where
  pub number : 1 ≤ h.req
  pub bound : 1 ≤ binding_number b
  pub served : IsServedBy S b v.node
  pub named : IsNamedSo S b i
  pub sent : In (machine.Invoke (wanted_by v.family.act (actor h.path) h.req (record { binding = b; op = o }))) S.net
  pub wish : v.wants (actor h.path) h.req ≡ Some (record { binding = b; op = o })

holds_of : {S : State} → IsReached S → Holds S
holds_of reached = run_keeps reached.1 (start_holds reached.0)

pub given_of : (v : View) (h : Head) (b : Binding) (st : ObjectState) (s : Server) (S : State) → IsShown v h (ask.Activate b st) s S →
    (let u = st.uid in u.num) ≡ v.x → IsGiven v b st S
given_of v h b st s S shown about =
    let says = shown.says about in
    let holds = holds_of shown.reached in
    let mean = holds.mail (machine.Activate (binding_number b) (state_code v.family.act v.code st)) says.1 in
    record { bound = mean.0; served = says.0; sent = says.1 }

pub asked_of : (v : View) (h : Head) (b : Binding) (i : ℕ) (ends : List (Uid × End)) (o : Op) (s : Server) (S : State) →
    IsShown v h (ask.Invoke v.x b i ends o) s S → IsAsked v h b i o S
asked_of v h b i ends o s S shown =
    let says = shown.says refl in
    let wanted = shown.wanted in
    let holds = holds_of shown.reached in
    let mean = holds.mail (machine.Invoke (wanted_by v.family.act (actor h.path) h.req (record { binding = b; op = o }))) says.2 in
    let named = holds.bindings (binding_number b) mean.2 in
    record { number = wanted.0; bound = named.positive; served = says.0; named = says.1; sent = says.2; wish = wanted.1 refl }
