-- What becomes of actions' ends, where none ends.
use Rattle.arj_law_parts.proofs.Words.{◌≡◌, ◌⊎◌, true, false, refl, sym, subst, inl, inr, ⊎_elim}
use Rattle.arj_law_lock_view.proofs.Terms.{Act, at_act, same, State, act_here, act_other, by_cases, same_is, KeepsEnds, KeptEnd, SameEnd}
use Rattle.arj_law_lock.specs.machine.State.{Action}

pub same_end : (a : Action) → KeptEnd a a
same_end a = record { end = record { stage = refl; place = refl; done = refl }; waited = inl refl }

-- no action changed
pub keeps_ends : (S T : State) → T.action ≡ S.action → KeepsEnds S T
keeps_ends S T is a = subst (λ (f : Act → Action). KeptEnd (S.action a) (f a)) (sym is) (same_end (S.action a))

-- one did, and not in this
pub keeps_one : (S : State) (a : Act) (v : Action) → SameEnd (S.action a) v → ((S.action a).waits ≡ true) ⊎ (v.waits ≡ true) → (q : Act) →
    KeptEnd (S.action q) (at_act S.action a v q)
keeps_one S a v so waits q = ⊎_elim
    (λ (is : same q a ≡ true). subst (λ (k : Act). KeptEnd (S.action k) (at_act S.action a v k)) (sym (same_is q a is))
    (subst (KeptEnd (S.action a)) (sym (act_here S.action a v)) (record { end = so; waited = inr waits })))
    (λ (isnt : same q a ≡ false). subst (KeptEnd (S.action q)) (sym (act_other S.action a v q isnt)) (same_end (S.action q)))
    (by_cases (same q a))

-- behind a state of which no action changed
pub ends_behind : (S T V : State) → T.action ≡ S.action → KeepsEnds T V → KeepsEnds S V
ends_behind S T V is then a = subst (λ (f : Act → Action). KeptEnd (f a) (V.action a)) is (then a)
