-- What is looked at of a root where one of its actions calls.
use Rattle.arj_law_parts.proofs.Words
use Words.{ℕ, ◌≡◌, ◌≤◌, ◌+◌, ◌⊎◌, ◌∙◌, ◌++◌, List, [], ◌∷◌, Bool, true, false, cond, refl}
use Words.{sym, ap, subst, inl, inr, ⊎_elim, arith, list_any, Binding}
use Words.{Known}
use Words.{Grant, Keeping, Root, Said, Went}
use Words.{keeping_of, same_went, with_went, binding_number}
use Rattle.arj_law_lock_view.proofs.Terms
use Terms.{Act, In, at_act, root, same, Call, State}
use Terms.{act_other, by_cases}
use Terms.{same_is}
use Terms.{OnlyCalled}
use Terms.{SeesKept}
use Terms.machine
use Rattle.arj_law_lock.specs.machine.{Actions.at, State.Action}
use Rattle.arj_law_lock_view.proofs.view
use view.RootSteps.{knows_later}

-- ---- one after another

-- what belongs to a unit changes twice
pub called_both : (unit : ℕ) (S T V : State) → OnlyCalled unit S T → OnlyCalled unit T V → OnlyCalled unit S V
called_both unit S T V a b = record {
  rest = b.rest ∙ ap
      (λ (s : State). record s { now = V.now; binding = V.binding; action = V.action; kept = V.kept; calls = V.calls; net = V.net }) a.rest;
  actions = λ q away. b.actions q away ∙ a.actions q away;
  ended = λ q over. b.ended q (subst (λ (k : ℕ). 3 ≤ k) (ap (λ (v : Action). v.stage) (sym (a.ended q over))) over) ∙ a.ended q over;
  kept = λ k away. b.kept k away ∙ a.kept k away;
  bindings = λ k. (let i = a.bindings k in let j = b.bindings k in (j.0 ∙ i.0, j.1 ∙ i.1));
  named = λ k h. (let e = a.named k h in b.named k (⊎_elim (λ n. inl (ap (λ (v : machine.Binding). v.named) e ∙ n))
      (λ n. inr (λ is. n (ap (λ (v : machine.Binding). root v.maker) (sym e) ∙ is))) h) ∙ e);
  calls = λ d i. b.calls d (a.calls d i);
  fresh = λ d i. ⊎_elim (λ old. a.fresh d old) (λ new. inr new) (b.fresh d i);
  sent = λ m i. b.sent m (a.sent m i);
}

-- nothing does
pub called_none : (unit : ℕ) (S : State) → OnlyCalled unit S S
called_none unit S = record {
  rest = refl;
  actions = λ q away. refl;
  ended = λ q over. refl;
  kept = λ k away. refl;
  bindings = λ k. (refl, refl);
  named = λ k h. refl;
  calls = λ d i. i;
  fresh = λ d i. inl i;
  sent = λ m i. i;
}

-- an action that isn't over changes, and messages and calls of its unit come
pub called_one : (S : State) (a : Act) (v : Action) (now : ℕ) (calls : List Call) (net : List machine.Message) → (S.action a).stage ≤ 2 →
    ((d : Call) → In d S.calls → In d calls) → ((d : Call) → In d calls → In d S.calls ⊎ (root d.act ≡ root a)) →
    ((m : machine.Message) → In m S.net → In m net)
    → OnlyCalled (root a) S (record S { action = at_act S.action a v; now = now; calls = calls; net = net })
called_one S a v now calls net low old new sent = record {
  rest = refl;
  actions =
      λ q away. act_other S.action a v q (⊎_elim (λ one. absurd (away (ap root (same_is q a one)))) (λ none. none) (by_cases (same q a)));
  ended = λ q over. act_other S.action a v q (⊎_elim (λ one. absurd (let e : (S.action q).stage ≡ (S.action a).stage = ap
      (λ (r : Act). (S.action r).stage) (same_is q a one) in omega (arith, over, e, low))) (λ none. none) (by_cases (same q a)));
  kept = λ k away. refl;
  bindings = λ k. (refl, refl);
  named = λ k h. refl;
  calls = old;
  fresh = new;
  sent = sent;
}

-- the binding that is kept, where neither it nor what is kept changes
pub kept_same : (v : ℕ) (k : Known) (S T : State) → T.kept v ≡ S.kept v → ((b : ℕ) → T.binding b ≡ S.binding b) →
    ((m : machine.Message) → In m S.net → In m T.net) → SeesKept v k S → SeesKept v k T
kept_same v k S T kept same_binding sent s =
    let e = same_binding (binding_number k.binding) in record {
      kept = kept ∙ s.kept;
      server = ap (λ (b : machine.Binding). b.server) e ∙ s.server;
      named = λ i is. (let n = s.named i is in
          (ap (λ (b : machine.Binding). b.named) e ∙ n.0, ap (λ (b : machine.Binding). b.incarnation) e ∙ n.1));
      unnamed = λ none. (let n = s.unnamed none in
          (ap (λ (b : machine.Binding). b.named) e ∙ n.0, ap (λ (b : machine.Binding). root b.maker) e ∙ n.1));
      recorded = λ is. (let r = s.recorded is in (knows_later S T (binding_number k.binding) sent r.0, r.1));
    }

-- ---- what is looked at of a root

pub record Looks (x : ℕ) (q : Root) (k : Keeping) (said : List Said) (grants : List Grant) : Type 0 where
  pub keeps : keeping_of x q ≡ k
  pub said_is : q.said ≡ said
  pub grants_are : q.grants ≡ grants

-- a note of who was sent something is nothing to it
pub looks_went : (x : ℕ) (w : Went) (q : Root) (k : Keeping) (said : List Said) (grants : List Grant) → Looks x q k said grants →
    Looks x (with_went w q) k said grants
looks_went x w q k said grants l = by (list_any (same_went w) q.went)
  where
    by : (b : Bool) → Looks x (cond b q (record q { went = q.went ++ w ∷ [] })) k said grants
    by true = l
    by false = record { keeps = l.keeps; said_is = l.said_is; grants_are = l.grants_are }
