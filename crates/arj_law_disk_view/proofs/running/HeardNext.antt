-- What a step of a commit leads to: it asks further or waits, by a plan that uses and has changed what the one before did.
use Rattle.arj_law_parts.proofs.Words
use Words.{◌≡◌, ◌⊎◌, ℕ, Bool, true, false, List, [], ◌∷◌, refl, sym, ◌∙◌, ap, subst, inl, inr, Uid, Asks, CommitStep, Confirming, Machine}
use Words.{Preparing, Stays, Used, Voting, begin_confirm, begin_prepare, begin_vote, further, plan_of, stores_left, targets_of}
use Words.commit
use Rattle.arj_law_disk_view.proofs.Terms.{Office, never, Among, used_at, Kinds, is_voting, SeesPlan}

-- the step goes on to this machine, whose plan is as that one, and votes only where that may
pub record GoesTo (p : commit.Plan) (may_vote : Bool) (step : CommitStep) : Type 0 where
  pub machine : Machine
  pub kind : (step ≡ Asks machine) ⊎ (step ≡ Stays machine)
  pub used : (let q = plan_of machine in q.used) ≡ p.used
  pub changed : (let q = plan_of machine in q.changed) ≡ p.changed
  pub path : (let q = plan_of machine in q.path) ≡ p.path
  pub votes : is_voting machine ≡ true → may_vote ≡ true

pub confirm_to : (p : commit.Plan) (z : Bool) (v : Used) (vs us : List Used) → us ≡ v ∷ vs → GoesTo p z (begin_confirm us p)
confirm_to p z v vs us is = subst (λ y. GoesTo p z (begin_confirm y p)) (sym is) (record {
  machine = Confirming (further (1 ∷ []) p);
  kind = inl refl;
  used = refl;
  changed = refl;
  path = refl;
  votes = λ on. absurd (never on refl);
})

pub prepare_to : (ts : List ℕ) (p : commit.Plan) (z : Bool) (v : Used) (vs : List Used) → p.used ≡ v ∷ vs → GoesTo p z (begin_prepare ts p)
prepare_to [] p z v vs is = confirm_to p z v vs p.used is
prepare_to (s ∷ ss) p z v vs is = record {
  machine = Preparing (further (s ∷ ss) p) (s ∷ ss);
  kind = inl refl;
  used = refl;
  changed = refl;
  path = refl;
  votes = λ on. absurd (never on refl);
}

pub vote_to : (ss : List ℕ) (p : commit.Plan) (v : Used) (vs : List Used) → p.used ≡ v ∷ vs → GoesTo p true (begin_vote ss p)
vote_to [] p v vs is = prepare_to (targets_of p) p true v vs is
vote_to (s ∷ ss) p v vs is =
    record { machine = Voting (further (s ∷ ss) p) (s ∷ ss); kind = inl refl; used = refl; changed = refl; path = refl; votes = λ on. refl }

pub stores_to : (rest : List ℕ) (p : commit.Plan) (v : Used) (vs : List Used) → p.used ≡ v ∷ vs →
    GoesTo p false (let m = stores_left rest p in m.step)
stores_to [] p v vs is = confirm_to p false v vs p.used is
stores_to (n ∷ ns) p v vs is = record {
  machine = Preparing p (n ∷ ns);
  kind = inr refl;
  used = refl;
  changed = refl;
  path = refl;
  votes = λ on. absurd (never on refl);
}

-- what the plan uses is seen still
pub plan_on : (x : ℕ) (tops : Kinds) (u : Uid) (m n : Machine) (A : Office) →
    (let q = plan_of n in q.used) ≡ (let q = plan_of m in q.used) → (let q = plan_of n in q.changed) ≡ (let q = plan_of m in q.changed) →
    (is_voting n ≡ true → is_voting m ≡ true) → SeesPlan x tops u m A → SeesPlan x tops u n A
plan_on x tops u m n A used changed votes p = record {
  top = p.top;
  grants = λ w i at had. p.grants w i (ap (used_at x) (sym used) ∙ at) had;
  changed = λ w st at there of. p.changed w st (ap (used_at x) (sym used) ∙ at) (subst (Among st) changed there) of;
  list = λ w on at called. p.list w (votes on) (ap (used_at x) (sym used) ∙ at) called;
  loaded = λ w st on at is. p.loaded w st (votes on) (ap (used_at x) (sym used) ∙ at) is;
}
