-- Whom a node has confirmed stays seen, as the machine goes on and more is sent.
use Rattle.arj_law_parts.proofs.Words
use Words.{◌≡◌, ◌⊎◌, ◌∙◌, ℕ, List, [], ◌∷◌, Bool, true, false, cond, Option, Some, None, refl, sym, ap, inl, inr, ⊎_elim, map, arith}
use Words.{is_some, is_eq, or_cases, uid_order, uid_eq, uid_cases, uid_is, ObjectState, Uid, is_on, Abort, After, Before, Commit, Disk}
use Words.{InPart, Look, Prepare, PutInc, PutIntent, RemoveIntent, Stop, Work, is_prepared, stopped, worked, Parts, at_uid, put_uid}
use Words.{without_uid, Post}
use Words.role
use Rattle.arj_law_lock_view.proofs.Terms
use Terms.{put_other, put_same, without_other, Act, Root, root, Run, State, Later, Within, IsReached, NobodyConfirmed, Fixed, HasConfirm}
use Terms.{HaveConfirms, IsConfirmedAt, IsOverIn, WasAnsweredYes, WereConfirmed}
use Rattle.arj_law_lock_view.proofs.view.EverSteps.{Ever, Kept, ever, on_run, reached_kept}
use Rattle.arj_law_lock_view.specs.running.Sees.{WasConfirmed}
use Rattle.arj_law_parts.proofs.parts.Keys.{at_here}

module _ (f : Fixed) (x : ℕ) where
  -- in a later state, and as more is sent
  pub confirm_later : (S T : State) → IsReached S → Run S T → (sent wide : List Post) → Within sent wide → (u : Uid) →
      HasConfirm f x S sent u → HasConfirm f x T wide u
  confirm_later S T reached run sent wide within u h = record {
    post = h.post;
    head = h.head;
    grants = h.grants;
    excluded = h.excluded;
    included = h.included;
    there = within h.post h.there;
    is = h.is;
    top = h.top;
    confirmed = λ names. (let e = ever reached run in e.confirmed (f.act u) (h.confirmed names));
  }

  pub confirm_more : (S : State) (sent wide : List Post) → Within sent wide → (u : Uid) → HasConfirm f x S sent u → HasConfirm f x S wide u
  confirm_more S sent wide within u h = record {
    post = h.post;
    head = h.head;
    grants = h.grants;
    excluded = h.excluded;
    included = h.included;
    there = within h.post h.there;
    is = h.is;
    top = h.top;
    confirmed = h.confirmed;
  }

  -- what naming did stays, as more is sent, and in a later state
  answered_more : (sent wide : List Post) → Within sent wide → (u : Uid) → WasAnsweredYes x sent u → WasAnsweredYes x wide u
  answered_more sent wide within u h = record {
    post = h.post;
    head = h.head;
    grants = h.grants;
    excluded = h.excluded;
    included = h.included;
    there = within h.post h.there;
    is = h.is;
    to = h.to;
    top = h.top;
    names = h.names;
    yes = within _ h.yes;
  }

  pub was_more : (S : State) (sent wide : List Post) → Within sent wide → (d : Disk) (u : Uid) → WasConfirmed f x S sent d u →
      WasConfirmed f x S wide d u
  was_more S sent wide within d u (inl answered) = inl (answered_more sent wide within u answered)
  was_more S sent wide within d u (inr rest) = inr rest

  pub over_later : (S T : State) → IsReached S → Run S T → (a : Act) → IsOverIn a S → IsOverIn a T
  over_later S T reached run a over = (on_run (IsOverIn a) later run (reached_kept S reached) over).2
    where
      later : (s t : State) → Kept s → Later s t → Ever s t → IsOverIn a s → IsOverIn a t
      later s t k l e (inl three) = inl (let m = l.stage a in omega (arith, three, m))
      later s t k l e (inr unit) = inr (l.ends (Root (root a)) unit).0

  pub was_later : (S T : State) → IsReached S → Run S T → (sent wide : List Post) → Within sent wide → (d : Disk) (u : Uid) →
      WasConfirmed f x S sent d u → WasConfirmed f x T wide d u
  was_later S T reached run sent wide within d u (inl answered) = inl (answered_more sent wide within u answered)
  was_later S T reached run sent wide within d u (inr (inl prepared)) = inr (inl prepared)
  was_later S T reached run sent wide within d u (inr (inr over)) = inr (inr (over_later S T reached run (f.act u) over))

  were_same : (S : State) (sent : List Post) (d e : Disk) → e.names ≡ d.names → WereConfirmed f x S sent d → WereConfirmed f x S sent e
  were_same S sent d e names were u top on = by (were u top on)
    where
      by : WasConfirmed f x S sent d u → WasConfirmed f x S sent e u
      by (inl answered) = inl answered
      by (inr (inl prepared)) = inr (inl (ap (is_prepared u) names ∙ prepared))
      by (inr (inr over)) = inr (inr over)

  -- a node that has the same entries prepared, and the same naming
  pub confirms_same : (k : ℕ) (S : State) (sent : List Post) (d e : Disk) (t v : Parts) → e.names ≡ d.names → v.naming ≡ t.naming →
      HaveConfirms f x k S sent d (Some t) → HaveConfirms f x k S sent e (Some v)
  confirms_same k S sent d e t v names naming have = (who, λ at_one. were_same S sent d e names (have.1 at_one))
    where
      one : (w : Parts) → ◌≡◌ {A = Option Parts} (Some v) (Some w) → v ≡ w
      one w same = cc same

      who : (u : Uid) → IsConfirmedAt u e (Some v) → HasConfirm f x S sent u
      who u (inl prepared) = have.0 u (inl (ap (is_prepared u) (sym names) ∙ prepared))
      who u (inr (w, n, is, at, on)) = have.0 u (inr (t, n, refl, sym naming ∙ ap (λ (z : Parts). z.naming) (one w is) ∙ at, on))

  -- and one that is down
  pub confirms_down : (k : ℕ) (S : State) (sent : List Post) (d e : Disk) (live : Option Parts) → e.names ≡ d.names →
      HaveConfirms f x k S sent d live → HaveConfirms f x k S sent e None
  confirms_down k S sent d e live names have = (who, λ at_one. were_same S sent d e names (have.1 at_one))
    where
      who : (u : Uid) → IsConfirmedAt u e None → HasConfirm f x S sent u
      who u (inl prepared) = have.0 u (inl (ap (is_prepared u) (sym names) ∙ prepared))
      who u (inr (w, n, is, at, on)) = absurd (cc is)

  pub confirms_later : (k : ℕ) (S T : State) → IsReached S → Run S T → (k ≡ 1 → NobodyConfirmed S T) → (sent wide : List Post) →
      Within sent wide → (d : Disk) (live : Option Parts) → HaveConfirms f x k S sent d live → HaveConfirms f x k T wide d live
  confirms_later k S T reached run nobody sent wide within d live have = (
    (λ u at. confirm_later S T reached run sent wide within u (have.0 u at)),
    λ at_one u top on. was_later S T reached run sent wide within d u
        (have.1 at_one u top (sym (ap (λ (g : Act → Bool). g (f.act u)) (nobody at_one)) ∙ on)),
  )

  pub confirms_more : (k : ℕ) (S : State) (sent wide : List Post) → Within sent wide → (d : Disk) (live : Option Parts) →
      HaveConfirms f x k S sent d live → HaveConfirms f x k S wide d live
  confirms_more k S sent wide within d live have = (
    (λ u at. confirm_more S sent wide within u (have.0 u at)),
    λ at_one u top on. was_more S sent wide within d u (have.1 at_one u top on),
  )

-- ---- what is prepared

-- what is found without an action's value was there
found_less : {X : Type 0} (u w : Uid) (m : List (Uid × X)) → is_some (at_uid u (without_uid w m)) ≡ true → is_some (at_uid u m) ≡ true
found_less u w [] found = found
found_less {X} u w (e ∷ es) found = by (is_eq (uid_order w e.0)) (λ there. found_less u w es there) found
  where
    more : (b : Bool) → is_some (at_uid u es) ≡ true → is_some (cond b (Some e.1) (at_uid u es)) ≡ true
    more true there = refl
    more false there = there

    rest : (b : Bool) → (is_some (at_uid u (without_uid w es)) ≡ true → is_some (at_uid u es) ≡ true) →
        is_some (cond b (Some e.1) (at_uid u (without_uid w es))) ≡ true → is_some (cond b (Some e.1) (at_uid u es)) ≡ true
    rest true ih there = refl
    rest false ih there = ih there

    by : (a : Bool) → (is_some (at_uid u (without_uid w es)) ≡ true → is_some (at_uid u es) ≡ true) →
        is_some (at_uid u (cond a es (e ∷ without_uid w es))) ≡ true → is_some (at_uid u (e ∷ es)) ≡ true
    by true ih there = more (is_eq (uid_order u e.0)) there
    by false ih there = rest (is_eq (uid_order u e.0)) ih there

found_put : {X : Type 0} (u w : Uid) (v : X) (m : List (Uid × X)) → is_some (at_uid u (put_uid w v m)) ≡ true →
    (is_some (at_uid u m) ≡ true) ⊎ (w ≡ u)
found_put u w v m found =
    ⊎_elim (λ same. inr (sym same)) (λ other. inl (ap is_some (sym (put_other u w v m other)) ∙ found)) (uid_cases u w)

-- what is prepared after some work was it before, or the work prepares it
pub prepared_worked : (w : Work) (d : Disk) (u : Uid) → is_prepared u (worked w d).names ≡ true →
    (is_prepared u d.names ≡ true) ⊎ ((states : List ObjectState) × (Prepare role.Names u states ≡ w))
prepared_worked Look d u is = inl is
prepared_worked (PutInc i) d u is = inl is
prepared_worked (Prepare role.Store a states) d u is = inl is
prepared_worked (Prepare role.Names a states) d u is =
    ⊎_elim (λ old. inl old) (λ same. inr (states, ap (λ w. Prepare role.Names w states) (sym same))) (found_put u a states d.names.pend is)
prepared_worked (Commit role.Store a) d u is = inl is
prepared_worked (Commit role.Names a) d u is = inl (found_less u a d.names.pend is)
prepared_worked (Abort role.Store a) d u is = inl is
prepared_worked (Abort role.Names a) d u is = inl (found_less u a d.names.pend is)
prepared_worked (PutIntent a i) d u is = inl is
prepared_worked (RemoveIntent a) d u is = inl is

pub prepared_stopped : (how : Stop) (w : Work) (d : Disk) (u : Uid) → is_prepared u (stopped how w d).names ≡ true →
    (is_prepared u d.names ≡ true) ⊎ ((states : List ObjectState) × (Prepare role.Names u states ≡ w))
prepared_stopped Before w d u is = inl is
prepared_stopped After w d u is = prepared_worked w d u is
prepared_stopped (InPart which) Look d u is = inl is
prepared_stopped (InPart which) (PutInc i) d u is = inl is
prepared_stopped (InPart which) (Prepare r a states) d u is = inl is
prepared_stopped (InPart which) (Commit role.Store a) d u is = inl is
prepared_stopped (InPart which) (Commit role.Names a) d u is = inl is
prepared_stopped (InPart which) (Abort r a) d u is = inl is
prepared_stopped (InPart which) (PutIntent a i) d u is = inl is
prepared_stopped (InPart which) (RemoveIntent a) d u is = inl is

-- what is prepared stays so, but for what ends it
pub prepared_left : (w : Work) (d : Disk) (u : Uid) → is_prepared u d.names ≡ true →
    (is_prepared u (worked w d).names ≡ true) ⊎ ((Commit role.Names u ≡ w) ⊎ (Abort role.Names u ≡ w))
prepared_left Look d u is = inl is
prepared_left (PutInc i) d u is = inl is
prepared_left (Prepare role.Store a states) d u is = inl is
prepared_left (Prepare role.Names a states) d u is = inl (⊎_elim (λ same. ap is_some (ap (λ w. at_uid w (put_uid a states d.names.pend))
    same ∙ put_same a states d.names.pend)) (λ other. ap is_some (put_other u a states d.names.pend other) ∙ is) (uid_cases u a))
prepared_left (Commit role.Store a) d u is = inl is
prepared_left (Commit role.Names a) d u is = ⊎_elim (λ same. inr (inl (ap (λ w. Commit role.Names w) same)))
    (λ other. inl (ap is_some (without_other u a d.names.pend other) ∙ is)) (uid_cases u a)
prepared_left (Abort role.Store a) d u is = inl is
prepared_left (Abort role.Names a) d u is = ⊎_elim (λ same. inr (inr (ap (λ w. Abort role.Names w) same)))
    (λ other. inl (ap is_some (without_other u a d.names.pend other) ∙ is)) (uid_cases u a)
prepared_left (PutIntent a i) d u is = inl is
prepared_left (RemoveIntent a) d u is = inl is

pub prepared_halted : (how : Stop) (w : Work) (d : Disk) (u : Uid) → is_prepared u d.names ≡ true →
    (is_prepared u (stopped how w d).names ≡ true) ⊎ ((Commit role.Names u ≡ w) ⊎ (Abort role.Names u ≡ w))
prepared_halted Before w d u is = inl is
prepared_halted After w d u is = prepared_left w d u is
prepared_halted (InPart which) Look d u is = inl is
prepared_halted (InPart which) (PutInc i) d u is = inl is
prepared_halted (InPart which) (Prepare r a states) d u is = inl is
prepared_halted (InPart which) (Commit role.Store a) d u is = inl is
prepared_halted (InPart which) (Commit role.Names a) d u is = inl is
prepared_halted (InPart which) (Abort r a) d u is = inl is
prepared_halted (InPart which) (PutIntent a i) d u is = inl is
prepared_halted (InPart which) (RemoveIntent a) d u is = inl is

-- who has entries prepared is found so again
pub found_keys : {X : Type 0} (u : Uid) (m : List (Uid × X)) → is_on (map (λ (p : Uid × X). p.0) m) u ≡ true → is_some (at_uid u m) ≡ true
found_keys u [] on = on
found_keys {X} u (e ∷ es) on = ⊎_elim
    (λ same. ap is_some (ap (λ w. at_uid w (e ∷ es)) (sym (uid_is e.0 u same)) ∙ at_here e.0 e.1 es))
    (λ rest. by (is_eq (uid_order u e.0)) (found_keys u es rest))
    (or_cases (uid_eq e.0 u) (is_on (map (λ (p : Uid × X). p.0) es) u) on)
  where
    by : (b : Bool) → is_some (at_uid u es) ≡ true → is_some (cond b (Some e.1) (at_uid u es)) ≡ true
    by true found = refl
    by false found = found
