-- What coordinators have of naming's answers, where one of them takes an answer in the machine, or none, and goes on by it.
use Rattle.arj_law_parts.proofs.Words
use Words.{◌≡◌, ◌≢◌, ◌⊎◌, ◌<◌, ℕ, ◌==◌, if◌then◌else◌, Bool, true, false, List, Option, Some, None, refl, sym, ◌∙◌, ap, subst, inl, inr}
use Words.{⊎_elim, arith, Contains, unwrap_or, and_parts, uid_cases, Uid, asks, uids_of, actor, top_of, Known, Steps, is_include, Machine}
use Words.{Calling, Committing, Coord, Doing, Idle, Joined, Now, Root, Went, doing_of, kept_of, no_root, root_at, Disk, Parts, at_number}
use Words.{uid_number, Node, branch_of, is_own, root_of, number_tells, Post, Seen}
use Rattle.arj_law_disk_view.proofs.Terms
use Terms.{World, Named, Kept, Names, Office, load_of, has, put, put2, never, put_other, some_is, test_cases, test_is, test_same, up}
use Terms.{KnowsKinds, IsFixed, IsLater, Kinds, IsOther, OnlyAnswers, OnlyAtNode, SeesBoth, SeesRootOf, HasCallList, HasNarrowed, IsTopOf}
use Terms.{KeepsCalls, IsHadBy, IsListFor, IsOfRoot, IsPathIn, IsWorkingRoot, SeesCall, SeesHeard, SeesHeardAt, SeesPlan, SeesStep}
use Terms.{is_bound}
use Rattle.arj_law_disk_view.proofs.names.{GrantClaims.answers_are_after, RootsBoth.root_stays}
use Rattle.arj_law_disk_view.proofs.running
use running.{HeardAsk.step_in, HeardPlaces.StandsIn}
use running.HeardAll.{WasAt, asked_on, heard_goes}
use running.HeardLike.{call_same, path_on, root_like, same_path, went_to}
use running.HeardStays.{GoesOn, StaysOf, call_stays, claim_stays, none_stays, step_goes}
use Rattle.arj_law_disk_view.proofs.view.{Frames.node_cases, Frames.node_here, Later.later_same}
use Rattle.arj_law_disk_view.specs.running.Heard.{AreOfOne}

-- ---- an answer is taken in the machine

-- Answers were taken for a root: of other roots nothing has changed; and grants are as they were, or this top has one more.
pub record IsTakenFor (tops : Kinds) (root top : Uid) (A D : Office) : Type 0 where
  pub only : OnlyAnswers A D
  pub others : (r : ℕ) → tops.root r ≡ r → (r ≡ uid_number root → ⊥) → StaysOf tops r A D
  pub grants : (D.names.had ≡ A.names.had) ⊎ ((g : ℕ) × (D.names.had ≡ put2 (uid_number top) g true A.names.had))

-- no answer is taken
pub taken_none : (tops : Kinds) (root top : Uid) (A : Office) → OnlyAnswers A A → IsTakenFor tops root top A A
taken_none tops root top A only =
    record { only = only; others = λ r alone other. record { had = λ h of. refl; kept = λ h of. refl; states = refl }; grants = inl refl }

-- where it is known of the top alone that its root may have changed
pub taken_at : (tops : Kinds) (root top : Uid) (A D : Office) (g : ℕ) → IsFixed tops A.world.disk → IsTopOf tops root top → OnlyAnswers A D
    → OnlyAtNode (λ n. n == uid_number top) A D → D.names.had ≡ put2 (uid_number top) g true A.names.had → IsTakenFor tops root top A D
taken_at tops root top A D g fixed of only at had = record { only = only; others = others; grants = inr (g, had) }
  where
    its : (t : ℕ) → (t == uid_number top) ≡ true → A.world.disk.root t ≡ uid_number root
    its t on = ap (λ f. f t) fixed.root ∙ (ap tops.root (test_is t (uid_number top) on) ∙ of.of_root)

    others : (r : ℕ) → tops.root r ≡ r → (r ≡ uid_number root → ⊥) → StaysOf tops r A D
    others r alone other = record {
      had = λ h is. at.had h (apart h is);
      kept = λ h is. at.kept h (apart h is);
      states = at.tops r (λ t on same. other (sym same ∙ its t on));
    }
      where
        apart : (h : ℕ) → IsOfRoot tops r h → IsOther (λ n. n == uid_number top) A.world.disk (A.world.disk.root h)
        apart h is t on same =
            other (sym (⊎_elim (λ e. ap tops.root e ∙ alone) (λ e. e) is) ∙ (sym (ap (λ f. f h) fixed.root) ∙ (sym same ∙ its t on)))

module _ (x : ℕ) (tops : Kinds) (root top : Uid) (A D : Office) (f : IsFixed tops A.world.disk) (kinds : KnowsKinds tops)
    (of : IsTopOf tops root top) (alone : tops.root (uid_number root) ≡ uid_number root) (taken : IsTakenFor tops root top A D) where
  pub fixed_on : IsFixed tops D.world.disk
  fixed_on = let o = taken.only in subst (λ (W : World). IsFixed tops W.disk) (sym o.world) f

  pub goes : GoesOn A D
  goes = let o = taken.only in
      record { later = subst (IsLater A.world) (sym o.world) (later_same A.world); had = o.grows; answers = o.answers }

  -- whoever isn't the top has the grants that it had
  had_same : (h : ℕ) → (h ≡ uid_number top → ⊥) → D.names.had h ≡ A.names.had h
  had_same h other = ⊎_elim (λ same. ap (λ g. g h) same) (λ z. ap (λ g. g h) z.1 ∙ off (h == uid_number top) refl z.0) taken.grants
    where
      off : (b : Bool) → (h == uid_number top) ≡ b → (g : ℕ) → put2 (uid_number top) g true A.names.had h ≡ A.names.had h
      off true is g = absurd (other (test_is h (uid_number top) is))
      off false is g = put_other (uid_number top) (put g true (A.names.had (uid_number top))) A.names.had h is

  -- a root isn't a top that stands behind its root
  root_other : (u : Uid) → tops.is_top (uid_number u) ≡ true → (u ≡ top → ⊥) → (tops.root (uid_number u) ≡ uid_number top → ⊥)
  root_other u is_top other same = ⊎_elim (λ e. other e) (λ apart. never of.top (kinds.serial u top is_top same apart).0) (uid_cases u top)

  -- a commit's plan is seen still, of another top
  module _ (named : Named A) (after : Named D) (u : Uid) (other : u ≡ top → ⊥) (m : Machine) (p : SeesPlan x tops u m A) where
    abbrev t : ℕ
    t = uid_number u

    root_is : A.world.disk.root t ≡ tops.root t
    root_is = ap (λ g. g t) f.root

    roots : D.world.disk.root t ≡ A.world.disk.root t
    roots = let o = taken.only in ap (λ (W : World). W.disk.root t) o.world

    had_own : D.names.had t ≡ A.names.had t
    had_own = had_same t (λ same. other (number_tells u top same))

    had_root : D.names.had (D.world.disk.root t) ≡ A.names.had (A.world.disk.root t)
    had_root = ap D.names.had roots ∙ had_same (A.world.disk.root t) (λ same. root_other u p.top other (sym root_is ∙ same))

    was_had : (i : ℕ) → IsHadBy D t i → IsHadBy A t i
    was_had i had = ⊎_elim (λ own. inl (sym (ap (λ g. g i) had_own) ∙ own)) (λ its. inr (sym (ap (λ g. g i) had_root) ∙ its)) had

    is_had : (i : ℕ) → IsHadBy A t i → IsHadBy D t i
    is_had i had = ⊎_elim (λ own. inl (ap (λ g. g i) had_own ∙ own)) (λ its. inr (ap (λ g. g i) had_root ∙ its)) had

    -- a list that is kept is narrower, as long as all grants are of one incarnation
    list_on : (stores : List ℕ) → IsListFor A t stores → IsListFor D t stores
    list_on stores l = record {
      inc = l.inc;
      had = is_had l.inc l.had;
      list = λ j one. let q = l.list j (λ i had. one i (is_had i had)) in narrower j one q.0 q.1 q.2 q.3 q.4;
    }
      where
        narrower : (j : ℕ) → AreOfOne D t j → (h : ℕ) → (h ≡ t) ⊎ (h ≡ A.world.disk.root t) → (k : Kept) → A.names.kept h ≡ Some k →
            ((s : ℕ) → has s k.list ≡ true → has s stores ≡ true) → (h : ℕ) × ((h ≡ t) ⊎ (h ≡ D.world.disk.root t)) × (l : Kept)
            × (D.names.kept h ≡ Some l) × ((s : ℕ) → has s l.list ≡ true → has s stores ≡ true)
        narrower j one h of_it k kept within =
            let o = taken.only in
            let n : HasNarrowed k (D.names.kept h) = o.narrows h k kept in
            let before : k.since ≡ j = one k.since (is_had k.since (by_it of_it k.since (let l = named.lists in l.had h k kept))) in
            let now : n.kept.since ≡ j = one n.kept.since (by_now of_it n.kept.since (let l = after.lists in l.had h n.kept n.there)) in (
              h,
              ⊎_elim (λ own. inl own) (λ its. inr (its ∙ sym roots)) of_it,
              n.kept,
              n.there,
              λ s on. within s (n.within (now ∙ sym before) s on),
            )
          where
            by_it : (h ≡ t) ⊎ (h ≡ A.world.disk.root t) → (i : ℕ) → A.names.had h i ≡ true → IsHadBy A t i
            by_it w i on =
                ⊎_elim (λ own. inl (ap (λ z. A.names.had z i) (sym own) ∙ on)) (λ its. inr (ap (λ z. A.names.had z i) (sym its) ∙ on)) w

            by_now : (h ≡ t) ⊎ (h ≡ A.world.disk.root t) → (i : ℕ) → D.names.had h i ≡ true → IsHadBy D t i
            by_now w i on = ⊎_elim (λ own. inl (ap (λ z. D.names.had z i) (sym own) ∙ on))
                (λ its. inr (ap (λ z. D.names.had z i) (roots ∙ sym its) ∙ on)) w

    pub plan_on : SeesPlan x tops u m D
    plan_on = record {
      top = p.top;
      grants = λ w i at had. p.grants w i at (was_had i had);
      changed = p.changed;
      list = λ w votes at called. list_on w.stores (p.list w votes at called);
      loaded = λ w st votes at is. let l = p.loaded w st votes at is in let d = l.load in let o = taken.only in record {
        state = l.state;
        load = record { inc = d.inc; answered = o.answers _ d.answered; had = o.grows t d.inc d.had };
        newest = l.newest ∙ ap (λ (W : World). load_of W.disk t l.state) (sym o.world);
      };
    }

-- ---- the coordinator that goes on

-- what an action waits for
abbrev pub now_of : Option Steps → Now
now_of None = Idle
now_of (Some s) = Calling s

-- One coordinator comes of another: an action waits in a next step, or for nothing more; and its root is this one.
pub record HasGone (s : Steps) (next : Option Steps) (q : Root) (c e : Coord) : Type 0 where
  pub tree : (u : Uid) → branch_of u e.tree ≡ branch_of u c.tree
  pub own : (u : Uid) → is_own u e.tree ≡ is_own u c.tree
  pub works : (u : Uid) (d : Doing) → doing_of u e ≡ Some d → ((u ≢ actor s.path) × (doing_of u c ≡ Some d)) ⊎ (d.now ≡ now_of next)
  pub here : (w : List Went) × (root_at (root_of s.path) e ≡ went_to w q)
  pub there : (u : Uid) → (u.num ≡ (let r = root_of s.path in r.num) → ⊥) → root_at u e ≡ root_at u c
  pub path : (z : Steps) → next ≡ Some z → z.path ≡ s.path

-- another action of the root waits in a call on the object
pub record OtherCalls (x : ℕ) (s : Steps) (c : Coord) : Type 0 where
  pub uid : Uid
  pub doing : Doing
  pub step : Steps
  pub other : uid ≢ actor s.path
  pub does : doing_of uid c ≡ Some doing
  pub now : doing.now ≡ Calling step
  pub of : step.x ≡ x
  pub call : is_include step.goal ≡ false
  pub root : root_of step.path ≡ root_of s.path

-- includes that the root has were answered before, or under this path
abbrev pub JoinsFrom : List Uid → Root → Root → Type 0
JoinsFrom us r q = (j : Joined) → Contains q.joined j → ((i : Joined) × Contains r.joined i × (i.path ≡ j.path)) ⊎ (j.path ≡ us)

-- the next step is seen, where there is one: what it stands on, and its list
pub record NextIsSeen (x k : ℕ) (sent : List Post) (z : Steps) (q : Root) (N : Names) : Type 0 where
  pub step : SeesStep x k sent z N
  pub list : is_include z.goal ≡ false → is_bound z.at ≡ true →
      (l : Known) × (kept_of x q ≡ Some l) × HasCallList N (uid_number (root_of z.path)) (uid_number (top_of z.path)) l

abbrev pub NextSees : ℕ → ℕ → List Post → Option Steps → Root → Names → Type 0
NextSees x k sent None q N = Unit {0}
NextSees x k sent (Some z) q N = z.x ≡ x → NextIsSeen x k sent z q N

module _ (x k : ℕ) (tops : Kinds) (sent : List Post) (s : Steps) (next : Option Steps) (q : Root) (c e : Coord) (A D : Office)
    (f : IsFixed tops A.world.disk) (kinds : KnowsKinds tops) (place : StandsIn tops c s.path)
    (taken : IsTakenFor tops (root_of s.path) (top_of s.path) A D) where
  abbrev root : Uid
  root = root_of s.path

  abbrev top : Uid
  top = top_of s.path

  alone : tops.root (uid_number root) ≡ uid_number root
  alone = let w = place.root in w.alone

  h : IsFixed tops D.world.disk
  h = fixed_on x tops (root_of s.path) (top_of s.path) A D f kinds place.top alone taken

  on : GoesOn A D
  on = goes x tops (root_of s.path) (top_of s.path) A D f kinds place.top alone taken

  -- another root of this coordinator has another number
  apart : (u : Uid) → is_own u c.tree ≡ true → u ≢ root_of s.path → u.num ≡ (let r = root_of s.path in r.num) → ⊥
  apart u own other same =
      let a = and_parts (u.node == c.tree.node) (u.inc == c.tree.inc) own in
      let b = and_parts ((let r = root_of s.path in r.node) == c.tree.node) ((let r = root_of s.path in r.inc) == c.tree.inc)
      (let w = place.root in w.own) in
      other (λ i. record {
        node = (test_is u.node c.tree.node a.0 ∙ sym (test_is (let r = root_of s.path in r.node) c.tree.node b.0)) i;
        inc = (test_is u.inc c.tree.inc a.1 ∙ sym (test_is (let r = root_of s.path in r.inc) c.tree.inc b.1)) i;
        num = same i;
      })

  pub at_gone : HasGone s next q c e → IsPathIn c.tree (uids_of s.path) → JoinsFrom (uids_of s.path) (root_at (root_of s.path) c) q →
      Named A → Named D → SeesRootOf x tops (root_of s.path) c q D → (OtherCalls x s c → KeepsCalls tops (root_of s.path)
      (kept_of x (root_at (root_of s.path) c)) (kept_of x q) A.names D.names) → NextSees x k sent next q D.names
      → ((u : Uid) (d : Doing) (m : Machine) → doing_of u c ≡ Some d → d.now ≡ Committing m → u ≡ top_of s.path → ⊥) →
      ((u : Uid) (d : Doing) (z : Steps) → doing_of u c ≡ Some d → d.now ≡ Calling z → is_own (root_of z.path) c.tree ≡ true)
      → SeesHeardAt x k tops sent c A → SeesHeardAt x k tops sent e D
  at_gone gone asks joins named after seen keeps sees idle owns p = record {
    roots = λ u w. root_now u w (uid_cases u (root_of s.path));
    steps = λ u d z does now of. ⊎_elim (λ old. step_goes x tops A D f h on k sent sent z (λ r to. inl to) (p.steps u d z old.1 now of))
        (λ new. step_now z next (sym new ∙ now) of sees) (gone.works u d does);
    calls = λ u d z does now of call past. ⊎_elim
        (λ old. call_now u d z old.0 old.1 now of call (p.calls u d z old.1 now of call past) (uid_cases (root_of z.path) (root_of s.path)))
        (λ new. new_call z next (gone.path) (sym new ∙ now) of call past sees) (gone.works u d does);
    includes = λ u j i. path_on c e (λ v. same_path (branch_of v c.tree) (branch_of v e.tree) (gone.tree v)) j.path
        (include_now u j i (test_cases u.num (let r = root_of s.path in r.num)));
    plans = λ u d m does now. ⊎_elim (λ old. plan_on x tops (root_of s.path) (top_of s.path) A D f kinds place.top alone taken named after u
        (idle u d m old.1 now) m (p.plans u d m old.1 now)) (λ new. no_plan m next (sym new ∙ now)) (gone.works u d does);
  }
    where
      root_now : (u : Uid) → IsWorkingRoot tops e u → (u ≡ root_of s.path) ⊎ (u ≢ root_of s.path) → SeesRootOf x tops u e (root_at u e) D
      root_now u w (inl same) = subst (λ v. SeesRootOf x tops v e (root_at v e) D) (sym same) (subst (λ z. SeesRootOf x tops
          (root_of s.path) e z D) (sym gone.here.1) (root_like c e (λ v. inl (gone.tree v)) x tops (root_of s.path) q gone.here.0 D seen))
      root_now u w (inr other) =
          let own : is_own u c.tree ≡ true = sym (gone.own u) ∙ w.own in
          let old = p.roots u (record { own = own; alone = w.alone; unended = λ b found. w.unended b (gone.tree u ∙ found) }) in
          let st = taken.others (uid_number u) w.alone (λ same. other (number_tells u (root_of s.path) same)) in
          subst (λ z. SeesRootOf x tops u e z D) (sym (gone.there u (apart u own other)))
          (root_like c e (λ v. inl (gone.tree v)) x tops u (root_at u c) (let r = root_at u c in
          r.went) D (root_stays x tops u c (root_at u c) A D f h old st.had st.kept on.answers st.states))

      include_now : (u : Uid) (j : Joined) → Contains (let r = root_at u e in r.joined) j →
          (u.num ≡ (let r = root_of s.path in r.num)) ⊎ ((u.num == (let r = root_of s.path in r.num)) ≡ false) → IsPathIn c.tree j.path
      include_now u j i (inr other) = p.includes u j (subst (λ (r : Root). Contains r.joined j) (gone.there u
          (λ same. never (ap (λ n. n == (let r = root_of s.path in r.num)) same ∙ test_same (let r = root_of s.path in r.num)) other)) i)
      include_now u j i (inl same) = ⊎_elim
          (λ (old : (i : Joined) × Contains (let r = root_at (root_of s.path) c in r.joined) i × (i.path ≡ j.path)).
          subst (IsPathIn c.tree) old.2 (p.includes (root_of s.path) old.0 old.1))
          (λ its. subst (IsPathIn c.tree) (sym its) asks)
          (joins j (subst (λ (r : Root). Contains r.joined j) (ap (λ n. unwrap_or (at_number n e.roots) no_root) same ∙ gone.here.1) i))

      is_next : {a b : Steps} → Calling a ≡ Calling b → a ≡ b
      is_next same = some_is refl (ap step_in same)

      step_now : (z : Steps) (o : Option Steps) → now_of o ≡ Calling z → z.x ≡ x → NextSees x k sent o q D.names →
          SeesStep x k sent z D.names
      step_now z None is of n = absurd (cc is)
      step_now z (Some y) is of n = let same : y ≡ z = is_next is in
          subst (λ v. SeesStep x k sent v D.names) same (let w = n (ap (λ (v : Steps). v.x) same ∙ of) in w.step)

      no_plan : {P : Type 0} (m : Machine) (o : Option Steps) → now_of o ≡ Committing m → P
      no_plan m None is = absurd (cc is)
      no_plan m (Some y) is = absurd (cc is)

      -- the next step's call
      its_call : (y : Steps) → y.path ≡ s.path → (l : Known) → kept_of x q ≡ Some l →
          HasCallList D.names (uid_number (root_of y.path)) (uid_number (top_of y.path)) l → SeesCall x tops e y D.names
      its_call y same l kept list = record {
        own = ap (λ v. is_own (top_of v) e.tree) same ∙ (gone.own (top_of s.path) ∙ place.own);
        top = subst (λ v. IsTopOf tops (root_of v) (top_of v)) (sym same) place.top;
        known = l;
        kept = ap (λ v. kept_of x (root_at (root_of v) e)) same ∙ (ap (kept_of x) gone.here.1 ∙ kept);
        list = list;
      }

      new_call : (z : Steps) (o : Option Steps) → ((y : Steps) → o ≡ Some y → y.path ≡ s.path) → now_of o ≡ Calling z → z.x ≡ x →
          is_include z.goal ≡ false → is_bound z.at ≡ true → NextSees x k sent o q D.names → SeesCall x tops e z D.names
      new_call z None paths is of call past n = absurd (cc is)
      new_call z (Some y) paths is of call past n =
          let same : y ≡ z = is_next is in
          let w = n (ap (λ (v : Steps). v.x) same ∙ of) in
          let l = w.list (ap (λ (v : Steps). is_include v.goal) same ∙ call) (ap (λ (v : Steps). is_bound v.at) same ∙ past) in
          subst (λ v. SeesCall x tops e v D.names) same (its_call y (paths y refl) l.0 l.1 l.2)

      call_now : (u : Uid) (d : Doing) (z : Steps) → u ≢ actor s.path → doing_of u c ≡ Some d → d.now ≡ Calling z → z.x ≡ x →
          is_include z.goal ≡ false → SeesCall x tops c z A.names → (root_of z.path ≡ root_of s.path) ⊎ (root_of z.path ≢ root_of s.path) →
          SeesCall x tops e z D.names
      call_now u d z other does now of call o (inl same) =
          let l = keeps (record { uid = u; doing = d; step = z; other = other; does = does; now = now; of = of; call = call; root = same })
          (top_of z.path) o.known (subst (λ v. IsTopOf tops v (top_of z.path)) same o.top)
          (ap (λ v. kept_of x (root_at v c)) (sym same) ∙ o.kept)
          (subst (λ v. HasCallList A.names (uid_number v) (uid_number (top_of z.path)) o.known) same o.list) in
          record {
            own = gone.own (top_of z.path) ∙ o.own;
            top = o.top;
            known = l.0;
            kept = ap (λ v. kept_of x (root_at v e)) same ∙ (ap (kept_of x) gone.here.1 ∙ l.1);
            list = subst (λ v. HasCallList D.names (uid_number v) (uid_number (top_of z.path)) l.0) (sym same) l.2;
          }
      call_now u d z other does now of call o (inr away) =
          call_same x tops c e z D.names (gone.own (top_of z.path))
          (ap (kept_of x) (gone.there (root_of z.path) (apart (root_of z.path) (owns u d z does now) away)))
          (call_stays x tops A D f h on z o (taken.others (tops.root (uid_number (top_of z.path))) (kinds.idem (uid_number (top_of z.path)))
          (λ same. away (number_tells (root_of z.path) (root_of s.path) (sym (let w = o.top in w.of_root) ∙ same)))))

-- ---- the whole world, where the coordinator has gone on

module _ (x : ℕ) (tops : Kinds) (k : ℕ) (d : Disk) (t v : Parts) (M : Seen) (root top : Uid) (A D : Office)
    (both : SeesBoth x tops A (up k d t M)) (p : SeesHeard x tops A (up k d t M)) (own : is_own root t.coord.tree ≡ true)
    (of : IsTopOf tops root top) (alone : tops.root (uid_number root) ≡ uid_number root) (taken : IsTakenFor tops root top A D) where
  abbrev Here : Parts → Node
  Here w = record { number = k; disk = d; live = Some w }

  fixed_then : IsFixed tops A.world.disk
  fixed_then = let s = both.disks in s.fixed

  fixed_now : IsFixed tops D.world.disk
  fixed_now = fixed_on x tops root top A D fixed_then p.kinds of alone taken

  goes_now : GoesOn A D
  goes_now = goes x tops root top A D fixed_then p.kinds of alone taken

  here : (up k d t M).nodes k ≡ Some (Here t)
  here = node_here M k (record { number = k; disk = d; live = Some t })

  -- the root is of this node, and of its incarnation
  its_node : root.node ≡ k
  its_node = let a = and_parts (root.node == t.coord.tree.node) (root.inc == t.coord.tree.inc) own in test_is root.node t.coord.tree.node
      a.0 ∙ (let s = both.disks in let c = s.coords k (record { number = k; disk = d; live = Some t }) t here refl in c.node)

  its_inc : root.inc ≡ d.inc
  its_inc = let a = and_parts (root.node == t.coord.tree.node) (root.inc == t.coord.tree.inc) own in test_is root.inc t.coord.tree.inc a.1
      ∙ (let s = both.disks in let c = s.coords k (record { number = k; disk = d; live = Some t }) t here refl in c.present)

  -- of a root of another node nothing has changed
  stays_for : (u : Uid) → (u.node ≡ k → ⊥) → (tops.root (uid_number u) ≡ uid_number u) ⊎ (tops.is_top (uid_number u) ≡ true) →
      StaysOf tops (tops.root (uid_number u)) A D
  stays_for u not (inl own_root) = taken.others (tops.root (uid_number u)) (let k = p.kinds in
      k.idem (uid_number u)) (λ same. not (ap (λ (w : Uid). w.node) (number_tells u root (sym own_root ∙ same)) ∙ its_node))
  stays_for u not (inr is_top) =
      let r = (let k = p.kinds in k.rooted u is_top) in
      let o = (let k = p.kinds in k.own u r.0 is_top r.1) in
      taken.others (tops.root (uid_number u)) (let k = p.kinds in
      k.idem (uid_number u)) (λ same. not (o.0 ∙ (ap (λ (w : Uid). w.node) (number_tells r.0 root (sym r.1 ∙ same)) ∙ its_node)))

  pub taken_heard : Named D → SeesHeardAt x k tops M.sent v.coord D → SeesHeard x tops D (up k d v M)
  taken_heard after mine =
      heard_goes x tops A D (up k d t M) (up k d v M) fixed_then fixed_now goes_now p (λ j n z there live u q s does now of r to. inl to)
      (λ q i. claim_stays x tops A D fixed_then fixed_now goes_now both.named after (answers_are_after A D taken.only) (asks q.message)
      (p.posts q i)) (λ q a r i is. asked_on x tops A D (up k d t M) (up k d v M) fixed_then fixed_now goes_now p (λ q i. i) q a r i is)
      (λ j n z there live. ⊎_elim
      (λ (y : (j ≡ k) × (Here v ≡ n)). inr (subst (λ i. SeesHeardAt x i tops M.sent z.coord D) (sym y.0) (subst
      (λ (w : Parts). SeesHeardAt x k tops M.sent w.coord D) (some_is {A = Parts} refl (ap (λ (w : Node). w.live) y.1 ∙ live)) mine)))
      (λ (y : ((j == k) ≡ false) × (M.nodes j ≡ Some n)). inl (other_at j n z y.0 y.1 live))
      (node_cases M k (record { number = k; disk = d; live = Some v }) j n there))
      (λ j n u there node own_root low. ⊎_elim
      (λ (y : (j ≡ k) × (Here v ≡ n)). none_stays x tops A D fixed_then fixed_now goes_now (uid_number u)
      (stays_later u own_root (later u (subst (λ (w : Node). w.disk.inc < u.inc) (sym y.1) low)))
      (p.future k (Here t) u here (node ∙ y.0) own_root (subst (λ (w : Node). w.disk.inc < u.inc) (sym y.1) low)))
      (λ (y : ((j == k) ≡ false) × (M.nodes j ≡ Some n)). none_stays x tops A D fixed_then fixed_now goes_now (uid_number u)
      (stays_later u own_root (λ same. not_here j y.0 (sym node ∙ (ap (λ (w : Uid). w.node) same ∙ its_node))))
      (p.future j n u (ap (λ b. if b then Some (Here t) else M.nodes j) y.0 ∙ y.1) node own_root low))
      (node_cases M k (record { number = k; disk = d; live = Some v }) j n there))
    where
      not_here : (j : ℕ) → (j == k) ≡ false → j ≡ k → ⊥
      not_here j off same = never (ap (λ i. i == k) same ∙ test_same k) off

      later : (u : Uid) → d.inc < u.inc → u ≡ root → ⊥
      later u low same = let e : u.inc ≡ d.inc = ap (λ (w : Uid). w.inc) same ∙ its_inc in absurd (omega (arith, e, low))

      stays_later : (u : Uid) → tops.root (uid_number u) ≡ uid_number u → (u ≡ root → ⊥) → StaysOf tops (uid_number u) A D
      stays_later u own_root other = taken.others (uid_number u) own_root (λ same. other (number_tells u root same))

      other_at : (j : ℕ) (n : Node) (z : Parts) → (j == k) ≡ false → M.nodes j ≡ Some n → n.live ≡ Some z →
          WasAt x tops A D (up k d t M) (up k d v M) fixed_then fixed_now goes_now p j z
      other_at j n z off there live = record {
        node = n;
        there = at_j;
        parts = z;
        live = live;
        same = refl;
        stays = λ u own_u kind. stays_for u (λ same. not_here j off (sym (home u own_u) ∙ same)) kind;
      }
        where
          at_j : (up k d t M).nodes j ≡ Some n
          at_j = ap (λ b. if b then Some (Here t) else M.nodes j) off ∙ there

          home : (u : Uid) → is_own u z.coord.tree ≡ true → u.node ≡ j
          home u own_u = test_is u.node z.coord.tree.node (and_parts (u.node == z.coord.tree.node) (u.inc == z.coord.tree.inc) own_u).0
              ∙ (let s = both.disks in let c = s.coords j n z at_j live in c.node)
