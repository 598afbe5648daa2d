-- What the plan of a top's commit uses of an object, as it begins, by what its root has of naming's answers; and that by such a plan the
-- machine may begin the commit.
use Rattle.arj_law_parts.proofs.Words
use Words.{◌≡◌, ◌≢◌, ◌⊎◌, ◌≤◌, ℕ, ◌==◌, ◌&&◌, true, false, List, [], ◌∷◌, ◌++◌, Option, Some, None, is_some, refl, sym, ◌∙◌, ap, subst, inl}
use Words.{inr, ⊎_elim, map, Contains, unwrap_or, and_parts, uid_same, in_from, Kind, ObjectState, Uid, first_uid, is_on, uid_eq, uids_of}
use Words.{Known, Used, Voting, changed_of, Root, Said, is_called, kept_of, known_for, least_grant, nothing_known, objects_in, root_at}
use Words.{survives, used_of, Disk, Parts, uid_number, Branch, branch_of, ended_so, has_end, is_aborted, is_merged, is_own}
use Words.{is_spent, root_of, Seen, is_constituent}
use Words.ending
use Words.kind
use Words.commit
use Rattle.arj_law_disk_view.proofs.Terms
use Terms.{found_by, IsGood, KnowsFew, IsPresent, Kept, Office, load_of, newer, written_in, Packed, undecided, IsNew, In, has, bool_cases}
use Terms.{falls_to, never, or_left, or_right, some_is, up, KnowsNode, IsOfKind, Among, packed, IsTidy, loads, plan_at, plan_by, used_at}
use Terms.{Kinds, SeesBoth, SeesRootOf, is_retained, BeginsLater, HasKeptList, HasList, HasRetained, IsLasting, IsTopOf, IsHadBy, IsListFor}
use Terms.{IsWorkingRoot, SeesHeard, SeesPlan}
use Rattle.arj_law_disk_view.proofs.names.{GrantSteps.least_grant_low, ListSteps.commits_have_lists, ListSteps.stands as list_stands}
use Rattle.arj_law_disk_view.proofs.names.{LoadSteps.commits_have_loads, Openings.used_is}
use Rattle.arj_law_disk_view.proofs.running
use running.{HeardCoord.mine, HeardQuiet.fixed_in, HeardServe.path_leads}
use running.HeardLasting.{alone_lives, below_lives, lasting}
use Rattle.arj_law_disk_view.proofs.view.{Frames.node_here, Later.new_later, Planned.has_same, Planned.used_there}
use Rattle.arj_law_disk.specs.machine.Names as machine

-- ---- a plan that begins

module _ (x : ℕ) (tops : Kinds) (k : ℕ) (d : Disk) (t : Parts) (M : Seen) (A : Office) (good : IsGood (up k d t M)) (few : KnowsFew
    (up k d t M)) (knows : KnowsNode tops k d t M) (both : SeesBoth x tops A (up k d t M)) (h : SeesHeard x tops A (up k d t M))
    (u : Uid) (b : Branch) (found : branch_of u t.coord.tree ≡ Some b) (unended : b.ended ≡ None)
    (top : tops.is_top (uid_number u) ≡ true) where
  abbrev r : Root
  r = root_at (root_of b.path) t.coord

  pub its_top : IsTopOf tops (root_of b.path) u
  its_top = record {
    top = top;
    plain = (let q = knows.kinds in q.apart (uid_number u) top);
    of_root = (let c = knows.coord in c.root u b found top);
  }

  pub own_root : tops.root (uid_number (root_of b.path)) ≡ uid_number (root_of b.path)
  own_root = ap tops.root (sym its_top.of_root) ∙ ((let q = knows.kinds in q.idem (uid_number u)) ∙ its_top.of_root)

  -- it stands alone, or below a serializing action
  abbrev Stands : Type 0
  Stands = (uids_of b.path ≡ u ∷ []) ⊎ ((uids_of b.path ≡ root_of b.path ∷ u ∷ []) × (is_constituent b.kind ≡ true))

  stands : Stands
  stands = by b.kind refl (let c = knows.coord in c.kind u b found)
    where
      by : (z : Kind) → b.kind ≡ z → IsOfKind tops u z b.path → Stands
      by kind.Nested is f = absurd (never top f.0)
      by kind.Serial is f = absurd (never top f.0)
      by kind.Top is f = inl f.2
      by kind.Independent is f = inl f.2
      by kind.Constituent is f = inr (f.2, ap is_constituent is)

  root_open : (c : Branch) → branch_of (root_of b.path) t.coord.tree ≡ Some c → c.ended ≡ None
  root_open c is = ⊎_elim
      (λ alone. ap (λ (y : Branch). y.ended) (some_is is (ap (λ us. branch_of (first_uid us) t.coord.tree) alone ∙ found)) ∙ unended)
      (λ below. let s = (let c = knows.coord in c.above u b found unended below.1) in
      ap (λ (y : Branch). y.ended) (some_is is s.found) ∙ s.unended) stands

  pub working : IsWorkingRoot tops t.coord (root_of b.path)
  working = record { own = its_own; alone = own_root; unended = root_open }
    where
      its_own : is_own (root_of b.path) t.coord.tree ≡ true
      its_own = let same = (let q = knows.kinds in q.own u (root_of b.path) top its_top.of_root) in
          (λ i. (sym same.0 i == t.coord.tree.node) && (sym same.1 i == t.coord.tree.inc)) ∙ (found_by u t.coord.tree b found).0

  pub root_seen : SeesRootOf x tops (root_of b.path) t.coord (root_at (root_of b.path) t.coord) A
  root_seen = let m = mine x tops k d t M A both h in m.roots (root_of b.path) working

  pub free : is_aborted (root_of b.path) t.coord.tree ≡ false
  free = by (branch_of (root_of b.path) t.coord.tree) refl
    where
      by : (o : Option Branch) → branch_of (root_of b.path) t.coord.tree ≡ o → ended_so ending.Abort o ≡ false
      by None is = refl
      by (Some c) is = ap (has_end ending.Abort) (root_open c is)

  free_top : is_aborted u t.coord.tree ≡ false
  free_top = ap (ended_so ending.Abort) found ∙ ap (has_end ending.Abort) unended

  pub lasts : IsLasting x t.coord (root_at (root_of b.path) t.coord)
  lasts = lasting x (root_of b.path) t.coord r free
      (λ s there of. let f = (let c = knows.coord in c.said (root_of b.path) s working.own there) in (f.rest, f.headed))

  -- what survives in it isn't spent
  pub lives : (s : Said) → Contains (let q = root_at (root_of b.path) t.coord in q.said) s → survives u s.path t.coord ≡ true →
      is_spent s.path t.coord.tree ≡ false
  lives s there on =
      let z = path_leads (up k d t M) good few k (record { number = k; disk = d; live = Some t }) t
      (node_here M k (record { number = k; disk = d; live = Some t })) refl u b (root_of b.path) s found (in_from s r.said there)
      (and_parts (is_on s.path u) (is_merged u s.path t.coord.tree) on).0 in
      ⊎_elim
      (λ alone. alone_lives u s.path z.0 t.coord (z.1 ∙ ap (λ us. us ++ z.0) alone) free_top on)
      (λ below. below_lives (root_of b.path) u s.path z.0 t.coord (z.1 ∙ ap (λ us. us ++ z.0) below.0) free free_top on) stands

  -- a call of another root isn't below it
  pub apart_from : (w : Uid) → is_own w t.coord.tree ≡ true → w ≢ root_of b.path → (s : Said) →
      Contains (let q = root_at w t.coord in q.said) s → is_on s.path u ≡ false
  apart_from w own other s there = falls_to (is_on s.path u) (λ on.
      let z = path_leads (up k d t M) good few k (record { number = k; disk = d; live = Some t }) t (node_here M k
      (record { number = k; disk = d; live = Some t })) refl u b w s found (in_from s (root_at w t.coord).said there) on in
      let f = (let c = knows.coord in c.said w s own there) in
      other (ap first_uid (sym f.headed ∙ z.1) ∙ ⊎_elim (λ alone. ap (λ us. first_uid (us ++ z.0)) alone ∙ sym (ap first_uid alone))
      (λ below. ap (λ us. first_uid (us ++ z.0)) below.0) stands))

  -- ---- grants

  root_is : A.world.disk.root (uid_number u) ≡ uid_number (root_of b.path)
  root_is = ap (λ f. f (uid_number u)) (let f = fixed_in x tops A (up k d t M) both in f.root) ∙ its_top.of_root

  pub plain : A.world.disk.serial (uid_number u) ≡ false
  plain = ap (λ f. f (uid_number u)) (let f = fixed_in x tops A (up k d t M) both in f.serial) ∙ its_top.plain

  own_low : (i : ℕ) → A.names.had (uid_number u) i ≡ true → least_grant u x r t.coord ≤ i
  own_low i had = let g = root_seen.grants in
      least_grant_low x u u i r t.coord (or_left (uid_eq u u) (is_retained x t.coord r u) (uid_same u)) (g.own u i root_is plain had)

  low : (i : ℕ) → IsHadBy A (uid_number u) i → least_grant u x r t.coord ≤ i
  low i (inl had) = own_low i had
  low i (inr had) = ⊎_elim
      (λ serial. let f = (let g = root_seen.grants in g.kept i serial (ap (λ n. A.names.had n i) (sym root_is) ∙ had)) in
      least_grant_low x u f.0 i r t.coord (or_right (uid_eq f.0 u) (is_retained x t.coord r f.0) f.1) f.2)
      (λ single. own_low i (ap (λ n. A.names.had n i) (sym ((let q = both.named in q.roots.plain) (uid_number u)
      (ap A.world.disk.serial root_is ∙ single))) ∙ had)) (bool_cases (A.world.disk.serial (uid_number (root_of b.path))))

  -- ---- lists

  list_for : (n : Known) → kept_of x r ≡ Some n → HasList A.names (uid_number u) n ⊎ HasRetained A.names (uid_number (root_of b.path)) n →
      IsListFor A (uid_number u) n.stores
  list_for n is (inl l) = record {
    inc = l.kept.since;
    had = inl ((let q = both.named in q.lists.had) (uid_number u) l.kept l.there);
    list = λ j one. (uid_number u, inl refl, l.kept, l.there, λ s on. l.within s on);
  }
  list_for n is (inr l) = record {
    inc = (let y = n.binding in y.inc);
    had = inr (ap (λ z. A.names.had z (let y = n.binding in y.inc)) root_is ∙ l.had);
    list = λ j one.
        let own : l.kept.since ≡ j = one l.kept.since (inr (ap (λ z. A.names.had z l.kept.since) root_is
        ∙ (let q = both.named in q.lists.had) (uid_number (root_of b.path)) l.kept l.there)) in
        let its : (let y = n.binding in y.inc)
        ≡ j = one (let y = n.binding in y.inc) (inr (ap (λ z. A.names.had z (let y = n.binding in y.inc)) root_is ∙ l.had)) in (
          A.world.disk.root (uid_number u),
          inr refl,
          l.kept,
          ap A.names.kept root_is ∙ l.there,
          λ s on. (let y = root_seen.lists in y.agree) n (root_of b.path) l.kept is (inl refl) l.there (own ∙ sym its) s on,
        );
  }

  called_list : is_called x u r t.coord ≡ true → (n : Known) × (kept_of x r ≡ Some n) × IsListFor A (uid_number u) n.stores
  called_list on =
      let l : HasKeptList x (root_of b.path) u r A.world.disk A.names = commits_have_lists x tops (root_of b.path) u t.coord r A both.named
      (fixed_in x tops A (up k d t M) both) root_seen.lists lasts its_top lives on in (
        l.known,
        l.kept,
        list_for l.known l.kept (list_stands x tops (root_of b.path) u t.coord r A both.named (fixed_in x tops A (up k d t M) both)
            root_seen.lists lasts its_top lives on l.known l.kept),
      )

  -- ---- the plan

  module _ (p : commit.Plan) (left : List ℕ) (used : p.used ≡ map (used_of u (root_at (root_of b.path) t.coord) t.coord)
      (objects_in u (root_at (root_of b.path) t.coord) t.coord)) (none : p.changed ≡ []) where
    this : (w : Used) → used_at x p.used ≡ Some w → used_of u r t.coord x ≡ w
    this w at = used_is x u r t.coord (objects_in u r t.coord) w (sym (ap (used_at x) used) ∙ at)

    pub plan_seen : SeesPlan x tops u (Voting p left) A
    plan_seen = record {
      top = top;
      grants = λ w i at had. subst (λ (y : Used). y.grant ≤ i) (this w at) (low i had);
      changed = λ w st at there. absurd (subst (Among st) none there);
      list = λ w votes at called.
          let on : is_called x u r t.coord ≡ true = ap (λ (y : Used). y.called) (this w at) ∙ called in
          let l = called_list on in
          let stores : l.0.stores ≡ w.stores = sym (ap (λ z. (known_for z x r).stores) on
          ∙ ap (λ o. (unwrap_or o nothing_known).stores) l.1) ∙ ap (λ (y : Used). y.stores) (this w at) in
          subst (IsListFor A (uid_number u)) stores l.2;
      loaded = λ w st votes at is. commits_have_loads x tops (root_of b.path) u t.coord r A.world.disk A.names st root_seen.loads
          root_seen.state root_is its_top (ap (λ (y : Used). y.loaded) (this w at) ∙ is);
    }

-- ---- a commit that may begin

-- A plan changes the object only as it called it, to a state of a new writer.
abbrev pub MayChange : ℕ → Uid → commit.Plan → Office → Type 0
MayChange x u q A = (w : Used) (st : ObjectState) → used_at x q.used ≡ Some w → changed_of x q ≡ Some st →
    (w.called ≡ true) × (st.writer ≡ u) × IsNew A.world.disk (uid_number u)

-- By a plan that was seen while it voted the commit may begin, where no outcome of its root is open.
pub begins_later : (x : ℕ) (tops : Kinds) (u : Uid) (p q : commit.Plan) (left : List ℕ) (A : Office) →
    A.world.disk.serial (uid_number u) ≡ false → SeesPlan x tops u (Voting p left) A → IsTidy p → q.used ≡ p.used
    → ((z : ℕ) → A.world.disk.root z ≡ A.world.disk.root (uid_number u) → undecided A.world.disk z ≡ false) → MayChange x u q A →
    BeginsLater x A u q
begins_later x tops u p q left A plain plan tidy used shut changes C named names later tops_are opens can = record {
  idle = can.idle;
  root = can.root;
  top = ap (λ f. f (uid_number u)) later.serial ∙ plain;
  first = λ z of. falls_to (undecided C.world.disk z)
      (λ on. never (opens.opened z on) (shut z (ap (λ f. f z) (sym later.root) ∙ (of ∙ ap (λ f. f (uid_number u)) later.root))));
  writer = λ w is. let c = changed w is in
      (ap (λ (g : Packed). g.writer) (sym c.2) ∙ ap uid_number c.3.1, new_later A.world C.world later (uid_number u) c.3.2);
  list = list_now;
  loaded = loaded_now;
}
  where
    -- where it writes, what it uses and changes
    changed : (w : Packed) → (let y = plan_at x q in y.writes) ≡ Some w →
        (y : Used) × (st : ObjectState) × (packed st ≡ w) × ((y.called ≡ true) × (st.writer ≡ u) × IsNew A.world.disk (uid_number u))
    changed w is = by (used_at x q.used) (changed_of x q) refl refl is
      where
        by : (o : Option Used) (c : Option ObjectState) → used_at x q.used ≡ o → changed_of x q ≡ c →
            (let y = plan_by o c in y.writes) ≡ Some w →
            (y : Used) × (st : ObjectState) × (packed st ≡ w) × ((y.called ≡ true) × (st.writer ≡ u) × IsNew A.world.disk (uid_number u))
        by None c at found e = absurd (cc e)
        by (Some y) None at found e = absurd (cc e)
        by (Some y) (Some st) at found e = (y, st, some_is refl e, changes y st at found)

    list_now : is_some (let y = plan_at x q in y.writes) ≡ true →
        (i : ℕ) × ((C.names.had (uid_number u) i ≡ true) ⊎ (C.names.had (C.world.disk.root (uid_number u)) i ≡ true))
        × (IsPresent C.world.disk C.names (uid_number u) → (h : ℕ) × ((h ≡ uid_number u) ⊎ (h ≡ C.world.disk.root (uid_number u)))
        × (n : Kept) × (C.names.kept h ≡ Some n) × ((s : ℕ) → has s n.list ≡ true → has s (let y = plan_at x q in y.list) ≡ true))
    list_now on = by (used_at x q.used) (changed_of x q) refl refl on
      where
        by : (o : Option Used) (c : Option ObjectState) → used_at x q.used ≡ o → changed_of x q ≡ c → is_some (let y = plan_by o c in
            y.writes) ≡ true → (i : ℕ) × ((C.names.had (uid_number u) i ≡ true) ⊎ (C.names.had (C.world.disk.root (uid_number u)) i ≡ true))
            × (IsPresent C.world.disk C.names (uid_number u) → (h : ℕ) × ((h ≡ uid_number u) ⊎ (h ≡ C.world.disk.root (uid_number u)))
            × (n : Kept) × (C.names.kept h ≡ Some n) × ((s : ℕ) → has s n.list ≡ true → has s (let y = plan_at x q in y.list) ≡ true))
        by None c at found e = absurd (cc e)
        by (Some y) None at found e = absurd (cc e)
        by (Some y) (Some st) at found e =
            let l : IsListFor A (uid_number u) y.stores = plan.list y refl (ap (used_at x) (sym used) ∙ at) (changes y st at found).0 in (
              l.inc,
              had_now l.inc l.had,
              λ present.
                  let f = l.list C.names.inc (λ i had. present i (had_now i had)) in (
                    f.0,
                    ⊎_elim (λ own. inl own) (λ its. inr (its ∙ ap (λ g. g (uid_number u)) (sym later.root))) f.1,
                    f.2,
                    ap (λ n. n.kept f.0) names ∙ f.3,
                    λ s has_it. ap (λ o. let z = plan_by o (changed_of x q) in has s z.list) at ∙ f.4 s has_it,
                  ),
            )
          where
            had_now : (i : ℕ) → IsHadBy A (uid_number u) i →
                (C.names.had (uid_number u) i ≡ true) ⊎ (C.names.had (C.world.disk.root (uid_number u)) i ≡ true)
            had_now i (inl had) = inl (ap (λ n. n.had (uid_number u) i) names ∙ had)
            had_now i (inr had) = inr
                (ap (λ n. n.had (C.world.disk.root (uid_number u)) i) names ∙ (ap (λ g. A.names.had (g (uid_number u)) i) later.root ∙ had))

    load_is : (g : Packed) → load_of A.world.disk (uid_number u) g ≡ load_of C.world.disk (uid_number u) g
    load_is g = λ j. newer g (written_in (sym later.root j) (sym later.root j (uid_number u)) (sym tops_are j))

    loaded_now : (s : ℕ) → has s (let y = plan_at x q in y.joins) ≡ true →
        (i : ℕ) × (g : Packed) × In (machine.Loaded (uid_number u) i g) C.names.answers × (C.names.had (uid_number u) i ≡ true)
        × ((let y = plan_at x q in y.loaded) ≡ load_of C.world.disk (uid_number u) g)
    loaded_now s on = by (used_at x q.used) refl on
      where
        by : (o : Option Used) → used_at x q.used ≡ o → has s (let y = plan_by o (changed_of x q) in y.joins) ≡ true →
            (i : ℕ) × (g : Packed) × In (machine.Loaded (uid_number u) i g) C.names.answers × (C.names.had (uid_number u) i ≡ true)
            × ((let y = plan_at x q in y.loaded) ≡ load_of C.world.disk (uid_number u) g)
        by None at e = absurd (cc e)
        by (Some y) at e =
            let was : used_at x p.used ≡ Some y = ap (used_at x) (sym used) ∙ at in
            let st = tidy.loaded y s (used_there x p.used y was).0 (sym (has_same s y.joins) ∙ e) in
            let f = plan.loaded y st.0 refl was st.1 in (
              f.load.inc,
              f.state,
              subst (λ n. In (machine.Loaded (uid_number u) f.load.inc f.state) n.answers) (sym names) f.load.answered,
              ap (λ n. n.had (uid_number u) f.load.inc) names ∙ f.load.had,
              ap (λ o. let z = plan_by o (changed_of x q) in z.loaded) at ∙ (ap loads st.1 ∙ (f.newest ∙ load_is f.state)),
            )
