-- What a coordinator does keeps what it has of answered calls, includes and participants.
use Rattle.arj_law_parts.proofs.Words
use Words.{◌≡◌, ◌≢◌, ◌⊎◌, ◌∙◌, ℕ, ◌+◌, Bool, true, false, cond, List, [], ◌∷◌, ◌++◌, refl, sym, ap, subst, inl, inr, ⊎_elim, arith, Option}
use Words.{Some, None, Contains, unwrap_or, is_some, list_any, is_eq, nat_cmp, uid_cases, In, in_from, in_to, put_other, put_same, Reply}
use Words.{actor, call, call_steps, doomed_by, ends_call, goes_on, granted_by, include, is_invoke_ask, next_req, notes_grant, renewed}
use Words.{root_heard, root_moved, step_call, Answered, CallEnd, CallStep, Changed, Conflict, Ended, Included, Lost, Moved, On, Steps}
use Words.{next_ask, next_node, start, Machine, plan_of, Calling, Committing, Coord, Doing, Grant, Idle, Joined, Now, Root, Said, Went}
use Words.{change_doing, doing_of, is_free, joined_with, keeping_of, later_state, no_root, on_doing, on_root, root_at, same_join, same_said}
use Words.{same_went, set_doing, with_join, with_keeping, with_said, with_went, ended, at_number, put_number, unbound, Branch, Tree}
use Words.{at_place, branch_of, doomed_at, ended_at, ended_branch, ends_of, ended_so, has_end, is_aborted, root_of, uses_object, End, Op}
use Words.{Path, Uid, is_on, uids_of}
use Words.calls
use Words.ending
use Words.kind
use Rattle.arj_law_runs.proofs.Terms
use Terms.{Action, IsAsking, IsGoodCoord, IsTree, Paths, IsSameTree, doomed_same, on_tree, uses_same, after as ended_tree, after_cases}
use Terms.{at_others, at_u, ended_b, over_below, doing_other, doing_put, end_tree_on, IsCut, KnowsUses}
use Rattle.arj_law_runs.specs.coordinators.Uses.{IsAlone, IsUsed}

pub some_is : {A : Type 0} (a b : A) → Some a ≡ Some b → a ≡ b
some_is {A} a b is = let k : ◌≡◌ {A = Option A} (Some a) (Some b) = is in cc

never : {P : Type 0} {b : Bool} → b ≡ true → b ≡ false → P
never holds fails = let no_way : true ≡ false = sym holds ∙ fails in absurd (cc no_way)

-- ---- roots

-- what was answered stays as it is
pub record KeepsUses (f : Root → Root) : Type 0 where
  pub said : (r : Root) → (f r).said ≡ r.said
  pub joined : (r : Root) → (f r).joined ≡ r.joined

pub went_keeps : (w : Went) → KeepsUses (with_went w)
went_keeps w = record { said = λ r. one r (list_any (same_went w) r.went); joined = λ r. two r (list_any (same_went w) r.went) }
  where
    one : (r : Root) (b : Bool) → (let q : Root = cond b r (record r { went = r.went ++ w ∷ [] }) in q.said) ≡ r.said
    one r true = refl
    one r false = refl

    two : (r : Root) (b : Bool) → (let q : Root = cond b r (record r { went = r.went ++ w ∷ [] }) in q.joined) ≡ r.joined
    two r true = refl
    two r false = refl

pub moved_keeps : (s : Steps) (a : Reply) (m : Moved) → KeepsUses (root_moved s a m)
moved_keeps s a m = record { said = λ r. one r (granted_by _ s.x a); joined = λ r. two r (granted_by _ s.x a) }
  where
    one : (r : Root) (o : Option Grant) → (notes_grant o r).said ≡ r.said
    one r None = refl
    one r (Some g) = refl

    two : (r : Root) (o : Option Grant) → (notes_grant o r).joined ≡ r.joined
    two r None = refl
    two r (Some g) = refl

used_same : (f : Root → Root) (us : List Uid) (r : Root) → KeepsUses f → IsUsed us (f r) → IsUsed us r
used_same f us r keeps (inl (s, there, is)) = inl (s, subst (λ ss. Contains ss s) (keeps.said r) there, is)
used_same f us r keeps (inr (j, there, is)) = inr (j, subst (λ js. Contains js j) (keeps.joined r) there, is)

-- one number is another, or isn't
one_or_two : (m n : ℕ) → (m ≡ n) ⊎ (is_eq (nat_cmp n m) ≡ false)
one_or_two m n = by (is_eq (nat_cmp n m)) refl
  where
    by : (b : Bool) → is_eq (nat_cmp n m) ≡ b → (m ≡ n) ⊎ (is_eq (nat_cmp n m) ≡ false)
    by true is = inl (grind (arith, is))
    by false is = inr is

-- a root after one changed
pub root_cases : (r : Uid) (f : Root → Root) (c : Coord) (q : Uid) →
    ((r.num ≡ q.num) × (root_at q (on_root r f c) ≡ f (root_at q c))) ⊎ (root_at q (on_root r f c) ≡ root_at q c)
root_cases r f c q = ⊎_elim (λ same. inl (same, changed same))
    (λ apart. inr (ap (λ o. unwrap_or o no_root) (put_other r.num q.num (f (root_at r c)) c.roots apart))) (one_or_two r.num q.num)
  where
    changed : r.num ≡ q.num → root_at q (on_root r f c) ≡ f (root_at q c)
    changed same =
        ap (λ n. unwrap_or (at_number n (put_number r.num (f (root_at r c)) c.roots)) no_root) (sym same)
        ∙ ap (λ o. unwrap_or o no_root) (put_same r.num (f (root_at r c)) c.roots)
        ∙ ap (λ n. f (unwrap_or (at_number n c.roots) no_root)) same

-- ---- pieces

pub on_cases : (u : Uid) (f : Doing → Doing) (c : Coord) (w : Uid) (q : Doing) → doing_of w (on_doing u f c) ≡ Some q →
    ((w ≡ u) × (p : Doing) × (doing_of w c ≡ Some p) × (f p ≡ q)) ⊎ ((w ≢ u) × (doing_of w c ≡ Some q))
on_cases u f c w q = by (doing_of u c) refl
  where
    by : (o : Option Doing) → doing_of u c ≡ o → doing_of w (change_doing f u c o) ≡ Some q →
        ((w ≡ u) × (p : Doing) × (doing_of w c ≡ Some p) × (f p ≡ q)) ⊎ ((w ≢ u) × (doing_of w c ≡ Some q))
    by None none is = inr (
      (λ same. let no_way : ◌≡◌ {A = Option Doing} None (Some q) = sym none ∙ ap (λ x. doing_of x c) (sym same) ∙ is in absurd (cc no_way)),
      is,
    )
    by (Some p) found is = ⊎_elim
        (λ same. inl (
          same,
          p,
          ap (λ x. doing_of x c) same ∙ found,
          some_is (f p) q (sym (doing_put u (f p) p c found) ∙ ap (λ x. doing_of x (set_doing u (f p) c)) (sym same) ∙ is),
        ))
        (λ other. inr (other, sym (doing_other u w (f p) p c found other) ∙ is)) (uid_cases w u)

-- the plan is that of before, or it uses some object
abbrev pub IsPlanned : Now → Now → Type 0
IsPlanned before now = (m : Machine) → now ≡ Committing m → (before ≡ Committing m) ⊎ ((let p = plan_of m in p.used) ≢ [])

-- the same, where of some tops alone it is told who took part
pub record Uses (P : Uid → Type 0) (c : Coord) : Type 0 where
  pub paths : (root : Uid) (us : List Uid) → IsUsed us (root_at root c) →
      (w : Uid) × (b : Branch) × (branch_of w c.tree ≡ Some b) × (us ≡ uids_of b.path)
  pub plans : (u : Uid) (q : Doing) (m : Machine) → doing_of u c ≡ Some q → q.now ≡ Committing m → (let p = plan_of m in p.used) ≢ []
  pub alone : (u : Uid) → P u → (a : IsAlone c u) (us : List Uid) → IsUsed us (root_at (root_of (let b = a.branch in b.path)) c) →
      is_on us u ≡ true → IsCut c.tree u us

abbrev pub Any : Uid → Type 0
Any u = Unit {0}

pub uses_of : (c : Coord) → KnowsUses c → Uses Any c
uses_of c k = record { paths = k.paths; plans = k.plans; alone = λ u so. k.alone u }

pub uses_all : (c : Coord) → Uses Any c → KnowsUses c
uses_all c k = record { paths = k.paths; plans = k.plans; alone = λ u. k.alone u tt }

-- who was alone stays so, whatever changes in roots
abbrev as_before : (r : Uid) (f : Root → Root) (c : Coord) (u : Uid) (a : IsAlone (on_root r f c) u) → IsAlone c u
as_before r f c u a = record {
  branch = a.branch;
  doing = a.doing;
  found = a.found;
  does = a.does;
  committed = a.committed;
  unnested = a.unnested;
  unserial = a.unserial;
  took = a.took;
}

-- an end leaves other aborts
still_cut : (u : Uid) (e : End) (c : Coord) (b : Branch) (found : branch_of u c.tree ≡ Some b) → (e ≡ ending.Abort) ⊎ (b.ended ≡ None) →
    (w : Uid) (us : List Uid) → IsCut c.tree w us → IsCut (ended_tree u e c.tree b found) w us
still_cut u e c b found so w us x = (
  x.0,
  x.1,
  ⊎_elim (λ same. here same so) (λ other. ap (λ o. ended_so ending.Abort o) (at_others u e c.tree b found x.0 other) ∙ x.2)
      (uid_cases x.0 u),
)
  where
    here : x.0 ≡ u → (e ≡ ending.Abort) ⊎ (b.ended ≡ None) → is_aborted x.0 (ended_tree u e c.tree b found) ≡ true
    here same (inl aborts) = ap (λ v. is_aborted v (ended_tree u e c.tree b found)) same
        ∙ ap (λ o. ended_so ending.Abort o) (at_u u e c.tree b found) ∙ ap (λ f. has_end ending.Abort (Some f)) aborts
    here same (inr opened) =
        let no_way : false ≡ true = ap (has_end ending.Abort) (sym opened) ∙ ap (λ o. ended_so ending.Abort o) (sym found)
        ∙ ap (λ v. is_aborted v c.tree) (sym same) ∙ x.2 in
        absurd (cc no_way)

pub ended_tree_is : (u : Uid) (e : End) (c : Coord) (b : Branch) (found : branch_of u c.tree ≡ Some b) →
    (ended u e c).tree ≡ ended_tree u e c.tree b found
ended_tree_is u e c b found =
    on_tree u (λ (d : Doing). record d { now = Idle }) (record c { tree = ended_at u e c.tree }) ∙ ap (λ o. ended_branch u e c.tree o) found

pub ended_cut : (u : Uid) (e : End) (c : Coord) (b : Branch) → branch_of u c.tree ≡ Some b → (e ≡ ending.Abort) ⊎ (b.ended ≡ None) →
    (w : Uid) (us : List Uid) → IsCut c.tree w us → IsCut (ended u e c).tree w us
ended_cut u e c b found so w us x = subst (λ t. IsCut t w us) (sym (ended_tree_is u e c b found)) (still_cut u e c b found so w us x)

pub on_roots : (u : Uid) (f : Doing → Doing) (c : Coord) → (on_doing u f c).roots ≡ c.roots
on_roots u f c = by (doing_of u c)
  where
    by : (o : Option Doing) → (change_doing f u c o).roots ≡ c.roots
    by None = refl
    by (Some d) = refl

module _ (P : Uid → Type 0) where
  pub uses_on : (u : Uid) (f : Doing → Doing) (c : Coord) → ((d : Doing) → ((f d).took ≡ d.took) × IsPlanned d.now (f d).now) → Uses P c →
      Uses P (on_doing u f c)
  uses_on u f c keeps k = record {
    paths = λ root us i. let p = k.paths root us (subst (λ rs. IsUsed us (unwrap_or (at_number root.num rs) no_root)) (on_roots u f c) i) in
        (p.0, p.1, ap (branch_of p.0) (on_tree u f c) ∙ p.2, p.3);
    plans = λ w q m does is. ⊎_elim
        (λ same. ⊎_elim (λ old. k.plans w same.1 m same.2 old) (λ uses. uses) ((keeps same.1).1 m (ap (λ (d : Doing). d.now) same.3 ∙ is)))
        (λ other. k.plans w q m other.1 is) (on_cases u f c w q does);
    alone = λ w so a us i on. subst (λ t. IsCut t w us) (sym (on_tree u f c)) (was w so a us i on);
  }
    where
      was : (w : Uid) → P w → (a : IsAlone (on_doing u f c) w) (us : List Uid) →
          IsUsed us (root_at (root_of (let b = a.branch in b.path)) (on_doing u f c)) → is_on us w ≡ true → IsCut c.tree w us
      was w so a us i on = ⊎_elim
          (λ same. k.alone w so (record {
            branch = a.branch;
            doing = same.1;
            found = found;
            does = same.2;
            committed = a.committed;
            unnested = a.unnested;
            unserial = a.unserial;
            took = sym ((keeps same.1).0) ∙ ap (λ (d : Doing). d.took) same.3 ∙ a.took;
          }) us used on)
          (λ other. k.alone w so (record {
            branch = a.branch;
            doing = a.doing;
            found = found;
            does = other.1;
            committed = a.committed;
            unnested = a.unnested;
            unserial = a.unserial;
            took = a.took;
          }) us used on)
          (on_cases u f c w a.doing a.does)
        where
          found : branch_of w c.tree ≡ Some a.branch
          found = ap (branch_of w) (sym (on_tree u f c)) ∙ a.found

          used : IsUsed us (root_at (root_of (let b = a.branch in b.path)) c)
          used = subst (λ rs. IsUsed us (unwrap_or (at_number (root_of (let b = a.branch in b.path)).num rs) no_root)) (on_roots u f c) i

  -- a root changes, where nothing is answered but what is used under the path of an action that is open
  pub uses_root_by : (r : Uid) (f : Root → Root) (c : Coord) → ((us : List Uid) (x : Root) → IsUsed us (f x) → IsUsed us x ⊎ (((w : Uid)
      × (b : Branch) × (branch_of w c.tree ≡ Some b) × (us ≡ uids_of b.path)) × ((u : Uid) → IsAlone c u → is_on us u ≡ true → ⊥))) →
      Uses P c → Uses P (on_root r f c)
  uses_root_by r f c keeps k = record {
    paths = λ root us i. ⊎_elim (λ same. ⊎_elim (λ old. k.paths root us old) (λ new. new.0) (keeps us (root_at root c)
        (subst (IsUsed us) same.1 i))) (λ same. k.paths root us (subst (IsUsed us) same i)) (root_cases r f c root);
    plans = k.plans;
    alone = λ u so a us i on. let root = root_of (let b = a.branch in b.path) in ⊎_elim
        (λ same. ⊎_elim (λ old. k.alone u so (as_before r f c u a) us old on) (λ new. absurd (new.1 u (as_before r f c u a) on))
        (keeps us (root_at root c) (subst (IsUsed us) same.1 i)))
        (λ same. k.alone u so (as_before r f c u a) us (subst (IsUsed us) same i) on) (root_cases r f c root);
  }

  pub uses_root : (r : Uid) (f : Root → Root) (c : Coord) → KeepsUses f → Uses P c → Uses P (on_root r f c)
  uses_root r f c keeps k = uses_root_by r f c (λ us x i. inl (used_same f us x keeps i)) k

  pub uses_tree : (c : Coord) (t : Tree) → IsSameTree c.tree t → Uses P c → Uses P (record c { tree = t })
  uses_tree c t same k = record {
    paths = λ root us i. let p = k.paths root us i in let b = same.forth p.0 p.1 p.2 in (p.0, b.0, b.1, p.3 ∙ ap uids_of b.2);
    plans = λ u q m does is. k.plans u q m (doing u q does) is;
    alone = λ u so a us i on.
        let b = same.back u a.branch a.found in
        let x = k.alone u so (record {
          branch = b.0;
          doing = a.doing;
          found = b.1;
          does = doing u a.doing a.does;
          committed = b.4 ∙ a.committed;
          unnested = λ is. a.unnested (sym b.3 ∙ is);
          unserial = λ is. a.unserial (sym b.3 ∙ is);
          took = a.took;
        }) us (subst (λ (p : Path). IsUsed us (root_at (root_of p) c)) (sym b.2) i) on in
        (x.0, x.1, cut x.0 (branch_of x.0 c.tree) refl x.2);
  }
    where
      doing : (u : Uid) (q : Doing) → doing_of u (record c { tree = t }) ≡ Some q → doing_of u c ≡ Some q
      doing u q does = (λ i. cond (sym (same.own u) i) (at_place u.num c.doings) None) ∙ does

      cut : (w : Uid) (o : Option Branch) → branch_of w c.tree ≡ o → is_aborted w c.tree ≡ true → is_aborted w t ≡ true
      cut w None none is = let no_way : false ≡ true = ap (λ o. ended_so ending.Abort o) (sym none) ∙ is in absurd (cc no_way)
      cut w (Some b) found is = let x = same.forth w b found in
          ap (λ o. ended_so ending.Abort o) x.1 ∙ ap (λ e. has_end ending.Abort e) (sym x.4)
          ∙ ap (λ o. ended_so ending.Abort o) (sym found) ∙ is

  -- an action ends that isn't a top, or it is a top of which isn't said who took part
  pub uses_ended : (u : Uid) (e : End) (c : Coord) → ((b : Branch) → branch_of u c.tree ≡ Some b → ((e ≡ ending.Abort) ⊎ (b.ended ≡ None))
      × ((e ≡ ending.Abort) ⊎ (b.kind ≡ kind.Nested) ⊎ (b.kind ≡ kind.Serial) ⊎ (P u → ⊥))) → Uses P c → Uses P (ended u e c)
  uses_ended u e c so k =
      uses_on u (λ (d : Doing). record d { now = Idle }) mid (λ d. (refl, λ m is. absurd (cc is))) (by (branch_of u c.tree) refl)
    where
      mid : Coord
      mid = record c { tree = ended_at u e c.tree }

      mid_doing : (w : Uid) → doing_of w mid ≡ doing_of w c
      mid_doing w = let g = end_tree_on u e c in λ i. cond (g.own w i) (at_place w.num c.doings) None

      by : (o : Option Branch) → branch_of u c.tree ≡ o → Uses P (record c { tree = ended_at u e c.tree })
      by None none = subst (λ t. Uses P (record c { tree = t })) (sym (ap (λ o. ended_branch u e c.tree o) none)) (record {
        paths = k.paths;
        plans = k.plans;
        alone = λ w p a us i on. k.alone w p (record {
          branch = a.branch;
          doing = a.doing;
          found = a.found;
          does = a.does;
          committed = a.committed;
          unnested = a.unnested;
          unserial = a.unserial;
          took = a.took;
        }) us i on;
      })
      by (Some b) found = record {
        paths = λ root us i. let p = k.paths root us i in ⊎_elim
            (λ same. let one : p.1 ≡ b = some_is p.1 b (sym p.2 ∙ ap (λ x. branch_of x c.tree) same ∙ found) in (
              u,
              ended_b u e c.tree b found,
              ap (branch_of u) its ∙ at_u u e c.tree b found,
              p.3 ∙ ap (λ (d : Branch). uids_of d.path) one,
            ))
            (λ other. (p.0, p.1, ap (branch_of p.0) its ∙ at_others u e c.tree b found p.0 other ∙ p.2, p.3)) (uid_cases p.0 u);
        plans = λ w q m does is. k.plans w q m (sym (mid_doing w) ∙ does) is;
        alone = λ w p a us i on. subst (λ t. IsCut t w us) (sym its) (⊎_elim
            (λ new. absurd (own w p a new.0 new.1 (so b found).1))
            (λ old. still_cut u e c b found (so b found).0 w us (k.alone w p (record {
              branch = a.branch;
              doing = a.doing;
              found = old.1;
              does = sym (mid_doing w) ∙ a.does;
              committed = a.committed;
              unnested = a.unnested;
              unserial = a.unserial;
              took = a.took;
            }) us i on))
            (after_cases u e c.tree b found w a.branch (ap (branch_of w) (sym its) ∙ a.found)));
      }
        where
          its : ended_at u e c.tree ≡ ended_tree u e c.tree b found
          its = ap (λ o. ended_branch u e c.tree o) found

          own : (w : Uid) → P w → (a : IsAlone mid w) → w ≡ u → ended_b u e c.tree b found ≡ a.branch →
              (e ≡ ending.Abort) ⊎ (b.kind ≡ kind.Nested) ⊎ (b.kind ≡ kind.Serial) ⊎ (P u → ⊥) → ⊥
          own w p a same is (inl aborts) =
              let no_way : ◌≡◌ {A = Option End} (Some ending.Abort) (Some ending.Commit) = ap Some (sym aborts)
              ∙ ap (λ (d : Branch). d.ended) is ∙ a.committed in
              absurd (cc no_way)
          own w p a same is (inr (inl nested)) = a.unnested (ap (λ (d : Branch). d.kind) (sym is) ∙ nested)
          own w p a same is (inr (inr (inl serial))) = a.unserial (ap (λ (d : Branch). d.kind) (sym is) ∙ serial)
          own w p a same is (inr (inr (inr but))) = but (subst P same p)

-- who took part in a top that was committed is told
pub uses_took : (u : Uid) (ns : List ℕ) (c : Coord) → ((b : Branch) → branch_of u c.tree ≡ Some b → ns ≡ [] → (us : List Uid) →
    IsUsed us (root_at (root_of b.path) c) → is_on us u ≡ true → IsCut c.tree u us) → Uses (λ w. w ≢ u) c →
    Uses Any (on_doing u (λ (d : Doing). record d { took = ns }) c)
uses_took u ns c its k =
    let f : Doing → Doing = λ (d : Doing). record d { took = ns } in
    record {
      paths = λ root us i. let p = k.paths root us (subst (λ rs. IsUsed us (unwrap_or (at_number root.num rs) no_root)) (on_roots u f c)
          i) in (p.0, p.1, ap (branch_of p.0) (on_tree u f c) ∙ p.2, p.3);
      plans = λ w q m does is. ⊎_elim (λ same. k.plans w same.1 m same.2 (ap (λ (d : Doing). d.now) same.3 ∙ is))
          (λ other. k.plans w q m other.1 is) (on_cases u f c w q does);
      alone = λ w so a us i on.
          let found : branch_of w c.tree ≡ Some a.branch = ap (branch_of w) (sym (on_tree u f c)) ∙ a.found in
          let used = subst (λ rs. IsUsed us (unwrap_or (at_number (root_of (let b = a.branch in b.path)).num rs) no_root)) (on_roots u f c)
          i in
          subst (λ t. IsCut t w us) (sym (on_tree u f c)) (⊎_elim
          (λ same. subst (λ x. IsCut c.tree x us) (sym same.0) (its a.branch (ap (λ x. branch_of x c.tree) (sym same.0) ∙ found)
          (ap (λ (d : Doing). d.took) same.3 ∙ a.took) us used (ap (is_on us) (sym same.0) ∙ on)))
          (λ other. k.alone w other.0 (record {
            branch = a.branch;
            doing = a.doing;
            found = found;
            does = other.1;
            committed = a.committed;
            unnested = a.unnested;
            unserial = a.unserial;
            took = a.took;
          }) us used on)
          (on_cases u f c w a.doing a.does));
    }

-- ---- calls

uses_goes : (s : Steps) (c : Coord) → Uses Any c → Uses Any (goes_on s c).part
uses_goes s c k =
    let w : Coord = on_doing (actor s.path) (λ (d : Doing). record d { req = s.req; now = Calling s }) c in
    let went : Went =
    record { path = uids_of s.path; node = next_node s; invoke = is_invoke_ask (next_ask (ends_of (root_of s.path) w.tree) s) } in
    uses_root Any (root_of s.path) (with_went went) w (went_keeps went)
    (uses_on Any (actor s.path) (λ (d : Doing). record d { req = s.req; now = Calling s }) c (λ d. (refl, λ m is. absurd (cc is))) k)

pub uses_call : (p : Path) (x : ℕ) (o : Op) (c : Coord) → Uses Any c → Uses Any (call p x o c).part
uses_call p x o c k =
    let r = root_at (root_of p) c in
    let old = keeping_of x r in
    let h = renewed (is_free (root_of p) (actor p) x c) old old.kept in
    let u : Coord = record c { tree = uses_object p x c.tree } in
    uses_goes (call_steps p x o (next_req (actor p) c) r c h) (on_root (root_of p) (with_keeping x h) u)
    (uses_root Any (root_of p) (with_keeping x h) u (record { said = λ q. refl; joined = λ q. refl })
    (uses_tree Any c (uses_object p x c.tree) (uses_same p x c.tree) k))

pub uses_include : (p : Path) (x s : ℕ) (c : Coord) → Uses Any c → Uses Any (include p x s c).part
uses_include p x s c k = uses_goes (start p x (calls.Include s) None unbound (next_req (actor p) c))
    (record c { tree = uses_object p x c.tree }) (uses_tree Any c (uses_object p x c.tree) (uses_same p x c.tree) k)

-- what a root takes note of is under the path of the action that asked
said_cases : (s : Said) (us : List Uid) (r : Root) → IsUsed us (with_said s r) → IsUsed us r ⊎ (us ≡ s.path)
said_cases s us r = by (list_any (same_said s) r.said)
  where
    last : (xs : List Said) (t : Said) → In t (xs ++ s ∷ []) → In t xs ⊎ (s ≡ t)
    last [] t (inl is) = inr is
    last [] t (inr i) = absurd i
    last (x ∷ xs) t (inl is) = inl (inl is)
    last (x ∷ xs) t (inr i) = ⊎_elim (λ old. inl (inr old)) (λ new. inr new) (last xs t i)

    by : (b : Bool) → IsUsed us (cond b r (record r { said = r.said ++ s ∷ [] })) → IsUsed us r ⊎ (us ≡ s.path)
    by true i = inl i
    by false (inl (t, there, is)) = ⊎_elim (λ old. inl (inl (t, in_to t r.said old, is)))
        (λ new. inr (sym is ∙ ap (λ (x : Said). x.path) (sym new))) (last r.said t (in_from t (r.said ++ s ∷ []) there))
    by false (inr j) = inl (inr j)

join_cases : (j : Joined) (us : List Uid) (r : Root) → IsUsed us (with_join j r) → IsUsed us r ⊎ (us ≡ j.path)
join_cases j us r (inl s) = inl (inl s)
join_cases j us r (inr (i, there, is)) = ⊎_elim (λ old. inl (inr (old.0, in_to old.0 r.joined old.1, old.2 ∙ is)))
    (λ new. inr (sym is ∙ sym new)) (by r.joined (in_from i (joined_with j r.joined) there))
  where
    by : (js : List Joined) → In i (joined_with j js) → ((o : Joined) × In o js × (o.path ≡ i.path)) ⊎ (j.path ≡ i.path)
    by [] (inl same) = inr (ap (λ (x : Joined). x.path) same)
    by [] (inr none) = absurd none
    by (o ∷ os) h = one (same_join j o) h (by os)
      where
        one : (b : Bool) → In i (cond b (record o { loaded = later_state o.loaded j.loaded } ∷ os) (o ∷ joined_with j os)) →
            (In i (joined_with j os) → ((x : Joined) × In x os × (x.path ≡ i.path)) ⊎ (j.path ≡ i.path)) →
            ((x : Joined) × In x (o ∷ os) × (x.path ≡ i.path)) ⊎ (j.path ≡ i.path)
        one true (inl same) ih = inl (o, inl refl, ap (λ (x : Joined). x.path) same)
        one true (inr there) ih = inl (i, inr there, refl)
        one false (inl same) ih = inl (o, inl refl, ap (λ (x : Joined). x.path) same)
        one false (inr there) ih = ⊎_elim (λ f. inl (f.0, inr f.1, f.2)) (λ new. inr new) (ih there)

heard_cases : (s : Steps) (e : CallEnd) (us : List Uid) (r : Root) → IsUsed us (root_heard s e r) → IsUsed us r ⊎ (us ≡ uids_of s.path)
heard_cases s (Answered a) us r i = said_cases (record { path = uids_of s.path; x = s.x }) us r i
heard_cases s (Included st) us r i = join_cases _ us r i
heard_cases s (Conflict h m n) us r i = inl i
heard_cases s (Changed n w) us r i = inl i
heard_cases s (Lost n b) us r i = inl i

module _ (acts : List Action) (paths : Paths) (tree : IsTree paths) where
  -- nobody stands above an open action who was committed
  none_above : (c : Coord) → IsGoodCoord acts paths c → (w : Uid) (p : Path) → IsAsking c.tree w p → (u : Uid) → IsAlone c u →
      is_on (uids_of p) u ≡ true → ⊥
  none_above c good w p a u it on =
      let l = good.tree.lists in
      let over = over_below paths tree c.tree l good.tree.closed u it.branch it.found (ap is_some it.committed) w a.branch a.found
      (ap (λ us. is_on us u) (sym (l.paths_are w a.branch a.found) ∙ ap uids_of a.path) ∙ on) in
      never over a.opened

  -- the same of a coordinator with the same tree
  uses_ends : (s : Steps) (e : CallEnd) (c : Coord) → ((u : Uid) → IsAlone c u → is_on (uids_of s.path) u ≡ true → ⊥) →
      IsAsking c.tree (actor s.path) s.path → Uses Any c → Uses Any (ends_call s e c).part
  uses_ends s e c none a k = by e
    where
      w : Coord
      w = on_doing (actor s.path) (λ (d : Doing). record d { now = Idle }) c

      at : Coord
      at = on_root (root_of s.path) (root_heard s e) (on_doing (actor s.path) (λ (d : Doing). record d { now = Idle }) c)

      idle : Uses Any w
      idle = uses_on Any (actor s.path) (λ (d : Doing). record d { now = Idle }) c (λ d. (refl, λ m is. absurd (cc is))) k

      same : w.tree ≡ c.tree
      same = on_tree (actor s.path) (λ (d : Doing). record d { now = Idle }) c

      was : (u : Uid) → IsAlone w u → IsAlone c u
      was u it =
          let d : (p : Doing) × (doing_of u c ≡ Some p) × (p.took ≡ (let q = it.doing in q.took)) = ⊎_elim (λ (z : (u ≡ actor s.path)
          × (p : Doing) × (doing_of u c ≡ Some p) × (record p { now = Idle } ≡ it.doing)). (z.1, z.2, ap (λ (x : Doing). x.took) z.3))
          (λ (z : (u ≢ actor s.path) × (doing_of u c ≡ Some it.doing)). (it.doing, z.1, refl))
          (on_cases (actor s.path) (λ (d : Doing). record d { now = Idle }) c u it.doing it.does) in
          record {
            branch = it.branch;
            doing = d.0;
            found = ap (branch_of u) (sym same) ∙ it.found;
            does = d.1;
            committed = it.committed;
            unnested = it.unnested;
            unserial = it.unserial;
            took = d.2 ∙ it.took;
          }

      its : Uses Any at
      its = uses_root_by Any (root_of s.path) (root_heard s e) w (λ us x i. ⊎_elim (λ old. inl old)
          (λ new. inr (
            (actor s.path, a.branch, ap (branch_of (actor s.path)) same ∙ a.found, new ∙ ap uids_of (sym a.path)),
            λ u it on. none u (was u it) (ap (λ vs. is_on vs u) (sym new) ∙ on),
          ))
          (heard_cases s e us x i)) idle

      by : (f : CallEnd) → Uses Any (doomed_by (actor s.path) f at)
      by (Answered x) = its
      by (Included st) = its
      by (Conflict h m n) = its
      by (Changed n x) = its
      by (Lost n false) = its
      by (Lost n true) = uses_tree Any at (doomed_at (actor s.path) at.tree) (doomed_same (actor s.path) at.tree) its

  -- a step of a call, where the root changes before it in what it keeps
  pub uses_step_call : (s : Steps) (t : CallStep) (f : Root → Root) (c : Coord) → KeepsUses f → IsGoodCoord acts paths c →
      IsAsking c.tree (actor s.path) s.path → Uses Any c → Uses Any (step_call s t (on_root (root_of s.path) f c)).part
  uses_step_call s (On at) f c keeps good a k =
      uses_goes (record s { req = s.req + 1; at = at }) (on_root (root_of s.path) f c) (uses_root Any (root_of s.path) f c keeps k)
  uses_step_call s (Ended e) f c keeps good a k =
      uses_ends s e (on_root (root_of s.path) f c)
      (λ u it on. none_above c good (actor s.path) s.path a u (as_before (root_of s.path) f c u it) on)
      (record { branch = a.branch; found = a.found; path = a.path; unserial = a.unserial; opened = a.opened })
      (uses_root Any (root_of s.path) f c keeps k)
