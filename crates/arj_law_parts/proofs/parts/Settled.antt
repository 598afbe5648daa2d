-- What is settled at a coordinator stays so.
use Rattle.arj_law_parts.proofs.Words
use Words.{◌≡◌, ◌≢◌, ◌⊎◌, ◌≤◌, zero, suc, ℕ, List, [], ◌∷◌, ◌++◌, length, Bool, true, false, cond, nat_le, Option, Some, None, slice_set}
use Words.{refl, sym, ◌∙◌, ap, subst, inl, inr, ⊎_elim, Contains, ◌==◌, ◌&&◌, arith, and_parts, eqb-true, is_some, uid_cases, Uid, End}
use Words.{uids_of, Machine, Coord, Doing, Idle, Committing, doing_of, set_doing, change_doing, on_doing, Intent, ended, Tree, Branch}
use Words.{branch_of, is_own, at_place, set_place, root_of, family_of, with_family, ended_at, ended_branch, place_other}
use Rattle.arj_law_parts.proofs.Terms.{IsSettled, IsClaimed, GoesOn, IsBusy, AreBusy, IsOver, IsCommitting}
use Rattle.arj_law_parts.proofs.parts
use parts.GoodCoords.{IsSameTree, doing_by}
use parts.GoodTrees.{found_by, place_same, own_is, after, at_u, at_others, still_there, ended_b}

-- ---- lists

set_length : {A : Type 0} (items : List A) (k : ℕ) (a : A) → length (slice_set items k a) ≡ length items
set_length [] k a = refl
set_length (x ∷ xs) zero a = refl
set_length (x ∷ xs) (suc k) a = ap suc (set_length xs k a)

pub place_length : {A : Type 0} (k : ℕ) (a : A) (items : List A) → length (set_place k a items) ≡ length items
place_length zero a items = refl
place_length (suc k) a items = set_length items k a

-- ---- from one coordinator to the next

pub node_on : (c e : Coord) → GoesOn c e → c.tree.node ≡ e.tree.node
node_on c e g = eqb-true c.tree.node e.tree.node
    (and_parts (c.tree.node == e.tree.node) (c.tree.inc == e.tree.inc) (g.own one ∙ (λ i. itself c.tree.node i && itself c.tree.inc i))).0
  where
    one : Uid
    one = record { node = c.tree.node; inc = c.tree.inc; num = 0 }

    itself : (n : ℕ) → (n == n) ≡ true
    itself n = grind arith

pub inc_on : (c e : Coord) → GoesOn c e → c.tree.inc ≡ e.tree.inc
inc_on c e g = eqb-true c.tree.inc e.tree.inc
    (and_parts (c.tree.node == e.tree.node) (c.tree.inc == e.tree.inc) (g.own one ∙ (λ i. itself c.tree.node i && itself c.tree.inc i))).1
  where
    one : Uid
    one = record { node = c.tree.node; inc = c.tree.inc; num = 0 }

    itself : (n : ℕ) → (n == n) ≡ true
    itself n = grind arith

pub claim_on : (c e : Coord) → GoesOn c e → (u : Uid) → IsClaimed u c → IsClaimed u e
claim_on c e g u claim =
    (claim.0 ∙ node_on c e g, λ own. g.settled u (claim.1 (sym (g.own u) ∙ own)), subst (λ i. u.inc ≤ i) (inc_on c e g) claim.2)

-- what is there is of this coordinator
there_at : (c : Coord) (u : Uid) (b : Branch) → branch_of u c.tree ≡ Some b → (u.node ≡ c.tree.node) × (u.inc ≤ c.tree.inc)
there_at c u b found =
    let q = and_parts (u.node == c.tree.node) (u.inc == c.tree.inc) (found_by u c.tree b found).0 in
    (eqb-true u.node c.tree.node q.0, subst (λ i. u.inc ≤ i) (eqb-true u.inc c.tree.inc q.1) (omega arith))

-- what is over is claimed, and so is what is at its commit
pub over_claim : (c : Coord) (u : Uid) → IsOver u c.tree → IsClaimed u c
over_claim c u over = let q = there_at c u over.0 over.1 in (q.0, λ own. inl over, q.1)

pub commit_claim : (c : Coord) (u : Uid) (b : Branch) → branch_of u c.tree ≡ Some b → IsCommitting u c → IsClaimed u c
commit_claim c u b found at = let q = there_at c u b found in (q.0, λ own. inr at, q.1)

pub then_on : (c d e : Coord) → GoesOn c d → GoesOn d e → GoesOn c e
then_on c d e g h = record {
  settled = λ u s. h.settled u (g.settled u s);
  own = λ u. h.own u ∙ g.own u;
  works = h.works ∙ g.works;
  branches = h.branches ∙ g.branches;
  labels = h.labels ∙ g.labels;
  kinds = λ u b f. let x = g.kinds u b f in let y = h.kinds u x.0 x.1 in (y.0, y.1, y.2 ∙ x.2);
  told = λ u i k. ⊎_elim (λ old. ⊎_elim (λ older. inl older) (λ claim. inr (claim_on d e h u claim)) (g.told u old.0 old.1))
      (λ new. inr new) (h.told u i k);
}

pub same_on : (c e : Coord) → e.tree ≡ c.tree → e.doings ≡ c.doings → e.telling ≡ c.telling → e.labels ≡ c.labels → GoesOn c e
same_on c e tree doings telling labels = record {
  settled = λ u s. ⊎_elim (λ over. inl (subst (IsOver u) (sym tree) over)) (λ q. inr (q.0, q.1, same_doing u ∙ q.2, q.3)) s;
  own = λ u. ap (is_own u) tree;
  works = ap length doings;
  branches = ap (λ (t : Tree). length t.branches) tree;
  labels = labels;
  kinds = λ u b f. (b, ap (branch_of u) tree ∙ f, refl);
  told = λ u i k. inl (i, subst (λ (m : List (Uid × Intent)). Contains m (u, i)) telling k);
}
  where
    same_doing : (u : Uid) → doing_of u e ≡ doing_of u c
    same_doing u = λ i. cond (is_own u (tree i)) (at_place u.num (doings i)) None

pub tree_on : (c : Coord) (v : Tree) → IsSameTree c.tree v → length v.branches ≡ length c.tree.branches → GoesOn c (record c { tree = v })
tree_on c v same long = record {
  settled = λ u s. ⊎_elim (λ o. let q = same.forth u o.0 o.1 in
      inl (q.0, q.1, ap is_some (sym q.4) ∙ o.2)) (λ q. inr (q.0, q.1, same_doing u ∙ q.2, q.3)) s;
  own = same.own;
  works = refl;
  branches = long;
  labels = refl;
  kinds = λ u b f. let q = same.forth u b f in (q.0, q.1, sym q.3);
  told = λ u i k. inl (i, k);
}
  where
    same_doing : (u : Uid) → doing_of u (record c { tree = v }) ≡ doing_of u c
    same_doing u = λ i. cond (same.own u i) (at_place u.num c.doings) None

-- ---- one action at work

-- what an action at work becomes: at its commit again, where it was there and hasn't ended
abbrev pub KeepsCommit : Uid → (Doing → Doing) → Coord → Type 0
KeepsCommit u f c = (d : Doing) (m : Machine) → doing_of u c ≡ Some d → d.now ≡ Committing m →
    IsOver u c.tree ⊎ ((k : Machine) × ((f d).now ≡ Committing k))

pub doing_put : (u : Uid) (d old : Doing) (c : Coord) → doing_of u c ≡ Some old → doing_of u (set_doing u d c) ≡ Some d
doing_put u d old c found = let q = doing_by u c old found in
    (λ i. cond (q.0 i) (at_place u.num (set_place u.num d c.doings)) None) ∙ place_same u.num d old c.doings q.1

pub doing_other : (u w : Uid) (d old : Doing) (c : Coord) → doing_of u c ≡ Some old → w ≢ u → doing_of w (set_doing u d c) ≡ doing_of w c
doing_other u w d old c found other = one (is_own w c.tree) refl
  where
    one : (o : Bool) → is_own w c.tree ≡ o →
        cond o (at_place w.num (set_place u.num d c.doings)) None ≡ cond o (at_place w.num c.doings) None
    one true own = place_other u.num w.num d c.doings (λ same. other (own_is w u c.tree own (doing_by u c old found).0 same))
    one false own = refl

pub work_on : (u : Uid) (f : Doing → Doing) (c : Coord) → KeepsCommit u f c → GoesOn c (on_doing u f c)
work_on u f c keeps = by (doing_of u c) refl
  where
    by : (o : Option Doing) → doing_of u c ≡ o → GoesOn c (change_doing f u c o)
    by None none = same_on c c refl refl refl refl
    by (Some old) found = record {
      settled = λ w s. ⊎_elim (λ over. inl over) (λ q. commits w q) s;
      own = λ w. refl;
      works = place_length u.num (f old) c.doings;
      branches = refl;
      labels = refl;
      kinds = λ w b at. (b, at, refl);
      told = λ w i k. inl (i, k);
    }
      where
        new : Coord
        new = set_doing u (f old) c

        its : (w : Uid) → w ≡ u → IsCommitting w c → IsSettled w new
        its w same q =
            let k : ◌≡◌ {A = Option Doing} (Some q.0) (Some old) = sym q.2 ∙ ap (λ v. doing_of v c) same ∙ found in
            let one : q.0 ≡ old = cc in
            ⊎_elim (λ over. inl (subst (λ v. IsOver v c.tree) (sym same) over))
            (λ g. inr (f old, g.0, ap (λ v. doing_of v new) same ∙ doing_put u (f old) old c found, g.1))
            (keeps old q.1 found (ap (λ (d : Doing). d.now) (sym one) ∙ q.3))

        commits : (w : Uid) → IsCommitting w c → IsSettled w new
        commits w q =
            ⊎_elim (λ same. its w same q) (λ other. inr (q.0, q.1, doing_other u w (f old) old c found other ∙ q.2, q.3)) (uid_cases w u)

-- ---- an end

pub end_tree_on : (u : Uid) (e : End) (c : Coord) → GoesOn c (record c { tree = ended_at u e c.tree })
end_tree_on u e c = by (branch_of u c.tree) refl
  where
    by : (o : Option Branch) → branch_of u c.tree ≡ o → GoesOn c (record c { tree = ended_branch u e c.tree o })
    by None none = same_on c c refl refl refl refl
    by (Some b) is = record {
      settled = λ w s. ⊎_elim (λ o. inl (still_there u e c.tree b is w o.0 o.1 o.2)) (λ q. inr (q.0, q.1, same_doing w ∙ q.2, q.3)) s;
      own = own;
      works = refl;
      branches = long (nat_le (length (uids_of b.path)) 1);
      labels = refl;
      kinds = λ w d at. ⊎_elim (λ same. (
        ended_b u e c.tree b is,
        ap (λ v. branch_of v (after u e c.tree b is)) same ∙ at_u u e c.tree b is,
        ap (λ (x : Branch). x.kind) (one b d (sym is ∙ ap (λ v. branch_of v c.tree) (sym same) ∙ at)),
      )) (λ other. (d, at_others u e c.tree b is w other ∙ at, refl)) (uid_cases w u);
      told = λ w i k. inl (i, k);
    }
      where
        m : Tree
        m = record c.tree { branches = set_place u.num (record b { ended = Some e }) c.tree.branches }

        listed : Bool → Tree
        listed s =
            cond s m (with_family (root_of b.path) (let f = family_of (root_of b.path) m in record f { ends = f.ends ++ (u, e) ∷ [] }) m)

        one : (x y : Branch) → Some x ≡ Some y → x ≡ y
        one x y s = let k : ◌≡◌ {A = Option Branch} (Some x) (Some y) = s in cc

        own : (w : Uid) → is_own w (ended_branch u e c.tree (Some b)) ≡ is_own w c.tree
        own w = one (nat_le (length (uids_of b.path)) 1)
          where
            one : (s : Bool) → is_own w (cond s m (with_family (root_of b.path) (let f = family_of (root_of b.path) m in
                record f { ends = f.ends ++ (u, e) ∷ [] }) m)) ≡ is_own w c.tree
            one true = refl
            one false = refl

        long : (s : Bool) → length (let t = cond s m (with_family (root_of b.path) (let f = family_of (root_of b.path) m in
            record f { ends = f.ends ++ (u, e) ∷ [] }) m) in t.branches) ≡ length c.tree.branches
        long true = place_length u.num (record b { ended = Some e }) c.tree.branches
        long false = place_length u.num (record b { ended = Some e }) c.tree.branches

        same_doing : (w : Uid) → doing_of w (record c { tree = ended_branch u e c.tree (Some b) }) ≡ doing_of w c
        same_doing w = λ i. cond (own w i) (at_place w.num c.doings) None

-- who ended is over, where it is there
pub end_over : (u : Uid) (e : End) (t : Tree) (b : Branch) → branch_of u t ≡ Some b → IsOver u (ended_at u e t)
end_over u e t b found = subst (λ o. IsOver u (ended_branch u e t o)) (sym found) (ended_b u e t b found, at_u u e t b found, refl)

-- who commits is there
pub commit_there : (c : Coord) → AreBusy c → (u : Uid) (d : Doing) (m : Machine) → doing_of u c ≡ Some d → d.now ≡ Committing m →
    (b : Branch) × (branch_of u c.tree ≡ Some b)
commit_there c busy u d m found is = let v = subst (IsBusy c.tree u) is (busy u d found) in (v.asking.branch, v.asking.found)

pub ended_on : (u : Uid) (e : End) (c : Coord) → AreBusy c → GoesOn c (ended u e c)
ended_on u e c busy = then_on c mid (ended u e c) step
    (work_on u (λ (d : Doing). record d { now = Idle }) mid (λ d m found is. inl (over d m (sym (same_doing (step.own u)) ∙ found) is)))
  where
    mid : Coord
    mid = record c { tree = ended_at u e c.tree }

    step : GoesOn c mid
    step = end_tree_on u e c

    same_doing : is_own u mid.tree ≡ is_own u c.tree → doing_of u mid ≡ doing_of u c
    same_doing own = λ i. cond (own i) (at_place u.num c.doings) None

    over : (d : Doing) (m : Machine) → doing_of u c ≡ Some d → d.now ≡ Committing m → IsOver u mid.tree
    over d m found is = let b = commit_there c busy u d m found is in end_over u e c.tree b.0 b.1
