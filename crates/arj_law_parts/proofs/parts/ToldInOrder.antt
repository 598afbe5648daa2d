-- What a coordinator tells of ends comes in order.
use Rattle.arj_law_parts.proofs.Words
use Words.{◌≡◌, ◌≢◌, ◌≤◌, ◌<◌, ℕ, List, [], ◌∷◌, ◌++◌, length, take, Bool, true, false, cond, not, ◌==◌, nat_le, Option, Some, None, refl}
use Words.{sym, ◌∙◌, ap, subst, inl, inr, ⊎_elim, Contains, arith, is_some, and_parts, eqb-true, false_from_ne_true, take-append-le, is_on}
use Words.{uid_eq, uid_cases, In, in_from, in_to, Uid, End, Kind, Path, uids_of, tops_of, actor, top_path, up_to, Tree, Branch, new_tree}
use Words.{branch_of, is_open, is_open_branch, is_own, ends_of, root_of, family_of, with_family, next_uid, begun_by, ended_branch, ended_at}
use Words.ending
use Words.kind
use Rattle.arj_law_parts.proofs.Terms
use Terms.{Action, act_of, Stands, AreBegun, AreCounted, Paths, IsTree, has_end_of, HasAllBelow, AreOrdered, AreOfOthers, HasAllIn}
use Terms.{AreWhole, IsGoodTree, AreAtHome}
use Rattle.arj_law_parts.proofs.parts
use parts.Begun.{path_length, one_action, serial_alone, whole_top, on_more}
use parts.GoodTrees.{has_here, has_later, found_by, over_below, new, new_there, grown_still, marked, at_u, at_others}

never : {P : Type 0} (b : Bool) → b ≡ true → b ≡ false → P
never b holds fails = let no_way : true ≡ false = sym holds ∙ fails in cc

-- ---- lists of a tree, for all actions that were begun

pub below_all : (acts : List Action) (t : Tree) (u : Uid) (ends : List (Uid × End)) → AreAtHome acts t → is_own u t ≡ true →
    HasAllIn t u ends → HasAllBelow acts u ends
below_all acts t u ends home own all a k on other = let b = home a u k on own in
    all (act_of a) b.0 b.1 (ap (λ p. is_on (uids_of p) u) b.2 ∙ on) other

pub ordered_by : (acts : List Action) (t : Tree) (before es : List (Uid × End)) → AreAtHome acts t →
    ((u : Uid) → has_end_of u es ≡ true → is_own u t ≡ true) → AreWhole t before es → AreOrdered acts before es
ordered_by acts t before [] home own whole = tt
ordered_by acts t before (e ∷ es) home own whole = (
  (λ is. inr (below_all acts t e.0 before home (own e.0 (has_here e es)) (whole.0 is))),
  ordered_by acts t (before ++ e ∷ []) es home (λ u is. own u (has_later u e es is)) whole.1,
)

pub tree_ordered : (paths : Paths) (acts : List Action) (t : Tree) → IsGoodTree paths t → AreAtHome acts t → (root : Uid) →
    AreOrdered acts [] (ends_of root t)
tree_ordered paths acts t good home root = ordered_by acts t [] (ends_of root t) home (λ u is. let o = good.lists.over root u is in
    (found_by u t o.0 o.1).0) (good.lists.whole root)

-- a front of a list
pub front_ordered : (acts : List Action) (u : Uid) (before es : List (Uid × End)) → AreOrdered acts before es →
    AreOrdered acts before (up_to u es)
front_ordered acts u before [] ordered = tt
front_ordered acts u before (e ∷ es) ordered = by (uid_eq e.0 u) (front_ordered acts u (before ++ e ∷ []) es ordered.1)
  where
    by : (b : Bool) → AreOrdered acts (before ++ e ∷ []) (up_to u es) → AreOrdered acts before (cond b (e ∷ []) (e ∷ up_to u es))
    by true ih = (ordered.0, tt)
    by false ih = (ordered.0, ih)

-- who is open finds no end of its path
pub asking_others : (paths : Paths) → IsTree paths → (t : Tree) → IsGoodTree paths t → (root u : Uid) (b : Branch) →
    branch_of u t ≡ Some b → is_open u t ≡ true → AreOfOthers b.path (ends_of root t)
asking_others paths tree t good root u b found opened v on = false_from_ne_true (has_end_of v (ends_of root t)) (λ is.
    let o = good.lists.over root v is in
    never (is_some b.ended) (over_below paths tree t good.lists good.closed v o.0 o.1 o.2 u b found (ap (λ us. is_on us v)
    (sym (good.lists.paths_are u b found)) ∙ on)) (is_not (is_some b.ended) (sym (ap is_open_branch found) ∙ opened)))
  where
    is_not : (e : Bool) → not e ≡ true → e ≡ false
    is_not true e = let no_way : false ≡ true = e in cc
    is_not false e = refl

-- ---- single ends

-- a top, or a serializing action, is a top on each path on which it is
module _ (acts : List Action) (begun : AreBegun acts) where
  top_on : (t : Action) → In t acts → t.kind ≢ kind.Nested → (a : Action) → In a acts → is_on (uids_of a.path) (act_of t) ≡ true →
      is_on (top_path a.path) (act_of t) ≡ true
  top_on = all acts begun (λ d i. i)
    where
      Is : Action → Action → Type 0
      Is t a = is_on (uids_of a.path) (act_of t) ≡ true → is_on (top_path a.path) (act_of t) ≡ true

      all : (bs : List Action) → AreBegun bs → ((d : Action) → In d bs → In d acts) → (t : Action) → In t acts → t.kind ≢ kind.Nested →
          (a : Action) → In a bs → Is t a
      all [] b sub t i other a j = absurd j
      all (c ∷ bs) b sub t i other a (inr j) = all bs b.1 (λ d k. sub d (inr k)) t i other a j
      all (c ∷ bs) b sub t i other a (inl same) =
          subst (Is t) same (by c.kind refl b.0.stands (all bs b.1 (λ d k. sub d (inr k)) t i other))
        where
          whole : (us : List Uid) → uids_of c.path ≡ us → tops_of c.path ≡ length us → Is t c
          whole us is tops on = ap (λ vs. is_on vs (act_of t)) (whole_top c.path us is tops) ∙ on

          by : (k : Kind) → c.kind ≡ k → Stands bs c k → ((d : Action) → In d bs → Is t d) → Is t c
          by kind.Top is s ih on = whole (act_of c ∷ []) s.0 s.1 on
          by kind.Serial is s ih on = whole (act_of c ∷ []) s.0 s.1 on
          by kind.Independent is s ih on = whole (act_of c ∷ []) s.0 s.1 on
          by kind.Constituent is s ih on =
              let up = serial_alone bs b.1 s.0 (in_from s.0 bs s.1) s.2 in
              whole (act_of s.0 ∷ act_of c ∷ []) (s.3 ∙ ap (λ us. us ++ act_of c ∷ []) up.0) s.4 on
          by kind.Nested is s ih on = ⊎_elim (λ up. ap (λ vs. is_on vs (act_of t)) top_is ∙ ih s.0 (in_from s.0 bs s.1) up) (λ own. absurd
              (other (nested own))) (on_more (uids_of s.0.path) (act_of c) (act_of t) (ap (λ us. is_on us (act_of t)) (sym s.3) ∙ on))
            where
              inside : tops_of s.0.path ≤ length (uids_of s.0.path)
              inside = omega (arith, s.0.path.within, path_length s.0.path)

              top_is : top_path c.path ≡ top_path s.0.path
              top_is = (λ j. take (s.4 j) (s.3 j)) ∙ take-append-le (tops_of s.0.path) (uids_of s.0.path) (act_of c ∷ []) inside

              nested : act_of c ≡ act_of t → t.kind ≡ kind.Nested
              nested own = ap (λ (d : Action). d.kind) (sym (one_action acts begun c t (sub c (inl refl)) i own)) ∙ is

pub single_ordered : (acts : List Action) → AreBegun acts → (t : Action) → Contains acts t → t.kind ≢ kind.Nested → (e : End) →
    AreOrdered acts [] ((act_of t, e) ∷ [])
single_ordered acts begun t k other e = ((λ is. inl (λ a j on. top_on acts begun t (in_from t acts k) other a (in_from a acts j) on)), tt)

pub abort_ordered : (acts : List Action) (u : Uid) → AreOrdered acts [] ((u, ending.Abort) ∷ [])
abort_ordered acts u = ((λ is. let no_way : ending.Abort ≡ ending.Commit = is in cc), tt)

-- ---- actions at home

pub home_begun : (acts : List Action) (k : Kind) (p : Path) (t : Tree) → actor p ≡ next_uid t → AreAtHome acts t →
    AreAtHome (record { path = p; kind = k } ∷ acts) (begun_by k p t)
home_begun acts k p t its home a u c on own = ⊎_elim (λ same. let w : Action = record { path = p; kind = k } in
    subst (λ (d : Action). (b : Branch) × (branch_of (actor d.path) (begun_by k p t) ≡ Some b) × (b.path ≡ d.path)) same
    (new k p t, ap (λ v. branch_of v (begun_by k p t)) its ∙ new_there k p t, refl)) (λ i. let f = home a u (in_to a acts i) on own in
    (f.0, grown_still k p t (actor a.path) f.0 f.1, f.2)) (in_from a (record { path = p; kind = k } ∷ acts) c)

pub home_others : (a : Action) (acts : List Action) (t : Tree) → ((u : Uid) → is_on (uids_of a.path) u ≡ true → is_own u t ≡ false) →
    AreAtHome acts t → AreAtHome (a ∷ acts) t
home_others a acts t off home b u c on own = ⊎_elim (λ same. never (is_own u t) own
    (off u (ap (λ (d : Action). is_on (uids_of d.path) u) same ∙ on))) (λ i. home b u (in_to b acts i) on own) (in_from b (a ∷ acts) c)

pub home_new : (acts : List Action) (node inc later count : ℕ) → AreCounted node inc count acts → inc < later →
    AreAtHome acts (new_tree node later)
home_new acts node inc later count counted up a u c on own =
    let q = and_parts (u.node == node) (u.inc == later) own in
    let now : u.inc ≡ later = eqb-true u.inc later q.1 in
    ⊎_elim (λ earlier. absurd (omega (arith, earlier, now, up))) (λ here. absurd (omega (arith, here.0, now, up)))
    (counted a u c on (eqb-true u.node node q.0))

pub home_ended : (acts : List Action) (u : Uid) (e : End) (t : Tree) → AreAtHome acts t → AreAtHome acts (ended_at u e t)
home_ended acts u e t home = by (branch_of u t) refl
  where
    by : (o : Option Branch) → branch_of u t ≡ o → AreAtHome acts (ended_branch u e t o)
    by None is a w c on own = home a w c on own
    by (Some b) is a w c on own =
        ⊎_elim at_it (λ other. (f.0, at_others u e t b is (actor a.path) other ∙ f.1, f.2)) (uid_cases (actor a.path) u)
      where
        same_own : (s : Bool) → is_own w (cond s (marked u e t b is) (with_family (root_of b.path) (let g = family_of (root_of b.path)
            (marked u e t b is) in record g { ends = g.ends ++ (u, e) ∷ [] }) (marked u e t b is))) ≡ is_own w t
        same_own true = refl
        same_own false = refl

        f : (d : Branch) × (branch_of (actor a.path) t ≡ Some d) × (d.path ≡ a.path)
        f = home a w c on (sym (same_own (nat_le (length (uids_of b.path)) 1)) ∙ own)

        at_it : actor a.path ≡ u → (d : Branch) × (branch_of (actor a.path) (ended_branch u e t (Some b)) ≡ Some d) × (d.path ≡ a.path)
        at_it same =
            let k : ◌≡◌ {A = Option Branch} (Some b) (Some f.0) = sym is ∙ ap (λ v. branch_of v t) (sym same) ∙ f.1 in
            let one : b ≡ f.0 = cc in (
              record b { ended = Some e },
              ap (λ v. branch_of v (ended_branch u e t (Some b))) same ∙ at_u u e t b is,
              ap (λ (d : Branch). d.path) one ∙ f.2,
            )
