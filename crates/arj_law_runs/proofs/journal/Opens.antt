-- Open actions: those below one of them are open too, and each is none of the others.
use Rattle.arj_law_parts.proofs.Words
use Words.{◌≡◌, ◌≢◌, ◌<◌, arith, ℕ, suc, ◌+◌, ◌==◌, ◌&&◌, not, List, [], ◌∷◌, ◌++◌, Bool, true, false, cond, filter, slice_get, Option}
use Words.{Some, None, refl, sym, ◌∙◌, ap, subst, inl, inr, is_some, AllByRecursion, and_parts, uid_same, is_on, uid_eq, In, in_filter}
use Words.{actor, Coord, Doing, Idle, change_doing, doing_of, ended, Branch, Tree, at_place, branch_of, ended_at, ended_branch}
use Words.{is_open_below, latest_first, open_below, End, Uid, uids_of}
use Rattle.arj_law_runs.proofs.Terms.{is_below, on_tree, at_others, placed, doing_other, end_tree_on}

-- an open action at work, of this node
pub record IsAtWork (k : ℕ) (c : Coord) (u : Uid) : Type 0 where
  pub branch : Branch
  pub doing : Doing
  pub found : branch_of u c.tree ≡ Some branch
  pub opened : branch.ended ≡ None
  pub does : doing_of u c ≡ Some doing
  pub here : u.node ≡ k

pub none_of : (o : Option End) → is_some o ≡ false → o ≡ None
none_of None is = refl
none_of (Some e) is = absurd (cc is)

-- another one that is at work stays so
still_at_work : (k : ℕ) (c : Coord) (u w : Uid) (e : End) → IsAtWork k c u → w ≢ u → IsAtWork k c w → IsAtWork k (ended u e c) w
still_at_work k c u w e it other a = record {
  branch = a.branch;
  doing = a.doing;
  found = ap (branch_of w) (on_tree u f mid ∙ ap (λ o. ended_branch u e c.tree o) it.found)
      ∙ at_others u e c.tree it.branch it.found w other ∙ a.found;
  opened = a.opened;
  does = by (doing_of u mid) refl ∙ same ∙ a.does;
  here = a.here;
}
  where
    f : Doing → Doing
    f d = record d { now = Idle }

    mid : Coord
    mid = record c { tree = ended_at u e c.tree }

    same : doing_of w mid ≡ doing_of w c
    same = let g = end_tree_on u e c in λ i. cond (g.own w i) (at_place w.num c.doings) None

    by : (o : Option Doing) → doing_of u mid ≡ o → doing_of w (change_doing f u mid o) ≡ doing_of w mid
    by None none = refl
    by (Some d) there = doing_other u w (f d) d mid there other

-- each is none of those behind it
abbrev pub AreApart : List Uid → Type 0
AreApart [] = Unit {0}
AreApart (u ∷ us) = AllByRecursion (λ w. w ≢ u) us × AreApart us

pub all_still : (k : ℕ) (c : Coord) (u : Uid) (e : End) (us : List Uid) → IsAtWork k c u → AllByRecursion (λ w. w ≢ u) us →
    AllByRecursion (IsAtWork k c) us → AllByRecursion (IsAtWork k (ended u e c)) us
all_still k c u e [] it apart opened = tt
all_still k c u e (w ∷ us) it apart opened = (still_at_work k c u w e it apart.0 opened.0, all_still k c u e us it apart.1 opened.1)

-- the numbers of branches follow one another
abbrev AreNumbered : ℕ → List Branch → Type 0
AreNumbered k [] = Unit {0}
AreNumbered k (b ∷ bs) = ((actor b.path).num ≡ k) × AreNumbered (suc k) bs

all_behind : (P : Uid → Type 0) (us : List Uid) (u : Uid) → AllByRecursion P us → P u → AllByRecursion P (us ++ u ∷ [])
all_behind P [] u all its = (its, tt)
all_behind P (w ∷ us) u all its = (all.0, all_behind P us u all.1 its)

apart_behind : (us : List Uid) (u : Uid) → AreApart us → AllByRecursion (λ w. w ≢ u) us → AreApart (us ++ u ∷ [])
apart_behind [] u apart others = (tt, tt)
apart_behind (w ∷ us) u apart others =
    (all_behind (λ x. x ≢ w) us u apart.0 (λ same. others.0 (sym same)), apart_behind us u apart.1 others.1)

is_off : (x : Bool) → not x ≡ true → x ≡ false
is_off true isnt = absurd (cc isnt)
is_off false isnt = refl

module _ (u : Uid) where
  lower_not : (k : ℕ) (v : Uid) (us : List Uid) → v.num ≡ k → AllByRecursion (λ (w : Uid). w.num < k) us → AllByRecursion (λ w. w ≢ v) us
  lower_not k v [] num all = tt
  lower_not k v (w ∷ us) num all = (λ same. omega (arith, all.0, num, ap (λ (x : Uid). x.num) same), lower_not k v us num all.1)

  lower_more : (k : ℕ) (us : List Uid) → AllByRecursion (λ (w : Uid). w.num < k) us → AllByRecursion (λ (w : Uid). w.num < suc k) us
  lower_more k [] all = tt
  lower_more k (w ∷ us) all = (omega (arith, all.0), lower_more k us all.1)

  found_apart : (k : ℕ) (bs : List Branch) (found : List Uid) → AreNumbered k bs → AllByRecursion (λ (w : Uid). w.num < k) found →
      AreApart found → AreApart (latest_first (filter (is_open_below u) bs) found)
  found_apart k [] found numbers below apart = apart
  found_apart k (b ∷ bs) found numbers below apart = by (is_open_below u b) (λ more. found_apart (suc k) bs more numbers.1)
    where
      by : (x : Bool) → ((more : List Uid) → AllByRecursion (λ (w : Uid). w.num < suc k) more → AreApart more →
          AreApart (latest_first (filter (is_open_below u) bs) more)) →
          AreApart (latest_first (cond x (b ∷ filter (is_open_below u) bs) (filter (is_open_below u) bs)) found)
      by true rest = rest (actor b.path ∷ found) (omega (arith, numbers.0), lower_more k found below)
          (lower_not k (actor b.path) found numbers.0 below, apart)
      by false rest = rest found (lower_more k found below) apart

  -- what holds of each that is found
  found_all : (P : Uid → Type 0) (bs : List Branch) (found : List Uid) → ((b : Branch) → In b bs → P (actor b.path)) →
      AllByRecursion P found → AllByRecursion P (latest_first bs found)
  found_all P [] found each all = all
  found_all P (b ∷ bs) found each all = found_all P bs (actor b.path ∷ found) (λ c i. each c (inr i)) (each b (inl refl), all)

-- where each branch stands at the place of its action
module _ (t : Tree) (places : (v : Uid) (b : Branch) → branch_of v t ≡ Some b → actor b.path ≡ v) where
  own_at : (k : ℕ) (b : Branch) → at_place k t.branches ≡ Some b →
      (let v : Uid = record { node = t.node; inc = t.inc; num = k } in branch_of v t) ≡ Some b
  own_at k b at = (λ i. cond (itself t.node i && itself t.inc i) (at_place k t.branches) None) ∙ at
    where
      itself : (n : ℕ) → (n == n) ≡ true
      itself n = grind arith

  numbered : (bs : List Branch) (k : ℕ) → ((i : ℕ) (b : Branch) → slice_get bs i ≡ Some b → at_place (k + i) t.branches ≡ Some b) →
      AreNumbered k bs
  numbered [] k at = tt
  numbered (b ∷ bs) k at =
      let here : k + 0 ≡ k = omega arith in (
        ap (λ (w : Uid). w.num) (places (record { node = t.node; inc = t.inc; num = k }) b
            (own_at k b (subst (λ n. at_place n t.branches ≡ Some b) here (at 0 b refl)))),
        numbered bs (suc k) (λ i c is. let next : k + suc i ≡ suc k + i = omega arith in
            subst (λ n. at_place n t.branches ≡ Some c) next (at (suc i) c is)),
      )

  -- an open branch below another action
  open_at : (u : Uid) (b : Branch) → In b (filter (is_open_below u) t.branches) →
      (branch_of (actor b.path) t ≡ Some b) × (is_some b.ended ≡ false) × (actor b.path ≢ u)
  open_at u b i =
      let f = in_filter (is_open_below u) b t.branches i in
      let p = placed b t.branches f.0 in
      let v : Uid = record { node = t.node; inc = t.inc; num = p.0 } in
      let found = own_at p.0 b p.1 in
      let q = and_parts (is_below u b) (not (is_some b.ended)) f.1 in
      (subst (λ w. branch_of w t ≡ Some b) (sym (places v b found)) found, is_off (is_some b.ended) q.1, other q.0)
    where
      other : is_below u b ≡ true → actor b.path ≢ u
      other below same =
          let isnt = (and_parts (is_on (uids_of b.path) u) (not (uid_eq (actor b.path) u)) below).1 in
          let no_way : false ≡ true = sym (λ i. not ((ap (λ w. uid_eq w u) same ∙ uid_same u) i)) ∙ isnt in
          cc

  -- what holds of open actions holds of what is open below one, and then of this one; and each is none of the others
  pub below_all : (P : Uid → Type 0) (u : Uid) → ((w : Uid) (b : Branch) → branch_of w t ≡ Some b → is_some b.ended ≡ false → P w) → P u →
      AllByRecursion P (open_below u t ++ u ∷ [])
  below_all P u each its = all_behind P (open_below u t) u
      (found_all u P (filter (is_open_below u) t.branches) [] (λ b i. let o = open_at u b i in each (actor b.path) b o.0 o.1) tt) its

  pub below_apart : (u : Uid) → AreApart (open_below u t ++ u ∷ [])
  below_apart u = apart_behind (open_below u t) u (found_apart u 1 t.branches [] all_numbered tt tt)
      (found_all u (λ w. w ≢ u) (filter (is_open_below u) t.branches) [] (λ b i. let o = open_at u b i in o.2) tt)
    where
      all_numbered : AreNumbered 1 t.branches
      all_numbered =
          numbered t.branches 1 (λ i b is. let first : suc i ≡ 1 + i = omega arith in subst (λ n. at_place n t.branches ≡ Some b) first is)
