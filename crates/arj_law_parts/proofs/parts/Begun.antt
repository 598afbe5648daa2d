-- The tree that begun actions make, and that a coordinator's next action begins in it.
use Rattle.arj_law_parts.proofs.Words
use Words.{◌≡◌, ◌≢◌, ◌⊎◌, ◌≤◌, ◌<◌, ◌+◌, ℕ, List, [], ◌∷◌, ◌++◌, length, take, Bool, true, false, cond, ◌||◌, Option, Some, None, refl, sym}
use Words.{◌∙◌, ap, subst, inl, inr, ⊎_elim, Contains, arith, or_cases, length-take-le, length-append, take-append-le, before_last}
use Words.{first_uid, last_uid, front, is_on, uid_eq, uid_is, uid_same, uid_other, uid_cases, In, in_from, in_to, heir_is, on_last}
use Words.{on_front, path_is, Uid, Path, Kind, uids_of, tops_of, path_of, actor, top_path, top_of, Branch, Tree, root_of, next_uid}
use Words.{path_below}
use Words.kind
use Rattle.arj_law_parts.proofs.Terms
use Terms.{Action, act_of, action_of, Stands, AreBegun, Agree, AreCounted, MayBegin, Paths, IsTree, IsTop, IsHolder, Fits}
use Rattle.arj_law_parts.specs.parts.Actions.{paths_of, owner_in, owners_of, IsNew, Begins, IsCounted}

never : {P : Type 0} (b : Bool) → b ≡ true → b ≡ false → P
never b holds fails = let no_way : true ≡ false = sym holds ∙ fails in cc

-- ---- paths

pub path_length : (p : Path) → length (uids_of p) ≡ p.len
path_length p = length-take-le p.len p.uids (omega (arith, p.whole, p.most))

pub path_some : (p : Path) → 1 ≤ length (uids_of p)
path_some p = omega (arith, path_length p, p.some)

-- an action is on its own path
pub on_own : (p : Path) → is_on (uids_of p) (actor p) ≡ true
on_own p = on_last (uids_of p) (path_some p)

pub front_more : (us : List Uid) (u : Uid) → front (us ++ u ∷ []) ≡ us
front_more [] u = refl
front_more (w ∷ []) u = refl
front_more (w ∷ v ∷ us) u = ap (λ vs. w ∷ vs) (front_more (v ∷ us) u)

pub last_more : (us : List Uid) (u : Uid) → last_uid (us ++ u ∷ []) ≡ u
last_more [] u = refl
last_more (w ∷ []) u = refl
last_more (w ∷ v ∷ us) u = last_more (v ∷ us) u

pub before_more : (us : List Uid) (u : Uid) → 1 ≤ length us → before_last (us ++ u ∷ []) ≡ Some (last_uid us)
before_more [] u some = absurd (omega (arith, some))
before_more (w ∷ []) u some = refl
before_more (w ∷ v ∷ []) u some = refl
before_more (w ∷ v ∷ x ∷ us) u some = before_more (v ∷ x ∷ us) u (omega arith)

pub before_on : (us : List Uid) (h : Uid) → before_last us ≡ Some h → is_on us h ≡ true
before_on us h parent = let up = heir_is us h parent in on_front us h (ap (is_on (front us)) (sym up.0) ∙ on_last (front us) up.1)

pub on_more : (us : List Uid) (u w : Uid) → is_on (us ++ u ∷ []) w ≡ true → (is_on us w ≡ true) ⊎ (u ≡ w)
on_more [] u w on = ⊎_elim (λ same. inr (uid_is u w same)) (λ none. let no_way : false ≡ true = none in cc) (or_cases (uid_eq u w) false on)
on_more (v ∷ us) u w on = by (uid_eq v w) (on_more us u w) on
  where
    by : (b : Bool) → (is_on (us ++ u ∷ []) w ≡ true → (is_on us w ≡ true) ⊎ (u ≡ w)) → (b || is_on (us ++ u ∷ []) w) ≡ true →
        ((b || is_on us w) ≡ true) ⊎ (u ≡ w)
    by true ih h = inl refl
    by false ih h = ih h

-- ---- the actions that were begun

pub older_new : (u : Uid) (a : Action) (acts : List Action) → IsNew u (a ∷ acts) → IsNew u acts
older_new u a acts new = λ b c. new b (in_to b (a ∷ acts) (inr (in_from b acts c)))

-- a new action isn't an earlier one
apart : (a b : Action) (acts : List Action) → IsNew (act_of a) acts → In b acts → act_of a ≢ act_of b
apart a b acts new i same =
    never (is_on (uids_of b.path) (act_of a)) (ap (is_on (uids_of b.path)) same ∙ on_own b.path) (new b (in_to b acts i))

pub path_found : (acts : List Action) → AreBegun acts → Agree acts (paths_of acts)
path_found [] begun a c = absurd (in_from a [] c)
path_found (b ∷ acts) begun a c = by (in_from a (b ∷ acts) c) (path_found acts begun.1 a)
  where
    by : (b ≡ a) ⊎ In a acts → (Contains acts a → paths_of acts (act_of a) ≡ uids_of a.path) →
        paths_of (b ∷ acts) (act_of a) ≡ uids_of a.path
    by (inl same) ih = subst (λ (d : Action). paths_of (b ∷ acts) (act_of d) ≡ uids_of d.path) same
        (λ i. cond (uid_same (act_of b) i) (uids_of b.path) (paths_of acts (act_of b)))
    by (inr i) ih = (λ j. cond (uid_other (act_of b) (act_of a) (apart b a acts begun.0.new i) j) (uids_of b.path)
        (paths_of acts (act_of a))) ∙ ih (in_to a acts i)

owner_found : (acts : List Action) → AreBegun acts → (a : Action) → In a acts → owners_of acts (act_of a) ≡ owner_in a a.kind
owner_found [] begun a i = absurd i
owner_found (b ∷ acts) begun a (inl same) = subst (λ (d : Action). owners_of (b ∷ acts) (act_of d) ≡ owner_in d d.kind) same
    (λ i. cond (uid_same (act_of b) i) (owner_in b b.kind) (owners_of acts (act_of b)))
owner_found (b ∷ acts) begun a (inr i) = (λ j. cond (uid_other (act_of b) (act_of a) (apart b a acts begun.0.new i) j) (owner_in b b.kind)
    (owners_of acts (act_of a))) ∙ owner_found acts begun.1 a i

-- actions with one Uid are one
pub one_action : (acts : List Action) → AreBegun acts → (a b : Action) → In a acts → In b acts → act_of a ≡ act_of b → a ≡ b
one_action [] begun a b i j same = absurd i
one_action (c ∷ acts) begun a b (inl is) (inl also) same = sym is ∙ also
one_action (c ∷ acts) begun a b (inl is) (inr j) same = absurd (apart c b acts begun.0.new j (ap act_of is ∙ same))
one_action (c ∷ acts) begun a b (inr i) (inl also) same = absurd (apart c a acts begun.0.new i (ap act_of also ∙ sym same))
one_action (c ∷ acts) begun a b (inr i) (inr j) same = one_action acts begun.1 a b i j same

-- a new Uid isn't on the path of another one
off_old : (u : Uid) (acts : List Action) → IsNew u acts → (w : Uid) → w ≢ u → is_on (paths_of acts w) u ≡ false
off_old u [] new w other = λ i. uid_other w u other i || false
off_old u (a ∷ acts) new w other = by (uid_eq (act_of a) w) (off_old u acts (older_new u a acts new) w other)
  where
    by : (b : Bool) → is_on (paths_of acts w) u ≡ false → is_on (cond b (uids_of a.path) (paths_of acts w)) u ≡ false
    by true ih = new a (in_to a (a ∷ acts) (inl refl))
    by false ih = ih

-- ---- where an action stands

more : (a b : Action) (acts : List Action) → Contains acts b → Contains (a ∷ acts) b
more a b acts c = in_to b (a ∷ acts) (inr (in_from b acts c))

still_stands : (c a : Action) (acts : List Action) (k : Kind) → Stands acts a k → Stands (c ∷ acts) a k
still_stands c a acts kind.Nested s = (s.0, more c s.0 acts s.1, s.2, s.3, s.4)
still_stands c a acts kind.Constituent s = (s.0, more c s.0 acts s.1, s.2, s.3, s.4)
still_stands c a acts kind.Top s = s
still_stands c a acts kind.Serial s = s
still_stands c a acts kind.Independent s = s

pub where_stands : (acts : List Action) → AreBegun acts → (a : Action) → In a acts → Stands acts a a.kind
where_stands [] begun a i = absurd i
where_stands (b ∷ acts) begun a (inl same) =
    subst (λ (d : Action). Stands (b ∷ acts) d d.kind) same (still_stands b b acts b.kind begun.0.stands)
where_stands (b ∷ acts) begun a (inr i) = still_stands b a acts a.kind (where_stands acts begun.1 a i)

-- a serializing action stands alone
pub serial_alone : (acts : List Action) → AreBegun acts → (s : Action) → In s acts → s.kind ≡ kind.Serial →
    (uids_of s.path ≡ act_of s ∷ []) × (tops_of s.path ≡ 1)
serial_alone acts begun s i is = subst (Stands acts s) is (where_stands acts begun s i)

-- an action stands alone, or right below an earlier one
parts : (acts : List Action) (a : Action) (k : Kind) → Stands acts a k →
    (uids_of a.path ≡ act_of a ∷ []) ⊎ ((b : Action) × In b acts × (uids_of a.path ≡ uids_of b.path ++ act_of a ∷ []))
parts acts a kind.Nested s = inr (s.0, in_from s.0 acts s.1, s.3)
parts acts a kind.Constituent s = inr (s.0, in_from s.0 acts s.1, s.3)
parts acts a kind.Top s = inl s.0
parts acts a kind.Serial s = inl s.0
parts acts a kind.Independent s = inl s.0

-- ---- the tree

module _ (a : Action) (acts : List Action) (new : Begins a acts) (found : Agree acts (paths_of acts)) (tree : IsTree (paths_of acts)) where
  abbrev after : Paths
  after = paths_of (a ∷ acts)

  at_new : (w : Uid) → w ≡ act_of a → after w ≡ uids_of a.path
  at_new w same = λ i. cond ((ap (uid_eq (act_of a)) same ∙ uid_same (act_of a)) i) (uids_of a.path) (paths_of acts w)

  at_old : (w : Uid) → w ≢ act_of a → after w ≡ paths_of acts w
  at_old w other = λ i. cond (uid_other (act_of a) w (λ same. other (sym same)) i) (uids_of a.path) (paths_of acts w)

  off : (w : Uid) → w ≢ act_of a → is_on (after w) (act_of a) ≡ false
  off w other = ap (λ us. is_on us (act_of a)) (at_old w other) ∙ off_old (act_of a) acts new.new w other

  anti_more : (x y : Uid) → is_on (after x) y ≡ true → is_on (after y) x ≡ true → x ≡ y
  anti_more x y on also = by (uid_cases x (act_of a)) (uid_cases y (act_of a))
    where
      by : (x ≡ act_of a) ⊎ (x ≢ act_of a) → (y ≡ act_of a) ⊎ (y ≢ act_of a) → x ≡ y
      by (inl s) (inl t) = s ∙ sym t
      by (inl s) (inr o) = never (is_on (after y) (act_of a)) (ap (is_on (after y)) (sym s) ∙ also) (off y o)
      by (inr o) (inl t) = never (is_on (after x) (act_of a)) (ap (is_on (after x)) (sym t) ∙ on) (off x o)
      by (inr o) (inr p) = tree.anti x y (ap (λ us. is_on us y) (sym (at_old x o)) ∙ on) (ap (λ us. is_on us x) (sym (at_old y p)) ∙ also)

  heir_more : (u h : Uid) → before_last (after u) ≡ Some h → (front (after u) ≡ after h) × (is_on (front (after u)) u ≡ false)
  heir_more u h parent = by (uid_cases u (act_of a))
    where
      old : u ≢ act_of a → (front (after u) ≡ after h) × (is_on (front (after u)) u ≡ false)
      old other =
          let up : before_last (paths_of acts u) ≡ Some h = ap before_last (sym (at_old u other)) ∙ parent in
          let t = tree.heir u h up in
          let apart_h : h ≢ act_of a = λ same. never (is_on (paths_of acts u) (act_of a))
          (ap (is_on (paths_of acts u)) (sym same) ∙ before_on (paths_of acts u) h up) (off_old (act_of a) acts new.new u other) in
          (ap front (at_old u other) ∙ t.0 ∙ sym (at_old h apart_h), ap (λ us. is_on (front us) u) (at_old u other) ∙ t.1)

      first : u ≡ act_of a → (front (after u) ≡ after h) × (is_on (front (after u)) u ≡ false)
      first same = one (parts acts a a.kind new.stands)
        where
          one : (uids_of a.path ≡ act_of a ∷ []) ⊎ ((b : Action) × In b acts × (uids_of a.path ≡ uids_of b.path ++ act_of a ∷ [])) →
              (front (after u) ≡ after h) × (is_on (front (after u)) u ≡ false)
          one (inl alone) = let no_way : ◌≡◌ {A = Option Uid} None (Some h) = sym (ap before_last (at_new u same ∙ alone)) ∙ parent in cc
          one (inr (b, i, is)) = (
            front_is ∙ sym (found b (in_to b acts i)) ∙ ap (paths_of acts) (sym its) ∙ sym (at_old h apart_h),
            ap (λ us. is_on us u) front_is ∙ ap (is_on (uids_of b.path)) same ∙ new.new b (in_to b acts i),
          )
            where
              whole : after u ≡ uids_of b.path ++ act_of a ∷ []
              whole = at_new u same ∙ is

              front_is : front (after u) ≡ uids_of b.path
              front_is = ap front whole ∙ front_more (uids_of b.path) (act_of a)

              its : h ≡ act_of b
              its = let e : ◌≡◌ {A = Option Uid} (Some h) (Some (act_of b)) = sym parent ∙ ap before_last whole
                  ∙ before_more (uids_of b.path) (act_of a) (path_some b.path) in cc

              apart_h : h ≢ act_of a
              apart_h is_new = apart a b acts new.new i (sym is_new ∙ its)

      by : (u ≡ act_of a) ⊎ (u ≢ act_of a) → (front (after u) ≡ after h) × (is_on (front (after u)) u ≡ false)
      by (inl same) = first same
      by (inr other) = old other

pub begun_tree : (acts : List Action) → AreBegun acts → IsTree (paths_of acts)
begun_tree [] begun = record {
  anti = λ a b on also. ⊎_elim (λ same. uid_is a b same) (λ none. let no_way : false ≡ true = none in cc) (or_cases (uid_eq a b) false on);
  heir = λ u h parent. let no_way : ◌≡◌ {A = Option Uid} None (Some h) = parent in cc;
}
begun_tree (a ∷ acts) begun = record {
  anti = anti_more a acts begun.0 (path_found acts begun.1) (begun_tree acts begun.1);
  heir = heir_more a acts begun.0 (path_found acts begun.1) (begun_tree acts begun.1);
}

pub agree_less : (a : Action) (acts : List Action) (paths : Paths) → Agree (a ∷ acts) paths → Agree acts paths
agree_less a acts paths agree = λ b c. agree b (more a b acts c)

-- ---- tops and owners

-- the top of an action: alone, or right below a serializing action
record HasTop (acts : List Action) (a : Action) : Type 0 where
  top : Action
  there : In top acts
  path : top_path a.path ≡ uids_of top.path
  unserial : top.kind ≢ kind.Serial
  owned : ((uids_of top.path ≡ act_of top ∷ []) × (owner_in top top.kind ≡ act_of top)) ⊎ ((s : Action) × In s acts × (s.kind ≡ kind.Serial)
      × (uids_of top.path ≡ act_of s ∷ act_of top ∷ []) × (top.kind ≡ kind.Constituent))

top_still : (c : Action) (acts : List Action) (a : Action) → HasTop acts a → HasTop (c ∷ acts) a
top_still c acts a h = record { top = h.top; there = inr h.there; path = h.path; unserial = h.unserial; owned = by h.owned }
  where
    by : ((uids_of h.top.path ≡ act_of h.top ∷ []) × (owner_in h.top h.top.kind ≡ act_of h.top)) ⊎ ((s : Action) × In s acts
        × (s.kind ≡ kind.Serial) × (uids_of h.top.path ≡ act_of s ∷ act_of h.top ∷ []) × (h.top.kind ≡ kind.Constituent))
        → ((uids_of h.top.path ≡ act_of h.top ∷ []) × (owner_in h.top h.top.kind ≡ act_of h.top)) ⊎ ((s : Action) × In s (c ∷ acts)
        × (s.kind ≡ kind.Serial) × (uids_of h.top.path ≡ act_of s ∷ act_of h.top ∷ []) × (h.top.kind ≡ kind.Constituent))
    by (inl alone) = inl alone
    by (inr (s, i, is, path, top)) = inr (s, inr i, is, path, top)

pub whole_top : (p : Path) (us : List Uid) → uids_of p ≡ us → tops_of p ≡ length us → top_path p ≡ uids_of p
whole_top p us is tops = (λ i. take (tops i) (is i)) ∙ take_all us ∙ sym is
  where
    take_all : (vs : List Uid) → take (length vs) vs ≡ vs
    take_all [] = refl
    take_all (v ∷ vs) = ap (λ ws. v ∷ ws) (take_all vs)

has_top : (acts : List Action) → AreBegun acts → (a : Action) → In a acts → a.kind ≢ kind.Serial → HasTop acts a
has_top [] begun a i unserial = absurd i
has_top (c ∷ acts) begun a (inr i) unserial = top_still c acts a (has_top acts begun.1 a i unserial)
has_top (c ∷ acts) begun a (inl same) unserial = subst (HasTop (c ∷ acts)) same (by c.kind refl begun.0.stands (has_top acts begun.1))
  where
    is_other : c.kind ≢ kind.Serial
    is_other is = unserial (ap (λ (d : Action). d.kind) (sym same) ∙ is)

    alone : (k : Kind) → c.kind ≡ k → owner_in c k ≡ act_of c → (uids_of c.path ≡ act_of c ∷ []) × (tops_of c.path ≡ 1) →
        HasTop (c ∷ acts) c
    alone k is own s = record {
      top = c;
      there = inl refl;
      path = whole_top c.path (act_of c ∷ []) s.0 s.1;
      unserial = is_other;
      owned = inl (s.0, ap (owner_in c) is ∙ own);
    }

    by : (k : Kind) → c.kind ≡ k → Stands acts c k → ((b : Action) → In b acts → b.kind ≢ kind.Serial → HasTop acts b) → HasTop (c ∷ acts) c
    by kind.Top is s ih = alone kind.Top is refl s
    by kind.Independent is s ih = alone kind.Independent is refl s
    by kind.Serial is s ih = absurd (is_other is)
    by kind.Nested is s ih =
        let h = ih s.0 (in_from s.0 acts s.1) s.2 in
        let inside : tops_of s.0.path ≤ length (uids_of s.0.path) = omega (arith, s.0.path.within, path_length s.0.path) in
        top_still c acts c (record {
          top = h.top;
          there = h.there;
          path = (λ j. take (s.4 j) (s.3 j)) ∙ take-append-le (tops_of s.0.path) (uids_of s.0.path) (act_of c ∷ []) inside ∙ h.path;
          unserial = h.unserial;
          owned = h.owned;
        })
    by kind.Constituent is s ih =
        let up = serial_alone acts begun.1 s.0 (in_from s.0 acts s.1) s.2 in
        let path : uids_of c.path ≡ act_of s.0 ∷ act_of c ∷ [] = s.3 ∙ ap (λ us. us ++ act_of c ∷ []) up.0 in
        record {
          top = c;
          there = inl refl;
          path = whole_top c.path (act_of s.0 ∷ act_of c ∷ []) path s.4;
          unserial = is_other;
          owned = inr (s.0, inr (in_from s.0 acts s.1), s.2, path, is);
        }

-- whoever has an owner other than itself is a constituent
owner_cases : (acts : List Action) (u : Uid) →
    (owners_of acts u ≡ u) ⊎ ((a : Action) × In a acts × (a.kind ≡ kind.Constituent) × (act_of a ≡ u) × (owners_of acts u ≡ root_of a.path))
owner_cases [] u = inl refl
owner_cases (a ∷ acts) u = by (uid_eq (act_of a) u) refl (owner_cases acts u)
  where
    Cases : Bool → Type 0
    Cases b = (cond b (owner_in a a.kind) (owners_of acts u) ≡ u) ⊎ ((d : Action) × In d (a ∷ acts) × (d.kind ≡ kind.Constituent)
        × (act_of d ≡ u) × (cond b (owner_in a a.kind) (owners_of acts u) ≡ root_of d.path))

    own : (k : Kind) → a.kind ≡ k → act_of a ≡ u → Cases true
    own kind.Constituent is same = inr (a, inl refl, is, same, ap (owner_in a) is)
    own kind.Nested is same = inl (ap (owner_in a) is ∙ same)
    own kind.Top is same = inl (ap (owner_in a) is ∙ same)
    own kind.Serial is same = inl (ap (owner_in a) is ∙ same)
    own kind.Independent is same = inl (ap (owner_in a) is ∙ same)

    by : (b : Bool) → uid_eq (act_of a) u ≡ b → (owners_of acts u ≡ u)
        ⊎ ((d : Action) × In d acts × (d.kind ≡ kind.Constituent) × (act_of d ≡ u) × (owners_of acts u ≡ root_of d.path)) → Cases b
    by true same ih = own a.kind refl (uid_is (act_of a) u same)
    by false other (inl ih) = inl ih
    by false other (inr (d, i, is, same, e)) = inr (d, inr i, is, same, e)

-- the root of a constituent is a serializing action
constituent_root : (acts : List Action) → AreBegun acts → (a : Action) → In a acts → a.kind ≡ kind.Constituent →
    (s : Action) × In s acts × (s.kind ≡ kind.Serial) × (root_of a.path ≡ act_of s)
constituent_root acts begun a i is =
    let s : Stands acts a kind.Constituent = subst (Stands acts a) is (where_stands acts begun a i) in
    let up = serial_alone acts begun s.0 (in_from s.0 acts s.1) s.2 in
    (s.0, in_from s.0 acts s.1, s.2, ap first_uid (s.3 ∙ ap (λ us. us ++ act_of a ∷ []) up.0))

pub begun_fits : (acts : List Action) → AreBegun acts → (a : Action) → Contains acts a → a.kind ≢ kind.Serial → Fits (owners_of acts) a.path
begun_fits acts begun a c unserial = by h.owned
  where
    h : HasTop acts a
    h = has_top acts begun a (in_from a acts c) unserial

    top_is : top_of a.path ≡ act_of h.top
    top_is = ap last_uid h.path

    only : IsTop (owners_of acts) (act_of h.top)
    only u is = one (owner_cases acts u)
      where
        one : (owners_of acts u ≡ u) ⊎ ((d : Action) × In d acts × (d.kind ≡ kind.Constituent) × (act_of d ≡ u)
            × (owners_of acts u ≡ root_of d.path)) → u ≡ act_of h.top
        one (inl own) = sym own ∙ is
        one (inr (d, i, also, same, e)) =
            let r = constituent_root acts begun d i also in
            absurd (h.unserial (ap (λ (b : Action). b.kind) (one_action acts begun h.top r.0 h.there r.1 (sym is ∙ e ∙ r.3)) ∙ r.2))

    with : (us : List Uid) → top_path a.path ≡ us → IsHolder (owners_of acts) us → is_on us (owners_of acts (act_of h.top)) ≡ true →
        Fits (owners_of acts) a.path
    with us path holder owned = record {
      holder = subst (IsHolder (owners_of acts)) (sym path) holder;
      top = subst (IsTop (owners_of acts)) (sym top_is) only;
      owned = (λ i. is_on (path i) (owners_of acts (top_is i))) ∙ owned;
    }

    by : ((uids_of h.top.path ≡ act_of h.top ∷ []) × (owner_in h.top h.top.kind ≡ act_of h.top)) ⊎ ((s : Action) × In s acts × (s.kind ≡
        kind.Serial) × (uids_of h.top.path ≡ act_of s ∷ act_of h.top ∷ []) × (h.top.kind ≡ kind.Constituent)) → Fits (owners_of acts) a.path
    by (inl alone) = with (act_of h.top ∷ []) (h.path ∙ alone.0) (inl refl)
        (ap (is_on (act_of h.top ∷ [])) (owner_found acts begun h.top h.there ∙ alone.1) ∙ on_last (act_of h.top ∷ []) (omega arith))
    by (inr (s, i, serial, path, constituent)) = with (act_of s ∷ act_of h.top ∷ []) (h.path ∙ path) (inr (
      ap (λ u. u ∷ act_of h.top ∷ []) (sym owner_is),
      ap (λ u. uid_eq u (act_of h.top)) owner_is ∙ uid_other (act_of s) (act_of h.top) other,
    )) (ap (is_on (act_of s ∷ act_of h.top ∷ [])) owner_is ∙ (λ j. uid_same (act_of s) j || is_on (act_of h.top ∷ []) (act_of s)))
      where
        owner_is : owners_of acts (act_of h.top) ≡ act_of s
        owner_is = owner_found acts begun h.top h.there ∙ ap (owner_in h.top) constituent ∙ ap first_uid path

        other : act_of s ≢ act_of h.top
        other same = h.unserial (ap (λ (b : Action). b.kind) (sym (one_action acts begun s h.top i h.there same)) ∙ serial)

-- ---- a coordinator's next action

pub next_new : (t : Tree) (acts : List Action) → AreCounted t.node t.inc (length t.branches) acts → IsNew (next_uid t) acts
next_new t acts counted a c = by (is_on (uids_of a.path) (next_uid t)) refl
  where
    by : (b : Bool) → is_on (uids_of a.path) (next_uid t) ≡ b → b ≡ false
    by false is = refl
    by true is =
        ⊎_elim (λ earlier. absurd (omega (arith, earlier))) (λ now. absurd (omega (arith, now.1))) (counted a (next_uid t) c is refl)

pub begins_in_tree : (acts : List Action) → AreBegun acts → (k : Kind) (parent : Option Branch) (t : Tree) → AreCounted t.node t.inc
    (length t.branches) acts → MayBegin acts k parent → Begins (record { path = path_below k parent (next_uid t); kind = k }) acts
begins_in_tree acts begun k parent t counted may = by k parent may
  where
    u : Uid
    u = next_uid t

    fresh : IsNew u acts
    fresh = next_new t acts counted

    begins : (k' : Kind) (p : Path) → actor p ≡ u → Stands acts (record { path = p; kind = k' }) k' →
        Begins (record { path = p; kind = k' }) acts
    begins k' p is stands = record { new = subst (λ w. IsNew w acts) (sym is) fresh; stands = stands }

    root : (k' : Kind) → ((a : Action) → (uids_of a.path ≡ act_of a ∷ []) × (tops_of a.path ≡ 1) → Stands acts a k') →
        Begins (record { path = path_of (u ∷ []) 1; kind = k' }) acts
    root k' to =
        let m = path_is (u ∷ []) 1 (omega arith) (omega arith) (omega arith) (omega arith) (omega arith) in
        let is : actor (path_of (u ∷ []) 1) ≡ u = ap last_uid m.has in
        begins k' (path_of (u ∷ []) 1) is
        (to (record { path = path_of (u ∷ []) 1; kind = k' }) (m.has ∙ ap (λ w. w ∷ []) (sym is), m.ends_with))

    longer : (us : List Uid) → length (us ++ u ∷ []) ≡ length us + 1
    longer us = length-append us (u ∷ [])

    by : (k' : Kind) (o : Option Branch) → MayBegin acts k' o → Begins (record { path = path_below k' o u; kind = k' }) acts
    by kind.Nested None m = absurd m
    by kind.Nested (Some b) m =
        let us : List Uid = uids_of b.path in
        let tops : ℕ = tops_of b.path in
        let p : Path = path_of (us ++ u ∷ []) tops in
        let long = longer us in
        let made = path_is (us ++ u ∷ []) tops (omega (arith, long)) (omega (arith, long, m.2)) b.path.one_top b.path.two_tops
        (omega (arith, long, b.path.within, path_length b.path)) in
        let is : actor p ≡ u = ap last_uid made.has ∙ last_more us u in
        begins kind.Nested p is (action_of b, m.0, m.1, made.has ∙ ap (λ w. us ++ w ∷ []) (sym is), made.ends_with)
    by kind.Constituent None m = absurd m
    by kind.Constituent (Some b) m =
        let up = serial_alone acts begun (action_of b) (in_from (action_of b) acts m.0) m.1 in
        let us : List Uid = uids_of b.path in
        let p : Path = path_of (us ++ u ∷ []) 2 in
        let long : length (us ++ u ∷ []) ≡ 2 = longer us ∙ ap (λ vs. length vs + 1) up.0 in
        let made = path_is (us ++ u ∷ []) 2 (omega (arith, long)) (omega (arith, long)) (omega arith) (omega arith) (omega (arith, long)) in
        let is : actor p ≡ u = ap last_uid made.has ∙ last_more us u in
        begins kind.Constituent p is (action_of b, m.0, m.1, made.has ∙ ap (λ w. us ++ w ∷ []) (sym is), made.ends_with)
    by kind.Top None m = root kind.Top (λ a s. s)
    by kind.Top (Some b) m = root kind.Top (λ a s. s)
    by kind.Serial None m = root kind.Serial (λ a s. s)
    by kind.Serial (Some b) m = root kind.Serial (λ a s. s)
    by kind.Independent None m = root kind.Independent (λ a s. s)
    by kind.Independent (Some b) m = root kind.Independent (λ a s. s)

-- ---- counting

pub counted_more : (node inc count more_now : ℕ) (a : Action) (acts : List Action) → AreCounted node inc count acts → Begins a acts →
    count ≤ more_now → IsCounted node inc more_now (act_of a) → AreCounted node inc more_now (a ∷ acts)
counted_more node inc count more_now a acts counted begins up its b w c on here = by (in_from b (a ∷ acts) c)
  where
    old : (d : Action) → In d acts → is_on (uids_of d.path) w ≡ true → (w.inc < inc) ⊎ ((w.inc ≡ inc) × (w.num ≤ more_now))
    old d i is = ⊎_elim (λ earlier. inl earlier) (λ now. inr (now.0, omega (arith, now.1, up))) (counted d w (in_to d acts i) is here)

    own : act_of a ≡ w → (w.inc < inc) ⊎ ((w.inc ≡ inc) × (w.num ≤ more_now))
    own same = subst (IsCounted node inc more_now) same its here

    new : is_on (uids_of a.path) w ≡ true → (uids_of a.path ≡ act_of a ∷ []) ⊎ ((d : Action) × In d acts
        × (uids_of a.path ≡ uids_of d.path ++ act_of a ∷ [])) → (w.inc < inc) ⊎ ((w.inc ≡ inc) × (w.num ≤ more_now))
    new is (inl alone) =
        ⊎_elim (λ none. let no_way : false ≡ true = none in cc) own (on_more [] (act_of a) w (ap (λ us. is_on us w) (sym alone) ∙ is))
    new is (inr (d, i, path)) = ⊎_elim (old d i) own (on_more (uids_of d.path) (act_of a) w (ap (λ us. is_on us w) (sym path) ∙ is))

    by : (a ≡ b) ⊎ In b acts → (w.inc < inc) ⊎ ((w.inc ≡ inc) × (w.num ≤ more_now))
    by (inl same) = new (ap (λ (d : Action). is_on (uids_of d.path) w) same ∙ on) (parts acts a a.kind begins.stands)
    by (inr i) = old b i on

pub counted_anew : (node inc later count : ℕ) (acts : List Action) → AreCounted node inc count acts → inc < later →
    AreCounted node later 0 acts
counted_anew node inc later count acts counted up a u c on here =
    ⊎_elim (λ earlier. inl (omega (arith, earlier, up))) (λ now. inl (omega (arith, now.0, up))) (counted a u c on here)
