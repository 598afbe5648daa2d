-- Tops of paths: one top stands on a path, its root begins it, and where an action is a coordinator's own, those above it are there.
use Rattle.arj_law_parts.proofs.Words
use Words.{◌≡◌, ◌≢◌, ◌∙◌, ◌≤◌, ◌++◌, ◌||◌, ℕ, zero, suc, Bool, true, false, List, [], ◌∷◌, length, take, Some, refl, sym, ap, subst, inl}
use Words.{inr, ⊎_elim, arith, Contains, or_cases, uid_cases, uid_is, uid_same, In, in_from, Kind, Path, Uid, is_on, last_uid, tops_of}
use Words.{uid_eq, uids_of, top_of, top_path, Branch, Tree, branch_of}
use Words.kind
use Rattle.arj_law_lock_view.proofs.Terms
use Terms.{Action, AreBegun, Stands, act_of, owners_of, IsTree, Paths, IsAsker, Fits, IsHolder, HasLists, begun_fits, on_more, one_action}
use Terms.{path_length, path_some, serial_alone, above_of, shorter}
use Rattle.std.proofs.Math.Seq.{take-append-le}

-- ---- one top on a path

alone_is : (u v : Uid) → is_on (v ∷ []) u ≡ true → v ≡ u
alone_is u v on = ⊎_elim (λ same. uid_is v u same) (λ none. absurd (cc none)) (or_cases (uid_eq v u) false on)

module _ (u : Uid) where
  -- an action of this Uid is a top
  abbrev IsUpper : List Action → Type 0
  IsUpper acts = (c : Action) → In c acts → act_of c ≡ u → (c.kind ≢ kind.Nested) × (c.kind ≢ kind.Serial)

  one_top : (acts : List Action) → AreBegun acts → IsUpper acts → (a : Action) → In a acts → is_on (uids_of a.path) u ≡ true →
      top_of a.path ≡ u
  one_top [] begun upper a none on = absurd none
  one_top (b ∷ acts) begun upper a (inr old) on = one_top acts begun.1 (λ c i. upper c (inr i)) a old on
  one_top (b ∷ acts) begun upper a (inl same) on = subst (λ (x : Action). top_of x.path ≡ u) same (by b.kind refl (ap
      (λ (x : Action). is_on (uids_of x.path) u) same ∙ on) begun.0.stands (λ c i o. one_top acts begun.1 (λ d j. upper d (inr j)) c i o))
    where
      own : uids_of b.path ≡ act_of b ∷ [] → is_on (uids_of b.path) u ≡ true → act_of b ≡ u
      own is on = alone_is u (act_of b) (ap (λ us. is_on us u) (sym is) ∙ on)

      alone : (uids_of b.path ≡ act_of b ∷ []) × (tops_of b.path ≡ 1) → is_on (uids_of b.path) u ≡ true → top_of b.path ≡ u
      alone s on = (λ j. last_uid (take (s.1 j) (s.0 j))) ∙ own s.0 on

      by : (k : Kind) → b.kind ≡ k → is_on (uids_of b.path) u ≡ true → Stands acts b k →
          ((c : Action) → In c acts → is_on (uids_of c.path) u ≡ true → top_of c.path ≡ u) → top_of b.path ≡ u
      by kind.Top is on s older = alone s on
      by kind.Independent is on s older = alone s on
      by kind.Serial is on s older = absurd ((upper b (inl refl) (own s.0 on)).1 is)
      by kind.Nested is on s older = ⊎_elim
          (λ above. (λ j. last_uid (take (s.4 j) (s.3 j))) ∙ ap last_uid
          (take-append-le (tops_of s.0.path) (uids_of s.0.path) (act_of b ∷ []) inside) ∙ older s.0 (in_from s.0 acts s.1) above)
          (λ its. absurd ((upper b (inl refl) its).0 is))
          (on_more (uids_of s.0.path) (act_of b) u (ap (λ us. is_on us u) (sym s.3) ∙ on))
        where
          inside : tops_of s.0.path ≤ length (uids_of s.0.path)
          inside = omega (arith, s.0.path.within, path_length s.0.path)
      by kind.Constituent is on s older = ⊎_elim
          (λ first. absurd ((upper s.0 (inr (in_from s.0 acts s.1)) (uid_is (act_of s.0) u first)).1 s.2))
          (λ rest. (λ j. last_uid (take (s.4 j) (path j))) ∙ alone_is u (act_of b) rest)
          (or_cases (uid_eq (act_of s.0) u) (is_on (act_of b ∷ []) u) (ap (λ us. is_on us u) (sym path) ∙ on))
        where
          path : uids_of b.path ≡ act_of s.0 ∷ act_of b ∷ []
          path = s.3 ∙ ap (λ us. us ++ act_of b ∷ []) (serial_alone acts begun.1 s.0 (in_from s.0 acts s.1) s.2).0

-- an action that isn't nested or serializing is the top of each path that it stands on, its own among them
pub top_on : (acts : List Action) → AreBegun acts → (c : Action) → Contains acts c → c.kind ≢ kind.Nested → c.kind ≢ kind.Serial →
    (a : Action) → Contains acts a → is_on (uids_of a.path) (act_of c) ≡ true → top_of a.path ≡ act_of c
top_on acts begun c there unnested plain a also on =
    one_top (act_of c) acts begun (λ d i same. let e = one_action acts begun d c i (in_from c acts there) same in
    ((λ is. unnested (ap (λ (z : Action). z.kind) (sym e) ∙ is)), λ is. plain (ap (λ (z : Action). z.kind) (sym e) ∙ is))) a
    (in_from a acts also) on

-- ---- roots of paths

on_taken : (n : ℕ) (us : List Uid) (u : Uid) → is_on (take n us) u ≡ true → is_on us u ≡ true
on_taken zero us u on = absurd (cc on)
on_taken (suc n) [] u on = on
on_taken (suc n) (v ∷ us) u on = by (uid_eq v u) on (on_taken n us u)
  where
    by : (b : Bool) → (b || is_on (take n us) u) ≡ true → (is_on (take n us) u ≡ true → is_on us u ≡ true) → (b || is_on us u) ≡ true
    by true h ih = refl
    by false h ih = ih h

asker_fits : (acts : List Action) → AreBegun acts → (p : Path) → IsAsker acts p → Fits (owners_of acts) p
asker_fits acts begun p who = subst (Fits (owners_of acts)) who.2 (begun_fits acts begun who.0 who.1 who.3)

-- a path has its top
last_taken : (n : ℕ) (us : List Uid) → 1 ≤ n → 1 ≤ length us → is_on us (last_uid (take n us)) ≡ true
last_taken n [] one some = absurd (let q : 1 ≤ 0 = some in omega (arith, q))
last_taken zero (u ∷ us) one some = absurd (let q : 1 ≤ 0 = one in omega (arith, q))
last_taken (suc zero) (u ∷ us) one some = λ i. uid_same u i || is_on us u
last_taken (suc (suc n)) (u ∷ []) one some = λ i. uid_same u i || false
last_taken (suc (suc n)) (u ∷ v ∷ us) one some =
    second (uid_eq u (last_uid (take (suc n) (v ∷ us)))) (last_taken (suc n) (v ∷ us) (omega arith) (more us))
  where
    second : (b : Bool) {c : Bool} → c ≡ true → (b || c) ≡ true
    second true h = refl
    second false h = h

    more : (ws : List Uid) → 1 ≤ length (v ∷ ws)
    more ws = omega arith

pub top_on_path : (p : Path) → is_on (uids_of p) (top_of p) ≡ true
top_on_path p = last_taken (tops_of p) (uids_of p) p.one_top (path_some p)

-- the path of one who asks has its top, and so have its tops
pub top_among : (acts : List Action) → AreBegun acts → (p : Path) → IsAsker acts p → is_on (top_path p) (top_of p) ≡ true
top_among acts begun p who = by (let f = asker_fits acts begun p who in f.holder)
  where
    by : IsHolder (owners_of acts) (top_path p) → is_on (top_path p) (top_of p) ≡ true
    by (inl alone) = ap (λ us. is_on us (top_of p)) alone ∙ (λ i. uid_same (top_of p) i || false)
    by (inr behind) = ap (λ us. is_on us (top_of p)) behind.0
        ∙ second (uid_eq (owners_of acts (top_of p)) (top_of p)) (λ i. uid_same (top_of p) i || false)
      where
        second : (b : Bool) {c : Bool} → c ≡ true → (b || c) ≡ true
        second true h = refl
        second false h = h

pub top_there : (acts : List Action) → AreBegun acts → (p : Path) → IsAsker acts p → is_on (uids_of p) (top_of p) ≡ true
top_there acts begun p who = on_taken (tops_of p) (uids_of p) (top_of p) (top_among acts begun p who)

-- ---- those above an action are there

pub above_there : (paths : Paths) → IsTree paths → (t : Tree) → HasLists paths t → (u : Uid) (n : ℕ) (w : Uid) (b : Branch) →
    length (paths w) ≤ n → branch_of w t ≡ Some b → is_on (paths w) u ≡ true → (q : Branch) × (branch_of u t ≡ Some q)
above_there paths tree t lists u zero w b short there on = absurd (empty (paths w) short on)
  where
    empty : (us : List Uid) → length us ≤ 0 → is_on us u ≡ true → ⊥
    empty [] le o = let no_way : false ≡ true = o in cc
    empty (x ∷ us) le o = absurd (omega (arith, le))
above_there paths tree t lists u (suc n) w b short there on = ⊎_elim
    (λ same. (b, ap (λ z. branch_of z t) (sym same) ∙ there))
    (λ other. let f = above_of paths tree t lists u w b there on other in let p = lists.parents w f.0 b there f.1 in
    above_there paths tree t lists u n f.0 p.0 (shorter paths tree t lists w f.0 n f.1 f.3 short) p.1 f.2)
    (uid_cases w u)
