-- What stands right above an action, by the journal.
use Rattle.arj_law_parts.proofs.Words
use Words.{◌≡◌, ◌∙◌, ℕ, Bool, true, false, cond, List, [], ◌∷◌, ◌++◌, refl, sym, ap, subst, Option, Some, None, inl, inr, In}
use Words.{append_assoc, before_last, bytes_eq, bytes_eq-Decides, map-append, uid_eq, uid_is, uid_same, Kind, Uid}
use Words.kind
use Rattle.arj_law_runs.proofs.Terms.{Act, act_in, path, path_in, uids, upwards, AreDistinct, AreFormed, IsBelow}
use Rattle.arj_law_runs.proofs.journal.{Closed.one_act, Models.named_in, Ties.named_label, Ties.path_new, Ties.path_old}
use Rattle.arj_model.specs.Refusals as model
use Rattle.arj_protocol.specs.Tree.{is_parent}

-- An action is a root, or stands behind the path of its parent.
pub data Above (xs : List Act) (a : Act) : Type 0 where
  IsRoot : ((l : List ℕ) → model.is_parent l a.kind a.parent ≡ false) → path xs a.label ≡ a ∷ [] → Above xs a
  IsIn : (p : List ℕ) (s : Act) → ((l : List ℕ) → model.is_parent l a.kind a.parent ≡ bytes_eq p l) → act_in xs p ≡ Some s →
      path xs a.label ≡ path xs p ++ a ∷ [] → Above xs a

-- who is found by a label is found behind a new action too
off : (x : Act) (xs : List Act) (p : List ℕ) (s : Act) → act_in xs x.label ≡ None → act_in xs p ≡ Some s → bytes_eq x.label p ≡ false
off x xs p s new found = by (bytes_eq x.label p) refl
  where
    by : (b : Bool) → bytes_eq x.label p ≡ b → b ≡ false
    by false is = refl
    by true is =
        let no_way : ◌≡◌ {A = Option Act} None (Some s) = sym new ∙ ap (act_in xs) ((bytes_eq-Decides x.label p).0 is) ∙ found in
        absurd (cc no_way)

module _ (x : Act) (xs : List Act) (new : act_in xs x.label ≡ None) where
  abbrev all : List Act
  all = x ∷ xs

  found_on : (p : List ℕ) (s : Act) → act_in xs p ≡ Some s → act_in all p ≡ Some s
  found_on p s found = (λ i. cond (off x xs p s new found i) (Some x) (act_in xs p)) ∙ found

  path_on : (p : List ℕ) (s : Act) → act_in xs p ≡ Some s → path all p ≡ path xs p
  path_on p s found = λ i. cond (off x xs p s new found i) (path_in xs x) (path xs p)

  -- the newest action
  newest : IsBelow xs x.kind x.parent → Above all x
  newest below = by x.kind refl x.parent refl below
    where
      in_parent : (p : List ℕ) (s : Act) → ((l : List ℕ) → model.is_parent l x.kind x.parent ≡ bytes_eq p l) →
          upwards x.parent x.kind (path xs) ≡ path xs p → act_in xs p ≡ Some s → Above all x
      in_parent p s tells up found = IsIn p s tells (found_on p s found)
          (path_new x xs ∙ ap (λ q. q ++ x ∷ []) (up ∙ sym (path_on p s found)))

      alone : ((l : List ℕ) → model.is_parent l x.kind x.parent ≡ false) → upwards x.parent x.kind (path xs) ≡ [] → Above all x
      alone tells up = IsRoot tells (path_new x xs ∙ ap (λ q. q ++ x ∷ []) up)

      by : (k : Kind) → x.kind ≡ k → (o : Option (List ℕ)) → x.parent ≡ o → IsBelow xs x.kind x.parent → Above all x
      by kind.Top is None none below =
          alone (λ l i. model.is_parent l (is i) (none i)) (λ i. upwards (none i) (is i) (path xs))
      by kind.Serial is None none below =
          alone (λ l i. model.is_parent l (is i) (none i)) (λ i. upwards (none i) (is i) (path xs))
      by kind.Independent is (Some p) some below =
          alone (λ l i. model.is_parent l (is i) (some i)) (λ i. upwards (some i) (is i) (path xs))
      by kind.Nested is (Some p) some below =
          let b = subst (λ k. IsBelow xs k (Some p)) is (subst (IsBelow xs x.kind) some below) in
          in_parent p b.0 (λ l i. model.is_parent l (is i) (some i)) (λ i. upwards (some i) (is i) (path xs)) b.1
      by kind.Constituent is (Some p) some below =
          let b = subst (λ k. IsBelow xs k (Some p)) is (subst (IsBelow xs x.kind) some below) in
          in_parent p b.0 (λ l i. model.is_parent l (is i) (some i)) (λ i. upwards (some i) (is i) (path xs)) b.1
      by kind.Top is (Some p) some below =
          let no_way : ⊥ = subst (λ k. IsBelow xs k (Some p)) is (subst (IsBelow xs x.kind) some below) in absurd no_way
      by kind.Serial is (Some p) some below =
          let no_way : ⊥ = subst (λ k. IsBelow xs k (Some p)) is (subst (IsBelow xs x.kind) some below) in absurd no_way
      by kind.Independent is None none below =
          let no_way : ⊥ = subst (λ k. IsBelow xs k None) is (subst (IsBelow xs x.kind) none below) in absurd no_way
      by kind.Nested is None none below =
          let no_way : ⊥ = subst (λ k. IsBelow xs k None) is (subst (IsBelow xs x.kind) none below) in absurd no_way
      by kind.Constituent is None none below =
          let no_way : ⊥ = subst (λ k. IsBelow xs k None) is (subst (IsBelow xs x.kind) none below) in absurd no_way

  -- an earlier one
  earlier : (a : Act) → In a xs → Above xs a → Above all a
  earlier a i (IsRoot tells is) = IsRoot tells (path_old x xs a new i ∙ is)
  earlier a i (IsIn p s tells found is) =
      IsIn p s tells (found_on p s found) (path_old x xs a new i ∙ is ∙ ap (λ q. q ++ a ∷ []) (sym (path_on p s found)))

-- so each action of a journal stands
pub above : (xs : List Act) → AreDistinct xs → AreFormed xs → (a : Act) → In a xs → Above xs a
above [] distinct formed a i = absurd i
above (x ∷ xs) distinct formed a (inl same) = subst (Above (x ∷ xs)) same (newest x xs distinct.1 formed.0)
above (x ∷ xs) distinct formed a (inr i) = earlier x xs distinct.1 a i (above xs distinct.3 formed.1 a i)

-- a path ends with the action of its label
pub ends_with : (xs : List Act) (l : List ℕ) (s : Act) → act_in xs l ≡ Some s → (front : List Act) × (path xs l ≡ front ++ s ∷ [])
ends_with [] l s is = let no_way : ◌≡◌ {A = Option Act} None (Some s) = is in absurd (cc no_way)
ends_with (x ∷ xs) l s is = by (bytes_eq x.label l) is (ends_with xs l s)
  where
    by : (b : Bool) → cond b (Some x) (act_in xs l) ≡ Some s →
        (act_in xs l ≡ Some s → (front : List Act) × (path xs l ≡ front ++ s ∷ [])) →
        (front : List Act) × (cond b (path_in xs x) (path xs l) ≡ front ++ s ∷ [])
    by true here rest = let same : x ≡ s = cc here in
        (upwards x.parent x.kind (path xs), ap (λ y. upwards x.parent x.kind (path xs) ++ y ∷ []) same)
    by false there rest = rest there

-- the last but one
last_but_one : (us : List Uid) (u w : Uid) → before_last (us ++ u ∷ w ∷ []) ≡ Some u
last_but_one [] u w = refl
last_but_one (a ∷ []) u w = refl
last_but_one (a ∷ b ∷ us) u w = by us (last_but_one (b ∷ us) u w)
  where
    by : (vs : List Uid) → before_last (b ∷ (vs ++ u ∷ w ∷ [])) ≡ Some u → before_last (a ∷ b ∷ (vs ++ u ∷ w ∷ [])) ≡ Some u
    by [] is = is
    by (v ∷ vs) is = is

-- two actions are told apart by their Uids as by their labels
same_test : (xs : List Act) → AreDistinct xs → (p l : List ℕ) (s c : Act) → act_in xs p ≡ Some s → act_in xs l ≡ Some c →
    bytes_eq p l ≡ uid_eq s.uid c.uid
same_test xs distinct p l s c found named = by (bytes_eq p l) refl (uid_eq s.uid c.uid) refl
  where
    some_is : {A : Type 0} (a b : A) → Some a ≡ Some b → a ≡ b
    some_is {A} a b is = let k : ◌≡◌ {A = Option A} (Some a) (Some b) = is in cc

    by : (x : Bool) → bytes_eq p l ≡ x → (y : Bool) → uid_eq s.uid c.uid ≡ y → x ≡ y
    by true is true e = refl
    by false is false e = refl
    by true is false e =
        let one : s ≡ c = some_is s c (sym found ∙ ap (act_in xs) ((bytes_eq-Decides p l).0 is) ∙ named) in
        let no_way : true ≡ false = sym (uid_same s.uid) ∙ ap (λ (y : Act). uid_eq s.uid y.uid) one ∙ e in
        cc
    by false is true e =
        let one : s ≡ c = one_act xs distinct s c (named_in xs p s found) (named_in xs l c named) (uid_is s.uid c.uid e) in
        let labels : p ≡ l = sym (named_label xs p s found) ∙ ap (λ (y : Act). y.label) one ∙ named_label xs l c named in
        let no_way : true ≡ false = sym ((bytes_eq-Decides p l).1 labels) ∙ is in
        cc

-- the parent of an action, by its label and by its path
module _ (xs : List Act) (distinct : AreDistinct xs) (formed : AreFormed xs) (l : List ℕ) (c : Act) (named : act_in xs l ≡ Some c) where
  by_uids : (a : Act) (p : List ℕ) (s : Act) → act_in xs p ≡ Some s → path xs a.label ≡ path xs p ++ a ∷ [] →
      (front : List Uid) × (uids (path xs a.label) ≡ front ++ s.uid ∷ a.uid ∷ [])
  by_uids a p s found is =
      let e = ends_with xs p s found in (
        uids e.0,
        ap uids (is ∙ ap (λ q. q ++ a ∷ []) e.1 ∙ append_assoc e.0 (s ∷ []) (a ∷ []))
            ∙ map-append (λ (x : Act). x.uid) e.0 (s ∷ a ∷ []),
      )

  pub same_parent : (a : Act) → In a xs →
      model.is_parent l a.kind a.parent ≡ is_parent c.uid (before_last (uids (path xs a.label)))
  same_parent a i = by (above xs distinct formed a i)
    where
      by : Above xs a → model.is_parent l a.kind a.parent ≡ is_parent c.uid (before_last (uids (path xs a.label)))
      by (IsRoot tells is) = tells l ∙ sym (ap (λ q. is_parent c.uid (before_last (uids q))) is)
      by (IsIn p s tells found is) =
          let u = by_uids a p s found is in
          tells l ∙ same_test xs distinct p l s c found named
          ∙ sym (ap (λ us. is_parent c.uid (before_last us)) u.1 ∙ ap (is_parent c.uid) (last_but_one u.0 s.uid a.uid))

  pub parent_on : (a : Act) → In a xs → model.is_parent l a.kind a.parent ≡ true →
      (front : List Uid) × (uids (path xs a.label) ≡ front ++ c.uid ∷ a.uid ∷ [])
  parent_on a i its = by (above xs distinct formed a i)
    where
      by : Above xs a → (front : List Uid) × (uids (path xs a.label) ≡ front ++ c.uid ∷ a.uid ∷ [])
      by (IsRoot tells is) = let no_way : true ≡ false = sym its ∙ tells l in absurd (cc no_way)
      by (IsIn p s tells found is) =
          let u = by_uids a p s found is in
          let same : s.uid ≡ c.uid = uid_is s.uid c.uid (sym (same_test xs distinct p l s c found named) ∙ sym (tells l) ∙ its) in
          (u.0, u.1 ∙ ap (λ w. u.0 ++ w ∷ a.uid ∷ []) same)
