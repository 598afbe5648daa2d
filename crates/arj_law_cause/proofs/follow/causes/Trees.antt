-- What a node finds of the action under a label, the journal has of it: its kind, its depth, its open children, and how many actions its
-- root has.
use Rattle.arj_law_parts.proofs.Words
use Words.{◌≡◌, ◌∙◌, ◌&&◌, ◌||◌, not, ℕ, Bool, true, false, cond, List, [], ◌∷◌, ◌++◌, filter, length, refl, sym, ap, Some, None, inl}
use Words.{inr, In, is_some, list_any, nat_le, and_parts, or_left, or_right, length-map, before_last, first_uid, is_on, name, uid_same}
use Words.{actor, Header, Label, Node, Parts, Uid, World, Branch, at_place, branch_named, branch_of, has_open_child, is_own, is_parent}
use Words.{is_serial, most_actions, root_of, uid_at, uid_eq, uids_of}
use Rattle.arj_law_runs.proofs.Terms.{Act, act_in, acts, path, uids, Holds, found_by, place_in, placed}
use Rattle.arj_law_parts.proofs.parts.Stores.{one_of as any_one}
use Rattle.arj_law_runs.proofs.follow.Halts.{KnowsAll}
use Rattle.arj_law_runs.proofs.follow.Labeled.{KnowsFinds}
use Rattle.arj_law_runs.proofs.journal.{Closed.one_act, Ties.named_label}
use Rattle.arj_law_cause.proofs.follow.causes.{Above.parent_on, Above.same_parent, Counting.Counts, Roots.has_root, Roots.same_count}
use Rattle.arj_law_cause.proofs.follow.causes.{Roots.same_roots, Standing.IsOne, Standing.apart, Standing.below_one, Standing.formed}
use Rattle.arj_law_cause.proofs.follow.causes.{Standing.its_uid, Standing.named_one, Standing.one_of, Standing.own_number}
use Rattle.arj_law_cause.proofs.follow.causes.{Standing.root_is_own}
use Rattle.arj_model.specs.Actions.{is_over}
use Rattle.arj_model.specs.Refusals as model
use Rattle.arj_protocol.specs.Tree.{has_many_actions, is_too_deep}
use Rattle.arj_start.specs.Limits.{most_on_path}

-- what passes stands in both lists, or in none
any_in : {A : Type 0} (p : A → Bool) (xs : List A) (x : A) → In x xs → p x ≡ true → list_any p xs ≡ true
any_in p [] x i is = absurd i
any_in p (y ∷ ys) x (inl same) is = or_left (p y) (list_any p ys) (ap p same ∙ is)
any_in p (y ∷ ys) x (inr i) is = or_right (p y) (list_any p ys) (any_in p ys x i is)

any_same : {A B : Type 0} (p : A → Bool) (q : B → Bool) (xs : List A) (ys : List B) →
    ((x : A) → In x xs → p x ≡ true → (y : B) × In y ys × (q y ≡ true)) →
    ((y : B) → In y ys → q y ≡ true → (x : A) × In x xs × (p x ≡ true)) →
    list_any p xs ≡ list_any q ys
any_same p q xs ys forth back = by (list_any p xs) refl (list_any q ys) refl
  where
    by : (a : Bool) → list_any p xs ≡ a → (b : Bool) → list_any q ys ≡ b → a ≡ b
    by true e true f = refl
    by false e false f = refl
    by true e false f =
        let x = any_one p xs e in let y = forth x.0 x.1 x.2 in absurd (cc (sym (any_in q ys y.0 y.1 y.2) ∙ f))
    by false e true f =
        let y = any_one q ys f in let x = back y.0 y.1 y.2 in absurd (cc (sym (any_in p xs x.0 x.1 x.2) ∙ e))

module _ (hd : Header) (w : World) (h : Holds hd KnowsAll w) (f : Holds hd KnowsFinds w) (k : ℕ) (n : Node)
    (there : at_place k w.nodes ≡ Some n) (t : Parts) (live : n.live ≡ Some t) (l : Label) (b : Branch)
    (named : branch_named l t.coord ≡ Some b) where
  abbrev xs : List Act
  xs = acts w.lines

  abbrev number : ℕ
  number = (named_one hd w h f k n there t live l b named).0

  abbrev u : Uid
  u = uid_at number t.coord

  found : branch_of u t.coord.tree ≡ Some b
  found = (named_one hd w h f k n there t live l b named).1

  pub act : Act
  act = (named_one hd w h f k n there t live l b named).2

  one : IsOne w.lines t.coord.doings u b act
  unfolding act
  one = (named_one hd w h f k n there t live l b named).3

  pub found_act : act_in xs (name l) ≡ Some act
  unfolding act
  found_act = (named_one hd w h f k n there t live l b named).4

  label_is : act.label ≡ name l
  label_is = named_label xs (name l) act found_act

  path_is : uids (path xs (name l)) ≡ uids_of b.path
  path_is = ap (λ m. uids (path xs m)) (sym label_is) ∙ one.path_is

  own : is_own u t.coord.tree ≡ true
  own = (found_by u t.coord.tree b found).0

  -- its kind
  pub serial_so : model.is_serializing w.lines (name l) ≡ is_serial b.kind
  serial_so = ap (model.holds_of (λ (a : Act). is_serial a.kind)) found_act ∙ ap is_serial one.kind_is

  -- how deep it stands
  pub deep_so : model.is_deep w.lines (name l) ≡ is_too_deep b
  deep_so = ap (nat_le most_on_path) (sym (length-map (path xs (name l)) (λ (a : Act). a.uid)) ∙ ap length path_is)

  -- its open children
  pub children_so : model.has_children w.lines (name l) ≡ has_open_child (actor b.path) t.coord.tree
  children_so = any_same below_act below_branch xs t.coord.tree.branches forth back
      ∙ ap (λ v. has_open_child v t.coord.tree) (one.uid ∙ sym (its_uid hd w h f k n there t live u b found))
    where
      below_act : Act → Bool
      below_act a = model.is_parent (name l) a.kind a.parent && not (is_over w.lines a)

      below_branch : Branch → Bool
      below_branch c = is_parent act.uid (before_last (uids_of c.path)) && not (is_some c.ended)

      -- the test is one, of an action that is in both
      same : (v : Uid) (c : Branch) (a : Act) → IsOne w.lines t.coord.doings v c a → below_act a ≡ below_branch c
      same v c a o = λ i. (same_parent xs (apart hd w h f) (formed hd w h f) (name l) act found_act a o.among
          ∙ ap (λ us. is_parent act.uid (before_last us)) o.path_is) i && not (o.over i)

      forth : (a : Act) → In a xs → below_act a ≡ true → (c : Branch) × In c t.coord.tree.branches × (below_branch c ≡ true)
      forth a i is =
          let p = (and_parts (model.is_parent (name l) a.kind a.parent) (not (is_over w.lines a)) is).0 in
          let e = parent_on xs (apart hd w h f) (formed hd w h f) (name l) act found_act a i p in
          let c = below_one hd w h f k n there t live a act.uid i (ap (λ us. is_on us act.uid) e.1 ∙ on e.0 act.uid a.uid)
          (ap (λ v. is_own v t.coord.tree) one.uid ∙ own) in
          let o = one_of hd w h f k n there t live a.uid c.0 c.1 in
          let same_act : o.0 ≡ a = its_own a i o.0 (let x = o.1 in x.among) (let x = o.1 in x.uid) in (
            c.0,
            place_in (let v = a.uid in v.num) c.0 t.coord.tree.branches (found_by a.uid t.coord.tree c.0 c.1).1,
            carried (below_act o.0) (below_branch c.0) (same a.uid c.0 o.0 o.1) (ap below_act same_act ∙ is),
          )
        where
          carried : (y z : Bool) → y ≡ z → y ≡ true → z ≡ true
          carried y z e so = sym e ∙ so

          on : (front : List Uid) (v z : Uid) → is_on (front ++ v ∷ z ∷ []) v ≡ true
          on [] v z = λ i. uid_same v i || is_on (z ∷ []) v
          on (y ∷ ys) v z = or_right (uid_eq y v) (is_on (ys ++ v ∷ z ∷ []) v) (on ys v z)

          its_own : (a : Act) → In a xs → (c : Act) → In c xs → c.uid ≡ a.uid → c ≡ a
          its_own a i c j e = one_act xs (apart hd w h f) c a j i e

      back : (c : Branch) → In c t.coord.tree.branches → below_branch c ≡ true → (a : Act) × In a xs × (below_act a ≡ true)
      back c i is =
          let p = placed c t.coord.tree.branches i in
          let v = uid_at p.0 t.coord in
          let here : branch_of v t.coord.tree ≡ Some c
          = (λ j. cond (own_number hd w h f k n there t live p.0 j) (at_place p.0 t.coord.tree.branches) None) ∙ p.1 in
          let o = one_of hd w h f k n there t live v c here in
          (o.0, (let x = o.1 in x.among), same v c o.0 o.1 ∙ is)

  -- how many actions its root has
  pub many_so : Counts t.coord → model.has_all_actions w.lines (name l) ≡ has_many_actions b t.coord.tree
  many_so counts = ap (nat_le most_actions) (
      ap length (same_roots xs (apart hd w h f) (name l) act found_act)
      ∙ ap (λ v. length (filter (has_root xs v) xs)) (ap first_uid path_is)
      ∙ same_count hd w h f k n there t live (root_of b.path) (root_is_own hd w h f k n there t live u b found)
      ∙ sym (counts (root_of b.path).num))
