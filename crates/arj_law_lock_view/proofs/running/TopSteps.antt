-- The tops of actions that were begun, and their owners, in the machine.
use Rattle.arj_law_parts.proofs.Words
use Words.{⊎_elim, ◌≡◌, ◌≢◌, ◌≤◌, ◌∙◌, ◌++◌, List, [], ◌∷◌, length, take, Bool, true, false, cond, refl, sym, ap, subst, inl, inr, Contains}
use Words.{arith, or_cases, take-append-le, uid_is, in_from, in_to, Kind, Uid, is_on, last_uid, tops_of, uid_eq, uids_of, top_path, root_of}
use Words.list
use Words.kind
use Rattle.arj_law_lock_view.proofs.Terms
use Terms.{Act, is_action, is_top, on, on_self, Action, AreBegun, Stands, act_of, owner_in, owners_of, on_more, path_length, path_some}
use Terms.{serial_alone, IsPlaced, IsTopped, AreOwned, AreOneTree, Family}
use Rattle.arj_law_lock_view.proofs.view.TreeSteps.{first_on}

-- the top of an action that isn't serializing was begun, and the action's path leads by it
top_action : (acts : List Action) → AreBegun acts → (a : Action) → list.In a acts → a.kind ≢ kind.Serial →
    (b : Action) × list.In b acts × (uids_of b.path ≡ top_path a.path) × (b.kind ≢ kind.Nested) × (b.kind ≢ kind.Serial)
top_action [] begun a i unserial = absurd i
top_action (c ∷ acts) begun a (inr i) unserial = let r = top_action acts begun.1 a i unserial in (r.0, inr r.1, r.2, r.3, r.4)
top_action (c ∷ acts) begun a (inl is) unserial =
    subst Found is (of (top_action acts begun.1) c.kind refl (let new = begun.0 in new.stands))
  where
    Found : Action → Type 0
    Found z = (b : Action) × list.In b (c ∷ acts) × (uids_of b.path ≡ top_path z.path) × (b.kind ≢ kind.Nested) × (b.kind ≢ kind.Serial)

    alone : uids_of c.path ≡ act_of c ∷ [] → tops_of c.path ≡ 1 → uids_of c.path ≡ top_path c.path
    alone path tops = path ∙ sym (λ j. take (tops j) (path j))

    of : ((a : Action) → list.In a acts → a.kind ≢ kind.Serial → (b : Action) × list.In b acts × (uids_of b.path ≡ top_path a.path)
        × (b.kind ≢ kind.Nested) × (b.kind ≢ kind.Serial)) → (k : Kind) → c.kind ≡ k → Stands acts c k → Found c
    of ih kind.Top kind_is s = (c, inl refl, alone s.0 s.1, (λ e. cc (sym kind_is ∙ e)), (λ e. cc (sym kind_is ∙ e)))
    of ih kind.Independent kind_is s = (c, inl refl, alone s.0 s.1, (λ e. cc (sym kind_is ∙ e)), (λ e. cc (sym kind_is ∙ e)))
    of ih kind.Serial kind_is s = absurd (unserial (ap (λ (z : Action). z.kind) (sym is) ∙ kind_is))
    of ih kind.Nested kind_is s =
        let b : Action = s.0 in
        let inside : tops_of b.path ≤ length (uids_of b.path) = omega (arith, b.path.within, path_length b.path) in
        let same : take (tops_of c.path) (uids_of c.path) ≡ take (tops_of b.path) (uids_of b.path) = (λ j. take (s.4 j) (s.3 j))
        ∙ take-append-le (tops_of b.path) (uids_of b.path) (act_of c ∷ []) inside in
        let f = ih b (in_from b acts s.1) s.2 in
        (f.0, inr f.1, f.2 ∙ sym same, f.3, f.4)
    of ih kind.Constituent kind_is s =
        let b : Action = s.0 in
        let up = serial_alone acts begun.1 b (in_from b acts s.1) s.2 in
        let path : uids_of c.path ≡ act_of b ∷ act_of c ∷ [] = s.3 ∙ ap (λ us. us ++ act_of c ∷ []) up.0 in
        (c, inl refl, path ∙ sym (λ j. take (s.4 j) (path j)), (λ e. cc (sym kind_is ∙ e)), (λ e. cc (sym kind_is ∙ e)))

pub placed_top : (a : Act) (k : Kind) → IsPlaced a k → k ≢ kind.Nested → k ≢ kind.Serial → is_top a ≡ true
placed_top a kind.Top placed nested serial = placed
placed_top a kind.Independent placed nested serial = placed
placed_top a kind.Constituent placed nested serial = placed
placed_top a kind.Nested placed nested serial = absurd (nested refl)
placed_top a kind.Serial placed nested serial = absurd (serial refl)

pub unnested_top : (a : Act) (k : Kind) → IsPlaced a k → k ≢ kind.Nested → is_action a ≡ true → is_top a ≡ true
unnested_top a kind.Top placed nested acts = placed
unnested_top a kind.Independent placed nested acts = placed
unnested_top a kind.Constituent placed nested acts = placed
unnested_top a kind.Nested placed nested acts = absurd (nested refl)
unnested_top a kind.Serial placed nested acts = absurd (let no_way : true ≡ false = sym acts ∙ placed in cc no_way)

module _ (g : Family) (all : AreOneTree g) where
  pub topped_of : (a : Action) → Contains g.begun a → a.kind ≢ kind.Serial → IsTopped g.act a.path
  topped_of a i unserial =
      let t = top_action g.begun all.begun a (in_from a g.begun i) unserial in
      let b : Action = t.0 in
      let its : g.paths (act_of b) ≡ top_path a.path = all.agree b (in_to b g.begun t.1) ∙ t.2 in
      let who : last_uid (top_path a.path) ≡ act_of b = ap last_uid (sym t.2) in
      record {
        along = record {
          above = λ u o. ap (λ (w : Uid). on (g.act w) (g.act u)) who ∙ all.alike.above (act_of b) u ∙ ap (λ us. is_on us u) its ∙ o;
          alone = λ u o. ap (λ us. is_on us u) (sym its) ∙ sym (all.alike.above (act_of b) u)
              ∙ ap (λ (w : Uid). on (g.act w) (g.act u)) (sym who) ∙ o;
        };
        top = ap (λ (w : Uid). is_top (g.act w)) who ∙ placed_top (g.act (act_of b)) b.kind (all.placed b (in_to b g.begun t.1)) t.3 t.4;
      }

  -- each action stands below its owner
  pub owned_of : AreOwned g.act (owners_of g.begun)
  owned_of u = all_of g.begun (λ a i. i)
    where
      one : (a : Action) → list.In a g.begun → (k : Kind) → act_of a ≡ u → on (g.act u) (g.act (owner_in a k)) ≡ true
      one a i kind.Constituent is = all.alike.above u (root_of a.path) ∙ ap (λ us. is_on us (root_of a.path))
          (ap g.paths (sym is) ∙ all.agree a (in_to a g.begun i)) ∙ first_on (uids_of a.path) (path_some a.path)
      one a i kind.Top is = ap (λ (w : Uid). on (g.act u) (g.act w)) is ∙ on_self (g.act u)
      one a i kind.Serial is = ap (λ (w : Uid). on (g.act u) (g.act w)) is ∙ on_self (g.act u)
      one a i kind.Independent is = ap (λ (w : Uid). on (g.act u) (g.act w)) is ∙ on_self (g.act u)
      one a i kind.Nested is = ap (λ (w : Uid). on (g.act u) (g.act w)) is ∙ on_self (g.act u)

      all_of : (acts : List Action) → ((a : Action) → list.In a acts → list.In a g.begun) → on (g.act u) (g.act (owners_of acts u)) ≡ true
      all_of [] there = on_self (g.act u)
      all_of (a ∷ acts) there = by (all_of acts (λ c i. there c (inr i))) (uid_eq (act_of a) u) refl
        where
          by : on (g.act u) (g.act (owners_of acts u)) ≡ true → (b : Bool) → uid_eq (act_of a) u ≡ b →
              on (g.act u) (g.act (cond b (owner_in a a.kind) (owners_of acts u))) ≡ true
          by rest true same = one a (there a (inl refl)) a.kind (uid_is (act_of a) u same)
          by rest false other = rest

-- ---- who stands on a path

-- the Uids of a begun action's path are of actions that were begun
pub path_begun : (acts : List Action) → AreBegun acts → (a : Action) → list.In a acts → (u : Uid) → is_on (uids_of a.path) u ≡ true →
    (b : Action) × list.In b acts × (act_of b ≡ u)
path_begun [] begun a i u above = absurd i
path_begun (c ∷ acts) begun a (inr i) u above = let r = path_begun acts begun.1 a i u above in (r.0, inr r.1, r.2)
path_begun (c ∷ acts) begun a (inl is) u above = of (path_begun acts begun.1) c.kind (let new = begun.0 in
    new.stands) (subst (λ (z : Action). is_on (uids_of z.path) u ≡ true) (sym is) above)
  where
    Found : Type 0
    Found = (b : Action) × list.In b (c ∷ acts) × (act_of b ≡ u)

    alone : uids_of c.path ≡ act_of c ∷ [] → is_on (uids_of c.path) u ≡ true → Found
    alone path o = ⊎_elim (λ same. (c, inl refl, uid_is (act_of c) u same)) (λ none. absurd (cc none))
        (or_cases (uid_eq (act_of c) u) false (subst (λ us. is_on us u ≡ true) path o))

    below : ((a : Action) → list.In a acts → (w : Uid) → is_on (uids_of a.path) w ≡ true → (b : Action) × list.In b acts × (act_of b ≡ w)) →
        (b : Action) → list.In b acts → uids_of c.path ≡ uids_of b.path ++ act_of c ∷ [] → is_on (uids_of c.path) u ≡ true → Found
    below ih b i path o = ⊎_elim (λ up. (let r = ih b i u up in (r.0, inr r.1, r.2))) (λ same. (c, inl refl, same))
        (on_more (uids_of b.path) (act_of c) u (subst (λ us. is_on us u ≡ true) path o))

    of : ((a : Action) → list.In a acts → (w : Uid) → is_on (uids_of a.path) w ≡ true → (b : Action) × list.In b acts × (act_of b ≡ w)) →
        (k : Kind) → Stands acts c k → is_on (uids_of c.path) u ≡ true → Found
    of ih kind.Top s o = alone s.0 o
    of ih kind.Serial s o = alone s.0 o
    of ih kind.Independent s o = alone s.0 o
    of ih kind.Nested s o = below ih s.0 (in_from s.0 acts s.1) s.3 o
    of ih kind.Constituent s o = below ih s.0 (in_from s.0 acts s.1) s.3 o
