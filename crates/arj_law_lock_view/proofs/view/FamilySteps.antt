-- Each list of actions that were begun has its places in the machine.
use Rattle.arj_law_parts.proofs.Words
use Words.{◌≡◌, ◌≢◌, ◌≤◌, ◌⊎◌, ◌∙◌, ◌++◌, ◌==◌, ◌||◌, ◌&&◌, ℕ, zero, suc, List, [], ◌∷◌, length, Bool, true, false, cond, refl, sym, ap}
use Words.{subst, inl, inr, ⊎_elim, Contains, arith, uid_cases, uid_other, uid_same, in_from, in_to, Kind, Uid, first_uid, front, is_on}
use Words.{last_uid, uid_eq, uids_of, uid_number, number_tells}
use Words.list
use Words.kind
use Rattle.arj_law_lock_view.proofs.Terms
use Terms.{Act, Root, Sub, is_action, is_top, on, root, same, by_cases, differ, on_root, on_self, on_up, root_is, same_is, Action, AreBegun}
use Terms.{Stands, act_of, paths_of, begun_tree, on_own, path_found, path_some, IsPlaced, Acts}
use Rattle.arj_law_lock_view.proofs.view.{PlaceSteps.acts_in, TreeSteps.first_on}
use Rattle.arj_law_lock_view.specs.view.Families.{FamiliesAreTrees, acts_of, place_of}
use Rattle.arj_law_parts.proofs.parts.Begun.{front_more}
use Rattle.arj_law_parts.specs.parts.Actions.{IsNew}
use Rattle.arj_protocol.proofs.Numbers.{numbers_tell}

-- ---- the number of a Uid, by its place

abbrev named : Act → ℕ
named (Root k) = k
named (Sub p zero) = root p
named (Sub p (suc j)) = j

-- ---- what holds of the places

record Placed (acts : List Action) : Type 0 where
  names : (u : Uid) → named (acts_of acts u) ≡ uid_number u
  above : (u w : Uid) → on (acts_of acts u) (acts_of acts w) ≡ is_on (paths_of acts u) w
  filled : (u : Uid) (x : Act) → on (acts_of acts u) x ≡ true → is_action x ≡ true → (w : Uid) × (x ≡ acts_of acts w)
  roots : (u : Uid) → root (acts_of acts u) ≡ uid_number (first_uid (paths_of acts u))
  kinds : (a : Action) → list.In a acts → IsPlaced (acts_of acts (act_of a)) a.kind
  mine : (u : Uid) → is_on (paths_of acts u) u ≡ true

-- ---- no action yet

none_placed : Placed []
none_placed = record {
  names = λ u. refl;
  above = λ u w. alone u w;
  filled = λ u x o action. (
    u,
    ⊎_elim (λ is. is) (λ up. differ action (ap is_action (sym (same_is (Root (uid_number u)) x up)))) (on_up (Root (uid_number u)) 0 x o),
  );
  roots = λ u. refl;
  kinds = λ a i. absurd i;
  mine = λ u. ap (λ b. b || false) (uid_same u);
}
  where
    alone : (u w : Uid) → on (Sub (Root (uid_number u)) 0) (Sub (Root (uid_number w)) 0) ≡ is_on (u ∷ []) w
    alone u w = by (uid_number u == uid_number w) refl
      where
        by : (b : Bool) → (uid_number u == uid_number w) ≡ b → (((uid_number u == uid_number w) && true) || false) ≡ (uid_eq u w || false)
        by true is = (λ i. ((is i) && true) || false) ∙ sym (ap (λ b. b || false) (sym (numbers_tell u w) ∙ is))
        by false is = (λ i. ((is i) && true) || false) ∙ sym (ap (λ b. b || false) (sym (numbers_tell u w) ∙ is))

-- ---- one more action

module _ (a : Action) (acts : List Action) (new : IsNew (act_of a) acts) (stands : Stands acts a a.kind) (old : Placed acts)
    (found : (b : Action) → Contains acts b → paths_of acts (act_of b) ≡ uids_of b.path) (off : (w : Uid) → w ≢ act_of a →
    is_on (paths_of acts w) (act_of a) ≡ false) where
  abbrev u0 : Uid
  u0 = act_of a

  abbrev act : Acts
  act = acts_of acts

  abbrev now : Acts
  now = acts_of (a ∷ acts)

  abbrev paths : Uid → List Uid
  paths = paths_of (a ∷ acts)

  abbrev before : Uid → List Uid
  before = paths_of acts

  at_new : now u0 ≡ place_of act a a.kind
  at_new = λ i. cond (uid_same u0 i) (place_of act a a.kind) (act u0)

  at_old : (u : Uid) → u ≢ u0 → now u ≡ act u
  at_old u other = λ i. cond (uid_other u0 u (λ is. other (sym is)) i) (place_of act a a.kind) (act u)

  path_new : paths u0 ≡ uids_of a.path
  path_new = λ i. cond (uid_same u0 i) (uids_of a.path) (before u0)

  path_old : (u : Uid) → u ≢ u0 → paths u ≡ before u
  path_old u other = λ i. cond (uid_other u0 u (λ is. other (sym is)) i) (uids_of a.path) (before u)

  -- how the new one stands: alone as a unit or a top, or below an older one
  data Stand : Type 0 where
    unit : uids_of a.path ≡ u0 ∷ [] → place_of act a a.kind ≡ Root (uid_number u0) → Stand
    top : uids_of a.path ≡ u0 ∷ [] → place_of act a a.kind ≡ Sub (Root (uid_number u0)) 0 → Stand
    below : (b : Action) → Contains acts b → act_of b ≢ u0 → uids_of a.path ≡ uids_of b.path ++ u0 ∷ [] →
        place_of act a a.kind ≡ Sub (act (act_of b)) (suc (uid_number u0)) → Stand

  older : (b : Action) → Contains acts b → act_of b ≢ u0
  older b k is = differ (ap (is_on (uids_of b.path)) (sym is) ∙ on_own b.path) (new b k)

  parent_is : (b : Action) → uids_of a.path ≡ uids_of b.path ++ u0 ∷ [] → last_uid (front (uids_of a.path)) ≡ act_of b
  parent_is b path = ap last_uid (ap front path ∙ front_more (uids_of b.path) u0)

  stand : Stand
  stand = of a.kind refl stands
    where
      of : (k : Kind) → a.kind ≡ k → Stands acts a k → Stand
      of kind.Top is s = top s.0 (ap (place_of act a) is)
      of kind.Independent is s = top s.0 (ap (place_of act a) is)
      of kind.Serial is s = unit s.0 (ap (place_of act a) is)
      of kind.Nested is s = below s.0 s.1 (older s.0 s.1) s.3
          (ap (place_of act a) is ∙ ap (λ (w : Uid). Sub (act w) (suc (uid_number u0))) (parent_is s.0 s.3))
      of kind.Constituent is s = below s.0 s.1 (older s.0 s.1) s.3
          (ap (place_of act a) is ∙ ap (λ (w : Uid). Sub (act w) (suc (uid_number u0))) (parent_is s.0 s.3))

  -- ---- names

  named_new : Stand → named (place_of act a a.kind) ≡ uid_number u0
  named_new (unit path is) = ap named is
  named_new (top path is) = ap named is
  named_new (below b k other path is) = ap named is

  names_now : (u : Uid) → named (now u) ≡ uid_number u
  names_now u = ⊎_elim (λ (is : u ≡ u0). ap (λ (w : Uid). named (now w)) is ∙ ap named at_new ∙ named_new stand ∙ ap uid_number (sym is))
      (λ (other : u ≢ u0). ap named (at_old u other) ∙ old.names u) (uid_cases u u0)

  not_old : (w : Uid) (x : Act) → w ≢ u0 → named x ≡ uid_number u0 → same x (act w) ≡ false
  not_old w x other is = elim (by_cases (same x (act w)))
      [ inl t ↦ absurd (other (number_tells w u0 (sym (old.names w) ∙ ap named (sym (same_is x (act w) t)) ∙ is))) | inr f ↦ f ]

  -- ---- who stands above whom

  on_more_is : (us : List Uid) (w : Uid) → w ≢ u0 → is_on (us ++ u0 ∷ []) w ≡ is_on us w
  on_more_is [] w other = ap (λ b. b || false) (uid_other u0 w (λ is. other (sym is)))
  on_more_is (u ∷ us) w other = ap (λ b. uid_eq u w || b) (on_more_is us w other)

  -- above an older one the new one isn't
  off_old_act : (u : Uid) → u ≢ u0 → on (act u) (now u0) ≡ false
  off_old_act u other = elim (by_cases (on (act u) (now u0))) [ inl t ↦ absurd (by (by_cases (is_action (now u0))) t) | inr f ↦ f ]
    where
      by : (is_action (now u0) ≡ true) ⊎ (is_action (now u0) ≡ false) → on (act u) (now u0) ≡ true → ⊥
      by (inl action) o =
          let f = old.filled u (now u0) o action in
          let is : u0 ≡ f.0 = number_tells u0 f.0 (sym (names_now u0) ∙ ap named f.1 ∙ old.names f.0) in
          differ (sym (old.above u f.0) ∙ ap (on (act u)) (sym f.1) ∙ o) (ap (is_on (before u)) (sym is) ∙ off u other)
      by (inr unit_is) o =
          let place = root_is (now u0) unit_is in
          let number : uid_number u0 ≡ root (now u0) = sym (names_now u0) ∙ named_root place in
          let first : first_uid (before u) ≡ u0 = number_tells (first_uid (before u)) u0
          (sym (old.roots u) ∙ on_root (act u) (now u0) o ∙ sym number) in
          differ (ap (is_on (before u)) (sym first) ∙ first_on (before u) (some (before u) (old.mine u))) (off u other)
        where
          named_root : now u0 ≡ Root (root (now u0)) → named (now u0) ≡ root (now u0)
          named_root is = ap named is

          some : (us : List Uid) → is_on us u ≡ true → 1 ≤ length us
          some [] e = absurd (cc e)
          some (v ∷ us) e = omega arith

  above_new : (w : Uid) → w ≢ u0 → Stand → on (now u0) (act w) ≡ is_on (paths u0) w
  above_new w other (unit path is) =
      ap (λ (x : Act). on x (act w)) (at_new ∙ is) ∙ not_old w (Root (uid_number u0)) other (sym (ap named (at_new ∙ is)) ∙ names_now u0)
      ∙ sym (ap (λ us. is_on us w) (path_new ∙ path) ∙ ap (λ b. b || false) (uid_other u0 w (λ e. other (sym e))))
  above_new w other (top path is) =
      ap (λ (x : Act). on x (act w)) (at_new ∙ is)
      ∙ (λ i. not_old w (Sub (Root (uid_number u0)) 0) other (sym (ap named (at_new ∙ is)) ∙ names_now u0) i
      || not_old w (Root (uid_number u0)) other (root_name (Root (uid_number u0)) refl) i)
      ∙ sym (ap (λ us. is_on us w) (path_new ∙ path) ∙ ap (λ b. b || false) (uid_other u0 w (λ e. other (sym e))))
    where
      root_name : (x : Act) → x ≡ Root (uid_number u0) → named x ≡ uid_number u0
      root_name x e = ap named e
  above_new w other (below b k apart path is) =
      ap (λ (x : Act). on x (act w)) (at_new ∙ is)
      ∙ ap (λ e. e || on (act (act_of b)) (act w))
      (not_old w (Sub (act (act_of b)) (suc (uid_number u0))) other (sym (ap named (at_new ∙ is)) ∙ names_now u0))
      ∙ old.above (act_of b) w ∙ ap (λ us. is_on us w) (found b k)
      ∙ sym (ap (λ us. is_on us w) (path_new ∙ path) ∙ on_more_is (uids_of b.path) w other)

  mine_now : (u : Uid) → is_on (paths u) u ≡ true
  mine_now u = ⊎_elim (λ (is : u ≡ u0). ap (λ (w : Uid). is_on (paths w) w) is ∙ ap (λ us. is_on us u0) path_new ∙ on_own a.path)
      (λ (other : u ≢ u0). ap (λ us. is_on us u) (path_old u other) ∙ old.mine u) (uid_cases u u0)

  above_now : (u w : Uid) → on (now u) (now w) ≡ is_on (paths u) w
  above_now u w = by (uid_cases u u0) (uid_cases w u0)
    where
      by : (u ≡ u0) ⊎ (u ≢ u0) → (w ≡ u0) ⊎ (w ≢ u0) → on (now u) (now w) ≡ is_on (paths u) w
      by (inl s) (inl t) = (λ i. on (now (s i)) (now (t i))) ∙ on_self (now u0) ∙ sym ((λ i. is_on (paths (s i)) (t i)) ∙ mine_now u0)
      by (inl s) (inr o) = (λ i. on (now (s i)) (at_old w o i)) ∙ above_new w o stand ∙ sym (ap (λ (v : Uid). is_on (paths v) w) s)
      by (inr o) (inl t) = (λ i. on (at_old u o i) (now (t i))) ∙ off_old_act u o ∙ sym ((λ i. is_on (path_old u o i) (t i)) ∙ off u o)
      by (inr o) (inr p) = (λ i. on (at_old u o i) (at_old w p i)) ∙ old.above u w ∙ sym (ap (λ us. is_on us w) (path_old u o))

  -- ---- nobody else stands there

  filled_old : (u : Uid) (x : Act) → u ≢ u0 → on (act u) x ≡ true → is_action x ≡ true → (w : Uid) × (x ≡ now w)
  filled_old u x other o action =
      let f = old.filled u x o action in
      let apart : f.0 ≢ u0 = λ is.
      differ (sym (old.above u f.0) ∙ ap (on (act u)) (sym f.1) ∙ o) (ap (is_on (before u)) is ∙ off u other) in
      (f.0, f.1 ∙ sym (at_old f.0 apart))

  filled_new : (x : Act) → on (now u0) x ≡ true → is_action x ≡ true → Stand → (w : Uid) × (x ≡ now w)
  filled_new x o action (unit path is) =
      absurd (differ action (ap is_action (sym (same_is (Root (uid_number u0)) x (ap (λ (y : Act). on y x) (sym (at_new ∙ is)) ∙ o)))))
  filled_new x o action (top path is) = ⊎_elim
      (λ (same_one : x ≡ Sub (Root (uid_number u0)) 0). (u0, same_one ∙ sym (at_new ∙ is)))
      (λ (up : on (Root (uid_number u0)) x ≡ true). absurd (differ action (ap is_action (sym (same_is (Root (uid_number u0)) x up)))))
      (on_up (Root (uid_number u0)) 0 x (ap (λ (y : Act). on y x) (sym (at_new ∙ is)) ∙ o))
  filled_new x o action (below b k apart path is) = ⊎_elim
      (λ (same_one : x ≡ Sub (act (act_of b)) (suc (uid_number u0))). (u0, same_one ∙ sym (at_new ∙ is)))
      (λ (up : on (act (act_of b)) x ≡ true). filled_old (act_of b) x apart up action)
      (on_up (act (act_of b)) (suc (uid_number u0)) x (ap (λ (y : Act). on y x) (sym (at_new ∙ is)) ∙ o))

  filled_now : (u : Uid) (x : Act) → on (now u) x ≡ true → is_action x ≡ true → (w : Uid) × (x ≡ now w)
  filled_now u x o action = ⊎_elim (λ (is : u ≡ u0). filled_new x (ap (λ (w : Uid). on (now w) x) (sym is) ∙ o) action stand)
      (λ (other : u ≢ u0). filled_old u x other (ap (λ (y : Act). on y x) (sym (at_old u other)) ∙ o) action) (uid_cases u u0)

  -- ---- units and kinds

  root_new : Stand → root (now u0) ≡ uid_number (first_uid (paths u0))
  root_new (unit path is) = ap root (at_new ∙ is) ∙ sym (ap (λ us. uid_number (first_uid us)) (path_new ∙ path))
  root_new (top path is) = ap root (at_new ∙ is) ∙ sym (ap (λ us. uid_number (first_uid us)) (path_new ∙ path))
  root_new (below b k apart path is) =
      ap root (at_new ∙ is) ∙ old.roots (act_of b) ∙ ap (λ us. uid_number (first_uid us)) (found b k)
      ∙ sym (ap (λ us. uid_number (first_uid us)) (path_new ∙ path) ∙ ap uid_number (first_more (uids_of b.path) (path_some b.path)))
    where
      first_more : (us : List Uid) → 1 ≤ length us → first_uid (us ++ u0 ∷ []) ≡ first_uid us
      first_more [] some = absurd (let no_way = some in omega (arith, no_way))
      first_more (v ∷ us) some = refl

  kind_new : IsPlaced (place_of act a a.kind) a.kind
  kind_new = of a.kind refl stands
    where
      at : (k : Kind) → a.kind ≡ k → IsPlaced (place_of act a k) k → IsPlaced (place_of act a a.kind) a.kind
      at k is h = subst (λ (j : Kind). IsPlaced (place_of act a j) j) (sym is) h

      of : (k : Kind) → a.kind ≡ k → Stands acts a k → IsPlaced (place_of act a a.kind) a.kind
      of kind.Top is s = at kind.Top is refl
      of kind.Independent is s = at kind.Independent is refl
      of kind.Serial is s = at kind.Serial is refl
      of kind.Nested is s = at kind.Nested is (
        refl,
        nested_top (act (last_uid (front (uids_of a.path)))) (ap (λ (w : Uid). is_action (act w)) (parent_is s.0 s.3)
            ∙ acts_in (act (act_of s.0)) (let b : Action = s.0 in b.kind) (old.kinds s.0 (in_from s.0 acts s.1)) s.2),
      )
        where
          nested_top : (p : Act) → is_action p ≡ true → is_top (Sub p (suc (uid_number u0))) ≡ false
          nested_top (Root k) e = absurd (cc e)
          nested_top (Sub q j) e = refl
      of kind.Constituent is s = at kind.Constituent is (serial_top (act (last_uid (front (uids_of a.path)))) (ap (λ (w : Uid).
          is_action (act w)) (parent_is s.0 s.3) ∙ subst (IsPlaced (act (act_of s.0))) s.2 (old.kinds s.0 (in_from s.0 acts s.1))))
        where
          serial_top : (p : Act) → is_action p ≡ false → is_top (Sub p (suc (uid_number u0))) ≡ true
          serial_top (Root k) e = refl
          serial_top (Sub q j) e = absurd (cc e)

  kinds_now : (b : Action) → list.In b (a ∷ acts) → IsPlaced (now (act_of b)) b.kind
  kinds_now b (inl is) =
      subst (λ (z : Action). IsPlaced (now (act_of z)) z.kind) is (subst (λ (x : Act). IsPlaced x a.kind) (sym at_new) kind_new)
  kinds_now b (inr i) = subst (λ (x : Act). IsPlaced x b.kind) (sym (at_old (act_of b) (older b (in_to b acts i)))) (old.kinds b i)

  more_placed : Placed (a ∷ acts)
  more_placed = record {
    names = names_now;
    above = above_now;
    filled = filled_now;
    roots = λ u. ⊎_elim (λ (is : u ≡ u0). subst (λ (w : Uid). root (now w) ≡ uid_number (first_uid (paths w))) (sym is) (root_new stand))
        (λ (other : u ≢ u0). ap root (at_old u other) ∙ old.roots u ∙ sym (ap (λ us. uid_number (first_uid us)) (path_old u other)))
        (uid_cases u u0);
    kinds = kinds_now;
    mine = mine_now;
  }

-- ---- all actions

-- a new Uid isn't on the path of another one
off_path : (u : Uid) (acts : List Action) → IsNew u acts → (w : Uid) → w ≢ u → is_on (paths_of acts w) u ≡ false
off_path u [] new w other = λ i. uid_other w u other i || false
off_path u (b ∷ acts) new w other =
    by (uid_eq (act_of b) w) (off_path u acts (λ c k. new c (in_to c (b ∷ acts) (inr (in_from c acts k)))) w other)
  where
    by : (t : Bool) → is_on (paths_of acts w) u ≡ false → is_on (cond t (uids_of b.path) (paths_of acts w)) u ≡ false
    by true ih = new b (in_to b (b ∷ acts) (inl refl))
    by false ih = ih

all_placed : (acts : List Action) → AreBegun acts → Placed acts
all_placed [] begun = none_placed
all_placed (a ∷ acts) begun = let n = begun.0 in
    more_placed a acts n.new n.stands (all_placed acts begun.1) (path_found acts begun.1) (off_path (act_of a) acts n.new)

pub families_are_trees : FamiliesAreTrees
families_are_trees acts begun =
    let p = all_placed acts begun in
    record {
      tree = begun_tree acts begun;
      alike = record {
        one = λ u w is. number_tells u w (sym (p.names u) ∙ ap named is ∙ p.names w);
        above = p.above;
        filled = p.filled;
        units = λ u w is. number_tells (first_uid (paths_of acts u)) (first_uid (paths_of acts w)) (sym (p.roots u) ∙ is ∙ p.roots w);
      };
      begun = begun;
      agree = path_found acts begun;
      placed = λ a k. p.kinds a (in_from a acts k);
    }
