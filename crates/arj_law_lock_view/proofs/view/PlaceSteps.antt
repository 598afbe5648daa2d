-- Where actions that were begun stand, in the protocol and in the machine.
use Rattle.arj_law_parts.proofs.Words
use Words.{◌≡◌, ◌≢◌, ◌≤◌, ◌∙◌, ◌++◌, ◌+◌, ◌||◌, ℕ, List, [], ◌∷◌, length, take, Bool, true, false, Some, refl, sym, ap, subst, inl, inr}
use Words.{⊎_elim, Contains, arith, list_any, or_cases, length-append, take-append-le, before_last, uid_is, in_from, in_to, which, Kind}
use Words.{Row, Uid, first_uid, is_on, tops_of, uid_eq, uids_of, Copy, is_top_in, Server, is_top}
use Words.list
use Words.kind
use Rattle.arj_law_lock_view.proofs.Terms
use Terms.{Act, Root, Sub, depth, is_action, on, root, State, differ, not_below, on_above, on_base, on_root, on_self, on_trans, on_up}
use Terms.{root_is, same_is, top_action, Action, AreBegun, Stands, act_of, on_more, one_action, path_length, path_some, serial_alone}
use Terms.{where_stands, IsPlaced, IsCaller, IsDeep, IsAlone, IsRightBelow, AreOneTree, Family, IsOfFamily}
use Rattle.arj_law_lock_view.proofs.view.TreeSteps.{first_on}
use Rattle.arj_law_lock_view.specs.view.Telling.{is_plain}
use Rattle.arj_law_parts.proofs.parts.Begun.{before_more}
use Rattle.arj_law_lock.specs.machine.Actions as machine

-- ---- the first Uids of a path

-- the Uids of a path up to its top are of actions that were begun, none of them nested
pub leads : (acts : List Action) → AreBegun acts → (d : Action) → list.In d acts → (u : Uid) →
    is_on (take (tops_of d.path) (uids_of d.path)) u ≡ true → (b : Action) × list.In b acts × (act_of b ≡ u) × (b.kind ≢ kind.Nested)
leads [] begun d i u above = absurd i
leads (a ∷ acts) begun d (inr i) u above = let f = leads acts begun.1 d i u above in (f.0, inr f.1, f.2, f.3)
leads (a ∷ acts) begun d (inl is) u above = of (leads acts begun.1) a.kind refl (let new = begun.0 in
    new.stands) (subst (λ (z : Action). is_on (take (tops_of z.path) (uids_of z.path)) u ≡ true) (sym is) above)
  where
    Found : Type 0
    Found = (b : Action) × list.In b (a ∷ acts) × (act_of b ≡ u) × (b.kind ≢ kind.Nested)

    one : is_on (act_of a ∷ []) u ≡ true → act_of a ≡ u
    one o = ⊎_elim (λ same. uid_is (act_of a) u same) (λ none. absurd (cc none)) (or_cases (uid_eq (act_of a) u) false o)

    alone : uids_of a.path ≡ act_of a ∷ [] → tops_of a.path ≡ 1 → is_on (take (tops_of a.path) (uids_of a.path)) u ≡ true → act_of a ≡ u
    alone path tops o = one (subst (λ (us : List Uid). is_on us u ≡ true) (λ j. take (tops j) (path j)) o)

    of : ((d : Action) → list.In d acts → (w : Uid) → is_on (take (tops_of d.path) (uids_of d.path)) w ≡ true →
        (b : Action) × list.In b acts × (act_of b ≡ w) × (b.kind ≢ kind.Nested)) → (k : Kind) → a.kind ≡ k → Stands acts a k →
        is_on (take (tops_of a.path) (uids_of a.path)) u ≡ true → Found
    of ih kind.Top kind_is s o = (a, inl refl, alone s.0 s.1 o, λ nested. cc (sym kind_is ∙ nested))
    of ih kind.Serial kind_is s o = (a, inl refl, alone s.0 s.1 o, λ nested. cc (sym kind_is ∙ nested))
    of ih kind.Independent kind_is s o = (a, inl refl, alone s.0 s.1 o, λ nested. cc (sym kind_is ∙ nested))
    of ih kind.Nested kind_is s o =
        let b : Action = s.0 in
        let inside : tops_of b.path ≤ length (uids_of b.path) = omega (arith, b.path.within, path_length b.path) in
        let same : take (tops_of a.path) (uids_of a.path) ≡ take (tops_of b.path) (uids_of b.path) = (λ j. take (s.4 j) (s.3 j))
        ∙ take-append-le (tops_of b.path) (uids_of b.path) (act_of a ∷ []) inside in
        let f = ih b (in_from b acts s.1) u (subst (λ (us : List Uid). is_on us u ≡ true) same o) in
        (f.0, inr f.1, f.2, f.3)
    of ih kind.Constituent kind_is s o =
        let b : Action = s.0 in
        let up = serial_alone acts begun.1 b (in_from b acts s.1) s.2 in
        let path : uids_of a.path ≡ act_of b ∷ act_of a ∷ [] = s.3 ∙ ap (λ us. us ++ act_of a ∷ []) up.0 in
        ⊎_elim (λ same. (b, inr (in_from b acts s.1), uid_is (act_of b) u same, λ nested. cc (sym s.2 ∙ nested)))
        (λ rest. (a, inl refl, one rest, λ nested. cc (sym kind_is ∙ nested)))
        (or_cases (uid_eq (act_of b) u) (is_on (act_of a ∷ []) u)
        (subst (λ (us : List Uid). is_on us u ≡ true) (λ j. take (s.4 j) (path j)) o))

-- ---- paths of the machine

split : (a : Act) → is_action a ≡ true → (p : Act) × (j : ℕ) × (a ≡ Sub p j)
split (Root k) is = absurd (cc is)
split (Sub p j) is = (p, j, refl)

top_split : (a : Act) → machine.is_top a ≡ true → (k : ℕ) × (j : ℕ) × (a ≡ Sub (Root k) j)
top_split (Root k) is = absurd (cc is)
top_split (Sub (Root k) j) is = (k, j, refl)
top_split (Sub (Sub p i) j) is = absurd (cc is)

pub acts_in : (a : Act) (k : Kind) → IsPlaced a k → k ≢ kind.Serial → is_action a ≡ true
acts_in a kind.Top placed unlike = top_action a placed
acts_in a kind.Independent placed unlike = top_action a placed
acts_in a kind.Constituent placed unlike = top_action a placed
acts_in a kind.Nested placed unlike = placed.0
acts_in a kind.Serial placed unlike = absurd (unlike refl)

-- How a committed action stands: nested in another one, a constituent, or a unit of its own.
pub data Stood (g : Family) (a : Action) (S : State) : Type 0 where
  nested : (h : Uid) → a.kind ≡ kind.Nested → IsRightBelow g.act g.paths (act_of a) h S → is_action (g.act h) ≡ true → Stood g a S
  constituent : (h : Uid) (unit : ℕ) → a.kind ≢ kind.Nested → IsRightBelow g.act g.paths (act_of a) h S → g.act h ≡ Root unit → Stood g a S
  alone : a.kind ≢ kind.Nested → IsAlone g.act (act_of a) S → Stood g a S

module _ (g : Family) (all : AreOneTree g) where
  abbrev act : Uid → Act
  act = g.act

  abbrev paths : Uid → List Uid
  paths = g.paths

  on_path : (u : Uid) → is_on (paths u) u ≡ true
  on_path u = sym (all.alike.above u u) ∙ on_self (act u)

  -- where an action stands right below another one, it does so in the machine
  below : (u h : Uid) → paths u ≡ paths h ++ u ∷ [] → before_last (paths u) ≡ Some h → (p : Act) (j : ℕ) → act u ≡ Sub p j → p ≡ act h
  below u h path parent p j is = by p refl
    where
      -- the parent isn't below itself
      other : (u ≡ h) → ⊥
      other same = let up = all.tree.heir u h parent in
          differ (on_path u) (ap (λ (v : Uid). is_on (paths v) u) same ∙ ap (λ us. is_on us u) (sym up.0) ∙ up.1)

      up : on (act u) (act h) ≡ true
      up = all.alike.above u h ∙ ap (λ us. is_on us h) path ∙ in_more (paths h) (on_path h)
        where
          in_more : (us : List Uid) → is_on us h ≡ true → is_on (us ++ u ∷ []) h ≡ true
          in_more [] o = absurd (cc o)
          in_more (w ∷ us) o = more (uid_eq w h) (in_more us) o
            where
              more : (b : Bool) → (is_on us h ≡ true → is_on (us ++ u ∷ []) h ≡ true) → (b || is_on us h) ≡ true →
                  (b || is_on (us ++ u ∷ []) h) ≡ true
              more true ih k = refl
              more false ih k = ih k

      above_h : on p (act h) ≡ true
      above_h = ⊎_elim (λ same. absurd (other (all.alike.one u h (is ∙ sym same)))) (λ o. o)
          (on_up p j (act h) (ap (λ (b : Act). on b (act h)) (sym is) ∙ up))

      by : (q : Act) → p ≡ q → p ≡ act h
      by (Root k) root_too = root_too ∙ same_is (Root k) (act h) (ap (λ (b : Act). on b (act h)) (sym root_too) ∙ above_h)
      by (Sub q i) sub =
          let over : on (act u) p ≡ true = ap (λ (b : Act). on b p) is ∙ on_above p j p (on_self p) in
          let w = all.alike.filled u p over (ap is_action sub) in
          let far : is_on (paths w.0) h ≡ true = sym (all.alike.above w.0 h) ∙ ap (λ (b : Act). on b (act h)) (sym w.1) ∙ above_h in
          let near : is_on (paths u) w.0 ≡ true = sym (all.alike.above u w.0) ∙ ap (on (act u)) (sym w.1) ∙ over in
          let apart : (u ≡ w.0) → ⊥ = λ same.
          differ (ap (λ (b : Act). on b (Sub p j)) (w.1 ∙ ap act (sym same) ∙ is) ∙ on_self (Sub p j)) (not_below p j) in
          let under : is_on (paths h) w.0 ≡ true = ⊎_elim (λ o. o) (λ same. absurd (apart same))
          (on_more (paths h) u w.0 (ap (λ us. is_on us w.0) (sym path) ∙ near)) in
          w.1 ∙ ap act (all.tree.anti w.0 h far under)

  -- so does one that was begun
  sub_of : (a : Action) → Contains g.begun a → a.kind ≢ kind.Serial → (b : Action) → Contains g.begun b → uids_of a.path ≡ uids_of b.path
      ++ act_of a ∷ [] → (j : ℕ) × (act (act_of a) ≡ Sub (act (act_of b)) j) × (before_last (paths (act_of a)) ≡ Some (act_of b))
  sub_of a i unserial b k path =
      let its : paths (act_of a) ≡ paths (act_of b) ++ act_of a ∷ [] = all.agree a i ∙ path
      ∙ ap (λ us. us ++ act_of a ∷ []) (sym (all.agree b k)) in
      let parent : before_last (paths (act_of a)) ≡ Some (act_of b) = ap before_last (all.agree a i ∙ path)
      ∙ before_more (uids_of b.path) (act_of a) (path_some b.path) in
      let s = split (act (act_of a)) (acts_in (act (act_of a)) a.kind (all.placed a i) unserial) in
      (s.1, s.2 ∙ ap (λ (p : Act). Sub p s.1) (below (act_of a) (act_of b) its parent s.0 s.1 s.2), parent)

  -- the machine has it as deep below its unit as it stands below its top
  deep_in : (acts : List Action) → AreBegun acts → ((b : Action) → list.In b acts → Contains g.begun b) → (a : Action) → list.In a acts →
      a.kind ≢ kind.Serial → IsDeep act (uids_of a.path) (tops_of a.path)
  deep_in [] begun there a i unserial = absurd i
  deep_in (c ∷ acts) begun there a (inr i) unserial = deep_in acts begun.1 (λ b j. there b (inr j)) a i unserial
  deep_in (c ∷ acts) begun there a (inl is) unserial = subst (λ (z : Action). IsDeep act (uids_of z.path) (tops_of z.path)) is
      (of (deep_in acts begun.1 (λ b j. there b (inr j))) c.kind refl (let new = begun.0 in new.stands) (all.placed c (there c (inl refl))))
    where
      mine : Contains g.begun c
      mine = there c (inl refl)

      unserial_too : c.kind ≢ kind.Serial
      unserial_too serial = unserial (ap (λ (z : Action). z.kind) (sym is) ∙ serial)

      one_deep : machine.is_top (act (act_of c)) ≡ true → depth (act (act_of c)) ≡ 1
      one_deep top = let s = top_split (act (act_of c)) top in ap depth s.2

      alone_deep : uids_of c.path ≡ act_of c ∷ [] → tops_of c.path ≡ 1 → machine.is_top (act (act_of c)) ≡ true →
          IsDeep act (uids_of c.path) (tops_of c.path)
      alone_deep path tops top = let l = ap length path in let k = one_deep top in omega (arith, l, tops, k)

      of : ((b : Action) → list.In b acts → b.kind ≢ kind.Serial → IsDeep act (uids_of b.path) (tops_of b.path)) → (k : Kind) →
          c.kind ≡ k → Stands acts c k → IsPlaced (act (act_of c)) k → IsDeep act (uids_of c.path) (tops_of c.path)
      of ih kind.Top kind_is s top = alone_deep s.0 s.1 top
      of ih kind.Independent kind_is s top = alone_deep s.0 s.1 top
      of ih kind.Serial kind_is s placed = absurd (unserial_too kind_is)
      of ih kind.Constituent kind_is s top =
          let b : Action = s.0 in
          let up = serial_alone acts begun.1 b (in_from b acts s.1) s.2 in
          let l : length (uids_of c.path) ≡ 2 = ap length (s.3 ∙ ap (λ us. us ++ act_of c ∷ []) up.0) in
          let k = one_deep top in
          let t : tops_of c.path ≡ 2 = s.4 in
          omega (arith, l, t, k)
      of ih kind.Nested kind_is s placed =
          let b : Action = s.0 in
          let j = in_from b acts s.1 in
          let under = ih b j s.2 in
          let l : length (uids_of c.path) ≡ length (uids_of b.path) + 1 = ap length s.3 ∙ length-append (uids_of b.path) (act_of c ∷ []) in
          let t : tops_of c.path ≡ tops_of b.path = s.4 in
          let f = sub_of c mine unserial_too b (there b (inr j)) s.3 in
          let d : depth (act (act_of c)) ≡ depth (act (act_of b)) + 1 = ap depth f.1 in
          omega (arith, under, l, t, d)

  -- so it may call
  pub caller_of : (a : Action) → Contains g.begun a → a.kind ≢ kind.Serial → IsCaller act a.path
  caller_of a i unserial = record {
    along = record {
      above = λ w o. all.alike.above (act_of a) w ∙ ap (λ us. is_on us w) (all.agree a i) ∙ o;
      alone = λ w o. ap (λ us. is_on us w) (sym (all.agree a i)) ∙ sym (all.alike.above (act_of a) w) ∙ o;
    };
    deep = deep_in g.begun all.begun (λ b j. in_to b g.begun j) a (in_from a g.begun i) unserial;
  }

  module _ (a : Action) (i : Contains g.begun a) (unserial : a.kind ≢ kind.Serial) (S : State)
      (committed : (let z = S.action (act (act_of a)) in z.stage) ≡ 3) where
    abbrev u : Uid
    u = act_of a

    stands_below : (b : Action) → Contains g.begun b → uids_of a.path ≡ uids_of b.path ++ u ∷ [] → IsRightBelow act paths u (act_of b) S
    stands_below b k path = let s = sub_of a i unserial b k path in
        record { number = s.0; below = s.1; parent = s.2; committed = committed }

    stands_alone : uids_of a.path ≡ u ∷ [] → machine.is_top (act u) ≡ true → (let z = S.action (Root (root (act u))) in z.stage) ≡ 3 →
        IsAlone act u S
    stands_alone path top over =
        let s = top_split (act u) top in
        let unit_is : root (act u) ≡ s.0 = ap root s.2 in
        record {
          unit = s.0;
          number = s.1;
          below = s.2;
          alone = λ w. lone w s.0 unit_is (on (act w) (act u)) refl;
          committed = committed;
          over = ap (λ (k : ℕ). (let z = S.action (Root k) in z.stage)) (sym unit_is) ∙ over;
        }
      where
        lone : (w : Uid) (k : ℕ) → root (act u) ≡ k → (b : Bool) → on (act w) (act u) ≡ b → on (act w) (Root k) ≡ b
        lone w k is true o = on_trans (act w) (act u) (Root k) o (ap (λ (j : ℕ). on (act u) (Root j)) (sym is) ∙ on_base (act u))
        lone w k is false o = no (on (act w) (Root k)) refl
          where
            some : (us : List Uid) → is_on us w ≡ true → 1 ≤ length us
            some [] e = absurd (cc e)
            some (v ∷ us) e = omega arith

            no : (b : Bool) → on (act w) (Root k) ≡ b → b ≡ false
            no false e = refl
            no true e =
                let first : first_uid (paths u) ≡ first_uid (paths w) = all.alike.units u w (is ∙ sym (on_root (act w) (Root k) e)) in
                let mine : first_uid (paths w) ≡ u = sym first ∙ ap first_uid (all.agree a i ∙ path) in
                let there : is_on (paths w) u ≡ true = ap (is_on (paths w)) (sym mine) ∙ first_on (paths w) (some (paths w) (on_path w)) in
                absurd (differ (all.alike.above w u ∙ there) o)

    pub stood : (is_plain a.kind ≡ true → (let z = S.action (Root (root (act u))) in z.stage) ≡ 3) → Stood g a S
    stood over = of a.kind refl (where_stands g.begun all.begun a (in_from a g.begun i)) (all.placed a i)
      where
        of : (k : Kind) → a.kind ≡ k → Stands g.begun a k → IsPlaced (act u) k → Stood g a S
        of kind.Top is s top = alone (λ nest. cc (sym is ∙ nest)) (stands_alone s.0 top (over (ap is_plain is)))
        of kind.Independent is s top = alone (λ nest. cc (sym is ∙ nest)) (stands_alone s.0 top (over (ap is_plain is)))
        of kind.Serial is s placed = absurd (unserial is)
        of kind.Nested is s placed = nested (act_of s.0) is (stands_below s.0 s.1 s.3)
            (acts_in (act (act_of s.0)) (let b : Action = s.0 in b.kind) (all.placed s.0 s.1) s.2)
        of kind.Constituent is s placed =
            let serial : is_action (act (act_of s.0)) ≡ false = subst (IsPlaced (act (act_of s.0))) s.2 (all.placed s.0 s.1) in
            constituent (act_of s.0) (root (act (act_of s.0))) (λ nest. cc (sym is ∙ nest)) (stands_below s.0 s.1 s.3)
            (root_is (act (act_of s.0)) serial)

  -- ---- in which locks an action is a top

  some_in : {X : Type 0} (p : X → Bool) (xs : List X) → list_any p xs ≡ true → (y : X) × list.In y xs × (p y ≡ true)
  some_in p [] e = absurd (cc e)
  some_in {X} p (y ∷ ys) e = by (p y) refl e (some_in p ys)
    where
      by : (b : Bool) → p y ≡ b → (b || list_any p ys) ≡ true → (list_any p ys ≡ true → (z : X) × list.In z ys × (p z ≡ true)) →
          (z : X) × list.In z (y ∷ ys) × (p z ≡ true)
      by true is h rest = (y, inl refl, is)
      by false is h rest = let f = rest h in (f.0, inr f.1, f.2)

  module _ (s : Server) (of : IsOfFamily g s) (a : Action) (i : Contains g.begun a) where
    other_kind : (b : Action) → list.In b g.begun → act_of b ≡ act_of a → b.kind ≢ kind.Nested → a.kind ≢ kind.Nested
    other_kind b j same unlike nest =
        unlike (ap (λ (z : Action). z.kind) (one_action g.begun all.begun b a j (in_from a g.begun i) same) ∙ nest)

    leads_here : (r : Row) (d : Action) → Contains g.begun d → r.holder ≡ uids_of d.path → r.tops ≡ tops_of d.path →
        is_on (take r.tops r.holder) (act_of a) ≡ true → a.kind ≢ kind.Nested
    leads_here r d k holder tops above = let b = leads g.begun all.begun d (in_from d g.begun k) (act_of a)
        (subst (λ (us : List Uid). is_on us (act_of a) ≡ true) (λ j. take (tops j) (holder j)) above) in other_kind b.0 b.1 b.2 b.3

    top_here : (y : ℕ) (c : Copy) → list.In {X = ℕ × Copy} (y, c) s.objects → is_top_in (act_of a) c.rows ≡ true → a.kind ≢ kind.Nested
    top_here y c j top =
        let r = which (λ (q : Row). is_on (take q.tops q.holder) (act_of a)) c.rows top in
        let d = of.knows.rows y c r.0 (of.listed y c (in_to {X = ℕ × Copy} (y, c) s.objects j)) (in_to r.0 c.rows r.1) in
        leads_here r.0 d.0 d.1 d.2 d.3 r.2

    -- a nested one in none
    pub nested_no_top : a.kind ≡ kind.Nested → is_top (act_of a) s ≡ false
    nested_no_top nest = by (is_top (act_of a) s) refl
      where
        by : (b : Bool) → is_top (act_of a) s ≡ b → b ≡ false
        by false is = refl
        by true is = let f = some_in (λ (e : ℕ × Copy). is_top_in (act_of a) e.1.rows) s.objects is in
            absurd (top_here f.0.0 f.0.1 f.1 f.2 nest)
