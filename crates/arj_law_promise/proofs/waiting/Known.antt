-- What is known of states, requests and answers gives what a node looks at in a request for which somebody waits.
use Rattle.arj_law_parts.proofs.Words
use Words.{Bool, List, None, Option, Some, [], ap, arith, cond, eqb-true, false, inl, inr, map, not, refl, subst, sym, true, ℕ, ⊎_elim, ◌<◌}
use Words.{◌==◌, ◌∙◌, ◌∷◌, ◌≡◌, ◌≤◌, IfSome, is_some, nat_le, unwrap_or, ◌&&◌, ◌||◌, AllByRecursion, cons_option, Class, Copy, Family, Tree}
use Words.{no_family, Asked, Binding, Header, ObjectState, Op, Uid, object, uid_eq, uid_order, Naming, ObjectLine, Plan, Used, changed_of}
use Words.{state_by, state_for, Kept, Server, is_below, are_of_objects, copy_has_op, is_object, at_number, at_uid, has, class_at, class_in}
use Words.{lacks_op, own_class, has_op, nat_tests, and_parts, false_from_ne_true, or_cases, has_all, in_find, in_find_none, in_from}
use Words.{names_object, uid_is, uid_same, At, AtActivate, AtBind, AtInvoke, AtLoad, AtNote, Goal, Steps, ask_at, next_ask, next_node}
use Words.{Reply, ask_kind, reply_kind, waits_for_call}
use Words.list
use Words.ask
use Rattle.arj_law_promise.proofs.Terms
use Terms.{AreOnce, HasObject, HeaderFits, ObjectLineInForm, IsUsedIn, UsesOf, all_at, keyed_found, first_values, some_is, order_exact}
use Rattle.arj_journal.specs.declared.limits.TheConstants.{OBJECTS}
use Rattle.arj_law_serial.specs.joint.Forms.{CopyIsSo}
use Rattle.arj_model.specs.Last.{object_line, value_of_line}
use Rattle.arj_text.specs.Fields.{IsWithin}
use Rattle.std.proofs.Common.{Equal, Greater, Less, Ordering, filter_map, is_eq}

never : {P : Type 0} {b : Bool} → b ≡ true → b ≡ false → P
never holds fails = let no_way : true ≡ false = sym holds ∙ fails in absurd (cc no_way)

itself : (n : ℕ) → (n == n) ≡ true
itself n = grind arith

-- ---- objects of the header

module _ (hd : Header) (form : HeaderFits hd) where
  -- their numbers are those of objects
  number_is : (x : ℕ) → HasObject hd x → (nat_le 1 x && nat_le x OBJECTS) ≡ true
  number_is x has = by hd.objects (let f = form.objects in f.0) (in_from has.0 hd.objects has.1)
    where
      by : (os : List ObjectLine) → AllByRecursion (ObjectLineInForm hd.nodes) os → list.In has.0 os →
          (nat_le 1 x && nat_le x OBJECTS) ≡ true
      by [] all i = absurd i
      by (o ∷ os) all (inl same) = subst (λ n. (nat_le 1 n && nat_le n OBJECTS) ≡ true) (ap (λ (z : ObjectLine). z.x) same ∙ has.2)
          (within o.x (let f = all.0 in f.number))
        where
          within : (n : ℕ) → IsWithin 1 OBJECTS n → (nat_le 1 n && nat_le n OBJECTS) ≡ true
          within n is = grind (arith, nat_tests, is.0, is.1)
      by (o ∷ os) all (inr old) = by os all.1 old

  pub object_is : (x : ℕ) → HasObject hd x → (u : Uid) → u ≡ object x → is_object u ≡ true
  object_is x has u same =
      subst (λ v. is_object v ≡ true) (sym same) ((λ i. uid_same (object x) i && (nat_le 1 x && nat_le x OBJECTS)) ∙ number_is x has)

  -- the header's class is that of the object's first value
  pub class_is : (x : ℕ) → HasObject hd x → class_at x hd ≡ Some (own_class (first_values hd x))
  class_is x has = by (object_line hd x) refl
    where
      by : (o : Option ObjectLine) → object_line hd x ≡ o → class_in o ≡ Some (own_class (value_of_line o))
      by None none = never (ap (λ y. y == x) has.2 ∙ itself x)
          (in_find_none (λ (p : ObjectLine). p.x == x) has.0 hd.objects none (in_from has.0 hd.objects has.1))
      by (Some o) found = refl

-- a number of a list of which all are so
of_list : (P : ℕ → Type 0) (ns : List ℕ) (x : ℕ) → AllByRecursion P ns → has ns x ≡ true → P x
of_list P [] x all is = absurd (cc is)
of_list P (n ∷ ns) x all is =
    ⊎_elim (λ same. subst P (eqb-true n x same) all.0) (λ rest. of_list P ns x all.1 rest) (or_cases (n == x) (has ns x) is)

-- what a root uses is of the header
pub used_is : (P : ℕ → Type 0) (t : Tree) → UsesOf P t → (k x : ℕ) → IsUsedIn t k x → P x
used_is P t all k x is = of_list P (unwrap_or (at_number k t.families) no_family).objects x
    (all_at (λ (f : Family). AllByRecursion P f.objects) no_family tt k t.families all) is

-- ---- states that are sent to stores

module _ (n : ℕ) (p : Plan) where
  -- what is sent of an object is a state of it
  abbrev Sends : Used → Type 0
  Sends u = (st : ObjectState) → state_for n p u ≡ Some st → st.uid ≡ object u.x

  sends_by : (u : Used) → IfSome u.loaded (λ st. st.uid ≡ object u.x) → Sends u
  sends_by u loaded st = by (changed_of u.x p) refl
    where
      taken : (b : Bool) (o : Option ObjectState) → IfSome o (λ st. st.uid ≡ object u.x) → cond b o None ≡ Some st → st.uid ≡ object u.x
      taken true (Some s) its is = subst (λ (z : ObjectState). z.uid ≡ object u.x) (some_is is) its
      taken true None its is = absurd (cc is)
      taken false o its is = absurd (cc is)

      by : (o : Option ObjectState) → changed_of u.x p ≡ o → state_by n u o ≡ Some st → st.uid ≡ object u.x
      by None none is = taken (has u.joins n) u.loaded loaded is
      by (Some s) found is = taken (has u.stores n || has u.joins n) (Some s)
          (uid_is s.uid (object u.x) (in_find (λ (z : ObjectState). uid_eq z.uid (object u.x)) s p.changed found).1) is

  -- of objects that come later none is among these
  apart : (x : ℕ) (us : List Used) → AllByRecursion Sends us → AllByRecursion (λ (v : Used). x < v.x) us →
      names_object (object x) (filter_map (state_for n p) us) ≡ false
  apart x [] sends above = refl
  apart x (v ∷ us) sends above = by (state_for n p v) refl (apart x us sends.1 above.1)
    where
      by : (o : Option ObjectState) → state_for n p v ≡ o → names_object (object x) (filter_map (state_for n p) us) ≡ false →
          names_object (object x) (cons_option o (filter_map (state_for n p) us)) ≡ false
      by None is ih = ih
      by (Some st) is ih = (λ i. other i || names_object (object x) (filter_map (state_for n p) us)) ∙ ih
        where
          other : uid_eq st.uid (object x) ≡ false
          other = false_from_ne_true (uid_eq st.uid (object x))
              (λ same. lower (ap (λ (u : Uid). u.num) (sym (sends.0 st is) ∙ uid_is st.uid (object x) same)))
            where
              lower : v.x ≡ x → ⊥
              lower e = omega (arith, above.0, e)

  pub are_objects : (P : ℕ → Type 0) → ((x : ℕ) → P x → (u : Uid) → u ≡ object x → is_object u ≡ true) → (us : List Used) →
      AllByRecursion Sends us → AllByRecursion (λ (u : Used). P u.x) us → AreOnce us → are_of_objects (filter_map (state_for n p) us) ≡ true
  are_objects P of [] sends its once = refl
  are_objects P of (u ∷ us) sends its once = by (state_for n p u) refl (are_objects P of us sends.1 its.1 once.1)
    where
      by : (o : Option ObjectState) → state_for n p u ≡ o → are_of_objects (filter_map (state_for n p) us) ≡ true →
          are_of_objects (cons_option o (filter_map (state_for n p) us)) ≡ true
      by None is ih = ih
      by (Some st) is ih = (λ i. of u.x its.0 st.uid (sends.0 st is) i && (not (alone i) && ih i))
        where
          alone : names_object st.uid (filter_map (state_for n p) us) ≡ false
          alone = ap (λ v. names_object v (filter_map (state_for n p) us)) (sends.0 st is) ∙ apart u.x us sends.1 once.0

  pub all_send : (us : List Used) → AllByRecursion (λ (u : Used). IfSome u.loaded (λ st. st.uid ≡ object u.x)) us → AllByRecursion Sends us
  all_send [] all = tt
  all_send (u ∷ us) all = (sends_by u all.0, all_send us all.1)

-- naming has each object that a plan confirms
pub has_each : (o : Naming) (us : List Used) → AllByRecursion (λ (u : Used). is_some (at_number u.x o.objects) ≡ true) us →
    has_all (map {A = Used} {B = ℕ × ℕ} (λ u. (u.x, u.grant)) us) o ≡ true
has_each o [] all = refl
has_each o (u ∷ us) all = λ i. all.0 i && has_each o us all.1 i

-- ---- the operation of a call

pub op_fits : (k : Class) (o : Op) (q : Option Class) → q ≡ Some k → lacks_op o q ≡ false → has_op k o ≡ true
op_fits k o q is fits = by (has_op k o) (ap (lacks_op o) (sym is) ∙ fits)
  where
    by : (b : Bool) → not b ≡ false → b ≡ true
    by true e = refl
    by false e = absurd (cc e)

pub copy_fits : (o : Op) (x : ℕ) (k : Class) (s : Server) → AllByRecursion (λ (e : ℕ × Copy). CopyIsSo x k e.0 e.1) s.objects →
    has_op k o ≡ true → copy_has_op o (at_number x s.objects) ≡ true
copy_fits o x k s all fits = by (at_number x s.objects) refl
  where
    by : (c : Option Copy) → at_number x s.objects ≡ c → copy_has_op o c ≡ true
    by None is = refl
    by (Some c) is = ap (λ z. has_op z o) (let z = keyed_found (CopyIsSo x k) x s.objects c all is refl in z.base) ∙ fits

-- ---- requests

-- what is found in a map is so, under its own key
pub keyed_at : {X : Type 0} (Q : Uid → X → Type 0) (u : Uid) (m : List (Uid × X)) (x : X) → AllByRecursion (λ (e : Uid × X). Q e.0 e.1) m →
    at_uid u m ≡ Some x → Q u x
keyed_at Q u [] x all is = absurd (cc is)
keyed_at {X} Q u (e ∷ es) x all is = by (uid_order u e.0) refl is (keyed_at Q u es x all.1)
  where
    by : (r : Ordering) → uid_order u e.0 ≡ r → cond (is_eq r) (Some e.1) (at_uid u es) ≡ Some x → (at_uid u es ≡ Some x → Q u x) → Q u x
    by Less order at rest = rest at
    by Equal order at rest = subst (λ w. Q w x) (sym (order_exact u e.0 order)) (subst (Q e.0) (some_is at) all.0)
    by Greater order at rest = rest at

-- a step that loads asks for its own object
pub loads_own : (x y : ℕ) (g : Goal) (at : At) → ask.Load y ≡ ask_at x g [] at → y ≡ x
loads_own x y g (AtBind avoid) is = absurd (cc is)
loads_own x y g (AtLoad k n rest) is = cc is
loads_own x y g (AtActivate k st) is = absurd (cc is)
loads_own x y g (AtNote k i) is = absurd (cc is)
loads_own x y g (AtInvoke k i) is = absurd (cc is)

-- and one that binds
pub binds_own : (x y : ℕ) (include : Bool) (avoid : Binding) (g : Goal) (at : At) → ask.Bind y include avoid ≡ ask_at x g [] at → y ≡ x
binds_own x y include avoid g (AtBind b) is = cc is
binds_own x y include avoid g (AtLoad k n rest) is = absurd (cc is)
binds_own x y include avoid g (AtActivate k st) is = absurd (cc is)
binds_own x y include avoid g (AtNote k i) is = absurd (cc is)
binds_own x y include avoid g (AtInvoke k i) is = absurd (cc is)

-- no request of a later number
pub not_below : (req : ℕ) (k : Kept) → k.req ≤ req → is_below req (Some k) ≡ false
not_below req k le = grind (arith, le)

-- what waits for this answer asked by its number
pub waits_req : (from : ℕ) (a : Asked) (r : Reply) (s : Steps) → waits_for_call from a r s ≡ true → s.req ≡ a.req
waits_req from a r s waits =
    eqb-true s.req a.req (and_parts (s.req == a.req) ((reply_kind r == ask_kind (next_ask [] s)) && (next_node s == from)) waits).0
