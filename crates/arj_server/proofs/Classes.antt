-- Ends and operations keep each copy of one class, and the class of each copy.
use Rattle.std.proofs.Common.{◌≡◌, ℕ, Bool, true, false, not, List, [], ◌∷◌, Option, Some, None, cond, filter, find, length, min, refl, ap}
use Rattle.std.proofs.Common.{sym, ◌∙◌, subst}
use Rattle.std.specs.Prelude.{IfSome, Result, Ok, Err, OnOk, OnErr}
use Rattle.std.specs.List.{AllByRecursion}
use Rattle.std.specs.List.Sorted.{IsStrictlySortedBy}
use Rattle.std.specs.Map.{keys_of}
use Rattle.std.specs.Cmp.{nat_cmp_total}
use Rattle.std.specs.FinMap.{nat_cmp-IsAntisymmetric}
use Rattle.std.specs.Ordering.{nat_cmp, is_eq, match_ordering}
use Rattle.std.specs.declared.cmp.Ordering.{Ordering}
use Rattle.std.specs.declared.cmp.Ordering.TheVariants.{Less, Equal, Greater}
use Rattle.arj_base.specs.Path.{uids_of, tops_of}
use Rattle.arj_base.specs.Rows.{Row, first_conflict, front, is_on, last_uid}
use Rattle.arj_base.specs.Uid.{object}
use Rattle.arj_base.specs.declared.mode.End.{End}
use Rattle.arj_base.specs.declared.mode.End.TheVariants as ending
use Rattle.arj_base.specs.declared.path.Path.{Path}
use Rattle.arj_base.specs.declared.state.Class.{Class}
use Rattle.arj_base.specs.declared.uid.Uid.{Uid}
use Rattle.arj_class.specs.Table.{own_class, has_op, op_mode, value_after, writes}
use Rattle.arj_class.specs.declared.op.Op.{Op}
use Rattle.arj_class.specs.declared.value.Value.{Value}
use Rattle.arj_manager.specs.Manager.{invoke_at, invoke_in, ended}
use Rattle.arj_protocol.specs.Copy.{Base, Copy, Over, ask_copy, current, end_copy, folded, invoke_copy, is_of, is_top_over, over_of}
use Rattle.arj_protocol.specs.Copy.{overs_committed, settled, written}
use Rattle.arj_protocol.specs.Order.{at_number, put_number}
use Rattle.arj_protocol.specs.Server.{Server, apply_ends, end_new, end_one, is_told, taken_end}
use Rattle.arj_server.specs.Classes.{AreCopies, AreOfOneClass, ClassIs, HasOp, IsOfOneClass, MayDo}

-- each overlay is of this class
abbrev AllOf : Class → List Over → Type 0
AllOf k es = AllByRecursion (λ (o : Over). own_class o.value ≡ k) es

of_filter : (k : Class) (test : Over → Bool) (es : List Over) → AllOf k es → AllOf k (filter test es)
of_filter k test [] all = tt
of_filter k test (e ∷ es) all = by (test e) (of_filter k test es all.1)
  where
    by : (b : Bool) → AllOf k (filter test es) → AllOf k (cond b (e ∷ filter test es) (filter test es))
    by true more = (all.0, more)
    by false more = more

of_found : (k : Class) (test : Over → Bool) (es : List Over) → AllOf k es → IfSome (find test es) (λ e. own_class e.value ≡ k)
of_found k test [] all = tt
of_found k test (e ∷ es) all = by (test e) (of_found k test es all.1)
  where
    by : (b : Bool) → IfSome (find test es) (λ f. own_class f.value ≡ k) →
        IfSome (cond b (Some e) (find test es)) (λ f. own_class f.value ≡ k)
    by true more = all.0
    by false more = more

of_written : (k : Class) (holder : List Uid) (tops : ℕ) (v : Value) (es : List Over) → own_class v ≡ k → AllOf k es →
    AllOf k (written holder tops v es)
of_written k holder tops v [] is all = (is, tt)
of_written k holder tops v (e ∷ es) is all = by (is_of (last_uid holder) e)
  where
    by : (b : Bool) → AllOf k (cond b (record e { value = v } ∷ es) (record { holder = holder; tops = tops; value = v } ∷ e ∷ es))
    by true = (is, all.1)
    by false = (is, all)

of_folded : (k : Class) (u : Uid) (es : List Over) → AllOf k es → AllOf k (folded u es)
of_folded k u [] all = tt
of_folded k u (e ∷ es) all = by (is_of u e)
  where
    by : (b : Bool) → AllOf k (cond b (written (front e.holder) (min e.tops (length (front e.holder))) e.value es) (e ∷ es))
    by true = of_written k (front e.holder) (min e.tops (length (front e.holder))) e.value es all.0 all.1
    by false = all

-- a copy is of one class, this one
abbrev Is : Class → Copy → Type 0
Is k c = (own_class c.base.value ≡ k) × AllOf k c.stack

is_of_its : (c : Copy) → IsOfOneClass c → Is (own_class c.base.value) c
is_of_its c one = (refl, one)

of_its : (k : Class) (c : Copy) → Is k c → IsOfOneClass c
of_its k c is = subst (λ k. AllOf k c.stack) (sym is.0) is.1

class_current : (k : Class) (base : Base) (es : List Over) → own_class base.value ≡ k → AllOf k es → own_class (current base es) ≡ k
class_current k base [] is all = is
class_current k base (e ∷ es) is all = all.0

of_committed : (k : Class) (u : Uid) (c : Copy) (own : Option Over) → Is k c → IfSome own (λ e. own_class e.value ≡ k) →
    Is k (overs_committed u own c)
of_committed k u c None is found = is
of_committed k u c (Some e) is found = by (is_top_over e)
  where
    by : (b : Bool) → Is k (cond b (settled u e c) (record c { stack = folded u c.stack }))
    by true = (found, of_filter k (λ o. not (is_of u o)) c.stack is.1)
    by false = (is.0, of_folded k u c.stack is.1)

-- an end keeps the class
of_ended : (k : Class) (u : Uid) (e : End) (c : Copy) → Is k c → Is k (end_copy u e c)
of_ended k u ending.Abort c is = (is.0, of_filter k (λ o. not (is_on o.holder u)) c.stack is.1)
of_ended k u ending.Commit c is = let d = of_committed k u c (over_of u c.stack) is (of_found k (is_of u) c.stack is.1) in (d.0, d.1)

-- and so does an operation
of_asked : ((op : Op) (v : Value) → own_class (value_after op v) ≡ own_class v) →
    (k : Class) (n : ℕ) (p : Path) (x : ℕ) (op : Op) (c : Copy) (met : Option Row) → Is k c → Is k (ask_copy n p x op c met).part
of_asked keeps k n p x op c (Some r) is = is
of_asked keeps k n p x op c None is = (is.0, by (writes op))
  where
    by : (b : Bool) → AllOf k (cond b (written (uids_of p) (tops_of p) (value_after op (current c.base c.stack)) c.stack) c.stack)
    by true = of_written k (uids_of p) (tops_of p) (value_after op (current c.base c.stack)) c.stack (keeps op (current c.base c.stack) ∙ class_current k c.base c.stack is.0 is.1) is.1
    by false = is.1

-- ---- all copies

pub of_put : (x : ℕ) (c : Copy) (m : List (ℕ × Copy)) → AreOfOneClass m → IsOfOneClass c → AreOfOneClass (put_number x c m)
of_put x c [] all one = (one, tt)
of_put x c (e ∷ m) all one = by (nat_cmp x e.0) (of_put x c m all.1 one)
  where
    by : (r : Ordering) → AreOfOneClass (put_number x c m) →
        AreOfOneClass (match_ordering r ((x, c) ∷ e ∷ m) ((e.0, c) ∷ m) (e ∷ put_number x c m))
    by Less more = (one, all)
    by Equal more = (one, all.1)
    by Greater more = (all.0, more)

of_at : (x : ℕ) (m : List (ℕ × Copy)) → AreOfOneClass m → IfSome (at_number x m) IsOfOneClass
of_at x [] all = tt
of_at x (e ∷ m) all = by (is_eq (nat_cmp x e.0)) (of_at x m all.1)
  where
    by : (b : Bool) → IfSome (at_number x m) IsOfOneClass → IfSome (cond b (Some e.1) (at_number x m)) IsOfOneClass
    by true more = all.0
    by false more = more

of_each : (u : Uid) (e : End) (m : List (ℕ × Copy)) → AreOfOneClass m → AreOfOneClass (ended u e m)
of_each u e [] all = tt
of_each u e (f ∷ m) all =
    (of_its (own_class f.1.base.value) (end_copy u e f.1) (of_ended (own_class f.1.base.value) u e f.1 (is_of_its f.1 all.0)), of_each u e m all.1)

pub of_invoked : ((op : Op) (v : Value) → own_class (value_after op v) ≡ own_class v) →
    (n : ℕ) (p : Path) (x : ℕ) (op : Op) (m : List (ℕ × Copy)) → AreOfOneClass m → AreOfOneClass (invoke_in n p x op m).part
of_invoked keeps n p x op m all = by (at_number x m) (of_at x m all)
  where
    by : (found : Option Copy) → IfSome found IsOfOneClass → AreOfOneClass (invoke_at n p x op m found).part
    by None one = all
    by (Some c) one =
        of_put x (invoke_copy n p x op c).part m all
        (of_its (own_class c.base.value) (invoke_copy n p x op c).part (of_asked keeps (own_class c.base.value) n p x op c (first_conflict (uids_of p) (object x) (op_mode op) c.rows) (is_of_its c one)))

-- ---- ends keep the class of an object

module _ (x : ℕ) (P : Class → Type 0) where
  class_each : (u : Uid) (e : End) (m : List (ℕ × Copy)) → AreOfOneClass m → ClassIs x P m → ClassIs x P (ended u e m)
  class_each u e [] all has = tt
  class_each u e (f ∷ m) all has = by (is_eq (nat_cmp x f.0)) (class_each u e m all.1) has
    where
      by : (b : Bool) → (ClassIs x P m → ClassIs x P (ended u e m)) →
          IfSome (cond b (Some f.1) (at_number x m)) (λ c. P (own_class c.base.value))
          → IfSome (cond b (Some (end_copy u e f.1)) (at_number x (ended u e m))) (λ c. P (own_class c.base.value))
      by true more is = subst P (sym (of_ended (own_class f.1.base.value) u e f.1 (is_of_its f.1 all.0)).0) is
      by false more is = more is

  abbrev Both : List (ℕ × Copy) → Type 0
  Both m = AreOfOneClass m × ClassIs x P m

  class_one : (n : ℕ) (u : Uid) (e : End) (s : Server) → Both s.objects → Both (end_one n u e s).part.objects
  class_one n u e s both = by (is_told u s)
    where
      new : Both (end_new n u (taken_end u e s) s).part.objects
      new = (of_each u (taken_end u e s) s.objects both.0, class_each u (taken_end u e s) s.objects both.0 both.1)

      by : (b : Bool) → Both (cond b (record { part = s; outs = [] }) (end_new n u (taken_end u e s) s)).part.objects
      by true = both
      by false = new

  pub class_ends : (n : ℕ) (ends : List (Uid × End)) (s : Server) → Both s.objects → Both (apply_ends n ends s).part.objects
  class_ends n [] s both = both
  class_ends n (e ∷ es) s both = class_ends n es (end_one n e.0 e.1 s).part (class_one n e.0 e.1 s both)

  -- a copy that is put in
  pub class_put : (y : ℕ) (c : Copy) (m : List (ℕ × Copy)) → (x ≡ y → P (own_class c.base.value)) → ClassIs x P m →
      ClassIs x P (put_number y c m)
  class_put y c [] is has = by (nat_cmp x y) refl
    where
      by : (r : Ordering) → nat_cmp x y ≡ r → IfSome (cond (is_eq r) (Some c) None) (λ c. P (own_class c.base.value))
      by Less e = tt
      by Equal e = is (nat_cmp-IsAntisymmetric x y e)
      by Greater e = tt
  class_put y c (e ∷ m) is has = by (nat_cmp y e.0) refl (class_put y c m is)
    where
      here : (k : ℕ) (rest : List (ℕ × Copy)) → y ≡ k → ClassIs x P rest → ClassIs x P ((k, c) ∷ rest)
      here k rest same has = at (nat_cmp x k) refl
        where
          at : (r : Ordering) → nat_cmp x k ≡ r → IfSome (cond (is_eq r) (Some c) (at_number x rest)) (λ c. P (own_class c.base.value))
          at Less e = has
          at Equal e = is (nat_cmp-IsAntisymmetric x k e ∙ sym same)
          at Greater e = has

      by : (r : Ordering) → nat_cmp y e.0 ≡ r → (ClassIs x P m → ClassIs x P (put_number y c m)) →
          ClassIs x P (match_ordering r ((y, c) ∷ e ∷ m) ((e.0, c) ∷ m) (e ∷ put_number y c m))
      by Less r ih = here y (e ∷ m) refl has
      by Equal r ih = same (nat_cmp x e.0) refl has
        where
          same : (q : Ordering) → nat_cmp x e.0 ≡ q → IfSome (cond (is_eq q) (Some e.1) (at_number x m)) (λ c. P (own_class c.base.value)) →
              IfSome (cond (is_eq q) (Some c) (at_number x m)) (λ c. P (own_class c.base.value))
          same Less q has = has
          same Equal q has = is (nat_cmp-IsAntisymmetric x e.0 q ∙ sym (nat_cmp-IsAntisymmetric y e.0 r))
          same Greater q has = has
      by Greater r ih = later (is_eq (nat_cmp x e.0)) ih has
        where
          later : (b : Bool) → (ClassIs x P m → ClassIs x P (put_number y c m)) →
              IfSome (cond b (Some e.1) (at_number x m)) (λ c. P (own_class c.base.value)) →
              IfSome (cond b (Some e.1) (at_number x (put_number y c m))) (λ c. P (own_class c.base.value))
          later true more has = has
          later false more has = more has

  base_same : (n : ℕ) (p : Path) (y : ℕ) (op : Op) (c : Copy) (met : Option Row) → (ask_copy n p y op c met).part.base ≡ c.base
  base_same n p y op c None = refl
  base_same n p y op c (Some r) = refl

  pub class_invoked : (n : ℕ) (p : Path) (y : ℕ) (op : Op) (m : List (ℕ × Copy)) → ClassIs x P m → ClassIs x P (invoke_in n p y op m).part
  class_invoked n p y op m has = by (at_number y m) refl
    where
      by : (found : Option Copy) → at_number y m ≡ found → ClassIs x P (invoke_at n p y op m found).part
      by None at = has
      by (Some c) at =
          class_put y (invoke_copy n p y op c).part m
          (λ same. subst (λ (b : Base). P (own_class b.value)) (sym (base_same n p y op c (first_conflict (uids_of p) (object y) (op_mode op) c.rows)))
          (subst (λ found. IfSome found (λ c. P (own_class c.base.value))) at (subst (λ z. ClassIs z P m) same has)))
          has

may_here : (x : ℕ) (op : Op) (m : List (ℕ × Copy)) → Both x (λ k. has_op k op ≡ true) m → MayDo x op m
may_here x op m both = by (at_number x m) (of_at x m both.0) both.1
  where
    by : (found : Option Copy) → IfSome found IsOfOneClass → IfSome found (λ c. has_op (own_class c.base.value) op ≡ true) →
        IfSome found (λ c. has_op (own_class (current c.base c.stack)) op ≡ true)
    by None one has = tt
    by (Some c) one has = ap (λ k. has_op k op) (class_current (own_class c.base.value) c.base c.stack refl one) ∙ has

-- where the object's class has an operation, it may be done behind ends
pub may_behind : (n x : ℕ) (op : Op) (ends : List (Uid × End)) (s t : Server) → AreOfOneClass s.objects → HasOp x op s.objects →
    t ≡ (apply_ends n ends s).part → MayDo x op t.objects
may_behind n x op ends s t all has is =
    subst (λ (t : Server). MayDo x op t.objects) (sym is) (may_here x op (apply_ends n ends s).part.objects (class_ends x (λ k. has_op k op ≡ true) n ends s (all, has)))

-- ---- the copies stand in increasing order

above_put : (k x : ℕ) (c : Copy) (m : List (ℕ × Copy)) → nat_cmp k x ≡ Less → AllByRecursion (λ j. nat_cmp k j ≡ Less) (keys_of m) →
    AllByRecursion (λ j. nat_cmp k j ≡ Less) (keys_of (put_number x c m))
above_put k x c [] less above = (less, tt)
above_put k x c (e ∷ m) less above = by (nat_cmp x e.0) (above_put k x c m less above.1)
  where
    by : (r : Ordering) → AllByRecursion (λ j. nat_cmp k j ≡ Less) (keys_of (put_number x c m)) →
        AllByRecursion (λ j. nat_cmp k j ≡ Less) (keys_of (match_ordering r ((x, c) ∷ e ∷ m) ((e.0, c) ∷ m) (e ∷ put_number x c m)))
    by Less more = (less, above)
    by Equal more = above
    by Greater more = (above.0, more)

above_all : (x k : ℕ) (ks : List ℕ) → nat_cmp x k ≡ Less → AllByRecursion (λ j. nat_cmp k j ≡ Less) ks →
    AllByRecursion (λ j. nat_cmp x j ≡ Less) ks
above_all x k [] less above = tt
above_all x k (j ∷ ks) less above = (nat_cmp_total.trans x k j less above.0, above_all x k ks less above.1)

turned : (x k : ℕ) → nat_cmp x k ≡ Greater → nat_cmp k x ≡ Less
turned x k is = nat_cmp_total.antisymm k x ∙ rw is refl

sorted_put : (x : ℕ) (c : Copy) (m : List (ℕ × Copy)) → IsStrictlySortedBy nat_cmp (keys_of m) →
    IsStrictlySortedBy nat_cmp (keys_of (put_number x c m))
unfolding IsStrictlySortedBy
sorted_put x c [] sorted = (tt, tt)
sorted_put x c (e ∷ m) sorted = by (nat_cmp x e.0) refl (sorted_put x c m sorted.1)
  where
    by : (r : Ordering) → nat_cmp x e.0 ≡ r → IsStrictlySortedBy nat_cmp (keys_of (put_number x c m)) →
        IsStrictlySortedBy nat_cmp (keys_of (match_ordering r ((x, c) ∷ e ∷ m) ((e.0, c) ∷ m) (e ∷ put_number x c m)))
    by Less is more = ((is, above_all x e.0 (keys_of m) is sorted.0), sorted)
    by Equal is more = sorted
    by Greater is more = (above_put e.0 x c m (turned x e.0 is) sorted.0, more)

keys_ended : (u : Uid) (e : End) (m : List (ℕ × Copy)) → keys_of (ended u e m) ≡ keys_of m
keys_ended u e [] = refl
keys_ended u e (f ∷ m) = ap (λ ks. f.0 ∷ ks) (keys_ended u e m)

-- ---- what each call leaves

pub copies_put : (x : ℕ) (c : Copy) (m : List (ℕ × Copy)) → AreCopies m → IsOfOneClass c → AreCopies (put_number x c m)
copies_put x c m all one = (of_put x c m all.0 one, sorted_put x c m all.1)

pub copies_ended : (u : Uid) (e : End) (m : List (ℕ × Copy)) → AreCopies m → AreCopies (ended u e m)
copies_ended u e m all = (of_each u e m all.0, subst (IsStrictlySortedBy nat_cmp) (sym (keys_ended u e m)) all.1)

copies_invoked : ((op : Op) (v : Value) → own_class (value_after op v) ≡ own_class v) →
    (n : ℕ) (p : Path) (x : ℕ) (op : Op) (m : List (ℕ × Copy)) → AreCopies m → AreCopies (invoke_in n p x op m).part
copies_invoked keeps n p x op m all = (of_invoked keeps n p x op m all.0, by (at_number x m))
  where
    by : (found : Option Copy) → IsStrictlySortedBy nat_cmp (keys_of (invoke_at n p x op m found).part)
    by None = all.1
    by (Some c) = sorted_put x (invoke_copy n p x op c).part m all.1

-- a call leaves good copies, whether it was done or not
pub either_way : {T E : Type 0} (r : Result T E) (new ok err : List (ℕ × Copy)) → AreCopies ok → AreCopies err → OnOk r (new ≡ ok) →
    OnErr r (new ≡ err) → AreCopies new
either_way (Ok x) new ok err good bad is isnt = subst AreCopies (sym is) good
either_way (Err e) new ok err good bad is isnt = subst AreCopies (sym isnt) bad

pub invoked_way : {T E : Type 0} (r : Result T E) (p : Path) (x : ℕ) (op : Op) (new old : List (ℕ × Copy)) →
    ((op : Op) (v : Value) → own_class (value_after op v) ≡ own_class v)
    → OnOk r ((n : ℕ) → new ≡ (invoke_in n p x op old).part) → OnErr r (new ≡ old) → AreCopies old → AreCopies new
invoked_way (Ok d) p x op new old keeps is isnt all = subst AreCopies (sym (is 0)) (copies_invoked keeps 0 p x op old all)
invoked_way (Err e) p x op new old keeps is isnt all = subst AreCopies (sym isnt) all

-- the value in place is of the copy's class
pub current_has : (x : ℕ) (op : Op) (m : List (ℕ × Copy)) (c : Copy) → AreOfOneClass m → at_number x m ≡ Some c →
    has_op (own_class (current c.base c.stack)) op ≡ has_op (own_class c.base.value) op
current_has x op m c all at =
    let one : IsOfOneClass c = subst (λ o. IfSome o IsOfOneClass) at (of_at x m all) in
    ap (λ k. has_op k op) (class_current (own_class c.base.value) c.base c.stack refl one)
