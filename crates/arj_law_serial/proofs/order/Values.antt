-- Each surviving call of a committed top is answered by the surviving writes before it, as the machine of its object says.
use Rattle.arj_law_parts.proofs.Words
use Words.{◌≡◌, ◌⊎◌, ◌<◌, ℕ, ◌==◌, ◌&&◌, ◌||◌, List, [], ◌∷◌, filter, Bool, true, false, cond, nat_lt, Option, Some, None, is_some, refl}
use Words.{sym, ◌∙◌, ap, subst, inl, inr, ⊎_elim, arith, eqb-true, eq-eqb, AllByRecursion, cons_option, filter_map, list_any, nat_tests}
use Words.{Value, answer_of, value_after, writes, Line, answer_text, In, in_filter, in_filter_map}
use Rattle.arj_law_serial.proofs.Terms
use Terms.{Act, Placed, committed, recovered, top_in, Said, call_of, committed_calls, kept, kept_in, said_of, Values, run, writes_on}
use Terms.{Pairwise, not_below_itself, read_rises, new_book, AreRight, State, IsLast, Survives, newest, none, older, start_holds}
use Terms.{run_values, start_values, AreCallsOf, IsCallOf, said_on}
use Terms.machine
use Terms.state
use Rattle.arj_law.proofs.Common.{not_below_back}
use Rattle.arj_law_lock.proofs.machine.ValueRun.{saw_the_last}
use Rattle.arj_law_lock.specs.machine.Laws.{SawTheLast}
use Rattle.arj_law_runs.proofs.journal.Likes.{some_is}
use Rattle.arj_law_serial.proofs.order
use order.{Ties.Ties, Ties.Tie, Timely.run_initial}
use order.Tying.{IsMade, kept_survives, made, survives_kept}
use Rattle.arj_model.specs.{Book.Answered, Book.IsAnsweredBy, Calls.Call, Calls.said, Serial.after}
use mathlib.Core.List.{reverse_aux}

-- ---- lists

pub in_reversed : {A : Type 0} (x : A) (xs ys : List A) → In x xs ⊎ In x ys → In x (reverse_aux xs ys)
in_reversed x [] ys (inl i) = absurd i
in_reversed x [] ys (inr i) = i
in_reversed x (z ∷ xs) ys (inl (inl is)) = in_reversed x xs (z ∷ ys) (inr (inl is))
in_reversed x (z ∷ xs) ys (inl (inr i)) = in_reversed x xs (z ∷ ys) (inl i)
in_reversed x (z ∷ xs) ys (inr i) = in_reversed x xs (z ∷ ys) (inr (inr i))

from_reversed : {A : Type 0} (x : A) (xs ys : List A) → In x (reverse_aux xs ys) → In x xs ⊎ In x ys
from_reversed x [] ys i = inr i
from_reversed x (z ∷ xs) ys i = ⊎_elim (λ j. inl (inr j)) (λ j. turn j) (from_reversed x xs (z ∷ ys) i)
  where
    turn : In x (z ∷ ys) → In x (z ∷ xs) ⊎ In x ys
    turn (inl is) = inl (inl is)
    turn (inr j) = inr j

pub to_filter : {A : Type 0} (p : A → Bool) (x : A) (xs : List A) → In x xs → p x ≡ true → In x (filter p xs)
to_filter p x [] i e = absurd i
to_filter p x (y ∷ ys) (inl is) e = subst (λ b. In x (cond b (y ∷ filter p ys) (filter p ys))) (sym (ap p is ∙ e)) (inl is)
to_filter {A} p x (y ∷ ys) (inr i) e = by (p y) (to_filter p x ys i e)
  where
    by : (b : Bool) → In x (filter p ys) → In x (cond b (y ∷ filter p ys) (filter p ys))
    by true j = inr j
    by false j = j

all_from : {A : Type 0} (P : A → Type 0) (xs : List A) → ((x : A) → In x xs → P x) → AllByRecursion P xs
all_from P [] each = tt
all_from P (x ∷ xs) each = (each x (inl refl), all_from P xs (λ y i. each y (inr i)))

-- the places in a list fall
abbrev pub Fall : List (Placed Said) → Type 0
Fall xs = Pairwise (λ s t. t.at < s.at) xs

falls_filtered : (p : Placed Said → Bool) (xs : List (Placed Said)) → Pairwise (λ s t. s.at < t.at) xs →
    Pairwise (λ s t. s.at < t.at) (filter p xs)
falls_filtered p [] w = tt
falls_filtered p (x ∷ xs) w = by (p x) (falls_filtered p xs w.1)
  where
    all_left : (ys : List (Placed Said)) → AllByRecursion (λ t. x.at < t.at) ys → AllByRecursion (λ t. x.at < t.at) (filter p ys)
    all_left [] a = tt
    all_left (y ∷ ys) a = one (p y) (all_left ys a.1)
      where
        one : (b : Bool) → AllByRecursion (λ t. x.at < t.at) (filter p ys) →
            AllByRecursion (λ t. x.at < t.at) (cond b (y ∷ filter p ys) (filter p ys))
        one true r = (a.0, r)
        one false r = r

    by : (b : Bool) → Pairwise (λ s t. s.at < t.at) (filter p xs) → Pairwise (λ s t. s.at < t.at) (cond b (x ∷ filter p xs) (filter p xs))
    by true r = (all_left xs w.0, r)
    by false r = r

-- a list whose places rise, put in front of one whose places fall and lie before
falls_reversed : (xs ys : List (Placed Said)) → Pairwise (λ s t. s.at < t.at) xs → Fall ys →
    AllByRecursion (λ (s : Placed Said). AllByRecursion (λ (t : Placed Said). t.at < s.at) ys) xs → Fall (reverse_aux xs ys)
falls_reversed [] ys w f a = f
falls_reversed (x ∷ xs) ys w f a = falls_reversed xs (x ∷ ys) w.1 (a.0, f) (with_first xs w.0 a.1)
  where
    with_first : (zs : List (Placed Said)) → AllByRecursion (λ t. x.at < t.at) zs →
        AllByRecursion (λ s. AllByRecursion (λ t. t.at < s.at) ys) zs → AllByRecursion (λ s. AllByRecursion (λ t. t.at < s.at) (x ∷ ys)) zs
    with_first [] b c = tt
    with_first (z ∷ zs) b c = ((b.0, c.0), with_first zs b.1 c.1)

none_before : (xs : List (Placed Said)) → AllByRecursion (λ (s : Placed Said). AllByRecursion (λ (t : Placed Said). t.at < s.at) []) xs
none_before [] = tt
none_before (x ∷ xs) = (tt, none_before xs)

pub said_falls : (x : ℕ) (lines : List Line) → Fall (said_on x lines)
said_falls x lines = let fs = filter (λ s. s.it.x == x) (said lines) in
    falls_reversed fs [] (falls_filtered (λ s. s.it.x == x) (said lines) (read_rises said_of [] 0 lines)) tt (none_before fs)

pub on_object : (x : ℕ) (lines : List Line) (s : Placed Said) → In s (said_on x lines) → In s (said lines) × (s.it.x ≡ x)
on_object x lines s i = let f = in_filter (λ z. z.it.x == x) s (said lines)
    (⊎_elim (λ j. j) (λ j. absurd j) (from_reversed s (filter (λ z. z.it.x == x) (said lines)) [] i)) in (f.0, eqb-true s.it.x x f.1)

pub to_object : (x : ℕ) (lines : List Line) (s : Placed Said) → In s (said lines) → s.it.x ≡ x → In s (said_on x lines)
to_object x lines s i is =
    in_reversed s (filter (λ z. z.it.x == x) (said lines)) [] (inl (to_filter (λ z. z.it.x == x) s (said lines) i (eq-eqb s.it.x x is)))

-- ---- the value that the kept writes before a place leave

module _ (values : Values) (lines : List Line) (x : ℕ) where
  abbrev kept_here : Placed Said → Option Call
  kept_here s = kept (committed lines) (recovered lines) s

  -- the call counts: it wrote, and is kept
  abbrev counts : Placed Said → Bool
  counts s = writes s.it.op && is_some (kept_here s)

  -- the newest first
  abbrev pub final : ℕ → List (Placed Said) → Value
  final p [] = values x
  final p (s ∷ ss) = cond (nat_lt s.at p && counts s) (value_after s.it.op (final p ss)) (final p ss)

  -- the oldest first, from a value on
  abbrev onward : ℕ → Value → List (Placed Said) → Value
  onward p v [] = v
  onward p v (s ∷ ss) = onward p (cond (nat_lt s.at p && ((s.it.x == x) && counts s)) (value_after s.it.op v) v) ss

  pub kept_shape : (s : Placed Said) (c : Call) → kept_here s ≡ Some c →
      (c.at ≡ s.at) × (c.x ≡ s.it.x) × (c.op ≡ s.it.op) × (c.answer ≡ s.it.answer)
  kept_shape s c e = by (top_in s.it.path) e
    where
      from : (top : Act) (b : Bool) → cond b (Some (call_of s top)) None ≡ Some c →
          (c.at ≡ s.at) × (c.x ≡ s.it.x) × (c.op ≡ s.it.op) × (c.answer ≡ s.it.answer)
      from top true g = let same = sym (some_is (call_of s top) c g) in
          (ap (λ (d : Call). d.at) same, ap (λ (d : Call). d.x) same, ap (λ (d : Call). d.op) same, ap (λ (d : Call). d.answer) same)
      from top false g = absurd (cc g)

      by : (o : Option Act) → kept_in (committed lines) (recovered lines) s o ≡ Some c →
          (c.at ≡ s.at) × (c.x ≡ s.it.x) × (c.op ≡ s.it.op) × (c.answer ≡ s.it.answer)
      by None g = absurd (cc g)
      by (Some top) g = from top _ g

  -- the calls that are kept, run one after another
  run_onward : (p : ℕ) (vals : Values) (ss : List (Placed Said)) →
      run vals (filter (λ (w : Call). nat_lt w.at p && writes_on x w) (filter_map kept_here ss)) x ≡ onward p (vals x) ss
  run_onward p vals [] = refl
  run_onward p vals (s ∷ ss) = by (kept_here s) refl (λ vs. run_onward p vs ss)
    where
      rest : List Call
      rest = filter (λ (w : Call). nat_lt w.at p && writes_on x w) (filter_map kept_here ss)

      off : (a b c : Bool) → c ≡ false → (a && (b && c)) ≡ false
      off true true c e = e
      off true false c e = refl
      off false b c e = refl

      no : (a : Bool) → (a && false) ≡ false
      no true = refl
      no false = refl

      yes : (a : Bool) → (a && true) ≡ a
      yes true = refl
      yes false = refl

      by : (o : Option Call) → kept_here s ≡ o → ((vs : Values) → run vs rest x ≡ onward p (vs x) ss)
          → run vals (filter (λ (w : Call). nat_lt w.at p && writes_on x w) (cons_option o (filter_map kept_here ss))) x
          ≡ onward p (cond (nat_lt s.at p && ((s.it.x == x) && counts s)) (value_after s.it.op (vals x)) (vals x)) ss
      by None is ih = ih vals ∙ ap (λ b. onward p (cond b (value_after s.it.op (vals x)) (vals x)) ss)
          (sym (off (nat_lt s.at p) (s.it.x == x) (counts s) (ap (λ o. writes s.it.op && is_some o) is ∙ no (writes s.it.op))))
      by (Some c) is ih =
          let k = kept_shape s c is in
          let same : (nat_lt c.at p && ((c.x == x) && writes c.op)) ≡ (nat_lt s.at p && ((s.it.x == x) && counts s)) =
          (λ i. nat_lt (k.0 i) p && ((k.1 i == x) && writes (k.2 i)))
          ∙ ap (λ b. nat_lt s.at p && ((s.it.x == x) && b)) (sym (ap (λ o. writes s.it.op && is_some o) is ∙ yes (writes s.it.op))) in
          one (nat_lt c.at p && ((c.x == x) && writes c.op)) refl c k
          ∙ ap (λ b. onward p (cond b (value_after s.it.op (vals x)) (vals x)) ss) same
        where
          one : (b : Bool) → (let d = c in (nat_lt d.at p && ((d.x == x) && writes d.op))) ≡ b → (d : Call) →
              (d.at ≡ s.at) × (d.x ≡ s.it.x) × (d.op ≡ s.it.op) × (d.answer ≡ s.it.answer)
              → run vals (cond b (c ∷ rest) rest) x ≡ onward p (cond b (value_after s.it.op (vals x)) (vals x)) ss
          one true e d k = ih (after vals c) ∙ ap (λ v. onward p v ss) there
            where
              at : (nat_lt c.at p && ((c.x == x) && writes c.op)) ≡ true → (c.x == x) ≡ true
              at f = by_parts (nat_lt c.at p) (c.x == x) (writes c.op) f
                where
                  by_parts : (u v w : Bool) → (u && (v && w)) ≡ true → v ≡ true
                  by_parts true true w g = refl
                  by_parts true false w g = g
                  by_parts false v w g = absurd (cc g)

              there : after vals c x ≡ value_after s.it.op (vals x)
              there =
                  let here : c.x ≡ x = eqb-true c.x x (at e) in
                  let op : c.op ≡ s.it.op = (kept_shape s c is).2 in
                  ap (λ b. cond b (value_after c.op (vals c.x)) (vals x)) (eq-eqb x c.x (sym here))
                  ∙ (λ i. value_after (op i) (vals (here i)))
          one false e d k = ih vals

  -- the two ways round
  onward_final : (p : ℕ) (ss acc : List (Placed Said)) →
      onward p (final p acc) ss ≡ final p (reverse_aux (filter (λ (s : Placed Said). s.it.x == x) ss) acc)
  onward_final p [] acc = refl
  onward_final p (s ∷ ss) acc = by (s.it.x == x) (λ more. onward_final p ss more)
    where
      no : (a : Bool) → (a && false) ≡ false
      no true = refl
      no false = refl

      by : (b : Bool) → ((more : List (Placed Said)) →
          onward p (final p more) ss ≡ final p (reverse_aux (filter (λ (z : Placed Said). z.it.x == x) ss) more))
          → onward p (cond (nat_lt s.at p && (b && counts s)) (value_after s.it.op (final p acc)) (final p acc)) ss ≡ final p
          (reverse_aux (cond b (s ∷ filter (λ (z : Placed Said). z.it.x == x) ss) (filter (λ (z : Placed Said). z.it.x == x) ss)) acc)
      by true ih = ih (s ∷ acc)
      by false ih = ap (λ b. onward p (cond b (value_after s.it.op (final p acc)) (final p acc)) ss) (no (nat_lt s.at p)) ∙ ih acc

  -- the writes before a call leave that value
  pub before_is : (p : ℕ) →
      run values (filter (λ (w : Call). nat_lt w.at p && writes_on x w) (committed_calls lines)) x ≡ final p (said_on x lines)
  before_is p = run_onward p values (said lines) ∙ onward_final p (said lines) []

-- ---- by the machine

module _ (values : Values) (lines : List Line) (right : AreRight new_book lines) (x : ℕ) (S : State) (tied : Tie values lines x S) where
  abbrev finally : ℕ → List (Placed Said) → Value
  finally p ss = final values lines x p ss

  abbrev AreFrom : List (Placed Said) → List state.Call → Type 0
  AreFrom ss cs = AllByRecursion (λ (s : Placed Said). In s (said lines)) ss × AllByRecursion (λ (c : state.Call). machine.In c S.calls) cs

  -- Of these calls, all before a place, the kept writes leave the value that the machine has as the last one.
  last_value : (p : ℕ) (ss : List (Placed Said)) (cs : List state.Call) → AreCallsOf tied.act tied.code ss cs → AreFrom ss cs →
      AllByRecursion (λ (s : Placed Said). s.at < p) ss → SawTheLast S cs
      → (v : ℕ) → IsLast S v cs → (a : machine.Act) × (tied.code (finally p ss) a ≡ v)
  last_value p [] [] are there before saw v (none is) = (tied.writer, sym (run_initial tied.run) ∙ is)
  last_value p [] (c ∷ cs) are there before saw v l = absurd are
  last_value p (s ∷ ss) [] are there before saw v l = absurd are
  last_value p (s ∷ ss) (c ∷ cs) are there before saw v (newest d write survived gives) =
      let is : IsCallOf tied.act tied.code s c = are.0 in
      let m : IsMade values lines right x S tied s c = made values lines right x S tied s c there.0.0 there.1.0 is in
      let kept_it = survives_kept values lines right x S tied s c m survived in
      let ih = last_value p ss cs are.1 (there.0.1, there.1.1) before.1 saw.1 c.sees (saw.0 survived) in
      let same : finally p ss ≡ is.value = (tied.codes (finally p ss) is.value ih.0 is.by (ih.1 ∙ is.sees)).0 in
      let test : (nat_lt s.at p && (writes s.it.op && is_some (kept (committed lines) (recovered lines) s))) ≡ true =
      (λ i. yes s.at p before.0 i && ((sym is.write ∙ write) i && is_some (kept_it i))) in (
        machine.top c.act,
        ap (λ b. tied.code (cond b (value_after s.it.op (finally p ss)) (finally p ss)) (machine.top c.act)) test
            ∙ ap (λ u. tied.code (value_after s.it.op u) (machine.top c.act)) same ∙ sym is.gives ∙ gives,
      )
    where
      yes : (m n : ℕ) → m < n → nat_lt m n ≡ true
      yes m n l = grind (arith, nat_tests)
  last_value p (s ∷ ss) (c ∷ cs) are there before saw v (older d not_it rest) =
      let is : IsCallOf tied.act tied.code s c = are.0 in
      let m : IsMade values lines right x S tied s c = made values lines right x S tied s c there.0.0 there.1.0 is in
      let off : (nat_lt s.at p && (writes s.it.op && is_some (kept (committed lines) (recovered lines) s))) ≡ false =
      by (nat_lt s.at p) (writes s.it.op) refl (kept (committed lines) (recovered lines) s) refl is m in
      let ih = last_value p ss cs are.1 (there.0.1, there.1.1) before.1 saw.1 v rest in
      (ih.0, ap (λ b. tied.code (cond b (value_after s.it.op (finally p ss)) (finally p ss)) ih.0) off ∙ ih.1)
    where
      no : (a b : Bool) → (a && (b && false)) ≡ false
      no true true = refl
      no true false = refl
      no false b = refl

      other : (a : Bool) → (a && false) ≡ false
      other true = refl
      other false = refl

      by : (a w : Bool) → writes s.it.op ≡ w → (o : Option Call) → kept (committed lines) (recovered lines) s ≡ o →
          IsCallOf tied.act tied.code s c → IsMade values lines right x S tied s c → (a && (w && is_some o)) ≡ false
      by a w e None k is m = no a w
      by a false e (Some z) k is m = other a
      by a true e (Some z) k is m = absurd (not_it (is.write ∙ e) (kept_survives values lines right x S tied s c m z k))

  -- an answered call and one of the machine, at one place of both lists
  abbrev pub ArePaired : Placed Said → state.Call → List (Placed Said) → List state.Call → Type 0
  ArePaired s c (t ∷ ss) (d ∷ cs) = ((t ≡ s) × (d ≡ c)) ⊎ ArePaired s c ss cs
  ArePaired s c ss cs = ⊥

  -- what a surviving call met: the value that the kept writes before it left
  pub record IsMet (s : Placed Said) (c : state.Call) (ss : List (Placed Said)) : Type 0 where
    pub is : IsCallOf tied.act tied.code s c
    pub met : finally s.at ss ≡ is.value

  met_at : (ss : List (Placed Said)) (cs : List state.Call) → AreCallsOf tied.act tied.code ss cs → AreFrom ss cs → Fall ss →
      SawTheLast S cs
      → (s : Placed Said) (c : state.Call) → ArePaired s c ss cs → Survives S c.act → IsMet s c ss
  met_at [] cs are there falls saw s c i survives = absurd i
  met_at (t ∷ ss) [] are there falls saw s c i survives = absurd i
  met_at (t ∷ ss) (d ∷ cs) are there falls saw s c (inl (same, one)) survives =
      let is : IsCallOf tied.act tied.code t d = are.0 in
      let last = last_value t.at ss cs are.1 (there.0.1, there.1.1) falls.0 saw.1 d.sees
      (saw.0 (subst (λ (e : state.Call). Survives S e.act) (sym one) survives)) in
      let met : finally t.at ss ≡ is.value = (tied.codes (finally t.at ss) is.value last.0 is.by (last.1 ∙ is.sees)).0 in
      let here : finally t.at (t ∷ ss) ≡ is.value = ap (λ b. cond (b && (writes t.it.op && is_some (kept (committed lines) (recovered lines)
      t))) (value_after t.it.op (finally t.at ss)) (finally t.at ss)) (not_below_itself t.at) ∙ met in
      subst (λ (e : state.Call). IsMet s e (t ∷ ss)) one
      (subst (λ (z : Placed Said). IsMet z d (t ∷ ss)) same (record { is = is; met = here }))
  met_at (t ∷ ss) (d ∷ cs) are there falls saw s c (inr i) survives =
      let later : s.at < t.at = at (λ (z : Placed Said). z.at < t.at) ss falls.0 s (first_of ss cs i) in
      let r = met_at ss cs are.1 (there.0.1, there.1.1) falls.1 saw.1 s c i survives in
      record {
        is = r.is;
        met = ap (λ b. cond (b && (writes t.it.op && is_some (kept (committed lines) (recovered lines) t)))
            (value_after t.it.op (finally s.at ss)) (finally s.at ss)) (not_below_back s.at t.at later) ∙ r.met;
      }
    where
      at : (P : Placed Said → Type 0) (zs : List (Placed Said)) → AllByRecursion P zs → (z : Placed Said) → In z zs → P z
      at P [] all z j = absurd j
      at P (y ∷ ys) all z (inl is) = subst P is all.0
      at P (y ∷ ys) all z (inr j) = at P ys all.1 z j

      first_of : (zs : List (Placed Said)) (ds : List state.Call) → ArePaired s c zs ds → In s zs
      first_of [] ds j = absurd j
      first_of (z ∷ zs) [] j = absurd j
      first_of (z ∷ zs) (e ∷ ds) (inl j) = inl j.0
      first_of (z ∷ zs) (e ∷ ds) (inr j) = inr (first_of zs ds j)

  -- each answered call has its own
  pub find_pair : (ss : List (Placed Said)) (cs : List state.Call) → AreCallsOf tied.act tied.code ss cs → (s : Placed Said) → In s ss →
      (c : state.Call) × ArePaired s c ss cs
  find_pair [] cs are s i = absurd i
  find_pair (t ∷ ss) [] are s i = absurd are
  find_pair (t ∷ ss) (c ∷ cs) are s (inl same) = (c, inl (same, refl))
  find_pair (t ∷ ss) (c ∷ cs) are s (inr i) = let r = find_pair ss cs are.1 s i in (r.0, inr r.1)

  pub paired_in : (ss : List (Placed Said)) (cs : List state.Call) → AreCallsOf tied.act tied.code ss cs →
      (s : Placed Said) (c : state.Call) → ArePaired s c ss cs → In s ss × machine.In c cs × IsCallOf tied.act tied.code s c
  paired_in [] cs are s c i = absurd i
  paired_in (t ∷ ss) [] are s c i = absurd i
  paired_in (t ∷ ss) (d ∷ cs) are s c (inl (same, one)) = (
    inl same,
    inl (sym one),
    subst (λ (e : state.Call). IsCallOf tied.act tied.code s e) one
        (subst (λ (z : Placed Said). IsCallOf tied.act tied.code z d) same are.0),
  )
  paired_in (t ∷ ss) (d ∷ cs) are s c (inr i) = let r = paired_in ss cs are.1 s c i in (inr r.0, inr r.1, r.2)

  pub met_call : (s : Placed Said) (c : state.Call) → ArePaired s c (said_on x lines) S.calls → Survives S c.act →
      IsMet s c (said_on x lines)
  met_call s c i survives =
      let w = run_values tied.run (start_holds (tied.code (values x) tied.writer))
      (start_values (tied.code (values x) tied.writer)) in
      met_at (said_on x lines) S.calls tied.calls
      (all_from (λ (z : Placed Said). In z (said lines)) (said_on x lines) (λ z j. (on_object x lines z j).0), each S.calls (λ c j. j))
      (said_falls x lines) (saw_the_last w.0 w.1) s c i survives
    where
      each : (cs : List state.Call) → ((c : state.Call) → machine.In c cs → machine.In c S.calls) →
          AllByRecursion (λ (c : state.Call). machine.In c S.calls) cs
      each [] f = tt
      each (c ∷ cs) f = (f c (inl refl), each cs (λ d j. f d (inr j)))

  pub answered_call : (s : Placed Said) (k : Call) → In s (said lines) → s.it.x ≡ x → kept (committed lines) (recovered lines) s ≡ Some k →
      answer_text (answer_of s.it.op (finally s.at (said_on x lines))) ≡ s.it.answer
  answered_call s k i is e =
      let p = find_pair (said_on x lines) S.calls tied.calls s (to_object x lines s i is) in
      let q = paired_in (said_on x lines) S.calls tied.calls s p.0 p.1 in
      let m = made values lines right x S tied s p.0 i q.1 q.2 in
      let r = met_call s p.0 p.1 (kept_survives values lines right x S tied s p.0 m k e) in
      let c = r.is in
      ap (λ v. answer_text (answer_of s.it.op v)) r.met ∙ c.answer

pub any_said : (x : ℕ) (s : Placed Said) (ss : List (Placed Said)) → In s ss → s.it.x ≡ x →
    list_any (λ (z : Placed Said). z.it.x == x) ss ≡ true
any_said x s [] i is = absurd i
any_said x s (z ∷ ss) (inl same) is =
    ap (λ b. b || list_any (λ (y : Placed Said). y.it.x == x) ss) (eq-eqb z.it.x x (ap (λ (y : Placed Said). y.it.x) same ∙ is))
any_said x s (z ∷ ss) (inr i) is = by (z.it.x == x) (any_said x s ss i is)
  where
    by : (b : Bool) → list_any (λ (y : Placed Said). y.it.x == x) ss ≡ true → (b || list_any (λ (y : Placed Said). y.it.x == x) ss) ≡ true
    by true e = refl
    by false e = e

pub are_answered : (values : Values) (lines : List Line) → AreRight new_book lines → Ties values lines → Answered values lines
are_answered values lines right tied = all_from (IsAnsweredBy values (committed_calls lines)) (committed_calls lines) one
  where
    one : (c : Call) → In c (committed_calls lines) → IsAnsweredBy values (committed_calls lines) c
    one c i =
        let f = in_filter_map (kept (committed lines) (recovered lines)) c (said lines) i in
        let k = kept_shape values lines c.x f.0 c f.2 in
        let t = tied c.x (any_said c.x f.0 (said lines) f.1 (sym k.1)) in
        let a = answered_call values lines right c.x t.0 t.1 f.0 c f.1 (sym k.1) f.2 in
        ap (λ v. answer_text (answer_of c.op v)) (before_is values lines c.x c.at)
        ∙ (λ i. answer_text (answer_of (k.2 i) (final values lines c.x (k.0 i) (said_on c.x lines)))) ∙ a ∙ sym k.3
