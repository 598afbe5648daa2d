-- Calls that are run one after another.
use Rattle.std.proofs.Common.{◌≡◌, ◌<◌, ℕ, zero, suc, ◌+◌, List, [], ◌∷◌, ◌++◌, length, map, take, drop, Bool, true, false, cond, ◌&&◌}
use Rattle.std.proofs.Common.{◌==◌, get_or, Option, Some, None, Result, Ok, Err, OnOk, refl, sym, ◌∙◌, ap, subst, arith}
use Rattle.std.specs.Prelude.{find, IsSomeAnd}
use Rattle.std.proofs.Math.Seq.{take-suc}
use Rattle.std.proofs.lemmas.Bool.{and_parts, eq-eqb, eqb-true}
use Rattle.std.specs.List.{AllByRecursion}
use Rattle.std.specs.BTreeMap.{BTreeMap, get}
use Rattle.std.specs.Ordering.{nat_cmp}
use Rattle.arj_class.specs.Forms.{is_op_in_form}
use Rattle.arj_class.specs.Table.{has_op, own_class}
use Rattle.arj_class.specs.declared.op.Op.{Op}
use Rattle.arj_class.specs.declared.value.Value.{Value}
use Rattle.arj_journal.specs.declared.body.Line.{Line}
use Rattle.arj_journal.specs.declared.header.Header.{Header}
use Rattle.arj_journal.specs.declared.header.ObjectLine.{ObjectLine}
use Rattle.arj_model.specs.Calls.{Call}
use Rattle.arj_model.specs.Last.{first_values, object_line, value_of_line}
use Rattle.arj_model.specs.Serial.{Values, with_value}
use Rattle.arj_law.proofs.Common.{turned}
use Rattle.arj_reading.specs.Readable.{object_rule, unless}
use Rattle.arj_reading.specs.declared.rule.Rule.{Rule}
use Rattle.arj_reading.specs.declared.rule.Rule.TheVariants as rule
use Rattle.arj_replay.specs.Verdict.{Differs, HasCall, HasValues, IsWrong, differs_or, first_among, or_value}
use Rattle.arj_replay.specs.declared.run.Wrong.{Wrong}

-- one object more
pub first_put : (os : List ObjectLine) (o : ObjectLine) (x : ℕ) →
    first_among (os ++ o ∷ []) x ≡ or_value (first_among os x) (cond (o.x == x) (Some o.value) None)
first_put [] o x = refl
first_put (p ∷ os) o x = by (first_put os o x) (p.x == x)
  where
    by : first_among (os ++ o ∷ []) x ≡ or_value (first_among os x) (cond (o.x == x) (Some o.value) None) → (b : Bool) →
        cond b (Some p.value) (first_among (os ++ o ∷ []) x) ≡ or_value (cond b (Some p.value) (first_among os x)) (cond (o.x == x) (Some o.value) None)
    by ih true = refl
    by ih false = ih

first_is : (os : List ObjectLine) (x : ℕ) (o : ObjectLine) → find (λ p. p.x == x) os ≡ Some o → first_among os x ≡ Some o.value
first_is [] x o e = absurd (cc e)
first_is (p ∷ os) x o e = by (first_is os x o) (p.x == x) e
  where
    by : (find (λ q. q.x == x) os ≡ Some o → first_among os x ≡ Some o.value) → (b : Bool) →
        cond b (Some p) (find (λ q. q.x == x) os) ≡ Some o → cond b (Some p.value) (first_among os x) ≡ Some o.value
    by ih true g = let same : p ≡ o = cc g in ap (λ q. Some q.value) same
    by ih false g = ih g

-- the header's values
pub at_first : (header : Header) (m : BTreeMap ℕ Value) → ((x : ℕ) → get nat_cmp m x ≡ first_among header.objects x) →
    HasValues header (first_values header) m
at_first header m h = record {
  value = λ x o e. h x ∙ first_is header.objects x o e ∙ ap (λ l. Some (value_of_line l)) (sym e);
  class = λ x o e. ap (λ l. own_class (value_of_line l)) e;
}

-- the next call, at the next place
pub next_call : (P : Call → Type 0) (calls : List Call) (i : ℕ) → i < length (map (λ c. c.at) calls) → AllByRecursion P calls →
    (c : Call) × (drop i calls ≡ c ∷ drop (suc i) calls) × (c.at ≡ get_or (map (λ c. c.at) calls) i 0) × P c
next_call P [] i lt all = absurd (omega (arith, lt))
next_call P (c ∷ calls) zero lt all = (c, refl, refl, all.0)
next_call P (c ∷ calls) (suc i) lt all = next_call P calls i (omega (arith, lt)) all.1

-- the next item
pub take_next : {A : Type 0} (xs : List A) (i : ℕ) (x : A) → i < length xs → x ≡ get_or xs i x → take (i + 1) xs ≡ take i xs ++ x ∷ []
take_next xs i x lt is = ap (λ n. take n xs) (one_more i) ∙ take-suc xs i x lt ∙ ap (λ y. take i xs ++ y ∷ []) (sym is)
  where
    one_more : (n : ℕ) → n + 1 ≡ suc n
    one_more n = omega arith

-- the next of the calls at these places, run: how the first difference goes on
pub record NextCall (header : Header) (lines : List Line) (calls : List Call) (i place : ℕ) : Type 0 where
  pub call : Call
  pub rest : drop i calls ≡ call ∷ drop (i + 1) calls
  pub at : call.at ≡ place
  pub has : HasCall header lines call

pub next_place : (header : Header) (lines : List Line) (calls : List Call) (places : List ℕ) (i : ℕ) → map (λ c. c.at) calls ≡ places →
    i < length places → AllByRecursion (HasCall header lines) calls → NextCall header lines calls i (get_or places i 0)
next_place header lines calls places i same lt all =
    let n = next_call (HasCall header lines) calls i (subst (λ ps. i < length ps) (sym same) lt) all in
    record { call = n.0; rest = n.1 ∙ ap (λ k. n.0 ∷ drop k calls) (one_more i); at = n.2 ∙ ap (λ ps. get_or ps i 0) same; has = n.3 }
  where
    one_more : (k : ℕ) → suc k ≡ k + 1
    one_more k = omega arith

-- the test of a rule that isn't broken holds
holds : (b : Bool) (r : Rule) → unless b r ≡ None → b ≡ true
holds true r e = refl
holds false r e = absurd (cc e)

-- what a call of an object of the header meets
pub call_fits : (header : Header) (all : Values) (m : BTreeMap ℕ Value) (x : ℕ) (op : Op) → HasValues header all m →
    object_rule (object_line header x) op ≡ None
    → (get nat_cmp m x ≡ Some (all x)) × (has_op (own_class (all x)) op ≡ true) × (is_op_in_form op ≡ true)
call_fits header all m x op has fits = by (object_line header x) refl fits
  where
    by : (o : Option ObjectLine) → object_line header x ≡ o → object_rule o op ≡ None →
        (get nat_cmp m x ≡ Some (all x)) × (has_op (own_class (all x)) op ≡ true) × (is_op_in_form op ≡ true)
    by None e never = absurd (cc never)
    by (Some o) e both =
        let parts = and_parts (has_op (own_class o.value) op) (is_op_in_form op) (holds (has_op (own_class o.value) op && is_op_in_form op) rule.Operation both) in
        (has.value x o e, ap (λ c. has_op c op) (has.class x o e) ∙ parts.0, parts.1)

-- the values after the call
pub after_call : (header : Header) (all : Values) (m n : BTreeMap ℕ Value) (x : ℕ) (v : Value) → own_class v ≡ own_class (all x) →
    HasValues header all m
    → ((y : ℕ) → get nat_cmp n y ≡ cond (x == y) (Some v) (get nat_cmp m y)) → HasValues header (with_value all x v) n
after_call header all m n x v class has is =
    record { value = λ y o e. is y ∙ value y (x == y) refl o e; class = λ y o e. kind y (y == x) refl o e }
  where
    value : (y : ℕ) (b : Bool) → (x == y) ≡ b → (o : ObjectLine) → object_line header y ≡ Some o →
        cond b (Some v) (get nat_cmp m y) ≡ Some (cond (y == x) v (all y))
    value y true same o e = let turn : (y == x) ≡ true = eq-eqb y x (sym (eqb-true x y same)) in (λ i. Some (cond (sym turn i) v (all y)))
    value y false same o e = has.value y o e ∙ (λ i. Some (cond (sym (turned x y same) i) v (all y)))

    kind : (y : ℕ) (b : Bool) → (y == x) ≡ b → (o : ObjectLine) → object_line header y ≡ Some o →
        own_class (cond b v (all y)) ≡ own_class o.value
    kind y true same o e = class ∙ ap (λ z. own_class (all z)) (sym (eqb-true y x same)) ∙ has.class y o e
    kind y false same o e = has.class y o e

pub no_answer : {A : Type 0} (P : A → Type 0) (r : Option A) → r ≡ None → IsSomeAnd r P → ⊥
no_answer P r e s = subst (λ o. IsSomeAnd o P) e s

pub its_answer : {A : Type 0} (P : A → Type 0) (r : Option A) (a : A) → r ≡ Some a → IsSomeAnd r P → P a
its_answer P r a e s = subst (λ o. IsSomeAnd o P) e s

pub on_ok : {A E : Type 0} (P : Type 0) (r : Result A E) → P → OnOk r P
on_ok P (Ok a) p = p
on_ok P (Err e) p = tt

-- a call that differs is the first
pub differs : (lines : List Line) (at : ℕ) (w : Option (List ℕ)) (behind : Option Differs) (wrong : Wrong) →
    IsWrong lines (differs_or at w None) (Some wrong) → IsWrong lines (differs_or at w behind) (Some wrong)
differs lines at None behind wrong h = absurd h
differs lines at (Some t) behind wrong h = h

-- a call that doesn't differ is none
pub agrees : (lines : List Line) (at : ℕ) (w : Option (List ℕ)) (behind : Option Differs) → IsWrong lines (differs_or at w None) None →
    differs_or at w behind ≡ behind
agrees lines at None behind h = refl
agrees lines at (Some t) behind h = absurd h
