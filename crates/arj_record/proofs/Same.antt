-- The tests on Uids and records.
use Rattle.std.proofs.Common.{◌≡◌, ℕ, ◌<◌, Bool, true, false, ◌&&◌, ◌==◌, refl, ◌∙◌, arith}
use Rattle.std.proofs.lemmas.Bool.{eq-eqb, eqb-true, and_parts}
use Rattle.std.proofs.lemmas.Bool.Decides.{nat_tests}
use Rattle.arj_base.specs.declared.uid.Uid.{Uid}
use Rattle.arj_base.specs.Uid.{uid_eq}
use Rattle.arj_base.proofs.Uids.{uid_is, uid_same, uid_sym}
use Rattle.arj_record.specs.declared.record.Record.{Record}
use Rattle.arj_record.specs.declared.record.Record.TheVariants.{Recovery, Lock, Persistence}
use Rattle.arj_record.specs.Record.{object_of, order_of, is_of, is_like, joined}
use Rattle.arj_record.specs.Records.{Precedes}

pub eq_same : (n : ℕ) → (n == n) ≡ true
eq_same n = eq-eqb n n refl

pub eq_sym : (a b : ℕ) → (a == b) ≡ (b == a)
eq_sym a b = grind (arith, nat_tests)

pub like_sym : {V : Type 0} → (r q : Record V) → is_like r q ≡ is_like q r
like_sym r q = λ i. eq_sym (order_of r) (order_of q) i && uid_sym (object_of r) (object_of q) i

-- what a record that passes the test is
pub is_of_parts : {V : Type 0} → (order : ℕ) (x : Uid) (r : Record V) → is_of order x r ≡ true → (order_of r ≡ order) × (object_of r ≡ x)
is_of_parts order x r e =
    let p = and_parts (order_of r == order) (uid_eq (object_of r) x) e in (eqb-true (order_of r) order p.0, uid_is (object_of r) x p.1)

-- records of one kind and object pass the same tests
pub is_of_same : {V : Type 0} → (order : ℕ) (x : Uid) (q r : Record V) → is_like q r ≡ true → is_of order x q ≡ is_of order x r
is_of_same order x q r e = let p = is_of_parts (order_of r) (object_of r) q e in λ i. (p.0 i == order) && uid_eq (p.1 i) x

-- two records that aren't of one kind and object don't pass the same test
pub is_of_other : {V : Type 0} → (order : ℕ) (x : Uid) (q r : Record V) → is_like q r ≡ false → is_of order x q ≡ true →
    is_of order x r ≡ false
is_of_other order x q r e f = by (is_of order x r) refl
  where
    by : (b : Bool) → is_of order x r ≡ b → b ≡ false
    by false g = refl
    by true g =
        let p = is_of_parts order x q f in
        let s = is_of_parts order x r g in
        let like : is_like q r ≡ true = (λ i. (p.0 i == s.0 i) && uid_eq (p.1 i) (s.1 i)) ∙ (λ i. eq_same order i && uid_same x i) in cc

-- a record of another order doesn't pass
pub is_of_order : {V : Type 0} → (order : ℕ) (x : Uid) (r : Record V) → order < order_of r → is_of order x r ≡ false
is_of_order order x r lt = λ i. no i && uid_eq (object_of r) x
  where
    no : (order_of r == order) ≡ false
    no = grind (arith, nat_tests)

-- an older record that takes a younger one in stays of its kind and object
pub joined_order : {V : Type 0} → (q r : Record V) → order_of (joined q r) ≡ order_of q
joined_order (Recovery x v) r = refl
joined_order (Lock x m) (Recovery y w) = refl
joined_order (Lock x m) (Lock y n) = refl
joined_order (Lock x m) (Persistence y) = refl
joined_order (Persistence x) r = refl

pub joined_object : {V : Type 0} → (q r : Record V) → object_of (joined q r) ≡ object_of q
joined_object (Recovery x v) r = refl
joined_object (Lock x m) (Recovery y w) = refl
joined_object (Lock x m) (Lock y n) = refl
joined_object (Lock x m) (Persistence y) = refl
joined_object (Persistence x) r = refl

pub is_of_joined : {V : Type 0} → (order : ℕ) (x : Uid) (q r : Record V) → is_of order x (joined q r) ≡ is_of order x q
is_of_joined order x q r = λ i. (joined_order q r i == order) && uid_eq (joined_object q r i) x

pub precedes_joined : {V : Type 0} → (q r s : Record V) → Precedes q s → Precedes (joined q r) s
precedes_joined (Recovery x v) r s p = p
precedes_joined (Lock x m) (Recovery y w) s p = p
precedes_joined (Lock x m) (Lock y n) s p = p
precedes_joined (Lock x m) (Persistence y) s p = p
precedes_joined (Persistence x) r s p = p

pub precedes_to_joined : {V : Type 0} → (s q r : Record V) → Precedes s q → Precedes s (joined q r)
precedes_to_joined s (Recovery x v) r p = p
precedes_to_joined s (Lock x m) (Recovery y w) p = p
precedes_to_joined s (Lock x m) (Lock y n) p = p
precedes_to_joined s (Lock x m) (Persistence y) p = p
precedes_to_joined s (Persistence x) r p = p
