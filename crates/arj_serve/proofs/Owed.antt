-- What a request owes to its call, where it can be meant and be sent.
use Rattle.std.proofs.Common.{◌≡◌, ◌∙◌, ◌==◌, ◌&&◌, ◌||◌, ◌<◌, ℕ, Bool, true, false, cond, not, nat_le, List, [], ◌∷◌, map, filter, refl}
use Rattle.std.proofs.Common.{Option, Some, None, arith}
use Rattle.std.specs.Prelude.{IfSome}
use Rattle.std.specs.List.{AllByRecursion, IsDistinct}
use Rattle.std.proofs.lemmas.Bool.{and_parts, leb-true}
use Rattle.arj_base.specs.State.{StateInForm}
use Rattle.arj_base.proofs.Uids.{uid_is, uid_sym}
use Rattle.arj_class.specs.declared.op.Op.{Op}
use Rattle.arj_msg.specs.InForm.{IsNode, IsObject}
use Rattle.arj_msg.specs.Sendable.{IsSendable, StateSends}
use Rattle.arj_msg.specs.declared.message.Confirm.{Confirm}
use Rattle.arj_naming.specs.Calls.{IsSingle, is_marked}
use Rattle.arj_naming.specs.Entries.{IsOnce}
use Rattle.arj_protocol.specs.Copy.{Copy}
use Rattle.arj_protocol.specs.Effect.{names_object}
use Rattle.arj_protocol.specs.Node.{are_of_objects, copy_has_op, is_object, stand_once}
use Rattle.arj_protocol.specs.Order.{at_number, has}
use Rattle.arj_protocol.specs.Words.{Uid, ObjectState, has_op, own_class, object, uid_eq}
use Rattle.arj_protocol.specs.Words.message
use Rattle.arj_serve.specs.Objects.{AreOfObjects}
use Rattle.arj_server.specs.Classes.{HasOp}

-- ---- an object

pub number_is : (u : Uid) → is_object u ≡ true → IsObject u.num
number_is u is =
    let a = and_parts (uid_eq u (object u.num)) (nat_le 1 u.num && nat_le u.num 256) is in
    let b = and_parts (nat_le 1 u.num) (nat_le u.num 256) a.1 in
    (leb-true 1 u.num b.0, leb-true u.num 256 b.1)

of_object : (u : Uid) → is_object u ≡ true → u ≡ object u.num
of_object u is = uid_is u (object u.num) (and_parts (uid_eq u (object u.num)) (nat_le 1 u.num && nat_le u.num 256) is).0

pub number_small : (u : Uid) → is_object u ≡ true → u.num < 65536
number_small u is = let n = number_is u is in omega (arith, n.0, n.1)

-- ---- an operation

pub op_there : (x : ℕ) (op : Op) (copies : List (ℕ × Copy)) → copy_has_op op (at_number x copies) ≡ true → HasOp x op copies
op_there x op copies is = by (at_number x copies) is
  where
    by : (o : Option Copy) → copy_has_op op o ≡ true → IfSome o (λ c. has_op (own_class c.base.value) op ≡ true)
    by None is = tt
    by (Some c) is = is

-- ---- states

negated : (b : Bool) → not b ≡ true → b ≡ false
negated true is = absurd (cc is)
negated false is = refl

apart : (u : Uid) (ss : List ObjectState) → names_object u ss ≡ false →
    AllByRecursion (λ w. uid_eq u w ≡ false) (map (λ (s : ObjectState). s.uid) ss)
apart u [] isnt = tt
apart u (s ∷ ss) isnt = by (uid_eq s.uid u) refl isnt (apart u ss)
  where
    by : (b : Bool) → uid_eq s.uid u ≡ b → (b || names_object u ss) ≡ false →
        (names_object u ss ≡ false → AllByRecursion (λ w. uid_eq u w ≡ false) (map (λ (s : ObjectState). s.uid) ss))
        → (uid_eq u s.uid ≡ false) × AllByRecursion (λ w. uid_eq u w ≡ false) (map (λ (s : ObjectState). s.uid) ss)
    by true is never rest = absurd (cc never)
    by false is isnt rest = (uid_sym u s.uid ∙ is, rest isnt)

pub states_are : (ss : List ObjectState) → are_of_objects ss ≡ true → AllByRecursion StateSends ss → AllByRecursion StateInForm ss →
    AreOfObjects ss
unfolding IsDistinct
states_are [] is sends form = record { distinct = tt; each = tt }
states_are (s ∷ ss) is sends form =
    let a = and_parts (is_object s.uid) (not (names_object s.uid ss) && are_of_objects ss) is in
    let b = and_parts (not (names_object s.uid ss)) (are_of_objects ss) a.1 in
    let rest = states_are ss b.1 sends.1 form.1 in
    record {
      distinct = (apart s.uid ss (negated (names_object s.uid ss) b.0), rest.distinct);
      each = (
        record {
          own = refl;
          number = number_is s.uid a.0;
          of = of_object s.uid a.0;
          in_form = form.0;
          restores =
              sends.0;
        },
        rest.each,
      );
    }

-- ---- a Confirm

not_among : (P : ℕ × ℕ → Bool) (x : ℕ) (gs : List (ℕ × ℕ)) → has (map (λ (g : ℕ × ℕ). g.0) gs) x ≡ false →
    has (map (λ (g : ℕ × ℕ). g.0) (filter P gs)) x ≡ false
not_among P x [] isnt = refl
not_among P x (g ∷ gs) isnt = by (g.0 == x) refl (P g) isnt (not_among P x gs)
  where
    by : (b : Bool) → (g.0 == x) ≡ b → (p : Bool) → (b || has (map (λ (g : ℕ × ℕ). g.0) gs) x) ≡ false →
        (has (map (λ (g : ℕ × ℕ). g.0) gs) x ≡ false → has (map (λ (g : ℕ × ℕ). g.0) (filter P gs)) x ≡ false)
        → has (map (λ (g : ℕ × ℕ). g.0) (cond p (g ∷ filter P gs) (filter P gs))) x ≡ false
    by true is p never rest = absurd (cc never)
    by false is true isnt rest = (λ i. is i || rest isnt i)
    by false is false isnt rest = rest isnt

once : (P : ℕ × ℕ → Bool) (gs : List (ℕ × ℕ)) → stand_once (map (λ (g : ℕ × ℕ). g.0) gs) ≡ true →
    IsOnce (map (λ (g : ℕ × ℕ). g.0) (filter P gs))
once P [] is = tt
once P (g ∷ gs) is = by (P g) (not_among P g.0 gs (negated (has (map (λ (g : ℕ × ℕ). g.0) gs) g.0) a.0)) (once P gs a.1)
  where
    a : (not (has (map (λ (g : ℕ × ℕ). g.0) gs) g.0) ≡ true) × (stand_once (map (λ (g : ℕ × ℕ). g.0) gs) ≡ true)
    a = and_parts (not (has (map (λ (g : ℕ × ℕ). g.0) gs) g.0)) (stand_once (map (λ (g : ℕ × ℕ). g.0) gs)) is

    by : (p : Bool) → has (map (λ (g : ℕ × ℕ). g.0) (filter P gs)) g.0 ≡ false → IsOnce (map (λ (g : ℕ × ℕ). g.0) (filter P gs)) →
        IsOnce (map (λ (g : ℕ × ℕ). g.0) (cond p (g ∷ filter P gs) (filter P gs)))
    by true isnt rest = (isnt, rest)
    by false isnt rest = rest

nodes_of : (ks : List (ℕ × ℕ)) → AllByRecursion (λ (k : ℕ × ℕ). IsObject k.0 × IsNode k.1) ks →
    AllByRecursion (λ (k : ℕ × ℕ). IsNode k.1) ks
nodes_of [] all = tt
nodes_of (k ∷ ks) all = (all.0.1, nodes_of ks all.1)

pub single : (m : Confirm) → stand_once (map (λ (g : ℕ × ℕ). g.0) m.objects) ≡ true → IsSendable (message.Confirm m) → IsSingle m
single m is sends =
    record { few = sends.0.0; once = once (λ (g : ℕ × ℕ). is_marked m g.0) m.objects is; nodes = nodes_of m.included sends.2.1 }
