use Rattle.std.proofs.Common.{◌≡◌, ◌≢◌, ◌≤◌, ◌<◌, ◌-◌, ◌∙◌, ℕ, List, length, ap, sym, subst, arith, true, false, ◌==◌}
use Rattle.std.proofs.lemmas.Bool.{eqb-true}
use Rattle.arj_msg.specs.declared.fault.ReadFault.{ReadFault}
use Rattle.arj_msg.specs.declared.fault.ReadFault.TheVariants.{Left}
use Rattle.arj_msg.specs.Format.{Fails}
use Rattle.arj_msg.specs.Layout.{message, IsFaultAt}
use Rattle.arj_msg.proofs.Laws.{IsBytes}
use Rattle.arj_msg.proofs.DecodeLaws.{stopped, followed, decoded, only_one}
use Rattle.arj_msg.proofs.codec.decode.Goals as goal

fault_at : (bytes : List ℕ) (f : ReadFault) (left : ℕ) → IsBytes bytes → f ≡ Left left → Fails f (message.read bytes) →
    (left ≤ length bytes) × (length bytes - left < 4294967296) × IsFaultAt bytes (length bytes - left)
fault_at bytes f left are is failed = stopped bytes left are (subst (λ g. Fails g (message.read bytes)) is failed)

some_left : (n : ℕ) → false ≡ (n == 0) → n ≢ 0
some_left n is zero = let never : false ≡ true = is ∙ ap (λ m. m == 0) zero in absurd cc

pub overflow_sub-result : goal.overflow_sub-result
overflow_sub-result c =
    (fault_at c.args.bytes.now c.in-Err-Left.field-0 c.in-Err-Left.left (λ i. omega (arith, c.type_inv.bytes i)) c.in-Err-Left.field-0-is c.in-Err-Left.ensures).0

pub overflow_cast-result : goal.overflow_cast-result
overflow_cast-result c =
    omega (arith, (fault_at c.args.bytes.now c.in-Err-Left.field-0 c.in-Err-Left.left (λ i. omega (arith, c.type_inv.bytes i)) c.in-Err-Left.field-0-is c.in-Err-Left.ensures).1)

pub returns-in-Err-Left-clause-only : goal.returns-in-Err-Left-clause-only
returns-in-Err-Left-clause-only c =
    λ m fits is. absurd ((fault_at c.args.bytes.now c.in-Err-Left.field-0 c.in-Err-Left.left (λ i. omega (arith, c.type_inv.bytes i)) c.in-Err-Left.field-0-is c.in-Err-Left.ensures).2.none m fits is)

pub returns-in-Err-Left-clause-fault : goal.returns-in-Err-Left-clause-fault
returns-in-Err-Left-clause-fault c =
    (fault_at c.args.bytes.now c.in-Err-Left.field-0 c.in-Err-Left.left (λ i. omega (arith, c.type_inv.bytes i)) c.in-Err-Left.field-0-is c.in-Err-Left.ensures).2

pub overflow_sub-result-then-not-is_empty : goal.overflow_sub-result-then-not-is_empty
overflow_sub-result-then-not-is_empty c =
    (followed c.args.bytes.now c.in-Ok.read.0 c.in-Ok.read.1.now (λ i. omega (arith, c.type_inv.bytes i)) c.in-Ok.ensures (some_left (length c.in-Ok.read.1.now) c.if-not-is_empty.ensures)).0

pub overflow_cast-result-then-not-is_empty : goal.overflow_cast-result-then-not-is_empty
overflow_cast-result-then-not-is_empty c =
    omega (arith, (followed c.args.bytes.now c.in-Ok.read.0 c.in-Ok.read.1.now (λ i. omega (arith, c.type_inv.bytes i)) c.in-Ok.ensures (some_left (length c.in-Ok.read.1.now) c.if-not-is_empty.ensures)).1)

pub returns-then-not-is_empty-clause-only : goal.returns-then-not-is_empty-clause-only
returns-then-not-is_empty-clause-only c =
    λ m fits is. absurd ((followed c.args.bytes.now c.in-Ok.read.0 c.in-Ok.read.1.now (λ i. omega (arith, c.type_inv.bytes i)) c.in-Ok.ensures (some_left (length c.in-Ok.read.1.now) c.if-not-is_empty.ensures)).2.none m fits is)

pub returns-then-not-is_empty-clause-fault : goal.returns-then-not-is_empty-clause-fault
returns-then-not-is_empty-clause-fault c =
    (followed c.args.bytes.now c.in-Ok.read.0 c.in-Ok.read.1.now (λ i. omega (arith, c.type_inv.bytes i)) c.in-Ok.ensures (some_left (length c.in-Ok.read.1.now) c.if-not-is_empty.ensures)).2

pub returns-clause-found : goal.returns-clause-found
returns-clause-found c =
    decoded c.args.bytes.now c.in-Ok.read.0 c.in-Ok.read.1.now (λ i. omega (arith, c.type_inv.bytes i)) c.in-Ok.ensures (eqb-true (length c.in-Ok.read.1.now) 0 (sym c.if-not-is_empty.ensures))

pub returns-clause-only : goal.returns-clause-only
returns-clause-only c = λ m fits is. only_one c.args.bytes.now c.in-Ok.read.0 c.in-Ok.read.1.now c.in-Ok.ensures m fits is
