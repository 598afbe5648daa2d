-- Two values have two codes, and so have two tops.
use Rattle.arj_law_parts.proofs.Words
use Words.{◌≡◌, ◌<◌, ℕ, ◌+◌, ◌*◌, List, [], ◌∷◌, zero, suc, refl, ap, arith, Value, class_code_of, class_of}
use Rattle.arj_law_serial.proofs.Terms.{code_of, Root, Sub, AreApart}
use Rattle.arj_base.proofs.Packed.{class_once}
use Rattle.arj_class.specs.declared.value.Value.TheVariants.{Account, Counter, Gone, Queue, Register, Table}
use Rattle.arj_law_lock.specs.machine.Actions.{Act}
use Rattle.arj_law_serial.specs.order.Codes.{act_code, all, both, flat, held_in, value_code}

both_apart : (m n k l : ℕ) → both m n ≡ both k l → (m ≡ k) × (n ≡ l)
both_apart zero n zero l e = let f : 2 * n + 1 ≡ 2 * l + 1 = e in (refl, omega (arith, f))
both_apart zero n (suc k) l e = let f : 2 * n + 1 ≡ 2 * both k l = e in absurd (omega (arith, f))
both_apart (suc m) n zero l e = let f : 2 * both m n ≡ 2 * l + 1 = e in absurd (omega (arith, f))
both_apart (suc m) n (suc k) l e = let r = both_apart m n k l (half (both m n) (both k l) e) in (ap suc r.0, r.1)
  where
    half : (a b : ℕ) → 2 * a ≡ 2 * b → a ≡ b
    half a b f = omega (arith, f)

positive : (m n : ℕ) → 0 < both m n
positive zero n = let f : 0 < 2 * n + 1 = omega arith in f
positive (suc m) n = let p = positive m n in let f : 0 < 2 * both m n = omega (arith, p) in f

all_apart : (ms ns : List ℕ) → all ms ≡ all ns → ms ≡ ns
all_apart [] [] e = refl
all_apart [] (n ∷ ns) e = let p = positive n (all ns) in absurd (omega (arith, p, e))
all_apart (m ∷ ms) [] e = let p = positive m (all ms) in absurd (omega (arith, p, e))
all_apart (m ∷ ms) (n ∷ ns) e = let r = both_apart m (all ms) n (all ns) e in λ i. r.0 i ∷ all_apart ms ns r.1 i

flat_apart : (ps qs : List (ℕ × ℕ)) → flat ps ≡ flat qs → ps ≡ qs
flat_apart [] [] e = refl
flat_apart [] (q ∷ qs) e = let f : ◌≡◌ {A = List ℕ} [] (q.0 ∷ q.1 ∷ flat qs) = e in absurd (cc f)
flat_apart (p ∷ ps) [] e = let f : ◌≡◌ {A = List ℕ} (p.0 ∷ p.1 ∷ flat ps) [] = e in absurd (cc f)
flat_apart (p ∷ ps) (q ∷ qs) e =
    let f : ◌≡◌ {A = List ℕ} (p.0 ∷ p.1 ∷ flat ps) (q.0 ∷ q.1 ∷ flat qs) = e in
    let first : p.0 ≡ q.0 = cc f in
    let second : p.1 ≡ q.1 = cc f in
    let rest : flat ps ≡ flat qs = cc f in
    λ i. (first i, second i) ∷ flat_apart ps qs rest i

held_apart : (v w : Value) → class_of v ≡ class_of w → held_in v ≡ held_in w → v ≡ w
held_apart (Counter m) (Counter n) same e = ap Counter e
held_apart (Register m) (Register n) same e = ap Register (all_apart m n e)
held_apart (Account m) (Account n) same e = ap Account e
held_apart (Queue m) (Queue n) same e = ap Queue (all_apart m n e)
held_apart (Table m) (Table n) same e = ap Table (flat_apart m n (all_apart (flat m) (flat n) e))
held_apart (Gone c) (Gone d) same e = ap Gone (class_once c d e)
held_apart _ _ same e = cc

values_apart : (v w : Value) → value_code v ≡ value_code w → v ≡ w
values_apart v w e =
    let r = both_apart (class_code_of (class_of v)) (held_in v) (class_code_of (class_of w)) (held_in w) e in
    held_apart v w (class_once (class_of v) (class_of w) r.0) r.1

acts_apart : (a b : Act) → act_code a ≡ act_code b → a ≡ b
acts_apart (Root m) (Root n) e = ap Root (both_apart 0 m 0 n e).1
acts_apart (Root m) (Sub b n) e = absurd (omega (arith, (both_apart 0 m 1 (both (act_code b) n) e).0))
acts_apart (Sub a m) (Root n) e = absurd (omega (arith, (both_apart 1 (both (act_code a) m) 0 n e).0))
acts_apart (Sub a m) (Sub b n) e =
    let inner = both_apart (act_code a) m (act_code b) n (both_apart 1 (both (act_code a) m) 1 (both (act_code b) n) e).1 in
    let above = acts_apart a b inner.0 in
    λ i. Sub (above i) (inner.1 i)

pub codes_are_apart : AreApart code_of
codes_are_apart v w a b e = let r = both_apart (value_code v) (act_code a) (value_code w) (act_code b) e in
    (values_apart v w r.0, acts_apart a b r.1)
