-- Reading values one after the other, as a loop does.
use Rattle.std.proofs.Common.{◌≡◌, ℕ, suc, ◌-◌, ◌+◌, ◌≤◌, ◌<◌, List, [], ◌∷◌, ◌++◌, Result, Ok, Err, refl, sym, ap, ◌∙◌, append_assoc}
use Rattle.std.proofs.Common.{arith}
use Rattle.std.proofs.lemmas.List.{append-nil}
use Rattle.arj_msg.specs.declared.fault.ReadFault.{ReadFault}
use Rattle.arj_msg.specs.declared.fault.ReadFault.TheVariants as fault
use Rattle.arj_msg.specs.Format.{Format, ◌>>=◌, Fails, read_many}

-- what was read before, and what is still read
abbrev pub with_front : {A : Type 0} → List A → Result (List A × List ℕ) ℕ → Result (List A × List ℕ) ℕ
with_front front read = read >>= λ x. Ok (front ++ x.0, x.1)

regroup : {A : Type 0} (front : List A) (a : A) (read : Result (List A × List ℕ) ℕ) →
    with_front front (read >>= λ x. Ok (a ∷ x.0, x.1)) ≡ with_front (front ++ a ∷ []) read
regroup {A = A} front a (Ok x) = ap (λ (items : List A). Ok (items, x.1)) (simp append_assoc)
regroup front a (Err left) = refl

pub goes_on : {A : Type 0} (f : Format A) (front : List A) (count i : ℕ) (bytes : List ℕ) (a : A) (behind : List ℕ) (total : Result (List A × List ℕ) ℕ) → i < count → f.read bytes ≡ Ok (a, behind)
    → with_front front (read_many f (count - i) bytes) ≡ total → with_front (front ++ a ∷ []) (read_many f (count - (i + 1)) behind) ≡ total
goes_on f front count i bytes a behind total less read so_far =
    let k : count - i ≡ suc (count - (i + 1)) = omega arith in
    let one : with_front front (read_many f (count - i) bytes) ≡ with_front (front ++ a ∷ []) (read_many f (count - (i + 1)) behind) =
    rw (k, read) (regroup front a (read_many f (count - (i + 1)) behind)) in
    sym one ∙ so_far

pub ends : {A : Type 0} (f : Format A) (e : ReadFault) (front : List A) (count i : ℕ) (bytes : List ℕ) (total : Result (List A × List ℕ) ℕ) → i < count → Fails e (f.read bytes)
    → with_front front (read_many f (count - i) bytes) ≡ total → Fails e total
ends f fault.Memory front count i bytes total less failed so_far = tt
ends f (fault.Left n) front count i bytes total less failed so_far =
    let k : count - i ≡ suc (count - (i + 1)) = omega arith in
    let one : with_front front (read_many f (count - i) bytes) ≡ Err n = rw (k, failed) refl in
    sym so_far ∙ one

pub is_done : {A : Type 0} (f : Format A) (front : List A) (count i : ℕ) (bytes : List ℕ) (total : Result (List A × List ℕ) ℕ) → count ≤ i →
    with_front front (read_many f (count - i) bytes) ≡ total → total ≡ Ok (front, bytes)
is_done {A = A} f front count i bytes total le so_far =
    let k : count - i ≡ 0 = omega arith in
    let one : with_front front (read_many f (count - i) bytes) ≡ Ok (front, bytes) =
    rw k (ap (λ (items : List A). Ok (items, bytes)) (append-nil front)) in
    sym so_far ∙ one
