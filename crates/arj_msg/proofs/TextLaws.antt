-- The laws of bytes behind their length.
use Rattle.std.proofs.Common.{◌≡◌, ℕ, ◌<◌, ◌≤◌, List, [], ◌∷◌, ◌++◌, length, take, drop, Some, None, sym, ap, subst, refl, ◌∙◌, append_assoc}
use Rattle.std.proofs.Common.{arith, true, false, ◌&&◌, nat_le, nat_lt, if◌then◌else◌}
use Rattle.std.specs.Int.{w16, from_be_bytes}
use Rattle.std.proofs.lemmas.Bool.{le-leb, leb-true, le-ltb, ltb-false}
use Rattle.std.proofs.lemmas.Bool.Decides.{nat_tests}
use Rattle.std.proofs.lemmas.List.{take_at, drop_at, take-append-drop, length-append, length-take}
use Rattle.std.proofs.lemmas.Nat.{be_bytes_2, from_be_bytes-to_be_bytes_2}
use Rattle.byteorder.specs.Endian.{big_bytes}
use Rattle.arj_class.specs.declared.limits.TheConstants.{REGISTER_BYTES}
use Rattle.arj_msg.specs.Operation.{text, cut_text}
use Rattle.arj_msg.specs.State.{long_bytes, cut_long, bytes_behind_length}
use Rattle.arj_msg.proofs.Laws.{IsBytes, Lawful, field_lawful, bytes_of_rest}
use Rattle.arj_msg.proofs.FieldLaws.{if_some, else_some, bytes_take}

-- the first n of enough bytes, and those behind them
cut_at : (n : ℕ) (bytes a rest : List ℕ) → n ≤ length bytes → take n bytes ≡ a → drop n bytes ≡ rest → (length a ≡ n) × (bytes ≡ a ++ rest)
cut_at n bytes a rest le front behind =
    (omega (arith, ap length front, length-take n bytes), sym (take-append-drop n bytes) ∙ (λ i. front i ++ behind i))

text_found : (bytes a rest : List ℕ) → IsBytes bytes → cut_text bytes ≡ Some (a, rest) → (length a ≤ REGISTER_BYTES) × (bytes ≡ (length a ∷ a) ++ rest)
text_found [] a rest are e = absurd cc
text_found (n ∷ bytes) a rest are e =
    let found = if_some (nat_le n REGISTER_BYTES && nat_le n (length bytes)) (take n bytes, drop n bytes) (a, rest) e in
    let small : n ≤ REGISTER_BYTES = grind (arith, nat_tests, found.0) in
    let enough : n ≤ length bytes = grind (arith, nat_tests, found.0) in
    let cut = cut_at n bytes a rest enough (ap (λ p. p.0) found.1) (ap (λ p. p.1) found.1) in
    (omega (arith, cut.0), λ i. sym cut.0 i ∷ cut.1 i)

text_again : (a rest : List ℕ) → length a ≤ REGISTER_BYTES → cut_text ((length a ∷ a) ++ rest) ≡ Some (a, rest)
text_again a rest small =
    let fits : (nat_le (length a) REGISTER_BYTES && nat_le (length a) (length (a ++ rest))) ≡ true =
    (λ i. le-leb (length a) REGISTER_BYTES small i && le-leb (length a) (length (a ++ rest)) (omega (arith, length-append a rest)) i) in
    ap (λ t. if t then Some (take (length a) (a ++ rest), drop (length a) (a ++ rest)) else None) fits ∙ (λ i. Some (take_at a rest (length a) refl i, drop_at a rest (length a) refl i))

pub text_lawful : Lawful text
unfolding text
text_lawful = field_lawful (λ bytes. length bytes ∷ bytes) (λ bytes. length bytes ≤ REGISTER_BYTES) cut_text text_found text_again ([], omega arith)

pub long_found : (bytes a rest : List ℕ) → IsBytes bytes → cut_long bytes ≡ Some (a, rest) →
    (length a < 65536) × (bytes ≡ (big_bytes 2 (length a) ++ a) ++ rest)
long_found bytes a rest are e =
    let n = from_be_bytes w16 (take 2 bytes) in
    let two = else_some (nat_lt (length bytes) 2) (bytes_behind_length n (drop 2 bytes)) (a, rest) e in
    let le : 2 ≤ length bytes = ltb-false _ _ two.0 in
    let found = if_some (nat_le n (length (drop 2 bytes))) (take n (drop 2 bytes), drop n (drop 2 bytes)) (a, rest) two.1 in
    let cut = cut_at n (drop 2 bytes) a rest (leb-true _ _ found.0) (ap (λ p. p.0) found.1) (ap (λ p. p.1) found.1) in
    let front = bytes_take 2 bytes are in
    let size : big_bytes 2 n ≡ take 2 bytes = be_bytes_2 (take 2 bytes) n (omega (arith, length-take 2 bytes)) front refl in
    let below : n < 65536 = omega (arith, front 0, front 1) in
    (omega (arith, cut.0, below), sym (take-append-drop 2 bytes) ∙ (λ i. (sym size ∙ ap (big_bytes 2) (sym cut.0)) i ++ cut.1 i) ∙ sym (append_assoc (big_bytes 2 (length a)) a rest))

-- what stands behind its length is bytes where all is
pub long_are : (bytes a rest : List ℕ) → IsBytes bytes → bytes ≡ (big_bytes 2 (length a) ++ a) ++ rest → IsBytes a
long_are bytes a rest are is =
    subst IsBytes (take_at a rest (length a) refl) (bytes_take (length a) (a ++ rest) (bytes_of_rest bytes (big_bytes 2 (length a)) (a ++ rest) are (is ∙ append_assoc (big_bytes 2 (length a)) a rest)))

pub long_again : (a rest : List ℕ) → length a < 65536 → cut_long ((big_bytes 2 (length a) ++ a) ++ rest) ≡ Some (a, rest)
long_again a rest small =
    let number : from_be_bytes w16 (big_bytes 2 (length a)) ≡ length a = from_be_bytes-to_be_bytes_2 (length a) small in
    let enough : nat_le (length a) (length (a ++ rest)) ≡ true = le-leb _ _ (omega (arith, length-append a rest)) in
    let long : nat_lt (length ((big_bytes 2 (length a) ++ a) ++ rest)) 2 ≡ false = le-ltb _ _ (omega arith) in
    ap (λ t. if t then None else bytes_behind_length (from_be_bytes w16 (big_bytes 2 (length a))) (a ++ rest)) long ∙ ap (λ n. bytes_behind_length n (a ++ rest)) number ∙ ap (λ t. if t then Some (take (length a) (a ++ rest), drop (length a) (a ++ rest)) else None) enough
    ∙ (λ i. Some (take_at a rest (length a) refl i, drop_at a rest (length a) refl i))

pub long_lawful : Lawful long_bytes
unfolding long_bytes
long_lawful =
    field_lawful (λ bytes. big_bytes 2 (length bytes) ++ bytes) (λ bytes. length bytes < 65536) cut_long long_found long_again ([], omega arith)
