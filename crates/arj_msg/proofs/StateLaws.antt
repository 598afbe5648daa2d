-- The laws of object states in messages.
use Rattle.std.proofs.Common.{◌≡◌, ◌≢◌, ℕ, ◌+◌, ◌<◌, ◌≤◌, List, [], ◌∷◌, ◌++◌, length, take, drop, Some, None, Option, is_some}
use Rattle.std.proofs.Common.{codes, sym, ap, subst, refl, ◌∙◌, arith, Bool, true, false, nat_eq, if◌then◌else◌}
use Rattle.std.specs.List.{starts_with}
use Rattle.std.proofs.lemmas.List.{take-append-drop}
use Rattle.std.proofs.lemmas.Slice.Eq.{bytes_eq-Decides}
use Rattle.byteorder.specs.Endian.{big_bytes}
use Rattle.arj_base.specs.declared.state.Class.TheVariants as class
use Rattle.arj_base.specs.declared.state.ObjectState.{ObjectState}
use Rattle.arj_base.specs.declared.state.Class.{Class}
use Rattle.arj_base.specs.declared.state.Format.{Format as StateFormat}
use Rattle.arj_base.specs.declared.state.Format.TheVariants.{One, Two}
use Rattle.arj_base.specs.State.{state_bytes, class_bytes, class_code_of, format_in, format_mark, version_of_code, StateInForm}
use Rattle.arj_base.specs.Uid.{nobody, uid_bytes}
use Rattle.arj_class.specs.declared.value.Value.{Value}
use Rattle.arj_class.specs.declared.value.Value.TheVariants as value
use Rattle.arj_msg.specs.Format.{byte, between, both, chain}
use Rattle.arj_msg.specs.Fields.{number8, uid}
use Rattle.arj_msg.specs.State.{in_all, value_from, restores, Restores, mark, state_class, class_version, class_in, cut_long, long_bytes, packed, restored}
use Rattle.arj_msg.specs.State.{state_from, with_rest, state_in, state}
use Rattle.arj_msg.proofs.Laws.{IsBytes, Lawful, bytes_behind, field_lawful, chain_lawful, shaped_lawful}
use Rattle.arj_msg.proofs.FieldLaws.{if_some, between_le, le_between, byte_lawful, number8_lawful, uid_lawful, both_lawful}
use Rattle.arj_msg.proofs.TextLaws.{long_found, long_again, long_are, long_lawful}
use Rattle.arj_msg.proofs.ValueLaws.{all_found, all_again, some_is, short_payload, state_class_lawful, class_codes, restores_found}
use Rattle.arj_msg.proofs.ValueLaws.{restores_again}

-- the format that bytes begin with
format_here : (bytes : List ℕ) (f : StateFormat) → format_in bytes ≡ Some f → format_mark f ≡ take 4 bytes
format_here bytes f e = by (starts_with nat_eq bytes (codes "ARJ1")) (starts_with nat_eq bytes (codes "ARJ2")) refl refl e
  where
    by : (one two : Bool) → starts_with nat_eq bytes (codes "ARJ1") ≡ one → starts_with nat_eq bytes (codes "ARJ2") ≡ two →
        (if one then Some One else (if two then Some Two else None)) ≡ Some f → format_mark f ≡ take 4 bytes
    by true two is_one is_two e = subst (λ g. format_mark g ≡ take 4 bytes) (some_is One f e) ((bytes_eq-Decides (codes "ARJ1") (take 4 bytes)).0 is_one)
    by false true is_one is_two e = subst (λ g. format_mark g ≡ take 4 bytes) (some_is Two f e) ((bytes_eq-Decides (codes "ARJ2") (take 4 bytes)).0 is_two)
    by false false is_one is_two e = absurd cc

mark_found : (bytes : List ℕ) (f : StateFormat) (rest : List ℕ) (o : Option StateFormat) → format_in bytes ≡ o →
    with_rest (drop 4 bytes) o ≡ Some (f, rest) → Unit {0} × (bytes ≡ format_mark f ++ rest)
mark_found bytes f rest None is e = absurd cc
mark_found bytes f rest (Some g) is e =
    let pair : (g, drop 4 bytes) ≡ (f, rest) = some_is (g, drop 4 bytes) (f, rest) e in
    let front : format_mark f ≡ take 4 bytes = format_here bytes f (is ∙ ap (λ p. Some p.0) pair) in
    (tt, sym (take-append-drop 4 bytes) ∙ (λ i. sym front i ++ (pair i).1))

mark_again : (f : StateFormat) (rest : List ℕ) → with_rest (drop 4 (format_mark f ++ rest)) (format_in (format_mark f ++ rest)) ≡ Some (f, rest)
mark_again One rest = refl
mark_again Two rest = refl

mark_lawful : Lawful mark
unfolding mark
mark_lawful =
    field_lawful format_mark (λ _. Unit {0}) (λ bytes. with_rest (drop 4 bytes) (format_in bytes)) (λ bytes f rest are e. mark_found bytes f rest (format_in bytes) refl e) (λ f rest fits. mark_again f rest) (One, tt)

version_lawful : (c : Class) → Lawful (class_version c)
unfolding class_version
version_lawful c = byte_lawful (version_of_code (class_code_of c)) (version_of_code (class_code_of c)) (omega arith)

class_in_lawful : (f : StateFormat) → Lawful (class_in f)
unfolding class_version byte
class_in_lawful One = state_class_lawful
class_in_lawful Two =
    shaped_lawful _ _ (chain_lawful state_class class_version state_class_lawful (λ c fits. version_lawful c)) versioned (λ c fits. refl)
  where
    versioned : (p : Class × ℕ) → (chain state_class class_version).Fits p → (p.0, version_of_code (class_code_of p.0)) ≡ p
    versioned p fits =
        let within = between_le (version_of_code (class_code_of p.0)) (version_of_code (class_code_of p.0)) p.1 fits.1 in
        let same : version_of_code (class_code_of p.0) ≡ p.1 = omega (arith, within.0, within.1) in
        λ i. (p.0, same i)

pub packed_lawful : Lawful packed
unfolding packed
packed_lawful =
    shaped_lawful _ _ (chain_lawful mark (λ f. both uid (both (class_in f) (both number8 (both uid long_bytes)))) mark_lawful (λ f fits. both_lawful uid_lawful (both_lawful (class_in_lawful f) (both_lawful number8_lawful (both_lawful uid_lawful long_lawful)))))
    (λ p fits. refl) (λ s fits. refl)

class_spelled : (f : StateFormat) (c : Class) → (class_in f).spell c ≡ class_bytes f c
unfolding state_class class_version byte
class_spelled One c = refl
class_spelled Two c = refl

class_fits : (f : StateFormat) (c : Class) → between 1 6 (class_code_of c) ≡ true → (class_in f).Fits c
unfolding state_class class_version byte
class_fits One c is = is
class_fits Two c is = (is, le_between _ _ (version_of_code (class_code_of c)) (omega arith) (omega arith))

-- a packed state is spelled as in a file
packed_bytes : (s : ObjectState) → packed.spell s ≡ state_bytes s
unfolding packed mark uid number8 long_bytes
packed_bytes s =
    ap (λ bytes. format_mark s.format ++ (uid_bytes s.uid ++ (bytes ++ (big_bytes 8 s.version ++ (uid_bytes s.writer ++ (big_bytes 2 (length s.payload) ++ s.payload)))))) (class_spelled s.format s.class)

packed_fits : (s : ObjectState) → packed.Fits s → StateInForm s
unfolding packed mark uid number8 long_bytes
packed_fits s fits = (fits.1.0, fits.1.1.1.0, fits.1.1.1.1.0, fits.1.1.1.1.1)

fits_packed : (s : ObjectState) → StateInForm s → Restores s.format s.class s.payload → packed.Fits s
unfolding packed mark uid number8 long_bytes
fits_packed s form saved =
    (tt, (form.0, (class_fits s.format s.class (subst (λ c. between 1 6 (class_code_of c) ≡ true) saved.1 (class_codes saved.0)), (form.1, (form.2, form.3)))))

-- what is found in all of the bytes
pub record Unpacks (bytes : List ℕ) (s : ObjectState) : Type 0 where
  pub spelled : bytes ≡ state_bytes s
  pub in_form : StateInForm s
  pub saved : Restores s.format s.class s.payload

payload_behind : (s : ObjectState) → IsBytes (state_bytes s) → IsBytes s.payload
payload_behind s are =
    let uid = bytes_behind (format_mark s.format) _ are in
    let class = bytes_behind (uid_bytes s.uid) _ uid in
    let version = bytes_behind (class_bytes s.format s.class) _ class in
    let rest : List ℕ = big_bytes 2 (length s.payload) ++ s.payload in
    let writer = bytes_behind (big_bytes 8 s.version) (uid_bytes s.writer ++ rest) version in
    bytes_behind (big_bytes 2 (length s.payload)) s.payload (bytes_behind (uid_bytes s.writer) rest writer)

unpacks_by : (bytes : List ℕ) (s : ObjectState) (o : Option ObjectState) → IsBytes bytes → in_all packed bytes ≡ o → restored o ≡ Some s →
    Unpacks bytes s
unpacks_by bytes s None are read e = absurd cc
unpacks_by bytes s (Some t) are read e =
    let found = if_some (restores t.format t.class t.payload) t s e in
    let got = all_found packed packed_lawful bytes t are read in
    let spelled : bytes ≡ state_bytes t = got.1 ∙ packed_bytes t in
    let all : Unpacks bytes t =
    record {
      spelled = spelled;
      in_form = packed_fits t got.0;
      saved =
          restores_found t.format t.class t.payload (payload_behind t (subst IsBytes spelled are)) found.0;
    } in
    subst (Unpacks bytes) found.1 all

pub unpacks : (bytes : List ℕ) (s : ObjectState) → IsBytes bytes → state_from bytes ≡ Some s → Unpacks bytes s
unfolding state_from
unpacks bytes s are e = unpacks_by bytes s (in_all packed bytes) are refl e

pub unpacks_again : (s : ObjectState) → StateInForm s → Restores s.format s.class s.payload → state_from (state_bytes s) ≡ Some s
unfolding state_from
unpacks_again s form saved =
    let read : in_all packed (state_bytes s) ≡ Some s =
    ap (in_all packed) (sym (packed_bytes s)) ∙ all_again packed packed_lawful s (fits_packed s form saved) in
    ap restored read ∙ ap (λ t. if t then Some s else None) (restores_again s.format s.class s.payload saved)

none_by : (bytes : List ℕ) (o : Option ObjectState) → IsBytes bytes → state_from bytes ≡ o →
    ((s : ObjectState) → StateInForm s → Restores s.format s.class s.payload → state_bytes s ≢ bytes) → o ≡ None
none_by bytes None are read none = refl
none_by bytes (Some s) are read none = let got = unpacks bytes s are read in absurd (none s got.in_form got.saved (sym got.spelled))

pub unpacks_none : (bytes : List ℕ) → IsBytes bytes →
    ((s : ObjectState) → StateInForm s → Restores s.format s.class s.payload → state_bytes s ≢ bytes) → state_from bytes ≡ None
unpacks_none bytes are none = none_by bytes (state_from bytes) are refl none

-- the state that was unpacked, whose payload restores to a value or not
pub unpacks_to : (bytes : List ℕ) (s : ObjectState) (v : Value) → IsBytes bytes → bytes ≡ state_bytes s → StateInForm s →
    value_from s.format s.class s.payload ≡ Some v → state_from bytes ≡ Some s
unpacks_to bytes s v are is form e =
    let saved = restores_found s.format s.class s.payload (payload_behind s (subst IsBytes is are)) (ap is_some e) in
    ap state_from is ∙ unpacks_again s form saved

pub unpacks_to_none : (bytes : List ℕ) (s : ObjectState) → IsBytes bytes →
    ((t : ObjectState) → StateInForm t → state_bytes t ≡ bytes → s ≡ t) → value_from s.format s.class s.payload ≡ None → state_from bytes ≡ None
unpacks_to_none bytes s are only none = unpacks_none bytes are (λ t form saved is.
    let same = only t form is in
    let there = restores_again t.format t.class t.payload saved in
    let never : false ≡ true = sym (ap is_some none) ∙ ap (λ u. restores u.format u.class u.payload) same ∙ there in
    absurd cc)

-- ---- the field

state_found : (bytes : List ℕ) (s : ObjectState) (rest : List ℕ) (o : Option (List ℕ × List ℕ)) → IsBytes bytes → cut_long bytes ≡ o →
    state_in o ≡ Some (s, rest)
    → (StateInForm s × Restores s.format s.class s.payload) × (bytes ≡ (big_bytes 2 (length (state_bytes s)) ++ state_bytes s) ++ rest)
state_found bytes s rest None are cut e = absurd cc
state_found bytes s rest (Some p) are cut e = by (state_from p.0) refl e
  where
    by : (o : Option ObjectState) → state_from p.0 ≡ o → with_rest p.1 o ≡ Some (s, rest) →
        (StateInForm s × Restores s.format s.class s.payload) × (bytes ≡ (big_bytes 2 (length (state_bytes s)) ++ state_bytes s) ++ rest)
    by None read e = absurd cc
    by (Some t) read e =
        let pair : (t, p.1) ≡ (s, rest) = some_is (t, p.1) (s, rest) e in
        let same : t ≡ s = ap (λ q. q.0) pair in
        let behind : p.1 ≡ rest = ap (λ q. q.1) pair in
        let long = long_found bytes p.0 p.1 are cut in
        let got = unpacks p.0 s (long_are bytes p.0 p.1 are long.1) (read ∙ ap Some same) in
        ((got.in_form, got.saved), long.1 ∙ (λ i. (big_bytes 2 (length (got.spelled i)) ++ got.spelled i) ++ behind i))

pub state_short : (s : ObjectState) → Restores s.format s.class s.payload → length (state_bytes s) ≤ 304
state_short s saved = by s.format
  where
    by : (f : StateFormat) →
        length (format_mark f ++ (uid_bytes s.uid ++ (class_bytes f s.class ++ (big_bytes 8 s.version ++ (uid_bytes s.writer ++ (big_bytes 2 (length s.payload) ++ s.payload)))))) ≤ 304
    by One = omega (arith, short_payload saved.0 saved.2, ap length saved.4)
    by Two = omega (arith, short_payload saved.0 saved.2, ap length saved.4)

state_again : (s : ObjectState) (rest : List ℕ) → StateInForm s × Restores s.format s.class s.payload →
    state_in (cut_long ((big_bytes 2 (length (state_bytes s)) ++ state_bytes s) ++ rest)) ≡ Some (s, rest)
state_again s rest fits =
    ap state_in (long_again (state_bytes s) rest (omega (arith, state_short s fits.1))) ∙ ap (with_rest rest) (unpacks_again s fits.0 fits.1)

abbrev some_state : ObjectState
some_state = record { uid = nobody; class = class.Register; version = 0; writer = nobody; payload = []; format = Two }

pub state_lawful : Lawful state
unfolding state
state_lawful =
    field_lawful (λ s. big_bytes 2 (length (state_bytes s)) ++ state_bytes s) (λ s. StateInForm s × Restores s.format s.class s.payload) (λ bytes. state_in (cut_long bytes)) (λ bytes s rest are e. state_found bytes s rest (cut_long bytes) are refl e) state_again
    (some_state, (((omega arith, omega arith, omega arith), omega arith, (omega arith, omega arith, omega arith), omega arith), (value.Register [], refl, omega arith, omega arith, refl)))

-- ---- writing one

pub state_payload : (s : ObjectState) → Restores s.format s.class s.payload → length s.payload ≤ 256
state_payload s saved = omega (arith, short_payload saved.0 saved.2, ap length saved.4)
