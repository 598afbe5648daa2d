-- States and their bytes.
use Rattle.std.proofs.Common.{◌≡◌, ◌≢◌, ◌<◌, ℕ, List, ◌++◌, Bool, true, false, drop, get_or, length, ap, subst, arith}
use Rattle.std.specs.Prelude.{MatchBool}
use Rattle.byteorder.specs.Endian.{big_bytes}
use Rattle.arj_base.proofs.Packed.{state_once}
use Rattle.arj_base.specs.State.{StateInForm, class_bytes, format_mark, state_bytes}
use Rattle.arj_base.specs.Uid.{UidFits, uid_bytes}
use Rattle.arj_base.specs.declared.state.Class.{Class}
use Rattle.arj_base.specs.declared.state.Format.{Format}
use Rattle.arj_base.specs.declared.state.Format.TheVariants.{One, Two}
use Rattle.arj_base.specs.declared.state.ObjectState.{ObjectState}
use Rattle.arj_base.specs.declared.uid.Uid.{Uid}

-- what stands behind the format and the Uid
abbrev behind : Format → Class → ℕ → Uid → List ℕ → List ℕ
behind f c v w p = class_bytes f c ++ (big_bytes 8 v ++ (uid_bytes w ++ (big_bytes 2 (length p) ++ p)))

-- states with one spelling have one payload
payloads : (f g : Format) (u x : Uid) (c d : Class) (v m : ℕ) (w y : Uid) (p q : List ℕ) →
    format_mark f ++ (uid_bytes u ++ behind f c v w p) ≡ format_mark g ++ (uid_bytes x ++ behind g d m y q) → p ≡ q
payloads One One u x c d v m w y p q e = ap (drop 47) e
payloads Two Two u x c d v m w y p q e = ap (drop 48) e
payloads One Two u x c d v m w y p q e = absurd (let third : 49 ≡ 50 = ap (λ b. get_or b 3 0) e in omega (arith, third))
payloads Two One u x c d v m w y p q e = absurd (let third : 50 ≡ 49 = ap (λ b. get_or b 3 0) e in omega (arith, third))

pub one_state : (s w : ObjectState) → StateInForm s → UidFits w.uid × (w.version < 18446744073709551616) × UidFits w.writer →
    state_bytes s ≡ state_bytes w → s ≡ w
one_state s w form fits e =
    let same : s.payload ≡ w.payload = payloads s.format w.format s.uid w.uid s.class w.class s.version w.version s.writer w.writer s.payload w.payload e in
    let few : length w.payload < 65536 = subst (λ p. length p < 65536) same form.3 in
    state_once s w form (fits.0, fits.1, fits.2, few) e

-- a state is the wanted one exactly where its bytes are
pub bytes_test : (b : Bool) (s w : ObjectState) → StateInForm s → UidFits w.uid × (w.version < 18446744073709551616) × UidFits w.writer →
    MatchBool b (s ≡ w) (s ≢ w) → MatchBool b (state_bytes s ≡ state_bytes w) (state_bytes s ≢ state_bytes w)
bytes_test true s w form fits same = ap state_bytes same
bytes_test false s w form fits other = λ e. other (one_state s w form fits e)
