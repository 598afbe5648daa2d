-- What a packed state holds tells its format, its class and its payload, and so its value; and the format of states that were written.
use Rattle.arj_law_parts.proofs.Words
use Words.{◌≡◌, ◌≤◌, ◌+◌, ◌==◌, ◌∙◌, ℕ, Bool, false, List, ◌∷◌, refl, sym, ap, arith, min, nat_tests, if◌then◌else◌, Class, ObjectState}
use Words.{Value, ValueInForm, class_code_of, class_of, next_version, number_tells, payload_of, state_value, value_back, value_in}
use Rattle.arj_law_serial.proofs.Terms.{Packed, content_of, packed}
use Rattle.arj_base.proofs.Packed.{class_once}
use Rattle.arj_base.specs.State.{head_of}
use Rattle.arj_base.specs.declared.state.Format.{Format}
use Rattle.arj_base.specs.declared.state.Format.TheVariants.{One, Two}
use Rattle.arj_start.specs.Start.{format_at}

-- ---- contents

-- how long its head is tells a format
head_once : (f g : Format) → head_of f ≡ head_of g → f ≡ g
head_once One One same = refl
head_once Two Two same = refl
head_once One Two same = absurd (omega (arith, same))
head_once Two One same = absurd (omega (arith, same))

all_told : (f g : Format) (c d : Class) (xs ys : List ℕ) → head_of f ∷ class_code_of c ∷ xs ≡ head_of g ∷ class_code_of d ∷ ys
    → (f ≡ g) × (c ≡ d) × (xs ≡ ys)
all_told f g c d xs ys same =
    let format : head_of f ≡ head_of g = cc same in
    let code : class_code_of c ≡ class_code_of d = cc same in
    let payload : xs ≡ ys = cc same in
    (head_once f g format, class_once c d code, payload)

-- states of one object that are packed alike are one
pub one_state : (s t : ObjectState) → packed s ≡ packed t → s.uid ≡ t.uid → s ≡ t
one_state s t same uid =
    let told = all_told s.format t.format s.class t.class s.payload t.payload (ap (λ (p : Packed). p.content) same) in
    (λ i. record {
      uid = uid i;
      class = told.1 i;
      version = ap (λ (p : Packed). p.version) same i;
      writer = number_tells s.writer t.writer (ap (λ (p : Packed). p.writer) same) i;
      payload = told.2 i;
      format = told.0 i;
    })

-- a state that holds what a value's holds gives the value back
pub value_told : (s : ObjectState) (f : Format) (v : Value) → head_of s.format ∷ class_code_of s.class ∷ s.payload ≡ content_of f v →
    ValueInForm v → state_value s ≡ v
value_told s f v same form =
    let told = all_told s.format f s.class (class_of v) s.payload (payload_of v) same in
    (λ i. value_in (told.1 i) (told.2 i)) ∙ value_back v form

-- ---- formats

-- a later version is in format two
pub later_format : (f : Format) (n : ℕ) → 1 ≤ n → Two ≡ format_at f n
later_format f n above =
    let later : (n == 0) ≡ false = grind (arith, nat_tests, above) in ap (λ (b : Bool). if b then f else Two) (sym later)

pub next_format : (f : Format) (n : ℕ) → Two ≡ format_at f (next_version n)
next_format f n = later_format f (next_version n) (let above : 1 ≤ min (n + 1) 18446744073709551615 = grind arith in above)
