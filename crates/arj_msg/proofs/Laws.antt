-- What holds of each format: what is read is spelled so, what is spelled so is read whatever follows, and where
-- reading stops, it stops behind the most fields that can stand there.
use Rattle.std.proofs.Common.{◌≡◌, ℕ, ◌+◌, ◌<◌, ◌≤◌, zero, suc, List, [], ◌∷◌, ◌++◌, length, get_or, take, Some, None, Option, Result, Ok}
use Rattle.std.proofs.Common.{Err, sym, ap, subst, refl, ◌∙◌, append_assoc, arith, inl, inr, ◌⊎◌, ⊎_elim}
use Rattle.std.specs.List.{concat, flat_map}
use Rattle.std.proofs.lemmas.List.{append-nil, length-append, get_or-drop, drop_at}
use Rattle.std.proofs.lemmas.List.Folds.{concat-append}
use Rattle.std.proofs.lemmas.List.Concat.{flat_map-cons}
use Rattle.arj_msg.specs.Format.{Format, ◌>>=◌, one_of, one_field, chain, shaped, many, read_many}

-- each item is a byte
abbrev pub IsBytes : List ℕ → Type 0
IsBytes bytes = (i : ℕ) → get_or bytes i 0 < 256

pub bytes_behind : (xs ys : List ℕ) → IsBytes (xs ++ ys) → IsBytes ys
bytes_behind xs ys are i = subst (λ rest. get_or rest i 0 < 256) (drop_at xs ys (length xs) refl) (rw get_or-drop (are (length xs + i)))

pub bytes_of_rest : (bytes xs ys : List ℕ) → IsBytes bytes → bytes ≡ xs ++ ys → IsBytes ys
bytes_of_rest bytes xs ys are is = bytes_behind xs ys (subst IsBytes is are)

-- the first of these fields, one behind the other
abbrev pub IsFront : List (List ℕ) → List ℕ → Type 0
IsFront fs xs = (k : ℕ) × (xs ≡ concat (take k fs))

-- A front of two lists of fields is one of the first, or all of the first and a front of the second.
pub front_of_two : (fs gs : List (List ℕ)) (k : ℕ) →
    ((j : ℕ) × (concat (take k (fs ++ gs)) ≡ concat (take j fs))) ⊎ ((j : ℕ) × (concat (take k (fs ++ gs)) ≡ concat fs ++ concat (take j gs)))
front_of_two [] gs k = inr (k, refl)
front_of_two (f ∷ fs) gs zero = inl (0, refl)
front_of_two (f ∷ fs) gs (suc k) =
    ⊎_elim (λ first. inl (suc first.0, ap (λ xs. f ++ xs) first.1)) (λ second. inr (second.0, ap (λ xs. f ++ xs) second.1 ∙ sym (append_assoc f (concat fs) (concat (take second.0 gs))))) (front_of_two fs gs k)

pub front_of_first : (fs gs : List (List ℕ)) (k : ℕ) → IsFront (fs ++ gs) (concat (take k fs))
front_of_first [] gs zero = (0, refl)
front_of_first [] gs (suc k) = (0, refl)
front_of_first (f ∷ fs) gs zero = (0, refl)
front_of_first (f ∷ fs) gs (suc k) = let rest = front_of_first fs gs k in (suc rest.0, ap (λ xs. f ++ xs) rest.1)

pub front_of_second : (fs gs : List (List ℕ)) (k : ℕ) → IsFront (fs ++ gs) (concat fs ++ concat (take k gs))
front_of_second [] gs k = (k, refl)
front_of_second (f ∷ fs) gs k =
    let rest = front_of_second fs gs k in (suc rest.0, append_assoc f (concat fs) (concat (take k gs)) ∙ ap (λ xs. f ++ xs) rest.1)

-- how many bytes are left behind what was read
abbrev pub left_of : {A : Type 0} → Result (A × List ℕ) ℕ → ℕ
left_of (Ok x) = length x.1
left_of (Err left) = left

-- the bytes begin with the first fields of some value, and so many are left
pub record Stops {A : Type 0} (f : Format A) (bytes : List ℕ) (left : ℕ) : Type 0 where
  pub value : A
  pub fits : f.Fits value
  pub front : List ℕ
  pub rest : List ℕ
  pub is_front : IsFront (f.fields value) front
  pub parts : bytes ≡ front ++ rest
  pub long : length rest ≡ left

pub record Lawful {A : Type 0} (f : Format A) : Type 0 where
  pub whole : (a : A) → f.Fits a → concat (f.fields a) ≡ f.spell a
  pub found : (bytes : List ℕ) (a : A) (rest : List ℕ) → IsBytes bytes → f.read bytes ≡ Ok (a, rest) →
      f.Fits a × (bytes ≡ f.spell a ++ rest)
  pub again : (a : A) (rest : List ℕ) → f.Fits a → f.read (f.spell a ++ rest) ≡ Ok (a, rest)
  pub stops : (bytes : List ℕ) (left : ℕ) → IsBytes bytes → f.read bytes ≡ Err left → Stops f bytes left
  pub furthest : (bytes : List ℕ) (a : A) (front more : List ℕ) → IsBytes bytes → f.Fits a → IsFront (f.fields a) front →
      bytes ≡ front ++ more → left_of (f.read bytes) ≤ length more
  pub one : (a : A) × f.Fits a

-- reading never leaves more bytes than there were
pub no_more : {A : Type 0} (f : Format A) → Lawful f → (bytes : List ℕ) → IsBytes bytes → left_of (f.read bytes) ≤ length bytes
no_more f law bytes are = law.furthest bytes law.one.0 [] bytes are law.one.1 (0, refl) refl

-- ---- one field

all_of_one : (xs : List ℕ) (k : ℕ) → concat (take (suc k) (xs ∷ [])) ≡ xs
all_of_one xs zero = append-nil xs
all_of_one xs (suc k) = append-nil xs

module _ {A : Type 0} (spell : A → List ℕ) (Fits : A → Type 0) (cut : List ℕ → Option (A × List ℕ))
    (cut_found : (bytes : List ℕ) (a : A) (rest : List ℕ) → IsBytes bytes → cut bytes ≡ Some (a, rest) → Fits a × (bytes ≡ spell a ++ rest))
    (cut_again : (a : A) (rest : List ℕ) → Fits a → cut (spell a ++ rest) ≡ Some (a, rest))
    (one : (a : A) × Fits a) where
  field_found : (bytes : List ℕ) (a : A) (rest : List ℕ) (o : Option (A × List ℕ)) → IsBytes bytes → cut bytes ≡ o →
      one_of bytes o ≡ Ok (a, rest) → Fits a × (bytes ≡ spell a ++ rest)
  field_found bytes a rest None are is e = absurd cc
  field_found bytes a rest (Some x) are is e = let same : Some x ≡ Some (a, rest) = cc in cut_found bytes a rest are (is ∙ same)

  field_stops : (bytes : List ℕ) (left : ℕ) (o : Option (A × List ℕ)) → one_of bytes o ≡ Err left →
      Stops (one_field spell Fits cut) bytes left
  field_stops bytes left None e =
      record { value = one.0; fits = one.1; front = []; rest = bytes; is_front = (0, refl); parts = refl; long = cc }
  field_stops bytes left (Some x) e = absurd cc

  field_left : (bytes : List ℕ) (o : Option (A × List ℕ)) → IsBytes bytes → cut bytes ≡ o → left_of (one_of bytes o) ≤ length bytes
  field_left bytes None are is = omega arith
  field_left bytes (Some x) are is =
      let found = cut_found bytes x.0 x.1 are is in
      omega (arith, ap length found.1, length-append (spell x.0) x.1)

  field_furthest : (bytes : List ℕ) (a : A) (k : ℕ) (more : List ℕ) → IsBytes bytes → Fits a →
      bytes ≡ concat (take k (spell a ∷ [])) ++ more → left_of (one_of bytes (cut bytes)) ≤ length more
  field_furthest bytes a zero more are fits is = omega (arith, field_left bytes (cut bytes) are refl, ap length is)
  field_furthest bytes a (suc k) more are fits is =
      let spelled : bytes ≡ spell a ++ more = is ∙ ap (λ xs. xs ++ more) (all_of_one (spell a) k) in
      let got : cut bytes ≡ Some (a, more) = ap cut spelled ∙ cut_again a more fits in
      omega (arith, ap (λ o. left_of (one_of bytes o)) got)

  pub field_lawful : Lawful (one_field spell Fits cut)
  field_lawful = record {
    whole = λ a fits. append-nil (spell a);
    found = λ bytes a rest are e. field_found bytes a rest (cut bytes) are refl e;
    again = λ a rest fits. ap (one_of (spell a ++ rest)) (cut_again a rest fits);
    stops = λ bytes left are e. field_stops bytes left (cut bytes) e;
    furthest = λ bytes a front more are fits is_front is. field_furthest bytes a is_front.0 more are fits (is ∙ ap (λ xs. xs ++ more) is_front.1);
    one = one;
  }

-- ---- a value and one behind it

abbrev behind : {A : Type 0} {B : A → Type 0} → ((a : A) → Format (B a)) → Result (A × List ℕ) ℕ → Result (((a : A) × B a) × List ℕ) ℕ
behind g r = r >>= λ x. (g x.0).read x.1 >>= λ y. Ok ((x.0, y.0), y.1)

abbrev joined : {A : Type 0} {B : A → Type 0} (a : A) → Result (B a × List ℕ) ℕ → Result (((a : A) × B a) × List ℕ) ℕ
joined a r = r >>= λ y. Ok ((a, y.0), y.1)

module _ {A : Type 0} {B : A → Type 0} (f : Format A) (g : (a : A) → Format (B a)) (law_f : Lawful f) (law_g : (a : A) → f.Fits a →
    Lawful (g a)) where
  chain_whole : (p : (a : A) × B a) → (chain f g).Fits p → concat ((chain f g).fields p) ≡ (chain f g).spell p
  chain_whole p fits =
      concat-append (f.fields p.0) ((g p.0).fields p.1) ∙ (λ i. law_f.whole p.0 fits.0 i ++ (law_g p.0 fits.0).whole p.1 fits.1 i)

  found_second : (bytes : List ℕ) (a : A) (middle : List ℕ) (p : (a : A) × B a) (rest : List ℕ) (s : Result (B a × List ℕ) ℕ) →
      IsBytes bytes → f.Fits a → bytes ≡ f.spell a ++ middle → (g a).read middle ≡ s
      → joined {B = B} a s ≡ Ok (p, rest) → (chain f g).Fits p × (bytes ≡ (chain f g).spell p ++ rest)
  found_second bytes a middle p rest (Err n) are fits is read e = absurd cc
  found_second bytes a middle p rest (Ok y) are fits is read e =
      let got = (law_g a fits).found middle y.0 y.1 (bytes_of_rest bytes (f.spell a) middle are is) read in
      let all : ((chain f g).Fits (a, y.0)) × (bytes ≡ (chain f g).spell (a, y.0) ++ y.1) =
      ((fits, got.0), is ∙ ap (λ xs. f.spell a ++ xs) got.1 ∙ sym (append_assoc (f.spell a) ((g a).spell y.0) y.1)) in
      let same : Ok ((a, y.0), y.1) ≡ Ok (p, rest) = e in
      subst (λ (z : Result (((a : A) × B a) × List ℕ) ℕ). Holds z) same all
    where
      Holds : Result (((a : A) × B a) × List ℕ) ℕ → Type 0
      Holds (Ok z) = (chain f g).Fits z.0 × (bytes ≡ (chain f g).spell z.0 ++ z.1)
      Holds (Err n) = Unit {0}

  chain_found : (bytes : List ℕ) (p : (a : A) × B a) (rest : List ℕ) (r : Result (A × List ℕ) ℕ) → IsBytes bytes → f.read bytes ≡ r →
      behind g r ≡ Ok (p, rest) → (chain f g).Fits p × (bytes ≡ (chain f g).spell p ++ rest)
  chain_found bytes p rest (Err n) are read e = absurd cc
  chain_found bytes p rest (Ok x) are read e =
      let got = law_f.found bytes x.0 x.1 are read in
      found_second bytes x.0 x.1 p rest ((g x.0).read x.1) are got.0 got.1 refl e

  chain_again : (p : (a : A) × B a) (rest : List ℕ) → (chain f g).Fits p → (chain f g).read ((chain f g).spell p ++ rest) ≡ Ok (p, rest)
  chain_again p rest fits =
      ap (λ bytes. behind g (f.read bytes)) (append_assoc (f.spell p.0) ((g p.0).spell p.1) rest) ∙ ap (behind g) (law_f.again p.0 ((g p.0).spell p.1 ++ rest) fits.0)
      ∙ ap (joined {B = B} p.0) ((law_g p.0 fits.0).again p.1 rest fits.1)

  stops_second : (bytes : List ℕ) (left : ℕ) (a : A) (middle : List ℕ) (s : Result (B a × List ℕ) ℕ) → IsBytes bytes → f.Fits a →
      bytes ≡ f.spell a ++ middle → (g a).read middle ≡ s → joined {B = B} a s ≡ Err left → Stops (chain f g) bytes left
  stops_second bytes left a middle (Ok y) are fits is read e = absurd cc
  stops_second bytes left a middle (Err n) are fits is read e =
      let same : n ≡ left = cc in
      let at = (law_g a fits).stops middle n (bytes_of_rest bytes (f.spell a) middle are is) read in
      let front = front_of_second (f.fields a) ((g a).fields at.value) at.is_front.0 in record {
        value = (a, at.value);
        fits = (fits, at.fits);
        front = f.spell a ++ at.front;
        rest = at.rest;
        is_front = (front.0, (λ i. sym (law_f.whole a fits) i ++ at.is_front.1 i) ∙ front.1);
        parts = is ∙ ap (λ xs. f.spell a ++ xs) at.parts ∙ sym (append_assoc (f.spell a) at.front at.rest);
        long = at.long ∙ same;
      }

  chain_stops : (bytes : List ℕ) (left : ℕ) (r : Result (A × List ℕ) ℕ) → IsBytes bytes → f.read bytes ≡ r → behind g r ≡ Err left →
      Stops (chain f g) bytes left
  chain_stops bytes left (Err n) are read e =
      let same : n ≡ left = cc in
      let at = law_f.stops bytes n are read in
      let second = (law_g at.value at.fits).one in
      let front = front_of_first (f.fields at.value) ((g at.value).fields second.0) at.is_front.0 in record {
        value = (at.value, second.0);
        fits = (at.fits, second.1);
        front = at.front;
        rest = at.rest;
        is_front = (front.0, at.is_front.1 ∙ front.1);
        parts = at.parts;
        long = at.long ∙ same;
      }
  chain_stops bytes left (Ok x) are read e =
      let got = law_f.found bytes x.0 x.1 are read in
      stops_second bytes left x.0 x.1 ((g x.0).read x.1) are got.0 got.1 refl e

  left_joined : (a : A) (s : Result (B a × List ℕ) ℕ) → left_of (joined {B = B} a s) ≡ left_of s
  left_joined a (Ok y) = refl
  left_joined a (Err n) = refl

  left_behind : (bytes : List ℕ) (r : Result (A × List ℕ) ℕ) → IsBytes bytes → f.read bytes ≡ r → left_of (behind g r) ≤ left_of r
  left_behind bytes (Err n) are read = omega arith
  left_behind bytes (Ok x) are read =
      let got = law_f.found bytes x.0 x.1 are read in
      let fewer = no_more (g x.0) (law_g x.0 got.0) x.1 (bytes_of_rest bytes (f.spell x.0) x.1 are got.1) in
      omega (arith, fewer, left_joined x.0 ((g x.0).read x.1))

  chain_furthest : (bytes : List ℕ) (p : (a : A) × B a) (front more : List ℕ) → IsBytes bytes → (chain f g).Fits p →
      IsFront ((chain f g).fields p) front → bytes ≡ front ++ more → left_of ((chain f g).read bytes) ≤ length more
  chain_furthest bytes p front more are fits is_front is = ⊎_elim
      (λ first. let less =
      law_f.furthest bytes p.0 front more are fits.0 (first.0, is_front.1 ∙ first.1) is in omega (arith, less, left_behind bytes (f.read bytes) are refl))
      (λ second.
      let rest = concat (take second.0 ((g p.0).fields p.1)) in
      let spelled : bytes ≡ f.spell p.0 ++ (rest ++ more) =
      is ∙ (λ i. (is_front.1 ∙ second.1 ∙ (λ j. law_f.whole p.0 fits.0 j ++ rest)) i ++ more) ∙ append_assoc (f.spell p.0) rest more in
      let read : f.read bytes ≡ Ok (p.0, rest ++ more) = ap f.read spelled ∙ law_f.again p.0 (rest ++ more) fits.0 in
      let less = (law_g p.0 fits.0).furthest (rest ++ more) p.1 rest more (bytes_of_rest bytes (f.spell p.0) (rest ++ more) are spelled) fits.1 (second.0, refl) refl in
      omega (arith, less, left_joined p.0 ((g p.0).read (rest ++ more)), ap (λ r. left_of (behind g r)) read))
      (front_of_two (f.fields p.0) ((g p.0).fields p.1) is_front.0)

  pub chain_lawful : Lawful (chain f g)
  chain_lawful = record {
    whole = chain_whole;
    found = λ bytes p rest are e. chain_found bytes p rest (f.read bytes) are refl e;
    again = chain_again;
    stops = λ bytes left are e. chain_stops bytes left (f.read bytes) are refl e;
    furthest = chain_furthest;
    one = let first = law_f.one in let second = (law_g first.0 first.1).one in ((first.0, second.0), (first.1, second.1));
  }

-- ---- a value made of another

abbrev pub made : {P A : Type 0} → (P → A) → Result (P × List ℕ) ℕ → Result (A × List ℕ) ℕ
made to r = r >>= λ x. Ok (to x.0, x.1)

module _ {P A : Type 0} (to : P → A) (f : Format P) (h : Format A) (law : Lawful f) (reads : (bytes : List ℕ) →
    h.read bytes ≡ made to (f.read bytes))
    (forth : (p : P) → f.Fits p → h.Fits (to p) × (h.spell (to p) ≡ f.spell p) × (h.fields (to p) ≡ f.fields p)) (back : (a : A) →
    h.Fits a → (p : P) × f.Fits p × (to p ≡ a)) where
  image_whole : (a : A) → h.Fits a → concat (h.fields a) ≡ h.spell a
  image_whole a fits =
      let p = back a fits in
      let same = forth p.0 p.1 in
      subst (λ b. concat (h.fields b) ≡ h.spell b) p.2 (ap concat same.2 ∙ law.whole p.0 p.1 ∙ sym same.1)

  image_found : (bytes : List ℕ) (a : A) (rest : List ℕ) (r : Result (P × List ℕ) ℕ) → IsBytes bytes → f.read bytes ≡ r →
      made to r ≡ Ok (a, rest) → h.Fits a × (bytes ≡ h.spell a ++ rest)
  image_found bytes a rest (Err n) are read e = absurd cc
  image_found bytes a rest (Ok x) are read e =
      let got = law.found bytes x.0 x.1 are read in
      let same = forth x.0 got.0 in
      let all : h.Fits (to x.0) × (bytes ≡ h.spell (to x.0) ++ x.1) = (same.0, got.1 ∙ ap (λ xs. xs ++ x.1) (sym same.1)) in
      subst Holds e all
    where
      Holds : Result (A × List ℕ) ℕ → Type 0
      Holds (Ok z) = h.Fits z.0 × (bytes ≡ h.spell z.0 ++ z.1)
      Holds (Err n) = Unit {0}

  image_again : (a : A) (rest : List ℕ) → h.Fits a → h.read (h.spell a ++ rest) ≡ Ok (a, rest)
  image_again a rest fits =
      let p = back a fits in
      let same = forth p.0 p.1 in
      subst (λ b. h.read (h.spell b ++ rest) ≡ Ok (b, rest)) p.2 (ap (λ xs. h.read (xs ++ rest)) same.1 ∙ reads (f.spell p.0 ++ rest) ∙ ap (made to) (law.again p.0 rest p.1))

  image_stops : (bytes : List ℕ) (left : ℕ) (r : Result (P × List ℕ) ℕ) → IsBytes bytes → f.read bytes ≡ r → made to r ≡ Err left →
      Stops h bytes left
  image_stops bytes left (Ok x) are read e = absurd cc
  image_stops bytes left (Err n) are read e =
      let same : n ≡ left = cc in
      let at = law.stops bytes n are read in
      let shown = forth at.value at.fits in record {
        value = to at.value;
        fits = shown.0;
        front = at.front;
        rest = at.rest;
        is_front = (at.is_front.0, at.is_front.1 ∙ ap (λ fs. concat (take at.is_front.0 fs)) (sym shown.2));
        parts = at.parts;
        long = at.long ∙ same;
      }

  left_made : (r : Result (P × List ℕ) ℕ) → left_of (made to r) ≡ left_of r
  left_made (Ok x) = refl
  left_made (Err n) = refl

  image_furthest : (bytes : List ℕ) (a : A) (front more : List ℕ) → IsBytes bytes → h.Fits a → IsFront (h.fields a) front →
      bytes ≡ front ++ more → left_of (h.read bytes) ≤ length more
  image_furthest bytes a front more are fits is_front is =
      let p = back a fits in
      let shown = forth p.0 p.1 in
      let fields : h.fields a ≡ f.fields p.0 = ap h.fields (sym p.2) ∙ shown.2 in
      let less = law.furthest bytes p.0 front more are p.1 (is_front.0, is_front.1 ∙ ap (λ fs. concat (take is_front.0 fs)) fields) is in
      omega (arith, less, left_made (f.read bytes), ap left_of (reads bytes))

  pub image_lawful : Lawful h
  image_lawful = record {
    whole = image_whole;
    found = λ bytes a rest are e. image_found bytes a rest (f.read bytes) are refl (sym (reads bytes) ∙ e);
    again = image_again;
    stops = λ bytes left are e. image_stops bytes left (f.read bytes) are refl (sym (reads bytes) ∙ e);
    furthest = image_furthest;
    one = let p = law.one in (to p.0, (forth p.0 p.1).0);
  }

pub shaped_lawful : {A B : Type 0} (whole : A → B) (parts : B → A) {f : Format A} → Lawful f → ((a : A) → f.Fits a → parts (whole a) ≡ a) →
    ((b : B) → f.Fits (parts b) → whole (parts b) ≡ b)
    → Lawful (shaped whole parts f)
shaped_lawful whole parts {f = f} law there back =
    image_lawful whole f (shaped whole parts f) law (λ bytes. refl) (λ a fits. (subst f.Fits (sym (there a fits)) fits, ap f.spell (there a fits), ap f.fields (there a fits))) (λ b fits. (parts b, fits, back b fits))

-- ---- many values

abbrev cons : {A : Type 0} → A × List A → List A
cons p = p.0 ∷ p.1

module _ {A : Type 0} (f : Format A) (law : Lawful f) where
  none_whole : (items : List A) → length items ≡ 0 → concat (flat_map f.fields items) ≡ flat_map f.spell items
  none_whole [] none = refl
  none_whole (a ∷ items) none = absurd (omega (arith, none))

  none_again : (items : List A) (rest : List ℕ) → length items ≡ 0 → read_many f 0 (flat_map f.spell items ++ rest) ≡ Ok (items, rest)
  none_again [] rest none = refl
  none_again (a ∷ items) rest none = absurd (omega (arith, none))

  none_furthest : (bytes : List ℕ) (items : List A) (k : ℕ) (more : List ℕ) → length items ≡ 0 →
      bytes ≡ concat (take k (flat_map f.fields items)) ++ more → length bytes ≤ length more
  none_furthest bytes [] zero more none is = omega (arith, ap length is)
  none_furthest bytes [] (suc k) more none is = omega (arith, ap length is)
  none_furthest bytes (a ∷ items) k more none is = absurd (omega (arith, none))

  none_found : (bytes : List ℕ) (items : List A) (rest : List ℕ) → read_many f 0 bytes ≡ Ok (items, rest) →
      (many f 0).Fits items × (bytes ≡ (many f 0).spell items ++ rest)
  none_found bytes items rest e = subst Holds e ((refl, tt), refl)
    where
      Holds : Result (List A × List ℕ) ℕ → Type 0
      Holds (Ok z) = (many f 0).Fits z.0 × (bytes ≡ (many f 0).spell z.0 ++ z.1)
      Holds (Err n) = Unit {0}

  none_lawful : Lawful (many f 0)
  none_lawful = record {
    whole = λ items fits. none_whole items fits.0;
    found = λ bytes items rest are e. none_found bytes items rest e;
    again = λ items rest fits. none_again items rest fits.0;
    stops = λ bytes left are e. absurd cc;
    furthest = λ bytes items front more are fits is_front is. none_furthest bytes items is_front.0 more fits.0 (is ∙ ap (λ xs. xs ++ more) is_front.1);
    one = ([], (refl, tt));
  }

  more_reads : (n : ℕ) (r : Result (A × List ℕ) ℕ) →
      (r >>= λ x. read_many f n x.1 >>= λ y. Ok (x.0 ∷ y.0, y.1)) ≡ made cons (behind (λ _. many f n) r)
  more_reads n (Err left) = refl
  more_reads n (Ok x) = again (read_many f n x.1)
    where
      again : (s : Result (List A × List ℕ) ℕ) → (s >>= λ y. Ok (x.0 ∷ y.0, y.1)) ≡ made cons (s >>= λ y. Ok ((x.0, y.0), y.1))
      again (Err left) = refl
      again (Ok y) = refl

  more_back : (n : ℕ) (items : List A) → (many f (suc n)).Fits items →
      (p : A × List A) × (f.Fits p.0 × (many f n).Fits p.1) × (cons p ≡ items)
  more_back n [] fits = absurd (omega (arith, fits.0))
  more_back n (a ∷ items) fits = ((a, items), (fits.1.0, (omega (arith, fits.0), fits.1.1)), refl)

  pub many_lawful : (n : ℕ) → Lawful (many f n)
  many_lawful zero = none_lawful
  many_lawful (suc n) =
      image_lawful cons (chain f (λ _. many f n)) (many f (suc n)) (chain_lawful f (λ _. many f n) law (λ _ _. many_lawful n)) (λ bytes. more_reads n (f.read bytes))
      (λ p fits. ((ap suc fits.1.0, (fits.0, fits.1.1)), flat_map-cons f.spell p.0 p.1, flat_map-cons f.fields p.0 p.1)) (more_back n)
