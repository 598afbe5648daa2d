-- What decoding gives: the message, or the place of the fault.
use Rattle.std.proofs.Common.{◌≡◌, ◌≢◌, ℕ, ◌-◌, ◌<◌, ◌≤◌, zero, suc, List, [], ◌∷◌, ◌++◌, length, take, Result, Ok, Err, sym, ap, subst}
use Rattle.std.proofs.Common.{refl, ◌∙◌, arith}
use Rattle.std.specs.List.{concat}
use Rattle.std.proofs.lemmas.List.{append-nil, length-append, nil_from_length}
use Rattle.arj_msg.specs.declared.message.Message.{Message}
use Rattle.arj_msg.specs.Layout.{message, message_bytes, message_fields, MessageInForm, front, IsFaultAt}
use Rattle.arj_msg.proofs.Laws.{IsBytes, left_of}
use Rattle.arj_msg.proofs.MessageLaws.{message_lawful}
use Rattle.arj_msg.proofs.Sizes.{message_most}

abbrev Read : Type 0
Read = Result (Message × List ℕ) ℕ

-- the whole of a message is read, and nothing is left
read_back : (m : Message) → MessageInForm m → message.read (message_bytes m) ≡ Ok (m, [])
read_back m fits = ap message.read (sym (append-nil (message_bytes m))) ∙ message_lawful.again m [] fits

read_as : (bytes : List ℕ) (m : Message) → MessageInForm m → message_bytes m ≡ bytes → message.read bytes ≡ Ok (m, [])
read_as bytes m fits is = ap message.read (sym is) ∙ read_back m fits

short_front : (fs : List (List ℕ)) (k : ℕ) → length (concat (take k fs)) ≤ length (concat fs)
short_front [] zero = omega arith
short_front [] (suc k) = omega arith
short_front (f ∷ fs) zero = omega arith
short_front (f ∷ fs) (suc k) = omega (arith, length-append f (concat (take k fs)), length-append f (concat fs), short_front fs k)

all_taken : (fs : List (List ℕ)) → take (length fs) fs ≡ fs
all_taken [] = refl
all_taken (f ∷ fs) = ap (λ gs. f ∷ gs) (all_taken fs)

-- the first fields of a message are fewer than 2 ^ 32 bytes
front_most : (m : Message) → MessageInForm m → (k : ℕ) → length (front m k) < 4294967296
front_most m fits k = omega (arith, short_front (message_fields m) k, ap length (message_lawful.whole m fits), message_most.most m fits)

further : (bytes : List ℕ) (left : ℕ) (r : Read) → IsBytes bytes → message.read bytes ≡ r → left_of r ≡ left →
    (m : Message) (k : ℕ) (more : List ℕ) → MessageInForm m → bytes ≡ front m k ++ more → length (front m k) ≤ length bytes - left
further bytes left r are read is m k more fits parts =
    omega (arith, message_lawful.furthest bytes m (front m k) more are fits (k, refl) parts, ap left_of read, is, ap length parts, length-append (front m k) more)

-- a field isn't there
pub stopped : (bytes : List ℕ) (left : ℕ) → IsBytes bytes → message.read bytes ≡ Err left →
    (left ≤ length bytes) × (length bytes - left < 4294967296) × IsFaultAt bytes (length bytes - left)
stopped bytes left are read =
    let at = message_lawful.stops bytes left are read in
    let parts : bytes ≡ front at.value at.is_front.0 ++ at.rest = at.parts ∙ ap (λ xs. xs ++ at.rest) at.is_front.1 in
    let sizes = length-append (front at.value at.is_front.0) at.rest in
    let here : length (front at.value at.is_front.0) ≡ length bytes - left = omega (arith, ap length parts, sizes, at.long) in (
      omega (arith, ap length parts, sizes, at.long),
      omega (arith, here, front_most at.value at.fits at.is_front.0),
      record {
        none = λ m fits is. let both : ◌≡◌ {A = Read} (Err left) (Ok (m, [])) = sym read ∙ read_as bytes m fits is in absurd cc;
        like = at.value;
        in_form = at.fits;
        count = at.is_front.0;
        rest = at.rest;
        parts = parts;
        here = here;
        furthest = further bytes left (Err left) are read refl;
      },
    )

-- bytes follow a message
pub followed : (bytes : List ℕ) (m : Message) (rest : List ℕ) → IsBytes bytes → message.read bytes ≡ Ok (m, rest) → length rest ≢ 0
    → (length rest ≤ length bytes) × (length bytes - length rest < 4294967296) × IsFaultAt bytes (length bytes - length rest)
followed bytes m rest are read some =
    let got = message_lawful.found bytes m rest are read in
    let all = length (message_fields m) in
    let whole : front m all ≡ message_bytes m = ap concat (all_taken (message_fields m)) ∙ message_lawful.whole m got.0 in
    let parts : bytes ≡ front m all ++ rest = got.1 ∙ ap (λ xs. xs ++ rest) (sym whole) in
    let sizes = length-append (front m all) rest in
    let here : length (front m all) ≡ length bytes - length rest = omega (arith, ap length parts, sizes) in (
      omega (arith, ap length parts, sizes),
      omega (arith, here, front_most m got.0 all),
      record {
        none = λ w fits is. some (ap left_of (sym read ∙ read_as bytes w fits is));
        like = m;
        in_form = got.0;
        count = all;
        rest = rest;
        parts = parts;
        here = here;
        furthest = further bytes (length rest) (Ok (m, rest)) are read refl;
      },
    )

-- nothing follows it
pub decoded : (bytes : List ℕ) (m : Message) (rest : List ℕ) → IsBytes bytes → message.read bytes ≡ Ok (m, rest) → length rest ≡ 0 →
    MessageInForm m × (message_bytes m ≡ bytes)
decoded bytes m rest are read none =
    let got = message_lawful.found bytes m rest are read in
    (got.0, sym (got.1 ∙ ap (λ xs. message_bytes m ++ xs) (nil_from_length rest none) ∙ append-nil (message_bytes m)))

-- a message that is spelled so is the one that is read
pub only_one : (bytes : List ℕ) (m : Message) (rest : List ℕ) → message.read bytes ≡ Ok (m, rest) → (w : Message) → MessageInForm w →
    message_bytes w ≡ bytes → m ≡ w
only_one bytes m rest read w fits is = let same : Ok (m, rest) ≡ Ok (w, []) = sym read ∙ read_as bytes w fits is in subst Is same refl
  where
    Is : Read → Type 0
    Is (Ok x) = m ≡ x.0
    Is (Err n) = Unit {0}

pub one_of_spelling : (m n : Message) → MessageInForm m → MessageInForm n → message_bytes m ≡ message_bytes n → m ≡ n
one_of_spelling m n fits_m fits_n same = only_one (message_bytes n) m [] (read_as (message_bytes n) m fits_m same) n fits_n refl

pub fields_are : (m : Message) → MessageInForm m → concat (message_fields m) ≡ message_bytes m
fields_are m fits = message_lawful.whole m fits
