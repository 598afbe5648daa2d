-- Bytes that are written as pairs of digits.
use Rattle.std.proofs.Common.{◌≡◌, ◌≢◌, ℕ, ◌*◌, ◌/◌, ◌<◌, ◌≤◌, List, [], ◌∷◌, ◌++◌, length, get_or, Option, Some, None, refl, sym, ◌∙◌, ap}
use Rattle.std.proofs.Common.{arith}
use Rattle.std.specs.List.{flat_map}
use Rattle.arj_text.specs.Words.{hex, hex_pair}
use Rattle.arj_text.specs.Fields.{AreBytes, AreBytesUpTo, IsRead}

-- What stands behind the pairs of some bytes, in the text of bytes, is the text of bytes.
pairs_behind : (front bytes rest : List ℕ) → flat_map hex_pair front ++ rest ≡ flat_map hex_pair bytes → AreBytes bytes →
    (behind : List ℕ) × AreBytes behind × (rest ≡ flat_map hex_pair behind)
pairs_behind [] bytes rest e fits = (bytes, fits, e)
pairs_behind (f ∷ front) [] rest e fits = absurd cc
pairs_behind (f ∷ front) (b ∷ bytes) rest e fits =
    let tail : flat_map hex_pair front ++ rest ≡ flat_map hex_pair bytes = cc in
    pairs_behind front bytes rest tail fits.1

-- Where the next two digits are those of no byte, or one digit is left, the text is that of no bytes.
pub no_pair : (bytes front text rest : List ℕ) → text ≡ flat_map hex_pair front ++ rest → 2 ≤ length rest →
    ((b : ℕ) → b < 256 → get_or rest 0 0 ∷ get_or rest 1 0 ∷ [] ≢ hex_pair b) → AreBytes bytes → text ≢ flat_map hex_pair bytes
no_pair bytes front text [] parts long none fits e = absurd (omega arith)
no_pair bytes front text (high ∷ []) parts long none fits e = absurd (omega arith)
no_pair bytes front text (high ∷ low ∷ rest) parts long none fits e =
    let behind = pairs_behind front bytes (high ∷ low ∷ rest) (sym parts ∙ e) fits in
    no_first behind.0 behind.1 behind.2
  where
    no_first : (bs : List ℕ) → AreBytes bs → high ∷ low ∷ rest ≢ flat_map hex_pair bs
    no_first [] fits same = absurd cc
    no_first (b ∷ bs) fits same =
        let here : high ∷ low ∷ [] ≡ hex_pair b = cc in
        none b fits.0 here

pub one_digit : (bytes front text rest : List ℕ) → text ≡ flat_map hex_pair front ++ rest → length rest < 2 → length rest ≢ 0 →
    AreBytes bytes → text ≢ flat_map hex_pair bytes
one_digit bytes front text [] parts short some fits e = some refl
one_digit bytes front text (digit ∷ []) parts short some fits e =
    let behind = pairs_behind front bytes (digit ∷ []) (sym parts ∙ e) fits in
    no_first behind.0 behind.2
  where
    no_first : (bs : List ℕ) → digit ∷ [] ≢ flat_map hex_pair bs
    no_first [] same = absurd cc
    no_first (b ∷ bs) same = absurd cc
one_digit bytes front text (high ∷ low ∷ rest) parts short some fits e = absurd (omega arith)

-- Half of the digits is the number of bytes.
pairs_length : (bs : List ℕ) → length (flat_map hex_pair bs) ≡ 2 * length bs
pairs_length [] = refl
pairs_length (b ∷ bs) = let more = pairs_length bs in omega (arith, more)

pub half_hex : (bs : List ℕ) → length (hex bs) / 2 ≡ length bs
half_hex [] = omega arith
half_hex (b ∷ bs) = let more = pairs_length bs in omega (arith, more)

-- Bytes whose text is short enough are few enough.
pub few_bytes : (most : ℕ) (bytes : List ℕ) (found : Option (List ℕ)) → length bytes / 2 ≤ most → IsRead AreBytes hex bytes found →
    IsRead (AreBytesUpTo most) hex bytes found
few_bytes most bytes None short h = λ a fits e. h a fits.1 e
few_bytes most bytes (Some a) short h = ((omega (arith, half_hex a, ap length h.1), h.0), h.1)
