-- How many lines an image has.
use Rattle.std.proofs.Common.{◌≡◌, ◌≤◌, ◌<◌, ◌⊎◌, inl, inr, ℕ, ◌+◌, List, [], ◌∷◌, refl, length, length-append, map, Bool, true, false, arith}
use Rattle.std.specs.Prelude.{MatchBool}
use Rattle.std.proofs.lemmas.List.{length-map}
use Rattle.arj_image.specs.Grammar.{Counts, Files, Has, Journal, Object, Says}
use Rattle.arj_image.specs.Written.{counted_forms, format_forms, head_forms, image_forms, journal_forms}
use Rattle.arj_image.specs.declared.image.Image.{Image}
use Rattle.arj_image.specs.declared.limits.TheConstants.{FILE_LINES, IMAGE_LINES}
use Rattle.arj_saving.specs.Saved.{IsLong, IsShort}

-- a list without length has no items
pub no_items : {A : Type 0} (xs : List A) → length xs ≡ 0 → xs ≡ []
no_items [] none = refl
no_items (x ∷ xs) none = absurd (omega (arith, none))

-- the objects, the journal's lines and the files, and the others
pub count_forms : (i : Image) →
    length (image_forms i) ≡ length i.header.objects + length i.journal + length i.files + (4 + length (format_forms i.header.format))
count_forms i =
    let format = format_forms i.header.format in
    let objects = length-append format (map Object i.header.objects) in
    let counted = length-append (head_forms i) (Counts (i.events, i.frames) ∷ []) in
    let journal = length-append (counted_forms i) (Journal ∷ map Says i.journal) in
    let files = length-append (journal_forms i) (Files ∷ map Has i.files) in
    omega (arith, objects, counted, journal, files, length-map i.header.objects Object, length-map i.journal Says, length-map i.files Has)

-- whether it is too long
pub long_by : (i : Image) (many : Bool) (objects lines files others : ℕ) → objects ≡ length i.header.objects → lines ≡ length i.journal →
    files ≡ length i.files → others ≡ 4 + length (format_forms i.header.format) →
    MatchBool many ((IMAGE_LINES < objects + lines + files + others) ⊎ (FILE_LINES < files))
    ((objects + lines + files + others ≤ IMAGE_LINES) × (files ≤ FILE_LINES)) →
    MatchBool many (IsLong i) (IsShort i)
long_by i true objects lines files others a b c e (inl long) = inl (omega (arith, long, a, b, c, e, count_forms i))
long_by i true objects lines files others a b c e (inr many) = inr (omega (arith, many, c))
long_by i false objects lines files others a b c e few = (omega (arith, few.0, a, b, c, e, count_forms i), omega (arith, few.1, c))
