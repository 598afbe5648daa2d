-- What is written on a page.
use Rattle.std.specs.Prelude.{◌≡◌, ℕ, List, [], ◌∷◌, ◌++◌, map, codes, slice_get}
use Rattle.std.specs.Prelude.{Bool, true, false, ◌==◌, ◌&&◌, ◌||◌, not, nat_lt, if◌then◌else◌, Some}
use Rattle.std.specs.List.{flat_map, list_any}
use Rattle.arj_words.specs.declared.page.Page.{Page}

-- each byte that was there stands where it stood
abbrev pub Stays : List ℕ → List ℕ → Type 0
Stays old new = (i b : ℕ) → slice_get old i ≡ Some b → slice_get new i ≡ Some b

-- this was appended, if the page is still whole
abbrev pub Appends : Page → List ℕ → Page → Type 0
Appends old piece new = new.whole ≡ true → (old.whole ≡ true) × (new.bytes ≡ old.bytes ++ piece)

-- a byte that is shown as itself: a printable one of ASCII
abbrev pub is_printable : ℕ → Bool
is_printable b = nat_lt 31 b && nat_lt b 127

-- a byte as it is shown: another one is a question mark
abbrev pub plain_byte : ℕ → ℕ
plain_byte b = if is_printable b then b else 63

-- a byte in a page of HTML: what has a meaning there is written as an entity, and a line feed stays
abbrev pub escaped_byte : ℕ → List ℕ
escaped_byte b =
    if b == 38 then codes "&amp;" else
    (if b == 60 then codes "&lt;" else
    (if b == 62 then codes "&gt;" else
    (if b == 34 then codes "&quot;" else
    (if b == 39 then codes "&#39;" else
    (if b == 10 then 10 ∷ [] else plain_byte b ∷ [])))))

-- bytes as they are shown
abbrev pub plain : List ℕ → List ℕ
plain bytes = map plain_byte bytes

-- bytes in a page of HTML
abbrev pub escaped : List ℕ → List ℕ
escaped bytes = flat_map escaped_byte bytes

-- a byte with which markup, or a value in it, begins or ends
abbrev pub is_markup : ℕ → Bool
is_markup b = (b == 60) || ((b == 62) || ((b == 34) || (b == 39)))

-- the list begins with the first one
abbrev pub begins_with : List ℕ → List ℕ → Bool
begins_with [] bytes = true
begins_with (f ∷ front) [] = false
begins_with (f ∷ front) (b ∷ bytes) = (f == b) && begins_with front bytes

-- what stands behind an ampersand
abbrev pub entities : List (List ℕ)
entities = codes "amp;" ∷ codes "lt;" ∷ codes "gt;" ∷ codes "quot;" ∷ codes "#39;" ∷ []

-- A text without markup: neither `<` nor `>` nor a quote stands in it, and each ampersand begins an entity.
abbrev pub is_text_alone : List ℕ → Bool
is_text_alone [] = true
is_text_alone (b ∷ bytes) =
    not (is_markup b) && ((if b == 38 then list_any (λ e. begins_with e bytes) entities else true) && is_text_alone bytes)
