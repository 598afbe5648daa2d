-- Labels, seen as their bytes.
use Rattle.std.specs.Prelude.{◌≡◌, ℕ, List, [], ◌∷◌, take, Bool, true, false, ◌&&◌, ◌||◌, nat_le}
use Rattle.std.specs.List.{list_all}
use Rattle.std.specs.declared.cmp.Ordering.{Ordering}
use Rattle.std.specs.Ordering.{nat_cmp, on}
use Rattle.std.specs.Cmp.Lexicographic.{slice_cmp}
use Rattle.arj_text.specs.declared.label.Label.{Label}

-- the bytes of a label, without the padding
abbrev pub name : Label → List ℕ
name l = take l.len l.text

-- the order of labels, that of their bytes
abbrev pub label_cmp : Label → Label → Ordering
label_cmp = on name (slice_cmp nat_cmp)

-- ASCII letters
abbrev pub is_letter : ℕ → Bool
is_letter b = (nat_le 65 b && nat_le b 90) || (nat_le 97 b && nat_le b 122)

-- ASCII digits
abbrev pub is_digit : ℕ → Bool
is_digit b = nat_le 48 b && nat_le b 57

-- a letter followed by letters or digits
abbrev pub is_label : List ℕ → Bool
is_label [] = false
is_label (b ∷ bs) = is_letter b && list_all (λ c. is_letter c || is_digit c) bs

-- a label in form
abbrev pub LabelInForm : Label → Type 0
LabelInForm l = is_label (name l) ≡ true
