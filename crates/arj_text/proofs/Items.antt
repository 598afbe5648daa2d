-- Lists whose items are joined by commas.
use Rattle.std.proofs.Common.{◌≡◌, ◌≢◌, ℕ, ◌+◌, ◌≤◌, ◌<◌, List, [], ◌∷◌, ◌++◌, length, length-append, false, Some, None, refl, sym, ◌∙◌, ap}
use Rattle.std.proofs.Common.{subst, arith, append_assoc}
use Rattle.std.specs.List.{AllByRecursion}
use Rattle.std.proofs.lemmas.List.{append-nil}
use Rattle.arj_text.specs.Fields.{IsRead, ItemsInForm, items_text, has_byte}
use Rattle.arj_text.proofs.Texts.{cut_once, no_cut}

-- items, each with a comma behind it
abbrev pub with_commas : {A : Type 0} → (A → List ℕ) → List A → List ℕ
with_commas text [] = []
with_commas text (x ∷ xs) = text x ++ 44 ∷ with_commas text xs

-- each text in form holds no comma
abbrev pub NoComma : {A : Type 0} → (A → Type 0) → (A → List ℕ) → Type 0
NoComma {A = A} InForm text = (a : A) → InForm a → has_byte 44 (text a) ≡ false

-- a list of two or more, taken apart at its first comma
list_parts : {A : Type 0} (text : A → List ℕ) (x y : A) (ys : List A) →
    items_text text (x ∷ y ∷ ys) ≡ text x ++ 44 ∷ items_text text (y ∷ ys)
list_parts text x y ys = refl

-- what stands behind some items, in the text of a list, is the text of a list
pub items_behind : {A : Type 0} (InForm : A → Type 0) (text : A →
    List ℕ) (whole : NoComma InForm text) (front all : List A) (rest : List ℕ) → AllByRecursion InForm front → AllByRecursion InForm all →
    1 ≤ length all → with_commas text front ++ rest ≡ items_text text all
    → (behind : List A) × AllByRecursion InForm behind × (1 ≤ length behind) × (length all ≡ length front + length behind) × (rest ≡ items_text text behind)
items_behind InForm text whole [] all rest fits all_fit some e = (all, all_fit, some, omega arith, e)
items_behind InForm text whole (f ∷ front) [] rest fits all_fit some e = absurd (omega arith)
items_behind InForm text whole (f ∷ front) (x ∷ []) rest fits all_fit some e =
    let split : text f ++ 44 ∷ (with_commas text front ++ rest) ≡ text x =
    sym (append_assoc (text f) (44 ∷ with_commas text front) rest) ∙ (e ∙ append-nil (text x)) in
    absurd (no_cut 44 (text x) (text f) (with_commas text front ++ rest) (whole x all_fit.0) (sym split))
items_behind InForm text whole (f ∷ front) (x ∷ y ∷ ys) rest fits all_fit some e =
    let split : text f ++ 44 ∷ (with_commas text front ++ rest) ≡ text x ++ 44 ∷ items_text text (y ∷ ys) =
    sym (append_assoc (text f) (44 ∷ with_commas text front) rest) ∙ e in
    let parts = cut_once 44 (text f) (text x) (with_commas text front ++ rest) (items_text text (y ∷ ys)) (whole f fits.0) (whole x all_fit.0) split in
    let on = items_behind InForm text whole front (y ∷ ys) rest fits.1 all_fit.1 (omega arith) parts.1 in
    (on.0, on.1, on.2, omega (arith, on.3), on.4)

-- Where a comma is left but one item more is one too many, the text is that of no list.
pub too_many : {A : Type 0} (InForm : A → Type 0) (text : A →
    List ℕ) (whole : NoComma InForm text) (most : ℕ) (bytes rest word behind : List ℕ) (front all : List A) →
    bytes ≡ with_commas text front ++ rest → AllByRecursion InForm front → rest ≡ word ++ 44 ∷ behind → length front + 1 ≡ most →
    ItemsInForm InForm most all → bytes ≢ items_text text all
too_many {A = A} InForm text whole most bytes rest word behind front all parts fits cut full form e =
    let left = items_behind InForm text whole front all rest fits form.2 form.0 (sym parts ∙ e) in
    cases left.0 left.1 left.3 left.4
  where
    cases : (xs : List A) → AllByRecursion InForm xs → length all ≡ length front + length xs → rest ≢ items_text text xs
    cases [] all_fit long same = absurd (cons_apart word behind (sym cut ∙ same))
      where
        cons_apart : (w s : List ℕ) → w ++ 44 ∷ s ≢ []
        cons_apart [] s none = absurd cc
        cons_apart (b ∷ w) s none = absurd cc
    cases (x ∷ []) all_fit long same = no_cut 44 (text x) word behind (whole x all_fit.0) (sym (append-nil (text x)) ∙ (sym same ∙ cut))
    cases (x ∷ y ∷ xs) all_fit long same = absurd (omega (arith, form.1, long, full))

-- Where the next word is no item, the text is that of no list.
pub no_item : {A : Type 0} (InForm : A → Type 0) (text : A →
    List ℕ) (whole : NoComma InForm text) (most : ℕ) (bytes rest word behind : List ℕ) (front all : List A) →
    bytes ≡ with_commas text front ++ rest → AllByRecursion InForm front → has_byte 44 word ≡ false → rest ≡ word ++ 44 ∷ behind →
    IsRead InForm text word None → ItemsInForm InForm most all → bytes ≢ items_text text all
no_item {A = A} InForm text whole most bytes rest word behind front all parts fits apart cut none form e =
    let left = items_behind InForm text whole front all rest fits form.2 form.0 (sym parts ∙ e) in
    cases left.0 left.1 left.2 left.4
  where
    cases : (xs : List A) → AllByRecursion InForm xs → 1 ≤ length xs → rest ≢ items_text text xs
    cases [] all_fit some same = absurd (omega arith)
    cases (x ∷ []) all_fit some same = no_cut 44 (text x) word behind (whole x all_fit.0) (sym (append-nil (text x)) ∙ (sym same ∙ cut))
    cases (x ∷ y ∷ xs) all_fit some same =
        none x all_fit.0 (cut_once 44 word (text x) behind (items_text text (y ∷ xs)) apart (whole x all_fit.0) (sym cut ∙ same)).0

-- Where what is left is no item, the text is that of no list.
pub no_last : {A : Type 0} (InForm : A → Type 0) (text : A →
    List ℕ) (whole : NoComma InForm text) (most : ℕ) (bytes rest : List ℕ) (front all : List A) → bytes ≡ with_commas text front ++ rest →
    AllByRecursion InForm front → has_byte 44 rest ≡ false → IsRead InForm text rest None → ItemsInForm InForm most all →
    bytes ≢ items_text text all
no_last {A = A} InForm text whole most bytes rest front all parts fits apart none form e =
    let left = items_behind InForm text whole front all rest fits form.2 form.0 (sym parts ∙ e) in
    cases left.0 left.1 left.2 left.4
  where
    cases : (xs : List A) → AllByRecursion InForm xs → 1 ≤ length xs → rest ≢ items_text text xs
    cases [] all_fit some same = absurd (omega arith)
    cases (x ∷ []) all_fit some same = none x all_fit.0 (same ∙ append-nil (text x))
    cases (x ∷ y ∷ xs) all_fit some same = no_cut 44 rest (text x) (items_text text (y ∷ xs)) apart same

-- one item more, with a comma behind it, and without one
one_more : {A : Type 0} (text : A → List ℕ) (front : List A) (x : A) (rest : List ℕ) →
    with_commas text (front ++ x ∷ []) ++ rest ≡ with_commas text front ++ (text x ++ 44 ∷ rest)
one_more text [] x rest = append_assoc (text x) (44 ∷ []) rest
one_more text (f ∷ front) x rest =
    append_assoc (text f) (44 ∷ with_commas text (front ++ x ∷ [])) rest ∙ (ap (λ t. text f ++ 44 ∷ t) (one_more text front x rest) ∙ sym (append_assoc (text f) (44 ∷ with_commas text front) (text x ++ 44 ∷ rest)))

last_more : {A : Type 0} (text : A → List ℕ) (front : List A) (x : A) → items_text text (front ++ x ∷ []) ≡ with_commas text front ++ text x
last_more text [] x = append-nil (text x)
last_more text (f ∷ []) x = ap (λ t. text f ++ 44 ∷ t) (append-nil (text x)) ∙ sym (append_assoc (text f) (44 ∷ []) (text x))
last_more text (f ∷ g ∷ front) x =
    ap (λ t. text f ++ 44 ∷ t) (last_more text (g ∷ front) x) ∙ sym (append_assoc (text f) (44 ∷ with_commas text (g ∷ front)) (text x))

all_more : {A : Type 0} (InForm : A → Type 0) (front : List A) (x : A) → AllByRecursion InForm front → InForm x →
    AllByRecursion InForm (front ++ x ∷ [])
all_more InForm [] x fits here = (here, tt)
all_more InForm (f ∷ front) x fits here = (fits.0, all_more InForm front x fits.1 here)

-- An item and its comma were read.
pub item_more : {A : Type 0} (InForm : A → Type 0) (text : A →
    List ℕ) (most : ℕ) (bytes rest word behind : List ℕ) (front now : List A) (x : A) → bytes ≡ with_commas text front ++ rest →
    AllByRecursion InForm front → rest ≡ word ++ 44 ∷ behind → IsRead InForm text word (Some x) → now ≡ front ++ x ∷ [] →
    length front < most → length front + 1 ≢ most
    → record { front : bytes ≡ with_commas text now ++ behind; fits : AllByRecursion InForm now; few : length now < most }
item_more InForm text most bytes rest word behind front now x parts fits cut read same few room = record {
  front =
      parts ∙ (ap (λ t. with_commas text front ++ t) (cut ∙ ap (λ w. w ++ 44 ∷ behind) read.1)
      ∙ (sym (one_more text front x behind) ∙ ap (λ xs. with_commas text xs ++ behind) (sym same)));
  fits = subst (AllByRecursion InForm) (sym same) (all_more InForm front x fits read.0);
  few = omega (arith, ap length same, length-append front (x ∷ []), few, room);
}

-- The last item was read.
pub all_items : {A : Type 0} (InForm : A → Type 0) (text : A → List ℕ) (most : ℕ) (bytes rest : List ℕ) (front now : List A) (x : A) →
    bytes ≡ with_commas text front ++ rest → AllByRecursion InForm front → IsRead InForm text rest (Some x) → now ≡ front ++ x ∷ [] →
    length front < most → IsRead (ItemsInForm InForm most) (items_text text) bytes (Some now)
all_items InForm text most bytes rest front now x parts fits read same few =
    let long : length now ≡ length front + 1 = ap length same ∙ length-append front (x ∷ []) in
    let form : AllByRecursion InForm now = subst (AllByRecursion InForm) (sym same) (all_more InForm front x fits read.0) in (
      (omega (arith, long), omega (arith, long, few), form),
      parts ∙ (ap (λ t. with_commas text front ++ t) read.1 ∙ (sym (last_more text front x) ∙ ap (items_text text) (sym same))),
    )

-- Lists with the same text are the same, where items with the same text are.
pub items_only : {A : Type 0} (InForm : A → Type 0) (text : A → List ℕ) (whole : NoComma InForm text) (only : (a b : A) → InForm a →
    InForm b → text a ≡ text b → a ≡ b) (xs ys : List A) → AllByRecursion InForm xs → AllByRecursion InForm ys → 1 ≤ length xs →
    1 ≤ length ys → items_text text xs ≡ items_text text ys → xs ≡ ys
items_only InForm text whole only [] ys xf yf xn yn e = absurd (omega arith)
items_only InForm text whole only (x ∷ xs) [] xf yf xn yn e = absurd (omega arith)
items_only InForm text whole only (x ∷ []) (y ∷ []) xf yf xn yn e =
    ap (λ z. z ∷ []) (only x y xf.0 yf.0 (sym (append-nil (text x)) ∙ (e ∙ append-nil (text y))))
items_only InForm text whole only (x ∷ []) (y ∷ z ∷ ys) xf yf xn yn e =
    absurd (no_cut 44 (text x) (text y) (items_text text (z ∷ ys)) (whole x xf.0) (sym (append-nil (text x)) ∙ e))
items_only InForm text whole only (x ∷ z ∷ xs) (y ∷ []) xf yf xn yn e =
    absurd (no_cut 44 (text y) (text x) (items_text text (z ∷ xs)) (whole y yf.0) (sym (append-nil (text y)) ∙ sym e))
items_only InForm text whole only (x ∷ w ∷ xs) (y ∷ z ∷ ys) xf yf xn yn e =
    let parts = cut_once 44 (text x) (text y) (items_text text (w ∷ xs)) (items_text text (z ∷ ys)) (whole x xf.0) (whole y yf.0) e in
    let heads : x ≡ y = only x y xf.0 yf.0 parts.0 in
    let tails : w ∷ xs ≡ z ∷ ys = items_only InForm text whole only (w ∷ xs) (z ∷ ys) xf.1 yf.1 (omega arith) (omega arith) parts.1 in
    λ i. heads i ∷ tails i
