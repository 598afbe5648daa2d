-- What the readers of names and of lines tell in between, and what is known of a place.
use Rattle.std.specs.Prelude.{◌≡◌, ◌≢◌, ℕ, List, [], ◌++◌, ◌∷◌, ⊤, Bool, true, false}
use Rattle.arj_base.specs.declared.state.Format.TheVariants as format
use Rattle.arj_disk.specs.declared.slot.Role.{Role}
use Rattle.arj_disk.specs.declared.slot.Slot.{Slot}
use Rattle.arj_disk.specs.declared.slot.Slot.TheVariants as slot
use Rattle.arj_image.specs.declared.image.Image.{Image}
use Rattle.arj_image.specs.declared.place.Place.{Place}
use Rattle.arj_image.specs.declared.place.Stage.{Stage}
use Rattle.arj_image.specs.declared.place.Stage.TheVariants as stage
use Rattle.arj_image.specs.Grammar.{FitsAt, Form, next_place, spelling}
use Rattle.arj_image.specs.Texts.{SlotInForm, role_text}

-- whether a name is of one word
abbrev pub is_bare_slot : Slot → Bool
is_bare_slot slot.Incarnation = true
is_bare_slot slot.Tmp = true
is_bare_slot _ = false

-- whether a name has a Uid alone
abbrev pub is_uid_slot : Slot → Bool
is_uid_slot (slot.Committed u) = true
is_uid_slot (slot.Shadow u) = true
is_uid_slot (slot.Intent u) = true
is_uid_slot _ = false

-- whether a name says whose the file is
abbrev pub is_owned_slot : Slot → Bool
is_owned_slot (slot.Prepared r u) = true
is_owned_slot (slot.Pending r u) = true
is_owned_slot (slot.Segment r k) = true
is_owned_slot _ = false

-- a name of one word
abbrev pub IsBareSlot : Slot → Type 0
IsBareSlot s = is_bare_slot s ≡ true

-- a name with a Uid alone, in form
abbrev pub IsUidSlot : Slot → Type 0
IsUidSlot s = SlotInForm s × (is_uid_slot s ≡ true)

-- a name that says whose the file is, in form
abbrev pub IsOwnedSlot : Slot → Type 0
IsOwnedSlot s = SlotInForm s × (is_owned_slot s ≡ true)

-- what stands behind a role is in form
abbrev pub IsOwned : {A : Type 0} → (A → Type 0) → Role × A → Type 0
IsOwned InForm p = InForm p.1

-- the bytes don't begin with a role and a space
abbrev pub HasNoRole : List ℕ → Type 0
HasNoRole bytes = (r : Role) (rest : List ℕ) → bytes ≢ role_text r ++ 32 ∷ rest

-- the bytes have a form at the old place, and the new one is behind it
abbrev pub Takes : Place → Place → List ℕ → Type 0
Takes old new bytes = (form : Form) × FitsAt old.stage old.image form × (bytes ≡ spelling form) × (new ≡ next_place old form)

-- the bytes have no form at the place, however long they are
abbrev pub HasNone : Place → List ℕ → Type 0
HasNone place bytes = (form : Form) → FitsAt place.stage place.image form → bytes ≢ spelling form

-- what comes later isn't there yet
abbrev pub IsBare : Stage → Image → Type 0
IsBare stage.Start i = (i.header.objects ≡ []) × (i.journal ≡ []) × (i.files ≡ []) × (i.header.format ≡ format.Two)
IsBare stage.Objects i = (i.journal ≡ []) × (i.files ≡ [])
IsBare stage.Counted i = (i.journal ≡ []) × (i.files ≡ [])
IsBare stage.Journal i = i.files ≡ []
IsBare stage.Files i = ⊤
