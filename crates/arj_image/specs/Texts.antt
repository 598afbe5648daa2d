-- How the lines of an image are spelled, and which files are in form.
use Rattle.std.specs.Prelude.{◌≡◌, ℕ, List, [], ◌∷◌, ◌++◌, codes, ⊤, Bool, true}
use Rattle.std.specs.Fmt.{decimal}
use Rattle.std.specs.Ordering.{nat_cmp, ordering_then, is_lt}
use Rattle.arj_base.specs.declared.uid.Uid.{Uid}
use Rattle.arj_base.specs.Uid.{UidFits, uid_text}
use Rattle.arj_disk.specs.declared.slot.Role.{Role}
use Rattle.arj_disk.specs.declared.slot.Role.TheVariants.{Store, Names}
use Rattle.arj_disk.specs.declared.slot.Slot.{Slot}
use Rattle.arj_disk.specs.declared.slot.Slot.TheVariants as slot
use Rattle.arj_disk.specs.Slot.{slot_order}
use Rattle.arj_image.specs.declared.image.NodeFile.{NodeFile}
use Rattle.arj_journal.specs.LineText.{body_text}
use Rattle.arj_journal.specs.declared.body.Line.{Line}
use Rattle.arj_text.specs.Fields.{AreBytes, IsWithin, NumberInForm}
use Rattle.arj_text.specs.Words.{hex, number_word}

-- whose a file is
abbrev pub role_text : Role → List ℕ
role_text Store = codes "store"
role_text Names = codes "names"

-- whose a file is, and behind a space which it is
abbrev pub owned_text : {A : Type 0} → (A → List ℕ) → Role × A → List ℕ
owned_text text p = role_text p.0 ++ 32 ∷ text p.1

-- the name of a file
abbrev pub slot_text : Slot → List ℕ
slot_text slot.Incarnation = codes "inc"
slot_text slot.Tmp = codes "tmp"
slot_text (slot.Committed u) = codes "committed " ++ uid_text u
slot_text (slot.Shadow u) = codes "shadow " ++ uid_text u
slot_text (slot.Prepared r u) = codes "prepared " ++ owned_text uid_text (r, u)
slot_text (slot.Intent u) = codes "intent " ++ uid_text u
slot_text (slot.Pending r u) = codes "pending " ++ owned_text uid_text (r, u)
slot_text (slot.Segment r k) = codes "segment " ++ owned_text decimal (r, k)

-- what the name of a file holds fits its bytes
abbrev pub SlotInForm : Slot → Type 0
SlotInForm (slot.Committed u) = UidFits u
SlotInForm (slot.Shadow u) = UidFits u
SlotInForm (slot.Prepared r u) = UidFits u
SlotInForm (slot.Intent u) = UidFits u
SlotInForm (slot.Pending r u) = UidFits u
SlotInForm (slot.Segment r k) = NumberInForm k
SlotInForm _ = ⊤

-- a file's name and what it holds
abbrev pub held_text : Slot × List ℕ → List ℕ
held_text h = slot_text h.0 ++ 32 ∷ hex h.1

-- a file's name and its bytes, in form
abbrev pub HeldInForm : Slot × List ℕ → Type 0
HeldInForm h = SlotInForm h.0 × AreBytes h.1

-- the line of a file
abbrev pub file_text : NodeFile → List ℕ
file_text f = decimal f.node ++ 32 ∷ held_text (f.slot, f.bytes)

-- a file of one of so many nodes
abbrev pub FileInForm : ℕ → NodeFile → Type 0
FileInForm nodes f = IsWithin 1 nodes f.node × HeldInForm (f.slot, f.bytes)

-- the line of the counts of events and of frames
abbrev pub counts_text : ℕ × ℕ → List ℕ
counts_text p = codes "counts" ++ (number_word p.0 ++ number_word p.1)

-- whether one file stands before another: by its node, and then by its name
abbrev pub is_before : NodeFile → NodeFile → Bool
is_before f g = is_lt (ordering_then (nat_cmp f.node g.node) (slot_order f.slot g.slot))

-- whether the last one of a list, if there is one, is so
abbrev pub is_last : {A : Type 0} → (A → Bool) → List A → Bool
is_last p [] = true
is_last p (a ∷ []) = p a
is_last p (a ∷ b ∷ bs) = is_last p (b ∷ bs)

-- a line of a journal, without its end
abbrev pub said_text : Line → List ℕ
said_text l = decimal l.event ++ 32 ∷ body_text l.body
