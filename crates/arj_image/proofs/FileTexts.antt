-- The line of a file is taken apart in one way.
use Rattle.std.proofs.Common.{◌≡◌, ◌≢◌, ℕ, ◌<◌, ◌≤◌, ◌^◌, List, [], ◌∷◌, ◌++◌, Bool, true, false, None, Some, refl, sym, ◌∙◌, ap, subst}
use Rattle.std.proofs.Common.{arith}
use Rattle.std.specs.Fmt.{decimal}
use Rattle.std.proofs.lemmas.Bool.{both_ways}
use Rattle.arj_disk.specs.declared.slot.Slot.{Slot}
use Rattle.arj_image.proofs.Slots.{slot_once}
use Rattle.arj_image.specs.declared.image.NodeFile.{NodeFile}
use Rattle.arj_image.specs.Texts.{FileInForm, HeldInForm, SlotInForm, file_text, held_text, slot_text}
use Rattle.arj_journal_reader.proofs.ByKind.{Once}
use Rattle.arj_journal_reader.proofs.Leaves.{number_once}
use Rattle.arj_text.proofs.Spaceless.{spaceless_hex}
use Rattle.arj_text.proofs.Texts.{cut_once, digits_only, no_cut}
use Rattle.arj_text.specs.Fields.{AreBytes, HasNoFirst, IsFirst, IsRead, IsWithin, has_byte}
use Rattle.arj_text.specs.Words.{hex}

-- what stands behind the last separator
pub last_once : (k : ℕ) (w v r s : List ℕ) → has_byte k r ≡ false → has_byte k s ≡ false → w ++ k ∷ r ≡ v ++ k ∷ s → (w ≡ v) × (r ≡ s)
last_once k [] [] r s hr hs e = (refl, cc)
last_once k [] (b ∷ v) r s hr hs e =
    let tail : r ≡ v ++ k ∷ s = cc in
    absurd (no_cut k r v s hr tail)
last_once k (a ∷ w) [] r s hr hs e =
    let tail : w ++ k ∷ r ≡ s = cc in
    absurd (no_cut k s w r hs (sym tail))
last_once k (a ∷ w) (b ∷ v) r s hr hs e =
    let head : a ≡ b = cc in
    let tail : w ++ k ∷ r ≡ v ++ k ∷ s = cc in
    let rest = last_once k w v r s hr hs tail in
    let words : w ≡ v = rest.0 in
    (cc, rest.1)

-- without a space there is no file
pub held_no_space : (bytes : List ℕ) → has_byte 32 bytes ≡ false → IsRead HeldInForm held_text bytes None
held_no_space bytes none = λ h fits e. no_cut 32 bytes (slot_text h.0) (hex h.1) none e

-- the name has no text
pub held_no_slot : (bytes name digits : List ℕ) → has_byte 32 digits ≡ false → bytes ≡ name ++ 32 ∷ digits →
    IsRead SlotInForm slot_text name None → IsRead HeldInForm held_text bytes None
held_no_slot bytes name digits spaceless parts none = λ h fits e.
    none h.0 fits.0 (last_once 32 name (slot_text h.0) digits (hex h.1) spaceless (spaceless_hex h.1) (sym parts ∙ e)).0

-- the bytes have no text
pub held_no_bytes : (bytes name digits : List ℕ) → has_byte 32 digits ≡ false → bytes ≡ name ++ 32 ∷ digits →
    IsRead AreBytes hex digits None → IsRead HeldInForm held_text bytes None
held_no_bytes bytes name digits spaceless parts none = λ h fits e.
    none h.1 fits.1 (last_once 32 name (slot_text h.0) digits (hex h.1) spaceless (spaceless_hex h.1) (sym parts ∙ e)).1

-- no node stands first
pub file_no_node : (nodes : ℕ) (bytes : List ℕ) → HasNoFirst 32 (IsWithin 1 nodes) decimal bytes →
    IsRead (FileInForm nodes) file_text bytes None
file_no_node nodes bytes none = λ f fits e. none f.node (held_text (f.slot, f.bytes)) fits.0 e

-- behind the node there is no file
pub file_no_held : (nodes : ℕ) (bytes : List ℕ) (n : ℕ) (rest : List ℕ) → IsFirst 32 (IsWithin 1 nodes) decimal bytes n rest →
    IsRead HeldInForm held_text rest None → IsRead (FileInForm nodes) file_text bytes None
file_no_held nodes bytes n rest read none = λ f fits e.
    none (f.slot, f.bytes) fits.1 (read.only f.node (held_text (f.slot, f.bytes)) fits.0 e).1

-- Two files of one line have one node and one name.
pub file_named_once : (nodes : ℕ) (f g : NodeFile) → nodes ≤ 255 → FileInForm nodes f → FileInForm nodes g → file_text f ≡ file_text g →
    (f.node ≡ g.node) × (f.slot ≡ g.slot)
file_named_once nodes f g few hf hg e =
    let f_small : f.node < 2 ^ 64 = omega (arith, hf.0.1) in
    let g_small : g.node < 2 ^ 64 = omega (arith, hg.0.1) in
    let cuts = cut_once 32 (decimal f.node) (decimal g.node) (held_text (f.slot, f.bytes)) (held_text (g.slot, g.bytes))
    (digits_only 32 f.node refl f_small) (digits_only 32 g.node refl g_small) e in
    let names = last_once 32 (slot_text f.slot) (slot_text g.slot) (hex f.bytes) (hex g.bytes) (spaceless_hex f.bytes)
    (spaceless_hex g.bytes) cuts.1 in
    (number_once f.node g.node f_small g_small cuts.0, slot_once f.slot g.slot hf.1.0 hg.1.0 names.0)
