-- At a place no two forms have one line, and no line ends in its midst.
use Rattle.std.proofs.Common.{◌≡◌, ◌≢◌, ℕ, ◌<◌, ◌≤◌, ◌^◌, List, [], ◌∷◌, ◌++◌, codes, false, refl, sym, ◌∙◌, ap, arith}
use Rattle.std.specs.Fmt.{decimal}
use Rattle.std.proofs.lemmas.Bool.{both_ways, or_from}
use Rattle.std.proofs.lemmas.List.{append_cancel_right}
use Rattle.arj_base.specs.Uid.{uid_text}
use Rattle.arj_disk.specs.declared.slot.Role.TheVariants.{Store, Names}
use Rattle.arj_disk.specs.declared.slot.Slot.{Slot}
use Rattle.arj_disk.specs.declared.slot.Slot.TheVariants as slot
use Rattle.arj_image.proofs.FileTexts.{file_named_once, last_once}
use Rattle.arj_image.proofs.Values.{object_ends, object_once}
use Rattle.arj_image.specs.declared.image.Image.{Image}
use Rattle.arj_image.specs.declared.image.NodeFile.{NodeFile}
use Rattle.arj_image.specs.declared.place.Stage.{Stage}
use Rattle.arj_image.specs.declared.place.Stage.TheVariants as stage
use Rattle.arj_image.specs.Grammar.{CountsInForm, FitsAt, Form, FormatOne, Nodes, Object, Counts, Journal, Says, Files, Has, spelling}
use Rattle.arj_image.specs.Texts.{FileInForm, SlotInForm, counts_text, file_text, held_text, owned_text, said_text, slot_text}
use Rattle.arj_journal.specs.LineForm.{LineInForm}
use Rattle.arj_journal.specs.LineText.{body_text}
use Rattle.arj_journal.specs.ScriptForm.{ObjectLineInForm}
use Rattle.arj_journal.specs.declared.body.Line.{Line}
use Rattle.arj_journal_reader.proofs.ByKind.{Once, lacks_behind, lacks_both}
use Rattle.arj_journal_reader.proofs.LineFacts.{bodies_facts}
use Rattle.arj_journal_reader.proofs.Leaves.{end_apart, hex_lacks, hex_once, number_lacks, number_once, uid_lacks}
use Rattle.arj_text.proofs.Spaceless.{spaceless_hex}
use Rattle.arj_text.proofs.Texts.{cut_once, digits_only, no_cut, same_rest}
use Rattle.arj_text.specs.Fields.{has_byte}
use Rattle.arj_text.specs.Words.{hex}

-- the counts
counts_once : Once CountsInForm counts_text
counts_once p q hp hq e =
    let small = λ (n : ℕ) (h : n ≤ 4294967295). (let fits : n < 2 ^ 64 = omega (arith, h) in fits) in
    let rest = same_rest (codes "counts ") (decimal p.0 ++ 32 ∷ decimal p.1) (decimal q.0 ++ 32 ∷ decimal q.1) e in
    let cuts = cut_once 32 (decimal p.0) (decimal q.0) (decimal p.1) (decimal q.1)
    (digits_only 32 p.0 refl (small p.0 hp.0.1)) (digits_only 32 q.0 refl (small q.0 hq.0.1)) rest in
    let events = number_once p.0 q.0 (small p.0 hp.0.1) (small q.0 hq.0.1) cuts.0 in
    let frames = number_once p.1 q.1 (small p.1 hp.1.1) (small q.1 hq.1.1) cuts.1 in
    λ i. (events i, frames i)

-- a line of the journal
said_once : Once LineInForm said_text
said_once l m hl hm e =
    let l_small : l.event < 2 ^ 64 = omega (arith, hl.0) in
    let m_small : m.event < 2 ^ 64 = omega (arith, hm.0) in
    let cuts = cut_once 32 (decimal l.event) (decimal m.event) (body_text l.body) (body_text m.body)
    (digits_only 32 l.event refl l_small) (digits_only 32 m.event refl m_small) e in
    let event = number_once l.event m.event l_small m_small cuts.0 in
    let body = bodies_facts.once l.body m.body hl.1 hm.1 cuts.1 in
    λ i. record { event = event i; body = body i }

-- the line of a file
pub file_once : (nodes : ℕ) → nodes ≤ 255 → Once (FileInForm nodes) file_text
file_once nodes few f g hf hg e =
    let names = file_named_once nodes f g few hf hg e in
    let f_small : f.node < 2 ^ 64 = omega (arith, hf.0.1) in
    let g_small : g.node < 2 ^ 64 = omega (arith, hg.0.1) in
    let cuts = cut_once 32 (decimal f.node) (decimal g.node) (held_text (f.slot, f.bytes)) (held_text (g.slot, g.bytes))
    (digits_only 32 f.node refl f_small) (digits_only 32 g.node refl g_small) e in
    let held = last_once 32 (slot_text f.slot) (slot_text g.slot) (hex f.bytes) (hex g.bytes) (spaceless_hex f.bytes)
    (spaceless_hex g.bytes) cuts.1 in
    let bytes = hex_once f.bytes g.bytes hf.1.1 hg.1.1 held.1 in
    λ i. record { node = names.0 i; slot = names.1 i; bytes = bytes i }

-- the first letter
abbrev first : List ℕ → ℕ
first [] = 0
first (b ∷ bs) = b

pub form_once : (s : Stage) (i : Image) → i.header.nodes ≤ 16 → (f g : Form) → FitsAt s i f → FitsAt s i g → spelling f ≡ spelling g → f ≡ g
form_once stage.Start i few (Nodes n) (Nodes m) hf hg e =
    ap Nodes (number_once n m (omega (arith, hf.1)) (omega (arith, hg.1)) (same_rest (codes "nodes ") (decimal n) (decimal m) e))
form_once stage.Objects i few (Object o) (Object p) hf hg e = ap Object (object_once i.header.nodes (omega (arith, few)) o p hf.0 hg.0 e)
form_once stage.Objects i few FormatOne FormatOne hf hg e = refl
form_once stage.Objects i few FormatOne (Object p) hf hg e = absurd (omega (arith, ap first e))
form_once stage.Objects i few FormatOne (Counts q) hf hg e = absurd (omega (arith, ap first e))
form_once stage.Objects i few (Object o) FormatOne hf hg e = absurd (omega (arith, ap first e))
form_once stage.Objects i few (Counts p) FormatOne hf hg e = absurd (omega (arith, ap first e))
form_once stage.Objects i few (Object o) (Counts q) hf hg e = absurd (omega (arith, ap first e))
form_once stage.Objects i few (Counts p) (Object o) hf hg e = absurd (omega (arith, ap first e))
form_once stage.Objects i few (Counts p) (Counts q) hf hg e = ap Counts (counts_once p q hf hg e)
form_once stage.Counted i few Journal Journal hf hg e = refl
form_once stage.Journal i few (Says l) (Says m) hf hg e = ap Says (said_once l m hf hg e)
form_once stage.Journal i few (Says l) Files hf hg e = absurd (no_cut 32 (codes "files") (decimal l.event) (body_text l.body) refl (sym e))
form_once stage.Journal i few Files (Says l) hf hg e = absurd (no_cut 32 (codes "files") (decimal l.event) (body_text l.body) refl e)
form_once stage.Journal i few Files Files hf hg e = refl
form_once stage.Files i few (Has f) (Has g) hf hg e = ap Has (file_once i.header.nodes (omega (arith, few)) f g hf.0 hg.0 e)
form_once stage.Start i few FormatOne g hf hg e = elim hf [ ]
form_once stage.Start i few (Object o) g hf hg e = elim hf [ ]
form_once stage.Start i few (Counts p) g hf hg e = elim hf [ ]
form_once stage.Start i few Journal g hf hg e = elim hf [ ]
form_once stage.Start i few (Says l) g hf hg e = elim hf [ ]
form_once stage.Start i few Files g hf hg e = elim hf [ ]
form_once stage.Start i few (Has f) g hf hg e = elim hf [ ]
form_once stage.Objects i few (Nodes n) g hf hg e = elim hf [ ]
form_once stage.Objects i few Journal g hf hg e = elim hf [ ]
form_once stage.Objects i few (Says l) g hf hg e = elim hf [ ]
form_once stage.Objects i few Files g hf hg e = elim hf [ ]
form_once stage.Objects i few (Has f) g hf hg e = elim hf [ ]
form_once stage.Counted i few (Nodes n) g hf hg e = elim hf [ ]
form_once stage.Counted i few FormatOne g hf hg e = elim hf [ ]
form_once stage.Counted i few (Object o) g hf hg e = elim hf [ ]
form_once stage.Counted i few (Counts p) g hf hg e = elim hf [ ]
form_once stage.Counted i few (Says l) g hf hg e = elim hf [ ]
form_once stage.Counted i few Files g hf hg e = elim hf [ ]
form_once stage.Counted i few (Has f) g hf hg e = elim hf [ ]
form_once stage.Journal i few (Nodes n) g hf hg e = elim hf [ ]
form_once stage.Journal i few FormatOne g hf hg e = elim hf [ ]
form_once stage.Journal i few (Object o) g hf hg e = elim hf [ ]
form_once stage.Journal i few (Counts p) g hf hg e = elim hf [ ]
form_once stage.Journal i few Journal g hf hg e = elim hf [ ]
form_once stage.Journal i few (Has f) g hf hg e = elim hf [ ]
form_once stage.Files i few (Nodes n) g hf hg e = elim hf [ ]
form_once stage.Files i few FormatOne g hf hg e = elim hf [ ]
form_once stage.Files i few (Object o) g hf hg e = elim hf [ ]
form_once stage.Files i few (Counts p) g hf hg e = elim hf [ ]
form_once stage.Files i few Journal g hf hg e = elim hf [ ]
form_once stage.Files i few (Says l) g hf hg e = elim hf [ ]
form_once stage.Files i few Files g hf hg e = elim hf [ ]
form_once stage.Start i few (Nodes n) FormatOne hf hg e = elim hg [ ]
form_once stage.Start i few (Nodes n) (Object o2) hf hg e = elim hg [ ]
form_once stage.Start i few (Nodes n) (Counts p2) hf hg e = elim hg [ ]
form_once stage.Start i few (Nodes n) Journal hf hg e = elim hg [ ]
form_once stage.Start i few (Nodes n) (Says l2) hf hg e = elim hg [ ]
form_once stage.Start i few (Nodes n) Files hf hg e = elim hg [ ]
form_once stage.Start i few (Nodes n) (Has f2) hf hg e = elim hg [ ]
form_once stage.Objects i few FormatOne (Nodes n2) hf hg e = elim hg [ ]
form_once stage.Objects i few (Object o) (Nodes n2) hf hg e = elim hg [ ]
form_once stage.Objects i few FormatOne Journal hf hg e = elim hg [ ]
form_once stage.Objects i few (Object o) Journal hf hg e = elim hg [ ]
form_once stage.Objects i few FormatOne (Says l2) hf hg e = elim hg [ ]
form_once stage.Objects i few (Object o) (Says l2) hf hg e = elim hg [ ]
form_once stage.Objects i few FormatOne Files hf hg e = elim hg [ ]
form_once stage.Objects i few (Object o) Files hf hg e = elim hg [ ]
form_once stage.Objects i few FormatOne (Has f2) hf hg e = elim hg [ ]
form_once stage.Objects i few (Object o) (Has f2) hf hg e = elim hg [ ]
form_once stage.Objects i few (Counts p) (Nodes n2) hf hg e = elim hg [ ]
form_once stage.Objects i few (Counts p) Journal hf hg e = elim hg [ ]
form_once stage.Objects i few (Counts p) (Says l2) hf hg e = elim hg [ ]
form_once stage.Objects i few (Counts p) Files hf hg e = elim hg [ ]
form_once stage.Objects i few (Counts p) (Has f2) hf hg e = elim hg [ ]
form_once stage.Counted i few Journal (Nodes n2) hf hg e = elim hg [ ]
form_once stage.Counted i few Journal FormatOne hf hg e = elim hg [ ]
form_once stage.Counted i few Journal (Object o2) hf hg e = elim hg [ ]
form_once stage.Counted i few Journal (Counts p2) hf hg e = elim hg [ ]
form_once stage.Counted i few Journal (Says l2) hf hg e = elim hg [ ]
form_once stage.Counted i few Journal Files hf hg e = elim hg [ ]
form_once stage.Counted i few Journal (Has f2) hf hg e = elim hg [ ]
form_once stage.Journal i few (Says l) (Nodes n2) hf hg e = elim hg [ ]
form_once stage.Journal i few (Says l) FormatOne hf hg e = elim hg [ ]
form_once stage.Journal i few (Says l) (Object o2) hf hg e = elim hg [ ]
form_once stage.Journal i few (Says l) (Counts p2) hf hg e = elim hg [ ]
form_once stage.Journal i few (Says l) Journal hf hg e = elim hg [ ]
form_once stage.Journal i few (Says l) (Has f2) hf hg e = elim hg [ ]
form_once stage.Journal i few Files (Nodes n2) hf hg e = elim hg [ ]
form_once stage.Journal i few Files FormatOne hf hg e = elim hg [ ]
form_once stage.Journal i few Files (Object o2) hf hg e = elim hg [ ]
form_once stage.Journal i few Files (Counts p2) hf hg e = elim hg [ ]
form_once stage.Journal i few Files Journal hf hg e = elim hg [ ]
form_once stage.Journal i few Files (Has f2) hf hg e = elim hg [ ]
form_once stage.Files i few (Has f) (Nodes n2) hf hg e = elim hg [ ]
form_once stage.Files i few (Has f) FormatOne hf hg e = elim hg [ ]
form_once stage.Files i few (Has f) (Object o2) hf hg e = elim hg [ ]
form_once stage.Files i few (Has f) (Counts p2) hf hg e = elim hg [ ]
form_once stage.Files i few (Has f) Journal hf hg e = elim hg [ ]
form_once stage.Files i few (Has f) (Says l2) hf hg e = elim hg [ ]
form_once stage.Files i few (Has f) Files hf hg e = elim hg [ ]

-- No line has an end in its midst.
slot_ends : (s : Slot) → SlotInForm s → has_byte 10 (slot_text s) ≡ false
slot_ends slot.Incarnation h = refl
slot_ends slot.Tmp h = refl
slot_ends (slot.Committed u) h = lacks_both 10 (codes "committed ") (uid_text u) refl (uid_lacks 10 end_apart u h)
slot_ends (slot.Shadow u) h = lacks_both 10 (codes "shadow ") (uid_text u) refl (uid_lacks 10 end_apart u h)
slot_ends (slot.Intent u) h = lacks_both 10 (codes "intent ") (uid_text u) refl (uid_lacks 10 end_apart u h)
slot_ends (slot.Prepared Store u) h = lacks_both 10 (codes "prepared store ") (uid_text u) refl (uid_lacks 10 end_apart u h)
slot_ends (slot.Prepared Names u) h = lacks_both 10 (codes "prepared names ") (uid_text u) refl (uid_lacks 10 end_apart u h)
slot_ends (slot.Pending Store u) h = lacks_both 10 (codes "pending store ") (uid_text u) refl (uid_lacks 10 end_apart u h)
slot_ends (slot.Pending Names u) h = lacks_both 10 (codes "pending names ") (uid_text u) refl (uid_lacks 10 end_apart u h)
slot_ends (slot.Segment Store k) h = lacks_both 10 (codes "segment store ") (decimal k) refl (number_lacks 10 end_apart k h)
slot_ends (slot.Segment Names k) h = lacks_both 10 (codes "segment names ") (decimal k) refl (number_lacks 10 end_apart k h)

pub form_ends : (s : Stage) (i : Image) → i.header.nodes ≤ 16 → (f : Form) → FitsAt s i f → has_byte 10 (spelling f) ≡ false
form_ends stage.Start i few (Nodes n) h =
    lacks_both 10 (codes "nodes ") (decimal n) refl (number_lacks 10 end_apart n (omega (arith, h.1)))
form_ends stage.Objects i few FormatOne h = refl
form_ends stage.Objects i few (Object o) h = object_ends i.header.nodes (omega (arith, few)) o h.0
form_ends stage.Objects i few (Counts p) h =
    lacks_both 10 (codes "counts ") (decimal p.0 ++ 32 ∷ decimal p.1) refl
    (lacks_behind 10 32 (decimal p.0) (decimal p.1) refl (number_lacks 10 end_apart p.0 (omega (arith, h.0.1)))
    (number_lacks 10 end_apart p.1 (omega (arith, h.1.1))))
form_ends stage.Counted i few Journal h = refl
form_ends stage.Journal i few (Says l) h =
    lacks_behind 10 32 (decimal l.event) (body_text l.body) refl (number_lacks 10 end_apart l.event (omega (arith, h.0)))
    (bodies_facts.endless l.body h.1)
form_ends stage.Journal i few Files h = refl
form_ends stage.Files i few (Has f) h =
    lacks_behind 10 32 (decimal f.node) (held_text (f.slot, f.bytes)) refl (number_lacks 10 end_apart f.node (omega (arith, h.0.0.1, few)))
    (lacks_behind 10 32 (slot_text f.slot) (hex f.bytes) refl (slot_ends f.slot h.0.1.0) (hex_lacks 10 end_apart f.bytes h.0.1.1))
form_ends stage.Start i few FormatOne h = elim h [ ]
form_ends stage.Start i few (Object o) h = elim h [ ]
form_ends stage.Start i few (Counts p) h = elim h [ ]
form_ends stage.Start i few Journal h = elim h [ ]
form_ends stage.Start i few (Says l) h = elim h [ ]
form_ends stage.Start i few Files h = elim h [ ]
form_ends stage.Start i few (Has f) h = elim h [ ]
form_ends stage.Objects i few (Nodes n) h = elim h [ ]
form_ends stage.Objects i few Journal h = elim h [ ]
form_ends stage.Objects i few (Says l) h = elim h [ ]
form_ends stage.Objects i few Files h = elim h [ ]
form_ends stage.Objects i few (Has f) h = elim h [ ]
form_ends stage.Counted i few (Nodes n) h = elim h [ ]
form_ends stage.Counted i few FormatOne h = elim h [ ]
form_ends stage.Counted i few (Object o) h = elim h [ ]
form_ends stage.Counted i few (Counts p) h = elim h [ ]
form_ends stage.Counted i few (Says l) h = elim h [ ]
form_ends stage.Counted i few Files h = elim h [ ]
form_ends stage.Counted i few (Has f) h = elim h [ ]
form_ends stage.Journal i few (Nodes n) h = elim h [ ]
form_ends stage.Journal i few FormatOne h = elim h [ ]
form_ends stage.Journal i few (Object o) h = elim h [ ]
form_ends stage.Journal i few (Counts p) h = elim h [ ]
form_ends stage.Journal i few Journal h = elim h [ ]
form_ends stage.Journal i few (Has f) h = elim h [ ]
form_ends stage.Files i few (Nodes n) h = elim h [ ]
form_ends stage.Files i few FormatOne h = elim h [ ]
form_ends stage.Files i few (Object o) h = elim h [ ]
form_ends stage.Files i few (Counts p) h = elim h [ ]
form_ends stage.Files i few Journal h = elim h [ ]
form_ends stage.Files i few (Says l) h = elim h [ ]
form_ends stage.Files i few Files h = elim h [ ]
