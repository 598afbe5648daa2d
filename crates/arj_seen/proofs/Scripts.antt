-- Lines of a script, one after another.
use Rattle.std.proofs.Common.{◌≡◌, ◌≢◌, ◌++◌, ◌∷◌, [], List, ℕ, Option, None, ap, sym, subst, ◌∙◌, append_assoc}
use Rattle.std.specs.Prelude.{codes}
use Rattle.std.proofs.lemmas.Grind.{flat_map-append}
use Rattle.std.proofs.lemmas.List.{append-nil}
use Rattle.arj_journal.specs.declared.header.Header.{Header}
use Rattle.arj_script.specs.Grammar.{Form, Place, Start, next_place}
use Rattle.arj_seen.specs.Input.{AreScript, IsScriptLine, ended, header_after, script_text}
use Rattle.arj_seen.specs.declared.seen.ScriptLine.{ScriptLine}

-- with one line more
pub script_more : (place end : Place) (header after : Option Header) (lines : List ScriptLine) (line : ScriptLine) (form : Form)
    → AreScript place header lines end after → IsScriptLine end line form → line.text ≢ codes "journal"
    → AreScript place header (lines ++ line ∷ []) (next_place end form) (header_after end form after)
script_more place end header after [] line form h is other =
    (form, subst (λ p. IsScriptLine p line form) (sym h.0) is, other, (ap (λ p. next_place p form) h.0, (λ i. header_after (h.0 i) form (h.1 i))))
script_more place end header after (first ∷ lines) line form h is other =
    (h.0, h.1, h.2, script_more (next_place place h.0) end (header_after place h.0 header) after lines line form h.3 is other)

-- its text
pub text_more : (lines : List ScriptLine) (line : ScriptLine) →
    script_text (lines ++ line ∷ []) ≡ script_text lines ++ (line.text ++ 10 ∷ [])
text_more lines line = flat_map-append ended lines (line ∷ []) ∙ ap (λ t. script_text lines ++ t) (append-nil (line.text ++ 10 ∷ []))

-- the input, with one line more
pub front_more : (lines : List ScriptLine) (last : ScriptLine) (line bytes rest behind : List ℕ) → last.text ≡ line →
    bytes ≡ script_text lines ++ rest → rest ≡ line ++ 10 ∷ behind
    → bytes ≡ script_text (lines ++ last ∷ []) ++ behind
front_more lines last line bytes rest behind is front cut =
    front ∙ ap (λ r. script_text lines ++ r) cut ∙ (λ i. script_text lines ++ (sym is i ++ 10 ∷ behind))
    ∙ ap (λ r. script_text lines ++ r) (sym (append_assoc last.text (10 ∷ []) behind))
    ∙ sym (append_assoc (script_text lines) (last.text ++ 10 ∷ []) behind)
    ∙ ap (λ t. t ++ behind) (sym (text_more lines last))

-- what was read, with the next line
pub script_next : (place next : Place) (header after : Option Header) (lines longer : List ScriptLine) (last : ScriptLine) (form : Form) (line : List ℕ)
    → AreScript Start None lines place header → IsScriptLine place last form → last.text ≡ line → line ≢ codes "journal"
    → longer ≡ lines ++ last ∷ [] → next ≡ next_place place form → after ≡ header_after place form header →
    AreScript Start None longer next after
script_next place next header after lines longer last form line h is text other more there then =
    subst (λ ls. AreScript Start None ls next after) (sym more)
    (subst (λ p. AreScript Start None (lines ++ last ∷ []) p after) (sym there)
    (subst (AreScript Start None (lines ++ last ∷ []) (next_place place form)) (sym then) (script_more Start place None header lines last form h is (λ e. other (sym text ∙ e)))))
