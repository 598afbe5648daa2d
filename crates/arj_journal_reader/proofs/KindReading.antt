-- What is read behind the first word is a line, a cause or a difference.
use Rattle.std.proofs.Common.{◌≡◌, ◌≢◌, ℕ, List, ◌∷◌, ◌++◌, false, Ok, Err, refl, sym, ◌∙◌, ap, subst, ⊎_elim}
use Rattle.std.specs.Prelude.{Result, ◌==◌}
use Rattle.std.proofs.lemmas.Bool.{both_ways}
use Rattle.arj_journal.specs.declared.body.Cause.{Cause}
use Rattle.arj_journal.specs.declared.body.Cause.TheVariants as cause
use Rattle.arj_journal.specs.declared.body.FrameKind.{FrameKind}
use Rattle.arj_journal.specs.declared.line_kind.LineKind.TheVariants as line
use Rattle.arj_journal_reader.specs.declared.pieces.Node.{Node}
use Rattle.arj_journal_reader.specs.declared.pieces.Sender.{Sender}
use Rattle.arj_journal_reader.specs.declared.pieces.Word.{Word}
use Rattle.arj_journal_reader.specs.declared.fault.LineFault.{LineFault}
use Rattle.arj_journal_reader.specs.declared.fault.LineFault.TheVariants.{NotALine, Memory}
use Rattle.arj_text.specs.Fields.{has_space}
use Rattle.arj_journal_reader.specs.Form.{◌▸◌, Kinds, IsOfKind}
use Rattle.arj_journal.specs.LineForm.{CauseInForm, is_junk}
use Rattle.arj_journal.specs.LineText.{cause_text}
use Rattle.arj_journal_reader.specs.LineKinds.{OneWordCause, WordedCause, causes, frame, line_form, node, sender, word}
use Rattle.arj_journal_reader.specs.Reading.{IsTaken}
use Rattle.arj_journal_reader.proofs.ByKind.{one_word}
use Rattle.arj_journal_reader.proofs.LineFacts.{BareCause, BareAsked, BareDoomed, bare_cause, causes_are, either, sent_facts}
use Rattle.arj_text.proofs.Texts.{no_cut}

-- What isn't taken is of no kind.
pub not_of_kind : (ks : Kinds) (k : ks.Kind) (bytes : List ℕ) (y : LineFault) → IsTaken (ks.form k).InForm (ks.form k).text bytes (Err y) →
    IsOfKind ks k bytes (Err y)
not_of_kind ks k bytes NotALine h = h
not_of_kind ks k bytes Memory h = tt

one_word_fits : (c : Cause) → OneWordCause c → CauseInForm c
one_word_fits cause.Asked h = tt
one_word_fits cause.Doomed h = tt
one_word_fits (cause.Lost n) h = absurd (both_ways false refl h)
one_word_fits (cause.Conflict u m n) h = absurd (both_ways false refl h)
one_word_fits (cause.Changed n d) h = absurd (both_ways false refl h)
one_word_fits (cause.Old n x v) h = absurd (both_ways false refl h)
one_word_fits (cause.NoStores x) h = absurd (both_ways false refl h)
one_word_fits (cause.Listed x n) h = absurd (both_ways false refl h)

bare_is_one_word : (b : BareCause) → OneWordCause (bare_cause b)
bare_is_one_word BareAsked = refl
bare_is_one_word BareDoomed = refl

spaceless_bare : (b : BareCause) → has_space (cause_text (bare_cause b)) ≡ false
spaceless_bare BareAsked = refl
spaceless_bare BareDoomed = refl

-- Where there is no space, a cause is one word.
pub cause_of_word : (bytes : List ℕ) (r : Result Cause LineFault) → has_space bytes ≡ false → IsTaken OneWordCause cause_text bytes r →
    IsTaken CauseInForm cause_text bytes r
cause_of_word bytes (Ok c) spaceless h = (one_word_fits c h.0, h.1)
cause_of_word bytes (Err NotALine) spaceless h = λ c fits e. ⊎_elim
    (λ (b : (b : BareCause) × (bare_cause b ≡ c)). h (bare_cause b.0) (bare_is_one_word b.0) (e ∙ ap cause_text (sym b.1)))
    (λ (w : WordedCause c). one_word causes WordedCause cause_text causes_are bytes spaceless c w e)
    (either c fits)
cause_of_word bytes (Err Memory) spaceless h = tt

-- Where there is one, it isn't.
pub cause_of_words : (bytes first fields : List ℕ) (r : Result Cause LineFault) → bytes ≡ first ++ 32 ∷ fields →
    IsTaken WordedCause cause_text bytes r → IsTaken CauseInForm cause_text bytes r
cause_of_words bytes first fields (Ok c) parts h = (h.0.0, h.1)
cause_of_words bytes first fields (Err NotALine) parts h = λ c fits e. ⊎_elim
    (λ (b : (b : BareCause) × (bare_cause b ≡ c)). no_cut 32 (cause_text (bare_cause b.0)) first fields (spaceless_bare b.0) (ap cause_text b.1 ∙ (sym e ∙ parts)))
    (λ (w : WordedCause c). h c w e)
    (either c fits)
cause_of_words bytes first fields (Err Memory) parts h = tt

-- What is from a wrong sender is no line.
pub wrong_sender : (fields : List ℕ) (k : Word) (s : Sender) (n : Node) (f : FrameKind) →
    (word ▸ sender ▸ node ▸ frame).InForm (k, (s, (n, f))) × (fields ≡ (word ▸ sender ▸ node ▸ frame).text (k, (s, (n, f)))) →
    (s.number == 0) ≢ is_junk f → (v : (line_form line.Sent).Value) → (line_form line.Sent).InForm v → fields ≢ (line_form line.Sent).text v
wrong_sender fields k s n f read other v fits e =
    let same = sent_facts.once (k, (s, (n, f))) v read.0 fits.0 (sym read.1 ∙ e) in
    other (subst (λ w. (w.1.0.number == 0) ≡ is_junk w.1.1.1) (sym same) fits.1)
