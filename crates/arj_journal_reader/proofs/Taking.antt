-- Pieces of a line are read at their places.
use Rattle.std.proofs.Common.{◌≡◌, ℕ, List, ◌∷◌, ◌++◌, false, Err, sym, ◌∙◌}
use Rattle.arj_journal_reader.specs.declared.fault.LineFault.{LineFault}
use Rattle.arj_journal_reader.specs.declared.fault.LineFault.TheVariants.{NotALine, Memory}
use Rattle.arj_text.specs.Fields.{has_space}
use Rattle.arj_journal_reader.specs.Form.{PairInForm, pair_text}
use Rattle.arj_journal_reader.specs.Reading.{IsTaken}
use Rattle.arj_text.proofs.Texts.{cut_once}

-- Where the first word isn't taken, no pair is there.
pub first_fails : {A B : Type 0} (P : A → Type 0) (s : A → List ℕ) (Q : B → Type 0) (t : B →
    List ℕ) (bytes word rest : List ℕ) (y : LineFault) → has_space word ≡ false → bytes ≡ word ++ 32 ∷ rest → IsTaken P s word (Err y) →
    IsTaken (PairInForm P s Q) (pair_text s t) bytes (Err y)
first_fails P s Q t bytes word rest NotALine spaceless parts none =
    λ p fits e. none p.0 fits.0 (cut_once 32 word (s p.0) rest (t p.1) spaceless fits.1 (sym parts ∙ e)).0
first_fails P s Q t bytes word rest Memory spaceless parts none = tt

-- Where what stands behind it isn't taken, no pair is there.
pub second_fails : {A B : Type 0} (P : A → Type 0) (s : A → List ℕ) (Q : B → Type 0) (t : B →
    List ℕ) (bytes word rest : List ℕ) (y : LineFault) → has_space word ≡ false → bytes ≡ word ++ 32 ∷ rest → IsTaken Q t rest (Err y) →
    IsTaken (PairInForm P s Q) (pair_text s t) bytes (Err y)
second_fails P s Q t bytes word rest NotALine spaceless parts none =
    λ p fits e. none p.1 fits.2 (cut_once 32 word (s p.0) rest (t p.1) spaceless fits.1 (sym parts ∙ e)).1
second_fails P s Q t bytes word rest Memory spaceless parts none = tt
