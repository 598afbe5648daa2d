-- Pieces of a line, seen as their values, those in form, and the text of each.
use Rattle.std.specs.Prelude.{◌≡◌, ◌≢◌, ℕ, List, ◌∷◌, ◌++◌, false, ⊤, Result, Ok, Err}
use Rattle.arj_journal_reader.specs.declared.fault.LineFault.{LineFault}
use Rattle.arj_journal_reader.specs.declared.fault.LineFault.TheVariants.{NotALine, Memory}
use Rattle.arj_text.specs.Fields.{has_space}

-- a kind of piece: its values, those in form, and their texts
pub record Form : Type 1 where
  pub Value : Type 0
  pub InForm : Value → Type 0
  pub text : Value → List ℕ

-- a word, and behind a space a piece of any kind
abbrev pub PairInForm : {A B : Type 0} → (A → Type 0) → (A → List ℕ) → (B → Type 0) → A × B → Type 0
PairInForm P text Q p = P p.0 × (has_space (text p.0) ≡ false) × Q p.1

-- the text of the one, a space, and that of the other
abbrev pub pair_text : {A B : Type 0} → (A → List ℕ) → (B → List ℕ) → A × B → List ℕ
pair_text s t p = s p.0 ++ 32 ∷ t p.1

infixr 5 ◌▸◌
-- one form, a space, and another
abbrev pub ◌▸◌ : Form → Form → Form
f ▸ g = record { Value = f.Value × g.Value; InForm = PairInForm f.InForm f.text g.InForm; text = pair_text f.text g.text }

-- only those that pass a test
abbrev pub kept : (f : Form) → (f.Value → Type 0) → Form
kept f P = record { Value = f.Value; InForm = λ v. f.InForm v × P v; text = f.text }

-- Values of several kinds. Each kind has a first word of its own, and behind a space a form of its own.
pub record Kinds : Type 1 where
  pub Kind : Type 0
  pub word : Kind → List ℕ
  pub form : Kind → Form
  pub Whole : Type 0
  pub make : (k : Kind) → (form k).Value → Whole

-- What is read behind the first word of a kind, as `IsTaken` has it.
abbrev pub IsOfKind : (ks : Kinds) → ks.Kind → List ℕ → Result ks.Whole LineFault → Type 0
IsOfKind ks k bytes (Ok whole) = (v : (ks.form k).Value) × (ks.form k).InForm v × (bytes ≡ (ks.form k).text v) × (whole ≡ ks.make k v)
IsOfKind ks k bytes (Err NotALine) = (v : (ks.form k).Value) → (ks.form k).InForm v → bytes ≢ (ks.form k).text v
IsOfKind ks k bytes (Err Memory) = ⊤
