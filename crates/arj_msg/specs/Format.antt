-- Formats: how a value is spelled, of which fields its spelling consists, which values have one, and how one is read
-- from the front of bytes.
use Rattle.std.specs.Prelude.{ℕ, zero, suc, ◌+◌, ◌-◌, ◌⊎◌, ◌≡◌, List, [], ◌∷◌, ◌++◌, length, Bool, true, ◌&&◌, nat_le, Option, Some, None}
use Rattle.std.specs.Prelude.{Result, Ok, Err, ⊤, if◌then◌else◌}
use Rattle.std.proofs.Common.{inl, inr}
use Rattle.std.specs.List.{flat_map, AllByRecursion}
use Rattle.arj_msg.specs.declared.fault.ReadFault.{ReadFault}
use Rattle.arj_msg.specs.declared.fault.ReadFault.TheVariants as fault

-- Reading gives a value and the bytes behind it, or how many bytes are left from the first field on that the bytes
-- don't hold whole or whose value isn't allowed.
pub record Format (A : Type 0) : Type 1 where
  pub spell : A → List ℕ
  pub fields : A → List (List ℕ)
  pub Fits : A → Type 0
  pub read : List ℕ → Result (A × List ℕ) ℕ

infixl 10 ◌>>=◌
-- goes on with what was read; a failure stays as it is
abbrev pub ◌>>=◌ : {A B : Type 0} → Result A ℕ → (A → Result B ℕ) → Result B ℕ
(Ok x) >>= f = f x
(Err left) >>= f = Err left

-- one field, which `cut` takes whole from the front of bytes where it stands there
abbrev pub one_of : {A : Type 0} → List ℕ → Option (A × List ℕ) → Result (A × List ℕ) ℕ
one_of bytes None = Err (length bytes)
one_of bytes (Some x) = Ok x

-- a value that is one field: its spelling, when it has one, and how it is cut from the front of bytes
abbrev pub one_field : {A : Type 0} → (A → List ℕ) → (A → Type 0) → (List ℕ → Option (A × List ℕ)) → Format A
one_field spell Fits cut = record { spell = spell; fields = λ a. spell a ∷ []; Fits = Fits; read = λ bytes. one_of bytes (cut bytes) }

-- a byte with one of the numbers from low to high
abbrev pub between : ℕ → ℕ → ℕ → Bool
between low high n = nat_le low n && nat_le n high

-- the first byte and those behind it, where there is one and its number is from low to high
abbrev pub cut_byte : ℕ → ℕ → List ℕ → Option (ℕ × List ℕ)
cut_byte low high [] = None
cut_byte low high (b ∷ rest) = if between low high b then Some (b, rest) else None

-- one byte, a number from low to high
unfoldable pub byte : ℕ → ℕ → Format ℕ
byte low high = one_field (λ n. n ∷ []) (λ n. between low high n ≡ true) (cut_byte low high)

-- a value, and behind it one whose format may depend on it
abbrev pub chain : {A : Type 0} {B : A → Type 0} → Format A → ((a : A) → Format (B a)) → Format ((a : A) × B a)
chain f g = record {
  spell = λ p. f.spell p.0 ++ (g p.0).spell p.1;
  fields = λ p. f.fields p.0 ++ (g p.0).fields p.1;
  Fits = λ p. f.Fits p.0 × (g p.0).Fits p.1;
  read = λ bytes. f.read bytes >>= λ x. (g x.0).read x.1 >>= λ y. Ok ((x.0, y.0), y.1);
}

-- two values, one behind the other
abbrev pub both : {A B : Type 0} → Format A → Format B → Format (A × B)
both f g = chain f (λ _. g)

-- a value of another type, spelled as its parts are
abbrev pub shaped : {A B : Type 0} → (A → B) → (B → A) → Format A → Format B
shaped whole parts f = record {
  spell = λ b. f.spell (parts b);
  fields = λ b. f.fields (parts b);
  Fits = λ b. f.Fits (parts b);
  read = λ bytes. f.read bytes >>= λ x. Ok (whole x.0, x.1);
}

-- so many values, each read from where the one before it ended, and the bytes behind the last
abbrev pub read_many : {A : Type 0} → Format A → ℕ → List ℕ → Result (List A × List ℕ) ℕ
read_many f zero bytes = Ok ([], bytes)
read_many f (suc n) bytes = f.read bytes >>= λ x. read_many f n x.1 >>= λ y. Ok (x.0 ∷ y.0, y.1)

-- so many values, one behind the other
abbrev pub many : {A : Type 0} → Format A → ℕ → Format (List A)
many f n = record {
  spell = λ items. flat_map f.spell items;
  fields = λ items. flat_map f.fields items;
  Fits = λ items. (length items ≡ n) × AllByRecursion f.Fits items;
  read = read_many f n;
}

-- a list: its count in one byte, and its items
abbrev pub list : {A : Type 0} → Format A → Format (List A)
list f = shaped (λ p. p.1) (λ items. (length items, items)) (chain (byte 0 255) (many f))

-- What a reader in the code returned is what reading gives, unless memory ran out.
abbrev pub Fails : {A : Type 0} → ReadFault → Result A ℕ → Type 0
Fails fault.Memory read = ⊤
Fails (fault.Left n) read = read ≡ Err n

-- a value that a reader returned is, seen by `view`, the one that reading gives; a fault is as `Fails` says
abbrev pub Gives : {X A : Type 0} → (X → A) → Result X ReadFault → Result A ℕ → Type 0
Gives view (Ok x) read = read ≡ Ok (view x)
Gives view (Err e) read = Fails e read

-- no bytes at all
unfoldable pub nothing : Format (Unit {0})
nothing = record { spell = λ _. []; fields = λ _. []; Fits = λ _. Unit {0}; read = λ bytes. Ok (tt, bytes) }

-- ---- one of several cases

-- one case of A: the format of its parts, and how A is made of them
pub record Case (A : Type 0) : Type 1 where
  pub Parts : Type 0
  pub form : Format Parts
  pub make : Parts → A

-- a case by the format of its parts and how a value is made of them
abbrev pub case : {A Parts : Type 0} → Format Parts → (Parts → A) → Case A
case {Parts = Parts} form make = record { Parts = Parts; form = form; make = make }

-- the parts of one of the cases
abbrev pub OneOf : {A : Type 0} → List (Case A) → Type 0
OneOf [] = ⊥
OneOf (c ∷ cases) = c.Parts ⊎ OneOf cases

-- the value that is made of the parts, in the way of their case
abbrev pub made_by : {A : Type 0} (cases : List (Case A)) → OneOf cases → A
made_by [] s = absurd s
made_by (c ∷ cases) (inl p) = c.make p
made_by (c ∷ cases) (inr s) = made_by cases s

-- which case it is, from 0
abbrev pub place : {A : Type 0} (cases : List (Case A)) → OneOf cases → ℕ
place [] s = absurd s
place (c ∷ cases) (inl p) = 0
place (c ∷ cases) (inr s) = suc (place cases s)

-- the spelling of the parts in the format of their case, without a code before it
abbrev pub spell_one : {A : Type 0} (cases : List (Case A)) → OneOf cases → List ℕ
spell_one [] s = absurd s
spell_one (c ∷ cases) (inl p) = c.form.spell p
spell_one (c ∷ cases) (inr s) = spell_one cases s

-- the fields of the parts in the format of their case, without a code before them
abbrev pub fields_of_one : {A : Type 0} (cases : List (Case A)) → OneOf cases → List (List ℕ)
fields_of_one [] s = absurd s
fields_of_one (c ∷ cases) (inl p) = c.form.fields p
fields_of_one (c ∷ cases) (inr s) = fields_of_one cases s

-- the parts have a spelling in the format of their case
abbrev pub OneFits : {A : Type 0} (cases : List (Case A)) → OneOf cases → Type 0
OneFits [] s = ⊥
OneFits (c ∷ cases) (inl p) = c.form.Fits p
OneFits (c ∷ cases) (inr s) = OneFits cases s

-- the case at this place, read
abbrev pub read_one : {A : Type 0} → List (Case A) → ℕ → List ℕ → Result (A × List ℕ) ℕ
read_one [] n bytes = Err (length bytes)
read_one (c ∷ cases) zero bytes = c.form.read bytes >>= λ x. Ok (c.make x.0, x.1)
read_one (c ∷ cases) (suc n) bytes = read_one cases n bytes

-- A value of one of several cases: the code of the case in one byte, that of the first being `low`, and its parts.
abbrev pub choice : {A : Type 0} → ℕ → (cases : List (Case A)) → (A → OneOf cases) → Format A
choice low cases parts = record {
  spell = λ a. (low + place cases (parts a)) ∷ spell_one cases (parts a);
  fields = λ a. ((low + place cases (parts a)) ∷ []) ∷ fields_of_one cases (parts a);
  Fits = λ a. OneFits cases (parts a);
  read = λ bytes. one_of bytes (cut_byte low (low + length cases - 1) bytes) >>= λ x. read_one cases (x.0 - low) x.1;
}
