-- The law of a value of one of several cases.
use Rattle.std.proofs.Common.{◌≡◌, ℕ, ◌+◌, ◌-◌, ◌<◌, zero, suc, List, [], ◌∷◌, length, Result, Ok, Err, sym, ap, subst, refl, ◌∙◌, arith}
use Rattle.std.proofs.Common.{inl, inr}
use Rattle.arj_msg.specs.Format.{Format, Case, OneOf, made_by, place, spell_one, fields_of_one, OneFits, read_one, choice, byte, chain}
use Rattle.arj_msg.specs.Format.{one_of, cut_byte, ◌>>=◌}
use Rattle.arj_msg.proofs.Laws.{Lawful, image_lawful, chain_lawful, made}
use Rattle.arj_msg.proofs.FieldLaws.{byte_lawful, between_le, le_between}

-- each case, with its parts
abbrev pub EachCase : {A : Type 0} (cases : List (Case A)) → (OneOf cases → Type 0) → Type 0
EachCase [] P = Unit {0}
EachCase (c ∷ cases) P = ((p : c.Parts) → P (inl p)) × EachCase cases (λ s. P (inr s))

pub by_case : {A : Type 0} (cases : List (Case A)) (P : OneOf cases → Type 0) → EachCase cases P → (s : OneOf cases) → P s
by_case [] P each s = absurd s
by_case (c ∷ cases) P each (inl p) = each.0 p
by_case (c ∷ cases) P each (inr s) = by_case cases (λ s. P (inr s)) each.1 s

abbrev pub AllLawful : {A : Type 0} → List (Case A) → Type 0
AllLawful [] = Unit {0}
AllLawful (c ∷ cases) = Lawful c.form × AllLawful cases

abbrev read_place : {A : Type 0} (cases : List (Case A)) → ℕ → List ℕ → Result (OneOf cases × List ℕ) ℕ
read_place [] n bytes = Err (length bytes)
read_place (c ∷ cases) zero bytes = c.form.read bytes >>= λ x. Ok (inl x.0, x.1)
read_place (c ∷ cases) (suc n) bytes = read_place cases n bytes >>= λ x. Ok (inr x.0, x.1)

-- the parts of the case at one place
abbrev at_place : {A : Type 0} (cases : List (Case A)) → ℕ → Format (OneOf cases)
at_place cases n =
    record {
      spell = spell_one cases;
      fields = fields_of_one cases;
      Fits = λ s. (place cases s ≡ n) × OneFits cases s;
      read =
          read_place cases n;
    }

first_back : {A : Type 0} (c : Case A) (cases : List (Case A)) (s : OneOf (c ∷ cases)) → (at_place (c ∷ cases) 0).Fits s →
    (p : c.Parts) × c.form.Fits p × (inl p ≡ s)
first_back c cases (inl p) fits = (p, fits.1, refl)
first_back c cases (inr s) fits = absurd (omega (arith, fits.0))

later_back : {A : Type 0} (c : Case A) (cases : List (Case A)) (n : ℕ) (s : OneOf (c ∷ cases)) → (at_place (c ∷ cases) (suc n)).Fits s →
    (t : OneOf cases) × (at_place cases n).Fits t × (inr t ≡ s)
later_back c cases n (inl p) fits = absurd (omega (arith, fits.0))
later_back c cases n (inr s) fits = (s, (omega (arith, fits.0), fits.1), refl)

at_lawful : {A : Type 0} (cases : List (Case A)) → AllLawful cases → (n : ℕ) → n < length cases → Lawful (at_place cases n)
at_lawful [] all n less = absurd (omega (arith, less))
at_lawful (c ∷ cases) all zero less =
    image_lawful inl c.form (at_place (c ∷ cases) 0) all.0 (λ bytes. refl) (λ p fits. ((refl, fits), refl, refl)) (first_back c cases)
at_lawful (c ∷ cases) all (suc n) less =
    image_lawful inr (at_place cases n) (at_place (c ∷ cases) (suc n)) (at_lawful cases all.1 n (omega (arith, less))) (λ bytes. refl) (λ s fits. ((ap suc fits.0, fits.1), refl, refl)) (later_back c cases n)

place_less : {A : Type 0} (cases : List (Case A)) (s : OneOf cases) → place cases s < length cases
place_less [] s = absurd s
place_less (c ∷ cases) (inl p) = omega arith
place_less (c ∷ cases) (inr s) = omega (arith, place_less cases s)

read_made : {A : Type 0} (cases : List (Case A)) (n : ℕ) (bytes : List ℕ) →
    read_one cases n bytes ≡ made (made_by cases) (read_place cases n bytes)
read_made [] n bytes = refl
read_made (c ∷ cases) zero bytes = by (c.form.read bytes)
  where
    by : (r : Result (c.Parts × List ℕ) ℕ) → (r >>= λ x. Ok (c.make x.0, x.1)) ≡ made (made_by (c ∷ cases)) (r >>= λ x. Ok (inl x.0, x.1))
    by (Ok x) = refl
    by (Err left) = refl
read_made (c ∷ cases) (suc n) bytes = read_made cases n bytes ∙ by (read_place cases n bytes)
  where
    by : (r : Result (OneOf cases × List ℕ) ℕ) → made (made_by cases) r ≡ made (made_by (c ∷ cases)) (r >>= λ x. Ok (inr x.0, x.1))
    by (Ok x) = refl
    by (Err left) = refl

module _ {A : Type 0} (low : ℕ) (cases : List (Case A)) (parts : A →
    OneOf cases) (some : 0 < length cases) (all : AllLawful cases) (there : (s : OneOf cases) → parts (made_by cases s) ≡ s)
    (back : (a : A) → made_by cases (parts a) ≡ a) where
  abbrev whole : (code : ℕ) × OneOf cases → A
  whole p = made_by cases p.1

  unfoldable coded : Format ((code : ℕ) × OneOf cases)
  coded = chain (byte low (low + length cases - 1)) (λ code. at_place cases (code - low))

  coded_lawful : Lawful coded
  unfolding coded byte
  coded_lawful =
      chain_lawful (byte low (low + length cases - 1)) (λ code. at_place cases (code - low)) (byte_lawful low (low + length cases - 1) (omega (arith, some)))
      (λ code fits. let within =
      between_le low (low + length cases - 1) code fits in at_lawful cases all (code - low) (omega (arith, within.0, within.1, some)))

  choice_reads : (bytes : List ℕ) → (choice low cases parts).read bytes ≡ made whole (coded.read bytes)
  unfolding coded byte
  choice_reads bytes = by (one_of bytes (cut_byte low (low + length cases - 1) bytes))
    where
      by_second : (code : ℕ) (r : Result (OneOf cases × List ℕ) ℕ) → made (made_by cases) r ≡ made whole (r >>= λ y. Ok ((code, y.0), y.1))
      by_second code (Ok y) = refl
      by_second code (Err left) = refl

      by : (r : Result (ℕ × List ℕ) ℕ) →
          (r >>= λ x. read_one cases (x.0 - low) x.1) ≡ made whole (r >>= λ x. read_place cases (x.0 - low) x.1 >>= λ y. Ok ((x.0, y.0), y.1))
      by (Ok x) = read_made cases (x.0 - low) x.1 ∙ by_second x.0 (read_place cases (x.0 - low) x.1)
      by (Err left) = refl

  choice_forth : (p : (code : ℕ) × OneOf cases) → coded.Fits p
      → (choice low cases parts).Fits (made_by cases p.1) × ((choice low cases parts).spell (made_by cases p.1) ≡ coded.spell p) × ((choice low cases parts).fields (made_by cases p.1) ≡ coded.fields p)
  unfolding coded byte
  choice_forth p fits =
      let within = between_le low (low + length cases - 1) p.0 fits.0 in
      let code : low + place cases p.1 ≡ p.0 = omega (arith, within.0, fits.1.0) in (
        subst (OneFits cases) (sym (there p.1)) fits.1.1,
        ap (λ s. (low + place cases s) ∷ spell_one cases s) (there p.1) ∙ ap (λ n. n ∷ spell_one cases p.1) code,
        ap (λ s. ((low + place cases s) ∷ []) ∷ fields_of_one cases s) (there p.1) ∙ ap (λ n. (n ∷ []) ∷ fields_of_one cases p.1) code,
      )

  choice_back : (a : A) → (choice low cases parts).Fits a → (p : (code : ℕ) × OneOf cases) × coded.Fits p × (made_by cases p.1 ≡ a)
  unfolding coded byte
  choice_back a fits =
      let less = place_less cases (parts a) in
      ((low + place cases (parts a), parts a), (le_between low (low + length cases - 1) (low + place cases (parts a)) (omega arith) (omega (arith, less)), (omega arith, fits)), back a)

  pub choice_lawful : Lawful (choice low cases parts)
  choice_lawful = image_lawful whole coded (choice low cases parts) coded_lawful choice_reads choice_forth choice_back
