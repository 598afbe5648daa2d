-- What is known of the pieces of a line: no two values in form have one text, and where their texts end.
use Rattle.std.proofs.Common.{◌≡◌, ◌≢◌, ℕ, List, true, false, refl, sym, ◌∙◌, ap, ⊎_elim, ◌⊎◌}
use Rattle.std.specs.Prelude.{⊤}
use Rattle.std.specs.Fmt.{decimal}
use Rattle.std.specs.List.{list_all}
use Rattle.arj_text.specs.Fields.{NumberInForm, has_byte, has_space}
use Rattle.arj_journal_reader.specs.Form.{Form, ◌▸◌, kept, Kinds}
use Rattle.arj_text.specs.Label.{is_letter}
use Rattle.arj_journal_reader.specs.Spellings.{IsKnown}
use Rattle.arj_journal_reader.proofs.ByKind.{AreOfKinds, Lacks, LacksIn, Once, OnceIn, kept_once, kinds_lack, kinds_once, one_word}
use Rattle.arj_journal_reader.proofs.ByKind.{pair_lacks, pair_once}
use Rattle.arj_journal_reader.proofs.Leaves.{IsApart, end_apart, known_once, known_passes, letters_lack, number_lacks, number_once}
use Rattle.arj_journal_reader.proofs.Leaves.{space_apart}

-- a piece that is one word
pub record WordFacts (f : Form) : Type 0 where
  pub once : OnceIn f
  pub plain : (k : ℕ) → IsApart k → LacksIn k f

-- a number, in a value that has nothing else
pub numbered : (A : Type 0) (number : A → ℕ) (InForm : A → Type 0) → ((a : A) → InForm a → NumberInForm (number a)) →
    ((a b : A) → number a ≡ number b → a ≡ b) → WordFacts (record { Value = A; InForm = InForm; text = λ a. decimal (number a) })
numbered A number InForm fits only = record {
  once = λ a b ha hb e. only a b (number_once (number a) (number b) (fits a ha) (fits b hb) e);
  plain = λ k apart a h. number_lacks k apart (number a) (fits a h);
}

-- a piece of any kind
pub record PieceFacts (f : Form) : Type 0 where
  pub once : OnceIn f
  pub endless : LacksIn 10 f

pub spaceless : {f : Form} → WordFacts f → (v : f.Value) → f.InForm v → has_space (f.text v) ≡ false
spaceless w v h = w.plain 32 space_apart v h

pub alone : {f : Form} → WordFacts f → PieceFacts f
alone w = record { once = w.once; endless = w.plain 10 end_apart }

pub behind : {f g : Form} → WordFacts f → PieceFacts g → PieceFacts (f ▸ g)
behind {f} {g} w p = record { once = pair_once f g w.once p.once; endless = pair_lacks 10 f g refl (w.plain 10 end_apart) p.endless }

pub narrowed : {f : Form} (P : f.Value → Type 0) → PieceFacts f → PieceFacts (kept f P)
narrowed {f} P p = record { once = kept_once f P p.once; endless = λ v h. p.endless v h.0 }

-- values of a type with these texts
abbrev pub form_of : (A : Type 0) → (A → Type 0) → (A → List ℕ) → Form
form_of A InForm text = record { Value = A; InForm = InForm; text = text }

-- each word is of letters alone
abbrev pub AreLetters : {K : Type 0} → (K → List ℕ) → List K → Type 0
AreLetters word every = list_all (λ k. list_all is_letter (word k)) every ≡ true

word_lacks : {K : Type 0} (word : K → List ℕ) (every : List K) → IsKnown word every → AreLetters word every → (c : ℕ) → IsApart c →
    (k : K) → has_byte c (word k) ≡ false
word_lacks word every known letters c apart k =
    letters_lack c apart.letter (word k) (known_passes word every known (λ j. list_all is_letter (word j)) letters k)

pub known_facts : {K : Type 0} (word : K → List ℕ) (every : List K) → IsKnown word every → AreLetters word every →
    WordFacts (form_of K (λ _. ⊤) word)
known_facts word every known letters = record {
  once = λ j k hj hk e. known_once word every known j k e;
  plain = λ c apart k h. word_lacks word every known letters c apart k;
}

-- Values of several kinds, each with a word of letters alone.
pub record HaveWords (ks : Kinds) (every : List ks.Kind) : Type 0 where
  pub known : IsKnown ks.word every
  pub letters : AreLetters ks.word every

pub spaceless_words : (ks : Kinds) (every : List ks.Kind) → HaveWords ks every → (k : ks.Kind) → has_space (ks.word k) ≡ false
spaceless_words ks every words k = word_lacks ks.word every words.known words.letters 32 space_apart k

pub kinds_facts : (ks : Kinds) (every : List ks.Kind) (InForm : ks.Whole → Type 0) (text : ks.Whole → List ℕ) → HaveWords ks every →
    AreOfKinds ks InForm text → ((k : ks.Kind) → PieceFacts (ks.form k)) → PieceFacts (form_of ks.Whole InForm text)
kinds_facts ks every InForm text words are each = record {
  once = kinds_once ks InForm text are (λ k. (each k).once);
  endless = kinds_lack 10 ks InForm text are refl (word_lacks ks.word every words.known words.letters 10 end_apart) (λ k. (each k).endless);
}

-- Values of a type that are one word: each by a name of its own.
pub record Bares (A : Type 0) : Type 1 where
  pub Bare : Type 0
  pub bare : Bare → A
  pub every : List Bare

-- Values of several kinds, beside some that are one word of letters alone.
pub record AreMixed (ks : Kinds) (Worded InForm : ks.Whole → Type 0) (text : ks.Whole → List ℕ) (bs : Bares ks.Whole) : Type 0 where
  pub are : AreOfKinds ks Worded text
  pub facts : PieceFacts (form_of ks.Whole Worded text)
  pub known : IsKnown (λ b. text (bs.bare b)) bs.every
  pub letters : AreLetters (λ b. text (bs.bare b)) bs.every
  pub either : (w : ks.Whole) → InForm w → ((b : bs.Bare) × (bs.bare b ≡ w)) ⊎ Worded w

bare_other : (ks : Kinds) (Worded InForm : ks.Whole → Type 0) (text : ks.Whole → List ℕ) (bs : Bares ks.Whole) →
    AreMixed ks Worded InForm text bs → (v w : ks.Whole) → (b : bs.Bare) × (bs.bare b ≡ v) → Worded w → text v ≢ text w
bare_other ks Worded InForm text bs mixed v w b h e =
    one_word ks Worded text mixed.are (text (bs.bare b.0)) (word_lacks (λ c. text (bs.bare c)) bs.every mixed.known mixed.letters 32 space_apart b.0) w h (ap text b.1 ∙ e)

bare_once : (ks : Kinds) (Worded InForm : ks.Whole → Type 0) (text : ks.Whole → List ℕ) (bs : Bares ks.Whole) →
    AreMixed ks Worded InForm text bs → (v w : ks.Whole) → (b : bs.Bare) × (bs.bare b ≡ v) → (c : bs.Bare) × (bs.bare c ≡ w) →
    text v ≡ text w → v ≡ w
bare_once ks Worded InForm text bs mixed v w b c e =
    let same = known_once (λ a. text (bs.bare a)) bs.every mixed.known b.0 c.0 (ap text b.1 ∙ (e ∙ sym (ap text c.1))) in
    sym b.1 ∙ (ap bs.bare same ∙ c.1)

pub mixed_facts : (ks : Kinds) (Worded InForm : ks.Whole → Type 0) (text : ks.Whole → List ℕ) (bs : Bares ks.Whole) →
    AreMixed ks Worded InForm text bs → PieceFacts (form_of ks.Whole InForm text)
mixed_facts ks Worded InForm text bs mixed = record { once = once; endless = endless }
  where
    once : Once InForm text
    once v w hv hw e = ⊎_elim
        (λ (b : (b : bs.Bare) × (bs.bare b ≡ v)). ⊎_elim
        (λ (c : (c : bs.Bare) × (bs.bare c ≡ w)). bare_once ks Worded InForm text bs mixed v w b c e)
        (λ (f : Worded w). absurd (bare_other ks Worded InForm text bs mixed v w b f e))
        (mixed.either w hw))
        (λ (f : Worded v). ⊎_elim
        (λ (c : (c : bs.Bare) × (bs.bare c ≡ w)). absurd (bare_other ks Worded InForm text bs mixed w v c f (sym e)))
        (λ (g : Worded w). mixed.facts.once v w f g e)
        (mixed.either w hw))
        (mixed.either v hv)

    endless : Lacks 10 InForm text
    endless v hv = ⊎_elim
        (λ (b : (b : bs.Bare) × (bs.bare b ≡ v)). ap (λ w. has_byte 10 (text w)) (sym b.1) ∙ word_lacks (λ c. text (bs.bare c)) bs.every mixed.known mixed.letters 10 end_apart b.0)
        (λ (f : Worded v). mixed.facts.endless v f)
        (mixed.either v hv)
