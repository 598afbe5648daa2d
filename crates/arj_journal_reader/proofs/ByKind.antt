-- Values of several kinds, told apart by their first words.
use Rattle.std.proofs.Common.{◌≡◌, ◌≢◌, ℕ, List, ◌∷◌, ◌++◌, false, Ok, Err, sym, ◌∙◌, ap, subst}
use Rattle.std.specs.Prelude.{Result, ⊤, ◌==◌}
use Rattle.std.proofs.lemmas.Bool.{or_from}
use Rattle.std.proofs.lemmas.List.Folds.{list_any-append}
use Rattle.arj_journal_reader.specs.declared.fault.LineFault.{LineFault}
use Rattle.arj_journal_reader.specs.declared.fault.LineFault.TheVariants.{NotALine, Memory}
use Rattle.arj_text.specs.Fields.{has_byte, has_space}
use Rattle.arj_journal_reader.specs.Form.{Form, ◌▸◌, kept, Kinds, IsOfKind}
use Rattle.arj_journal_reader.specs.Reading.{IsTaken}
use Rattle.arj_text.proofs.Texts.{cut_once, no_cut}

-- Values in form with one text are one value.
abbrev pub Once : {A : Type 0} → (A → Type 0) → (A → List ℕ) → Type 0
Once {A} InForm text = (v w : A) → InForm v → InForm w → text v ≡ text w → v ≡ w

abbrev pub OnceIn : Form → Type 0
OnceIn f = Once f.InForm f.text

-- No text of a value in form has the byte.
abbrev pub Lacks : {A : Type 0} → ℕ → (A → Type 0) → (A → List ℕ) → Type 0
Lacks {A} k InForm text = (v : A) → InForm v → has_byte k (text v) ≡ false

abbrev pub LacksIn : ℕ → Form → Type 0
LacksIn k f = Lacks k f.InForm f.text

-- texts behind one another lack what each lacks
pub lacks_both : (k : ℕ) (xs ys : List ℕ) → has_byte k xs ≡ false → has_byte k ys ≡ false → has_byte k (xs ++ ys) ≡ false
lacks_both k xs ys hx hy = list_any-append (λ b. b == k) xs ys ∙ or_from (has_byte k xs) (has_byte k ys) hx hy

pub lacks_behind : (k c : ℕ) (xs ys : List ℕ) → (c == k) ≡ false → has_byte k xs ≡ false → has_byte k ys ≡ false →
    has_byte k (xs ++ c ∷ ys) ≡ false
lacks_behind k c xs ys other hx hy = lacks_both k xs (c ∷ ys) hx (or_from (c == k) (has_byte k ys) other hy)

pub pair_once : (f g : Form) → OnceIn f → OnceIn g → OnceIn (f ▸ g)
pair_once f g once_f once_g p q hp hq e =
    let cuts = cut_once 32 (f.text p.0) (f.text q.0) (g.text p.1) (g.text q.1) hp.1 hq.1 e in
    let first = once_f p.0 q.0 hp.0 hq.0 cuts.0 in
    let second = once_g p.1 q.1 hp.2 hq.2 cuts.1 in
    λ i. (first i, second i)

pub kept_once : (f : Form) (P : f.Value → Type 0) → OnceIn f → OnceIn (kept f P)
kept_once f P once v w hv hw e = once v w hv.0 hw.0 e

pub pair_lacks : (k : ℕ) (f g : Form) → (32 == k) ≡ false → LacksIn k f → LacksIn k g → LacksIn k (f ▸ g)
pair_lacks k f g other lacks_f lacks_g p h = lacks_behind k 32 (f.text p.0) (g.text p.1) other (lacks_f p.0 h.0) (lacks_g p.1 h.2)

-- A value of several kinds, taken apart.
pub record Seen (ks : Kinds) (w : ks.Whole) : Type 0 where
  pub kind : ks.Kind
  pub value : (ks.form kind).Value
  pub fits : (ks.form kind).InForm value
  pub made : ks.make kind value ≡ w

-- The values in form are those that are made of a kind and a value in form, and are spelled so.
pub record AreOfKinds (ks : Kinds) (InForm : ks.Whole → Type 0) (text : ks.Whole → List ℕ) : Type 0 where
  pub spaceless : (k : ks.Kind) → has_space (ks.word k) ≡ false
  pub apart : (k l : ks.Kind) → ks.word k ≡ ks.word l → k ≡ l
  pub fits : (k : ks.Kind) (v : (ks.form k).Value) → (ks.form k).InForm v → InForm (ks.make k v)
  pub spelled : (k : ks.Kind) (v : (ks.form k).Value) → text (ks.make k v) ≡ ks.word k ++ 32 ∷ (ks.form k).text v
  pub seen : (w : ks.Whole) → InForm w → Seen ks w

-- the text of a value that is taken apart
seen_text : (ks : Kinds) (InForm : ks.Whole → Type 0) (text : ks.Whole → List ℕ) → AreOfKinds ks InForm text →
    (w : ks.Whole) (s : Seen ks w) → text w ≡ ks.word s.kind ++ 32 ∷ (ks.form s.kind).text s.value
seen_text ks InForm text facts w s = ap text (sym s.made) ∙ facts.spelled s.kind s.value

pub kinds_once : (ks : Kinds) (InForm : ks.Whole → Type 0) (text : ks.Whole → List ℕ) → AreOfKinds ks InForm text →
    ((k : ks.Kind) → OnceIn (ks.form k)) → Once InForm text
kinds_once ks InForm text facts each w x fw fx e =
    let s = facts.seen w fw in
    let t = facts.seen x fx in
    let texts = sym (seen_text ks InForm text facts w s) ∙ (e ∙ seen_text ks InForm text facts x t) in
    let cuts = cut_once 32 (ks.word s.kind) (ks.word t.kind) ((ks.form s.kind).text s.value) ((ks.form t.kind).text t.value) (facts.spaceless s.kind) (facts.spaceless t.kind) texts in
    let same : s.kind ≡ t.kind = facts.apart s.kind t.kind cuts.0 in
    let here = λ (v : (ks.form s.kind).Value) (fits : (ks.form s.kind).InForm v) (f : (ks.form s.kind).text s.value ≡ (ks.form s.kind).text v). ap (ks.make s.kind) (each s.kind s.value v s.fits fits f) in
    let there = subst (λ l. (v : (ks.form l).Value) → (ks.form l).InForm v → (ks.form s.kind).text s.value ≡ (ks.form l).text v →
    ks.make s.kind s.value ≡ ks.make l v) same here in
    sym s.made ∙ (there t.value t.fits cuts.1 ∙ t.made)

pub kinds_lack : (c : ℕ) (ks : Kinds) (InForm : ks.Whole → Type 0) (text : ks.Whole → List ℕ) → AreOfKinds ks InForm text →
    (32 == c) ≡ false → ((k : ks.Kind) → has_byte c (ks.word k) ≡ false) → ((k : ks.Kind) → LacksIn c (ks.form k)) → Lacks c InForm text
kinds_lack c ks InForm text facts other words each w fw =
    let s = facts.seen w fw in
    ap (has_byte c) (seen_text ks InForm text facts w s) ∙ lacks_behind c 32 (ks.word s.kind) ((ks.form s.kind).text s.value) other (words s.kind) (each s.kind s.value s.fits)

-- What is read behind the word of its kind is what was to be read.
pub kind_read : (ks : Kinds) (InForm : ks.Whole → Type 0) (text : ks.Whole → List ℕ) → AreOfKinds ks InForm text →
    (bytes first fields : List ℕ) (k : ks.Kind) (r : Result ks.Whole LineFault) → has_space first ≡ false → bytes ≡ first ++ 32 ∷ fields →
    first ≡ ks.word k → IsOfKind ks k fields r → IsTaken InForm text bytes r
kind_read ks InForm text facts bytes first fields k (Ok w) spaceless parts here h =
    let v = h.0 in
    let joined : first ++ 32 ∷ fields ≡ ks.word k ++ 32 ∷ (ks.form k).text v = λ i. here i ++ 32 ∷ h.2 i in
    (subst InForm (sym h.3) (facts.fits k v h.1), parts ∙ (joined ∙ (sym (facts.spelled k v) ∙ ap text (sym h.3))))
kind_read ks InForm text facts bytes first fields k (Err NotALine) spaceless parts here h =
    λ w fw e. other w (facts.seen w fw) e
  where
    other : (w : ks.Whole) → Seen ks w → bytes ≢ text w
    other w s e =
        let cuts = cut_once 32 first (ks.word s.kind) fields ((ks.form s.kind).text s.value) spaceless (facts.spaceless s.kind) (sym parts ∙ (e ∙ seen_text ks InForm text facts w s)) in
        let same : k ≡ s.kind = facts.apart k s.kind (sym here ∙ cuts.0) in
        subst (λ l. (v : (ks.form l).Value) → (ks.form l).InForm v → fields ≢ (ks.form l).text v) same h s.value s.fits cuts.1
kind_read ks InForm text facts bytes first fields k (Err Memory) spaceless parts here h = tt

-- Where the first word is that of no kind, there is nothing.
pub no_kind : (ks : Kinds) (InForm : ks.Whole → Type 0) (text : ks.Whole → List ℕ) → AreOfKinds ks InForm text →
    (bytes first fields : List ℕ) (y : LineFault) → has_space first ≡ false → bytes ≡ first ++ 32 ∷ fields →
    IsTaken (λ k. ⊤) ks.word first (Err y) → IsTaken InForm text bytes (Err y)
no_kind ks InForm text facts bytes first fields NotALine spaceless parts none =
    λ w fw e.
    let s = facts.seen w fw in
    none s.kind tt (cut_once 32 first (ks.word s.kind) fields ((ks.form s.kind).text s.value) spaceless (facts.spaceless s.kind) (sym parts ∙ (e ∙ seen_text ks InForm text facts w s))).0
no_kind ks InForm text facts bytes first fields Memory spaceless parts none = tt

-- Where there is no space, there is nothing.
pub one_word : (ks : Kinds) (InForm : ks.Whole → Type 0) (text : ks.Whole → List ℕ) → AreOfKinds ks InForm text → (bytes : List ℕ) →
    has_space bytes ≡ false → (w : ks.Whole) → InForm w → bytes ≢ text w
one_word ks InForm text facts bytes spaceless w fw e =
    let s = facts.seen w fw in
    no_cut 32 bytes (ks.word s.kind) ((ks.form s.kind).text s.value) spaceless (e ∙ seen_text ks InForm text facts w s)
