-- The paths of a journal whose lines are right: how they are made up, and that they stay.
use Rattle.arj_law_parts.proofs.Words
use Words.{◌≡◌, ◌⊎◌, ℕ, List, [], ◌∷◌, ◌++◌, Bool, true, false, cond, Option, Some, None, refl, sym, ◌∙◌, ap, subst, inl, inr}
use Words.{AllByRecursion, bytes_eq, bytes_eq-Decides, last_uid, Body, Kind, Line, In, is_serial}
use Rattle.arj_law_serial.proofs.Terms
use Terms.{Act, act_in, behind_first, chain_in, path, path_in, top_in, uids, upwards, Book, book_from, is_top, turned}
use Terms.{AreDistinct, AreFormed, AreRight, Right, path_old}
use Terms.body
use Terms.kind
use Rattle.arj_law_runs.proofs.journal.{Books.never, Likes.some_is}
use Rattle.arj_law_runs.specs.journal.Right.{IsBelow}

-- ---- the top of a path and what is below it

-- a path that has a top keeps it when it grows, and what comes is below it
pub grown_top : (p : List Act) (a t : Act) → top_in p ≡ Some t → top_in (p ++ a ∷ []) ≡ Some t
grown_top [] a t e = absurd (cc e)
grown_top (r ∷ []) a t e = by (is_serial r.kind) e
  where
    by : (s : Bool) → cond s None (Some r) ≡ Some t → cond s (Some a) (Some r) ≡ Some t
    by true f = absurd (cc f)
    by false f = f
grown_top (r ∷ b ∷ rest) a t e = e

pub grown_chain : (p : List Act) (a t : Act) → top_in p ≡ Some t → chain_in (p ++ a ∷ []) ≡ chain_in p ++ a ∷ []
grown_chain [] a t e = absurd (cc e)
grown_chain (r ∷ []) a t e = by (is_serial r.kind) e
  where
    by : (s : Bool) → cond s None (Some r) ≡ Some t → cond s (behind_first (a ∷ [])) (a ∷ []) ≡ cond s (behind_first []) [] ++ a ∷ []
    by true f = absurd (cc f)
    by false f = refl
grown_chain (r ∷ b ∷ rest) a t e = by (is_serial r.kind)
  where
    by : (s : Bool) → cond s (rest ++ a ∷ []) (b ∷ (rest ++ a ∷ [])) ≡ cond s rest (b ∷ rest) ++ a ∷ []
    by true = refl
    by false = refl

-- a path that ends with an action that isn't serializing has a top
pub has_top : (before : List Act) (a : Act) → is_serial a.kind ≡ false → (t : Act) × (top_in (before ++ a ∷ []) ≡ Some t)
has_top [] a e = (a, ap (λ s. cond s None (Some a)) e)
has_top (r ∷ []) a e = by (is_serial r.kind)
  where
    by : (s : Bool) → (t : Act) × (cond s (Some a) (Some r) ≡ Some t)
    by true = (a, refl)
    by false = (r, refl)
has_top (r ∷ b ∷ rest) a e = by (is_serial r.kind)
  where
    by : (s : Bool) → (t : Act) × (cond s (Some b) (Some r) ≡ Some t)
    by true = (b, refl)
    by false = (r, refl)

-- what isn't serializing is the top, or below it
pub parts : (p : List Act) (t x : Act) → top_in p ≡ Some t → In x p → is_serial x.kind ≡ false → (t ≡ x) ⊎ In x (chain_in p)
parts [] t x e i plain = absurd i
parts (r ∷ []) t x e (inl is) plain = by (is_serial r.kind) refl e
  where
    by : (s : Bool) → is_serial r.kind ≡ s → cond s None (Some r) ≡ Some t → (t ≡ x) ⊎ In x (chain_in (r ∷ []))
    by true same f = absurd (cc f)
    by false same f = inl (sym (some_is r t f) ∙ is)
parts (r ∷ []) t x e (inr i) plain = absurd i
parts (r ∷ b ∷ rest) t x e i plain = by (is_serial r.kind) refl e i
  where
    by : (s : Bool) → is_serial r.kind ≡ s → cond s (Some b) (Some r) ≡ Some t → In x (r ∷ b ∷ rest) →
        (t ≡ x) ⊎ In x (cond s rest (b ∷ rest))
    by true same f (inl is) = never same (ap (λ (y : Act). is_serial y.kind) is ∙ plain)
    by true same f (inr (inl is)) = inl (sym (some_is b t f) ∙ is)
    by true same f (inr (inr j)) = inr j
    by false same f (inl is) = inl (sym (some_is r t f) ∙ is)
    by false same f (inr j) = inr j

-- the top is on its path, and so is what is below it
pub top_on : (p : List Act) (t : Act) → top_in p ≡ Some t → In t p
top_on [] t e = absurd (cc e)
top_on (r ∷ []) t e = by (is_serial r.kind) e
  where
    by : (s : Bool) → cond s None (Some r) ≡ Some t → In t (r ∷ [])
    by true f = absurd (cc f)
    by false f = inl (some_is r t f)
top_on (r ∷ b ∷ rest) t e = by (is_serial r.kind) e
  where
    by : (s : Bool) → cond s (Some b) (Some r) ≡ Some t → In t (r ∷ b ∷ rest)
    by true f = inr (inl (some_is b t f))
    by false f = inl (some_is r t f)

pub chain_on : (p : List Act) (x : Act) → In x (chain_in p) → In x p
chain_on [] x i = absurd i
chain_on (r ∷ rest) x i = by (is_serial r.kind) i
  where
    tail : (xs : List Act) → In x (behind_first xs) → In x xs
    tail [] j = absurd j
    tail (y ∷ ys) j = inr j

    by : (s : Bool) → In x (cond s (behind_first rest) rest) → In x (r ∷ rest)
    by true j = inr (tail rest j)
    by false j = inr j

-- ---- kinds along a path

-- The top is a top, what is below it is nested.
pub record IsShaped (p : List Act) : Type 0 where
  pub tops : (t : Act) → top_in p ≡ Some t → is_top t.kind ≡ true
  pub below : AllByRecursion (λ (a : Act). a.kind ≡ kind.Nested) (chain_in p)

-- the path of a label that is found: it ends with the action, and is that alone where it is serializing
pub record Ends (p : List Act) (s : Act) : Type 0 where
  pub before : List Act
  pub are : p ≡ before ++ s ∷ []
  pub alone : is_serial s.kind ≡ true → p ≡ s ∷ []

all_more : (P : Act → Type 0) (xs : List Act) (a : Act) → AllByRecursion P xs → P a → AllByRecursion P (xs ++ a ∷ [])
all_more P [] a all new = (new, tt)
all_more P (x ∷ xs) a all new = (all.0, all_more P xs a all.1 new)

-- a root's path
root_shaped : (a : Act) → is_top a.kind ≡ true → IsShaped (a ∷ [])
root_shaped a top = by a.kind refl top
  where
    by : (k : Kind) → a.kind ≡ k → is_top k ≡ true → IsShaped (a ∷ [])
    by kind.Nested same e = absurd (cc e)
    by kind.Serial same e = absurd (cc e)
    by kind.Top same e = record {
      tops = λ t is. ap (λ (y : Act). is_top y.kind) (sym (some_is a t (sym (ap (λ k. cond (is_serial k) None (Some a)) same) ∙ is))) ∙ top;
      below = subst (λ k. AllByRecursion (λ (y : Act). y.kind ≡ kind.Nested) (cond (is_serial k) [] [])) (sym same) tt;
    }
    by kind.Independent same e = record {
      tops = λ t is. ap (λ (y : Act). is_top y.kind) (sym (some_is a t (sym (ap (λ k. cond (is_serial k) None (Some a)) same) ∙ is))) ∙ top;
      below = subst (λ k. AllByRecursion (λ (y : Act). y.kind ≡ kind.Nested) (cond (is_serial k) [] [])) (sym same) tt;
    }
    by kind.Constituent same e = record {
      tops = λ t is. ap (λ (y : Act). is_top y.kind) (sym (some_is a t (sym (ap (λ k. cond (is_serial k) None (Some a)) same) ∙ is))) ∙ top;
      below = subst (λ k. AllByRecursion (λ (y : Act). y.kind ≡ kind.Nested) (cond (is_serial k) [] [])) (sym same) tt;
    }

serial_shaped : (a : Act) → is_serial a.kind ≡ true → IsShaped (a ∷ [])
serial_shaped a serial = record {
  tops = λ t is. let no : ◌≡◌ {A = Option Act} None (Some t) = sym (ap (λ s. cond s None (Some a)) serial) ∙ is in absurd (cc no);
  below = subst (λ s. AllByRecursion (λ (y : Act). y.kind ≡ kind.Nested) (cond s [] [])) (sym serial) tt;
}

-- a constituent's path
constituent_shaped : (s a : Act) → is_serial s.kind ≡ true → is_top a.kind ≡ true → IsShaped (s ∷ a ∷ [])
constituent_shaped s a serial top = record {
  tops = λ t is. ap (λ (y : Act). is_top y.kind) (sym (some_is a t (sym (ap (λ b. cond b (Some a) (Some s)) serial) ∙ is))) ∙ top;
  below = subst (λ b. AllByRecursion (λ (y : Act). y.kind ≡ kind.Nested) (cond b [] (a ∷ []))) (sym serial) tt;
}

-- a nested action's path
nested_shaped : (p : List Act) (s a : Act) → IsShaped p → Ends p s → is_serial s.kind ≡ false → a.kind ≡ kind.Nested →
    IsShaped (p ++ a ∷ [])
nested_shaped p s a shape ends plain nested =
    let t = has_top ends.before s plain in
    let top : top_in p ≡ Some t.0 = ap top_in ends.are ∙ t.1 in
    record {
      tops = λ u is. shape.tops u (top ∙ sym (grown_top p a t.0 top) ∙ is);
      below = subst (λ xs. AllByRecursion (λ (y : Act). y.kind ≡ kind.Nested) xs) (sym (grown_chain p a t.0 top))
          (all_more (λ (y : Act). y.kind ≡ kind.Nested) (chain_in p) a shape.below nested);
    }

-- both, of a label
abbrev pub IsWell : List Act → List ℕ → Type 0
IsWell acts l = IsShaped (path acts l) × ((s : Act) → act_in acts l ≡ Some s → Ends (path acts l) s)

pub well : (acts : List Act) → AreFormed acts → (l : List ℕ) → IsWell acts l
well [] formed l = (record { tops = λ t is. absurd (cc is); below = tt }, λ s is. absurd (cc is))
well (a ∷ older) formed l = by (bytes_eq a.label l) (well older formed.1)
  where
    new : (k : Kind) (parent : Option (List ℕ)) → a.kind ≡ k → IsBelow older k parent → ((m : List ℕ) → IsWell older m) →
        IsShaped (upwards parent k (path older) ++ a ∷ []) × (is_serial k ≡ true → upwards parent k (path older) ++ a ∷ [] ≡ a ∷ [])
    new kind.Top None same b ih = (root_shaped a (ap is_top same), λ e. absurd (cc e))
    new kind.Top (Some q) same b ih = absurd b
    new kind.Serial None same b ih = (serial_shaped a (ap is_serial same), λ e. refl)
    new kind.Serial (Some q) same b ih = absurd b
    new kind.Independent None same b ih = absurd b
    new kind.Independent (Some q) same b ih = (root_shaped a (ap is_top same), λ e. absurd (cc e))
    new kind.Nested None same b ih = absurd b
    new kind.Nested (Some q) same b ih = let w = ih q in (nested_shaped (path older q) b.0 a w.0 (w.1 b.0 b.1) b.2 same, λ e. absurd (cc e))
    new kind.Constituent None same b ih = absurd b
    new kind.Constituent (Some q) same b ih =
        let w = ih q in
        let ends = w.1 b.0 b.1 in
        (subst (λ us. IsShaped (us ++ a ∷ [])) (sym (ends.alone b.2)) (constituent_shaped b.0 a b.2 (ap is_top same)), λ e. absurd (cc e))

    by : (t : Bool) → ((m : List ℕ) → IsWell older m) → IsShaped (cond t (path_in older a) (path older l))
        × ((s : Act) → cond t (Some a) (act_in older l) ≡ Some s → Ends (cond t (path_in older a) (path older l)) s)
    by true ih = let n = new a.kind a.parent refl formed.0 ih in (
      n.0,
      λ s is. let same = some_is a s is in record {
        before = upwards a.parent a.kind (path older);
        are = ap (λ x. upwards a.parent a.kind (path older) ++ x ∷ []) same;
        alone = λ serial. n.1 (ap (λ (y : Act). is_serial y.kind) same ∙ serial) ∙ ap (λ x. x ∷ []) same;
      },
    )
    by false ih = ih l

-- who began is found by its label
pub found : (acts : List Act) → AreDistinct acts → (a : Act) → In a acts → act_in acts a.label ≡ Some a
found [] apart a i = absurd i
found (x ∷ acts) apart a (inl same) = ap (λ b. cond b (Some x) (act_in acts a.label))
    (ap (λ (y : Act). bytes_eq y.label a.label) same ∙ (bytes_eq-Decides a.label a.label).1 refl) ∙ ap Some same
found (x ∷ acts) apart a (inr i) = by (bytes_eq x.label a.label) refl (found acts apart.3 a i)
  where
    by : (b : Bool) → bytes_eq x.label a.label ≡ b → act_in acts a.label ≡ Some a → cond b (Some x) (act_in acts a.label) ≡ Some a
    by true same ih = let no : ◌≡◌ {A = Option Act} None (Some a) = sym apart.1
        ∙ ap (act_in acts) ((bytes_eq-Decides x.label a.label).0 same) ∙ ih in absurd (cc no)
    by false other ih = ih

last_of : (before : List Act) (a : Act) → last_uid (uids (before ++ a ∷ [])) ≡ a.uid
last_of [] a = refl
last_of (b ∷ []) a = refl
last_of (b ∷ c ∷ rest) a = last_of (c ∷ rest) a

in_end : (before : List Act) (a : Act) → In a (before ++ a ∷ [])
in_end [] a = inl refl
in_end (b ∷ rest) a = inr (in_end rest a)

-- an action's own path ends with it
pub own_last : (acts : List Act) → AreDistinct acts → AreFormed acts → (a : Act) → In a acts → last_uid (uids (path acts a.label)) ≡ a.uid
own_last acts apart formed a i = let e = (well acts formed a.label).1 a (found acts apart a i) in
    ap (λ p. last_uid (uids p)) e.are ∙ last_of e.before a

pub own_there : (acts : List Act) → AreDistinct acts → AreFormed acts → (a : Act) → In a acts → In a (path acts a.label)
own_there acts apart formed a i = let e = (well acts formed a.label).1 a (found acts apart a i) in
    subst (In a) (sym e.are) (in_end e.before a)

-- the path of one that isn't serializing has a top
pub own_top : (acts : List Act) → AreDistinct acts → AreFormed acts → (a : Act) → In a acts → is_serial a.kind ≡ false →
    (t : Act) × (top_in (path acts a.label) ≡ Some t)
own_top acts apart formed a i plain = let e = (well acts formed a.label).1 a (found acts apart a i) in let t = has_top e.before a plain in
    (t.0, ap top_in e.are ∙ t.1)

-- ---- later lines

-- paths stay
pub paths_stay : (B : Book) (ls : List Line) (a : Act) → AreRight B ls → In a B.acts →
    (path (let V = book_from B ls in V.acts) a.label ≡ path B.acts a.label) × In a (let V = book_from B ls in V.acts)
paths_stay B [] a right i = (refl, i)
paths_stay B (l ∷ ls) a right i = let s = one l.body right.0 in let r = paths_stay (turned B l.body) ls a right.1 s.1 in (r.0 ∙ s.0, r.1)
  where
    one : (b : Body) → Right B b → (path (let V = turned B b in V.acts) a.label ≡ path B.acts a.label) × In a (let V = turned B b in V.acts)
    one (body.Began m h w p) r = (path_old _ B.acts a r.0 i, inr i)
    one (body.Committing m) r = (refl, i)
    one (body.Committed m) r = (refl, i)
    one (body.Aborted m c) r = (refl, i)
    one (body.Ended m) r = (refl, i)
    one (body.Recovered n w) r = (refl, i)
    one (body.Ok m x o q) r = (refl, i)
    one (body.Includes m x n) r = (refl, i)
    one b r = (refl, i)
