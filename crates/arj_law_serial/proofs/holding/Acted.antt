-- Journals by whose lines actions began, and the actions of a longer one.
use Rattle.arj_law_parts.proofs.Words
use Words.{◌≡◌, ◌∙◌, ◌++◌, ℕ, zero, suc, List, [], ◌∷◌, Option, Some, None, length, take, refl, sym, ap, subst, inl, inr, append_assoc}
use Words.{Contains, In, in_from, in_to, Line, uids_of, Seen}
use Rattle.arj_law_serial.proofs.Terms.{Act, Begun, acts, acts_from, begun_of, numbered, Action, AreAlike, IsAlikeOf, its_acts}
use Rattle.arj_law_serial.proofs.holding.Lines.{acts_on}

-- some action began by these lines
abbrev pub HasActs : List Line → Type 0
HasActs ls = acts ls ≡ [] → ⊥

-- lines only add actions
more_acts : (us : List Act) (ls : List Line) → (late : List Act) × (acts_from us ls ≡ late ++ us)
more_acts us [] = ([], refl)
more_acts us (l ∷ ls) = by (begun_of l.body) (λ vs. more_acts vs ls)
  where
    by : (o : Option Begun) → ((vs : List Act) → (late : List Act) × (acts_from vs ls ≡ late ++ vs)) →
        (late : List Act) × (acts_from (numbered us o) ls ≡ late ++ us)
    by None rest = rest us
    by (Some b) rest =
        let a : Act = record { id = length us; label = b.label; kind = b.kind; uid = b.uid; parent = b.parent } in
        let r = rest (a ∷ us) in
        (r.0 ++ a ∷ [], r.1 ∙ sym (append_assoc r.0 (a ∷ []) us))

pub acts_grown : (ls ms : List Line) → (late : List Act) × (acts (ls ++ ms) ≡ late ++ acts ls)
acts_grown ls ms = let r = more_acts (acts ls) ms in (r.0, acts_on ls ms ∙ r.1)

-- where none began none did before
pub none_before : (ls ms : List Line) → acts (ls ++ ms) ≡ [] → acts ls ≡ []
none_before ls ms none = let r = acts_grown ls ms in behind r.0 (acts ls) (sym r.1 ∙ none)
  where
    behind : (xs ys : List Act) → xs ++ ys ≡ [] → ys ≡ []
    behind [] ys is = is
    behind (x ∷ xs) ys is = absurd (cc is)

-- the first lines, and the rest
pub line_parts : (p : ℕ) (ls : List Line) → (rest : List Line) × (ls ≡ take p ls ++ rest)
line_parts zero [] = ([], refl)
line_parts (suc p) [] = ([], refl)
line_parts zero (l ∷ ls) = (l ∷ ls, refl)
line_parts (suc p) (l ∷ ls) = let r = line_parts p ls in (r.0, ap (λ zs. l ∷ zs) r.1)

pub none_taken : (p : ℕ) (ls : List Line) → acts ls ≡ [] → acts (take p ls) ≡ []
none_taken p ls none = let r = line_parts p ls in none_before (take p ls) r.0 (sym (ap acts r.1) ∙ none)

-- ---- actions that nodes have begun

-- one by one they are the same, with more in front
alike_more : (begun more : List Action) (xs late : List Act) → AreAlike begun xs → AreAlike more (late ++ xs) → (a : Action) → In a begun →
    (b : Action) × In b more × (uids_of a.path ≡ uids_of b.path) × (a.kind ≡ b.kind)
alike_more begun [] xs (l ∷ late) one two a i = absurd two
alike_more begun (m ∷ more) xs (l ∷ late) one two a i = let r = alike_more begun more xs late one two.3 a i in (r.0, inr r.1, r.2, r.3)
alike_more begun more xs [] one two a i = same begun more xs one two a i
  where
    same : (begun more : List Action) (xs : List Act) → AreAlike begun xs → AreAlike more xs → (a : Action) → In a begun →
        (b : Action) × In b more × (uids_of a.path ≡ uids_of b.path) × (a.kind ≡ b.kind)
    same [] more xs one two a i = absurd i
    same (c ∷ cs) more [] one two a i = absurd one
    same (c ∷ cs) [] (x ∷ xs) one two a i = absurd two
    same (c ∷ cs) (m ∷ ms) (x ∷ xs) one two a (inl is) = (
      m,
      inl refl,
      ap (λ (z : Action). uids_of z.path) (sym is) ∙ sym one.2 ∙ two.2,
      ap (λ (z : Action). z.kind) (sym is) ∙ sym one.1 ∙ two.1,
    )
    same (c ∷ cs) (m ∷ ms) (x ∷ xs) one two a (inr i) = let r = same cs ms xs one.3 two.3 a i in (r.0, inr r.1, r.2, r.3)

-- they are those of the journal
pub alike_acts : (begun : List Action) (M : Seen) → IsAlikeOf begun M → AreAlike begun (acts M.lines)
alike_acts begun M h = let w = h.2 in subst (AreAlike begun) (its_acts M.lines w.right) h.1

-- each path of these is one of those, of an action of the same kind
abbrev pub AreWider : List Action → List Action → Type 0
AreWider begun more = (a : Action) → Contains begun a →
    (b : Action) × Contains more b × (uids_of a.path ≡ uids_of b.path) × (a.kind ≡ b.kind)

-- so it is behind later lines
pub wider_by : (begun more : List Action) (M N : Seen) (new : List Line) → N.lines ≡ M.lines ++ new → IsAlikeOf begun M → IsAlikeOf more N →
    AreWider begun more
wider_by begun more M N new are one two a i =
    let g = acts_grown M.lines new in
    let r = alike_more begun more (acts M.lines) g.0 (alike_acts begun M one)
    (subst (AreAlike more) (ap acts are ∙ g.1) (alike_acts more N two)) a (in_from a begun i) in
    (r.0, in_to r.0 more r.1, r.2, r.3)

-- and where none began by the journal's lines none did by others of which the same are alike
pub none_alike : (begun : List Action) (xs ys : List Act) → AreAlike begun xs → AreAlike begun ys → xs ≡ [] → ys ≡ []
none_alike [] xs [] one two none = refl
none_alike [] xs (y ∷ ys) one two none = absurd two
none_alike (b ∷ begun) [] ys one two none = absurd one
none_alike (b ∷ begun) (x ∷ xs) ys one two none = absurd (cc none)
