-- Bindings and copies by the journal: what one more line makes of them.
use Rattle.arj_law_parts.proofs.Words
use Words.{◌≡◌, ◌⊎◌, ◌∙◌, ◌+◌, ◌==◌, ◌++◌, ℕ, Bool, true, false, cond, List, [], ◌∷◌, length, refl}
use Words.{sym, ap}
use Words.{inl, inr, append-nil, Body, Binding, In, Line, Start}
use Words.{numbered}
use Words.body
use Rattle.arj_law.proofs.Reading.{read-append}
use Rattle.arj_law_parts.specs.moves.Seen.{is_quiet_line}
use Rattle.arj_model.specs.Actions.{Act, Placed, acts_from, put}
use Rattle.arj_model.specs.CauseCopies.{Activation, Naming, activation_of, activations, is_up, naming_of, namings}
use Rattle.arj_model.specs.CauseCopies.{since_from}
use Rattle.arj_model.specs.CauseCopies.{since_up}
use Rattle.arj_model.specs.Refusals.{inc_from, inc_step, incarnation}

-- ---- lines that tell of them

-- the line tells of a binding, of a copy, or that a node is up
abbrev pub tells : Body → Bool
tells (body.Bound x b s) = true
tells (body.Active n x b) = true
tells (body.Up n i) = true
tells b = false

pub quiet_tells : (b : Body) → is_quiet_line b ≡ true → tells b ≡ false
quiet_tells (body.Bound x b s) is = absurd (cc is)
quiet_tells (body.Active n x b) is = absurd (cc is)
quiet_tells (body.Up n i) is = absurd (cc is)
quiet_tells b is = refl

-- the bindings that were made in the present life of naming's node
abbrev pub made : List Line → List (Placed Naming)
made ls = namings (since_up 1 ls)

-- the copies that became active in the present life of a node
abbrev pub copies : ℕ → List Line → List (Placed Activation)
copies n ls = activations (since_up n ls)

-- ---- one more line

since_more : (n : ℕ) (f ls : List Line) (l : Line) → since_from n (f ++ l ∷ []) (ls ++ l ∷ []) ≡
    cond (is_up n l.body) [] (since_from n f ls ++ l ∷ [])
since_more n f [] l = refl
since_more n f (m ∷ ms) l = by (is_up n m.body) (since_more n ms ms l) (since_more n f ms l)
  where
    by : (b : Bool) → since_from n (ms ++ l ∷ []) (ms ++ l ∷ []) ≡ cond (is_up n l.body) [] (since_from n ms ms ++ l ∷ []) →
        since_from n (f ++ l ∷ []) (ms ++ l ∷ []) ≡ cond (is_up n l.body) [] (since_from n f ms ++ l ∷ []) →
        since_from n (cond b (ms ++ l ∷ []) (f ++ l ∷ [])) (ms ++ l ∷ []) ≡ cond (is_up n l.body) []
        (since_from n (cond b ms f) ms ++ l ∷ [])
    by true a b = a
    by false a b = b

naming_same : (xs ys : List Act) (b : Body) → naming_of xs b ≡ naming_of ys b
naming_same xs ys (body.Bound x b n) = refl
naming_same xs ys b = refl

active_same : (xs ys : List Act) (b : Body) → activation_of xs b ≡ activation_of ys b
active_same xs ys (body.Active n x b) = refl
active_same xs ys b = refl

pub namings_more : (ls : List Line) (e : ℕ) (b : Body) → namings (ls ++ numbered e (b ∷ [])) ≡
    namings ls ++ put (0 + length ls) (naming_of [] b) []
namings_more ls e b = read-append naming_of [] 0 ls (numbered e (b ∷ []))
    ∙ ap (λ o. namings ls ++ put (0 + length ls) o []) (naming_same (acts_from [] ls) [] b)

pub copies_more : (ls : List Line) (e : ℕ) (b : Body) → activations (ls ++ numbered e (b ∷ [])) ≡
    activations ls ++ put (0 + length ls) (activation_of [] b) []
copies_more ls e b = read-append activation_of [] 0 ls (numbered e (b ∷ []))
    ∙ ap (λ o. activations ls ++ put (0 + length ls) o []) (active_same (acts_from [] ls) [] b)

pub made_with : (ls : List Line) (e : ℕ) (b : Body) → made (ls ++ numbered e (b ∷ [])) ≡
    cond (is_up 1 b) [] (made ls ++ put (0 + length (since_up 1 ls)) (naming_of [] b) [])
made_with ls e b = ap namings (since_more 1 ls ls (record { event = e; body = b })) ∙ by (is_up 1 b)
  where
    by : (c : Bool) → namings (cond c [] (since_up 1 ls ++ numbered e (b ∷ []))) ≡
        cond c [] (made ls ++ put (0 + length (since_up 1 ls)) (naming_of [] b) [])
    by true = refl
    by false = namings_more (since_up 1 ls) e b

pub copies_with : (n : ℕ) (ls : List Line) (e : ℕ) (b : Body) → copies n (ls ++ numbered e (b ∷ [])) ≡
    cond (is_up n b) [] (copies n ls ++ put (0 + length (since_up n ls)) (activation_of [] b) [])
copies_with n ls e b = ap activations (since_more n ls ls (record { event = e; body = b })) ∙ by (is_up n b)
  where
    by : (c : Bool) → activations (cond c [] (since_up n ls ++ numbered e (b ∷ []))) ≡
        cond c [] (copies n ls ++ put (0 + length (since_up n ls)) (activation_of [] b) [])
    by true = refl
    by false = copies_more (since_up n ls) e b

-- one that tells of none of these leaves them
pub made_still : (ls : List Line) (e : ℕ) (b : Body) → tells b ≡ false → made (ls ++ numbered e (b ∷ [])) ≡ made ls
made_still ls e b is = made_with ls e b ∙ by b is
  where
    by : (b : Body) → tells b ≡ false → cond (is_up 1 b) [] (made ls ++ put (0 + length (since_up 1 ls)) (naming_of [] b) []) ≡ made ls
    by (body.Bound x c s) is = absurd (cc is)
    by (body.Active n x c) is = absurd (cc is)
    by (body.Up n i) is = absurd (cc is)
    by b is = append-nil (made ls)

pub copies_still : (n : ℕ) (ls : List Line) (e : ℕ) (b : Body) → tells b ≡ false → copies n (ls ++ numbered e (b ∷ [])) ≡ copies n ls
copies_still n ls e b is = copies_with n ls e b ∙ by b is
  where
    by : (b : Body) → tells b ≡ false →
        cond (is_up n b) [] (copies n ls ++ put (0 + length (since_up n ls)) (activation_of [] b) []) ≡ copies n ls
    by (body.Bound x c s) is = absurd (cc is)
    by (body.Active m x c) is = absurd (cc is)
    by (body.Up m i) is = absurd (cc is)
    by b is = append-nil (copies n ls)

-- so does one of another node's copy or start
pub made_off : (ls : List Line) (e n : ℕ) (i : ℕ) → (n == 1) ≡ false → made (ls ++ numbered e (body.Up n i ∷ [])) ≡ made ls
made_off ls e n i off = made_with ls e (body.Up n i) ∙ (λ j. cond (off j) [] (made ls ++ [])) ∙ append-nil (made ls)

pub made_active : (ls : List Line) (e n x : ℕ) (b : Binding) → made (ls ++ numbered e (body.Active n x b ∷ [])) ≡ made ls
made_active ls e n x b = made_with ls e (body.Active n x b) ∙ append-nil (made ls)

-- ---- incarnations

inc_more : (j i : ℕ) (ls : List Line) (l : Line) → inc_from j i (ls ++ l ∷ []) ≡ inc_step j l.body (inc_from j i ls)
inc_more j i [] l = refl
inc_more j i (m ∷ ls) l = inc_more j (inc_step j m.body i) ls l

pub inc_with : (st : Start) (j e : ℕ) (ls : List Line) (b : Body) → incarnation st (ls ++ numbered e (b ∷ [])) j ≡
    inc_step j b (incarnation st ls j)
inc_with st j e ls b = inc_more j (st.incs j + 1) ls (record { event = e; body = b })

pub inc_still : (st : Start) (j e : ℕ) (ls : List Line) (b : Body) → tells b ≡ false →
    incarnation st (ls ++ numbered e (b ∷ [])) j ≡ incarnation st ls j
inc_still st j e ls b is = inc_with st j e ls b ∙ by b is
  where
    by : (b : Body) → tells b ≡ false → inc_step j b (incarnation st ls j) ≡ incarnation st ls j
    by (body.Up n i) is = absurd (cc is)
    by b is = refl

-- ---- what stands in the journal

in_front : {A : Type 0} (a : A) (xs ys : List A) → In a xs → In a (xs ++ ys)
in_front a [] ys i = absurd i
in_front a (x ∷ xs) ys (inl is) = inl is
in_front a (x ∷ xs) ys (inr i) = inr (in_front a xs ys i)

in_last : {A : Type 0} (a : A) (xs : List A) → In a (xs ++ a ∷ [])
in_last a [] = inl refl
in_last a (x ∷ xs) = inr (in_last a xs)

in_parts : {A : Type 0} (a b : A) (xs : List A) → In a (xs ++ b ∷ []) → In a xs ⊎ (b ≡ a)
in_parts a b [] (inl is) = inr is
in_parts a b [] (inr i) = absurd i
in_parts a b (x ∷ xs) (inl is) = inl (inl is)
in_parts {A} a b (x ∷ xs) (inr i) = by (in_parts a b xs i)
  where
    by : In a xs ⊎ (b ≡ a) → In a (x ∷ xs) ⊎ (b ≡ a)
    by (inl j) = inl (inr j)
    by (inr is) = inr is

-- naming bound the object so
abbrev pub IsLined : List Line → ℕ → Binding → ℕ → Type 0
IsLined ls x b s = (e : ℕ) × In (record { event = e; body = body.Bound x b s }) ls

pub lined_more : (ls ms : List Line) (x : ℕ) (b : Binding) (s : ℕ) → IsLined ls x b s → IsLined (ls ++ ms) x b s
lined_more ls ms x b s h = (h.0, in_front (record { event = h.0; body = body.Bound x b s }) ls ms h.1)

pub lined_last : (ls : List Line) (e x : ℕ) (b : Binding) (s : ℕ) → IsLined (ls ++ numbered e (body.Bound x b s ∷ [])) x b s
lined_last ls e x b s = (e, in_last (record { event = e; body = body.Bound x b s }) ls)

-- with one more line it was so before, or the line says so
pub lined_parts : (ls : List Line) (e : ℕ) (c : Body) (x : ℕ) (b : Binding) (s : ℕ) → IsLined (ls ++ numbered e (c ∷ [])) x b s →
    IsLined ls x b s ⊎ (c ≡ body.Bound x b s)
lined_parts ls e c x b s h = by (in_parts (record { event = h.0; body = body.Bound x b s }) (record { event = e; body = c }) ls h.1)
  where
    by : In (record { event = h.0; body = body.Bound x b s }) ls ⊎
        ◌≡◌ {A = Line} (record { event = e; body = c }) (record { event = h.0; body = body.Bound x b s }) →
        IsLined ls x b s ⊎ (c ≡ body.Bound x b s)
    by (inl i) = inl (h.0, i)
    by (inr is) = inr (ap (λ (l : Line). l.body) is)

pub lined_still : (ls : List Line) (e : ℕ) (c : Body) → tells c ≡ false → (x : ℕ) (b : Binding) (s : ℕ) →
    IsLined (ls ++ numbered e (c ∷ [])) x b s → IsLined ls x b s
lined_still ls e c is x b s h = by (lined_parts ls e c x b s h)
  where
    by : IsLined ls x b s ⊎ (c ≡ body.Bound x b s) → IsLined ls x b s
    by (inl before) = before
    by (inr same) = let no_way : false ≡ true = sym is ∙ ap tells same in absurd (cc no_way)

-- a copy of the object became active at the node, under this binding
abbrev pub IsActive : List Line → ℕ → ℕ → Binding → Type 0
IsActive ls n x b = (e : ℕ) × In (record { event = e; body = body.Active n x b }) ls

pub active_more : (ls ms : List Line) (n x : ℕ) (b : Binding) → IsActive ls n x b → IsActive (ls ++ ms) n x b
active_more ls ms n x b h = (h.0, in_front (record { event = h.0; body = body.Active n x b }) ls ms h.1)

pub active_last : (ls : List Line) (e n x : ℕ) (b : Binding) → IsActive (ls ++ numbered e (body.Active n x b ∷ [])) n x b
active_last ls e n x b = (e, in_last (record { event = e; body = body.Active n x b }) ls)
