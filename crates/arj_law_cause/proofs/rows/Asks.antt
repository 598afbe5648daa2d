-- Which accepted events ask something that is answered: calls and includes.
use Rattle.arj_law_parts.proofs.Words
use Words.{◌≡◌, ◌∙◌, ◌++◌, Bool, true, false, cond, List, [], ◌∷◌, ℕ, refl, sym, ap, filter, Event}
use Words.event
use Rattle.arj_model.specs.Past.{Asked}
use Rattle.arj_model.specs.Refusals.{asks_by, is_ask_by}

-- a call or an include
abbrev pub is_asking : Event → Bool
is_asking (event.Call l x o) = true
is_asking (event.Include l x n) = true
is_asking e = false

-- so it is of an accepted event
abbrev pub asks_some : Asked → Bool
asks_some k = is_asking k.event

-- of two lists of accepted events the calls and includes are the same
abbrev pub AreSameAsks : List Asked → List Asked → Type 0
AreSameAsks a b = filter asks_some a ≡ filter asks_some b

only_asks : (l : List ℕ) (e : Event) → is_ask_by l e ≡ true → is_asking e ≡ true
only_asks l (event.Call m x o) is = refl
only_asks l (event.Include m x n) is = refl
only_asks l e is = absurd (cc is)

-- those of a label are among them
by_label : (l : List ℕ) (a : List Asked) → asks_by a l ≡ asks_by (filter asks_some a) l
by_label l [] = refl
by_label l (k ∷ ks) = by (is_ask_by l k.event) refl (is_asking k.event) refl (by_label l ks)
  where
    by : (b : Bool) → is_ask_by l k.event ≡ b → (c : Bool) → is_asking k.event ≡ c → asks_by ks l ≡ asks_by (filter asks_some ks) l →
        cond b (k ∷ asks_by ks l) (asks_by ks l) ≡ asks_by (cond c (k ∷ filter asks_some ks) (filter asks_some ks)) l
    by true mine true some ih = (λ i. k ∷ ih i) ∙ sym (λ i. cond (mine i) (k ∷ asks_by (filter asks_some ks) l) (asks_by
        (filter asks_some ks) l))
    by true mine false none ih = let no_way : true ≡ false = sym (only_asks l k.event mine) ∙ none in absurd (cc no_way)
    by false other true some ih = ih ∙ sym (λ i. cond (other i) (k ∷ asks_by (filter asks_some ks) l) (asks_by (filter asks_some ks) l))
    by false other false none ih = ih

pub asks_same : (a b : List Asked) → AreSameAsks a b → (l : List ℕ) → asks_by a l ≡ asks_by b l
asks_same a b same l = by_label l a ∙ ap (λ ks. asks_by ks l) same ∙ sym (by_label l b)

pub filter_both : {A : Type 0} (p : A → Bool) (xs ys : List A) → filter p (xs ++ ys) ≡ filter p xs ++ filter p ys
filter_both p [] ys = refl
filter_both {A} p (x ∷ xs) ys = by (p x) (filter_both p xs ys)
  where
    by : (b : Bool) → filter p (xs ++ ys) ≡ filter p xs ++ filter p ys →
        cond b (x ∷ filter p (xs ++ ys)) (filter p (xs ++ ys)) ≡ cond b (x ∷ filter p xs) (filter p xs) ++ filter p ys
    by true ih = λ i. x ∷ ih i
    by false ih = ih
