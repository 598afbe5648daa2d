-- The states that a server votes, by its copies.
use Rattle.arj_law_parts.proofs.Words
use Words.{◌≡◌, ◌≢◌, ◌∙◌, ◌==◌, ℕ, List, [], ◌∷◌, Bool, true, false, cond, Option, Some, None, refl, sym, ap, inl, inr, Contains, eqb-true}
use Words.{arith, subst, find, cons_option, uid_other, uid_same, in_from, in_to, in_filter_map, End, ObjectState, Uid}
use Words.{object, uid_eq, made_over, Copy, changed_state, end_copy, Did, did_nothing, at_number, each}
use Words.{Server, apply_ends, changed_states, end_new, end_one, is_told}
use Words.list
use Rattle.arj_law_lock_view.proofs.Terms.{taken_end, each_at, ListsEach, state_in, HaveOne}
use Rattle.arj_law_parts.proofs.parts.Pairs.{number_in}
use Rattle.std.specs.Prelude.{filter_map}

-- ---- one state for each copy

abbrev is_for : ℕ → ObjectState → Bool
is_for x s = uid_eq s.uid (object x)

abbrev states_of : Uid → List (ℕ × Copy) → List ObjectState
states_of u es = filter_map (λ (e : ℕ × Copy). changed_state u e.0 e.1) es

-- a copy's state is its object's
state_uid : (u : Uid) (y : ℕ) (c : Copy) (st : ObjectState) → changed_state u y c ≡ Some st → st.uid ≡ object y
state_uid u y c st is = ap (λ (s : ObjectState). s.uid) (sym (made_over u y c st is).2)

own_state : (u : Uid) (x : ℕ) (c : Copy) (st : ObjectState) → changed_state u x c ≡ Some st → is_for x st ≡ true
own_state u x c st is = ap (λ (w : Uid). uid_eq w (object x)) (state_uid u x c st is) ∙ uid_same (object x)

other_state : (u : Uid) (x y : ℕ) (c : Copy) (st : ObjectState) → y ≢ x → changed_state u y c ≡ Some st → is_for x st ≡ false
other_state u x y c st other is = ap (λ (w : Uid). uid_eq w (object x)) (state_uid u y c st is)
    ∙ uid_other (object y) (object x) (λ same. other (ap (λ (w : Uid). w.num) same))

-- one more copy of another object changes nothing
skip : (u : Uid) (x y : ℕ) (c : Copy) (rest : List ObjectState) → y ≢ x →
    find (is_for x) (cons_option (changed_state u y c) rest) ≡ find (is_for x) rest
skip u x y c rest other = by (changed_state u y c) refl
  where
    by : (o : Option ObjectState) → changed_state u y c ≡ o → find (is_for x) (cons_option o rest) ≡ find (is_for x) rest
    by None is = refl
    by (Some st) is = λ i. cond (other_state u x y c st other is i) (Some st) (find (is_for x) rest)

unlike : (m n : ℕ) → (m == n) ≡ false → m ≢ n
unlike m n a b = grind (arith, a, b)

-- where the object's copy has no state there is none
no_state : (u : Uid) (x : ℕ) (c : Copy) (es : List (ℕ × Copy)) → ((o : Copy) → list.In {X = ℕ × Copy} (x, o) es → o ≡ c) →
    changed_state u x c ≡ None → find (is_for x) (states_of u es) ≡ None
no_state u x c [] own none = refl
no_state u x c (e ∷ es) own none = by (e.0 == x) refl (no_state u x c es (λ o j. own o (inr j)) none)
  where
    by : (b : Bool) → (e.0 == x) ≡ b → find (is_for x) (states_of u es) ≡ None →
        find (is_for x) (cons_option (changed_state u e.0 e.1) (states_of u es)) ≡ None
    by false off rest = skip u x e.0 e.1 (states_of u es) (unlike e.0 x off) ∙ rest
    by true at rest =
        let here : e.0 ≡ x = eqb-true e.0 x at in
        let is : e.1 ≡ c = own e.1 (inl (λ i. (here i, e.1))) in
        ap (λ (o : Option ObjectState). find (is_for x) (cons_option o (states_of u es))) ((λ i. changed_state u (here i) (is i)) ∙ none)
        ∙ rest

-- where it has one it is found
pub states_at : (u : Uid) (x : ℕ) (c : Copy) (es : List (ℕ × Copy)) → ((o : Copy) → list.In {X = ℕ × Copy} (x, o) es → o ≡ c) →
    list.In {X = ℕ × Copy} (x, c) es → find (is_for x) (states_of u es) ≡ changed_state u x c
states_at u x c [] own i = absurd i
states_at u x c (e ∷ es) own i = by (e.0 == x) refl (states_at u x c es (λ o j. own o (inr j)))
  where
    by : (b : Bool) → (e.0 == x) ≡ b → (list.In {X = ℕ × Copy} (x, c) es → find (is_for x) (states_of u es) ≡ changed_state u x c) →
        find (is_for x) (cons_option (changed_state u e.0 e.1) (states_of u es)) ≡ changed_state u x c
    by false off behind = skip u x e.0 e.1 (states_of u es) (unlike e.0 x off) ∙ behind (later i)
      where
        later : list.In {X = ℕ × Copy} (x, c) (e ∷ es) → list.In {X = ℕ × Copy} (x, c) es
        later (inl same) = absurd (unlike e.0 x off (ap (λ (f : ℕ × Copy). f.0) same))
        later (inr j) = j
    by true at behind =
        let here : e.0 ≡ x = eqb-true e.0 x at in
        let is : e.1 ≡ c = own e.1 (inl (λ i. (here i, e.1))) in
        ap (λ (o : Option ObjectState). find (is_for x) (cons_option o (states_of u es))) (λ i. changed_state u (here i) (is i))
        ∙ of (changed_state u x c) refl
      where
        of : (o : Option ObjectState) → changed_state u x c ≡ o → find (is_for x) (cons_option o (states_of u es)) ≡ o
        of None none = no_state u x c es (λ o j. own o (inr j)) none
        of (Some st) some = λ i. cond (own_state u x c st some i) (Some st) (find (is_for x) (states_of u es))

-- ---- ends leave each copy where it is

copies_changed : (f : ℕ → Copy → Copy) (es : List (ℕ × Copy)) → ((y : ℕ) (o : Copy) → Contains {X = ℕ × Copy} es (y, o) →
    at_number y es ≡ Some o) → (y : ℕ) (o : Copy) → Contains {X = ℕ × Copy} (each f es) (y, o) → at_number y (each f es) ≡ Some o
copies_changed f es lists y o there = from (place es (in_from {X = ℕ × Copy} (y, o) (each f es) there))
  where
    place : (fs : List (ℕ × Copy)) → list.In {X = ℕ × Copy} (y, o) (each f fs) → (c : Copy) × list.In {X = ℕ × Copy} (y, c) fs × (o ≡ f y c)
    place [] none = absurd none
    place (g ∷ gs) (inl same) = (
      g.1,
      inl (λ i. ((ap (λ (h : ℕ × Copy). h.0) same) i, g.1)),
      sym (ap (λ (h : ℕ × Copy). h.1) same) ∙ ap (λ (z : ℕ). f z g.1) (ap (λ (h : ℕ × Copy). h.0) same),
    )
    place (g ∷ gs) (inr j) = let r = place gs j in (r.0, inr r.1, r.2)

    from : (r : (c : Copy) × list.In {X = ℕ × Copy} (y, c) es × (o ≡ f y c)) → at_number y (each f es) ≡ Some o
    from r = each_at f y es r.0 (lists y r.0 (in_to {X = ℕ × Copy} (y, r.0) es r.1)) ∙ ap Some (sym r.2)

pub ends_list : (n : ℕ) (ends : List (Uid × End)) (s : Server) → ListsEach s → ListsEach (let d = apply_ends n ends s in d.part)
ends_list n [] s lists = lists
ends_list n (e ∷ es) s lists = ends_list n es (let d = end_one n e.0 e.1 s in d.part) (by (is_told e.0 s))
  where
    by : (b : Bool) → ListsEach (let d = cond {A = Did Server} b (did_nothing s) (end_new n e.0 (taken_end e.0 e.1 s) s) in d.part)
    by true = lists
    by false = copies_changed (λ y. end_copy e.0 (taken_end e.0 e.1 s)) s.objects lists

-- what a server that lists each copy votes of the object is what the top left in its copy
pub voted_state : (u : Uid) (s : Server) (x : ℕ) (c : Copy) → ListsEach s → at_number x s.objects ≡ Some c →
    state_in x (changed_states u s) ≡ changed_state u x c
voted_state u s x c lists there = states_at u x c s.objects (λ o j. (let two : ◌≡◌ {A = Option Copy} (Some o) (Some c) = sym
    (lists x o (in_to {X = ℕ × Copy} (x, o) s.objects j)) ∙ there in cc two)) (number_in x s.objects c there)

-- and it votes no other state of it
pub voted_once : (u : Uid) (s : Server) (x : ℕ) (c : Copy) → ListsEach s → at_number x s.objects ≡ Some c → HaveOne x (changed_states u s)
voted_once u s x c lists there a b ia ib ua ub =
    (let two : ◌≡◌ {A = Option ObjectState} (Some a) (Some b) = sym (of a ia ua) ∙ of b ib ub in cc two)
  where
    of : (st : ObjectState) → Contains (changed_states u s) st → st.uid ≡ object x → changed_state u x c ≡ Some st
    of st i uid =
        let f = in_filter_map (λ (e : ℕ × Copy). changed_state u e.0 e.1) st s.objects (in_from st (changed_states u s) i) in
        let here : (f.0).0 ≡ x = ap (λ (w : Uid). w.num) (sym (state_uid u (f.0).0 (f.0).1 st f.2) ∙ uid) in
        let its : at_number x s.objects ≡ Some (f.0).1 = subst (λ (k : ℕ). at_number k s.objects ≡ Some (f.0).1) here
        (lists (f.0).0 (f.0).1 (in_to {X = ℕ × Copy} f.0 s.objects f.1)) in
        let same : (f.0).1 ≡ c = (let two : ◌≡◌ {A = Option Copy} (Some (f.0).1) (Some c) = sym its ∙ there in cc two) in
        (λ i. changed_state u (sym here i) (sym same i)) ∙ f.2
