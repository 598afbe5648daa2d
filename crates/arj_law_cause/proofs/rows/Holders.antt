-- Who has locks: actions that began, on entries no nested ones, by the journal's lines.
use Rattle.arj_law_parts.proofs.Words
use Words.{⊎_elim, ◌≡◌, ◌≢◌, ◌∙◌, ◌&&◌, ◌||◌, ◌++◌, ℕ, zero, suc, Bool, true, false, cond, not, List, [], ◌∷◌, take, find, Some}
use Words.{refl, sym, ap, subst, inl, inr, list_any, and_parts, Contains, In, in_from, in_to, Body, Kind, Line, Row, Uid, is_on, last_uid}
use Words.{tops_of, uid_eq, uid_is, uid_same, uids_of, is_nested}
use Words.body
use Words.kind
use Rattle.arj_law_serial.proofs.Terms
use Terms.{Act, Action, AreAlike, AreBegun, act_of, acts, acts_after, acts_from, AreUpper, acts_more, any_in, has_act, serial_alone}
use Terms.{IsEntryRow}
use Rattle.arj_law_parts.proofs.parts.Begun.{on_more, one_action}
use Rattle.arj_law_parts.specs.parts.{Actions.Stands, Messages.IsTopAction}
use Rattle.arj_model.specs.CauseSpans.{holds_in}
use Rattle.arj_law_cause.specs.rows.Says.{has_upper}

-- ---- lists

-- one passes the test
pub one_passes : {A : Type 0} (p : A → Bool) (xs : List A) → list_any p xs ≡ true → (a : A) × In a xs × (p a ≡ true)
one_passes p [] is = absurd (cc is)
one_passes {A} p (x ∷ xs) is = by (p x) refl is (one_passes p xs)
  where
    by : (b : Bool) → p x ≡ b → (b || list_any p xs) ≡ true → (list_any p xs ≡ true → (a : A) × In a xs × (p a ≡ true)) →
        (a : A) × In a (x ∷ xs) × (p a ≡ true)
    by true here is ih = (x, inl refl, here)
    by false off is ih = let r = ih is in (r.0, inr r.1, r.2)

-- so one is found
pub one_found : {A : Type 0} (p : A → Bool) (xs : List A) → list_any p xs ≡ true → holds_in (λ a. true) (find p xs) ≡ true
one_found p [] is = absurd (cc is)
one_found p (x ∷ xs) is = by (p x) is (one_found p xs)
  where
    by : (b : Bool) → (b || list_any p xs) ≡ true → (list_any p xs ≡ true → holds_in (λ a. true) (find p xs) ≡ true) →
        holds_in (λ a. true) (cond b (Some x) (find p xs)) ≡ true
    by true is ih = refl
    by false is ih = ih is

-- ---- actions of the journal

-- more actions begin
any_after : (p : Act → Bool) (xs : List Act) (b : Body) → list_any p xs ≡ true → list_any p (acts_after xs b) ≡ true
any_after p xs (body.Began l k u q) is = by (p _) is
  where
    by : (b : Bool) → list_any p xs ≡ true → (b || list_any p xs) ≡ true
    by true is = refl
    by false is = is
any_after p xs b is = is

any_from : (p : Act → Bool) (ls : List Line) (xs : List Act) → list_any p xs ≡ true → list_any p (acts_from xs ls) ≡ true
any_from p [] xs is = is
any_from p (l ∷ ls) xs is = any_from p ls (acts_after xs l.body) (any_after p xs l.body is)

-- who began before some lines began before more
pub any_later : (p : Act → Bool) (before more : List Line) → list_any p (acts before) ≡ true → list_any p (acts (before ++ more)) ≡ true
any_later p before more is = ap (list_any p) (acts_more [] before more) ∙ any_from p more (acts before) is

-- ---- actions that were begun

pub alike_to : (begun : List Action) (xs : List Act) → AreAlike begun xs → (a : Action) → In a begun →
    (b : Act) × In b xs × (b.uid ≡ act_of a) × (b.kind ≡ a.kind)
alike_to [] xs alike a i = absurd i
alike_to (c ∷ begun) [] alike a i = absurd alike
alike_to (c ∷ begun) (x ∷ xs) alike a (inl is) =
    (x, inl refl, alike.0 ∙ ap act_of is, alike.1 ∙ ap (λ (z : Action). z.kind) is)
alike_to (c ∷ begun) (x ∷ xs) alike a (inr i) = let r = alike_to begun xs alike.3 a i in (r.0, inr r.1, r.2, r.3)

pub alike_from : (begun : List Action) (xs : List Act) → AreAlike begun xs → (b : Act) → In b xs →
    (a : Action) × In a begun × (b.uid ≡ act_of a) × (b.kind ≡ a.kind)
alike_from [] [] alike b i = absurd i
alike_from [] (x ∷ xs) alike b i = absurd alike
alike_from (c ∷ begun) [] alike b i = absurd i
alike_from (c ∷ begun) (x ∷ xs) alike b (inl is) =
    (c, inl refl, ap (λ (z : Act). z.uid) (sym is) ∙ alike.0, ap (λ (z : Act). z.kind) (sym is) ∙ alike.1)
alike_from (c ∷ begun) (x ∷ xs) alike b (inr i) = let r = alike_from begun xs alike.3 b i in (r.0, inr r.1, r.2, r.3)

not_nested : (k : Kind) → k ≢ kind.Nested → not (is_nested k) ≡ true
not_nested kind.Nested other = absurd (other refl)
not_nested k other = refl

is_other : (k : Kind) → not (is_nested k) ≡ true → k ≢ kind.Nested
is_other k is same = let no_way : false ≡ true = ap (λ (q : Kind). not (is_nested q)) (sym same) ∙ is in cc no_way

-- who was begun began by the lines
pub begun_act : (begun : List Action) (xs : List Act) → AreAlike begun xs → (a : Action) → Contains begun a → has_act xs (act_of a) ≡ true
begun_act begun xs alike a there =
    let r = alike_to begun xs alike a (in_from a begun there) in
    any_in (λ (z : Act). uid_eq z.uid (act_of a)) r.0 xs r.1 (ap (λ w. uid_eq w (act_of a)) r.2 ∙ uid_same (act_of a))

pub upper_act : (begun : List Action) (xs : List Act) → AreAlike begun xs → (u : Uid) → IsTopAction begun u → has_upper xs u ≡ true
upper_act begun xs alike u top =
    let r = alike_to begun xs alike top.0 (in_from top.0 begun top.1) in
    let other : not (is_nested r.0.kind) ≡ true = ap (λ (q : Kind). not (is_nested q)) r.3 ∙ not_nested (let a = top.0 in a.kind) top.3 in
    any_in (λ (z : Act). uid_eq z.uid u && not (is_nested z.kind)) r.0 xs r.1
    (λ i. (ap (λ w. uid_eq w u) (r.2 ∙ top.2) ∙ uid_same u) i && other i)

-- and the other way round
pub upper_from : (begun : List Action) (xs : List Act) → AreAlike begun xs → (u : Uid) → has_upper xs u ≡ true → IsTopAction begun u
upper_from begun xs alike u is =
    let w = one_passes (λ (z : Act). uid_eq z.uid u && not (is_nested z.kind)) xs is in
    let p = and_parts (uid_eq w.0.uid u) (not (is_nested w.0.kind)) w.2 in
    let r = alike_from begun xs alike w.0 w.1 in (
      r.0,
      in_to r.0 begun r.1,
      sym r.2 ∙ uid_is w.0.uid u p.0,
      is_other (let a = r.0 in a.kind) (ap (λ (q : Kind). not (is_nested q)) (sym r.3) ∙ p.1),
    )

-- who has a lock on an entry
pub entry_upper : (begun : List Action) (r : Row) → IsEntryRow begun r → AreUpper begun r.holder → IsTopAction begun (last_uid r.holder)
entry_upper begun r (inl f) upper =
    let only : AreUpper begun (f.0 ∷ []) = subst (AreUpper begun) f.2 upper in
    subst (λ us. IsTopAction begun (last_uid us)) (sym f.2) only.0
entry_upper begun r (inr f) upper =
    subst (λ us. IsTopAction begun (last_uid us)) (sym f.3) (f.0, f.1, refl, λ e. absurd (other (sym f.2 ∙ e)))
  where
    other : kind.Constituent ≡ kind.Nested → ⊥
    other is = cc is

-- ---- paths

taken_more : (n : ℕ) (xs : List Uid) (w u : Uid) → is_on (take n xs) u ≡ true → is_on (take n (xs ++ w ∷ [])) u ≡ true
taken_more zero xs w u on = absurd (cc on)
taken_more (suc n) [] w u on = absurd (cc on)
taken_more (suc n) (x ∷ xs) w u on = by (uid_eq x u) on (taken_more n xs w u)
  where
    by : (b : Bool) → (b || is_on (take n xs) u) ≡ true → (is_on (take n xs) u ≡ true → is_on (take n (xs ++ w ∷ [])) u ≡ true) →
        (b || is_on (take n (xs ++ w ∷ [])) u) ≡ true
    by true on ih = refl
    by false on ih = ih on

-- who isn't nested is no later on a path than its top
top_on : (begun : List Action) → AreBegun begun → (u : Uid) → ((c : Action) → In c begun → act_of c ≡ u → c.kind ≢ kind.Nested) →
    (a : Action) → In a begun → is_on (uids_of a.path) u ≡ true → is_on (take (tops_of a.path) (uids_of a.path)) u ≡ true
top_on [] all u upper a i on = absurd i
top_on (c ∷ begun) all u upper a (inr i) on = top_on begun all.1 u (λ b j. upper b (inr j)) a i on
top_on (c ∷ begun) all u upper a (inl is) on =
    subst (λ (z : Action). is_on (take (tops_of z.path) (uids_of z.path)) u ≡ true) is
    (by (λ b j. top_on begun all.1 u (λ x y. upper x (inr y)) b j) c.kind refl (let b = all.0 in b.stands)
    (ap (λ (z : Action). is_on (uids_of z.path) u) is ∙ on))
  where
    alone : uids_of c.path ≡ act_of c ∷ [] → tops_of c.path ≡ 1 → is_on (uids_of c.path) u ≡ true →
        is_on (take (tops_of c.path) (uids_of c.path)) u ≡ true
    alone path tops here = (λ i. is_on (take (tops i) (path i)) u) ∙ (λ i. is_on (sym path i) u) ∙ here

    by : ((b : Action) → In b begun → is_on (uids_of b.path) u ≡ true → is_on (take (tops_of b.path) (uids_of b.path)) u ≡ true) →
        (k : Kind) → c.kind ≡ k → Stands begun c k → is_on (uids_of c.path) u ≡ true →
        is_on (take (tops_of c.path) (uids_of c.path)) u ≡ true
    by older kind.Nested its s here =
        ⊎_elim {C = is_on (take (tops_of c.path) (uids_of c.path)) u ≡ true}
        (λ above. (λ i. is_on (take (s.4 i) (s.3 i)) u) ∙ taken_more (tops_of (let b = s.0 in b.path)) (uids_of (let b = s.0 in b.path))
        (act_of c) u (older s.0 (in_from s.0 begun s.1) above))
        (λ same. absurd (upper c (inl refl) same its))
        (on_more (uids_of (let b = s.0 in b.path)) (act_of c) u (ap (λ us. is_on us u) (sym s.3) ∙ here))
    by older kind.Constituent its s here =
        let up = serial_alone begun all.1 s.0 (in_from s.0 begun s.1) s.2 in
        let path : uids_of c.path ≡ act_of s.0 ∷ act_of c ∷ [] = s.3 ∙ ap (λ us. us ++ act_of c ∷ []) up.0 in
        (λ i. is_on (take (s.4 i) (path i)) u) ∙ (λ i. is_on (sym path i) u) ∙ here
    by older kind.Top its s here = alone s.0 s.1 here
    by older kind.Serial its s here = alone s.0 s.1 here
    by older kind.Independent its s here = alone s.0 s.1 here

-- such an action that isn't on the leading part of a path isn't on the path
pub off_path : (begun : List Action) → AreBegun begun → (u : Uid) → IsTopAction begun u → (a : Action) → Contains begun a →
    is_on (take (tops_of a.path) (uids_of a.path)) u ≡ false → is_on (uids_of a.path) u ≡ false
off_path begun all u top a there off = by (is_on (uids_of a.path) u) refl
  where
    upper : (c : Action) → In c begun → act_of c ≡ u → c.kind ≢ kind.Nested
    upper c i same = subst (λ (z : Action). z.kind ≢ kind.Nested)
        (one_action begun all top.0 c (in_from top.0 begun top.1) i (top.2 ∙ sym same)) top.3

    by : (b : Bool) → is_on (uids_of a.path) u ≡ b → b ≡ false
    by false on = refl
    by true on = let no_way : true ≡ false = sym (top_on begun all u upper a (in_from a begun there) on) ∙ off in absurd (cc no_way)
