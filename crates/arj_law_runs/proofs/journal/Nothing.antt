-- By the journal nothing survives of an idle top; and the laws of what begins and ends, in the words of `arj_model`.
use Rattle.arj_law_parts.proofs.Words
use Words.{◌≡◌, ◌⊎◌, ◌==◌, ◌&&◌, ◌||◌, ℕ, List, [], ◌∷◌, filter, Bool, true, false, cond, Option, Some, None, refl, sym, ◌∙◌, ap, subst}
use Words.{inl, inr, ⊎_elim, Contains, arith, eqb-true, cons_option, filter_map, list_all, list_any, or_cases, uid_is, uid_same, is_on}
use Words.{uid_eq, Uid, Line, In, in_filter, in_filter_map, in_from, in_to, behind, is_serial}
use Rattle.arj_law_runs.proofs.Terms
use Terms.{Act, Placed, acts, committed, has_end, path, recovered, top_in, uids, Said, said_of, Inclusion, included_of, Access}
use Terms.{book, new_book, IsIdle, IsDone, AreRight}
use Rattle.arj_law_runs.proofs.journal
use journal.{Books.never, Idles.included_step, Idles.of_access, Idles.said_step, Likes.some_is, Ties.on_path, Ties.on_uids}
use journal.Closed.{Stands, one_act, stands_lines, stands_new}
use journal.Models.{apart_acts, is_book, its_acts, its_call, its_end, its_sound}
use Rattle.arj_law_runs.specs.journal.Idle.{BelowCommitsIsOver, HasNothing}
use Rattle.arj_model.specs.{Actions.behind_first, Actions.chain_in, Last.included, Last.joins_by, Last.joins_of}
use Rattle.arj_model.specs.Calls.{Call, call_of, ids, made_by, made_in, said, surviving}

-- ---- lists

none_left : {A : Type 0} (p : A → Bool) (xs : List A) → ((x : A) → In x xs → p x ≡ false) → filter p xs ≡ []
none_left p [] none = refl
none_left {A} p (x ∷ xs) none = by (p x) (none x (inl refl)) (none_left p xs (λ y i. none y (inr i)))
  where
    by : (b : Bool) → b ≡ false → filter p xs ≡ [] → cond b (x ∷ filter p xs) (filter p xs) ≡ []
    by true e ih = absurd (cc e)
    by false e ih = ih

nothing_made : {A B : Type 0} (f : A → Option B) (xs : List A) → ((x : A) → In x xs → f x ≡ None) → filter_map f xs ≡ []
nothing_made f [] none = refl
nothing_made {A} {B} f (x ∷ xs) none = by (f x) (none x (inl refl)) (nothing_made f xs (λ y i. none y (inr i)))
  where
    by : (o : Option B) → o ≡ None → filter_map f xs ≡ [] → cons_option o (filter_map f xs) ≡ []
    by None e ih = ih
    by (Some z) e ih = absurd (cc e)

not_all : {A : Type 0} (p : A → Bool) (x : A) (xs : List A) → In x xs → p x ≡ false → list_all p xs ≡ false
not_all p x [] i e = absurd i
not_all {A} p x (y ∷ ys) (inl same) e = ap (λ b. b && list_all p ys) (ap p same ∙ e)
not_all {A} p x (y ∷ ys) (inr i) e = by (p y) (not_all p x ys i e)
  where
    by : (b : Bool) → list_all p ys ≡ false → (b && list_all p ys) ≡ false
    by true ih = ih
    by false ih = refl

all_numbers : (f : ℕ → Bool) (xs : List Act) → list_all f (ids xs) ≡ list_all (λ (a : Act). f a.id) xs
all_numbers f [] = refl
all_numbers f (x ∷ xs) = ap (λ b. f x.id && b) (all_numbers f xs)

-- ---- paths

-- who is behind the top of a path is the top again, or in its chain
behind_top : (p : List Act) (t : Act) (w : Uid) → top_in p ≡ Some t → is_on (behind t.uid (uids p)) w ≡ true →
    (w ≡ t.uid) ⊎ (is_on (uids (chain_in p)) w ≡ true)
behind_top [] t w top on = absurd (cc top)
behind_top (a ∷ []) t w top on = absurd (one (uid_eq a.uid t.uid) on)
  where
    one : (b : Bool) → is_on (cond b [] []) w ≡ true → ⊥
    one true e = cc e
    one false e = cc e
behind_top (a ∷ b ∷ rest) t w top on = by (is_serial a.kind) top
  where
    more : (c d : Act) (us : List Uid) → is_on (cond (uid_eq c.uid d.uid) us (behind d.uid us)) w ≡ true → c ≡ d → is_on us w ≡ true
    more c d us e same =
        sym (ap (λ x. is_on (cond x us (behind d.uid us)) w) (ap (λ (y : Act). uid_eq y.uid d.uid) same ∙ uid_same d.uid)) ∙ e

    second : (x : Bool) → b ≡ t → is_on (cond x (b.uid ∷ uids rest) (behind t.uid (b.uid ∷ uids rest))) w ≡ true →
        (w ≡ t.uid) ⊎ (is_on (uids rest) w ≡ true)
    second true same e = ⊎_elim (λ here. inl (sym (uid_is b.uid w here) ∙ ap (λ (y : Act). y.uid) same)) (λ old. inr old)
        (or_cases (uid_eq b.uid w) (is_on (uids rest) w) e)
    second false same e = inr (more b t (uids rest) e same)

    by : (s : Bool) → cond s (Some b) (Some a) ≡ Some t → (w ≡ t.uid) ⊎ (is_on (uids (cond s rest (b ∷ rest))) w ≡ true)
    by true e = second (uid_eq a.uid t.uid) (some_is b t e) on
    by false e = inr (more a t (b.uid ∷ uids rest) on (some_is a t e))

-- the chain is part of the path, and so is the top
chain_part : (p : List Act) (x : Act) → In x (chain_in p) → In x p
chain_part [] x i = absurd i
chain_part (a ∷ rest) x i = by (is_serial a.kind) i
  where
    tail : (xs : List Act) → In x (behind_first xs) → In x xs
    tail [] j = absurd j
    tail (y ∷ ys) j = inr j

    by : (s : Bool) → In x (cond s (behind_first rest) rest) → In x (a ∷ rest)
    by true j = inr (tail rest j)
    by false j = inr j

top_part : (p : List Act) (t : Act) → top_in p ≡ Some t → In t p
top_part [] t is = absurd (cc is)
top_part (a ∷ []) t is = by (is_serial a.kind) is
  where
    by : (s : Bool) → cond s None (Some a) ≡ Some t → In t (a ∷ [])
    by true e = absurd (cc e)
    by false e = inl (some_is a t e)
top_part (a ∷ b ∷ rest) t is = by (is_serial a.kind) is
  where
    by : (s : Bool) → cond s (Some b) (Some a) ≡ Some t → In t (a ∷ b ∷ rest)
    by true e = inr (inl (some_is b t e))
    by false e = inl (some_is a t e)

uid_on : (xs : List Act) (x : Act) → In x xs → is_on (uids xs) x.uid ≡ true
uid_on [] x i = absurd i
uid_on (y ∷ ys) x (inl same) = ap (λ b. b || is_on (uids ys) x.uid) (ap (λ (z : Act). uid_eq z.uid x.uid) same ∙ uid_same x.uid)
uid_on (y ∷ ys) x (inr i) = by (uid_eq y.uid x.uid) (uid_on ys x i)
  where
    by : (b : Bool) → is_on (uids ys) x.uid ≡ true → (b || is_on (uids ys) x.uid) ≡ true
    by true ih = refl
    by false ih = ih

-- ---- an idle top

module _ (lines : List Line) (right : AreRight new_book lines) (a : Act) (there : In a (acts lines)) (done : IsDone lines a)
    (idle : IsIdle (book lines) a.uid) where
  stands : Stands (book lines)
  stands = stands_lines new_book lines right stands_new

  -- who was aborted isn't committed
  uncommitted : (x : Act) → In x (acts lines) → is_on (let B = book lines in B.aborted) x.uid ≡ true →
      has_end (committed lines) x.id ≡ false
  uncommitted x i aborted =
      let s = stands in
      let sane = s.sane in
      let its = is_book lines right in
      by (has_end (committed lines) x.id) refl (λ is. never aborted (sane.kept x.uid (sym (its.decided x (in_to x (acts lines) i))
      ∙ ap (λ b. b || list_any (λ (u : Placed Uid). uid_eq u.it x.uid) (recovered lines)) is)))
    where
      by : (b : Bool) → has_end (committed lines) x.id ≡ b → (has_end (committed lines) x.id ≡ true → ⊥) →
          has_end (committed lines) x.id ≡ false
      by true is isnt = absurd (isnt is)
      by false is isnt = is

  -- of an access no path survives
  no_path : (r : Access) → In r (let B = book lines in B.accesses) → (p : List Act) →
      p ≡ path (let B = book lines in B.acts) (let c = r.act in c.label) → (t : Act) → top_in p ≡ Some t → t.id ≡ a.id →
      list_all (λ (x : Act). has_end (committed lines) x.id) (chain_in p) ≡ false
  no_path r i p is t top number =
      let same_acts = its_acts lines right in
      let sound = its_sound lines right in
      let member : (x : Act) → In x p → In x (acts lines) = λ x j.
      subst (In x) same_acts (on_path (let B = book lines in B.acts) (let c = r.act in c.label) x (subst (In x) is j)) in
      let t_there = member t (top_part p t top) in
      let one : t ≡ a = one_act (acts lines) sound.distinct t a t_there there (uid_is t.uid a.uid
      (sym (apart_acts (acts lines) sound.distinct t a t_there there) ∙ ap (λ n. n == a.id) number ∙ itself a.id)) in
      let on : is_on (uids p) a.uid ≡ true = ap (λ (x : Act). is_on (uids p) x.uid) (sym one) ∙ uid_on p t (top_part p t top) in
      let x = idle.cut r (in_to r (let B = book lines in B.accesses) i) (ap (λ q. is_on (uids q) a.uid) (sym is) ∙ on) in
      ⊎_elim
      (λ same.
      let s = stands in
      let sane = s.sane in
      let its = is_book lines right in
      absurd (never (ap (is_on (let B = book lines in B.aborted)) (sym (same ∙ ap (λ (y : Act). y.uid) one)) ∙ x.2)
      (sane.kept a.uid (sym (its.decided a (in_to a (acts lines) there)) ∙ done))))
      (λ below.
      let z = on_uids (chain_in p) x.0 below in
      not_all (λ (y : Act). has_end (committed lines) y.id) z.0 (chain_in p) z.1
      (uncommitted z.0 (member z.0 (chain_part p z.0 z.1)) (ap (is_on (let B = book lines in B.aborted)) z.2 ∙ x.2)))
      (behind_top p t x.0 top
      (ap (λ (y : Act). is_on (behind y.uid (uids p)) x.0) one ∙ ap (λ q. is_on (behind a.uid (uids q)) x.0) is ∙ x.1))
    where
      itself : (n : ℕ) → (n == n) ≡ true
      itself n = grind arith

  no_calls : surviving lines a.id ≡ []
  no_calls = none_left (λ (c : Call). list_all (has_end (committed lines)) c.chain) (made_by lines a.id) one
    where
      one : (c : Call) → In c (made_by lines a.id) → list_all (has_end (committed lines)) c.chain ≡ false
      one c i =
          let f = in_filter (λ (d : Call). d.top == a.id) c (filter_map (λ (s : Placed Said). made_in s (top_in s.it.path)) (said lines))
          i in
          let m = in_filter_map (λ (s : Placed Said). made_in s (top_in s.it.path)) c (said lines) f.0 in
          by m.0 m.1 (top_in (let s = m.0 in s.it.path)) refl m.2 (eqb-true c.top a.id f.1)
        where
          by : (s : Placed Said) → In s (said lines) → (o : Option Act) → top_in s.it.path ≡ o → made_in s o ≡ Some c → c.top ≡ a.id →
              list_all (has_end (committed lines)) c.chain ≡ false
          by s j None is e number = absurd (cc e)
          by s j (Some t) is e number =
              let same : call_of s t ≡ c = some_is (call_of s t) c e in
              let r = of_access said_of (λ (y : Said). y.path) said_step new_book 0 lines right stands_new s j in
              ap (λ (d : Call). list_all (has_end (committed lines)) d.chain) (sym same)
              ∙ all_numbers (has_end (committed lines)) (chain_in s.it.path)
              ∙ no_path r.0 r.1 s.it.path r.2 t is (ap (λ (d : Call). d.top) same ∙ number)

  no_includes : (x : ℕ) → joins_of lines a.id x ≡ []
  no_includes x = nothing_made (λ (i : Placed Inclusion). joins_by (committed lines) a.id x i (top_in i.it.path)) (included lines) one
    where
      one : (i : Placed Inclusion) → In i (included lines) → joins_by (committed lines) a.id x i (top_in i.it.path) ≡ None
      one i j = by (top_in i.it.path) refl
        where
          by : (o : Option Act) → top_in i.it.path ≡ o → joins_by (committed lines) a.id x i o ≡ None
          by None is = refl
          by (Some t) is = number (t.id == a.id) refl
            where
              r : (c : Access) × In c (let V = book lines in V.accesses)
                  × (i.it.path ≡ path (let V = book lines in V.acts) (let d = c.act in d.label))
              r = of_access included_of (λ (y : Inclusion). y.path) included_step new_book 0 lines right stands_new i j

              object : (b : Bool) → list_all (λ (y : Act). has_end (committed lines) y.id) (chain_in i.it.path) ≡ false → cond
                  (true && (b && list_all (λ (y : Act). has_end (committed lines) y.id) (chain_in i.it.path))) (Some i.it.node) None ≡ None
              object true e = ap (λ c. cond c (Some i.it.node) None) e
              object false e = refl

              number : (b : Bool) → (t.id == a.id) ≡ b → cond (b && ((i.it.x == x)
                  && list_all (λ (y : Act). has_end (committed lines) y.id) (chain_in i.it.path))) (Some i.it.node) None ≡ None
              number true e = object (i.it.x == x) (no_path r.0 r.1 i.it.path r.2 t is (eqb-true t.id a.id e))
              number false e = refl

pub idle_has_nothing : (lines : List Line) → AreRight new_book lines → (a : Act) → Contains (acts lines) a → IsDone lines a →
    IsIdle (book lines) a.uid → HasNothing lines a
idle_has_nothing lines right a there done idle = record {
  calls = no_calls lines right a (in_from a (acts lines) there) done idle;
  includes = no_includes lines right a (in_from a (acts lines) there) done idle;
}

-- ---- what begins and ends

pub below_is_over : (lines : List Line) → AreRight new_book lines → BelowCommitsIsOver lines
below_is_over lines right top a there below is on other =
    let s = stands_lines new_book lines right stands_new in
    let c = s.closes in
    let same = its_acts lines right in
    its_end lines right a (in_from a (acts lines) below)
    ∙ c.closed top.uid (sym (its_call lines right top (in_from top (acts lines) there)) ∙ is) a
    (subst (λ xs. Contains xs a) (sym same) below) (ap (λ xs. is_on (uids (path xs a.label)) top.uid) same ∙ on) other
