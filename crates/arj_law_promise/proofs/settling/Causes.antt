-- Why a store may abort what it prepared for a decided top, by lines: which line gives a cause, and that it stays one.
use Rattle.arj_law_parts.proofs.Words
use Words.{◌≡◌, ◌⊎◌, ◌<◌, ◌==◌, ◌&&◌, ◌||◌, ◌+◌, ◌∙◌, ◌++◌, arith, ℕ, Bool, true, false, List, [], ◌∷◌, length, Option, Some, None, refl}
use Words.{sym, ap, subst, inl, inr, ⊎_elim, nat_lt, list_any, and_parts, uid_same, is_on, uid_eq, Uid, Body, Line, Label, name, In}
use Words.{or_cases, append_assoc, uid_is}
use Rattle.arj_law_promise.proofs.Terms
use Terms.{Act, act_in, acts, Book, book, book_from, is_top, new_book, turned, AreRight, Right, named_is, named_in, is_sound, right_front}
use Terms.{may_abort, was_excluded}
use Terms.ending
use Terms.body
use Terms.role
use Rattle.arj_law.proofs.Reading.{read_some}
use Rattle.arj_law_runs.proofs.journal.Ties.{named_label}
use Rattle.arj_law_serial.proofs.{joint.Behind.any_in, joint.Behind.both as and_both, order.Order.own}
use Rattle.arj_model.specs.{Calls.committing_of, Calls.committings, Last.Exclusion, Last.excluded, Last.excluded_of, Last.exclusion_by}
use Rattle.arj_model.specs.Actions.{Placed, acts_after, acts_from, begun_of, halts, numbered, path, put, read, top_in}
use Rattle.arj_model.specs.Outcome.{has_halted_since, has_uid, is_commit_by, is_top_of, was_committed_at}
use Rattle.arj_model.specs.Actions as model

-- ---- tests of lists

any_more : {A : Type 0} (p : A → Bool) (xs ys : List A) → list_any p xs ≡ true → list_any p (xs ++ ys) ≡ true
any_more p [] ys is = absurd (cc is)
any_more p (x ∷ xs) ys is = by (p x) is (any_more p xs ys)
  where
    by : (b : Bool) → (b || list_any p xs) ≡ true → (list_any p xs ≡ true → list_any p (xs ++ ys) ≡ true) →
        (b || list_any p (xs ++ ys)) ≡ true
    by true e ih = refl
    by false e ih = ih e

any_last : {A : Type 0} (p : A → Bool) (xs : List A) (x : A) → p x ≡ true → list_any p (xs ++ x ∷ []) ≡ true
any_last p [] x is = ap (λ b. b || false) is
any_last p (y ∷ xs) x is = by (p y) (any_last p xs x is)
  where
    by : (b : Bool) → list_any p (xs ++ x ∷ []) ≡ true → (b || list_any p (xs ++ x ∷ [])) ≡ true
    by true ih = refl
    by false ih = ih

any_to : {A : Type 0} (p q : A → Bool) (xs : List A) → ((x : A) → p x ≡ true → q x ≡ true) → list_any p xs ≡ true → list_any q xs ≡ true
any_to p q [] each is = absurd (cc is)
any_to p q (x ∷ xs) each is = by (p x) (q x) (each x) is (any_to p q xs each)
  where
    by : (a b : Bool) → (a ≡ true → b ≡ true) → (a || list_any p xs) ≡ true → (list_any p xs ≡ true → list_any q xs ≡ true) →
        (b || list_any q xs) ≡ true
    by a true on e ih = refl
    by true false on e ih = absurd (let no_way : false ≡ true = on refl in cc no_way)
    by false false on e ih = ih e

-- what is read of the first lines
any_read : {A : Type 0} (p : Placed A → Bool) (f : List Act → Body → Option A) (us : List Act) (n : ℕ) (xs ys : List Line) →
    list_any p (read f us n xs) ≡ true → list_any p (read f us n (xs ++ ys)) ≡ true
any_read p f us n [] ys is = absurd (cc is)
any_read {A} p f us n (l ∷ xs) ys is = by (f us l.body) (read f (acts_after us l.body) (n + 1) xs)
    (read f (acts_after us l.body) (n + 1) (xs ++ ys)) is (any_read p f (acts_after us l.body) (n + 1) xs ys)
  where
    by : (o : Option A) (few many : List (Placed A)) → list_any p (put n o few) ≡ true → (list_any p few ≡ true → list_any p many ≡ true) →
        list_any p (put n o many) ≡ true
    by None few many e ih = ih e
    by (Some a) few many e ih = first (p (record { at = n; it = a })) e
      where
        first : (b : Bool) → (b || list_any p few) ≡ true → (b || list_any p many) ≡ true
        first true e2 = refl
        first false e2 = ih e2

any_acts : (p : Act → Bool) (us : List Act) (ls : List Line) → list_any p us ≡ true → list_any p (acts_from us ls) ≡ true
any_acts p us [] is = is
any_acts p us (l ∷ ls) is = any_acts p (acts_after us l.body) ls (one (begun_of l.body))
  where
    one : (o : Option model.Begun) → list_any p (numbered us o) ≡ true
    one None = is
    one (Some b) = by (p (record { id = length us; label = b.label; kind = b.kind; uid = b.uid; parent = b.parent })) is
      where
        by : (x : Bool) → list_any p us ≡ true → (x || list_any p us) ≡ true
        by true e = refl
        by false e = e

acts_more : (us : List Act) (ls ks : List Line) → acts_from us (ls ++ ks) ≡ acts_from (acts_from us ls) ks
acts_more us [] ks = refl
acts_more us (l ∷ ls) ks = acts_more (acts_after us l.body) ls ks

-- ---- a cause

-- the store has committed it before, the top excluded the node, or the node has halted since the commit was called
abbrev pub HasCause : List Line → ℕ → Uid → Type 0
HasCause lines n u = (was_committed_at lines role.Store n u ≡ true) ⊎ (was_excluded lines n u ≡ true) ⊎ (has_halted_since lines n u ≡ true)

pub cause_may : (lines : List Line) (n : ℕ) (u : Uid) → HasCause lines n u → may_abort lines role.Store n u ≡ true
cause_may lines n u c = by (was_committed_at lines role.Store n u) (was_excluded lines n u) (has_halted_since lines n u) c
  where
    by : (x y z : Bool) → (x ≡ true) ⊎ (y ≡ true) ⊎ (z ≡ true) → (x || y || z) ≡ true
    by true y z c = refl
    by false true z c = refl
    by false false true c = refl
    by false false false (inl e) = absurd (cc e)
    by false false false (inr (inl e)) = absurd (cc e)
    by false false false (inr (inr e)) = absurd (cc e)

-- it stays one
pub excluded_more : (lines more : List Line) (n : ℕ) (u : Uid) → was_excluded lines n u ≡ true → was_excluded (lines ++ more) n u ≡ true
excluded_more lines more n u is = any_to (λ (e : Placed Exclusion). (e.it.node == n) && has_uid lines u e.it.top)
    (λ (e : Placed Exclusion). (e.it.node == n) && has_uid (lines ++ more) u e.it.top) (excluded (lines ++ more))
    (λ e both. let p = and_parts (e.it.node == n) (has_uid lines u e.it.top) both in
    and_both (e.it.node == n) (has_uid (lines ++ more) u e.it.top) p.0 (later e.it.top p.1))
    (any_read (λ (e : Placed Exclusion). (e.it.node == n) && has_uid lines u e.it.top) excluded_of [] 0 lines more is)
  where
    later : (id : ℕ) → has_uid lines u id ≡ true → has_uid (lines ++ more) u id ≡ true
    later id on = ap (λ us. list_any (λ (a : Act). (a.id == id) && uid_eq a.uid u) us) (acts_more [] lines more)
        ∙ any_acts (λ (a : Act). (a.id == id) && uid_eq a.uid u) (acts lines) more on

halted_more : (lines more : List Line) (n : ℕ) (u : Uid) → has_halted_since lines n u ≡ true → has_halted_since (lines ++ more) n u ≡ true
halted_more lines more n u is = any_to (λ (m : Placed (List Act)). is_top_of u (top_in m.it) && list_any
    (λ (h : Placed model.Halt). (h.it.node == n) && nat_lt m.at h.at) (halts lines)) (λ (m : Placed (List Act)). is_top_of u (top_in m.it)
    && list_any (λ (h : Placed model.Halt). (h.it.node == n) && nat_lt m.at h.at) (halts (lines ++ more))) (committings (lines ++ more))
    (λ m both. let p = and_parts (is_top_of u (top_in m.it))
    (list_any (λ (h : Placed model.Halt). (h.it.node == n) && nat_lt m.at h.at) (halts lines)) both in
    and_both (is_top_of u (top_in m.it)) (list_any (λ (h : Placed model.Halt). (h.it.node == n) && nat_lt m.at h.at) (halts (lines
    ++ more))) p.0 (any_read (λ (h : Placed model.Halt). (h.it.node == n) && nat_lt m.at h.at) model.halt_of [] 0 lines more p.1))
    (any_read (λ (m : Placed (List Act)). is_top_of u (top_in m.it)
    && list_any (λ (h : Placed model.Halt). (h.it.node == n) && nat_lt m.at h.at) (halts lines)) committing_of [] 0 lines more is)

pub cause_more : (lines more : List Line) (n : ℕ) (u : Uid) → HasCause lines n u → HasCause (lines ++ more) n u
cause_more lines more n u (inl c) = inl (any_more (λ (line : Line). is_commit_by role.Store n u line.body) lines more c)
cause_more lines more n u (inr (inl c)) = inr (inl (excluded_more lines more n u c))
cause_more lines more n u (inr (inr c)) = inr (inr (halted_more lines more n u c))

-- ---- which line gives one

eq_itself : (n : ℕ) → (n == n) ≡ true
eq_itself n = grind arith

pub cause_committed : (lines : List Line) (e n : ℕ) (u : Uid) →
    HasCause (lines ++ record { event = e; body = body.Done n u role.Store ending.Commit } ∷ []) n u
cause_committed lines e n u = inl (any_last (λ (line : Line). is_commit_by role.Store n u line.body) lines
    (record { event = e; body = body.Done n u role.Store ending.Commit }) (and_both (n == n) (uid_eq u u) (eq_itself n) (uid_same u)))

-- an exclusion by the top
module _ (lines : List Line) (right : AreRight new_book lines) (l : Label) (a : Act) (named : act_in (acts lines) (name l) ≡ Some a)
    (top : is_top a.kind ≡ true) (e x n : ℕ) where
  abbrev line : Line
  line = record { event = e; body = body.Excluded l x n }

  abbrev it : Exclusion
  it = record { top = a.id; x = x; node = n }

  there : In a (acts lines)
  there = named_in (acts lines) (name l) a named

  said : excluded_of (acts lines) (body.Excluded l x n) ≡ Some it
  said = ap (λ (p : List ℕ). exclusion_by x n (top_in (path (acts lines) p))) (sym (named_label (acts lines) (name l) a named))
      ∙ ap (exclusion_by x n) (own lines right a there top)

  has_it : has_uid (lines ++ line ∷ []) a.uid a.id ≡ true
  has_it = ap (λ us. list_any (λ (z : Act). (z.id == a.id) && uid_eq z.uid a.uid) us) (acts_more [] lines (line ∷ []))
      ∙ any_in (λ (z : Act). (z.id == a.id) && uid_eq z.uid a.uid) (acts lines) a there
      (and_both (a.id == a.id) (uid_eq a.uid a.uid) (eq_itself a.id) (uid_same a.uid))

  pub excluded_said : was_excluded (lines ++ record { event = e; body = body.Excluded l x n } ∷ []) n a.uid ≡ true
  excluded_said = subst (λ es. list_any (λ (z : Placed Exclusion). (z.it.node == n) && has_uid (lines ++ line ∷ []) a.uid z.it.top) es
      ≡ true) (sym (read_some excluded_of lines line it said))
      (any_last (λ (z : Placed Exclusion). (z.it.node == n) && has_uid (lines ++ line ∷ []) a.uid z.it.top) (excluded lines)
      (record { at = 0 + length lines; it = it }) (and_both (n == n) (has_uid (lines ++ line ∷ []) a.uid a.id) (eq_itself n) has_it))

-- the place where a top's commit was called
record IsCalledAt (B : Book) (ls : List Line) (u : Uid) : Type 0 where
  before : List Line
  line : Line
  behind : List Line
  label : Label
  act : Act
  are : ls ≡ before ++ line ∷ behind
  says : line.body ≡ body.Committing label
  named : act_in (let V = book_from B before in V.acts) (name label) ≡ Some act
  uid : act.uid ≡ u
  top : is_top act.kind ≡ true

called_at : (B : Book) (ls : List Line) (u : Uid) → AreRight B ls → is_on (let V = book_from B ls in V.called) u ≡ true →
    (is_on B.called u ≡ true) ⊎ IsCalledAt B ls u
called_at B [] u right on = inl on
called_at B (l ∷ ls) u right on = ⊎_elim (λ here. one l.body refl right.0 here) (λ c. inr (record {
  before = l ∷ c.before;
  line = c.line;
  behind = c.behind;
  label = c.label;
  act = c.act;
  are = ap (λ ks. l ∷ ks) c.are;
  says = c.says;
  named = c.named;
  uid = c.uid;
  top = c.top;
})) (called_at (turned B l.body) ls u right.1 on)
  where
    one : (b : Body) → l.body ≡ b → Right B b → is_on (let V = turned B b in V.called) u ≡ true →
        (is_on B.called u ≡ true) ⊎ IsCalledAt B (l ∷ ls) u
    one (body.Committing m) is r here = ⊎_elim
        (λ same. inr (record {
          before = [];
          line = l;
          behind = ls;
          label = m;
          act = r.0;
          are = refl;
          says = is;
          named = (let o = r.1 in o.named);
          uid = uid_is (let a = r.0 in a.uid) u same;
          top = r.2;
        }))
        (λ old. inl old)
        (or_cases (uid_eq (let a = r.0 in a.uid) u) (is_on B.called u)
        (ap (λ us. is_on us u) (sym (named_is B.acts m B.called r.0 (let o = r.1 in o.named))) ∙ here))
    one (body.Began m k v p) is r here = inl here
    one (body.Committed m) is r here = inl here
    one (body.Aborted m c) is r here = inl here
    one (body.Ended m) is r here = inl here
    one (body.Recovered k v) is r here = inl here
    one (body.Ok m x o q) is r here = inl here
    one (body.Includes m x k) is r here = inl here
    one b is r here = inl here

longer : (xs ys : List Line) (y : Line) → length xs < length (xs ++ y ∷ ys)
longer [] ys y = omega (arith)
longer (x ∷ xs) ys y = let ih = longer xs ys y in omega (arith, ih)

less_test : (m n : ℕ) → m < n → nat_lt m n ≡ true
less_test m n less = grind (arith, less)

-- a halt behind the call of the top's commit
module _ (lines : List Line) (right : AreRight new_book lines) (u : Uid) (e k : ℕ) where
  abbrev halt : Line
  halt = record { event = e; body = body.Halted k }

  abbrev all : List Line
  all = lines ++ halt ∷ []

  abbrev later : ℕ → Placed model.Halt → Bool
  later at h = (h.it.node == k) && nat_lt at h.at

  abbrev test : Placed (List Act) → Bool
  test m = is_top_of u (top_in m.it) && list_any (later m.at) (halts all)

  module _ (c : IsCalledAt new_book lines u) where
    front : AreRight new_book c.before
    front = right_front new_book c.before (c.line ∷ c.behind) (subst (AreRight new_book) c.are right)

    its_name : act_in (acts c.before) (name c.label) ≡ Some c.act
    its_name = subst (λ us. act_in us (name c.label) ≡ Some c.act) (let s = is_sound c.before front in let r = s.reads in r.begun) c.named

    is_its : is_top_of u (top_in (path (acts c.before) (name c.label))) ≡ true
    is_its = ap (λ (p : List ℕ). is_top_of u (top_in (path (acts c.before) p)))
        (sym (named_label (acts c.before) (name c.label) c.act its_name)) ∙ ap (is_top_of u)
        (own c.before front c.act (named_in (acts c.before) (name c.label) c.act its_name) c.top) ∙ ap (λ w. uid_eq w u) c.uid ∙ uid_same u

    halted : list_any (later (0 + length c.before)) (halts all) ≡ true
    halted = subst (λ hs. list_any (later (0 + length c.before)) hs ≡ true)
        (sym (read_some model.halt_of lines halt (record { node = k; begun = length (acts lines) }) refl))
        (any_last (later (0 + length c.before)) (halts lines)
        (record { at = 0 + length lines; it = record { node = k; begun = length (acts lines) } }) (and_both (k == k)
        (nat_lt (0 + length c.before) (0 + length lines)) (eq_itself k) (let l = subst (λ ls. length c.before < length ls) (sym c.are)
        (longer c.before c.behind c.line) in less_test (0 + length c.before) (0 + length lines) (omega (arith, l)))))

    its_halt : has_halted_since all k u ≡ true
    its_halt = subst (λ ls. list_any test (read committing_of [] 0 ls) ≡ true) (sym (append_assoc (c.before ++ c.line ∷ []) c.behind
        (halt ∷ [])) ∙ ap (λ ls. ls ++ halt ∷ []) (append_assoc c.before (c.line ∷ []) c.behind ∙ sym c.are))
        (any_read test committing_of [] 0 (c.before ++ c.line ∷ []) (c.behind ++ halt ∷ [])
        (subst (λ ms. list_any test ms ≡ true) (sym
        (read_some committing_of c.before c.line (path (acts c.before) (name c.label)) (ap (committing_of (acts c.before)) c.says)))
        (any_last test (committings c.before) (record { at = 0 + length c.before; it = path (acts c.before) (name c.label) })
        (and_both (is_top_of u (top_in (path (acts c.before) (name c.label)))) (list_any (later (0 + length c.before)) (halts all))
        is_its halted))))

  pub cause_halted : is_on (let B = book lines in B.called) u ≡ true →
      HasCause (lines ++ record { event = e; body = body.Halted k } ∷ []) k u
  cause_halted called = ⊎_elim (λ none. absurd (cc none)) (λ c. inr (inr (its_halt c))) (called_at new_book lines u right called)
