-- The call of a commit, by the journal, stands before each place by which it was called.
use Rattle.arj_law.proofs.JoinedCalls.{path_of, top_all}
use Rattle.arj_law.proofs.Reading.{read-append}
use Rattle.arj_law_parts.proofs.Words
use Words.{◌≡◌, ◌≤◌, ◌<◌, ◌∙◌, ◌+◌, ◌==◌, ◌++◌, ◌||◌, ℕ, suc, Bool, true, false, cond, if◌then◌else◌, List, [], ◌∷◌, length, Option, Some}
use Words.{None, refl, sym, ap, subst, arith, inl, inr, find, list_any, option_map, AllByRecursion, In, uid_eq, uid_is, bytes_eq}
use Words.{bytes_eq-Decides, Body, Line, is_on}
use Rattle.arj_law_runs.proofs.journal.{Books.sane_lines, Books.sane_new, Closed.one_act, Models.act_there, Models.in_later}
use Rattle.arj_law_runs.proofs.journal.{Models.its_acts}
use Rattle.arj_law_runs.proofs.journal.{Models.its_sound, Models.named_in, Models.tells, Owners.acts_more, Ties.named_label}
use Rattle.arj_law_runs.specs.journal.Book.{Book, book, new_book, turned}
use Rattle.arj_law_runs.specs.journal.Right.{AreRight}
use Rattle.arj_model.specs.Actions.{Act, Placed, act_in, acts, acts_after, acts_from, put, read, top_in}
use Rattle.arj_model.specs.Calls.{committing_of, committings}
use Rattle.arj_model.specs.CauseSpans.{Here, commit_here, commits_so, holds_in}
use Rattle.arj_model.specs.Refusals.{holds_of, is_committing, was_called}
use Rattle.arj_law_cause.proofs.confirm.Called.{is_called}
use Rattle.arj_law_cause.proofs.rows.Holders.{one_passes}
use Rattle.arj_law_cause.proofs.waits.waiting.{Called.called_so, Lists.any_in}

-- the lines of a right journal so far are right
pub right_front : (before after : List Line) → AreRight new_book (before ++ after) → AreRight new_book before
right_front before after right = from new_book before after right
  where
    from : (B : Book) (ls ks : List Line) → AreRight B (ls ++ ks) → AreRight B ls
    from B [] ks r = tt
    from B (l ∷ ls) ks r = (r.0, from (turned B l.body) ls ks r.1)

-- ---- places

-- what is read of lines stands among them
placed_low : {A : Type 0} (f : List Act → Body → Option A) (us : List Act) (n : ℕ) (ls : List Line) (m : Placed A) → In m (read f us n ls) →
    m.at < n + length ls
placed_low f us n [] m there = absurd there
placed_low {A} f us n (l ∷ ls) m there = by (f us l.body) there (λ i. placed_low f (acts_after us l.body) (n + 1) ls m i)
  where
    by : (o : Option A) → In m (put n o (read f (acts_after us l.body) (n + 1) ls)) →
        (In m (read f (acts_after us l.body) (n + 1) ls) → m.at < (n + 1) + length ls) → m.at < n + suc (length ls)
    by None i ih = let z = ih i in omega (arith, z)
    by (Some a) (inr i) ih = let z = ih i in omega (arith, z)
    by (Some a) (inl same) ih = let z : n ≡ m.at = ap (λ (k : Placed A). k.at) same in omega (arith, z)

-- who passes among the first of a list is the first who does in it
find_front : {A : Type 0} (f : A → Bool) (xs ys : List A) → list_any f xs ≡ true → (a : A) × In a xs × (find f (xs ++ ys) ≡ Some a)
find_front f [] ys is = absurd (cc is)
find_front {A} f (x ∷ xs) ys is = by (f x) refl is (λ more. find_front f xs ys more)
  where
    by : (b : Bool) → f x ≡ b → (b || list_any f xs) ≡ true → (list_any f xs ≡ true → (a : A) × In a xs × (find f (xs ++ ys) ≡ Some a)) →
        (a : A) × In a (x ∷ xs) × (cond b (Some x) (find f (xs ++ ys)) ≡ Some a)
    by true e h ih = (x, inl refl, refl)
    by false e h ih = let z = ih h in (z.0, inr z.1, z.2)

-- the call of a commit names actions that began
item_there : (us : List Act) (n : ℕ) (ls : List Line) (m : Placed (List Act)) → In m (read committing_of us n ls) → (t : Act) →
    top_in m.it ≡ Some t → In t (acts_from us ls)
item_there us n [] m there t is = absurd there
item_there us n (l ∷ ls) m there t is = by (committing_of us l.body) refl there (λ i. item_there (acts_after us l.body) (n + 1) ls m i t is)
  where
    each : (xs : List Act) → ((a : Act) → In a xs → In a us) → AllByRecursion (λ (a : Act). In a us) xs
    each [] to = tt
    each (x ∷ xs) to = (to x (inl refl), each xs (λ a i. to a (inr i)))

    by : (o : Option (List Act)) → committing_of us l.body ≡ o → In m (put n o (read committing_of (acts_after us l.body) (n + 1) ls)) →
        (In m (read committing_of (acts_after us l.body) (n + 1) ls) → In t (acts_from (acts_after us l.body) ls)) →
        In t (acts_from (acts_after us l.body) ls)
    by None none i ih = ih i
    by (Some p) some (inr i) ih = ih i
    by (Some p) some (inl same) ih = in_later (l ∷ ls) us t (top_all (λ (a : Act). In a us) p t
        (path_of (λ (a : Act). In a us) us l.body p (each us (λ a i. i)) some)
        (ap top_in (ap (λ (z : Placed (List Act)). z.it) same) ∙ is))

-- ---- a commit under way

module _ (h : Here) (l : List ℕ) (before after : List Line) (are : h.lines ≡ before ++ after) (right : AreRight new_book h.lines) (a : Act)
    (named : act_in (acts h.lines) l ≡ Some a) (under : is_committing h.lines l ≡ true) (called : is_called before a.uid) where
  front : AreRight new_book before
  front = right_front before after (subst (AreRight new_book) are right)

  abbrev test : Placed (List Act) → Bool
  test m = holds_of (λ top. bytes_eq top.label l) (top_in m.it)

  grown : (b : Act) → In b (acts before) → In b (acts h.lines)
  grown b i = subst (In b) (sym (acts_more [] before after) ∙ ap acts (sym are)) (in_later after (acts before) b i)

  there : In a (acts h.lines)
  there = named_in (acts h.lines) l a named

  -- who was called by then is this action
  caller : (b : Act) × In b (acts before) × (b.uid ≡ a.uid)
  caller = let z = act_there (let B = book before in B.acts) a.uid
      (let s = sane_lines new_book before front sane_new in s.called a.uid called) in
      (z.0, subst (In z.0) (its_acts before front) z.1, z.2)

  -- a call of it is this one's
  own_call : (m : Placed (List Act)) → In m (committings before) → (o : Option Act) → top_in m.it ≡ o →
      holds_of (λ (t : Act). t.id == (let b = caller.0 in b.id)) o ≡ true → holds_of (λ (t : Act). bytes_eq t.label l) o ≡ true
  own_call m i None top same = absurd (cc same)
  own_call m i (Some t) top same =
      let began : In t (acts before) = item_there [] 0 before m i t top in
      let uids : uid_eq t.uid (let b = caller.0 in b.uid) ≡ true = sym (tells before front caller.0 caller.1 t began) ∙ same in
      let one : t ≡ a = one_act (acts h.lines) (let s = its_sound h.lines right in s.distinct) t a (grown t began) there
      (uid_is t.uid (let b = caller.0 in b.uid) uids ∙ caller.2) in
      (bytes_eq-Decides t.label l).1 (ap (λ (x : Act). x.label) one ∙ named_label (acts h.lines) l a named)

  called_there : list_any test (committings before) ≡ true
  called_there =
      let is : was_called (committings before) (let b = caller.0 in b.id) ≡ true =
      called_so before front caller.0 caller.1 ∙ ap (is_on (let B = book before in B.called)) caller.2 ∙ called in
      let m = one_passes (λ (z : Placed (List Act)). holds_of (λ top. top.id == (let b = caller.0 in b.id)) (top_in z.it))
      (committings before)
      is in
      any_in test (committings before) m.0 m.1 (own_call m.0 m.1 (top_in (let z = m.0 in z.it)) refl m.2)

  -- the place of its call
  pub place : (c : ℕ) × (commit_here h l ≡ Some c) × (c ≤ length before)
  place =
      let rest = read committing_of (acts_from [] before) (0 + length before) after in
      let z = find_front test (committings before) rest called_there in (
        (let m = z.0 in m.at),
        (λ i. if under i then option_map (λ (m : Placed (List Act)). m.at) (find test (committings h.lines)) else None)
            ∙ ap (λ ls. option_map (λ (m : Placed (List Act)). m.at) (find test (committings ls))) are
            ∙ ap (λ ms. option_map (λ (m : Placed (List Act)). m.at) (find test ms)) (read-append committing_of [] 0 before after)
            ∙ ap (option_map (λ (m : Placed (List Act)). m.at)) z.2,
        (let low = placed_low committing_of [] 0 before z.0 z.1 in omega (arith, low)),
      )

  -- a row of it, at that place
  pub commits_at : (row : Act → ℕ → Bool) → row a place.0 ≡ true → commits_so h l row ≡ true
  commits_at row is = ap (holds_of (λ b. holds_in (row b) (commit_here h l))) named ∙ ap (holds_in (row a)) place.1 ∙ is
