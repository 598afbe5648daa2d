-- The book of a journal whose lines are right is what `arj_model` reads.
use Rattle.arj_law_parts.proofs.Words
use Words.{◌≡◌, ◌<◌, ◌⊎◌, arith, ℕ, ◌+◌, ◌==◌, ◌||◌, List, [], ◌∷◌, ◌++◌, length, Bool, true, false, cond, Option, Some, None, refl, sym}
use Words.{◌∙◌, ap, subst, inl, inr, ⊎_elim, eqb-true, eq-eqb, cons_option, list_any, bytes_eq, uid_is, uid_same, End, Uid, is_on, uid_eq}
use Words.{Body, Line, In, in_from, in_to, name, Label}
use Rattle.arj_law_runs.proofs.Terms
use Terms.{option_map, Act, Placed, act_in, acts, acts_after, acts_from, committed, has_end, is_committed, put, read, recovered, Book, book}
use Terms.{book_from, is_decided, is_over, new_book, turned, with_named, is_top, AreFormed, AreDistinct, AreRight, IsOpen, IsSaid, Right}
use Terms.{has_act, MayBeFound}
use Terms.body
use Rattle.arj_law_runs.proofs.journal.Books.{is_open, later_from, never, on_here, or_which, sane_lines, sane_new}
use Rattle.arj_law_runs.specs.journal
use journal.Laws.{ActionsEndOnce, CommitsAreCaused, IsCaused, IsCommittedIn, IsItsBook, OutcomesAreOne, aborted, aborted_of, CallsAreTimely}
use journal.Laws.{ExclusionsAreTimely, called, called_of, answered_of, excluder_of, CommitsAreCalled}
use Rattle.arj_model.specs.Actions.{committed_of, ended, ended_of, id_in, recovered_of}
use Rattle.arj_base.specs.declared.mode.End.TheVariants as ending
use Rattle.arj_model.specs.Actions as model

-- ---- actions

pub acts_turn : (B : Book) (b : Body) → (let V = turned B b in V.acts) ≡ acts_after B.acts b
acts_turn B (body.Began l k u p) = refl
acts_turn B (body.Committing l) = refl
acts_turn B (body.Committed l) = refl
acts_turn B (body.Aborted l c) = refl
acts_turn B (body.Ended l) = refl
acts_turn B (body.Recovered n u) = refl
acts_turn B b = refl

pub book_acts : (B : Book) (ls : List Line) → (let V = book_from B ls in V.acts) ≡ acts_from B.acts ls
book_acts B [] = refl
book_acts B (l ∷ ls) = book_acts (turned B l.body) ls ∙ ap (λ xs. acts_from xs ls) (acts_turn B l.body)

-- told apart, and fitting
pub record AreSound (acts : List Act) : Type 0 where
  pub distinct : AreDistinct acts
  pub formed : AreFormed acts

pub sound_turn : (B : Book) (b : Body) → Right B b → AreSound B.acts → AreSound (let V = turned B b in V.acts)
sound_turn B (body.Began l k u p) right s = record { distinct = (refl, right.0, right.1, s.distinct); formed = (right.2, s.formed) }
sound_turn B (body.Committing l) right s = s
sound_turn B (body.Committed l) right s = s
sound_turn B (body.Aborted l c) right s = s
sound_turn B (body.Ended l) right s = s
sound_turn B (body.Recovered n u) right s = s
sound_turn B b right s = s

sound_lines : (B : Book) (ls : List Line) → AreRight B ls → AreSound B.acts → AreSound (let V = book_from B ls in V.acts)
sound_lines B [] right s = s
sound_lines B (l ∷ ls) right s = sound_lines (turned B l.body) ls right.1 (sound_turn B l.body right.0 s)

-- ---- told apart

pub among : (acts : List Act) (a : Act) → In a acts → has_act acts a.uid ≡ true
among [] a there = absurd there
among (x ∷ acts) a (inl same) = ap (λ b. b || has_act acts a.uid) (ap (λ (y : Act). uid_eq y.uid a.uid) same ∙ uid_same a.uid)
among (x ∷ acts) a (inr there) = by (uid_eq x.uid a.uid) (among acts a there)
  where
    by : (b : Bool) → has_act acts a.uid ≡ true → (b || has_act acts a.uid) ≡ true
    by true ih = refl
    by false ih = ih

lower : (acts : List Act) (a : Act) → AreDistinct acts → In a acts → a.id < length acts
lower [] a d there = absurd there
lower (x ∷ acts) a d (inl same) = let one : x.id ≡ a.id = ap (λ (y : Act). y.id) same in omega (arith, one, d.0)
lower (x ∷ acts) a d (inr there) = omega (arith, lower acts a d.3 there)

off_number : (m n : ℕ) → (m ≡ n → ⊥) → (m == n) ≡ false
off_number m n other = by (m == n) refl
  where
    by : (b : Bool) → (m == n) ≡ b → b ≡ false
    by true is = absurd (other (eqb-true m n is))
    by false is = refl

off_uid : (u w : Uid) → (u ≡ w → ⊥) → uid_eq u w ≡ false
off_uid u w other = by (uid_eq u w) refl
  where
    by : (b : Bool) → uid_eq u w ≡ b → b ≡ false
    by true is = absurd (other (uid_is u w is))
    by false is = refl

-- of two actions the numbers are the same exactly if the Uids are
pub apart_acts : (acts : List Act) → AreDistinct acts → (x a : Act) → In x acts → In a acts → (x.id == a.id) ≡ uid_eq x.uid a.uid
apart_acts [] d x a i j = absurd i
apart_acts (b ∷ bs) d x a (inl is) (inl js) = (λ i. let p = (sym is ∙ js) i in p.id == a.id) ∙ eq-eqb a.id a.id refl
    ∙ sym ((λ i. let p = (sym is ∙ js) i in uid_eq p.uid a.uid) ∙ uid_same a.uid)
apart_acts (b ∷ bs) d x a (inl is) (inr j) =
    off_number x.id a.id (λ same. omega (arith, lower bs a d.3 j, d.0, same, ap (λ (y : Act). y.id) is))
    ∙ sym (off_uid x.uid a.uid
    (λ same. never (subst (λ w. has_act bs w ≡ true) (sym (ap (λ (y : Act). y.uid) is ∙ same)) (among bs a j)) d.2))
apart_acts (b ∷ bs) d x a (inr i) (inl js) =
    off_number x.id a.id (λ same. omega (arith, lower bs x d.3 i, d.0, same, ap (λ (y : Act). y.id) js))
    ∙ sym (off_uid x.uid a.uid
    (λ same. never (subst (λ w. has_act bs w ≡ true) (same ∙ sym (ap (λ (y : Act). y.uid) js)) (among bs x i)) d.2))
apart_acts (b ∷ bs) d x a (inr i) (inr j) = apart_acts bs d.3 x a i j

pub named_in : (acts : List Act) (l : List ℕ) (a : Act) → act_in acts l ≡ Some a → In a acts
named_in [] l a is = absurd (cc is)
named_in (x ∷ acts) l a is = by (λ f. named_in acts l a f) (bytes_eq x.label l) is
  where
    by : (act_in acts l ≡ Some a → In a acts) → (b : Bool) → cond b (Some x) (act_in acts l) ≡ Some a → In a (x ∷ acts)
    by ih true e = inl (let same : x ≡ a = cc e in same)
    by ih false e = inr (ih e)

-- later actions leave those that are there
pub in_later : (ls : List Line) (acts : List Act) (a : Act) → In a acts → In a (acts_from acts ls)
in_later [] acts a i = i
in_later (l ∷ ls) acts a i = in_later ls (acts_after acts l.body) a (by (model.begun_of l.body))
  where
    by : (o : Option model.Begun) → In a (model.numbered acts o)
    by None = i
    by (Some b) = inr i

-- ---- what is read

-- of one that may be there
abbrev pub holds : {A : Type 0} → (A → Bool) → Option A → Bool
holds test None = false
holds test (Some a) = test a

put_any : {A : Type 0} (test : A → Bool) (n : ℕ) (o : Option A) (rest : List (Placed A)) →
    list_any (λ (e : Placed A). test e.it) (put n o rest) ≡ (holds test o || list_any (λ (e : Placed A). test e.it) rest)
put_any test n None rest = refl
put_any test n (Some a) rest = refl

turn_round : (t r g : Bool) → ((t || r) || g) ≡ (r || (t || g))
turn_round true true g = refl
turn_round true false g = refl
turn_round false r g = refl

-- the numbers of these actions are told apart as their Uids from those of this one
abbrev pub Tells : Act → List Act → Type 0
Tells a xs = (x : Act) → In x xs → (x.id == a.id) ≡ uid_eq x.uid a.uid

-- What is read of the lines from a book on, with what the book has, is what the book has after them.
module _ {A : Type 0} (a : Act) (f : List Act → Body → Option A) (test : A → Bool) (G : Book → Bool) (step : (B : Book) (b : Body) →
    Right B b → AreSound B.acts → Tells a B.acts → (holds test (f B.acts b) || G B) ≡ G (turned B b)) where
  pub reads : (B : Book) (n : ℕ) (ls : List Line) → AreRight B ls → AreSound B.acts → Tells a (acts_from B.acts ls) →
      (list_any (λ (e : Placed A). test e.it) (read f B.acts n ls) || G B) ≡ G (book_from B ls)
  reads B n [] right s t = refl
  reads B n (l ∷ ls) right s t =
      let W = turned B l.body in
      let o = f B.acts l.body in
      let rest = read f (acts_after B.acts l.body) (n + 1) ls in
      ap (λ x. x || G B) (put_any test n o rest)
      ∙ turn_round (holds test o) (list_any (λ (e : Placed A). test e.it) rest) (G B)
      ∙ ap (λ x. list_any (λ (e : Placed A). test e.it) rest || x) (step B l.body right.0 s (λ x i. t x (in_later (l ∷ ls) B.acts x i)))
      ∙ ap (λ xs. list_any (λ (e : Placed A). test e.it) (read f xs (n + 1) ls) || G W) (sym (acts_turn B l.body))
      ∙ reads W (n + 1) ls right.1 (sound_turn B l.body right.0 s)
      (λ x i. t x (subst (λ xs. In x (acts_from xs ls)) (acts_turn B l.body) i))

pub or_none : (b : Bool) → (b || false) ≡ b
or_none true = refl
or_none false = refl

module _ (a : Act) where
  -- one more by its label
  one_more : (acts : List Act) (l : Label) (us : List Uid) → Tells a acts →
      (holds (λ i. i == a.id) (id_in acts (name l)) || is_on us a.uid) ≡ is_on (with_named acts l us) a.uid
  one_more acts l us t = by (act_in acts (name l)) refl
    where
      by : (o : Option Act) → act_in acts (name l) ≡ o → (holds (λ i. i == a.id) (option_map (λ (x : Act). x.id) o) || is_on us a.uid)
          ≡ is_on (cons_option (option_map (λ (x : Act). x.uid) o) us) a.uid
      by None is = refl
      by (Some x) is = ap (λ b. b || is_on us a.uid) (t x (named_in acts (name l) x is))

  committed_step : (B : Book) (b : Body) → Right B b → AreSound B.acts → Tells a B.acts →
      (holds (λ i. i == a.id) (committed_of B.acts b) || is_on B.committed a.uid) ≡ is_on (let V = turned B b in V.committed) a.uid
  committed_step B (body.Committed l) right s t = one_more B.acts l B.committed t
  committed_step B (body.Began l k u p) right s t = refl
  committed_step B (body.Committing l) right s t = refl
  committed_step B (body.Aborted l c) right s t = refl
  committed_step B (body.Ended l) right s t = refl
  committed_step B (body.Recovered n u) right s t = refl
  committed_step B b right s t = refl

  aborted_step : (B : Book) (b : Body) → Right B b → AreSound B.acts → Tells a B.acts →
      (holds (λ i. i == a.id) (aborted_of B.acts b) || is_on B.aborted a.uid) ≡ is_on (let V = turned B b in V.aborted) a.uid
  aborted_step B (body.Aborted l c) right s t = one_more B.acts l B.aborted t
  aborted_step B (body.Began l k u p) right s t = refl
  aborted_step B (body.Committing l) right s t = refl
  aborted_step B (body.Committed l) right s t = refl
  aborted_step B (body.Ended l) right s t = refl
  aborted_step B (body.Recovered n u) right s t = refl
  aborted_step B b right s t = refl

  called_step : (B : Book) (b : Body) → Right B b → AreSound B.acts → Tells a B.acts →
      (holds (λ i. i == a.id) (called_of B.acts b) || is_on B.called a.uid) ≡ is_on (let V = turned B b in V.called) a.uid
  called_step B (body.Committing l) right s t = one_more B.acts l B.called t
  called_step B (body.Began l k u p) right s t = refl
  called_step B (body.Aborted l c) right s t = refl
  called_step B (body.Committed l) right s t = refl
  called_step B (body.Ended l) right s t = refl
  called_step B (body.Recovered n u) right s t = refl
  called_step B b right s t = refl

  found_step : (B : Book) (b : Body) → Right B b → AreSound B.acts → Tells a B.acts →
      (holds (λ (w : Uid). uid_eq w a.uid) (recovered_of B.acts b) || is_on B.found a.uid) ≡ is_on (let V = turned B b in V.found) a.uid
  found_step B (body.Recovered n u) right s t = refl
  found_step B (body.Began l k u p) right s t = refl
  found_step B (body.Committing l) right s t = refl
  found_step B (body.Committed l) right s t = refl
  found_step B (body.Aborted l c) right s t = refl
  found_step B (body.Ended l) right s t = refl
  found_step B b right s t = refl

  second : (t c x e : Bool) → (t || (c || (x || e))) ≡ (c || ((t || x) || e))
  second true true x e = refl
  second true false x e = refl
  second false c x e = refl

  third : (t c x e : Bool) → (t || (c || (x || e))) ≡ (c || (x || (t || e)))
  third true true x e = refl
  third true false true e = refl
  third true false false e = refl
  third false c x e = refl

  first : (t c r : Bool) → (t || (c || r)) ≡ ((t || c) || r)
  first true c r = refl
  first false c r = refl

  over_step : (B : Book) (b : Body) → Right B b → AreSound B.acts → Tells a B.acts →
      (holds (λ i. i == a.id) (ended_of B.acts b) || is_over B a.uid) ≡ is_over (turned B b) a.uid
  over_step B (body.Committed l) right s t =
      first (holds (λ i. i == a.id) (id_in B.acts (name l))) (is_on B.committed a.uid) (is_on B.aborted a.uid || is_on B.ended a.uid)
      ∙ ap (λ x. x || (is_on B.aborted a.uid || is_on B.ended a.uid)) (one_more B.acts l B.committed t)
  over_step B (body.Aborted l c) right s t =
      second (holds (λ i. i == a.id) (id_in B.acts (name l))) (is_on B.committed a.uid) (is_on B.aborted a.uid) (is_on B.ended a.uid)
      ∙ ap (λ x. is_on B.committed a.uid || (x || is_on B.ended a.uid)) (one_more B.acts l B.aborted t)
  over_step B (body.Ended l) right s t = third (holds (λ i. i == a.id) (id_in B.acts (name l))) (is_on B.committed a.uid) (is_on B.aborted
      a.uid) (is_on B.ended a.uid) ∙ ap (λ x. is_on B.committed a.uid || (is_on B.aborted a.uid || x)) (one_more B.acts l B.ended t)
  over_step B (body.Began l k u p) right s t = refl
  over_step B (body.Committing l) right s t = refl
  over_step B (body.Recovered n u) right s t = refl
  over_step B b right s t = refl

pub new_sound : AreSound (let B = new_book in B.acts)
new_sound = record { distinct = tt; formed = tt }

module _ (lines : List Line) (right : AreRight new_book lines) where
  pub its_acts : (let B = book lines in B.acts) ≡ acts lines
  its_acts = book_acts new_book lines

  pub its_sound : AreSound (acts lines)
  its_sound = subst AreSound its_acts (sound_lines new_book lines right new_sound)

  pub tells : (a : Act) → In a (acts lines) → Tells a (acts lines)
  tells a there x i = apart_acts (acts lines) its_sound.distinct x a i there

  module _ (a : Act) (there : In a (acts lines)) where
    its_commit : has_end (committed lines) a.id ≡ is_on (let B = book lines in B.committed) a.uid
    its_commit = sym (or_none (has_end (committed lines) a.id)) ∙ reads a committed_of (λ i. i == a.id) (λ B. is_on B.committed a.uid)
        (committed_step a) new_book 0 lines right new_sound (tells a there)

    pub its_abort : has_end (aborted lines) a.id ≡ is_on (let B = book lines in B.aborted) a.uid
    its_abort = sym (or_none (has_end (aborted lines) a.id))
        ∙ reads a aborted_of (λ i. i == a.id) (λ B. is_on B.aborted a.uid) (aborted_step a) new_book 0 lines right new_sound (tells a there)

    pub its_call : has_end (called lines) a.id ≡ is_on (let B = book lines in B.called) a.uid
    its_call = sym (or_none (has_end (called lines) a.id))
        ∙ reads a called_of (λ i. i == a.id) (λ B. is_on B.called a.uid) (called_step a) new_book 0 lines right new_sound (tells a there)

    its_found : list_any (λ (u : Placed Uid). uid_eq u.it a.uid) (recovered lines) ≡ is_on (let B = book lines in B.found) a.uid
    its_found = sym (or_none (list_any (λ (u : Placed Uid). uid_eq u.it a.uid) (recovered lines))) ∙ reads a recovered_of
        (λ (w : Uid). uid_eq w a.uid) (λ B. is_on B.found a.uid) (found_step a) new_book 0 lines right new_sound (tells a there)

    pub its_end : has_end (ended lines) a.id ≡ is_over (book lines) a.uid
    its_end = sym (or_none (has_end (ended lines) a.id))
        ∙ reads a ended_of (λ i. i == a.id) (λ B. is_over B a.uid) (over_step a) new_book 0 lines right new_sound (tells a there)

    pub its_decision : is_committed (committed lines) (recovered lines) a ≡ is_decided (book lines) a.uid
    its_decision = λ i. its_commit i || its_found i

  pub is_book : IsItsBook lines
  is_book = record {
    begun = its_acts;
    decided = λ a there. its_decision a (in_from a (acts lines) there);
    over = λ a there. its_end a (in_from a (acts lines) there);
  }

  pub one_outcome : OutcomesAreOne lines
  one_outcome a there done =
      let i = in_from a (acts lines) there in
      let s = sane_lines new_book lines right sane_new in
      its_abort a i ∙ s.kept a.uid (sym (its_decision a i) ∙ done)

-- ---- a line by those before it

pub right_before : (B : Book) (before : List Line) (line : Line) (behind : List Line) → AreRight B (before ++ line ∷ behind) →
    AreRight B before × Right (book_from B before) line.body
right_before B [] line behind right = (tt, right.0)
right_before B (l ∷ ls) line behind right = let r = right_before (turned B l.body) ls line behind right.1 in ((right.0, r.0), r.1)

-- who is among these actions by its Uid
pub act_there : (acts : List Act) (u : Uid) → has_act acts u ≡ true → (a : Act) × In a acts × (a.uid ≡ u)
act_there [] u is = absurd (cc is)
act_there (x ∷ acts) u is = by (uid_eq x.uid u) refl is (λ f. act_there acts u f)
  where
    by : (b : Bool) → uid_eq x.uid u ≡ b → (b || has_act acts u) ≡ true → (has_act acts u ≡ true → (a : Act) × In a acts × (a.uid ≡ u)) →
        (a : Act) × In a (x ∷ acts) × (a.uid ≡ u)
    by true same e ih = (x, inl refl, uid_is x.uid u same)
    by false other e ih = let r = ih e in (r.0, inr r.1, r.2)

-- who was found by a line
found_at : (B : Book) (b : Body) (e : Placed Uid) (n : ℕ) (rest : List (Placed Uid)) → In e (put n (recovered_of B.acts b) rest) →
    (is_on (let V = turned B b in V.found) e.it ≡ true) ⊎ In e rest
found_at B (body.Recovered m u) e n rest (inl same) =
    inl (ap (is_on (u ∷ B.found)) (sym (ap (λ (p : Placed Uid). p.it) same)) ∙ on_here u B.found)
found_at B (body.Recovered m u) e n rest (inr i) = inr i
found_at B b e n rest i = inr i

found_from : (B : Book) (n : ℕ) (ls : List Line) (e : Placed Uid) → In e (read recovered_of B.acts n ls) →
    is_on (let V = book_from B ls in V.found) e.it ≡ true
found_from B n [] e i = absurd i
found_from B n (l ∷ ls) e i = ⊎_elim
    (λ on. (let f = later_from (turned B l.body) ls in f.found) e.it on)
    (λ j. found_from (turned B l.body) (n + 1) ls e (subst (λ xs. In e (read recovered_of xs (n + 1) ls)) (sym (acts_turn B l.body)) j))
    (found_at B l.body e n (read recovered_of (acts_after B.acts l.body) (n + 1) ls) i)

-- whose record a restart found began
pub found_there : (lines : List Line) → AreRight new_book lines → (e : Placed Uid) → In e (recovered lines) →
    has_act (acts lines) e.it ≡ true
found_there lines right e i = let s = sane_lines new_book lines right sane_new in
    subst (λ xs. has_act xs e.it ≡ true) (its_acts lines right) (s.found e.it (found_from new_book 0 lines e i))

-- who is decided is an action of the journal that is committed
pub decided_in : (lines : List Line) → AreRight new_book lines → (u : Uid) → is_decided (book lines) u ≡ true → IsCommittedIn lines u
decided_in lines right u is =
    let s = sane_lines new_book lines right sane_new in
    let a = act_there (acts lines) u (subst (λ xs. has_act xs u ≡ true) (its_acts lines right) (⊎_elim (λ on. s.committed u on)
    (λ on. s.found u on) (or_which (is_on (let B = book lines in B.committed) u) (is_on (let B = book lines in B.found) u) is))) in
    (a.0, in_to a.0 (acts lines) a.1, a.2, its_decision lines right a.0 a.1 ∙ ap (is_decided (book lines)) a.2 ∙ is)

pub caused : (lines : List Line) → AreRight new_book lines → CommitsAreCaused lines
caused lines right before line behind is = let r = right_before new_book before line behind (subst (AreRight new_book) is right) in
    by line.body r.1
  where
    its : AreRight new_book before
    its = (right_before new_book before line behind (subst (AreRight new_book) is right)).0

    said : (u : Uid) (e : End) → IsSaid (book before) u e → e ≡ ending.Commit → IsCommittedIn before u
    said u e s commit = decided_in before its u (subst (IsSaid (book before) u) commit s)

    by : (b : Body) → Right (book before) b → IsCaused before b
    by (body.Told n u ending.Commit p) r = said u ending.Commit r refl
    by (body.Told n u ending.Abort p) r = tt
    by (body.Done n u q ending.Commit) r = said u ending.Commit r refl
    by (body.Done n u q ending.Abort) r = tt
    by b r = tt

pub ended_once : (lines : List Line) → AreRight new_book lines → ActionsEndOnce lines
ended_once lines right before line behind is id ends =
    by line.body (right_before new_book before line behind (subst (AreRight new_book) is right)).1 ends
  where
    its : AreRight new_book before
    its = (right_before new_book before line behind (subst (AreRight new_book) is right)).0

    open_one : (l : Label) (a : Act) → IsOpen (book before) l a → id_in (acts before) (name l) ≡ Some id → has_end (ended before) id ≡ false
    open_one l a o number =
        let named : act_in (acts before) (name l) ≡ Some a = ap (λ xs. act_in xs (name l)) (sym (its_acts before its)) ∙ o.named in
        let same : a.id ≡ id =
        (let e : ◌≡◌ {A = Option ℕ} (Some a.id) (Some id) = sym (ap (option_map (λ (x : Act). x.id)) named) ∙ number in cc) in
        ap (has_end (ended before)) (sym same) ∙ its_end before its a (named_in (acts before) (name l) a named) ∙ o.unended

    by : (b : Body) → Right (book before) b → ended_of (acts before) b ≡ Some id → has_end (ended before) id ≡ false
    by (body.Committed l) r e = open_one l r.0 r.1 e
    by (body.Ended l) r e = open_one l r.0 r.1 e
    by (body.Aborted l c) r e = open_one l r.0 r.1 e
    by b r e = absurd (cc e)

-- ---- calls and exclusions

-- an open action has no end, and its commit was called, or wasn't
pub timely : (before : List Line) → AreRight new_book before → (c : Bool) (l : Label) (id : ℕ) (a : Act) → IsOpen (book before) l a →
    is_on (let B = book before in B.called) a.uid ≡ c → id_in (acts before) (name l) ≡ Some id →
    (has_end (ended before) id ≡ false) × (has_end (called before) id ≡ c)
timely before its c l id a o on number =
    let named : act_in (acts before) (name l) ≡ Some a = ap (λ xs. act_in xs (name l)) (sym (its_acts before its)) ∙ o.named in
    let same : a.id ≡ id = (let e : ◌≡◌ {A = Option ℕ} (Some a.id) (Some id) = sym (ap (option_map (λ (x : Act). x.id)) named) ∙ number in
    cc) in
    let there = named_in (acts before) (name l) a named in (
      ap (has_end (ended before)) (sym same) ∙ its_end before its a there ∙ o.unended,
      ap (has_end (called before)) (sym same) ∙ its_call before its a there ∙ on,
    )

pub calls_timely : (lines : List Line) → AreRight new_book lines → CallsAreTimely lines
calls_timely lines right before line behind is id answers = by line.body r.1 answers
  where
    r : AreRight new_book before × Right (book before) line.body
    r = right_before new_book before line behind (subst (AreRight new_book) is right)

    by : (b : Body) → Right (book before) b → answered_of (acts before) b ≡ Some id →
        (has_end (ended before) id ≡ false) × (has_end (called before) id ≡ false)
    by (body.Ok l x p w) (a, o, on) e = timely before r.0 false l id a (is_open (book before) l a o) on e
    by (body.Includes l x n) (a, o, on) e = timely before r.0 false l id a (is_open (book before) l a o) on e
    by b h e = absurd (cc e)

pub exclusions_timely : (lines : List Line) → AreRight new_book lines → ExclusionsAreTimely lines
exclusions_timely lines right before line behind is id excludes = by line.body r.1 excludes
  where
    r : AreRight new_book before × Right (book before) line.body
    r = right_before new_book before line behind (subst (AreRight new_book) is right)

    by : (b : Body) → Right (book before) b → excluder_of (acts before) b ≡ Some id →
        (has_end (ended before) id ≡ false) × (has_end (called before) id ≡ true)
    by (body.Excluded l x n) (a, o, on) e = timely before r.0 true l id a (is_open (book before) l a o) on e
    by b h e = absurd (cc e)

pub commits_called : (lines : List Line) → AreRight new_book lines → CommitsAreCalled lines
commits_called lines right = record {
  once = λ before line behind is id calls. let r = right_before new_book before line behind (subst (AreRight new_book) is right) in
      one before r.0 line.body r.1 id calls;
  said = λ before line behind is l a same named. let r = right_before new_book before line behind (subst (AreRight new_book) is right) in
      commit before r.0 l a (subst (Right (book before)) same r.1) named;
  found = λ before line behind is n a there same.
      let r = right_before new_book before line behind (subst (AreRight new_book) is right) in
      let m : MayBeFound (book before) n a.uid = subst (Right (book before)) same r.1 in
      its_call before r.0 a (in_from a (acts before) there) ∙ m.called;
}
  where
    one : (before : List Line) → AreRight new_book before → (b : Body) → Right (book before) b → (id : ℕ) →
        called_of (acts before) b ≡ Some id → (has_end (ended before) id ≡ false) × (has_end (called before) id ≡ false)
    one before its (body.Committing l) (a, o, top, off, closed) id e = timely before its false l id a o off e
    one before its b h id e = absurd (cc e)

    commit : (before : List Line) → AreRight new_book before → (l : Label) (a : Act) → Right (book before) (body.Committed l) →
        act_in (acts before) (name l) ≡ Some a → has_end (called before) a.id ≡ is_top a.kind
    commit before its l a (s, o, plain, on) named =
        let here : act_in (acts before) (name l) ≡ Some s = ap (λ xs. act_in xs (name l)) (sym (its_acts before its)) ∙ o.named in
        let same : s ≡ a = (let e : ◌≡◌ {A = Option Act} (Some s) (Some a) = sym here ∙ named in cc) in
        subst (λ (z : Act). has_end (called before) z.id ≡ is_top z.kind) same
        (its_call before its s (named_in (acts before) (name l) s here) ∙ on)
