-- The tie of a journal to the machine, with one line more.
use Rattle.arj_law_parts.proofs.Words
use Words.{◌≡◌, ◌≢◌, ◌≤◌, ◌⊎◌, ◌==◌, ℕ, ◌+◌, List, [], ◌∷◌, ◌++◌, length, reverse, filter, Bool, true, false, cond, Option, Some, None}
use Words.{refl, sym, ◌∙◌, ap, subst, inl, inr, ⊎_elim, arith, eqb-true, eq-eqb, Contains, bytes_eq, reverse-append, filter-append}
use Words.{uid_cases, uid_same, last_uid, uid_eq, Uid, answer_of, value_after, writes, Value, Op, Body, Cause, Kind, Line, In, in_from}
use Words.{in_to, name, answer_text, Label, is_serial}
use Rattle.arj_law_lock_view.proofs.Terms
use Terms.{option_map, Begun, Halt, Placed, act_in, acts, begun_of, committed_of, ended_of, halt_of, numbered, read, recovered}
use Terms.{recovered_of, Values, called_of, named_in, is_action, same, top, State, by_cases, differ, same_is, Acts, Codes, ChangesOne}
use Terms.{SameEnd, aborted, called_at, committed_at, AreCallsOf, AreIncludesOf, EndsSo, IsTiedToLines, included_on, said_on, AreNamed}
use Terms.{CallsStay, EndsStay, GoesBeside, StopsSo, is_plain}
use Terms.body
use Rattle.arj_law_lock.specs.machine.State.{Action}
use Rattle.arj_law_lock_view.proofs.journal
use journal.Ends.{Moves, end_there, ends_so, halt_there}
use journal.Numbers.{are_numbered, called_low, committed_low, ended_low, halts_low, low, one_id}
use journal.Reading.{acts_more, in_cases, length_more, more, read_none, read_some}
use Rattle.arj_law_lock_view.specs.journal.{Lines.AllEndSo, Steps.IsNamed, Steps.TiesAreKept}
use Rattle.arj_law_runs.proofs.journal.Models.{apart_acts}
use Rattle.arj_model.specs.Actions.{Act, path, uids, upwards}
use Rattle.arj_model.specs.Calls.{Said, said, said_of}
use Rattle.arj_model.specs.Last.{Inclusion, included, included_of}
use Rattle.arj_law_lock.specs.machine.Actions as places

-- ---- lines that say nothing of it

pub record SaysNone (us : List Act) (b : Body) : Type 0 where
  pub begun : begun_of b ≡ None
  called : called_of us b ≡ None
  committed : committed_of us b ≡ None
  found : recovered_of us b ≡ None
  ended : ended_of us b ≡ None
  halts : halt_of us b ≡ None
  said : said_of us b ≡ None
  included : included_of us b ≡ None

pub says_none : (us : List Act) (b : Body) → is_plain b ≡ true → SaysNone us b
says_none us (body.Began l k u p) h = absurd (cc h)
says_none us (body.Committing l) h = absurd (cc h)
says_none us (body.Committed l) h = absurd (cc h)
says_none us (body.Aborted l c) h = absurd (cc h)
says_none us (body.Ended l) h = absurd (cc h)
says_none us (body.Recovered n u) h = absurd (cc h)
says_none us (body.Halted n) h = absurd (cc h)
says_none us (body.Ok l y o r) h = absurd (cc h)
says_none us (body.Includes l y n) h = absurd (cc h)
says_none us b h =
    record { begun = refl; called = refl; committed = refl; found = refl; ended = refl; halts = refl; said = refl; included = refl }

-- beside such a line nothing happens
pub plain_goes : (act : Acts) (code : Codes) (x : ℕ) (lines : List Line) (b : Body) (S T : State) → is_plain b ≡ true → CallsStay S T →
    EndsStay S T → GoesBeside act code x lines b S T
plain_goes act code x lines (body.Began l k u p) S T h c e = absurd (cc h)
plain_goes act code x lines (body.Committing l) S T h c e = absurd (cc h)
plain_goes act code x lines (body.Committed l) S T h c e = absurd (cc h)
plain_goes act code x lines (body.Aborted l why) S T h c e = absurd (cc h)
plain_goes act code x lines (body.Ended l) S T h c e = absurd (cc h)
plain_goes act code x lines (body.Recovered n u) S T h c e = absurd (cc h)
plain_goes act code x lines (body.Halted n) S T h c e = absurd (cc h)
plain_goes act code x lines (body.Ok l y o r) S T h c e = absurd (cc h)
plain_goes act code x lines (body.Includes l y n) S T h c e = absurd (cc h)
plain_goes act code x lines b S T h c e = (c, e)

-- ---- an action to which nothing comes

none_some : {A : Type 0} {o : Option A} {a : A} → o ≡ None → o ≡ Some a → ⊥
none_some {A} {o} {a} is some = let bad : ◌≡◌ {A = Option A} None (Some a) = sym is ∙ some in cc bad

-- no line is about it
stay_moves : (lines : List Line) (b : Body) (a : Act) (m n : Action) → SameEnd m n → (called_of (acts lines) b ≢ Some a.id) →
    (committed_of (acts lines) b ≢ Some a.id) → (recovered_of (acts lines) b ≢ Some a.uid) → (ended_of (acts lines) b ≢ Some a.id) →
    ((h : Halt) → halt_of (acts lines) b ≡ Some h → h.node ≢ (let u = a.uid in u.node)) → Moves lines b a m n
stay_moves lines b a m n so c d r e h = record {
  called = λ one. (so.place, (let s = so.stage in omega (arith, one, s)));
  calls = λ is. absurd (c is);
  done = λ is. (so.stage ∙ is, so.done);
  commits = λ is. absurd (d is);
  finds = λ is. absurd (r is);
  only = λ is. inl (sym so.stage ∙ is);
  gone = λ is. inl (sym so.stage ∙ is);
  over = λ l. (let s = so.stage in omega (arith, l, s));
  ends = λ is. absurd (e is);
  half = λ l. (let s = so.stage in omega (arith, l, s));
  halts = λ k is node. absurd (h k is node);
}

-- ---- paths

last_of : (us : List Uid) (u : Uid) → last_uid (us ++ u ∷ []) ≡ u
last_of [] u = refl
last_of (v ∷ []) u = refl
last_of (v ∷ w ∷ us) u = last_of (w ∷ us) u

uids_last : (bs : List Act) (a : Act) → uids (bs ++ a ∷ []) ≡ uids bs ++ a.uid ∷ []
uids_last [] a = refl
uids_last (b ∷ bs) a = ap (λ us. b.uid ∷ us) (uids_last bs a)

-- an action's path ends with it
path_last : (us : List Act) (l : List ℕ) (a : Act) → act_in us l ≡ Some a → last_uid (uids (path us l)) ≡ a.uid
path_last [] l a is = absurd (cc is)
path_last (x ∷ us) l a is = by (path_last us l a) (bytes_eq x.label l) is
  where
    by : (act_in us l ≡ Some a → last_uid (uids (path us l)) ≡ a.uid) → (t : Bool) → cond t (Some x) (act_in us l) ≡ Some a →
        last_uid (uids (cond t (upwards x.parent x.kind (path us) ++ x ∷ []) (path us l))) ≡ a.uid
    by ih true e = let one : x ≡ a = cc e in ap last_uid (uids_last (upwards x.parent x.kind (path us)) x)
        ∙ last_of (uids (upwards x.parent x.kind (path us))) x.uid ∙ ap (λ (y : Act). y.uid) one
    by ih false e = ih e

-- ---- calls and includes

module _ (x : ℕ) (lines : List Line) (event : ℕ) (b : Body) where
  said_none : said_of (acts lines) b ≡ None → said_on x (more lines event b) ≡ said_on x lines
  said_none is = ap (λ ss. reverse (filter (λ (s : Placed Said). s.it.x == x) ss)) (read_none said_of lines event b is)

  said_some : (s : Said) → said_of (acts lines) b ≡ Some s →
      said_on x (more lines event b) ≡ cond (s.x == x) (record { at = length lines; it = s } ∷ said_on x lines) (said_on x lines)
  said_some s is =
      ap (λ ss. reverse (filter (λ (s : Placed Said). s.it.x == x) ss)) (read_some said_of lines event b s is)
      ∙ ap reverse (filter-append (λ (s : Placed Said). s.it.x == x) (said lines) (record { at = length lines; it = s } ∷ []))
      ∙ reverse-append (filter (λ (s : Placed Said). s.it.x == x) (said lines))
      (filter (λ (s : Placed Said). s.it.x == x) (record { at = length lines; it = s } ∷ []))
      ∙ by (s.x == x)
    where
      by : (t : Bool) → reverse (cond t (record { at = length lines; it = s } ∷ []) []) ++ said_on x lines
          ≡ cond t (record { at = length lines; it = s } ∷ said_on x lines) (said_on x lines)
      by true = refl
      by false = refl

  included_none : included_of (acts lines) b ≡ None → included_on x (more lines event b) ≡ included_on x lines
  included_none is = ap (λ ss. reverse (filter (λ (s : Placed Inclusion). s.it.x == x) ss)) (read_none included_of lines event b is)

  included_some : (s : Inclusion) → included_of (acts lines) b ≡ Some s → included_on x (more lines event b)
      ≡ cond (s.x == x) (record { at = length lines; it = s } ∷ included_on x lines) (included_on x lines)
  included_some s is =
      ap (λ ss. reverse (filter (λ (s : Placed Inclusion). s.it.x == x) ss)) (read_some included_of lines event b s is)
      ∙ ap reverse (filter-append (λ (s : Placed Inclusion). s.it.x == x) (included lines) (record { at = length lines; it = s } ∷ []))
      ∙ reverse-append (filter (λ (s : Placed Inclusion). s.it.x == x) (included lines))
      (filter (λ (s : Placed Inclusion). s.it.x == x) (record { at = length lines; it = s } ∷ []))
      ∙ by (s.x == x)
    where
      by : (t : Bool) → reverse (cond t (record { at = length lines; it = s } ∷ []) []) ++ included_on x lines
          ≡ cond t (record { at = length lines; it = s } ∷ included_on x lines) (included_on x lines)
      by true = refl
      by false = refl

-- ---- the actions

module _ (act : Acts) (lines : List Line) (event : ℕ) (b : Body) (S T : State) (named : AreNamed act lines)
    (was : AllEndSo act lines S.action) where
  abbrev all : List Line
  all = more lines event b

  -- no action begins
  there_before : begun_of b ≡ None → (a : Act) → Contains (acts all) a → In a (acts lines)
  there_before none a there = subst (In a) (acts_more lines event b ∙ by (begun_of b) none) (in_from a (acts all) there)
    where
      by : (o : Option Begun) → o ≡ None → numbered (acts lines) o ≡ acts lines
      by None is = refl
      by (Some n) is = absurd (cc is)

  -- all stay
  all_stay : begun_of b ≡ None → EndsStay S T → ((a : Act) → In a (acts lines) → is_serial a.kind ≡ false → SameEnd (S.action (act a.uid))
      (T.action (act a.uid)) → Moves lines b a (S.action (act a.uid)) (T.action (act a.uid))) → AllEndSo act all T.action
  all_stay none stay moves a there plain =
      let i = there_before none a there in
      let c = in_to a (acts lines) i in
      ends_so lines event b a (S.action (act a.uid)) (T.action (act a.uid)) (moves a i plain (stay (act a.uid) (named.actions a c plain)))
      (was a c plain)

  -- of two actions of the journal one has no Uid of the other
  apart : (a c : Act) → In a (acts lines) → In c (acts lines) → a.id ≢ c.id → a.uid ≢ c.uid
  apart a c i j other same_uid = other
      (eqb-true a.id c.id (apart_acts (acts lines) named.distinct a c i j ∙ ap (λ (u : Uid). uid_eq u c.uid) same_uid ∙ uid_same c.uid))

  off_place : (u w : Uid) → u ≢ w → same (act u) (act w) ≡ false
  off_place u w other = ⊎_elim (λ (is : same (act u) (act w) ≡ true). absurd (other (named.one u w (same_is (act u) (act w) is))))
      (λ isnt. isnt) (by_cases (same (act u) (act w)))

  number_cases : (m n : ℕ) → (m ≡ n) ⊎ (m ≢ n)
  number_cases m n = grind arith

  -- one is named, and changes
  one_changes : (l : Label) (c : Act) (new : Action) → IsNamed lines l c → begun_of b ≡ None → ChangesOne (act c.uid) new S T
      → (is_action (act c.uid) ≡ true → Moves lines b c (S.action (act c.uid)) new)
      → ((a : Act) → In a (acts lines) → a.id ≢ c.id → a.uid ≢ c.uid → SameEnd (S.action (act a.uid)) (T.action (act a.uid)) →
      Moves lines b a (S.action (act a.uid)) (T.action (act a.uid)))
      → AllEndSo act all T.action
  one_changes l c new is none changes its others a there plain = ⊎_elim mine other (number_cases a.id c.id)
    where
      i : In a (acts lines)
      i = there_before none a there

      j : In c (acts lines)
      j = named_in (acts lines) (name l) c is

      acts_it : is_action (act a.uid) ≡ true
      acts_it = named.actions a (in_to a (acts lines) i) plain

      mine : a.id ≡ c.id → EndsSo all a (T.action (act a.uid))
      mine same_id =
          let one : a ≡ c = one_id (acts lines) a c (are_numbered lines) i j same_id in
          let there_now : T.action (act c.uid) ≡ new = changes.one (ap (λ (y : Act). is_action (act y.uid)) (sym one) ∙ acts_it) in
          subst (λ (y : Act). EndsSo all y (T.action (act y.uid))) (sym one)
          (subst (EndsSo all c) (sym there_now) (ends_so lines event b c (S.action (act c.uid)) new (its (ap (λ (y : Act). is_action
          (act y.uid)) (sym one) ∙ acts_it)) (was c (in_to c (acts lines) j) (ap (λ (y : Act). is_serial y.kind) (sym one) ∙ plain))))

      other : a.id ≢ c.id → EndsSo all a (T.action (act a.uid))
      other off =
          let apart_uid = apart a c i j off in
          let same_action : T.action (act a.uid) ≡ S.action (act a.uid) = changes.others (act a.uid) acts_it
          (off_place a.uid c.uid apart_uid) in
          ends_so lines event b a (S.action (act a.uid)) (T.action (act a.uid)) (others a i off apart_uid (subst (SameEnd (S.action
          (act a.uid))) (sym same_action) (record { stage = refl; place = refl; done = refl }))) (was a (in_to a (acts lines) i) plain)

-- ---- one line more

module _ (act : Acts) (code : Codes) (values : Values) (x event : ℕ) (lines : List Line) (S T : State) (named : AreNamed act lines)
    (first : T.initial ≡ S.initial) (now : T.now ≤ length lines + 2) (was : IsTiedToLines act code values x lines S) where
  abbrev To : Body → Type 0
  To b = IsTiedToLines act code values x (more lines event b) T

  tied : (b : Body) → AreCallsOf act code (said_on x (more lines event b)) T.calls →
      AreIncludesOf act (included_on x (more lines event b)) T.includes → AllEndSo act (more lines event b) T.action → To b
  tied b calls includes ends = record {
    now = (let e = length_more lines (record { event = event; body = b }) in omega (arith, now, e));
    writer = was.writer;
    first = first ∙ was.first;
    calls = calls;
    includes = includes;
    ends = ends;
  }

  -- no call and no include comes
  quiet_tied : (b : Body) → said_of (acts lines) b ≡ None → included_of (acts lines) b ≡ None → CallsStay S T →
      AllEndSo act (more lines event b) T.action → To b
  quiet_tied b no_call no_include stay ends = tied b
      (subst (AreCallsOf act code (said_on x (more lines event b))) (sym stay.0)
      (subst (λ ss. AreCallsOf act code ss S.calls) (sym (said_none x lines event b no_call)) was.calls))
      (subst (AreIncludesOf act (included_on x (more lines event b))) (sym stay.1)
      (subst (λ ss. AreIncludesOf act ss S.includes) (sym (included_none x lines event b no_include)) was.includes))
      ends

  -- of this line nothing comes
  plain_tied : (b : Body) → SaysNone (acts lines) b → CallsStay S T → EndsStay S T → To b
  plain_tied b says calls ends = quiet_tied b says.said says.included calls
      (all_stay act lines event b S T named was.ends says.begun ends
      (λ a i plain so. stay_moves lines b a (S.action (act a.uid)) (T.action (act a.uid)) so (none_some says.called)
      (none_some says.committed) (none_some says.found) (none_some says.ended) (λ h is. absurd (none_some says.halts is))))

  -- ---- an action begins

  began_tied : (l : Label) (k : Kind) (u : Uid) (p : Option Label) → GoesBeside act code x lines (body.Began l k u p) S T →
      To (body.Began l k u p)
  began_tied l k u p goes = quiet_tied b refl refl goes.0 ends
    where
      b : Body
      b = body.Began l k u p

      ends : AllEndSo act (more lines event b) T.action
      ends a there plain = ⊎_elim
          (λ (is : begun ≡ a). subst (λ (y : Act). EndsSo (more lines event b) y (T.action (act y.uid))) is fresh)
          (λ i. ends_so lines event b a (S.action (act a.uid)) (T.action (act a.uid)) (stay_moves lines b a (S.action (act a.uid))
          (T.action (act a.uid)) (goes.1 (act a.uid) (named.actions a (in_to a (acts lines) i) plain)) (λ e. cc e) (λ e. cc e)
          (λ e. cc e) (λ e. cc e) (λ h e. absurd (cc e))) (was.ends a (in_to a (acts lines) i) plain))
          (subst (In a) (acts_more lines event b) (in_from a (acts (more lines event b)) there))
        where
          begun : Act
          begun = record { id = length (acts lines); label = name l; kind = k; uid = u; parent = option_map name p }

          fresh : EndsSo (more lines event b) begun (T.action (act u))
          fresh = record {
            place = λ e i is. ⊎_elim (λ old. absurd (let l = called_low lines e old in omega (arith, l, is))) (λ new. absurd (cc new.0))
                (in_cases called_of lines event b e (in_from e (read called_of [] 0 (more lines event b)) i));
            commit = λ e i is. ⊎_elim (λ old. absurd (let l = committed_low lines e old in omega (arith, l, is))) (λ new. absurd (cc new.0))
                (in_cases committed_of lines event b e (in_from e (read committed_of [] 0 (more lines event b)) i));
            found = λ e i is. ⊎_elim (λ old. absurd (goes.3 e (in_to e (recovered lines) old) is)) (λ new. absurd (cc new.0))
                (in_cases recovered_of lines event b e (in_from e (recovered (more lines event b)) i));
            only = λ is. absurd (let z = goes.2 in omega (arith, z, is));
            decided = λ is. absurd (let z = goes.2 in omega (arith, z, is));
            gone = λ is. absurd (let z = goes.2 in omega (arith, z, is));
            over = λ h. (let p = end_there (read ended_of [] 0 (more lines event b)) (length (acts lines)) h in
                ⊎_elim (λ old. absurd (let l = ended_low lines p.0 old in let k = p.2 in omega (arith, l, k))) (λ new. absurd (cc new.0))
                (in_cases ended_of lines event b p.0 p.1));
            halted = λ h. (let p = halt_there (read halt_of [] 0 (more lines event b)) begun h in ⊎_elim (λ old. absurd (let l = halts_low
                lines p.0 old in let k = p.3 in omega (arith, l, k))) (λ new. absurd (cc new.0)) (in_cases halt_of lines event b p.0 p.1));
          }

  -- ---- a commit is called, or made, and an abort

  -- the label's action has the number that is read
  id_is : (l : Label) (a : Act) → IsNamed lines l a → option_map (λ (y : Act). y.id) (act_in (acts lines) (name l)) ≡ Some a.id
  id_is l a is = ap (option_map (λ (y : Act). y.id)) is

  -- and no other one has it
  not_id : (l : Label) (a c : Act) → IsNamed lines l c → a.id ≢ c.id →
      option_map (λ (y : Act). y.id) (act_in (acts lines) (name l)) ≢ Some a.id
  not_id l a c is other e = let two : ◌≡◌ {A = Option ℕ} (Some c.id) (Some a.id) = sym (id_is l c is) ∙ e in
      let one : c.id ≡ a.id = cc two in other (sym one)

  calling_tied : (l : Label) → GoesBeside act code x lines (body.Committing l) S T → To (body.Committing l)
  calling_tied l (stay, (a, is, zero_if, changes)) = quiet_tied (body.Committing l) refl refl stay (one_changes act lines event
      (body.Committing l) S T named was.ends l a (called_at (length lines + 1) (S.action (act a.uid))) is refl changes
      (λ acts_it. let zero_now = zero_if acts_it in record {
        called = λ one. absurd (omega (arith, one, zero_now));
        calls = λ e. (refl, omega arith);
        done = λ e. absurd (omega (arith, e, zero_now));
        commits = λ e. absurd (cc e);
        finds = λ e. absurd (cc e);
        only = λ e. absurd (omega (arith, e));
        gone = λ e. absurd (omega (arith, e));
        over = λ e. absurd (omega (arith, e, zero_now));
        ends = λ e. absurd (cc e);
        half = λ e. absurd (omega (arith, e, zero_now));
        halts = λ h e. absurd (cc e);
      })
      (λ c i off off_uid so. stay_moves lines (body.Committing l) c (S.action (act c.uid)) (T.action (act c.uid)) so (not_id l c a is off)
      (λ e. cc e) (λ e. cc e) (λ e. cc e) (λ h e. absurd (cc e))))

  committed_tied : (l : Label) → GoesBeside act code x lines (body.Committed l) S T → To (body.Committed l)
  committed_tied l (stay, (a, is, low_if, changes)) = quiet_tied (body.Committed l) refl refl stay (one_changes act lines event
      (body.Committed l) S T named was.ends l a (committed_at (length lines + 1) (S.action (act a.uid))) is refl changes
      (λ acts_it. let low_now = low_if acts_it in record {
        called = λ one. (refl, omega arith);
        calls = λ e. absurd (cc e);
        done = λ e. absurd (omega (arith, e, low_now));
        commits = λ e. (refl, refl);
        finds = λ e. absurd (cc e);
        only = λ e. inr (inl (id_is l a is), refl);
        gone = λ e. absurd (omega (arith, e));
        over = λ e. omega arith;
        ends = λ e. omega arith;
        half = λ e. omega arith;
        halts = λ h e. absurd (cc e);
      })
      (λ c i off off_uid so. stay_moves lines (body.Committed l) c (S.action (act c.uid)) (T.action (act c.uid)) so (λ e. cc e)
      (not_id l c a is off) (λ e. cc e) (not_id l c a is off) (λ h e. absurd (cc e))))

  aborted_tied : (l : Label) (why : Cause) → GoesBeside act code x lines (body.Aborted l why) S T → To (body.Aborted l why)
  aborted_tied l why (stay, (a, is, low_if, changes)) = quiet_tied (body.Aborted l why) refl refl stay
      (one_changes act lines event (body.Aborted l why) S T named was.ends l a (aborted (S.action (act a.uid))) is refl changes
      (λ acts_it. let low_now = low_if acts_it in record {
        called = λ one. (refl, omega arith);
        calls = λ e. absurd (cc e);
        done = λ e. absurd (low_now e);
        commits = λ e. absurd (cc e);
        finds = λ e. absurd (cc e);
        only = λ e. absurd (omega (arith, e));
        gone = λ e. inr (inl (id_is l a is));
        over = λ e. omega arith;
        ends = λ e. omega arith;
        half = λ e. omega arith;
        halts = λ h e. absurd (cc e);
      })
      (λ c i off off_uid so. stay_moves lines (body.Aborted l why) c (S.action (act c.uid)) (T.action (act c.uid)) so (λ e. cc e)
      (λ e. cc e) (λ e. cc e) (not_id l c a is off) (λ h e. absurd (cc e))))

  ended_tied : (l : Label) → GoesBeside act code x lines (body.Ended l) S T → To (body.Ended l)
  ended_tied l (stay, ends, (c, is, serial)) =
      quiet_tied (body.Ended l) refl refl stay (all_stay act lines event (body.Ended l) S T named was.ends refl ends
      (λ a i plain so. stay_moves lines (body.Ended l) a (S.action (act a.uid)) (T.action (act a.uid)) so (λ e. cc e) (λ e. cc e)
      (λ e. cc e) (off a i plain) (λ h e. absurd (cc e))))
    where
      off : (a : Act) → In a (acts lines) → is_serial a.kind ≡ false →
          option_map (λ (y : Act). y.id) (act_in (acts lines) (name l)) ≢ Some a.id
      off a i plain = not_id l a c is (λ same_id. (let one : a ≡ c = one_id (acts lines) a c (are_numbered lines) i
          (named_in (acts lines) (name l) c is) same_id in differ serial (ap (λ (y : Act). is_serial y.kind) (sym one) ∙ plain)))

  -- ---- a record is found

  recovered_tied : (n : ℕ) (u : Uid) → GoesBeside act code x lines (body.Recovered n u) S T → To (body.Recovered n u)
  recovered_tied n u (stay, inl (three, ends)) = quiet_tied b refl refl stay (all_stay act lines event b S T named was.ends refl ends moves)
    where
      b : Body
      b = body.Recovered n u

      moves : (a : Act) → In a (acts lines) → is_serial a.kind ≡ false → SameEnd (S.action (act a.uid)) (T.action (act a.uid)) →
          Moves lines b a (S.action (act a.uid)) (T.action (act a.uid))
      moves a i plain so = ⊎_elim
          (λ (is : a.uid ≡ u). let k = was.ends a (in_to a (acts lines) i) plain in
          let stage_is : (S.action (act a.uid)).stage ≡ 3 = ap (λ (w : Uid). (S.action (act w)).stage) is ∙ three in record {
            called = λ one. (so.place, (let s = so.stage in omega (arith, one, s)));
            calls = λ e. absurd (cc e);
            done = λ e. (so.stage ∙ e, so.done);
            commits = λ e. absurd (cc e);
            finds = λ e. (so.stage ∙ stage_is, (let l = (k.only stage_is).1 in let d = so.done in omega (arith, l, d)));
            only = λ e. inl stage_is;
            gone = λ e. absurd (let s = so.stage in omega (arith, e, s, stage_is));
            over = λ l. (let s = so.stage in omega (arith, l, s));
            ends = λ e. absurd (cc e);
            half = λ l. (let s = so.stage in omega (arith, l, s));
            halts = λ h e. absurd (cc e);
          })
          (λ (other : a.uid ≢ u). stay_moves lines b a (S.action (act a.uid)) (T.action (act a.uid)) so (λ e. cc e) (λ e. cc e)
          (λ e. (let one : u ≡ a.uid = cc e in other (sym one))) (λ e. cc e) (λ h e. absurd (cc e)))
          (uid_cases a.uid u)
  recovered_tied n u (stay, inr (low_now, changes)) = quiet_tied (body.Recovered n u) refl refl stay ends
    where
      b : Body
      b = body.Recovered n u

      ends : AllEndSo act (more lines event b) T.action
      ends a there plain = ⊎_elim mine other (uid_cases a.uid u)
        where
          i : In a (acts lines)
          i = in_from a (acts lines) (subst (λ us. Contains us a) (acts_more lines event b) there)

          acts_it : is_action (act a.uid) ≡ true
          acts_it = named.actions a (in_to a (acts lines) i) plain

          mine : a.uid ≡ u → EndsSo (more lines event b) a (T.action (act a.uid))
          mine is =
              let low_a : (S.action (act a.uid)).stage ≤ 2 = subst (λ (w : Uid). (S.action (act w)).stage ≤ 2) (sym is) low_now in
              let there_now : T.action (act a.uid) ≡ committed_at (length lines + 1) (S.action (act a.uid)) = subst
              (λ (w : Uid). T.action (act w) ≡ committed_at (length lines + 1) (S.action (act w))) (sym is)
              (changes.one (ap (λ (w : Uid). is_action (act w)) (sym is) ∙ acts_it)) in
              subst (EndsSo (more lines event b) a) (sym there_now)
              (ends_so lines event b a (S.action (act a.uid)) (committed_at (length lines + 1) (S.action (act a.uid))) (record {
                called = λ one. (refl, omega arith);
                calls = λ e. absurd (cc e);
                done = λ e. absurd (omega (arith, e, low_a));
                commits = λ e. absurd (cc e);
                finds = λ e. (refl, omega arith);
                only = λ e. inr (inr (ap Some (sym is)), refl);
                gone = λ e. absurd (omega (arith, e));
                over = λ e. omega arith;
                ends = λ e. absurd (cc e);
                half = λ e. omega arith;
                halts = λ h e. absurd (cc e);
              }) (was.ends a (in_to a (acts lines) i) plain))

          other : a.uid ≢ u → EndsSo (more lines event b) a (T.action (act a.uid))
          other off =
              let same_action : T.action (act a.uid) ≡ S.action (act a.uid) = changes.others (act a.uid) acts_it
              (off_place act lines event b S T named was.ends a.uid u off) in
              ends_so lines event b a (S.action (act a.uid)) (T.action (act a.uid)) (stay_moves lines b a (S.action (act a.uid))
              (T.action (act a.uid)) (subst (SameEnd (S.action (act a.uid))) (sym same_action)
              (record { stage = refl; place = refl; done = refl })) (λ e. cc e) (λ e. cc e) (λ e. (let one : u ≡ a.uid = cc e in
              off (sym one))) (λ e. cc e) (λ h e. absurd (cc e))) (was.ends a (in_to a (acts lines) i) plain)

  -- ---- a node halts

  halted_tied : (n : ℕ) → GoesBeside act code x lines (body.Halted n) S T → To (body.Halted n)
  halted_tied n (stay, elsewhere, here) = quiet_tied b refl refl stay ends
    where
      b : Body
      b = body.Halted n

      halt_is : (h : Halt) → halt_of (acts lines) b ≡ Some h → h.node ≡ n
      halt_is h e = let one : ◌≡◌ {A = Halt} (record { node = n; begun = length (acts lines) }) h = cc e in
          ap (λ (y : Halt). y.node) (sym one)

      number_is : (m k : ℕ) → (m ≡ k) ⊎ (m ≢ k)
      number_is m k = grind arith

      ends : AllEndSo act (more lines event b) T.action
      ends a there plain = ends_so lines event b a (S.action (act a.uid)) (T.action (act a.uid)) (⊎_elim mine (λ off. stay_moves lines b a
          (S.action (act a.uid)) (T.action (act a.uid)) (elsewhere a (in_to a (acts lines) i) plain off) (λ e. cc e) (λ e. cc e) (λ e. cc e)
          (λ e. cc e) (λ h e node. off (sym node ∙ halt_is h e))) (number_is a.uid.node n)) (was.ends a (in_to a (acts lines) i) plain)
        where
          i : In a (acts lines)
          i = in_from a (acts lines) (subst (λ us. Contains us a) (acts_more lines event b) there)

          mine : a.uid.node ≡ n → Moves lines b a (S.action (act a.uid)) (T.action (act a.uid))
          mine node = by (here a (in_to a (acts lines) i) plain node).0
            where
              half_now : 2 ≤ (T.action (act a.uid)).stage
              half_now = (here a (in_to a (acts lines) i) plain node).1

              by : StopsSo (S.action (act a.uid)) (T.action (act a.uid)) → Moves lines b a (S.action (act a.uid)) (T.action (act a.uid))
              by (inl so) = record {
                called = λ one. (so.place, omega (arith, half_now));
                calls = λ e. absurd (cc e);
                done = λ e. (so.stage ∙ e, so.done);
                commits = λ e. absurd (cc e);
                finds = λ e. absurd (cc e);
                only = λ e. inl (sym so.stage ∙ e);
                gone = λ e. inl (sym so.stage ∙ e);
                over = λ l. (let s = so.stage in omega (arith, l, s));
                ends = λ e. absurd (cc e);
                half = λ l. half_now;
                halts = λ h e k. half_now;
              }
              by (inr (low_now, stage, place, done)) = record {
                called = λ one. (place, omega (arith, half_now));
                calls = λ e. absurd (cc e);
                done = λ e. absurd (omega (arith, e, low_now));
                commits = λ e. absurd (cc e);
                finds = λ e. absurd (cc e);
                only = λ e. absurd (⊎_elim (λ four. omega (arith, four, e)) (λ two. omega (arith, two, e)) stage);
                gone = λ e.
                    inr (inr (record { node = n; begun = length (acts lines) }, refl, sym node, low (acts lines) a (are_numbered lines) i));
                over = λ l. absurd (omega (arith, l, low_now));
                ends = λ e. absurd (cc e);
                half = λ l. half_now;
                halts = λ h e k. half_now;
              }

  -- ---- an answer

  ok_tied : (l : Label) (y : ℕ) (o : Op) (r : List ℕ) → GoesBeside act code x lines (body.Ok l y o r) S T → To (body.Ok l y o r)
  ok_tied l y o r (includes, ends, (a, is, calls)) = tied b
      (subst (λ ss. AreCallsOf act code ss T.calls) (sym (said_some x lines event b s refl)) (by calls))
      (subst (AreIncludesOf act (included_on x (more lines event b))) (sym includes)
      (subst (λ ss. AreIncludesOf act ss S.includes) (sym (included_none x lines event b refl)) was.includes))
      (all_stay act lines event b S T named was.ends refl ends (λ c i plain so. stay_moves lines b c (S.action (act c.uid))
      (T.action (act c.uid)) so (λ e. cc e) (λ e. cc e) (λ e. cc e) (λ e. cc e) (λ h e. absurd (cc e))))
    where
      b : Body
      b = body.Ok l y o r

      s : Said
      s = record { path = path (acts lines) (name l); x = y; op = o; answer = r }

      off_number : (m n : ℕ) → m ≢ n → (m == n) ≡ false
      off_number m n other = ⊎_elim (λ (e : (m == n) ≡ true). absurd (other (eqb-true m n e))) (λ e. e) (by_cases (m == n))

      by : ((y ≢ x) × (T.calls ≡ S.calls))
          ⊎ ((y ≡ x) × (v : Value) × (by : places.Act) × (r ≡ answer_text (answer_of o v)) × (T.calls ≡ record {
            act = act a.uid;
            write = writes o;
            line = length lines + 1;
            sees = code v by;
            gives = code (value_after o v) (top (act a.uid));
          } ∷ S.calls)) →
          AreCallsOf act code (cond (y == x) (record { at = length lines; it = s } ∷ said_on x lines) (said_on x lines)) T.calls
      by (inl (other, same_calls)) =
          subst (λ (t : Bool). AreCallsOf act code (cond t (record { at = length lines; it = s } ∷ said_on x lines) (said_on x lines))
          T.calls) (sym (off_number y x other)) (subst (AreCallsOf act code (said_on x lines)) (sym same_calls) was.calls)
      by (inr (about, v, writer, answer, new_calls)) = subst
          (λ (t : Bool). AreCallsOf act code (cond t (record { at = length lines; it = s } ∷ said_on x lines) (said_on x lines)) T.calls)
          (sym (eq-eqb y x about)) (subst (AreCallsOf act code (record { at = length lines; it = s } ∷ said_on x lines)) (sym new_calls) (
            record {
              caller = ap act (sym (path_last (acts lines) (name l) a is));
              write = refl;
              line = refl;
              value = v;
              by = writer;
              answer = sym answer;
              sees = refl;
              gives = refl;
            },
            was.calls,
          ))

  included_tied : (l : Label) (y n : ℕ) → GoesBeside act code x lines (body.Includes l y n) S T → To (body.Includes l y n)
  included_tied l y n (calls, ends, (a, is, includes)) = tied b
      (subst (AreCallsOf act code (said_on x (more lines event b))) (sym calls)
      (subst (λ ss. AreCallsOf act code ss S.calls) (sym (said_none x lines event b refl)) was.calls))
      (subst (λ ss. AreIncludesOf act ss T.includes) (sym (included_some x lines event b s refl)) (by includes))
      (all_stay act lines event b S T named was.ends refl ends (λ c i plain so. stay_moves lines b c (S.action (act c.uid))
      (T.action (act c.uid)) so (λ e. cc e) (λ e. cc e) (λ e. cc e) (λ e. cc e) (λ h e. absurd (cc e))))
    where
      b : Body
      b = body.Includes l y n

      s : Inclusion
      s = record { path = path (acts lines) (name l); x = y; node = n }

      off_number : (m n : ℕ) → m ≢ n → (m == n) ≡ false
      off_number m n other = ⊎_elim (λ (e : (m == n) ≡ true). absurd (other (eqb-true m n e))) (λ e. e) (by_cases (m == n))

      by : ((y ≢ x) × (T.includes ≡ S.includes))
          ⊎ ((y ≡ x) × (grant : ℕ) × (T.includes ≡ record { act = act a.uid; line = length lines + 1; grant = grant } ∷ S.includes)) →
          AreIncludesOf act (cond (y == x) (record { at = length lines; it = s } ∷ included_on x lines) (included_on x lines)) T.includes
      by (inl (other, same_includes)) =
          subst (λ (t : Bool). AreIncludesOf act (cond t (record { at = length lines; it = s } ∷ included_on x lines) (included_on x lines))
          T.includes) (sym (off_number y x other)) (subst (AreIncludesOf act (included_on x lines)) (sym same_includes) was.includes)
      by (inr (about, grant, new_includes)) = subst (λ (t : Bool). AreIncludesOf act
          (cond t (record { at = length lines; it = s } ∷ included_on x lines) (included_on x lines)) T.includes) (sym (eq-eqb y x about))
          (subst (AreIncludesOf act (record { at = length lines; it = s } ∷ included_on x lines)) (sym new_includes)
          (record { by = ap act (sym (path_last (acts lines) (name l) a is)); line = refl }, was.includes))

  -- ---- any line

  any_tied : (b : Body) → GoesBeside act code x lines b S T → To b
  any_tied (body.Began l k u p) goes = began_tied l k u p goes
  any_tied (body.Committing l) goes = calling_tied l goes
  any_tied (body.Committed l) goes = committed_tied l goes
  any_tied (body.Aborted l c) goes = aborted_tied l c goes
  any_tied (body.Ended l) goes = ended_tied l goes
  any_tied (body.Recovered n u) goes = recovered_tied n u goes
  any_tied (body.Halted n) goes = halted_tied n goes
  any_tied (body.Ok l y o r) goes = ok_tied l y o r goes
  any_tied (body.Includes l y n) goes = included_tied l y n goes
  any_tied b goes = plain_tied b (says_none (acts lines) b refl) goes.0 goes.1

pub ties_are_kept : TiesAreKept
ties_are_kept act code values x event lines b S T named first now goes was =
    any_tied act code values x event lines S T named first now was b goes
