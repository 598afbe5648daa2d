-- The calls of a committed program's top stand together in the serial order.
use Rattle.std.proofs.Common.{◌≡◌, ◌∙◌, ◌<◌, ◌≤◌, ◌⊎◌, inl, inr, ℕ, ◌+◌, List, [], ◌∷◌, ◌++◌, map, refl, ap, sym, subst, arith, true, false}
use Rattle.std.proofs.Common.{Bool}
use Rattle.std.proofs.Common.{Option, Some, None, cond, ◌||◌, ◌==◌, eq-eqb, eqb-true, true≢false}
use Rattle.std.specs.Prelude.{get_or}
use Rattle.std.specs.List.{AllByRecursion, cons_option, filter_map, list_any}
use Rattle.arj_base.specs.Uid.{uid_eq}
use Rattle.arj_base.specs.declared.uid.Uid.{Uid}
use Rattle.arj_class.specs.Table.{answer_of, value_after}
use Rattle.arj_journal.specs.declared.body.Body.{Body}
use Rattle.arj_journal.specs.declared.body.Body.TheVariants as body
use Rattle.arj_journal.specs.declared.body.Kind.TheVariants as kind
use Rattle.arj_journal.specs.declared.body.Line.{Line}
use Rattle.arj_journal.specs.declared.header.Header.{Header}
use Rattle.arj_law.proofs.Common.{Pairwise, all_filter_map, pairwise_filter_map, read_rises}
use Rattle.arj_model.specs.Actions.{Act, Placed, acts, acts_after, committed, has_end, is_committed, put, read, recovered, root_in, top_in}
use Rattle.arj_model.specs.Calls.{Call, Top, committed_calls, committing_of, committings, root_or, top_by, top_of, tops}
use Rattle.arj_model.specs.Last.{first_values}
use Rattle.arj_model.specs.Refusals.{holds_of, was_called}
use Rattle.arj_model.specs.Serial.{Answers, Serial, Values, after, lex, run, serial_key, top_place, with_value}
use Rattle.arj_progrun.specs.Alone.{Answered, MeansItsCalls}
use Rattle.arj_progrun.specs.Client.{Client, Said as heard_call}
use Rattle.arj_progrun.specs.declared.phase.Phase.TheVariants as phase
use Rattle.arj_replay.proofs.Keys.{lex_one}
use Rattle.arj_start.specs.Kinds.{is_serial}
use Rattle.arj_text.specs.Words.{answer_text}
use Rattle.arj_law_programs.proofs.Acts.{all_these}
use Rattle.arj_law_programs.proofs.Counting.{Done}
use Rattle.arj_law_programs.proofs.Keeping.{or_second}
use Rattle.arj_law_programs.proofs.Ordering.{Among, Before, Behind, Parts, Stands, stands_together}
use Rattle.arj_law_programs.proofs.Views.{AreCalled, IsCalled}
use Rattle.arj_law_programs.specs.Alone.{RunsAsAlone}
use Rattle.arj_law_programs.specs.Counts.{calls_of_top, told_by, told_of}

-- ---- places of tops

top_at : (e : List (Placed ℕ)) (f : List (Placed Uid)) (m : Placed (List Act)) (t : Top) → top_of e f m ≡ Some t → t.at ≡ m.at
top_at e f m t is = by (top_in m.it) is
  where
    from : (a : Act) (b : Bool) → (u : Top) → u.at ≡ m.at → cond b (Some u) None ≡ Some t → t.at ≡ m.at
    from a true u at e2 = let same : u ≡ t = cc in sym (ap (λ (x : Top). x.at) same) ∙ at
    from a false u at e2 = absurd (cc e2)

    by : (o : Option Act) → top_by e f m o ≡ Some t → t.at ≡ m.at
    by None never = absurd (cc never)
    by (Some a) e2 = from a (is_committed e f a) _ refl e2

rising : (lines : List Line) → Pairwise (λ (t u : Top). t.at < u.at) (tops lines)
rising lines =
    pairwise_filter_map (λ (s t : Placed (List Act)). s.at < t.at) (λ t u. t.at < u.at) (top_of (committed lines) (recovered lines))
    (λ s t c d lt e g. subst (λ n. n < d.at) (sym (top_at (committed lines) (recovered lines) s c e))
    (subst (λ n. s.at < n) (sym (top_at (committed lines) (recovered lines) t d g)) lt)) (committings lines)
    (read_rises committing_of [] 0 lines)

-- no commit is called in the first line
from_one : (us : List Act) (n : ℕ) (ls : List Line) → 1 ≤ n →
    AllByRecursion (λ (m : Placed (List Act)). 0 < m.at) (read committing_of us n ls)
from_one us n [] low = tt
from_one us n (l ∷ ls) low = by (committing_of us l.body) (from_one (acts_after us l.body) (n + 1) ls (omega (arith, low)))
  where
    by : (o : Option (List Act)) → AllByRecursion (λ (m : Placed (List Act)). 0 < m.at) (read committing_of (acts_after us l.body)
        (n + 1) ls) →
        AllByRecursion (λ (m : Placed (List Act)). 0 < m.at) (put n o (read committing_of (acts_after us l.body) (n + 1) ls))
    by None ih = ih
    by (Some p) ih = (omega (arith, low), ih)

called_late : (us : List Act) (lines : List Line) → AreCalled us (committings lines) →
    AllByRecursion (λ (m : Placed (List Act)). 0 < m.at) (committings lines)
called_late us [] all = tt
called_late us (l ∷ ls) all =
    by (committing_of [] l.body) (none l.body) all (from_one (acts_after [] l.body) (0 + 1) ls (omega arith))
  where
    none : (b : Body) → (p : List Act) → committing_of [] b ≡ Some p → p ≡ []
    none (body.Committing m) p e = let same : [] ≡ p = cc in sym same
    none (body.Began m k u q) p e = absurd (cc e)
    none _ p e = absurd (cc e)

    by : (o : Option (List Act)) → ((p : List Act) → o ≡ Some p → p ≡ []) →
        AreCalled us (put 0 o (read committing_of (acts_after [] l.body) (0 + 1) ls)) →
        AllByRecursion (λ (m : Placed (List Act)). 0 < m.at) (read committing_of (acts_after [] l.body) (0 + 1) ls) →
        AllByRecursion (λ (m : Placed (List Act)). 0 < m.at) (put 0 o (read committing_of (acts_after [] l.body) (0 + 1) ls))
    by None e called ih = ih
    by (Some p) e called ih =
        let c = called.0 in
        let never : [] ≡ (let a = c.0 in a ∷ []) = sym (e p refl) ∙ c.1 in absurd (cc never)

late : (us : List Act) (lines : List Line) → AreCalled us (committings lines) → AllByRecursion (λ (t : Top). 0 < t.at) (tops lines)
late us lines all =
    all_filter_map (λ (m : Placed (List Act)). 0 < m.at) (λ (t : Top). 0 < t.at) (top_of (committed lines) (recovered lines))
    (λ m t low e. subst (λ n. 0 < n) (sym (top_at (committed lines) (recovered lines) m t e)) low) (committings lines)
    (called_late us lines all)

-- the top is among these
abbrev has_top : List Top → ℕ → Bool
has_top ts i = list_any (λ (t : Top). t.id == i) ts

called_there : (us : List Act) (e : List (Placed ℕ)) (f : List (Placed Uid)) (id : ℕ) → has_end e id ≡ true →
    (ms : List (Placed (List Act))) →
    AreCalled us ms → was_called ms id ≡ true → has_top (filter_map (top_of e f) ms) id ≡ true
called_there us e f id done [] all never = absurd (true≢false (sym never))
called_there us e f id done (m ∷ ms) all holds =
    by (holds_of (λ top. top.id == id) (top_in m.it)) refl holds (λ more. called_there us e f id done ms all.1 more) all.0
  where
    found : (a : Act) → m.it ≡ a ∷ [] → a.kind ≡ kind.Top → (a.id == id) ≡ true → (o : Option Top) → top_of e f m ≡ o →
        has_top (cons_option o (filter_map (top_of e f) ms)) id ≡ true
    found a is top same o eq =
        let in_it : top_in m.it ≡ Some a = ap top_in is ∙ (λ i. cond (is_serial (top i)) None (Some a)) in
        let yes_it : is_committed e f a ≡ true =
        (λ i. (ap (has_end e) (eqb-true a.id id same) ∙ done) i || list_any (λ (u : Placed Uid). uid_eq u.it a.uid) f) in
        let made : top_of e f m ≡ top_by e f m (Some a) = ap (top_by e f m) in_it in
        subst (λ p. has_top (cons_option p (filter_map (top_of e f) ms)) id ≡ true)
        (sym (λ i. cond (yes_it i) (Some (record { id = a.id; root = root_or a.id (root_in m.it); at = m.at })) None) ∙ sym made ∙ eq)
        (λ i. same i || has_top (filter_map (top_of e f) ms) id)

    other : (o : Option Top) → has_top (filter_map (top_of e f) ms) id ≡ true →
        has_top (cons_option o (filter_map (top_of e f) ms)) id ≡ true
    other None ih = ih
    other (Some t) ih = or_second (t.id == id) (has_top (filter_map (top_of e f) ms) id) ih

    by : (b : Bool) → holds_of (λ top. top.id == id) (top_in m.it) ≡ b → (b || was_called ms id) ≡ true →
        (was_called ms id ≡ true → has_top (filter_map (top_of e f) ms) id ≡ true) → IsCalled us m.it →
        has_top (cons_option (top_of e f m) (filter_map (top_of e f) ms)) id ≡ true
    by false is more ih c = other (top_of e f m) (ih more)
    by true is more ih (a, alone, there, top) =
        found a alone top (sym (ap (λ p. holds_of (λ x. x.id == id) (top_in p)) alone
        ∙ (λ i. holds_of (λ (x : Act). x.id == id) (cond (is_serial (top i)) None (Some a)))) ∙ is) (top_of e f m) refl

-- ---- places tell tops apart

place_there : (n : ℕ) (ts : List Top) (i : ℕ) → AllByRecursion (λ (t : Top). n < t.at) ts → has_top ts i ≡ true → n < top_place ts i
place_there n [] i all never = absurd (true≢false (sym never))
place_there n (t ∷ ts) i all has = by (t.id == i) has (λ more. place_there n ts i all.1 more)
  where
    by : (b : Bool) → (b || has_top ts i) ≡ true → (has_top ts i ≡ true → n < top_place ts i) → n < cond b t.at (top_place ts i)
    by true e ih = all.0
    by false e ih = ih e

place_any : (n : ℕ) (ts : List Top) (i : ℕ) → AllByRecursion (λ (t : Top). n < t.at) ts → (top_place ts i ≡ 0) ⊎ (n < top_place ts i)
place_any n [] i all = inl refl
place_any n (t ∷ ts) i all = by (t.id == i) (place_any n ts i all.1)
  where
    by : (b : Bool) → (top_place ts i ≡ 0) ⊎ (n < top_place ts i) → (cond b t.at (top_place ts i) ≡ 0) ⊎ (n < cond b t.at (top_place ts i))
    by true ih = inr all.0
    by false ih = ih

place_apart : (ts : List Top) (i j : ℕ) → Pairwise (λ (t u : Top). t.at < u.at) ts → AllByRecursion (λ (t : Top). 0 < t.at) ts →
    has_top ts i ≡ true → (i ≡ j → ⊥) → top_place ts i ≡ top_place ts j → ⊥
place_apart [] i j rise low never apart same = true≢false (sym never)
place_apart (t ∷ ts) i j rise low has apart same =
    by (t.id == i) refl (t.id == j) refl has same (λ more equal. place_apart ts i j rise.1 low.1 more apart equal)
  where
    behind : (p : ℕ) → (p ≡ 0) ⊎ (t.at < p) → t.at ≡ p → ⊥
    behind p (inl none) e = let up : 0 < t.at = low.0 in omega (arith, none, e, up)
    behind p (inr more) e = omega (arith, more, e)

    by : (a : Bool) → (t.id == i) ≡ a → (b : Bool) → (t.id == j) ≡ b → (a || has_top ts i) ≡ true →
        cond a t.at (top_place ts i) ≡ cond b t.at (top_place ts j) →
        (has_top ts i ≡ true → top_place ts i ≡ top_place ts j → ⊥) → ⊥
    by true is true are h e ih = apart (sym (eqb-true t.id i is) ∙ eqb-true t.id j are)
    by true is false are h e ih = behind (top_place ts j) (place_any t.at ts j rise.0) e
    by false is true are h e ih = let more = place_there t.at ts i rise.0 h in omega (arith, more, e)
    by false is false are h e ih = ih h e

-- ---- calls

module _ (lines : List Line) (id : ℕ) (has : has_top (tops lines) id ≡ true) (low : AllByRecursion (λ (t : Top). 0 < t.at)
    (tops lines)) where
  abbrev key_of : Call → List ℕ
  key_of x = serial_key (tops lines) x.top

  stands_so : (x : Call) →
      Stands ((x.top == id) ≡ false × (lex (serial_key (tops lines) x.top) (serial_key (tops lines) id) ≡ true))
      ((x.top == id) ≡ false × (lex (serial_key (tops lines) id) (serial_key (tops lines) x.top) ≡ true))
      (((x.top == id) ≡ true) × (serial_key (tops lines) x.top ≡ serial_key (tops lines) id))
  stands_so x = by (x.top == id) refl (lex (serial_key (tops lines) x.top) (serial_key (tops lines) id)) refl
      (lex (serial_key (tops lines) id) (serial_key (tops lines) x.top)) refl
    where
      by : (b : Bool) → (x.top == id) ≡ b → (c : Bool) → lex (serial_key (tops lines) x.top) (serial_key (tops lines) id) ≡ c →
          (d : Bool) → lex (serial_key (tops lines) id) (serial_key (tops lines) x.top) ≡ d →
          Stands (((x.top == id) ≡ false) × (lex (serial_key (tops lines) x.top) (serial_key (tops lines) id) ≡ true))
          (((x.top == id) ≡ false) × (lex (serial_key (tops lines) id) (serial_key (tops lines) x.top) ≡ true))
          (((x.top == id) ≡ true) × (serial_key (tops lines) x.top ≡ serial_key (tops lines) id))
      by true is c e d g = Among (is, ap (serial_key (tops lines)) (eqb-true x.top id is))
      by false is true e d g = Before (is, e)
      by false is false e true g = Behind (is, g)
      by false is false e false g =
          let same = lex_one (serial_key (tops lines) x.top) (serial_key (tops lines) id) e g in
          let place : top_place (tops lines) id ≡ top_place (tops lines) x.top = sym (ap (λ ks. get_or ks 1 0) same) in
          absurd (place_apart (tops lines) id x.top (rising lines) low has
          (λ one. true≢false (sym (eq-eqb x.top id (sym one)) ∙ is)) place)

  pub parts : Parts key_of (serial_key (tops lines) id) (λ (x : Call). x.top == id) (committed_calls lines)
  parts = stands_together key_of (serial_key (tops lines) id) (λ (x : Call). x.top == id) (committed_calls lines)
      (all_these _ stands_so (committed_calls lines))

-- ---- answers

answers_behind : (values : Values) (xs ys : List Call) → Answers values (xs ++ ys) → Answers (run values xs) ys
answers_behind values [] ys a = a
answers_behind values (x ∷ xs) ys a = answers_behind (after values x) xs ys a.1

answers_front : (values : Values) (xs ys : List Call) → Answers values (xs ++ ys) → Answers values xs
answers_front values [] ys a = tt
answers_front values (x ∷ xs) ys a = (a.0, answers_front (after values x) xs ys a.1)

answered_so : (cs : List Call) (ss : List heard_call) → map told_of cs ≡ map told_by ss → (values : Values) → Answers values cs →
    Answered values ss
answered_so [] [] e values a = tt
answered_so [] (s ∷ ss) e values a = absurd (cc e)
answered_so (c ∷ cs) [] e values a = absurd (cc e)
answered_so (c ∷ cs) (s ∷ ss) e values a =
    let one : told_of c ≡ told_by s = cc in
    let rest : map told_of cs ≡ map told_by ss = cc in
    let x : c.x ≡ s.x = ap (λ t. t.x) one in
    let op : c.op ≡ s.op = ap (λ t. t.op) one in
    let answer : c.answer ≡ s.answer = ap (λ t. t.answer) one in (
      (λ i. answer_text (answer_of (sym op i) (values (sym x i)))) ∙ a.0 ∙ answer,
      answered_so cs ss rest (with_value values s.x (value_after s.op (values s.x)))
          (subst (λ v. Answers v cs) (λ i. with_value values (x i) (value_after (op i) (values (x i)))) a.1),
    )

-- ---- one after another

runs_alone : (hd : Header) (lines : List Line) (c : Client) → AreCalled (acts lines) (committings lines) → Serial (first_values hd) lines →
    MeansItsCalls c → (c.phase ≡ phase.Committed → Done lines c) → RunsAsAlone hd lines c
runs_alone hd lines c called serial means done is =
    let d = done is in
    let t = d.tops in
    let has = called_there (acts lines) (committed lines) (recovered lines) t.id t.done (committings lines) called d.called in
    let p = parts lines t.id has (late (acts lines) lines called) in
    let answers = answers_front (run (first_values hd) p.before) (calls_of_top lines t.id) p.after
    (answers_behind (first_values hd) p.before (calls_of_top lines t.id ++ p.after) (subst (Answers (first_values hd)) p.cut serial)) in
    let answered = answered_so (calls_of_top lines t.id) (let z = c.top in z.said) t.calls (run (first_values hd) p.before) answers in
    record {
      id = t.id;
      there = t.there;
      before = p.before;
      after = p.after;
      order = p.cut;
      calls = t.calls;
      alone = (answered, means is (run (first_values hd) p.before) answered);
    }

pub all_run_alone : (hd : Header) (lines : List Line) (cs : List Client) → AreCalled (acts lines) (committings lines) →
    Serial (first_values hd) lines → AllByRecursion MeansItsCalls cs → AllByRecursion (λ (c : Client). c.phase ≡ phase.Committed →
    Done lines c) cs →
    AllByRecursion (RunsAsAlone hd lines) cs
all_run_alone hd lines [] called serial means done = tt
all_run_alone hd lines (c ∷ cs) called serial means done =
    (runs_alone hd lines c called serial means.0 done.0, all_run_alone hd lines cs called serial means.1 done.1)
