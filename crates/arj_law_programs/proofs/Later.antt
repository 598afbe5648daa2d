-- The lines of an event, one after another, as a program hears them.
use Rattle.std.proofs.Common.{◌≡◌, ◌∙◌, ◌<◌, ◌≤◌, ◌⊎◌, inl, inr, ℕ, ◌+◌, List, [], ◌∷◌, ◌++◌, length, map, refl, ap, sym, subst, true}
use Rattle.std.proofs.Common.{false}
use Rattle.std.proofs.Common.{Bool, Option, Some, None, cond, ◌&&◌, ◌||◌, ◌==◌, append-nil, eqb-true, true≢false, if◌then◌else◌, not}
use Rattle.std.proofs.Common.{is_some}
use Rattle.std.specs.Prelude.{⊤}
use Rattle.std.specs.List.{AllByRecursion}
use Rattle.std.specs.Option.{option_map}
use Rattle.std.proofs.lemmas.List.{append_assoc, length-append}
use Rattle.std.proofs.lemmas.List.Elements.{filter-append}
use Rattle.std.proofs.lemmas.List.Folds.{list_any-append}
use Rattle.arj_base.specs.declared.uid.Uid.{Uid}
use Rattle.arj_journal.specs.declared.body.Body.{Body}
use Rattle.arj_journal.specs.declared.body.Body.TheVariants as body
use Rattle.arj_journal.specs.declared.body.Kind.{Kind}
use Rattle.arj_journal.specs.declared.body.Kind.TheVariants as kind
use Rattle.arj_journal.specs.declared.body.Line.{Line}
use Rattle.arj_journal.specs.declared.event.Event.{Event}
use Rattle.arj_text.specs.Label.{name}
use Rattle.arj_text.specs.declared.label.Label.{Label}
use Rattle.arj_model.proofs.Read.{acts-append, read-append}
use Rattle.arj_model.specs.Actions.{Act, Placed, act_in, acts, acts_after, committed, committed_of, id_in, is_over, path, put, top_in}
use Rattle.arj_model.specs.Calls.{committing_of, committings}
use Rattle.arj_model.specs.Own.{commit_line}
use Rattle.arj_model.specs.Past.{Past, asked_of, block}
use Rattle.arj_model.specs.Refusals.{answers_to, asks_by, holds_of, is_answer_to, is_committing, is_serializing, was_called}
use Rattle.arj_start.specs.Kinds.{is_serial}
use Rattle.arj_progrun.specs.Client.{Ask, Begins, BeginsIn, Calls, Client, Commits, Level, Other, halted, hears, inner, inner_of, is_open}
use Rattle.arj_progrun.specs.Client.{is_phase, stands}
use Rattle.arj_progrun.specs.Events.{ask_of}
use Rattle.arj_progrun.specs.declared.phase.Phase.TheVariants as phase
use Rattle.arj_law_programs.proofs.Labels.{IsOf}
use Rattle.arj_law_programs.proofs.Acts.{In, IsGood, all_append, all_in, all_map, found_in, id_low, not_serial, path_alone, same_act}
use Rattle.arj_law_programs.proofs.Acts.{top_or_nested}
use Rattle.arj_law_programs.proofs.Ending.{hears_begun_elsewhere, hears_begun_nested, hears_begun_top, hears_committed_elsewhere}
use Rattle.arj_law_programs.proofs.Ending.{hears_committed_own, hears_committed_top}
use Rattle.arj_law_programs.proofs.Hearing.{count_more, denied, either, hears_aborted, hears_answer, next_count, stays}
use Rattle.arj_law_programs.proofs.Tracking.{AnswersCall, Asks, Counted, Holds, answers_call, tracks_on, mark_of}
use Rattle.arj_law_programs.proofs.Views.{AreCalled, IsCalled, Sound, View, act_begun, all_put, called_begun, next_view, nothing_read}
use Rattle.arj_law_programs.proofs.Views.{read_path}
use Rattle.arj_law_programs.proofs.Views.{sound_answered, sound_begun, sound_ended, sound_still, view, view_more}
use Rattle.arj_law_programs.proofs.Fits.{FirstFits, IsBegunBy, IsOwnCommit, LaterFit, LaterFits}

-- ---- answers are counted

-- how many answers to an action there are
abbrev pub count : List Line → Counted
count lines l = length (answers_to lines l)

pub count_next : (lines : List Line) (x : Line) → count (lines ++ x ∷ []) ≡ next_count x.body (count lines)
count_next lines x i l =
    (ap length (filter-append (λ line. is_answer_to l line.body) lines (x ∷ []))
    ∙ length-append (answers_to lines l) (cond (is_answer_to l x.body) (x ∷ []) []) ∙ one (is_answer_to l x.body)) i
  where
    one : (b : Bool) → length (answers_to lines l) + length (cond b (x ∷ []) []) ≡ length (answers_to lines l) + cond b 1 0
    one true = refl
    one false = refl

-- ---- what a line says, with what is known

abbrev pub LaterFacts : View → Asks → Counted → Body → Type 0
LaterFacts v asks ans (body.Ok l x op answer) = AnswersCall asks ans (name l) x op
LaterFacts v asks ans (body.Committed l) = (a : Act) × (act_in v.acts (name l) ≡ Some a) × (a.kind ≡ kind.Top)
LaterFacts v asks ans (body.Began l k u p) = ⊥
LaterFacts v asks ans (body.Committing l) = ⊥
LaterFacts v asks ans (body.Refused c) = ⊥
LaterFacts v asks ans b = ⊤

-- what is committed is an action, and where that is a top its commit was called
abbrev pub IsEnded : List Act → List (Placed (List Act)) → ℕ → Type 0
IsEnded us ms i = (a : Act) × In a us × (a.id ≡ i) × (a.kind ≡ kind.Top → was_called ms i ≡ true)

was_more : (ms ks : List (Placed (List Act))) (i : ℕ) → was_called ms i ≡ true → was_called (ms ++ ks) i ≡ true
was_more ms ks i holds =
    list_any-append (λ (m : Placed (List Act)). holds_of (λ top. top.id == i) (top_in m.it)) ms ks ∙ (λ j. holds j || was_called ks i)

-- so it is with more lines
pub ended_more : (us vs : List Act) (ms ks : List (Placed (List Act))) (es : List (Placed ℕ)) → ((a : Act) → In a us → In a vs) →
    AllByRecursion (λ (e : Placed ℕ). IsEnded us ms e.it) es → AllByRecursion (λ (e : Placed ℕ). IsEnded vs (ms ++ ks) e.it) es
ended_more us vs ms ks es on all =
    all_map (λ (e : Placed ℕ). IsEnded us ms e.it) (λ e. IsEnded vs (ms ++ ks) e.it)
    (λ e d. (d.0, on d.0 d.1, d.2, λ top. was_more ms ks e.it (d.3 top))) es all

pub ended_still : (us vs : List Act) (ms ks : List (Placed (List Act))) (es : List (Placed ℕ)) → ((a : Act) → In a us → In a vs) →
    AllByRecursion (λ (e : Placed ℕ). IsEnded us ms e.it) es → AllByRecursion (λ (e : Placed ℕ). IsEnded vs (ms ++ ks) e.it) (es ++ [])
ended_still us vs ms ks es on all =
    subst (AllByRecursion (λ (e : Placed ℕ). IsEnded vs (ms ++ ks) e.it)) (sym (append-nil es)) (ended_more us vs ms ks es on all)

-- What stands of a journal.
pub record Stand (lines : List Line) : Type 0 where
  pub sound : Sound (view lines)
  pub called : AreCalled (acts lines) (committings lines)
  pub ended : AllByRecursion (λ (e : Placed ℕ). IsEnded (acts lines) (committings lines) e.it) (committed lines)

-- whose commit was called is a top
called_top : (lines : List Line) → Stand lines → (a : Act) → In a (acts lines) → was_called (committings lines) a.id ≡ true →
    a.kind ≡ kind.Top
called_top lines st a there holds = by (committings lines) st.called holds
  where
    by : (ms : List (Placed (List Act))) → AreCalled (acts lines) ms → was_called ms a.id ≡ true → a.kind ≡ kind.Top
    by [] all never = absurd (true≢false (sym never))
    by (m ∷ ms) all holds = at (all.0) (holds_of (λ top. top.id == a.id) (top_in m.it)) refl holds (λ more. by ms all.1 more)
      where
        at : IsCalled (acts lines) m.it → (b : Bool) → holds_of (λ top. top.id == a.id) (top_in m.it) ≡ b →
            (b || was_called ms a.id) ≡ true → (was_called ms a.id ≡ true → a.kind ≡ kind.Top) → a.kind ≡ kind.Top
        at (x, is, there_too, top) true e holds ih =
            let same : (x.id == a.id) ≡ true = sym (ap (λ p. holds_of (λ top. top.id == a.id) (top_in p)) is
            ∙ (λ i. holds_of (λ top. top.id == a.id) (cond (is_serial (top i)) None (Some x)))) ∙ e in
            let one : x ≡ a = same_act (acts lines) (let s = st.sound in s.numbered) x a there_too there (eqb-true x.id a.id same) in
            sym (ap (λ (y : Act). y.kind) one) ∙ top
        at c false e holds ih = ih holds

committing_top : (lines : List Line) → Stand lines → (l : List ℕ) → is_committing lines l ≡ true →
    (a : Act) × (act_in (acts lines) l ≡ Some a) × (a.kind ≡ kind.Top)
committing_top lines st l holds = by (act_in (acts lines) l) refl holds
  where
    by : (o : Option Act) → act_in (acts lines) l ≡ o →
        holds_of (λ a. was_called (committings lines) a.id && not (is_over lines a)) o ≡ true →
        (a : Act) × (act_in (acts lines) l ≡ Some a) × (a.kind ≡ kind.Top)
    by None e never = absurd (true≢false (sym never))
    by (Some a) e has =
        (a, e, called_top lines st a (let f = found_in (acts lines) l a e in f.0) (first (was_called (committings lines) a.id) _ has))
      where
        first : (p q : Bool) → (p && q) ≡ true → p ≡ true
        first true q e = refl
        first false q e = e

-- and its commit was called
committing_called : (lines : List Line) (l : List ℕ) → is_committing lines l ≡ true →
    (a : Act) × (act_in (acts lines) l ≡ Some a) × (was_called (committings lines) a.id ≡ true)
committing_called lines l holds = by (act_in (acts lines) l) refl holds
  where
    first : (p q : Bool) → (p && q) ≡ true → p ≡ true
    first true q e = refl
    first false q e = e

    by : (o : Option Act) → act_in (acts lines) l ≡ o →
        holds_of (λ a. was_called (committings lines) a.id && not (is_over lines a)) o ≡ true →
        (a : Act) × (act_in (acts lines) l ≡ Some a) × (was_called (committings lines) a.id ≡ true)
    by None e never = absurd (true≢false (sym never))
    by (Some a) e has = (a, e, first (was_called (committings lines) a.id) _ has)

ended_later : (past : Past) (e : Event) (lines : List Line) (b : Body) → Stand lines → LaterFits past e lines b →
    AllByRecursion (λ (x : Placed ℕ). IsEnded (acts_after (acts lines) b)
    (committings lines ++ put (0 + length lines) (committing_of (acts lines) b) []) x.it)
    (committed lines ++ put (0 + length lines) (committed_of (acts lines) b) [])
ended_later past e lines (body.Committed l) st fits =
    all_put (λ (x : Placed ℕ). IsEnded (acts lines) (committings lines ++ []) x.it) (0 + length lines) (id_in (acts lines) (name l))
    (committed lines)
    (ended_more (acts lines) (acts lines) (committings lines) [] (committed lines) (λ a there. there) st.ended) one
  where
    one : (i : ℕ) → id_in (acts lines) (name l) ≡ Some i → IsEnded (acts lines) (committings lines ++ []) i
    one i is =
        let c = committing_called lines (name l) fits in
        let same : Some (let a = c.0 in a.id) ≡ Some i = sym (λ j. option_map (λ (a : Act). a.id) (c.1 j)) ∙ is in
        let at : (let a = c.0 in a.id) ≡ i = cc in (
          c.0,
          (found_in (acts lines) (name l) c.0 c.1).0,
          at,
          λ top. was_more (committings lines) [] i (ap (was_called
              (committings lines)) (sym at) ∙ c.2),
        )
ended_later past e lines (body.Began l k u p) st fits = absurd fits
ended_later past e lines (body.Committing l) st fits = absurd fits
ended_later past e lines (body.Refused c) st fits = absurd fits
ended_later past e lines _ st fits = ended_still (acts lines) (acts lines) (committings lines) [] (committed lines)
    (λ a there. there) st.ended

pub later_facts : (past : Past) (e : Event) (lines : List Line) (b : Body) → Stand lines → LaterFits past e lines b →
    LaterFacts (view lines) (asks_by (past.accepted ++ asked_of past e ∷ [])) (count lines) b
later_facts past e lines (body.Ok l x op answer) st fits =
    answers_call (past.accepted ++ asked_of past e ∷ []) lines (name l) x op fits
later_facts past e lines (body.Committed l) st fits = committing_top lines st (name l) fits
later_facts past e lines (body.Began l k u p) st fits = absurd fits
later_facts past e lines (body.Committing l) st fits = absurd fits
later_facts past e lines (body.Refused c) st fits = absurd fits
later_facts past e lines _ st fits = tt

-- ---- one line

pub more_counted : (v : View) (asks : Asks) (ans bns : Counted) (c : Client) → ((l : List ℕ) → ans l ≤ bns l) → Holds v asks ans c →
    Holds v asks bns c
more_counted v asks ans bns c h holds =
    stays v v asks ans bns c
    (tracks_on v v asks ans bns c.phase c.number c.asked (mark_of c.top) (map mark_of c.blocks) (λ of cs all op. op)
    (λ op holds. holds) h) holds

pub unread : (v : View) (asks : Asks) (ans bns : Counted) (c d : Client) → ((l : List ℕ) → ans l ≤ bns l) → Holds v asks ans d →
    Holds (record { acts = v.acts; said = v.said ++ []; ends = v.ends ++ [] }) asks bns d
unread v asks ans bns c d h holds = subst (λ w. Holds w asks bns d) (nothing_read v) (more_counted v asks ans bns d h holds)

halts : (v : View) (asks : Asks) (ans : Counted) (c : Client) (node : ℕ) → Holds v asks ans c → Holds v asks ans (halted node c)
halts v asks ans c node h =
    either (Holds v asks ans) ((node == c.node) && is_open c)
    (stands (if is_phase phase.Failing c.phase then phase.Failed else phase.GaveUp) c) c
    (λ e. over (is_phase phase.Failing c.phase)) (λ e. h)
  where
    over : (b : Bool) → Holds v asks ans (stands (if b then phase.Failed else phase.GaveUp) c)
    over true = tt
    over false = tt

pub hears_later : (n : ℕ) (v : View) → Sound v → (asks : Asks) (ans : Counted) (own : Bool) (c : Client) (b : Body) →
    LaterFacts v asks ans b →
    Holds v asks ans c → Holds (next_view n b v) asks (next_count b ans) (hears b own c)
hears_later n v sound asks ans own c (body.Ok l x op answer) facts h =
    subst (λ w. Holds w asks (next_count (body.Ok l x op answer) ans) (hears (body.Ok l x op answer) own c))
    (λ i. record {
      acts = v.acts;
      said = v.said ++ record { at = n; it = record { path = path v.acts (name l); x = x; op = op; answer = answer } } ∷ [];
      ends = sym (append-nil v.ends) i;
    })
    (hears_answer n v sound asks ans c l x op answer facts h)
hears_later n v sound asks ans own c (body.Committed l) facts h =
    more_counted (next_view n (body.Committed l) v) asks ans (next_count (body.Committed l) ans) (hears (body.Committed l) own c)
    (count_more (body.Committed l) ans) (hears_committed_top n v sound asks ans c l facts.0 facts.1 facts.2 h)
hears_later n v sound asks ans own c (body.Conflict l holder mode m) facts h =
    subst (λ w. Holds w asks (next_count (body.Conflict l holder mode m) ans) (hears (body.Conflict l holder mode m) own c))
    (nothing_read v)
    (denied v asks ans c l h)
hears_later n v sound asks ans own c (body.Lost l m) facts h =
    subst (λ w. Holds w asks (next_count (body.Lost l m) ans) (hears (body.Lost l m) own c)) (nothing_read v) (denied v asks ans c l h)
hears_later n v sound asks ans own c (body.Changed l m d) facts h =
    subst (λ w. Holds w asks (next_count (body.Changed l m d) ans) (hears (body.Changed l m d) own c)) (nothing_read v)
    (denied v asks ans c l h)
hears_later n v sound asks ans own c (body.Aborted l why) facts h =
    unread v asks ans (next_count (body.Aborted l why) ans) c (hears (body.Aborted l why) own c) (count_more (body.Aborted l why) ans)
    (hears_aborted v asks ans c (name l) h)
hears_later n v sound asks ans own c (body.Halted m) facts h =
    unread v asks ans (next_count (body.Halted m) ans) c (hears (body.Halted m) own c) (count_more (body.Halted m) ans)
    (halts v asks ans c m h)
hears_later n v sound asks ans own c (body.Includes l x m) facts h =
    unread v asks ans (next_count (body.Includes l x m) ans) c c (count_more (body.Includes l x m) ans) h
hears_later n v sound asks ans own c (body.Began l k u p) facts h = absurd facts
hears_later n v sound asks ans own c (body.Committing l) facts h = absurd facts
hears_later n v sound asks ans own c (body.Refused m) facts h = absurd facts
hears_later n v sound asks ans own c b facts h = unread v asks ans (next_count b ans) c c (count_more b ans) h

sound_later : (n : ℕ) (v : View) (asks : Asks) (ans : Counted) (b : Body) → LaterFacts v asks ans b → Sound v → Sound (next_view n b v)
sound_later n v asks ans (body.Ok l x op answer) facts s =
    sound_answered n v (record { path = path v.acts (name l); x = x; op = op; answer = answer }) s (read_path v.acts s.good (name l))
sound_later n v asks ans (body.Committed l) facts s = sound_ended n v (id_in v.acts (name l)) s low
  where
    low : (e : ℕ) → id_in v.acts (name l) ≡ Some e → e < length v.acts
    low e is =
        let same : Some (let a = facts.0 in a.id) ≡ Some e = sym (λ i. option_map (λ (a : Act). a.id) (facts.1 i)) ∙ is in
        let one : (let a = facts.0 in a.id) ≡ e = cc in
        subst (λ k. k < length v.acts) one (id_low v.acts s.numbered facts.0 (let f = found_in v.acts (name l) facts.0 facts.1 in f.0))
sound_later n v asks ans (body.Began l k u p) facts s = absurd facts
sound_later n v asks ans (body.Committing l) facts s = absurd facts
sound_later n v asks ans (body.Refused c) facts s = absurd facts
sound_later n v asks ans _ facts s = sound_still v s

called_later : (n : ℕ) (v : View) (asks : Asks) (ans : Counted) (b : Body) → LaterFacts v asks ans b → (ms : List (Placed (List Act))) →
    AreCalled v.acts ms → AreCalled (acts_after v.acts b) (ms ++ put n (committing_of v.acts b) [])
called_later n v asks ans (body.Began l k u p) facts ms all = absurd facts
called_later n v asks ans (body.Committing l) facts ms all = absurd facts
called_later n v asks ans (body.Refused c) facts ms all = absurd facts
called_later n v asks ans _ facts ms all = subst (AreCalled v.acts) (sym (append-nil ms)) all

-- a line more
pub stand_next : (lines : List Line) (x : Line) → Sound (next_view (0 + length lines) x.body (view lines)) →
    AreCalled (acts_after (acts lines) x.body) (committings lines ++ put (0 + length lines) (committing_of (acts lines) x.body) []) →
    AllByRecursion (λ (e : Placed ℕ). IsEnded (acts_after (acts lines) x.body)
    (committings lines ++ put (0 + length lines) (committing_of (acts lines) x.body) []) e.it)
    (committed lines ++ put (0 + length lines) (committed_of (acts lines) x.body) []) → Stand (lines ++ x ∷ [])
stand_next lines x sound called ended = record {
  sound = subst Sound (sym (view_more lines x)) sound;
  called = subst (λ us. AreCalled us (committings (lines ++ x ∷ []))) (sym (acts-append [] lines x))
      (subst (AreCalled (acts_after (acts lines) x.body)) (sym (read-append committing_of [] 0 lines x)) called);
  ended = subst (λ us. AllByRecursion (λ (e : Placed ℕ). IsEnded us (committings (lines ++ x ∷ [])) e.it) (committed (lines ++ x ∷ [])))
      (sym (acts-append [] lines x))
      (subst (λ ms. AllByRecursion (λ (e : Placed ℕ). IsEnded (acts_after (acts lines) x.body) ms e.it) (committed (lines ++ x ∷ [])))
      (sym (read-append committing_of [] 0 lines x))
      (subst (AllByRecursion (λ (e : Placed ℕ). IsEnded (acts_after (acts lines) x.body)
      (committings lines ++ put (0 + length lines) (committing_of (acts lines) x.body) []) e.it))
      (sym (read-append committed_of [] 0 lines x)) ended));
}

pub holds_next : (lines : List Line) (x : Line) (asks : Asks) (c : Client) →
    Holds (next_view (0 + length lines) x.body (view lines)) asks (next_count x.body (count lines)) c →
    Holds (view (lines ++ x ∷ [])) asks (count (lines ++ x ∷ [])) c
holds_next lines x asks c h =
    subst (λ v. Holds v asks (count (lines ++ x ∷ [])) c) (sym (view_more lines x))
    (subst (λ ans. Holds (next_view (0 + length lines) x.body (view lines)) asks ans c) (sym (count_next lines x)) h)

-- ---- all lines behind the first

-- a program that heard lines
abbrev pub heard_all : Bool → List Body → Client → Client
heard_all own [] c = c
heard_all own (b ∷ bs) c = heard_all own bs (hears b own c)

-- what holds of a journal and a program
abbrev pub Both : Asks → List Line → Client → Type 0
Both asks lines c = Stand lines × Holds (view lines) asks (count lines) c

pub hears_all : (past : Past) (e : Event) (own : Bool) (bs : List Body) (lines : List Line) (c : Client) → LaterFit past e lines bs →
    Both (asks_by (past.accepted ++ asked_of past e ∷ [])) lines c →
    Both (asks_by (past.accepted ++ asked_of past e ∷ [])) (lines ++ block (past.count + 1) bs) (heard_all own bs c)
hears_all past e own [] lines c fit both =
    subst (λ ls. Both (asks_by (past.accepted ++ asked_of past e ∷ [])) ls c) (sym (append-nil lines)) both
hears_all past e own (b ∷ bs) lines c fit (st, h) =
    let asks = asks_by (past.accepted ++ asked_of past e ∷ []) in
    let x : Line = record { event = past.count + 1; body = b } in
    let facts = later_facts past e lines b st fit.0 in
    let next : Both asks (lines ++ x ∷ []) (hears b own c) = (
      stand_next lines x (sound_later (0 + length lines) (view lines) asks (count lines) b facts st.sound)
          (called_later (0 + length lines) (view lines) asks (count lines) b facts (committings lines) st.called)
          (ended_later past e lines b st fit.0),
      holds_next lines x asks (hears b own c)
          (hears_later (0 + length lines) (view lines) st.sound asks (count lines) own c b facts h),
    ) in
    subst (λ ls. Both asks ls (heard_all own bs (hears b own c))) (append_assoc lines (x ∷ []) (block (past.count + 1) bs))
    (hears_all past e own bs (lines ++ x ∷ []) (hears b own c) fit.1 next)

-- ---- who asked

-- what is asked is of the program with this number
abbrev pub NamedBy : ℕ → Ask → Type 0
NamedBy j (Begins m n) = IsOf j m
NamedBy j (BeginsIn m q) = IsOf j m × IsOf j q
NamedBy j (Calls m x op) = IsOf j m
NamedBy j (Commits m) = IsOf j m
NamedBy j Other = ⊥
NamedBy j ask = ⊤

-- it is of some program
abbrev pub IsNamed : Ask → Type 0
IsNamed ask = (j : ℕ) × NamedBy j ask

-- the program has asked it, and stands so
abbrev pub HasAsked : Ask → Client → Type 0
HasAsked (Begins m n) c = (c.phase ≡ phase.Beginning) × (c.blocks ≡ []) × (m ≡ (let t = c.top in t.label))
HasAsked (BeginsIn m q) c = (c.phase ≡ phase.Beginning)
    × ((b : Level) × (bs : List Level) × (c.blocks ≡ b ∷ bs) × (m ≡ b.label) × (q ≡ (let l = inner_of c.top bs in l.label)))
HasAsked (Commits m) c = (c.phase ≡ phase.Committing) × (m ≡ (let l = inner c in l.label))
HasAsked ask c = ⊤

-- it is of another program
abbrev pub IsElsewhere : ℕ → Ask → Type 0
IsElsewhere i (Begins m n) = IsOf i m → ⊥
IsElsewhere i (BeginsIn m q) = IsOf i m → ⊥
IsElsewhere i (Calls m x op) = IsOf i m → ⊥
IsElsewhere i (Commits m) = IsOf i m → ⊥
IsElsewhere i ask = ⊤

abbrev pub Role : Ask → Client → Type 0
Role ask c = HasAsked ask c ⊎ IsElsewhere c.number ask

-- ---- the first line

no_act : (us : List Act) (l : List ℕ) → is_some (act_in us l) ≡ false → act_in us l ≡ None
no_act us l e = by (act_in us l) e
  where
    by : (o : Option Act) → is_some o ≡ false → o ≡ None
    by None e = refl
    by (Some a) e = absurd (true≢false e)

module _ (past : Past) (own : Bool) (c : Client) (st : Stand past.lines) where
  abbrev n : ℕ
  n = 0 + length past.lines

  plain_kind : (l : List ℕ) → is_serializing past.lines l ≡ false
  plain_kind l = by (act_in (acts past.lines) l) refl
    where
      by : (o : Option Act) → act_in (acts past.lines) l ≡ o → holds_of (λ a. is_serial a.kind) o ≡ false
      by None e = refl
      by (Some a) e =
          not_serial a (all_in IsGood (acts past.lines) (let s = st.sound in s.good) a (let f = found_in (acts past.lines) l a e in f.0))

  -- an action begins
  begins_first : (asks : Asks) (ask : Ask) (l : Label) (k : Kind) (u : Uid) (p : Option Label) → IsNamed ask → Role ask c →
      IsBegunBy ask past.lines l k u p → act_in (acts past.lines) (name l) ≡ None → Holds (view past.lines) asks (count past.lines) c →
      IsGood (act_begun (view past.lines) l k u p)
      × Holds (next_view (0 + length past.lines) (body.Began l k u p) (view past.lines)) asks (count past.lines) (hears
      (body.Began l k u p) own c)
  begins_first asks (Begins m node) l k u None named (inl has) by new h = (
    (let j = named.0 in (j, subst (IsOf j) (sym by.0) named.1, by.1)),
    hears_begun_top (0 + length past.lines) (view past.lines) asks (count past.lines) c l k u None st.sound new has.0 has.1 (by.0
        ∙ has.2) refl by.1 h,
  )
  begins_first asks (Begins m node) l k u None named (inr not) by new h = (
    (let j = named.0 in (j, subst (IsOf j) (sym by.0) named.1, by.1)),
    hears_begun_elsewhere (0 + length past.lines) (view past.lines) asks (count past.lines) c l k u None new
        (λ of. not (subst (IsOf c.number) by.0 of)) h,
  )
  begins_first asks (BeginsIn m q) l k u (Some p) named (inl has) by new h =
      let nested : k ≡ kind.Nested = by.2 ∙ (λ i. cond (plain_kind (name p) i) kind.Constituent kind.Nested) in
      let b = has.1 in (
        (let j = named.0 in (
          j,
          subst (IsOf j) (sym by.0) (let z = named.1 in z.0),
          (
            subst (IsOf j) (sym by.1)
                (let z = named.1 in z.1),
            nested,
          ),
        )),
        hears_begun_nested (0 + length past.lines) (view past.lines) asks (count past.lines) c l k u
            (Some p) st.sound new has.0 b.0 b.1 p b.2
            (by.0 ∙ b.3) refl (by.1 ∙ b.4) nested h,
      )
  begins_first asks (BeginsIn m q) l k u (Some p) named (inr not) by new h =
      let nested : k ≡ kind.Nested = by.2 ∙ (λ i. cond (plain_kind (name p) i) kind.Constituent kind.Nested) in (
        (let j = named.0 in (
          j,
          subst (IsOf j) (sym by.0) (let z = named.1 in z.0),
          (
            subst (IsOf j) (sym by.1)
                (let z = named.1 in z.1),
            nested,
          ),
        )),
        hears_begun_elsewhere (0 + length past.lines) (view past.lines) asks (count past.lines) c l k u (Some p) new
            (λ of. not (subst (IsOf c.number) by.0 of)) h,
      )
  begins_first asks (Begins m node) l k u (Some p) named role by new h = absurd by
  begins_first asks (BeginsIn m q) l k u None named role by new h = absurd by
  begins_first asks Other l k u p named role by new h = absurd named.1
  begins_first asks _ l k u p named role by new h = absurd by

  -- whose commit is its own line
  commits_first : (a : Act) (l : Label) → act_in (acts past.lines) (name l) ≡ Some a → commit_line a.kind l ≡ body.Committed l →
      a.kind ≡ kind.Nested
  commits_first a l found line =
      by (top_or_nested a (all_in IsGood (acts past.lines) (let s = st.sound in s.good) a (let f = found_in (acts past.lines)
      (name l) a found in f.0)))
    where
      by : ((a.kind ≡ kind.Top) × (a.parent ≡ None)) ⊎ (a.kind ≡ kind.Nested) → a.kind ≡ kind.Nested
      by (inl (top, none)) =
          let no_way : body.Committing l ≡ body.Committed l = sym (ap (λ k. commit_line k l) top) ∙ line in absurd (cc no_way)
      by (inr nested) = nested

  calls_first : (a : Act) (l : Label) → act_in (acts past.lines) (name l) ≡ Some a → commit_line a.kind l ≡ body.Committing l →
      IsCalled (acts past.lines) (path (acts past.lines) (name l))
  calls_first a l found line =
      by (top_or_nested a (all_in IsGood (acts past.lines) (let s = st.sound in s.good) a (let f = found_in (acts past.lines)
      (name l) a found in f.0)))
    where
      by : ((a.kind ≡ kind.Top) × (a.parent ≡ None)) ⊎ (a.kind ≡ kind.Nested) → IsCalled (acts past.lines) (path (acts past.lines) (name l))
      by (inl (top, none)) =
          (a, path_alone (acts past.lines) (name l) a found none, (let f = found_in (acts past.lines) (name l) a found in f.0), top)
      by (inr nested) =
          let no_way : body.Committed l ≡ body.Committing l = sym (ap (λ k. commit_line k l) nested) ∙ line in absurd (cc no_way)

  -- a commit of its own line
  done_first : (asks : Asks) (ask : Ask) (l : Label) (a : Act) → Role ask c → ask ≡ Commits (name l) →
      act_in (acts past.lines) (name l) ≡ Some a → a.kind ≡ kind.Nested → Holds (view past.lines) asks (count past.lines) c →
      Holds (next_view (0 + length past.lines) (body.Committed l) (view past.lines)) asks (count past.lines) (hears
      (body.Committed l) own c)
  done_first asks ask l a role is found nested h = by (subst (λ q. Role q c) is role)
    where
      by : Role (Commits (name l)) c →
          Holds (next_view (0 + length past.lines) (body.Committed l) (view past.lines)) asks (count past.lines) (hears
          (body.Committed l) own c)
      by (inl has) =
          hears_committed_own (0 + length past.lines) (view past.lines) st.sound asks (count past.lines) c l a found nested has.0
          (sym has.1) h
      by (inr not) =
          hears_committed_elsewhere (0 + length past.lines) (view past.lines) st.sound asks (count past.lines) c l a found not h

  module _ (e : Event) (named : IsNamed (ask_of e)) (role : Role (ask_of e) c) where
    abbrev asks_now : Asks
    asks_now = asks_by (past.accepted ++ asked_of past e ∷ [])

    abbrev First : Body → Type 0
    First b = Both (asks_by (past.accepted ++ asked_of past e ∷ [])) (past.lines ++ record { event = past.count + 1; body = b } ∷ [])
        (hears b own c)

    later_first : (b : Body) → LaterFits past e past.lines b → Holds (view past.lines) asks_now (count past.lines) c → First b
    later_first b fits h =
        let x : Line = record { event = past.count + 1; body = b } in
        let facts = later_facts past e past.lines b st fits in (
          stand_next past.lines x (sound_later (0 + length past.lines) (view past.lines) asks_now (count past.lines) b facts st.sound)
              (called_later (0 + length past.lines) (view past.lines) asks_now (count past.lines) b facts
              (committings past.lines) st.called)
              (ended_later past e past.lines b st fits),
          holds_next past.lines x asks_now (hears b own c)
              (hears_later (0 + length past.lines) (view past.lines) st.sound asks_now (count past.lines) own c b facts h),
        )

    committed_first : (l : Label) → IsOwnCommit past e l (body.Committed l) ⊎ (is_committing past.lines (name l) ≡ true) →
        Holds (view past.lines) asks_now (count past.lines) c → First (body.Committed l)
    committed_first l (inr holds) h = later_first (body.Committed l) holds h
    committed_first l (inl (asked, (a, found, line), open_now)) h =
        let x : Line = record { event = past.count + 1; body = body.Committed l } in
        let nested = commits_first a l found line in (
          stand_next past.lines x (sound_ended (0 + length past.lines) (view past.lines) (id_in (acts past.lines) (name l)) st.sound low)
              (subst (AreCalled (acts past.lines)) (sym (append-nil (committings past.lines))) st.called)
              (all_put (λ (y : Placed ℕ). IsEnded (acts past.lines) (committings past.lines ++ []) y.it) (0 + length past.lines)
              (id_in (acts past.lines) (name l)) (committed past.lines)
              (ended_more (acts past.lines) (acts past.lines) (committings past.lines) [] (committed past.lines)
              (λ z there. there) st.ended)
              (own_end nested)),
          holds_next past.lines x asks_now (hears (body.Committed l) own c)
              (more_counted (next_view (0 + length past.lines) (body.Committed l) (view past.lines)) asks_now (count past.lines)
              (next_count (body.Committed l) (count past.lines)) (hears (body.Committed l) own c) (count_more (body.Committed l)
              (count past.lines))
              (done_first asks_now (ask_of e) l a role asked found nested h)),
        )
      where
        own_end : a.kind ≡ kind.Nested → (k : ℕ) → id_in (acts past.lines) (name l) ≡ Some k →
            IsEnded (acts past.lines) (committings past.lines ++ []) k
        own_end is_nested k is =
            let same : Some a.id ≡ Some k = sym (λ i. option_map (λ (y : Act). y.id) (found i)) ∙ is in
            let one : a.id ≡ k = cc in (
              a,
              (found_in (acts past.lines) (name l) a found).0,
              one,
              λ top. let no_way : kind.Nested ≡ kind.Top = sym is_nested ∙ top in absurd (cc no_way),
            )

        low : (k : ℕ) → id_in (acts past.lines) (name l) ≡ Some k → k < length (acts past.lines)
        low k is =
            let same : Some a.id ≡ Some k = sym (λ i. option_map (λ (y : Act). y.id) (found i)) ∙ is in
            let one : a.id ≡ k = cc in
            subst (λ j. j < length (acts past.lines)) one
            (id_low (acts past.lines) (let s = st.sound in s.numbered) a (let f = found_in (acts past.lines) (name l) a found in f.0))

    pub hears_first : (b : Body) → FirstFits past e b → Holds (view past.lines) asks_now (count past.lines) c → First b
    hears_first (body.Began l k u p) fits h =
        let x : Line = record { event = past.count + 1; body = body.Began l k u p } in
        let new = no_act (acts past.lines) (name l) fits.1 in
        let both = begins_first asks_now (ask_of e) l k u p named role fits.0 new h in (
          stand_next past.lines x (sound_begun (0 + length past.lines) (view past.lines) l k u p st.sound both.0)
              (subst (AreCalled (act_begun (view past.lines) l k u p ∷ acts past.lines)) (sym (append-nil (committings past.lines)))
              (called_begun (acts past.lines) (act_begun (view past.lines) l k u p) (committings past.lines) st.called))
              (ended_still (acts past.lines) (act_begun (view past.lines) l k u p ∷ acts past.lines) (committings past.lines) []
              (committed past.lines)
              (λ a there. inr there) st.ended),
          holds_next past.lines x asks_now (hears (body.Began l k u p) own c)
              (more_counted (next_view (0 + length past.lines) (body.Began l k u p) (view past.lines)) asks_now (count past.lines)
              (next_count (body.Began l k u p) (count past.lines)) (hears (body.Began l k u p) own c)
              (count_more (body.Began l k u p) (count past.lines)) both.1),
        )
    hears_first (body.Committing l) (asked, (a, found, line), open_now) h =
        let x : Line = record { event = past.count + 1; body = body.Committing l } in (
          stand_next past.lines x (sound_still (view past.lines) st.sound)
              (all_append (λ (m : Placed (List Act)). IsCalled (acts past.lines) m.it) (committings past.lines) _ st.called
              (calls_first a l found line, tt))
              (ended_still (acts past.lines) (acts past.lines) (committings past.lines) _ (committed past.lines)
              (λ z there. there) st.ended),
          holds_next past.lines x asks_now c
              (unread (view past.lines) asks_now (count past.lines) (next_count (body.Committing l) (count past.lines)) c c
              (count_more (body.Committing l) (count past.lines)) h),
        )
    hears_first (body.Committed l) fits h = committed_first l fits h
    hears_first (body.Refused k) fits h = absurd fits
    hears_first b fits h = later_first b fits h
