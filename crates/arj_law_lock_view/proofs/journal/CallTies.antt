-- A coordinator's lines about calls and includes.
use Rattle.arj_law_parts.proofs.Words
use Words.{◌≡◌, ◌≢◌, ◌≤◌, ◌⊎◌, ◌==◌, ◌&&◌, ℕ, ◌+◌, ◌*◌, List, [], ◌∷◌, ◌++◌, length, Bool, true, false, cond, Option, Some, None, refl, sym}
use Words.{◌∙◌, ap, subst, inl, inr, ⊎_elim, arith, Body, Answer, BoundReply, Label, ObjectState, Op, Uid, Value, answer_of, answer_text}
use Words.{value_after, writes, Reply, actor, end_line, kept_at, store_of, At, AtActivate, AtBind, AtInvoke, AtLoad, AtNote, CallEnd}
use Words.{CallStep, Ended, Goal, Include as IncludeStore, Known, Moved, On, Run, Steps, answered, bound_answer, bound_by, given_up}
use Words.{load_from, made_by, or_lost, other_binding, same_binding, with_inc, Coord, Doing, is_call, is_free, binding_eq, binding_less}
use Words.{Branch, root_of, numbered}
use Words.bound
use Words.invoked
use Words.loaded
use Words.recorded
use Words.calls as protocol
use Rattle.arj_law_lock_view.proofs.Terms
use Terms.{Act, root, top, State, by_cases, differ, Paths, Acts, IsAtWork, IsWaiting, OnlyCalled, WritesLine, WritesNone, Codes, KeepsEnds}
use Terms.{SameEnd, OnlyIncluded, WritesInclude, included_by, SeesWhole, is_early, IsLabelled, IsOnPage, Page, IsTiedToLines, CallsStay}
use Terms.{EndsStay, is_plain}
use Terms.body
use Rattle.arj_law_lock.specs.machine.State.{Action}
use Rattle.arj_law_lock_view.proofs.journal.{Pages.behind_none, Pages.none_tied, Pages.one_tied, Pages.same_stay, Ties.plain_goes}
use Rattle.arj_law_lock_view.specs.view.Calling.{IsCalling}
use Rattle.arj_protocol.specs.Call.{load_given_up}

-- ---- what a step of a call says

-- the step has no answer: it goes on, or ends by a line that is nothing to the machine
abbrev is_bare_end : CallEnd → Bool
is_bare_end (protocol.Answered a) = false
is_bare_end (protocol.Included st) = false
is_bare_end e = true

abbrev is_bare : CallStep → Bool
is_bare (On at) = true
is_bare (Ended e) = is_bare_end e

bare_inc : (i : ℕ) (k : Known) (at : At) (o : Option ℕ) → is_bare (let m = with_inc i k at o in m.step) ≡ true
bare_inc i k at None = refl
bare_inc i k at (Some first) = by (first == i)
  where
    by : (t : Bool) → is_bare (let m = cond t (protocol.moves (Some k) at)
        (protocol.finds (Some k) (protocol.Changed k.server (protocol.two_incs first i))) in m.step) ≡ true
    by true = refl
    by false = refl

bare_same : (old k : Known) (at : At) (o : Option ℕ) → is_bare (let m = same_binding old k at o in m.step) ≡ true
bare_same old k at None = refl
bare_same old k at (Some i) = bare_inc i (protocol.named_again old k) at old.inc

bare_other : (free : Bool) (old k : Known) (at : At) → is_bare (let m = other_binding free old k at in m.step) ≡ true
bare_other free old k at = by (free && binding_less old.binding k.binding)
  where
    by : (t : Bool) → is_bare (let m = cond t (protocol.moves (Some k) at)
        (protocol.finds (Some old) (protocol.Changed 1 (protocol.two_bindings old.binding k.binding))) in m.step) ≡ true
    by true = refl
    by false = refl

bare_bound : (free : Bool) (k : Known) (at : At) (o : Option Known) → is_bare (let m = bound_by free k at o in m.step) ≡ true
bare_bound free k at None = refl
bare_bound free k at (Some old) = by (binding_eq old.binding k.binding)
  where
    by : (t : Bool) → is_bare (let m = cond t (same_binding old k at k.inc) (other_binding free old k at) in m.step) ≡ true
    by true = bare_same old k at k.inc
    by false = bare_other free old k at

bare_lost : (kept : Option Known) (o : Option At) → is_bare (let m = or_lost kept o in m.step) ≡ true
bare_lost kept None = refl
bare_lost kept (Some at) = refl

bare_made : (free : Bool) (k : Known) (kept : Option Known) (o : Option At) → is_bare (let m = made_by free k kept o in m.step) ≡ true
bare_made free k kept None = refl
bare_made free k kept (Some at) = bare_bound free k at kept

bare_active : (k : Known) (i : ℕ) (o : Option Known) → is_bare (let m = protocol.activated_by k i o in m.step) ≡ true
bare_active k i None = refl
bare_active k i (Some old) = by (binding_eq old.binding k.binding)
  where
    by : (t : Bool) →
        is_bare (let m = cond t (with_inc i old (AtNote k i) old.inc) (protocol.moves (Some old) (AtNote k i)) in m.step) ≡ true
    by true = bare_inc i old (AtNote k i) old.inc
    by false = refl

bare_load : (k : Known) (n : ℕ) (ns : List ℕ) → is_bare (load_given_up k n ns) ≡ true
bare_load k n [] = refl
bare_load k n (m ∷ ns) = refl

pub bare_given : (at : At) → is_bare (given_up at) ≡ true
bare_given (AtBind avoid) = refl
bare_given (AtLoad k n rest) = bare_load k n rest
bare_given (AtActivate k st) = refl
bare_given (AtNote k i) = refl
bare_given (AtInvoke k i) = refl

bare_bind : (free : Bool) (kept : Option Known) (r : BoundReply) → is_bare (let m = bound_answer free kept r in m.step) ≡ true
bare_bind free kept (bound.Live w server i g stores) =
    bare_bound free (protocol.live_known w server i g stores) (AtInvoke (protocol.live_known w server i g stores) i) kept
bare_bind free kept (bound.Make w server g stores) =
    bare_made free (protocol.made_known w server g stores) kept (load_from (protocol.made_known w server g stores) stores)
bare_bind free kept (bound.Write g stores) = bare_lost kept (load_from (protocol.write_known g stores) stores)
bare_bind free kept (bound.Conflict h m) = refl

-- the lines of a step
abbrev pub call_says : Steps → CallStep → Label → List Body
call_says s (On at) l = []
call_says s (Ended e) l = end_line s.x s.goal e l ∷ []

plain_end : (x : ℕ) (g : Goal) (e : CallEnd) (l : Label) → is_bare_end e ≡ true → is_plain (end_line x g e l) ≡ true
plain_end x g (protocol.Answered a) l h = absurd (cc h)
plain_end x g (protocol.Included st) l h = absurd (cc h)
plain_end x g (protocol.Conflict h m n) l is = refl
plain_end x g (protocol.Changed n w) l is = refl
plain_end x g (protocol.Lost n sent) l is = refl

module _ (act : Acts) (code : Codes) (x : ℕ) (p : Page) (c : Coord) (S T : State) (on : IsOnPage act code x p c S) where
  abbrev n : ℕ
  n = length p.lines + 1

  now_S : S.now ≤ n
  now_S = let t = on.tied in t.now

  -- a step without an answer
  pub bare_tied : (s : Steps) (t : CallStep) (l : Label) → is_bare t ≡ true → T.initial ≡ S.initial → CallsStay S T → EndsStay S T →
      T.now ≡ S.now → IsTiedToLines act code p.values x (p.lines ++ numbered p.event (call_says s t l)) T
  bare_tied s (On at) l bare first calls ends same = subst (λ (q : Page). IsTiedToLines act code p.values x q.lines T) (sym (behind_none p))
      (none_tied act code x p c S T on first (let k = now_S in omega (arith, k, same)) calls ends)
  bare_tied s (Ended e) l bare first calls ends same = one_tied act code x p c S T on (end_line s.x s.goal e l) first (let k = now_S in
      omega (arith, k, same)) (plain_goes act code x p.lines (end_line s.x s.goal e l) S T (plain_end s.x s.goal e l bare) calls ends)

-- ---- a call begins, or is given up

module _ (unit : ℕ) (S T : State) (only : OnlyCalled unit S T) where
  first_called : T.initial ≡ S.initial
  first_called = ap (λ (s : State). s.initial) only.rest

  includes_called : T.includes ≡ S.includes
  includes_called = ap (λ (s : State). s.includes) only.rest

stay_called : (S T : State) → KeepsEnds S T → EndsStay S T
stay_called S T keeps a its = (let k = keeps a in k.end)

-- nothing is said, and no call comes
pub none_called : (act : Acts) (code : Codes) (x : ℕ) (p : Page) (c : Coord) (S T : State) → IsOnPage act code x p c S → (unit : ℕ) →
    OnlyCalled unit S T → WritesNone S T → IsTiedToLines act code p.values x p.lines T
none_called act code x p c S T on unit only none = none_tied act code x p c S T on (first_called unit S T only) (let t = on.tied in
    let k = t.now in let e = none.1 in omega (arith, k, e)) (none.0, includes_called unit S T only) (stay_called S T none.2)

-- whose step it is
module _ (act : Acts) (paths : Paths) (c : Coord) (u : Uid) (b : Branch) (d : Doing) (s : Steps) (work : IsAtWork act paths c u b d)
    (path : s.path ≡ b.path) where
  its_actor : actor s.path ≡ u
  its_actor = ap actor path ∙ work.steady.good.tree.lists.places u b work.there

-- what is given up says, and no call comes
pub lost_said : (act : Acts) (code : Codes) (x : ℕ) (p : Page) (c : Coord) (S T : State) → IsOnPage act code x p c S → (unit : ℕ) →
    OnlyCalled unit S T → WritesNone S T → (s : Steps) (l : Label) →
    IsTiedToLines act code p.values x (p.lines ++ numbered p.event (call_says s (given_up s.at) l)) T
lost_said act code x p c S T on unit only none s l = bare_tied act code x p c S T on s (given_up s.at) l (bare_given s.at)
    (first_called unit S T only) (none.0, includes_called unit S T only) (stay_called S T none.2) none.1

-- ---- an answer to a call on the object

-- the call is answered, and has its line; or nothing comes
Outcome : Acts → Codes → ℕ → Steps → Op → State → State → CallStep → Type 0
Outcome act code p s o S T t =
    ((a : Answer) × (v : Value) × (by : Act) × (t ≡ Ended (protocol.Answered a)) × (a ≡ answer_of o v) × (T.calls ≡ record {
      act = act (actor s.path);
      write = writes o;
      line = p;
      sees = code v by;
      gives = code (value_after o v) (top (act (actor s.path)));
    } ∷ S.calls) × (T.now ≡ p + 1) × KeepsEnds S T)
    ⊎ ((is_bare t ≡ true) × ((T.calls ≡ S.calls) × (T.now ≡ S.now) × KeepsEnds S T))

outcome : (act : Acts) (code : Codes) (p : ℕ) (s : Steps) (o : Op) (S T : State) (free : Bool) (kept : Option Known) (at : At) (r : Reply) →
    WritesLine act code p s o S T at r → Outcome act code p s o S T (let m = answered free kept (Run o) at r in m.step)
unfolding Outcome
outcome act code p s o S T free kept (AtInvoke k i) (Reply.Invoked (invoked.Answered a)) w = inl (a, w.0, w.1, refl, w.2, w.3, w.4, w.5)
outcome act code p s o S T free kept (AtInvoke k i) (Reply.Invoked (invoked.Conflict h m)) w = inr (refl, w)
outcome act code p s o S T free kept (AtInvoke k i) (Reply.Invoked (invoked.Changed h)) w = inr (refl, w)
outcome act code p s o S T free kept (AtBind avoid) (Reply.Bound r) w = inr (bare_bind free kept r, w)
outcome act code p s o S T free kept (AtLoad k n rest) (Reply.Loaded (loaded.State st)) w = inr (refl, w)
outcome act code p s o S T free kept (AtLoad k n rest) (Reply.Loaded (loaded.InDoubt h)) w = inr (refl, w)
outcome act code p s o S T free kept (AtActivate k st) (Reply.Activated i) w = inr (bare_active k i kept, w)
outcome act code p s o S T free kept (AtNote k i) (Reply.Noted recorded.Yes) w = inr (refl, w)
outcome act code p s o S T free kept (AtNote k i) (Reply.Noted (recorded.Changed h)) w = inr (refl, w)
outcome act code p s o S T free kept at r w = inr (refl, w)

-- what is found at an answer
abbrev pub moved_at : Steps → Coord → Reply → Moved
moved_at s c r = answered (is_free (root_of s.path) (actor s.path) s.x c) (kept_at s c) s.goal s.at r

-- a step at which a call on the object is answered
pub answer_said : (act : Acts) (code : Codes) (paths : Paths) (x : ℕ) (p : Page) (c : Coord) (u : Uid) (b : Branch) (d : Doing) (s : Steps)
    (o : Op) (r : Reply) (S T : State) → IsAtWork act paths c u b d → IsCalling x b d s o → IsOnPage act code x p c S
    → OnlyCalled (root (act u)) S T → WritesLine act code (length p.lines + 1) s o S T s.at r →
    IsTiedToLines act code p.values x (p.lines ++ numbered p.event (call_says s (let m = moved_at s c r in m.step) d.label)) T
unfolding Outcome
answer_said act code paths x p c u b d s o r S T work calling on only heard =
    by (subst (λ (g : Goal). Outcome act code (length p.lines + 1) s o S T (let m = answered free (kept_at s c) g s.at r in m.step))
    (sym calling.goal) (outcome act code (length p.lines + 1) s o S T free (kept_at s c) s.at r heard))
  where
    free : Bool
    free = is_free (root_of s.path) (actor s.path) s.x c

    mv : Moved
    mv = moved_at s c r

    l : IsLabelled p.lines u b d
    l = on.labels u b d work.there work.works

    by : Outcome act code (length p.lines + 1) s o S T mv.step →
        IsTiedToLines act code p.values x (p.lines ++ numbered p.event (call_says s mv.step d.label)) T
    by (inr (bare, (calls, now, keeps))) = bare_tied act code x p c S T on s mv.step d.label bare (first_called (root (act u)) S T only)
        (calls, includes_called (root (act u)) S T only) (stay_called S T keeps) now
    by (inl (a, v, writer, is, fits, calls, now, keeps)) = subst (λ bs. IsTiedToLines act code p.values x (p.lines ++ numbered p.event bs)
        T) (sym ((λ i. call_says s (is i) d.label) ∙ (λ i. end_line s.x (calling.goal i) (protocol.Answered a) d.label ∷ [])))
        (one_tied act code x p c S T on (body.Ok d.label s.x o (answer_text a)) (first_called (root (act u)) S T only)
        (omega (arith, now)) (
          includes_called (root (act u)) S T only,
          stay_called S T keeps,
          (
            l.0,
            l.1,
            inr (
              calling.about,
              v,
              writer,
              ap answer_text fits,
              calls ∙ (λ i. record {
                act = act ((its_actor act paths c u b d s work calling.path ∙ sym l.2) i);
                write = writes o;
                line = length p.lines + 1;
                sees = code v writer;
                gives = code (value_after o v) (top (act ((its_actor act paths c u b d s work calling.path ∙ sym l.2) i)));
              } ∷ S.calls),
            ),
          ),
        ))

-- ---- an answer about another object

-- it says what is nothing to the machine
pub other_said : (act : Acts) (code : Codes) (paths : Paths) (x : ℕ) (p : Page) (c : Coord) (u : Uid) (b : Branch) (d : Doing) (s : Steps)
    (r : Reply) (S : State) → IsAtWork act paths c u b d → s.x ≢ x → IsOnPage act code x p c S
    → IsTiedToLines act code p.values x (p.lines ++ numbered p.event (call_says s (let m = moved_at s c r in m.step) d.label)) S
other_said act code paths x p c u b d s r S work other on = by (let m = moved_at s c r in m.step)
  where
    l : IsLabelled p.lines u b d
    l = on.labels u b d work.there work.works

    now_more : S.now ≤ length p.lines + 2
    now_more = let t = on.tied in let k = t.now in omega (arith, k)

    includes_line : (k : ℕ) → IsTiedToLines act code p.values x (p.lines ++ numbered p.event (body.Includes d.label s.x k ∷ [])) S
    includes_line k =
        one_tied act code x p c S S on (body.Includes d.label s.x k) refl now_more (refl, same_stay S, (l.0, l.1, inl (other, refl)))

    answer : (g : Goal) (a : Answer) →
        IsTiedToLines act code p.values x (p.lines ++ numbered p.event (end_line s.x g (protocol.Answered a) d.label ∷ [])) S
    answer (Run o) a = one_tied act code x p c S S on (body.Ok d.label s.x o (answer_text a)) refl now_more
        (refl, same_stay S, (l.0, l.1, inl (other, refl)))
    answer (IncludeStore k) a = includes_line k

    by : (t : CallStep) → IsTiedToLines act code p.values x (p.lines ++ numbered p.event (call_says s t d.label)) S
    by (On at) = bare_tied act code x p c S S on s (On at) d.label refl refl (refl, refl) (same_stay S) refl
    by (Ended (protocol.Answered a)) = answer s.goal a
    by (Ended (protocol.Included st)) = includes_line (store_of s.goal)
    by (Ended (protocol.Conflict h m n)) =
        bare_tied act code x p c S S on s (Ended (protocol.Conflict h m n)) d.label refl refl (refl, refl) (same_stay S) refl
    by (Ended (protocol.Changed n w)) =
        bare_tied act code x p c S S on s (Ended (protocol.Changed n w)) d.label refl refl (refl, refl) (same_stay S) refl
    by (Ended (protocol.Lost n sent)) =
        bare_tied act code x p c S S on s (Ended (protocol.Lost n sent)) d.label refl refl (refl, refl) (same_stay S) refl

-- ---- an answer to an include on the object

Included : Acts → ℕ → Steps → State → State → CallStep → Type 0
Included act p s S T t =
    ((st : ObjectState) × (grant : ℕ) × (t ≡ Ended (protocol.Included st))
    × (T.includes ≡ record { act = act (actor s.path); line = p; grant = grant } ∷ S.includes) × (T.now ≡ p + 1))
    ⊎ ((is_bare t ≡ true) × ((T.includes ≡ S.includes) × (T.now ≡ S.now)))

included_so : (act : Acts) (p : ℕ) (s : Steps) (k : ℕ) (S T : State) (free : Bool) (kept : Option Known) (at : At) (r : Reply) →
    is_early at ≡ true → WritesInclude act p s (included_by at r) S T →
    Included act p s S T (let m = answered free kept (IncludeStore k) at r in m.step)
unfolding Included
included_so act p s k S T free kept (AtLoad q n rest) (Reply.Loaded (loaded.State st)) early w =
    inl (st, q.grant * 4294967296, refl, w.0, w.1)
included_so act p s k S T free kept (AtLoad q n rest) (Reply.Loaded (loaded.InDoubt h)) early w = inr (refl, w)
included_so act p s k S T free kept (AtBind avoid) (Reply.Bound r) early w = inr (bare_bind free kept r, w)
included_so act p s k S T free kept (AtActivate q st) r early w = absurd (cc early)
included_so act p s k S T free kept (AtNote q i) r early w = absurd (cc early)
included_so act p s k S T free kept (AtInvoke q i) r early w = absurd (cc early)
included_so act p s k S T free kept at r early w = inr (refl, w)

-- a step at which an include of the object is answered
pub include_said : (act : Acts) (code : Codes) (paths : Paths) (x store : ℕ) (p : Page) (c : Coord) (u : Uid) (b : Branch) (d : Doing)
    (s : Steps) (r : Reply) (S T : State) → IsAtWork act paths c u b d → IsWaiting b d s → s.x ≡ x → s.goal ≡ IncludeStore store →
    IsOnPage act code x p c S → SeesWhole act code x c S
    → OnlyIncluded S T → WritesInclude act (length p.lines + 1) s (included_by s.at r) S T →
    IsTiedToLines act code p.values x (p.lines ++ numbered p.event (call_says s (let m = moved_at s c r in m.step) d.label)) T
unfolding Included
include_said act code paths x store p c u b d s r S T work waiting about goal on whole only heard =
    by (subst (λ (g : Goal). Included act (length p.lines + 1) s S T (let m = answered free (kept_at s c) g s.at r in m.step)) (sym goal)
    (included_so act (length p.lines + 1) s store S T free (kept_at s c) s.at r early heard))
  where
    free : Bool
    free = is_free (root_of s.path) (actor s.path) s.x c

    mv : Moved
    mv = moved_at s c r

    l : IsLabelled p.lines u b d
    l = on.labels u b d work.there work.works

    early : is_early s.at ≡ true
    early = ⊎_elim (λ is. is) (λ isnt. absurd (let k = whole.coord in
        differ (k.plain u d s work.works waiting.calling about isnt) (ap is_call goal))) (by_cases (is_early s.at))

    stays : EndsStay S T
    stays a its = subst (λ (f : Act → Action). SameEnd (S.action a) (f a)) (sym (ap (λ (v : State). v.action) only))
        (record { stage = refl; place = refl; done = refl })

    by : Included act (length p.lines + 1) s S T mv.step →
        IsTiedToLines act code p.values x (p.lines ++ numbered p.event (call_says s mv.step d.label)) T
    by (inr (bare, (includes, now))) = bare_tied act code x p c S T on s mv.step d.label bare (ap (λ (v : State). v.initial) only)
        (ap (λ (v : State). v.calls) only, includes) stays now
    by (inl (st, grant, is, includes, now)) =
        subst (λ bs. IsTiedToLines act code p.values x (p.lines ++ numbered p.event bs) T) (sym ((λ i. call_says s (is i) d.label)))
        (one_tied act code x p c S T on (body.Includes d.label s.x (store_of s.goal)) (ap (λ (v : State). v.initial) only)
        (omega (arith, now)) (
          ap (λ (v : State). v.calls) only,
          stays,
          (
            l.0,
            l.1,
            inr (
              about,
              grant,
              includes ∙ (λ i. record {
                act = act ((its_actor act paths c u b d s work waiting.path ∙ sym l.2) i);
                line = length p.lines + 1;
                grant = grant;
              } ∷ S.includes),
            ),
          ),
        ))
